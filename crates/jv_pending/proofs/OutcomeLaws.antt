-- What is known of an outcome.
use Rattle.std.proofs.Common.{◌≡◌, true, ℕ, List, Option, Some, None, is_some, Result, Ok, Err, OnOk, OnErr, Bor, refl}
use Rattle.std.proofs.lemmas.Option.{none-some}
use Rattle.std.specs.Option.{option_copied}

pub map_ok : {T E : Type 0} (r : Result T E) (P Q : Type 0) → (P → Q) → OnOk r P → OnOk r Q
map_ok (Ok x) P Q f h = f h
map_ok (Err e) P Q f h = h

pub map_err : {T E : Type 0} (r : Result T E) (P Q : Type 0) → (P → Q) → OnErr r P → OnErr r Q
map_err (Ok x) P Q f h = h
map_err (Err e) P Q f h = f h

pub some_copied : (o : Option (Bor (List ℕ))) (v : List ℕ) → option_copied o ≡ Some v → is_some o ≡ true
some_copied None v h = absurd (none-some v h)
some_copied (Some x) v h = refl
