-- What only inner contracts cite: of `promise/Optional`.
use Rattle.std.specs.Prelude.{Result, Ok, Err}

-- the value of an answer changed, or its fault
abbrev pub mapped : {A B E : Type 0} → (A → B) → Result A E → Result B E
mapped f (Ok x) = Ok (f x)
mapped f (Err fault) = Err fault
