-- The last name of a path without the byte 0 may stand in an entry.
use Rattle.std.proofs.Common.{◌≡◌, ℕ, Bool, true, false, not, ◌&&◌, ◌||◌, ◌==◌, List, [], ◌∷◌, length, Some, Ok, refl, sym, ap, subst, ◌∙◌, arith}
use Rattle.std.specs.Prelude.{nat_le, is_some, if◌then◌else◌}
use Rattle.std.specs.List.{list_all, onto_first}
use Rattle.std.proofs.lemmas.Bool.{and_parts, and_from, le-leb, false≢true}
use Rattle.jv_model.specs.declared.limits.TheConstants.{MAX_NAME, MAX_PATH}
use Rattle.jv_model.specs.declared.fault.Fault.TheVariants.{AlreadyExists, Invalid, NameTooLong, NotADirectory, NotPermitted}
use Rattle.jv_model.specs.promise.FiniteMap.{get}
use Rattle.jv_model.specs.promise.tree.Attempt.{◌>>=◌, require, some_or}
use Rattle.jv_model.specs.promise.tree.Tree.{Tree, EntryKey, is_directory}
use Rattle.jv_model.specs.promise.tree.Walk.{is_dot, is_dot_dot, names_of, entry_of, only_names}
use Rattle.jv_model.specs.promise.tree.Making.{may_be_new, new_place}
use Rattle.jv_model.specs.promise.Lists.{is_nil, parted, last_item, has_no_zero}
use Rattle.jv_volume.specs.promise.TypedRows.{is_entry_name}
use Rattle.jv_volume.proofs.shapes.WalkShapeLaws.{went_on, required, was_some, above, of_dir, of_length, of_name}
use Rattle.jv_model.proofs.TestLaws.{same_Ok}

-- no slash, and no byte 0
abbrev is_plain : List ℕ → Bool
is_plain name = list_all (λ b. not (b == 47 || b == 0)) name

abbrev all_plain : List (List ℕ) → Bool
all_plain parts = list_all is_plain parts

plain_part : (b : ℕ) (parts : List (List ℕ)) → not (b == 47 || b == 0) ≡ true → all_plain parts ≡ true → all_plain (onto_first b parts) ≡ true
plain_part b [] is h = and_from _ _ (and_from _ _ is refl) refl
plain_part b (part ∷ parts) is h = (let both = and_parts (is_plain part) (all_plain parts) h in and_from _ _ (and_from _ _ is both.0) both.1)

plain_step : (b : ℕ) (parts : List (List ℕ)) (slash : Bool) → (b == 47) ≡ slash → not (b == 0) ≡ true → all_plain parts ≡ true
    → all_plain (if slash then [] ∷ parts else onto_first b parts) ≡ true
plain_step b parts true e is h = h
plain_step b parts false e is h = plain_part b parts (ap (λ x. not (x || (b == 0))) e ∙ is) h

-- the parts of a path have no slash
plain_parts : (path : List ℕ) → has_no_zero path ≡ true → all_plain (parted 47 path) ≡ true
plain_parts [] h = refl
plain_parts (b ∷ bs) h =
    let both = and_parts (not (b == 0)) (has_no_zero bs) h in
    plain_step b (parted 47 bs) (b == 47) refl both.0 (plain_parts bs both.1)

-- a name has a byte or more
abbrev is_name : List ℕ → Bool
is_name name = not (is_nil name) && is_plain name

abbrev all_names : List (List ℕ) → Bool
all_names names = list_all is_name names

names_step : (part : List ℕ) (rest : List (List ℕ)) (full : Bool) → not (is_nil part) ≡ full → is_plain part ≡ true → all_names rest ≡ true
    → all_names (if full then part ∷ rest else rest) ≡ true
names_step part rest true e is h = and_from _ _ (and_from _ _ e is) h
names_step part rest false e is h = h

names_filter : (parts : List (List ℕ)) → all_plain parts ≡ true → all_names (only_names parts) ≡ true
names_filter [] h = refl
names_filter (part ∷ parts) h =
    let both = and_parts (is_plain part) (all_plain parts) h in
    names_step part (only_names parts) (not (is_nil part)) refl both.0 (names_filter parts both.1)

last_is : (names : List (List ℕ)) (name : List ℕ) → all_names names ≡ true → last_item names ≡ Some name → is_name name ≡ true
last_is [] name h e = absurd (cc)
last_is (first ∷ []) name h e = (let same : first ≡ name = cc in subst (λ n. is_name n ≡ true) same (and_parts (is_name first) true h).0)
last_is (first ∷ second ∷ names) name h e = last_is (second ∷ names) name (and_parts (is_name first) (all_names (second ∷ names)) h).1 e

some_byte : (name : List ℕ) → not (is_nil name) ≡ true → nat_le 1 (length name) ≡ true
some_byte [] h = absurd (false≢true h)
some_byte (b ∷ bs) h = le-leb 1 (length (b ∷ bs)) (omega arith)

entry_name : (name : List ℕ) → is_name name ≡ true → nat_le (length name) MAX_NAME ≡ true → is_entry_name name ≡ true
entry_name name is short =
    let both = and_parts (not (is_nil name)) (is_plain name) is in
    λ i. some_byte name both.0 i && short i && both.1 i

module _ (t : Tree) (path : List ℕ) (plain : has_no_zero path ≡ true) where
  -- the name of a path's entry
  pub entry_of-name : (place : EntryKey) → entry_of t path ≡ Ok place → is_entry_name place.name ≡ true
  entry_of-name place h =
      let short = went_on (require (nat_le (length path) MAX_PATH) NameTooLong) (λ _. some_or (last_item (names_of path)) Invalid >>= (of_name t path)) place h in
      let name = went_on (some_or (last_item (names_of path)) Invalid) (of_name t path) place short.2 in
      let dots = went_on (require (not (is_dot name.0 || is_dot_dot name.0)) Invalid) (λ _. (above t path) >>= of_dir t path name.0) place name.2 in
      let dir = went_on (above t path) (of_dir t path name.0) place dots.2 in
      let within = went_on (require (is_directory t dir.0) NotADirectory) (λ _. of_length t path name.0 dir.0) place dir.2 in
      let fits = went_on (require (nat_le (length name.0) MAX_NAME) NameTooLong) (λ _. Ok (record { dir = dir.0; name = name.0 })) place within.2 in
      let same : record { dir = dir.0; name = name.0 } ≡ place = same_Ok _ place fits.2 in
      let last = last_is (names_of path) name.0 (names_filter (parted 47 path) (plain_parts path plain)) (was_some _ Invalid name.0 name.1) in
      ap (λ (p : EntryKey). is_entry_name p.name) (sym same) ∙ entry_name name.0 last (required _ NameTooLong fits.0 fits.1)

  -- the name of a new entry
  pub new_place-name : (place : EntryKey) → new_place t path ≡ Ok place → is_entry_name place.name ≡ true
  new_place-name place h =
      let free_at = λ (p : EntryKey). require (not (is_some (get t.entries p))) AlreadyExists >>= (λ _. Ok p) in
      let at = went_on (entry_of t path) (λ p. require (may_be_new p) NotPermitted >>= (λ _. free_at p)) place h in
      let may = went_on (require (may_be_new at.0) NotPermitted) (λ _. free_at at.0) place at.2 in
      let free = went_on (require (not (is_some (get t.entries at.0))) AlreadyExists) (λ _. Ok at.0) place may.2 in
      ap (λ (p : EntryKey). is_entry_name p.name) (sym (same_Ok at.0 place free.2)) ∙ entry_of-name at.0 at.1
