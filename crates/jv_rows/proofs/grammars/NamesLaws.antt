-- The names of a path, found byte by byte.
use Rattle.std.proofs.Common.{◌≡◌, ℕ, Bool, true, false, List, [], ◌∷◌, ◌++◌, Some, refl, sym, ap, ◌∙◌, append_assoc, append-nil}
use Rattle.std.specs.Prelude.{if◌then◌else◌, ◌==◌}
use Rattle.std.specs.List.{onto_first}
use Rattle.jv_model.specs.promise.tree.Walk.{names_of, all_but_last, only_names}
use Rattle.jv_model.specs.promise.Lists.{parted, last_item}
use Rattle.jv_rows.specs.Walks.{one_name}
use Rattle.jv_model.proofs.ListLaws.{last_end}

-- the names of a path that is left, behind the part of a name
abbrev pub names_from : List ℕ → List ℕ → List (List ℕ)
names_from name [] = one_name name
names_from name (b ∷ bs) = (if b == 47 then one_name name ++ names_from [] bs else names_from (name ++ b ∷ []) bs)

-- parts, the first of which goes on from the part of a name
abbrev joined : List ℕ → List (List ℕ) → List (List ℕ)
joined name [] = name ∷ []
joined name (part ∷ parts) = (name ++ part) ∷ parts

nothing_joined : (parts : List (List ℕ)) → only_names (joined [] parts) ≡ only_names parts
nothing_joined [] = refl
nothing_joined (part ∷ parts) = refl

joined_byte : (name : List ℕ) (b : ℕ) (parts : List (List ℕ)) → joined name (onto_first b parts) ≡ joined (name ++ b ∷ []) parts
joined_byte name b [] = refl
joined_byte name b (part ∷ parts) = ap (λ first. first ∷ parts) (sym (append_assoc name (b ∷ []) part))

first_name : (name : List ℕ) (parts : List (List ℕ)) → only_names (name ∷ parts) ≡ one_name name ++ only_names parts
first_name [] parts = refl
first_name (b ∷ bs) parts = refl

from_byte : (name : List ℕ) (b : ℕ) (bs : List ℕ) (slash : Bool) → ((n : List ℕ) → only_names (joined n (parted 47 bs)) ≡ names_from n bs)
    → only_names (joined name (if slash then [] ∷ parted 47 bs else onto_first b (parted 47 bs)))
    ≡ (if slash then one_name name ++ names_from [] bs else names_from (name ++ b ∷ []) bs)
from_byte name b bs true rest =
    ap (λ n. only_names (n ∷ parted 47 bs)) (append-nil name) ∙ first_name name (parted 47 bs)
    ∙ ap (λ names. one_name name ++ names) (sym (nothing_joined (parted 47 bs)) ∙ rest [])
from_byte name b bs false rest = ap only_names (joined_byte name b (parted 47 bs)) ∙ rest (name ++ b ∷ [])

from_parts : (bs : List ℕ) (name : List ℕ) → only_names (joined name (parted 47 bs)) ≡ names_from name bs
from_parts [] name = ap one_name (append-nil name)
from_parts (b ∷ bs) name = from_byte name b bs (b == 47) (from_parts bs)

-- a path's names are those that are found from its first byte on
pub names_from_start : (path : List ℕ) → names_from [] path ≡ names_of path
names_from_start path = sym (from_parts path []) ∙ nothing_joined (parted 47 path)

-- ---- the last name

pub last_name_is : {all : List (List ℕ)} (names : List (List ℕ)) (name : List ℕ) → all ≡ names ++ name ∷ [] → last_item all ≡ Some name
last_name_is names name is = ap last_item is ∙ last_end names name

others_in : (names : List (List ℕ)) (name : List ℕ) → all_but_last (names ++ name ∷ []) ≡ names
others_in [] name = refl
others_in (first ∷ []) name = refl
others_in (first ∷ second ∷ names) name = ap (λ others. first ∷ others) (others_in (second ∷ names) name)

pub other_names_are : {all : List (List ℕ)} (names : List (List ℕ)) (name : List ℕ) → all ≡ names ++ name ∷ [] → all_but_last all ≡ names
other_names_are names name is = ap all_but_last is ∙ others_in names name
