-- The text of a name in the trash, as it is written part by part.
use Rattle.std.proofs.Common.{◌≡◌, ℕ, List, [], ◌∷◌, ◌++◌, take, decimal, ap, sym, ◌∙◌}
use Rattle.std.proofs.lemmas.List.{append_assoc}
use Rattle.jv_model.specs.declared.limits.TheConstants.{MAX_NAME}
use Rattle.jv_model.specs.promise.tree.Trash.{trash_name}

parts : (a b c : List ℕ) → (((a ++ 45 ∷ []) ++ b) ++ 45 ∷ []) ++ c ≡ a ++ 45 ∷ b ++ 45 ∷ c
parts a b c =
    append_assoc ((a ++ 45 ∷ []) ++ b) (45 ∷ []) c ∙ append_assoc (a ++ 45 ∷ []) b (45 ∷ c)
    ∙ append_assoc a (45 ∷ []) (b ++ 45 ∷ c)
    ∙ sym (append_assoc a (45 ∷ b) (45 ∷ c))

pub trash_text : (dir inode : ℕ) (name : List ℕ)
    → take MAX_NAME ((((decimal dir ++ 45 ∷ []) ++ decimal inode) ++ 45 ∷ []) ++ name) ≡ trash_name
    (record { dir = dir; name = name }) inode
unfolding trash_name
trash_text dir inode name = ap (take MAX_NAME) (parts (decimal dir) (decimal inode) name)
