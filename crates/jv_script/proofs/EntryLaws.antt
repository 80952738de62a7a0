-- Joined texts from the first on.
use Rattle.std.proofs.Common.{◌≡◌, ℕ, length, arith, List, [], ◌∷◌, ◌++◌, map, refl, sym, ap}
use Rattle.std.specs.Prelude.{codes}
use Rattle.std.specs.List.{flat_map, join_with_byte}
use Rattle.std.proofs.lemmas.List.{append-nil}
use Rattle.jv_model.specs.promise.script.ReplyText.{entry_text, entries_text}

joined : (entry : List ℕ × ℕ) (entries : List (List ℕ × ℕ)) → join_with_byte 32 (map entry_text (entry ∷ entries)) ≡ entry_text entry ++ flat_map (λ e. 32 ∷ entry_text e) entries
joined entry [] = sym (append-nil (entry_text entry))
joined entry (next ∷ entries) = ap (λ (text : List ℕ). entry_text entry ++ 32 ∷ text) (joined next entries)

pub entries_text_empty : (entries : List (List ℕ × ℕ)) → length entries ≡ 0 → entries_text entries ≡ codes "-"
unfolding entries_text
entries_text_empty [] none = refl
entries_text_empty (entry ∷ entries) none = absurd (omega arith)

pub entries_text_cons : (entry : List ℕ × ℕ) (entries : List (List ℕ × ℕ)) → entries_text (entry ∷ entries) ≡ entry_text entry ++ flat_map (λ e. 32 ∷ entry_text e) entries
unfolding entries_text
entries_text_cons entry entries = joined entry entries
