-- Words that are joined by spaces are the words of that text, and none of its bytes is a line feed.
use Rattle.std.proofs.Common.{◌≡◌, ℕ, ◌+◌, ◌*◌, ◌≤◌, ◌==◌, nat_lt, Bool, true, false, List, [], ◌∷◌, length, refl, ap, ◌∙◌, arith}
use Rattle.std.specs.Prelude.{All}
use Rattle.std.specs.List.{AllByRecursion, join_with_byte, list_all}
use Rattle.std.proofs.lemmas.Bool.{ltb-true, ne_eqb, or_from}
use Rattle.std.proofs.lemmas.List.{length-append}
use Rattle.std.proofs.lemmas.List.Elements.{All-weaker}
use Rattle.std.proofs.lemmas.List.Folds.{list_any-append, list_any_none}
use Rattle.std.proofs.lemmas.List.Splits.{slice_split_at, slice_split_none}
use Rattle.std.proofs.lemmas.List.Sums.{AllPass-from_list_all}
use Rattle.jv_model.specs.promise.script.Spelling.{words}
use Rattle.jv_cmd.specs.Texts.{has_feed}
use Rattle.jv_cmd.specs.promise.Texts.{is_feed}

-- all bytes are past this one
abbrev pub are_past : ℕ → List ℕ → Bool
are_past low text = list_all (λ c. nat_lt low c) text

-- a word of a drawn script: no byte of it is a space or before it
pub record IsWord (word : List ℕ) : Type 0 where
  pub bytes : are_past 32 word ≡ true
  pub short : length word ≤ 24

abbrev pub AreWords : List (List ℕ) → Type 0
AreWords words = AllByRecursion IsWord words

-- none of them is one up to there
pub lacks : (byte low : ℕ) (text : List ℕ) → byte ≤ low → are_past low text ≡ true → All (λ c. (c == byte) ≡ false) text
lacks byte low text few all =
    All-weaker (λ c. nat_lt low c ≡ true) (λ c. (c == byte) ≡ false)
    (λ c past. ne_eqb c byte (λ same. omega (arith, ltb-true low c past, same, few))) text
    (AllPass-from_list_all (λ c. nat_lt low c) text all)

pub words_joined : (word : List ℕ) (others : List (List ℕ)) → IsWord word → AreWords others
    → words (join_with_byte 32 (word ∷ others)) ≡ word ∷ others
words_joined word [] is are = slice_split_none (λ c. c == 32) word (lacks 32 32 word (omega arith) is.bytes)
words_joined word (next ∷ others) is are =
    slice_split_at (λ c. c == 32) word 32 (join_with_byte 32 (next ∷ others))
    (lacks 32 32 word (omega arith) is.bytes) refl
    ∙ ap (λ (ws : List (List ℕ)). word ∷ ws) (words_joined next others are.0 are.1)

pub no_feed_joined : (word : List ℕ) (others : List (List ℕ)) → IsWord word → AreWords others
    → has_feed (join_with_byte 32 (word ∷ others)) ≡ false
no_feed_joined word [] is are = list_any_none is_feed word (lacks 10 32 word (omega arith) is.bytes)
no_feed_joined word (next ∷ others) is are =
    list_any-append is_feed word (32 ∷ join_with_byte 32 (next ∷ others))
    ∙ or_from (has_feed word) (has_feed (join_with_byte 32 (next ∷ others)))
    (list_any_none is_feed word (lacks 10 32 word (omega arith) is.bytes)) (no_feed_joined next others are.0 are.1)

pub length_joined : (word : List ℕ) (others : List (List ℕ)) → IsWord word → AreWords others
    → length (join_with_byte 32 (word ∷ others)) ≤ 24 + 25 * length others
length_joined word [] is are = omega (arith, is.short)
length_joined word (next ∷ others) is are =
    let rest = join_with_byte 32 (next ∷ others) in
    omega (arith, is.short, length-append word (32 ∷ rest), length_joined next others are.0 are.1)
