-- The text of a drawn script, line by line, and the totals of its answers, one by one.
use Rattle.std.proofs.Common.{◌≡◌, ℕ, zero, suc, ◌+◌, ◌-◌, ◌<◌, List, [], ◌∷◌, ◌++◌, length, take, drop, fold, if◌then◌else◌, is_some, Option, None, Some, slice_get, refl, sym, ap, ◌∙◌, arith}
use Rattle.std.specs.List.{flat_map, position}
use Rattle.std.proofs.lemmas.List.{append_assoc, append-nil, length-drop, take_all, drop_all}
use Rattle.jv_model.specs.declared.op.Line.{Line}
use Rattle.jv_script_drawn.specs.declared.accesses.TheConstants.{LINES}
use Rattle.jv_script_drawn.specs.Script.{Drawn}
use Rattle.jv_script_drawn.specs.promise.Script.{script}
use Rattle.jv_script_drawn.specs.promise.Summary.{TotalsValue, with_reply}
use Rattle.jv_script_drawn.proofs.ScriptLaws.{script_length}
use Rattle.jv_cmd.specs.promise.Generating.{line_text, replies_said, reply_said, script_text}
use Rattle.jv_cmd.specs.promise.Texts.{is_feed, texts_of}
use Rattle.jv_cmd.proofs.asked.TextLaws.{around_feed, no_feed, texts_of-feed, texts_of-last}

-- the generator's next line
pub next_line : (seed : ℕ) (before after : Drawn) (found : Option Line) (line : Line) → before.seed ≡ seed
    → found ≡ slice_get (script before.seed) before.given
    → after ≡ record before { given = before.given + (if is_some found then 1 else 0) } → found ≡ Some line
    → (after.seed ≡ seed) × (after.given ≡ before.given + 1) × (slice_get (script seed) before.given ≡ Some line)
next_line seed before after found line same at grows is = (
  ap (λ (d : Drawn). d.seed) grows ∙ same,
  ap (λ (d : Drawn). d.given) grows ∙ ap (λ (o : Option Line). before.given + (if is_some o then 1 else 0)) is,
  ap (λ (s : ℕ). slice_get (script s) before.given) (sym same) ∙ sym at ∙ is,
)

-- ==== the text ====

text_next : (lines : List Line) (k : ℕ) (line : Line) → slice_get lines k ≡ Some line
    → flat_map line_text (take (suc k) lines) ≡ flat_map line_text (take k lines) ++ line_text line
text_next [] k line e = cc
text_next (x ∷ xs) zero line e = (let same : x ≡ line = cc in append-nil (line_text x) ∙ ap line_text same)
text_next (x ∷ xs) (suc k) line e =
    ap (λ (rest : List ℕ). line_text x ++ rest) (text_next xs k line e)
    ∙ sym (append_assoc (line_text x) (flat_map line_text (take k xs)) (line_text line))

-- one line more
pub text_more : (text now : List ℕ) (lines : List Line) (k n : ℕ) (line : Line) → slice_get lines k ≡ Some line → n ≡ k + 1
    → text ≡ flat_map line_text (take k lines) → now ≡ text ++ line_text line → now ≡ flat_map line_text (take n lines)
text_more text now lines k n line e next is grows =
    let place : suc k ≡ n = omega (arith, next) in
    grows ∙ ap (λ (t : List ℕ). t ++ line_text line) is ∙ sym (text_next lines k line e)
    ∙ ap (λ (i : ℕ). flat_map line_text (take i lines)) place

-- and after the last one it is whole
pub text_whole : (seed : ℕ) (text : List ℕ) (given : ℕ) → given ≡ LINES → text ≡ flat_map line_text (take given (script seed))
    → text ≡ script_text seed
unfolding script_text
text_whole seed text given end is =
    is ∙ ap (λ (ls : List Line). flat_map line_text ls) (take_all given (script seed) (omega (arith, end, script_length seed)))

-- ==== the answers ====

-- the totals after the answers to the lines from a place on
abbrev pub totals_from : TotalsValue → ℕ → ℕ → List ℕ → TotalsValue
totals_from t seed k said = fold with_reply t (replies_said (drop k (script seed)) (texts_of said))

drop_next : (lines : List Line) (k : ℕ) (line : Line) → slice_get lines k ≡ Some line → drop k lines ≡ line ∷ drop (suc k) lines
drop_next [] k line e = cc
drop_next (x ∷ xs) zero line e = (let same : x ≡ line = cc in ap (λ (l : Line). l ∷ xs) same)
drop_next (x ∷ xs) (suc k) line e = drop_next xs k line e

-- one answer more
pub totals_more : (t : TotalsValue) (seed k n : ℕ) (line : Line) (said answer after : List ℕ) → slice_get (script seed) k ≡ Some line
    → n ≡ k + 1 → texts_of said ≡ answer ∷ texts_of after
    → totals_from t seed k said ≡ totals_from (with_reply t (reply_said line answer)) seed n after
totals_more t seed k n line said answer after e next is =
    let place : suc k ≡ n = omega (arith, next) in
    ap (λ (ls : List Line). fold with_reply t (replies_said ls (texts_of said))) (drop_next (script seed) k line e)
    ∙ ap (λ (ts : List (List ℕ)). fold with_reply t (replies_said (line ∷ drop (suc k) (script seed)) ts)) is
    ∙ ap (λ (i : ℕ). fold with_reply (with_reply t (reply_said line answer)) (replies_said (drop i (script seed)) (texts_of after))) place

replies_none : (lines : List Line) → replies_said lines [] ≡ []
replies_none [] = refl
replies_none (line ∷ lines) = refl

-- no answer is left
pub totals_answered : (t : TotalsValue) (seed k : ℕ) (said : List ℕ) → texts_of said ≡ [] → totals_from t seed k said ≡ t
totals_answered t seed k said none =
    ap (λ (ts : List (List ℕ)). fold with_reply t (replies_said (drop k (script seed)) ts)) none
    ∙ ap (λ rs. fold with_reply t rs) (replies_none (drop k (script seed)))

-- or no line
pub totals_whole : (t : TotalsValue) (seed k : ℕ) (said : List ℕ) → k ≡ LINES → totals_from t seed k said ≡ t
totals_whole t seed k said end =
    ap (λ (ls : List Line). fold with_reply t (replies_said ls (texts_of said)))
    (drop_all k (script seed) (omega (arith, end, script_length seed)))

-- ==== the first answer ====

pub first_answer : (said : List ℕ) (k : ℕ) → position is_feed said ≡ Some k → texts_of said ≡ take k said ∷ texts_of (drop (k + 1) said)
first_answer said k e =
    let around = around_feed said k e in
    ap texts_of around.2 ∙ texts_of-feed (take k said) (drop (k + 1) said) around.1

-- with what follows it, as a part of the text
pub first_rest : (said : List ℕ) (k : ℕ) → position is_feed said ≡ Some k
    → texts_of said ≡ take k said ∷ texts_of (take (length said - (k + 1)) (drop (k + 1) said))
first_rest said k e =
    first_answer said k e
    ∙ ap (λ (rest : List ℕ). take k said ∷ texts_of rest)
    (sym (take_all (length said - (k + 1)) (drop (k + 1) said) (omega (arith, length-drop (k + 1) said))))

pub only_answer : (said : List ℕ) → position is_feed said ≡ None → 0 < length said → texts_of said ≡ said ∷ texts_of []
only_answer said e some = texts_of-last said (no_feed said e) some
