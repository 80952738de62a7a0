-- Which line each entry of a journal belongs to.
use Rattle.std.proofs.Common.{◌≡◌, ℕ, ◌+◌, ◌≤◌, ◌<◌, leb, false, MatchBool, List, [], ◌∷◌, ◌++◌, inl, inr, refl, ap, subst, ◌∙◌, arith}
use Rattle.std.proofs.lemmas.Bool.{le-leb, lt-leb, cond-true, cond-false, cases_eq}
use Rattle.std.proofs.lemmas.List.{append-nil}
use Rattle.std.proofs.lemmas.List.Elements.{filter-append}
use Rattle.jv_model.specs.declared.act.Act.{Act}
use Rattle.jv_model.specs.promise.journal.Legal.{Allowed, AllAllowed, OfLine, OfWorker}
use Rattle.jv_model.specs.promise.journal.Past.{Past, NoMore, is_workers, begun_to, advance, past}
use Rattle.jv_model_laws.proofs.JournalGrowthLaws.{line_of_advance, begun_to-begun}
use Rattle.jv_cmd.specs.promise.Run.{up_to}
use Rattle.jv_cmd.specs.Steps.{AreBetween}
use Rattle.jv_cmd.proofs.runs.StepLaws.{low}

-- the lines of entries that are allowed never fall
rises : (p : Past) (acts : List Act) → AllAllowed p acts → p.line ≤ (past p acts).line
rises p [] allowed = omega arith
rises p (act ∷ acts) allowed =
    let later = rises (advance p act) acts allowed.1 in
    let here = line_of_advance p act allowed.0 in
    let below = low act.line p allowed.0.line in
    omega (arith, later, here, below)

between : (p : Past) (acts : List Act) (n high : ℕ) → AllAllowed p acts → n ≤ p.line → (past p acts).line ≤ high → AreBetween n high acts
between p [] n high allowed above below = tt
between p (act ∷ acts) n high allowed above below =
    let here = line_of_advance p act allowed.0 in
    let before = low act.line p allowed.0.line in
    let after = rises (advance p act) acts allowed.1 in
    (omega (arith, above, before), omega (arith, here, after, below), between (advance p act) acts n high allowed.1 (omega (arith, above, before, here)) below)

not_present : (p : Past) (act : Act) → p.due ≡ NoMore → is_workers p ≡ false → Allowed (begun_to act.line p) act → act.line ≡ p.line → ⊥
not_present p act none alone allowed e =
    let here = subst (λ q. Allowed q act) (begun_to-begun act.line p (omega (arith, e))) allowed in
    let own = subst (λ worker. MatchBool worker (OfWorker p act) (OfLine p act p.due)) alone here.stands in
    subst (λ due. OfLine p act due) none own

-- the entries that take a run from a line that may have no more to the next one are of that line
pub AreBetween-own : (n : ℕ) (p : Past) (acts : List Act) → p.line ≡ n → p.due ≡ NoMore → is_workers p ≡ false → AllAllowed p acts → (begun_to (n + 1) (past p acts)).line ≡ n + 1
    → AreBetween (n + 1) (n + 1) acts
AreBetween-own n p [] here none alone allowed end = tt
AreBetween-own n p (act ∷ acts) here none alone allowed end =
    let last = low (n + 1) (past p (act ∷ acts)) end in
    let later : n + 1 ≤ act.line = elim (cases_eq act.line p.line) [
      | inl e ↦ absurd (not_present p act none alone allowed.0 e)
      | inr apart ↦ let below = low act.line p allowed.0.line in omega (arith, here, apart, below)
    ] in
    let next = line_of_advance p act allowed.0 in
    let rest = rises (advance p act) acts allowed.1 in
    (later, omega (arith, next, rest, last), between (advance p act) acts (n + 1) (n + 1) allowed.1 (omega (arith, later, next)) last)

pub AreBetween-append : (n high : ℕ) (xs ys : List Act) → AreBetween n high xs → AreBetween n high ys → AreBetween n high (xs ++ ys)
AreBetween-append n high [] ys p q = q
AreBetween-append n high (x ∷ xs) ys p q = (p.0, p.1, AreBetween-append n high xs ys p.2 q)

pub AreBetween-wider : (n high m higher : ℕ) (xs : List Act) → m ≤ n → high ≤ higher → AreBetween n high xs → AreBetween m higher xs
AreBetween-wider n high m higher [] a b p = tt
AreBetween-wider n high m higher (x ∷ xs) a b p = (omega (arith, p.0), omega (arith, p.1), AreBetween-wider n high m higher xs a b p.2)

pub up_to-all : (n high k : ℕ) (xs : List Act) → high ≤ k → AreBetween n high xs → up_to k xs ≡ xs
up_to-all n high k [] a p = refl
up_to-all n high k (x ∷ xs) a p =
    cond-true (leb x.line k) (x ∷ up_to k xs) (up_to k xs) (le-leb x.line k (omega (arith, p.1))) ∙ ap (λ (acts : List Act). x ∷ acts) (up_to-all n high k xs a p.2)

up_to-none : (n high k : ℕ) (xs : List Act) → k < n → AreBetween n high xs → up_to k xs ≡ []
up_to-none n high k [] a p = refl
up_to-none n high k (x ∷ xs) a p =
    cond-false (leb x.line k) (x ∷ up_to k xs) (up_to k xs) (lt-leb x.line k (omega (arith, p.0))) ∙ up_to-none n high k xs a p.2

-- later entries don't count
pub up_to-front : (n k : ℕ) (journal acts : List Act) → k ≤ n → AreBetween (n + 1) (n + 1) acts → up_to k (journal ++ acts) ≡ up_to k journal
up_to-front n k journal acts small own =
    filter-append (λ (act : Act). leb act.line k) journal acts ∙ ap (λ (rest : List Act). up_to k journal ++ rest) (up_to-none (n + 1) (n + 1) k acts (omega arith) own) ∙ append-nil (up_to k journal)
