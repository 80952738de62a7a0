use Rattle.std.proofs.Common.{◌≡◌, ◌<◌, ◌≤◌, ◌∙◌, List, length, Option, None, Some, ap, sym, subst, ⊎_elim}
use Rattle.std.specs.Prelude.{IsSome}
use Rattle.std.specs.Borrow.{Bor}
use Rattle.std.specs.Option.{option_copied}
use Rattle.std.proofs.lemmas.Bool.{cases_lt}
use Rattle.std.proofs.lemmas.List.{drop_all}
use Rattle.jv_model.specs.declared.slice.BlockId.{BlockId}
use Rattle.jv_slices_reading.specs.Parts.{Part}
use Rattle.jv_slices_reading.proofs.window.WindowRead.next.Goals as goal

copied_none : (found : Option (Bor BlockId)) → option_copied found ≡ None → IsSome found → ⊥
copied_none None none some = cc
copied_none (Some b) none some = cc

pub returns-clause-none : goal.returns-clause-none
returns-clause-none c = λ none.
    let needed = c.self.inside.needed.items in
    let filled = c.self.inside.filled in
    ⊎_elim (λ (below : filled < length needed).
    absurd (copied_none c.get.result (sym c.copied.ensures ∙ none)
    (c.get.ensures.lookup.2 (subst (λ (bs : List BlockId). filled < length bs) (sym c.deref.ensures.value) below))))
    (λ (past : length needed ≤ filled). sym (ap (λ (p : Part). p.left) c.self.view_is) ∙ drop_all filled needed past)
    (cases_lt filled (length needed))
