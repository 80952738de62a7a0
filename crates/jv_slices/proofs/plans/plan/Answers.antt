use Rattle.std.proofs.Common.{◌≡◌, ◌+◌, ◌-◌, ◌<◌, List, [], ◌∷◌, ◌++◌, None, drop, get_or, refl, sym, ap, ◌∙◌, subst, arith}
use Rattle.std.specs.Prelude.{All}
use Rattle.std.proofs.lemmas.List.{append-nil}
use Rattle.std.proofs.lemmas.List.Elements.{All-push}
use Rattle.jv_model.specs.declared.slice.Piece.{Piece}
use Rattle.jv_model.specs.blocks.Slices.{IsPart, IsPlan, IsAsStored}
use Rattle.jv_model.specs.promise.blocks.Slices.{visible}
use Rattle.jv_slices.specs.declared.layout.Stretch.{Stretch}
use Rattle.jv_slices.specs.Stretches.{IsSeen, Shows, Turns, Differ, piece_of}
use Rattle.jv_slices.specs.Shown.{IsOfRecord, EndsBy}
use Rattle.jv_slices.proofs.StretchLaws.{shows_drop, shows_end}
use Rattle.jv_slices.proofs.PlanLaws.{stretch_seen_fits, plan_push, differ_drop, piece_from_stretch, as_stored_from_stretch, part_from_stretch, ends_from_stretch, named_from_stretch}
use Rattle.jv_slices.proofs.plans.plan.Goals as goal

pub piece-requires-clause-seen : goal.piece-requires-clause-seen
piece-requires-clause-seen c =
    let list = c.args.list.now in
    let stretches = c.as_slice-stretch-items.result.now in
    let d : Stretch = record { end = 0; seen = None } in
    let k = c.loop-stretch.stretch-index in
    stretch_seen_fits list c.loop-stretch.at c.args.to (get_or stretches k d) (drop (k + 1) stretches) c.requires.records
    (shows_drop (visible list) c.loop-stretch.at c.args.to stretches k d (omega arith) c.loop-stretch.invariant.left)

pub loop-stretch-preserved : goal.loop-stretch-preserved
loop-stretch-preserved c =
    let list = c.args.list.now in
    let stretches = c.as_slice-stretch-items.result.now in
    let d : Stretch = record { end = 0; seen = None } in
    let k = c.loop-stretch.stretch-index in
    let at = c.loop-stretch.at in
    let to = c.args.to in
    let stretch : Stretch = get_or stretches k d in
    let rest : List Stretch = drop (k + 1) stretches in
    let pieces = c.loop-stretch.pieces.items in
    let left : (at < stretch.end) × IsSeen (visible list) at stretch.end stretch.seen × Shows (visible list) stretch.end to rest = shows_drop (visible list) at to stretches k d (omega arith) c.loop-stretch.invariant.left in
    let differ : Turns stretch.seen rest × Differ rest = differ_drop stretches k d (omega arith) c.loop-stretch.invariant.differ in
    let new : c.push.new.self.items ≡ pieces ++ piece_of at stretch ∷ [] = c.in_ok-push.ensures.items ∙ ap (λ (p : Piece). pieces ++ p ∷ []) c.piece.ensures in
    let ends : at + (stretch.end - at) ≡ stretch.end = omega (arith, left.0) in
    record {
      left = left.2;
      differ = differ.1;
      plan = λ more goes_on. subst (λ (xs : List Piece). IsPlan list c.args.from to (xs ++ more)) (sym new)
          (plan_push list c.args.from at stretch.end to pieces (piece_of at stretch) c.loop-stretch.invariant.plan (piece_from_stretch list at to stretch rest left differ) refl ends more goes_on);
      says = subst (λ (xs : List Piece). All (IsAsStored list) xs) (sym new) (All-push (IsAsStored list) pieces (piece_of at stretch) c.loop-stretch.invariant.says (as_stored_from_stretch list at to stretch rest left));
      parts = subst (λ (xs : List Piece). All IsPart xs) (sym new) (All-push IsPart pieces (piece_of at stretch) c.loop-stretch.invariant.parts (part_from_stretch list at to stretch rest c.requires.records left));
      ends = subst (λ (xs : List Piece). All (EndsBy to) xs) (sym new) (All-push (EndsBy to) pieces (piece_of at stretch) c.loop-stretch.invariant.ends (ends_from_stretch list at to stretch rest left));
      named = subst (λ (xs : List Piece). All (IsOfRecord list) xs) (sym new) (All-push (IsOfRecord list) pieces (piece_of at stretch) c.loop-stretch.invariant.named (named_from_stretch list at to stretch rest left));
    }

pub returns-clause-plan : goal.returns-clause-plan
returns-clause-plan c =
    let list = c.args.list.now in
    let stretches = c.as_slice-stretch-items.result.now in
    let pieces = c.loop-stretch.pieces.items in
    let done = shows_end (visible list) c.loop-stretch.at c.args.to stretches c.loop-stretch.stretch-index (omega arith) c.loop-stretch.invariant.left in
    subst (λ (xs : List Piece). IsPlan list c.args.from c.args.to xs) (append-nil pieces ∙ sym c.from_vec.ensures) (c.loop-stretch.invariant.plan [] done)
