use Rattle.std.proofs.Common.{◌≡◌, ◌∙◌, [], ◌∷◌, ◌++◌, List, None, Some, cond, sym, ap}
use Rattle.std.specs.Global.{Vec}
use Rattle.std.specs.BTreeMap.{is_at}
use Rattle.std.specs.Map.{lookup}
use Rattle.jv_slices_reading.specs.declared.copying.Overlap.{Overlap}
use Rattle.jv_slices_reading.specs.Overlaps.{or_none, overlaps_under}
use Rattle.jv_slices_reading.proofs.OverlapLaws.{put_back}
use Rattle.jv_slices_reading.proofs.table.add_to_many.Goals as goal
use Rattle.jv_slices_reading.proofs.table.add_to_many.Goals.{in-Some, in-None}
use Rattle.jv_slices.specs.Listing.{ordered_of, ordered_cmp}
use Rattle.jv_slices.specs.declared.blocks.OrderedBlock.{OrderedBlock}

pub returns : goal.returns
returns c =
    let before = c.args.many.now.entries in
    let without = c.remove.new.self.entries in
    let after = c.insert.new.self.entries in
    let block = c.args.block in
    let key : c.key_of-key.result ≡ ordered_of block = c.key_of-key.ensures in
    let found : or_none c.remove.result ≡ overlaps_under before block =
    ap or_none c.remove.ensures.value ∙ ap (λ (k : OrderedBlock). or_none (lookup (is_at (ordered_cmp k)) before)) key in
    let was : c.match-remove.overlaps.items ≡ overlaps_under before block =
    elim c.match-remove.branch [
      | in-Some w ↦ (ap (λ (v : Vec Overlap). v.items) w.overlaps-is ∙ ap or_none (sym w.in-Some.is) ∙ found)
      | in-None w ↦ (ap (λ (v : Vec Overlap). v.items) w.overlaps-is ∙ w.new-overlaps.ensures.items ∙ ap or_none (sym w.in-None.is) ∙ found)
    ] in
    put_back before without after block c.args.overlap c.push.new.self
    (c.in_ok-push.ensures.items ∙ ap (λ (os : List Overlap). os ++ c.args.overlap ∷ []) was)
    (λ q. c.remove.ensures.updates.0 q ∙ ap (λ (k : OrderedBlock). cond (is_at (ordered_cmp k) q) None (lookup (is_at (ordered_cmp q)) before)) key)
    (λ q. c.in_ok-insert.ensures.updates.0 q ∙ ap (λ (k : OrderedBlock). cond (is_at (ordered_cmp k) q) (Some c.push.new.self) (lookup (is_at (ordered_cmp q)) without)) key)
