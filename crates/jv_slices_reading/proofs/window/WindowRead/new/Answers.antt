use Rattle.std.proofs.Common.{◌≡◌, ◌+◌, ◌-◌, ◌≤◌, ◌∙◌, List, length, sym, subst, arith}
use Rattle.std.specs.Prelude.{All}
use Rattle.jv_model.specs.declared.slice.BlockId.{BlockId}
use Rattle.jv_model.specs.declared.slice.Rec.{Rec}
use Rattle.jv_model.specs.blocks.Slices.{needed_blocks}
use Rattle.jv_model.specs.promise.blocks.Slices.{stored_place}
use Rattle.jv_slices.proofs.NeedLaws.{needs_are_few}
use Rattle.jv_slices_reading.specs.Overlaps.{HasOverlaps, overlaps_at}
use Rattle.jv_slices_reading.specs.Parts.{IsNamed, ReadsAs}
use Rattle.jv_slices_reading.proofs.OverlapLaws.{plan_begins}
use Rattle.jv_slices_reading.proofs.AlongLaws.{plan_needs}
use Rattle.jv_slices_reading.proofs.PartLaws.{needed_All, pieces_named, reads_none}
use Rattle.jv_slices_reading.proofs.window.WindowRead.new.Goals as goal

pub table_of-requires-clause-begins : goal.table_of-requires-clause-begins
table_of-requires-clause-begins c = plan_begins c.args.list.now c.args.from c.args.to c.args.from c.in_ok-pieces.pieces (omega arith) c.in_ok-pieces.ensures.plan

pub invariant_of-result : goal.invariant_of-result
invariant_of-result c =
    let list = c.args.list.now in
    let from = c.args.from in
    let to = c.args.to in
    let block = c.args.block in
    let pieces = c.in_ok-pieces.pieces in
    let seen : list ≡ c.of.result.value = sym c.of.ensures in
    let needed : needed_blocks block pieces ≡ c.into_vec-needed.result.items = sym (c.into_vec-needed.ensures ∙ c.in_ok-needs.ensures) in
    let named : All (IsNamed list block) (needed_blocks block pieces) =
    needed_All (IsNamed list block) block pieces (pieces_named list block pieces c.requires.some c.in_ok-pieces.ensures.parts c.in_ok-pieces.ensures.named) in
    let named' : All (IsNamed list block) c.into_vec-needed.result.items = subst (λ (bs : List BlockId). All (IsNamed list block) bs) needed named in
    record {
      long = c.in_ok-bytes.ensures.length;
      named = subst (λ (records : List Rec). All (IsNamed records block) c.into_vec-needed.result.items) seen named';
      has = subst (λ (records : List Rec). HasOverlaps block (λ n. stored_place records (from + n)) (to - from) (to - from) (overlaps_at c.in_ok-table.table)) seen
          (c.in_ok-table.ensures list c.in_ok-pieces.ensures.plan c.in_ok-pieces.ensures.says);
    }

pub returns-clause-left : goal.returns-clause-left
returns-clause-left c =
    c.into_vec-needed.ensures ∙ c.in_ok-needs.ensures
    ∙ plan_needs c.args.block c.args.list.now c.requires.some c.args.from c.args.to c.in_ok-pieces.pieces c.in_ok-pieces.ensures.plan c.in_ok-pieces.ensures.says

pub returns-clause-few : goal.returns-clause-few
returns-clause-few c =
    let pieces = c.in_ok-pieces.pieces in
    let few : length (needed_blocks c.args.block pieces) ≤ c.args.to - c.args.from =
    needs_are_few c.args.block c.args.list.now c.args.from c.args.to pieces c.requires.some c.in_ok-pieces.ensures.plan in
    subst (λ (bs : List BlockId). length bs ≤ c.args.to - c.args.from) (sym (c.into_vec-needed.ensures ∙ c.in_ok-needs.ensures)) few

pub returns-clause-named : goal.returns-clause-named
returns-clause-named c =
    let list = c.args.list.now in
    let block = c.args.block in
    let pieces = c.in_ok-pieces.pieces in
    subst (λ (bs : List BlockId). All (IsNamed list block) bs) (sym (c.into_vec-needed.ensures ∙ c.in_ok-needs.ensures))
    (needed_All (IsNamed list block) block pieces (pieces_named list block pieces c.requires.some c.in_ok-pieces.ensures.parts c.in_ok-pieces.ensures.named))

pub returns-clause-reads : goal.returns-clause-reads
returns-clause-reads c = λ known_bytes.
    let needed = c.into_vec-needed.result.items in
    let bytes = c.in_ok-bytes.bytes.items in
    subst (λ (records : List Rec). ReadsAs known_bytes (record { list = records; from = c.args.from; to = c.args.to; block = c.args.block; left = needed; bytes = bytes })) (sym c.of.ensures)
    (reads_none known_bytes c.args.block c.args.list.now c.args.from c.args.to c.in_ok-pieces.pieces needed bytes c.requires.some c.in_ok-pieces.ensures.plan c.in_ok-pieces.ensures.says
    (c.into_vec-needed.ensures ∙ c.in_ok-needs.ensures) c.in_ok-bytes.ensures.zeros)
