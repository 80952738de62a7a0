-- A pair moves from the end of what is found by hashes into order, or back to where it was.
use Rattle.std.proofs.Common.{◌++◌, Some, ap, subst, ◌∙◌, arith}
use Rattle.std.specs.BTreeMap.{is_at}
use Rattle.std.specs.Map.{lookup}
use Rattle.std.specs.Result.{OnOk}
use Rattle.indexmap.specs.IndexMap.{Updates}
use Rattle.jv_outside.proofs.LazyTreeLaws.{like-sorted, like-put_back}
use Rattle.jv_outside.proofs.lazy_tree.LazyTree.sort.Goals as goal

pub returns-in-Err-clause-same : goal.returns-in-Err-clause-same
returns-in-Err-clause-same g c key =
    let Puts : g.row.K.Denot → g.row.V.Denot → Type 0 = λ k v. Updates g.K.PartialEq.eq c.pop.new.self c.insert.new.self k (Some v) in
    let put : Puts c.in-Err.key c.in-Err.value = subst (λ result. OnOk result (Puts c.in-Err.key c.in-Err.value)) c.unwrap.ensures c.insert.ensures.updates in
    let back : Puts c.in-Some.key c.in-Some.value = subst (λ pair. Puts pair.0 pair.1) c.in-Err.ensures.back put in
    ap (λ sorted. lookup (is_at (g.K.Ord.cmp key)) (c.insert.new.self.entries ++ sorted)) c.in-Err.ensures.err
    ∙ like-put_back g.K.Ord.cmp g.met.K.Ord.total g.K.PartialEq.eq g.met.K.Ord.matches_eq _ _ _ _ _ _ c.in-Some.ensures.entries c.in-Some.ensures.updates.0 back.0 key
    ∙ c.loop-key.invariant.same key
    ∙ ap (λ recent. lookup (is_at (g.K.Ord.cmp key)) (recent ++ c.args.self.now.sorted.entries)) c.in_ok-reserve.ensures.entries

pub loop-key-preserved : goal.loop-key-preserved
loop-key-preserved g c = record {
  same = λ key. like-sorted g.K.Ord.cmp g.met.K.Ord.total _ _ _ _ _ _ c.in-Some.ensures.entries c.in_default-put.ensures.ok key ∙ c.loop-key.invariant.same key;
  room = omega (arith, c.loop-key.invariant.room, c.in-Some.ensures.room.0);
}
