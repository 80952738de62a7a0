use Rattle.std.proofs.Common.{length, ap, eq-eqb, ◌∙◌}
use Rattle.std.proofs.lemmas.Bool.{ne_eqb}
use Rattle.std.proofs.lemmas.List.{length_push}
use Rattle.std.proofs.lemmas.Iterator.Adapters.{YieldsList-from_vec}
use Rattle.std.proofs.lemmas.Iterator.Consumers.{YieldsList-turn}
use Rattle.jv_tree.proofs.DirectoryLaws.{taken-more, taken-other, taken-no_entry}
use Rattle.jv_tree.proofs.reading.take_entries.Goals as goal

pub loop-key-preserved : goal.loop-key-preserved
loop-key-preserved c =
    let b = c.into_iter-key-iterator.ensures.into_iter_gives in
    let items = YieldsList-from_vec {s = c.into_iter-key-iterator.result} c.args.page (b.0 ∙ c.into_vec-key-items.ensures)
    (b.1 ∙ c.into_vec-key-items.result.ok.0 ∙ ap length c.into_vec-key-items.ensures) in
    let t = YieldsList-turn items c.loop-key.yielded c.loop-key.key-iterator c.loop-key.yielded_by c.next.result c.next.new.self
    (c.in-Some.key, c.in-Some.row) c.in-Some.is c.next.ensures.steps in
    rw length_push
    (taken-more c.args.dir c.args.page (length c.loop-key.yielded) c.args.entries.now c.loop-key.entries c.in-Some.key c.in-Some.row t.0 t.1
    c.loop-key.invariant c.in-OfEdge.edge c.in-OfEdge.is (eq-eqb c.in-Some.key.a c.args.dir c.if-key-dir.false) c.push.new.self c.in_ok-push.ensures.ok)

pub returns-in_default : goal.returns-in_default
returns-in_default c =
    let b = c.into_iter-key-iterator.ensures.into_iter_gives in
    let items = YieldsList-from_vec {s = c.into_iter-key-iterator.result} c.args.page (b.0 ∙ c.into_vec-key-items.ensures)
    (b.1 ∙ c.into_vec-key-items.result.ok.0 ∙ ap length c.into_vec-key-items.ensures) in
    let t = YieldsList-turn items c.loop-key.yielded c.loop-key.key-iterator c.loop-key.yielded_by c.next.result c.next.new.self
    (c.in-Some.key, c.in-Some.row) c.in-Some.is c.next.ensures.steps in
    taken-no_entry c.args.dir c.args.page (length c.loop-key.yielded) c.args.entries.now c.loop-key.entries c.in-Some.key c.in-Some.row t.0 t.1
    c.loop-key.invariant c.in_default.not-OfEdge

pub returns-then-key-dir : goal.returns-then-key-dir
returns-then-key-dir c =
    let b = c.into_iter-key-iterator.ensures.into_iter_gives in
    let items = YieldsList-from_vec {s = c.into_iter-key-iterator.result} c.args.page (b.0 ∙ c.into_vec-key-items.ensures)
    (b.1 ∙ c.into_vec-key-items.result.ok.0 ∙ ap length c.into_vec-key-items.ensures) in
    let t = YieldsList-turn items c.loop-key.yielded c.loop-key.key-iterator c.loop-key.yielded_by c.next.result c.next.new.self
    (c.in-Some.key, c.in-Some.row) c.in-Some.is c.next.ensures.steps in
    taken-other c.args.dir c.args.page (length c.loop-key.yielded) c.args.entries.now c.loop-key.entries c.in-Some.key c.in-Some.row t.0 t.1
    c.loop-key.invariant
    (ne_eqb c.in-Some.key.a c.args.dir c.if-key-dir.true)
