use Rattle.std.proofs.Common.{ℕ, Option, Ok, subst}
use Rattle.std.proofs.lemmas.Result.{err_from_is_err_and}
use Rattle.jv_model.proofs.TestLaws.{none_unless}
use Rattle.jv_live.specs.Steps.{FindsKept, letting_go, ending_session}
use Rattle.jv_live.proofs.ClosingLaws.{steps-read, dropping-start, dropping-found, dropping-there, dropping-let_go, dropping-may_go, dropping-next, room-falls, close-no_session, close-lost, close-fell, close-stays, close-commits, close-uncommitted}
use Rattle.jv_live.proofs.kept.close_session.Goals as goal

pub returns-in_err-in_session : goal.returns-in_err-in_session
returns-in_err-in_session g c caller asks =
    let p = err_from_is_err_and c.from_residual.result c.from_residual.ensures.1 in
    rw (p.1, p.2)
    (close-no_session c.args.who.now caller asks (g.K.Keeper.seen c.args.k.now) (g.K.Keeper.seen c.in_session.new.k)
    c.in_err-in_session.field-0.0 c.in_err-in_session.ensures)

pub loop-draft-init : goal.loop-draft-init
loop-draft-init g c =
    dropping-start c.args.who.now.sid (g.K.Keeper.seen c.args.k.now) (g.K.Keeper.seen c.in_session.new.k) c.new-draft.result c.new-draft.ensures
    c.in_ok-in_session.ensures

pub returns-in_err-inode : goal.returns-in_err-inode
returns-in_err-inode g c caller asks =
    let p = err_from_is_err_and c.from_residual-in_err-inode.result c.from_residual-in_err-inode.ensures.1 in
    rw (p.1, p.2)
    (close-lost c.args.who.now caller asks (g.K.Keeper.seen c.args.k.now) (g.K.Keeper.seen c.in_session.new.k) c.in_ok-in_session.ensures
    (g.K.Keeper.seen c.loop-draft.k) c.loop-draft.draft c.loop-draft.invariant.now c.loop-draft.invariant.steps
    (g.K.Keeper.seen c.next_kept.new.k) c.in_err-inode.field-0.0 c.in_err-inode.ensures.looks)

pub returns-in_err-kept_node : goal.returns-in_err-kept_node
returns-in_err-kept_node g c caller asks =
    let p = err_from_is_err_and c.from_residual-in_err-kept_node.result c.from_residual-in_err-kept_node.ensures.1 in
    let found = subst (λ (o : Option ℕ). FindsKept c.args.who.now.sid c.loop-draft.after (g.K.Keeper.seen c.loop-draft.k)
    (g.K.Keeper.seen c.next_kept.new.k) (Ok o))
    c.in-Some.is c.in_ok-inode.ensures in
    rw (p.1, p.2)
    (close-lost c.args.who.now caller asks (g.K.Keeper.seen c.args.k.now) (g.K.Keeper.seen c.in_session.new.k) c.in_ok-in_session.ensures
    (g.K.Keeper.seen c.next_kept.new.k) c.loop-draft.draft c.loop-draft.invariant.now
    (dropping-found c.args.who.now.sid (g.K.Keeper.seen c.args.k.now) (g.K.Keeper.seen c.loop-draft.k) c.loop-draft.draft c.loop-draft.after
    c.loop-draft.invariant
    (g.K.Keeper.seen c.next_kept.new.k) c.in-Some.inode found.small found)
    (g.K.Keeper.seen c.kept_node.new.k) c.in_err-kept_node.field-0.0 c.in_err-kept_node.ensures)

pub returns-in_err-let_go : goal.returns-in_err-let_go
returns-in_err-let_go g c caller asks =
    let p = err_from_is_err_and c.from_residual-in_err-let_go.result c.from_residual-in_err-let_go.ensures.1 in
    let found = subst (λ (o : Option ℕ). FindsKept c.args.who.now.sid c.loop-draft.after (g.K.Keeper.seen c.loop-draft.k)
    (g.K.Keeper.seen c.next_kept.new.k) (Ok o))
    c.in-Some.is c.in_ok-inode.ensures in
    rw (p.1, p.2)
    (close-fell c.args.who.now caller asks (g.K.Keeper.seen c.args.k.now) (g.K.Keeper.seen c.in_session.new.k) c.in_ok-in_session.ensures
    (g.K.Keeper.seen c.kept_node.new.k) c.loop-draft.draft c.loop-draft.invariant.now
    (dropping-there c.args.who.now.sid (g.K.Keeper.seen c.args.k.now) (g.K.Keeper.seen c.loop-draft.k) c.loop-draft.draft c.loop-draft.after
    c.loop-draft.invariant
    (g.K.Keeper.seen c.next_kept.new.k) c.in-Some.inode found.small found (g.K.Keeper.seen c.kept_node.new.k) c.in_ok-kept_node.ensures)
    c.let_go.new.draft (letting_go c.args.who.now.sid c.in-Some.inode) c.in_err-let_go.field-0.0 (c.in_err-let_go.ensures (g.K.Keeper.seen c.kept_node.new.k)))

pub returns-in_err-drop_node : goal.returns-in_err-drop_node
returns-in_err-drop_node g c caller asks =
    let p = err_from_is_err_and c.from_residual-in_err-drop_node.result c.from_residual-in_err-drop_node.ensures.1 in
    let found = subst (λ (o : Option ℕ). FindsKept c.args.who.now.sid c.loop-draft.after (g.K.Keeper.seen c.loop-draft.k)
    (g.K.Keeper.seen c.next_kept.new.k) (Ok o))
    c.in-Some.is c.in_ok-inode.ensures in
    rw (p.1, p.2)
    (close-stays c.args.who.now caller asks (g.K.Keeper.seen c.args.k.now) (g.K.Keeper.seen c.in_session.new.k) c.in_ok-in_session.ensures
    (g.K.Keeper.seen c.kept_node.new.k) c.let_go.new.draft (λ t. letting_go c.args.who.now.sid c.in-Some.inode (c.loop-draft.invariant.now t))
    (dropping-let_go c.args.who.now.sid (g.K.Keeper.seen c.args.k.now) (g.K.Keeper.seen c.loop-draft.k) c.loop-draft.draft c.loop-draft.after
    c.loop-draft.invariant
    (g.K.Keeper.seen c.next_kept.new.k) c.in-Some.inode found.small found (g.K.Keeper.seen c.kept_node.new.k) c.in_ok-kept_node.ensures
    c.let_go.new.draft (c.in_ok-let_go.ensures (g.K.Keeper.seen c.kept_node.new.k)))
    (g.K.Keeper.seen c.drop_node.new.k) c.drop_node.new.draft c.in-Some.inode c.in_err-drop_node.field-0.0 c.in_err-drop_node.ensures
    (dropping-may_go c.args.who.now.sid (g.K.Keeper.seen c.args.k.now) (g.K.Keeper.seen c.loop-draft.k) c.loop-draft.draft c.loop-draft.after
    c.loop-draft.invariant
    (g.K.Keeper.seen c.next_kept.new.k) c.in-Some.inode found.small found (g.K.Keeper.seen c.kept_node.new.k) c.in_ok-kept_node.ensures
    c.let_go.new.draft (c.in_ok-let_go.ensures (g.K.Keeper.seen c.kept_node.new.k))))

pub loop-draft-smaller : goal.loop-draft-smaller
loop-draft-smaller g c =
    let found = subst (λ (o : Option ℕ). FindsKept c.args.who.now.sid c.loop-draft.after (g.K.Keeper.seen c.loop-draft.k)
    (g.K.Keeper.seen c.next_kept.new.k) (Ok o))
    c.in-Some.is c.in_ok-inode.ensures in
    room-falls c.loop-draft.after c.in-Some.inode found.small found.past

pub loop-draft-preserved : goal.loop-draft-preserved
loop-draft-preserved g c =
    let found = subst (λ (o : Option ℕ). FindsKept c.args.who.now.sid c.loop-draft.after (g.K.Keeper.seen c.loop-draft.k)
    (g.K.Keeper.seen c.next_kept.new.k) (Ok o))
    c.in-Some.is c.in_ok-inode.ensures in
    dropping-next c.args.who.now.sid (g.K.Keeper.seen c.args.k.now) (g.K.Keeper.seen c.loop-draft.k) c.loop-draft.draft c.loop-draft.after
    c.loop-draft.invariant
    (g.K.Keeper.seen c.next_kept.new.k) c.in-Some.inode found.small found (g.K.Keeper.seen c.kept_node.new.k) c.in_ok-kept_node.ensures
    c.let_go.new.draft (c.in_ok-let_go.ensures (g.K.Keeper.seen c.kept_node.new.k))
    (g.K.Keeper.seen c.drop_node.new.k) c.drop_node.new.draft c.in_ok-drop_node.ensures

pub returns-in_err-end_session : goal.returns-in_err-end_session
returns-in_err-end_session g c caller asks =
    let p = err_from_is_err_and c.from_residual-in_err-end_session.result c.from_residual-in_err-end_session.ensures.1 in
    let found = subst (λ (o : Option ℕ). FindsKept c.args.who.now.sid c.loop-draft.after (g.K.Keeper.seen c.loop-draft.k)
    (g.K.Keeper.seen c.next_kept.new.k) (Ok o))
    (none_unless c.in_ok-inode.field-0 c.in_default.not-Some) c.in_ok-inode.ensures in
    rw (p.1, p.2)
    (close-fell c.args.who.now caller asks (g.K.Keeper.seen c.args.k.now) (g.K.Keeper.seen c.in_session.new.k) c.in_ok-in_session.ensures
    (g.K.Keeper.seen c.next_kept.new.k) c.loop-draft.draft c.loop-draft.invariant.now
    (steps-read (g.K.Keeper.seen c.args.k.now) (g.K.Keeper.seen c.loop-draft.k) (g.K.Keeper.seen c.next_kept.new.k) c.loop-draft.draft
    c.loop-draft.invariant.now _ _
    c.loop-draft.invariant.steps found.looks)
    c.end_session.new.draft (ending_session c.args.who.now.sid) c.in_err-end_session.field-0.0
    (c.in_err-end_session.ensures (g.K.Keeper.seen c.next_kept.new.k)))

pub returns-in-Ok : goal.returns-in-Ok
returns-in-Ok g c caller asks =
    let found = subst (λ (o : Option ℕ). FindsKept c.args.who.now.sid c.loop-draft.after (g.K.Keeper.seen c.loop-draft.k)
    (g.K.Keeper.seen c.next_kept.new.k) (Ok o))
    (none_unless c.in_ok-inode.field-0 c.in_default.not-Some) c.in_ok-inode.ensures in
    close-commits c.args.who.now caller asks (g.K.Keeper.seen c.args.k.now) (g.K.Keeper.seen c.in_session.new.k) c.in_ok-in_session.ensures
    (g.K.Keeper.seen c.loop-draft.k) c.loop-draft.draft c.loop-draft.after c.loop-draft.invariant (g.K.Keeper.seen c.next_kept.new.k) found
    c.end_session.new.draft (c.in_ok-end_session.ensures (g.K.Keeper.seen c.next_kept.new.k)) (g.K.Keeper.seen c.commit.new.k) c.in-Ok.ensures

pub returns : goal.returns
returns g c caller asks =
    let found = subst (λ (o : Option ℕ). FindsKept c.args.who.now.sid c.loop-draft.after (g.K.Keeper.seen c.loop-draft.k)
    (g.K.Keeper.seen c.next_kept.new.k) (Ok o))
    (none_unless c.in_ok-inode.field-0 c.in_default.not-Some) c.in_ok-inode.ensures in
    rw (c.from.ensures)
    (close-uncommitted c.args.who.now caller asks (g.K.Keeper.seen c.args.k.now) (g.K.Keeper.seen c.in_session.new.k) c.in_ok-in_session.ensures
    (g.K.Keeper.seen c.loop-draft.k) c.loop-draft.draft c.loop-draft.after c.loop-draft.invariant (g.K.Keeper.seen c.next_kept.new.k) found
    c.end_session.new.draft (c.in_ok-end_session.ensures (g.K.Keeper.seen c.next_kept.new.k)) (g.K.Keeper.seen c.commit.new.k) c.in-Err.down c.in-Err.ensures)
