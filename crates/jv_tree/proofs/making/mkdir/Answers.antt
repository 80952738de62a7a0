use Rattle.std.proofs.Common.{ℕ, sym, ap, ◌∙◌}
use Rattle.std.proofs.lemmas.Result.{err_from_is_err_and}
use Rattle.jv_model.specs.declared.op.Reply.TheVariants.{Found}
use Rattle.jv_model.specs.declared.row.Node.{Node}
use Rattle.jv_model.specs.promise.tree.Attempt.{◌>>=◌}
use Rattle.jv_model.specs.promise.tree.Making as model
use Rattle.jv_model.specs.promise.tree.Tree.{Directory}
use Rattle.jv_tree.specs.Entering.{DirectoryIn, new_row, enter}
use Rattle.jv_tree.proofs.MakeLaws.{make-no_session, make-session, make-no_place, make-enters, mkdir-is}
use Rattle.jv_tree.proofs.making.mkdir.Goals as goal

pub returns-in_err-in_session : goal.returns-in_err-in_session
returns-in_err-in_session g c caller asks =
    let p = err_from_is_err_and c.from_residual.result c.from_residual.ensures.1 in
    rw (p.1, p.2)
    (make-no_session caller c.args.who.now.sid asks.sid (λ inode. Found inode) (g.K.Keeper.seen c.args.k.now) (g.K.Keeper.seen c.in_session.new.k)
    (λ t. model.new_place t c.args.path.now >>= (λ place. enter (Directory place.dir) c.args.mode caller.now place (λ inode. Found inode) t)) (λ t. model.mkdir t caller c.args.path.now c.args.mode)
    (λ t. mkdir-is t caller c.args.path.now c.args.mode) c.in_err-in_session.field-0.0 c.in_err-in_session.ensures)

pub returns-in_err-place : goal.returns-in_err-place
returns-in_err-place g c caller asks =
    let p = err_from_is_err_and c.from_residual-in_err-place.result c.from_residual-in_err-place.ensures.1 in
    let past = make-session caller c.args.who.now.sid asks.sid (λ inode. Found inode) (g.K.Keeper.seen c.args.k.now) (g.K.Keeper.seen c.in_session.new.k)
    (λ t. model.new_place t c.args.path.now >>= (λ place. enter (Directory place.dir) c.args.mode caller.now place (λ inode. Found inode) t)) (λ t. model.mkdir t caller c.args.path.now c.args.mode)
    (λ t. mkdir-is t caller c.args.path.now c.args.mode) c.in_ok-in_session.ensures in
    rw (p.1, p.2)
    (make-no_place c.args.path.now c.requires.path (λ dir. Directory dir) c.args.mode caller.now (λ inode. Found inode) (g.K.Keeper.seen c.args.k.now) (g.K.Keeper.seen c.in_session.new.k) (λ t. model.mkdir t caller c.args.path.now c.args.mode) past
    (g.K.Keeper.seen c.new_place.new.k) c.in_err-place.field-0.0 c.in_err-place.ensures)

pub returns : goal.returns
returns g c caller asks =
    let past = make-session caller c.args.who.now.sid asks.sid (λ inode. Found inode) (g.K.Keeper.seen c.args.k.now) (g.K.Keeper.seen c.in_session.new.k)
    (λ t. model.new_place t c.args.path.now >>= (λ place. enter (Directory place.dir) c.args.mode caller.now place (λ inode. Found inode) t)) (λ t. model.mkdir t caller c.args.path.now c.args.mode)
    (λ t. mkdir-is t caller c.args.path.now c.args.mode) c.in_ok-in_session.ensures in
    let dir = c.in_ok-place.place.dir.inode in
    let mode_is = ap (λ (r : Node). r.mode) c.new_node.ensures in
    let row_is = ap (λ (r : Node). record r { nlink = 2; length = 4096; parent = dir }) c.new_node.ensures ∙ ap (λ (m : ℕ). new_row (Directory dir) m c.args.who.now.now) (sym mode_is) in
    make-enters c.args.path.now c.requires.path (λ dir. Directory dir) c.args.mode caller.now (λ inode. Found inode) (g.K.Keeper.seen c.args.k.now) (g.K.Keeper.seen c.in_session.new.k) (λ t. model.mkdir t caller c.args.path.now c.args.mode) past
    (g.K.Keeper.seen c.new_place.new.k) c.in_ok-place.place c.in_ok-place.ensures (g.K.Keeper.seen c.enter.new.k) c.enter.result c.new_node.result.mode c.args.who.now.now mode_is (sym asks.now)
    (c.enter.ensures (Directory dir) (λ inode. Found inode) DirectoryIn row_is)
