use Rattle.std.proofs.Common.{ℕ, length, sym, ap, ◌∙◌, arith}
use Rattle.std.specs.Prelude.{nat_le}
use Rattle.std.proofs.lemmas.Bool.{le-leb, lt-leb}
use Rattle.std.proofs.lemmas.Result.{err_from_is_err_and}
use Rattle.jv_model.specs.declared.limits.TheConstants.{MAX_PATH, FULL_MODE}
use Rattle.jv_model.specs.declared.fault.Fault.TheVariants.{NameTooLong}
use Rattle.jv_model.specs.declared.op.Reply.TheVariants.{Found}
use Rattle.jv_model.specs.declared.row.Node.{Node}
use Rattle.jv_model.specs.promise.tree.Attempt.{◌>>=◌, require}
use Rattle.jv_model.specs.promise.tree.Making as model
use Rattle.jv_model.specs.promise.tree.Tree.{Tree, Symlink}
use Rattle.jv_tree.specs.Entering.{LinkTo, new_row, enter}
use Rattle.jv_tree.proofs.MakeLaws.{make-no_session, make-session, make-no_place, make-passes, make-refused, make-enters, symlink-is}
use Rattle.jv_tree.proofs.making.symlink.Goals as goal

pub returns-in_err-in_session : goal.returns-in_err-in_session
returns-in_err-in_session g c caller asks =
    let target = c.args.target.now in
    let p = err_from_is_err_and c.from_residual.result c.from_residual.ensures.1 in
    rw (p.1, p.2)
    (make-no_session caller c.args.who.now.sid asks.sid (λ inode. Found inode) (g.K.Keeper.seen c.args.k.now) (g.K.Keeper.seen c.in_session.new.k)
    (λ t. require (nat_le (length target) MAX_PATH) NameTooLong >>= (λ _. model.new_place t c.args.path.now >>= (λ place. enter (Symlink target) FULL_MODE caller.now place (λ inode. Found inode) t)))
    (λ t. model.symlink t caller target c.args.path.now) (λ t. symlink-is t caller target c.args.path.now) c.in_err-in_session.field-0.0 c.in_err-in_session.ensures)

pub returns-then-len-gt-MAX_PATH : goal.returns-then-len-gt-MAX_PATH
returns-then-len-gt-MAX_PATH g c caller asks =
    let target = c.args.target.now in
    let placing = λ (t : Tree). model.new_place t c.args.path.now >>= (λ place. enter (Symlink target) FULL_MODE caller.now place (λ inode. Found inode) t) in
    let past = make-session caller c.args.who.now.sid asks.sid (λ inode. Found inode) (g.K.Keeper.seen c.args.k.now) (g.K.Keeper.seen c.in_session.new.k)
    (λ t. require (nat_le (length target) MAX_PATH) NameTooLong >>= (λ _. placing t))
    (λ t. model.symlink t caller target c.args.path.now) (λ t. symlink-is t caller target c.args.path.now) c.in_ok-in_session.ensures in
    let len = c.len.ensures.length in
    let more = c.if-len-gt-MAX_PATH.true in
    make-refused (nat_le (length target) MAX_PATH) NameTooLong (λ inode. Found inode) (g.K.Keeper.seen c.args.k.now) (g.K.Keeper.seen c.in_session.new.k)
    (λ t. model.symlink t caller target c.args.path.now) placing past (lt-leb (length target) MAX_PATH (omega (arith, len, more)))

pub returns-in_err-place : goal.returns-in_err-place
returns-in_err-place g c caller asks =
    let target = c.args.target.now in
    let placing = λ (t : Tree). model.new_place t c.args.path.now >>= (λ place. enter (Symlink target) FULL_MODE caller.now place (λ inode. Found inode) t) in
    let past = make-session caller c.args.who.now.sid asks.sid (λ inode. Found inode) (g.K.Keeper.seen c.args.k.now) (g.K.Keeper.seen c.in_session.new.k)
    (λ t. require (nat_le (length target) MAX_PATH) NameTooLong >>= (λ _. placing t))
    (λ t. model.symlink t caller target c.args.path.now) (λ t. symlink-is t caller target c.args.path.now) c.in_ok-in_session.ensures in
    let len = c.len.ensures.length in
    let less = c.if-len-gt-MAX_PATH.false in
    let short = make-passes (nat_le (length target) MAX_PATH) NameTooLong (λ inode. Found inode) (g.K.Keeper.seen c.args.k.now) (g.K.Keeper.seen c.in_session.new.k)
    (λ t. model.symlink t caller target c.args.path.now) placing past (le-leb (length target) MAX_PATH (omega (arith, len, less))) in
    let p = err_from_is_err_and c.from_residual-in_err-place.result c.from_residual-in_err-place.ensures.1 in
    rw (p.1, p.2)
    (make-no_place c.args.path.now c.requires.path (λ dir. Symlink target) FULL_MODE caller.now (λ inode. Found inode) (g.K.Keeper.seen c.args.k.now) (g.K.Keeper.seen c.in_session.new.k)
    (λ t. model.symlink t caller target c.args.path.now) short (g.K.Keeper.seen c.new_place.new.k) c.in_err-place.field-0.0 c.in_err-place.ensures)

pub returns : goal.returns
returns g c caller asks =
    let target = c.args.target.now in
    let placing = λ (t : Tree). model.new_place t c.args.path.now >>= (λ place. enter (Symlink target) FULL_MODE caller.now place (λ inode. Found inode) t) in
    let past = make-session caller c.args.who.now.sid asks.sid (λ inode. Found inode) (g.K.Keeper.seen c.args.k.now) (g.K.Keeper.seen c.in_session.new.k)
    (λ t. require (nat_le (length target) MAX_PATH) NameTooLong >>= (λ _. placing t))
    (λ t. model.symlink t caller target c.args.path.now) (λ t. symlink-is t caller target c.args.path.now) c.in_ok-in_session.ensures in
    let len = c.len.ensures.length in
    let less = c.if-len-gt-MAX_PATH.false in
    let short = make-passes (nat_le (length target) MAX_PATH) NameTooLong (λ inode. Found inode) (g.K.Keeper.seen c.args.k.now) (g.K.Keeper.seen c.in_session.new.k)
    (λ t. model.symlink t caller target c.args.path.now) placing past (le-leb (length target) MAX_PATH (omega (arith, len, less))) in
    let mode_is = ap (λ (r : Node). r.mode) c.new_node.ensures in
    let row_is = (λ i. record (c.new_node.ensures i) { length = c.len-2.ensures.length i; target = (c.in_ok-copied.ensures ∙ c.as_slice.ensures) i }) ∙ ap (λ (m : ℕ). new_row (Symlink target) m c.args.who.now.now) (sym mode_is) in
    make-enters c.args.path.now c.requires.path (λ dir. Symlink target) FULL_MODE caller.now (λ inode. Found inode) (g.K.Keeper.seen c.args.k.now) (g.K.Keeper.seen c.in_session.new.k)
    (λ t. model.symlink t caller target c.args.path.now) short
    (g.K.Keeper.seen c.new_place.new.k) c.in_ok-place.place c.in_ok-place.ensures (g.K.Keeper.seen c.enter.new.k) c.enter.result c.new_node.result.mode c.args.who.now.now mode_is (sym asks.now)
    (c.enter.ensures (Symlink target) (λ inode. Found inode) (LinkTo target) row_is)
