use Rattle.std.proofs.Common.{ℕ, subst}
use Rattle.jv_data.specs.Resizing.{ResizesFile}
use Rattle.jv_data.proofs.commits.BeginningLaws.{is_timely, begin-sized}
use Rattle.jv_data.proofs.committing.begin_commit.Goals as goal

pub returns : goal.returns
returns g c =
    begin-sized c.args.sid c.args.now c.args.inode c.args.end c.args.started (g.K.Keeper.seen c.args.k.now) (g.K.Keeper.seen c.file.new.k)
    c.in_ok-was.was' c.in_ok-was.ensures
    (is_timely c.args.now c.args.started c.seconds-now.result c.seconds-started.result c.is_in_time.result
    c.seconds-now.ensures.seconds c.seconds-started.ensures.seconds c.is_in_time.ensures c.if-not-is_in_time.false)
    (g.K.Keeper.seen c.resize.new.k) c.resize.new.draft c.resize.result
    (subst (λ (n : ℕ). ResizesFile c.args.inode c.in_ok-was.was' n c.args.now (g.K.Keeper.seen c.file.new.k) (g.K.Keeper.seen c.resize.new.k)
    c.resize.new.draft c.resize.result) c.max-length.ensures
    (subst (λ (n : ℕ). ResizesFile c.args.inode c.in_ok-was.was' c.max-length.result n (g.K.Keeper.seen c.file.new.k) (g.K.Keeper.seen c.resize.new.k)
    c.resize.new.draft c.resize.result) c.seconds-now.ensures.seconds c.resize.ensures))
