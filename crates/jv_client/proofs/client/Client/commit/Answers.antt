-- A commit is allowed, and where it leads; what refuses it; and out of memory nothing has changed.
use Rattle.std.proofs.Common.{Ok, Err, ap, subst}
use Rattle.std.specs.Prelude.{IfSome}
use Rattle.jv_pending.specs.At.{segment_at}
use Rattle.jv_client.specs.declared.doing.Progress.TheVariants.{Working}
use Rattle.jv_client.specs.Flushing.{Follows}
use Rattle.jv_client.specs.promise.Shared.{shared}
use Rattle.jv_client.proofs.flushes.CommitCallLaws.{closes-still, commits-as, committed-call, unasked-call, unmade-call}
use Rattle.jv_client.proofs.flushes.CommitLaws.{record_for}
use Rattle.jv_client.proofs.writes.WaitingLaws.{next-after}
use Rattle.jv_client.proofs.client.Client.commit.Goals as goal

pub returns-in_default : goal.returns-in_default
returns-in_default g c entry yard carrier put =
    unasked-call c.args.now entry c.args.self.now c.fail.new.self (shared (g.K.Keeper.seen c.args.k.now) yard carrier)
    (Working c.args.upload.quiets c.args.upload.started c.args.upload.id) c.fail.result c.requires.ready c.requires.busy
    c.fail.ensures

pub after_commit-requires-clause-closes : goal.after_commit-requires-clause-closes
after_commit-requires-clause-closes g c =
    closes-still c.args.self.now c.drop_segment.new.self (segment_at c.args.at) c.requires.ready
    c.drop_segment.ensures.rest

pub after_commit-requires-clause-next : goal.after_commit-requires-clause-next
after_commit-requires-clause-next g c =
    next-after c.args.self.now c.drop_segment.new.self (segment_at c.args.at) c.in-Ok.next c.drop_segment.ensures.rest
    c.drop_segment.ensures.fewer c.in-Ok.ensures

pub returns-in-Ok-commit : goal.returns-in-Ok-commit
returns-in-Ok-commit g c entry yard carrier put =
    let at = c.args.at in
    let id = c.args.upload.id in
    let before = g.K.Keeper.seen c.args.k.now in
    let after = g.K.Keeper.seen c.commit.new.k in
    let between = c.drop_segment.new.self in
    let who = c.who-who.result in
    committed-call c.args.self.now c.after_commit.new.self before after yard carrier at who.sid c.args.now
    c.args.upload.quiets c.args.upload.started id entry c.after_commit.result c.requires.ready c.requires.busy
    c.requires.asked c.requires.next c.requires.some c.record_of-rec.ensures.long put
    (ap (λ w. w.sid) c.who-who.ensures) between
    (commits-as who.sid c.args.now who.now at.inode at.window c.record_of-rec.result (record_for at id)
    c.args.upload.started before after (Ok tt) (ap (λ w. w.now) c.who-who.ensures) c.record_of-rec.ensures.shows
    c.in-Ok-commit.ensures.commits)
    c.drop_segment.ensures.rest c.drop_segment.ensures.fewer
    (subst (λ kind. IfSome between.doing (λ d. Follows d kind between c.after_commit.new.self c.after_commit.result))
    c.commit_of.ensures c.after_commit.ensures)

pub returns-in-Err : goal.returns-in-Err
returns-in-Err g c entry yard carrier put =
    let at = c.args.at in
    let id = c.args.upload.id in
    let before = g.K.Keeper.seen c.args.k.now in
    let after = g.K.Keeper.seen c.commit.new.k in
    let who = c.who-who.result in
    unmade-call c.args.self.now c.unmade.new.self before after yard carrier at who.sid c.args.now c.args.upload.quiets
    c.args.upload.started id entry c.unmade.result c.requires.ready c.requires.busy c.requires.asked c.requires.next
    c.requires.some c.record_of-rec.ensures.long put (ap (λ w. w.sid) c.who-who.ensures) c.in-Err.fault
    (commits-as who.sid c.args.now who.now at.inode at.window c.record_of-rec.result (record_for at id)
    c.args.upload.started before after (Err c.in-Err.fault) (ap (λ w. w.now) c.who-who.ensures)
    c.record_of-rec.ensures.shows c.in-Err.ensures.commits)
    c.unmade.ensures
