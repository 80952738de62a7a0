-- A transaction runs in the client's name.
use Rattle.std.proofs.Common.{refl, sym, ap, ◌∙◌}
use Rattle.std.specs.Prelude.{unwrap_or}
use Rattle.jv_model.specs.promise.client.ModelClient.{free_handle}
use Rattle.jv_model.specs.promise.client.Profile.{handle_of}
use Rattle.jv_client_handles.specs.Handles.{held_here, inode_here}
use Rattle.jv_client.proofs.steps.TransactionCallLaws.{tried_metadata, tried_mount}
use Rattle.jv_client.proofs.transactions.attempt.Goals as goal

pub returns-in-Mount : goal.returns-in-Mount
returns-in-Mount g c h id session handles =
    tried_mount h c.args.op.now c.in-Mount.writeback c.args.now (g.K.Keeper.seen c.args.k.now)
    (g.K.Keeper.seen c.mount.new.k) c.mount.result c.mounted.result c.in-Mount.is
    (λ who client now. c.mount.ensures who (client ∙ id) now) c.mounted.ensures

pub returns : goal.returns
returns g c h id session handles =
    tried_metadata h c.args.op.now c.args.now (g.K.Keeper.seen c.args.k.now) (g.K.Keeper.seen c.transact.new.k)
    c.transact.result (record { sid = c.unwrap_or.result; held = c.in_ok-held.field-0; now = c.args.now })
    c.free_handle-handle.result c.inode_at-inode.result
    (c.unwrap_or.ensures ∙ ap (λ session. unwrap_or session 0) (sym session))
    (c.in_ok-held.ensures ∙ ap held_here (sym handles))
    refl
    (c.free_handle-handle.ensures.free ∙ ap free_handle (sym handles))
    (c.inode_at-inode.ensures ∙ ap (inode_here c.args.handles.now) c.handle.ensures
    ∙ ap (λ handles. inode_here handles (handle_of c.args.op.now)) (sym handles))
    c.transact.ensures.does c.transact.ensures.says c.transact.ensures.answers
