-- The bytes of the write are all that is pending.
use Rattle.jv_client.proofs.writes.WaitingLaws.{alone-of}
use Rattle.jv_client.proofs.flush.written_alone.Goals as goal

pub returns-in-Ok : goal.returns-in-Ok
returns-in-Ok c =
    alone-of c.args.op.now c.args.handles.now c.in-Write.handle c.in-Write.offset c.in-Write.bytes c.args.limit
    c.inode_at.result c.new-pending.result c.write.new.self c.in-Write.is c.inode_at.ensures c.new-pending.ensures.none
    c.new-pending.ensures.limit c.in-Ok.ensures.ok
