-- A block of a segment's slice is put, and where that leads.
use Rattle.std.proofs.Common.{Bool, eq-eqb, ne_eqb, sym, ap, subst, ◌∙◌, arith}
use Rattle.std.specs.Prelude.{if◌then◌else◌}
use Rattle.jv_model.specs.declared.fault.Fault.{Fault}
use Rattle.jv_pending.specs.At.{segment_at}
use Rattle.jv_client.specs.ClientValue.{ClientValue}
use Rattle.jv_client.specs.Flushing.{bytes_of}
use Rattle.jv_client.specs.Transacting.{Fails}
use Rattle.jv_client.proofs.flushes.PutBlockLaws.{block-put, block-unput, put-numbered}
use Rattle.jv_client.proofs.client.Client.put.Goals as goal
use Rattle.jv_client.proofs.client.Client.put.Goals.{then-quiets-eq1, else-quiets-eq1}

pub put_block-requires-clause-named : goal.put_block-requires-clause-named
put_block-requires-clause-named g c =
    put-numbered c.args.self.now c.args.upload.quiets c.args.upload.started c.args.upload.id c.requires.ready
    c.requires.busy c.requires.asked

pub returns-after-quiets-eq1 : goal.returns-after-quiets-eq1
returns-after-quiets-eq1 g c entry keeper =
    let upload = c.args.upload in
    block-put c.args.now entry c.args.self.now c.request.new.self _ _ _ (segment_at c.args.at) upload.quiets
    upload.started upload.id c.request.result c.requires.ready c.requires.busy c.requires.asked c.requires.next
    c.self.inside.id (ap (λ (h : ClientValue). h.id) c.self.view_is) c.segment-bytes.result.now
    (c.segment-bytes.ensures.bytes
    ∙ ap (λ (h : ClientValue). bytes_of (segment_at c.args.at) h.pending) c.self.view_is)
    c.segment-bytes.ensures.len (omega arith) (omega arith) c.requires.block
    c.requires.there c.in-Ok.ensures c.if-quiets-eq1.request
    (elim c.if-quiets-eq1.branch [
      | then-quiets-eq1 w ↦ w.request-is
          ∙ sym (ap (λ (b : Bool). if b then c.args.now else upload.started) (eq-eqb upload.quiets 1 w.if-quiets-eq1.true))
      | else-quiets-eq1 w ↦ w.request-is
          ∙ sym (ap (λ (b : Bool). if b then c.args.now else upload.started) (ne_eqb upload.quiets 1 w.if-quiets-eq1.false))
    ])
    c.request.ensures.asked c.request.ensures.made

pub returns-in-Err : goal.returns-in-Err
returns-in-Err g c entry keeper =
    let upload = c.args.upload in
    block-unput c.args.now entry c.args.self.now c.fail.new.self _ _ _ (segment_at c.args.at) upload.quiets
    upload.started upload.id c.fail.result c.requires.ready c.requires.busy c.requires.asked c.requires.next
    c.self.inside.id (ap (λ (h : ClientValue). h.id) c.self.view_is) c.segment-bytes.result.now
    (c.segment-bytes.ensures.bytes
    ∙ ap (λ (h : ClientValue). bytes_of (segment_at c.args.at) h.pending) c.self.view_is)
    c.segment-bytes.ensures.len c.requires.there c.in-Err.fault c.in-Err.ensures
    (subst (λ (fault : Fault). Fails fault c.args.self.now c.fail.new.self c.fail.result) c.from.ensures c.fail.ensures)
