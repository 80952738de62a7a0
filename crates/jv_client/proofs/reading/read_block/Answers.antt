use Rattle.std.proofs.Common.{refl, ap, ◌∙◌}
use Rattle.jv_yard.specs.declared.faults.YardFault.TheVariants.{Memory}
use Rattle.jv_client.proofs.reads.YardReadLaws.{reads-refused, reads-value}
use Rattle.jv_client.proofs.reading.read_block.Goals as goal
use Rattle.jv_model.specs.promise.blocks.BlockNames.{name_in}

pub returns-in_default-clause-read : goal.returns-in_default-clause-read
returns-in_default-clause-read g c = record { why = Memory; gets = refl; is = refl }

pub returns-in-Ok-get_block-clause-read : goal.returns-in-Ok-get_block-clause-read
returns-in-Ok-get_block-clause-read g c =
    reads-value c.args.client c.args.block _ _ _
    (c.in-Ok.ensures ∙ ap (λ setting. name_in setting c.args.block) c.setting.ensures)
    c.in-Ok-get_block.value c.block_in.result c.in-Ok-get_block.ensures c.block_in.ensures

pub returns-clause-read : goal.returns-clause-read
returns-clause-read g c =
    reads-refused c.args.client c.args.block _ _ _
    (c.in-Ok.ensures ∙ ap (λ setting. name_in setting c.args.block) c.setting.ensures)
    c.in-Err.fault c.fault_of.result c.in-Err.ensures c.fault_of.ensures
