-- The next request of a segment is one for its number, for a block, or its commit.
use Rattle.std.proofs.Common.{◌<◌, subst, arith}
use Rattle.jv_model.specs.declared.setting.Setting.{Setting}
use Rattle.jv_model.specs.promise.blocks.Slices.{block_count}
use Rattle.jv_client.proofs.client.Client.flush_on.Goals as goal

pub returns-then-upload-eq0 : goal.returns-then-upload-eq0
returns-then-upload-eq0 g c entry = c.ask_number.ensures entry _ _

pub returns-then-upload-blocks_of : goal.returns-then-upload-blocks_of
returns-then-upload-blocks_of g c entry = c.put.ensures entry _

-- more requests were made than the segment has blocks
pub returns : goal.returns
returns g c entry =
    c.commit.ensures entry _ _
    (subst (λ (s : Setting). block_count c.args.at.len s.block < c.upload-upload.result.quiets) c.setting.ensures
    (let count = c.blocks_of.ensures.count in omega (arith, count)))
