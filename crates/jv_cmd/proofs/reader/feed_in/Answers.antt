use Rattle.jv_cmd.proofs.asked.TextLaws.{first_feed}
use Rattle.jv_cmd.proofs.reader.feed_in.Goals as goal

pub returns : goal.returns
returns c = first_feed c.args.bytes.now c.memchr.result c.memchr.ensures
