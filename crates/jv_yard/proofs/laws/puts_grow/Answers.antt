use Rattle.jv_yard.proofs.ContentsLaws.{put-same, put-grows_new}
use Rattle.jv_yard.proofs.laws.puts_grow.Goals as goal

pub returns : goal.returns
returns c setting small objects b bytes at is = (put-same setting small objects b bytes at is, put-grows_new setting small objects b bytes at is)
