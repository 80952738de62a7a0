use Rattle.jv_cmd.proofs.asked.ProgramLaws.{parsed, refused}
use Rattle.jv_cmd.proofs.words.read.parse.Goals as goal

pub returns-in-Ok : goal.returns-in-Ok
returns-in-Ok c = parsed _ _ c.in-Ok.matches c.in_ok-program.ensures.reads c.in-Ok.ensures.kinds c.in-Ok.ensures.matches

pub returns-in-Err : goal.returns-in-Err
returns-in-Err c = refused _ _ c.in-Err.error c.refused_by_clap.result c.in_ok-program.ensures.reads c.in-Err.ensures.kinds c.refused_by_clap.ensures.memory c.refused_by_clap.ensures.feed
