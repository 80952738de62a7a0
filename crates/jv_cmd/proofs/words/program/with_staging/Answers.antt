use Rattle.std.proofs.Common.{refl}
use Rattle.jv_cmd.proofs.asked.AppLaws.{adds, adds_last}
use Rattle.jv_cmd.proofs.words.program.with_staging.Goals as goal

pub returns : goal.returns
returns c =
    let e1 = adds _ _ _ _ c.in_ok-command.command c.in_ok-command.ensures refl c.flag-writeback.ensures.reads in
    adds_last _ _ _ _ c.with_arg-2.result c.with_arg-2.ensures e1 c.option-folder.ensures.reads
