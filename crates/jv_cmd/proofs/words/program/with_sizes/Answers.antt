use Rattle.std.proofs.Common.{refl}
use Rattle.jv_cmd.proofs.asked.AppLaws.{adds, adds_last}
use Rattle.jv_cmd.proofs.words.program.with_sizes.Goals as goal

pub returns : goal.returns
returns c =
    let e1 = adds _ _ _ _ c.in_ok-command.command c.in_ok-command.ensures refl c.option-cache.ensures.reads in
    let e2 = adds _ _ _ _ c.in_ok-command-2.command c.in_ok-command-2.ensures e1 c.option-buffer.ensures.reads in
    adds_last _ _ _ _ c.with_arg-3.result c.with_arg-3.ensures e2 c.option-uploads.ensures.reads
