use Rattle.std.proofs.Common.{◌/◌, codes}
use Rattle.std.specs.Fmt.{decimal}
use Rattle.jv_slices.proofs.NameEndLaws.{match_none, lacks_last, lacks_mid, ends_three}
use Rattle.jv_slices.proofs.name_parsing.strip_plain.Goals as goal

pub returns-in_err-slash : goal.returns-in_err-slash
returns-in_err-slash c = match_none c.from_residual.result _ _ c.from_residual.ensures
    (lacks_last c.args.text.now (decimal (c.args.id / 1000 / 1000)) (codes "/") (decimal (c.args.id / 1000)) c.in_err-slash.ensures)

pub returns-in_err-millions : goal.returns-in_err-millions
returns-in_err-millions c = match_none c.from_residual-in_err-millions.result _ _ c.from_residual-in_err-millions.ensures
    (lacks_mid c.args.text.now c.in_ok-slash.slash.now (decimal (c.args.id / 1000 / 1000)) (codes "/") (decimal (c.args.id / 1000)) c.in_ok-slash.ensures c.in_err-millions.ensures)

pub returns : goal.returns
returns c = ends_three c.args.text.now c.in_ok-slash.slash.now c.in_ok-millions.millions.now (decimal (c.args.id / 1000 / 1000)) (codes "/") (decimal (c.args.id / 1000)) c.strip_decimal-2.result c.in_ok-slash.ensures c.in_ok-millions.ensures c.strip_decimal-2.ensures
