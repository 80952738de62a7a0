use Rattle.std.proofs.Common.{◌≡◌, ◌≢◌, ℕ, List, ◌++◌, ◌/◌, ◌%◌, codes, subst}
use Rattle.std.specs.Prelude.{MatchOption}
use Rattle.std.specs.Fmt.{decimal}
use Rattle.jv_model.specs.promise.blocks.BlockNames.{upper_pair}
use Rattle.jv_slices.proofs.NameEndLaws.{match_none, lacks_last, lacks_mid, ends_three}
use Rattle.jv_slices.proofs.name_parsing.strip_hashed.Goals as goal

pub returns-in_err-slash : goal.returns-in_err-slash
returns-in_err-slash c = match_none c.from_residual.result _ _ c.from_residual.ensures
    (lacks_last c.args.text.now (upper_pair (c.args.id % 256)) (codes "/") (decimal (c.args.id / 1000 / 1000)) c.in_err-slash.ensures)

pub returns-in_err-pair : goal.returns-in_err-pair
returns-in_err-pair c = match_none c.from_residual-in_err-pair.result _ _ c.from_residual-in_err-pair.ensures
    (lacks_mid c.args.text.now c.in_ok-slash.slash.now (upper_pair (c.args.id % 256)) (codes "/") (decimal (c.args.id / 1000 / 1000)) c.in_ok-slash.ensures c.in_err-pair.ensures)

pub returns : goal.returns
returns c = ends_three c.args.text.now c.in_ok-slash.slash.now c.in_ok-pair.pair.now (upper_pair (c.args.id % 256)) (codes "/") (decimal (c.args.id / 1000 / 1000)) c.strip_end-2.result c.in_ok-slash.ensures c.in_ok-pair.ensures
    (subst (λ (pair : List ℕ). MatchOption c.strip_end-2.result ((front : List ℕ) → c.in_ok-pair.pair.now ≢ front ++ pair) (λ front. c.in_ok-pair.pair.now ≡ front.now ++ pair)) c.upper_pair.ensures c.strip_end-2.ensures)
