use Rattle.std.proofs.Common.{◌≡◌, ℕ, List, ◌++◌, drop, true, ap, ◌∙◌}
use Rattle.std.proofs.lemmas.Result.{err_from_is_err_and}
use Rattle.jv_model.specs.promise.tree.Walk.{names_of, is_absolute}
use Rattle.jv_rows.proofs.walks.CourseLaws.{goes_from_root, root_fails}
use Rattle.jv_rows.proofs.walking.by_target.Goals as goal

pub returns-in_err-from : goal.returns-in_err-from
returns-in_err-from g c =
    let p = err_from_is_err_and c.from_residual-in_err-from.result c.from_residual-in_err-from.ensures.1 in
    rw (p.1, p.2) (root_fails c.args.dir.inode c.args.target.now (drop c.args.behind c.args.names.now) c.in_err-from.field-0.0 c.in_err-from.ensures)

pub returns-in_ok-from : goal.returns-in_ok-from
returns-in_ok-from g c =
    let absolute : is_absolute c.args.target.now ≡ true = cc in
    let all : c.append.new.all ≡ names_of c.args.target.now ++ drop c.args.behind c.args.names.now =
    c.in_ok-append.ensures ∙ ap (λ (first : List (List ℕ)). first ++ drop c.args.behind c.args.names.now) (c.in_ok-all.ensures ∙ ap names_of c.as_slice.ensures) in
    goes_from_root c.args.dir.inode c.args.target.now (drop c.args.behind c.args.names.now) c.append.new.all c.in_ok-from.from absolute all c.in_ok-from.ensures
