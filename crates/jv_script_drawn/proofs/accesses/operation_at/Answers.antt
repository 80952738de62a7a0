use Rattle.std.proofs.Common.{◌≡◌, ℕ, ◌-◌, false, Some, slice_get, ap, sym, subst, ◌∙◌, arith}
use Rattle.std.proofs.lemmas.Result.{IfOk-weaker}
use Rattle.jv_model.specs.declared.op.Op.{Op}
use Rattle.jv_model.specs.declared.op.Op.TheVariants.{Mount}
use Rattle.jv_script_drawn.specs.declared.accesses.TheConstants.{FILES}
use Rattle.jv_script_drawn.specs.promise.Script.{create_line, access, script, on_client}
use Rattle.jv_script_drawn.proofs.ScriptLaws.{line-mount, line-create, line-access, line-flush}
use Rattle.jv_script_drawn.proofs.accesses.operation_at.Goals as goal

pub returns-then-index-eq0 : goal.returns-then-index-eq0
returns-then-index-eq0 c = λ seed h.
    subst (λ (i : ℕ). slice_get (script seed) i ≡ Some (on_client (Mount false))) (sym c.if-index-eq0.true) (line-mount seed)

pub returns-then-index-le-FILES : goal.returns-then-index-le-FILES
returns-then-index-le-FILES c =
    let i = c.args.index - 1 in
    IfOk-weaker c.create.result (λ op. op ≡ create_line i) _
    (λ op e seed h. line-create seed c.args.index i (omega arith) (omega arith) ∙ ap (λ (o : Op). Some (on_client o)) (sym e))
    c.create.ensures

pub returns-then-index : goal.returns-then-index
returns-then-index c =
    let k = c.args.index - FILES in
    IfOk-weaker c.access.result (λ op. op ≡ access k c.args.x) _
    (λ op e seed h. line-access seed c.args.index k c.args.x (omega arith) (omega arith) (omega arith) h
    ∙ ap (λ (o : Op). Some (on_client o)) (sym e))
    c.access.ensures

pub returns-else-index : goal.returns-else-index
returns-else-index c = λ seed h.
    let handle = c.from-handle.result in
    line-flush seed c.args.index handle (omega arith) (omega arith) (omega arith)
