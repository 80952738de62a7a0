use Rattle.std.proofs.Common.{List, ℕ, subst}
use Rattle.jv_cmd.specs.promise.Saying.{Says}
use Rattle.jv_cmd.proofs.words.refusal.refuse.Goals as goal

pub returns-clause-says : goal.returns-clause-says
returns-clause-says g c =
    subst (λ (text : List ℕ). Says (g.E.Sink.seen c.args.err.now) (g.E.Sink.seen c.say.new.err) text)
    c.as_bytes.ensures.value c.say.ensures
