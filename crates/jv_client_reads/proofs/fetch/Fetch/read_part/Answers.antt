use Rattle.std.proofs.Common.{Option, ℕ, subst}
use Rattle.jv_client_reads.specs.Inside.{BeginsPart}
use Rattle.jv_client_reads.proofs.GoingLaws.{goes_by_begun, goes_first, stops_by_begun}
use Rattle.jv_client_reads.proofs.fetch.Fetch.read_part.Goals as goal

pub returns-in-Some-clause-goes : goal.returns-in-Some-clause-goes
returns-in-Some-clause-goes c =
    goes_first c.args.views.now c.args.cache.now c.args.self.now c.begin_part.new.self c.in-Some.window
    (subst (λ (o : Option ℕ). BeginsPart c.args.views.now c.args.self.now c.begin_part.new.self o) c.in-Some.is
    c.in_ok-window.ensures.begins)

pub returns-clause-goes : goal.returns-clause-goes
returns-clause-goes c =
    goes_by_begun c.args.views.now c.args.cache.now c.go_on.new.cache c.args.self.now c.begin_part.new.self
    c.go_on.new.self c.go_on.result
    (subst (λ (o : Option ℕ). BeginsPart c.args.views.now c.args.self.now c.begin_part.new.self o) c.in_default.is
    c.in_ok-window.ensures.begins)
    c.go_on.ensures

pub returns-clause-stops : goal.returns-clause-stops
returns-clause-stops c =
    stops_by_begun c.args.views.now c.args.cache.now c.go_on.new.cache c.args.self.now c.begin_part.new.self
    c.go_on.new.self c.go_on.result
    (subst (λ (o : Option ℕ). BeginsPart c.args.views.now c.args.self.now c.begin_part.new.self o) c.in_default.is
    c.in_ok-window.ensures.begins)
    c.go_on.ensures
