use Rattle.std.proofs.Common.{is_some, true, false, refl, sym, ap, subst, ◌∙◌}
use Rattle.jv_model.proofs.TestLaws.{none_if}
use Rattle.jv_client_handles.proofs.TableLaws.{the_some}
use Rattle.jv_client_reads.specs.declared.begun.Start.{Start}
use Rattle.jv_client_reads.specs.declared.fetch.FetchCourse.{FetchCourse}
use Rattle.jv_client_reads.specs.Fetching.{Fetching}
use Rattle.jv_client_reads.specs.Inside.{BeginsNow, HadBegun, IsOver, LooksFirst, Starts, parts_of}
use Rattle.jv_client_reads.proofs.fetch.Fetch.begin_part.Goals as goal

pub returns-then-is_some-clause-begins : goal.returns-then-is_some-clause-begins
returns-then-is_some-clause-begins c =
    let had = the_some c.args.self.now.begun
    (ap (λ (f : Fetching). is_some f.begun) (sym c.self.view_is) ∙ ap (λ (course : FetchCourse). is_some course.begun) (sym c.deref.ensures)
    ∙ sym c.is_some.ensures ∙ c.if-is_some.true) in
    HadBegun had.0 had.1 refl

pub returns-in-Over-clause-begins : goal.returns-in-Over-clause-begins
returns-in-Over-clause-begins c = IsOver (none_if c.args.self.now.begun
    (ap (λ (f : Fetching). is_some f.begun) (sym c.self.view_is) ∙ ap (λ (course : FetchCourse). is_some course.begun) (sym c.deref.ensures)
    ∙ sym c.is_some.ensures ∙ c.if-is_some.false))
    (subst (λ (s : Start). Starts c.args.views.now c.args.self.now.block c.args.self.now.parts s) c.in-Over.is (subst (λ (f : Fetching). Starts c.args.views.now f.block f.parts c.in_ok-begin_first.field-0) c.self.view_is
    (subst (λ (course : FetchCourse). Starts c.args.views.now c.self.inside.block (parts_of course.parts) c.in_ok-begin_first.field-0)
    c.deref-2.ensures c.in_ok-begin_first.ensures))) refl

pub returns-in-Look-clause-begins : goal.returns-in-Look-clause-begins
returns-in-Look-clause-begins c = LooksFirst c.in-Look.window (none_if c.args.self.now.begun
    (ap (λ (f : Fetching). is_some f.begun) (sym c.self.view_is) ∙ ap (λ (course : FetchCourse). is_some course.begun) (sym c.deref.ensures)
    ∙ sym c.is_some.ensures ∙ c.if-is_some.false))
    (subst (λ (s : Start). Starts c.args.views.now c.args.self.now.block c.args.self.now.parts s) c.in-Look.is (subst (λ (f : Fetching). Starts c.args.views.now f.block f.parts c.in_ok-begin_first.field-0) c.self.view_is
    (subst (λ (course : FetchCourse). Starts c.args.views.now c.self.inside.block (parts_of course.parts) c.in_ok-begin_first.field-0)
    c.deref-2.ensures c.in_ok-begin_first.ensures))) refl

pub returns-in-Begun-clause-begins : goal.returns-in-Begun-clause-begins
returns-in-Begun-clause-begins c = BeginsNow c.in-Begun.begun (none_if c.args.self.now.begun
    (ap (λ (f : Fetching). is_some f.begun) (sym c.self.view_is) ∙ ap (λ (course : FetchCourse). is_some course.begun) (sym c.deref.ensures)
    ∙ sym c.is_some.ensures ∙ c.if-is_some.false))
    (subst (λ (s : Start). Starts c.args.views.now c.args.self.now.block c.args.self.now.parts s) c.in-Begun.is (subst (λ (f : Fetching). Starts c.args.views.now f.block f.parts c.in_ok-begin_first.field-0) c.self.view_is
    (subst (λ (course : FetchCourse). Starts c.args.views.now c.self.inside.block (parts_of course.parts) c.in_ok-begin_first.field-0)
    c.deref-2.ensures c.in_ok-begin_first.ensures)))
    c.wait.ensures
