-- What it keeps are records: those that it had, and those of the view.
use Rattle.jv_client_handles.proofs.RecordLaws.{records-kept}
use Rattle.jv_client_handles.proofs.views.Views.set.Goals as goal

pub invariant_of-self : goal.invariant_of-self
invariant_of-self c =
    records-kept c.insert.result c.args.window c.args.view c.self.inside.by_window.entries c.insert.new.self.entries
    c.insert.ensures.entries
    c.insert.ensures.err c.self.invariant c.requires
