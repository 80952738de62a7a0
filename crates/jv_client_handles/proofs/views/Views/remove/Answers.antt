-- The views that are left have records, as all had.
use Rattle.jv_client_handles.proofs.RecordLaws.{records-left}
use Rattle.jv_client_handles.proofs.views.Views.remove.Goals as goal

pub invariant_of-self : goal.invariant_of-self
invariant_of-self c =
    records-left c.args.window c.self.inside.by_window.entries c.remove.new.self.entries c.remove.ensures.entries
    c.self.invariant
