-- When entries of a client are one step, and what that step leaves.
use Rattle.std.specs.Prelude.{ℕ, Bool, true, List, length, Some}
use Rattle.jv_model.specs.declared.act.ActKind.{ActKind}
use Rattle.jv_model.specs.declared.op.Step.{Step}
use Rattle.jv_model.specs.promise.tree.Tree.{Tree}
use Rattle.jv_model.specs.promise.client.ModelClient.{ModelClient, Doing, Stage}
use Rattle.jv_model.specs.promise.journal.State.{State}
use Rattle.jv_model.specs.promise.journal.Steps.{Start}
use Rattle.jv_model.specs.journal.Stepping.{AllowsStep, stepped_by}
use Rattle.jv_model_steps.specs.Leaves.{Leaves}

-- A client may make these entries as one step, which leaves this tree, this client, and `copied`
-- bytes copied in all.
pub record IsStep (start : Start) (alone : Bool) (s : State) (client now : ℕ) (kinds : List ActKind)
    (step : Step)
    (t : Tree) (c : ModelClient) (copied : ℕ) : Type 0 where
  pub allows : AllowsStep start alone s client now kinds step
  pub leaves : Leaves s (stepped_by s client now kinds) client (length kinds) t c copied

-- the client, whose operation made a request and is at this stage
abbrev pub at_stage : Stage → Doing → ModelClient → ModelClient
at_stage stage d c = record c { doing = Some (record d { stage = stage; moved = true }) }
