-- What the entries of one client's step leave of the model's state.
use Rattle.std.specs.Prelude.{◌≡◌, ◌≢◌, ℕ, ◌+◌}
use Rattle.jv_model.specs.promise.tree.Tree.{Tree}
use Rattle.jv_model.specs.promise.client.ModelClient.{ModelClient}
use Rattle.jv_model.specs.promise.journal.State.{State}

-- After the entries of a client's step: the tree, the client, how many bytes were copied in all;
-- other clients are as before.
pub record Leaves (s s' : State) (client entries : ℕ) (t : Tree) (c : ModelClient)
    (copied : ℕ) : Type 0 where
  pub tree : s'.tree ≡ t
  pub own : s'.clients client ≡ c
  pub others : (other : ℕ) → other ≢ client → s'.clients other ≡ s.clients other
  pub count : s'.count ≡ s.count + entries
  pub copied_is : s'.copied ≡ copied
