-- What only inner contracts cite: of `promise/Direct`.
use Rattle.std.specs.Prelude.{◌≡◌, ℕ, Bool, false, IfSome, List, Option}
use Rattle.std.specs.List.{AllByRecursion}
use Rattle.jv_volume_bytes.specs.promise.Blocks.{Blocks}
use Rattle.jv_client_shared.specs.Direct.{HasNamed}
use Rattle.jv_client_handles.specs.declared.handle.Handle.{Handle}
use Rattle.jv_client_handles.specs.Views.{view_at}

-- the depot has each block that the views of a handle name
abbrev pub HasSeen : ℕ → Blocks → Handle → Type 0
HasSeen block depot handle =
    (window : ℕ) → IfSome (view_at handle.views window) (λ view. HasNamed block depot view.list)

-- the client isn't in writeback mode, and the depot has what its handles' views name
pub record GoesDirect (block : ℕ) (depot : Blocks) (writeback : Bool)
    (handles : List (Option Handle)) : Type 0 where
  pub mode : writeback ≡ false
  pub seen : AllByRecursion (λ place. IfSome place (HasSeen block depot)) handles
