-- What holds of a client and of its steps while each block goes to the depot at once and none is
-- removed.
use Rattle.std.specs.Prelude.{◌≡◌}
use Rattle.jv_client_shared.specs.promise.Shared.{Shared}

-- the shelf has the blocks that it had
abbrev pub KeepsShelf : Shared → Shared → Type 0
KeepsShelf before after = after.yard.shelf.content ≡ before.yard.shelf.content
