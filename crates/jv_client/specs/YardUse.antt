-- What a step does to the yard: which block it put, if any, and that all else stays.
use Rattle.std.specs.Prelude.{◌≡◌, ℕ, [], ◌∷◌, ◌++◌, Some}
use Rattle.jv_model.specs.declared.act.ActKind.TheVariants.{Quiet}
use Rattle.jv_model.specs.promise.blocks.BlockNames.{IsBlock}
use Rattle.jv_volume_bytes.specs.Flights.{Flight, flight_block}
use Rattle.jv_yard.specs.declared.note.What.TheVariants.{Put}
use Rattle.jv_yard.specs.BlockCalls.{note_of}
use Rattle.jv_yard.specs.promise.YardValue.{YardValue}
use Rattle.jv_client_puts.specs.Putting.{IsNextPut}
use Rattle.jv_client.specs.declared.made.Made.{Made}
use Rattle.jv_client.specs.declared.made.Made.TheVariants.{Request}
use Rattle.jv_client.specs.ClientValue.{ClientValue}
use Rattle.jv_client.specs.Held.{flight_of}

-- Nothing was put: log and objects stay. Or the next block of the slice that the client has in
-- flight was put for it, with its bytes and this moment, the log gains that block, which is one of
-- the volume, and the operation goes on.
pub data PutsOneAtMost (now : ℕ) (h : ClientValue) (made : Made)
    (before after : YardValue) : Type 0 where
  PutsNone : after.log ≡ before.log → after.depot.content ≡ before.depot.content
      → PutsOneAtMost now h made before after
  PutsNext : (flight : Flight) → flight_of h ≡ Some flight → made ≡ Request Quiet
      → IsBlock before.setting.block (flight_block before.setting.block flight flight.put)
      → IsNextPut h.id now flight before after
      → after.log
      ≡ before.log ++ note_of h.id Put (flight_block before.setting.block flight flight.put) ∷ []
      → PutsOneAtMost now h made before after

-- nothing is staged or unstaged
pub record YardUse (now : ℕ) (h : ClientValue) (made : Made)
    (before after : YardValue) : Type 0 where
  pub staged : after.staged ≡ before.staged
  pub puts : PutsOneAtMost now h made before after
