-- Operations and their clients between one request and the next.
use Rattle.std.specs.Prelude.{◌≡◌, ℕ, ◌+◌, Bool, true, false, ◌++◌}
use Rattle.jv_model.specs.declared.profile.Does.{Does}
use Rattle.jv_model.specs.declared.profile.Does.TheVariants.{Truncates, Copies}
use Rattle.jv_model.specs.promise.tree.Caller.{Outcome}
use Rattle.jv_model.specs.promise.client.ModelClient.{ModelClient, Doing, Working, Reading}
use Rattle.jv_model.specs.promise.client.Submission.{is_flushed}
use Rattle.jv_model.specs.promise.journal.State.{State, gift_of, given, newly_sustained, next_entry}

-- the client with what the reply of its transaction handed to it, and with the files that its
-- session keeps from then on
abbrev pub handed : State → Doing → Outcome → ModelClient → ModelClient
handed s d out c = given (next_entry s) d.does (gift_of out.reply)
    (record c { sustained = newly_sustained s.tree out.tree c ++ c.sustained })

-- the operations that change the bytes of files in one transaction
abbrev pub changes_files : Does → Bool
changes_files Truncates = true
changes_files Copies = true
changes_files _ = false

-- A reading may go on: all that it flushes is committed and it asked for nothing since; or it made
-- a request, and missed this many blocks.
pub data MayRead (c : ModelClient) (d : Doing) (misses : ℕ) : Type 0 where
  Begins : (started : ℕ) → d.stage ≡ Working 0 started → is_flushed d.flush c.pending ≡ true
      → misses ≡ 0
      → MayRead c d misses
  GoesOn : d.stage ≡ Reading misses → MayRead c d misses
