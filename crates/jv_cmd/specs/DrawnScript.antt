-- What is known of every script that is drawn from a seed.
use Rattle.std.specs.Prelude.{◌≡◌, ℕ, false, All, Some}
use Rattle.jv_model.specs.declared.basics.Limits.{Limits}
use Rattle.jv_script_drawn.specs.promise.Script.{script}
use Rattle.jv_cmd.specs.promise.Generating.{script_text}
use Rattle.jv_cmd.specs.promise.Run.{AreLines, IsBuilt}
use Rattle.jv_cmd.specs.promise.Texts.{texts_of}

-- its text is read as its lines, all of them may be read, and each is built
pub record IsReadBack (limits : Limits) (seed : ℕ) : Type 0 where
  pub lines : AreLines (Some (script_text seed)) (texts_of (script_text seed)) (script seed)
  pub built : All (IsBuilt limits) (script seed)

-- in direct mode
abbrev pub DrawnScriptsAreReadBack : Type 0
DrawnScriptsAreReadBack =
    (limits : Limits) (seed : ℕ) → limits.writeback ≡ false → IsReadBack limits seed
