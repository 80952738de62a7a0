-- How the run of a script ended, by how its lines did.
use Rattle.std.proofs.Common.{◌≡◌, ℕ, false, List, [], Option, None, Some, IsSomeAnd, refl, sym, ap, subst, arith}
use Rattle.jv_model.specs.declared.setting.Setting.{Setting}
use Rattle.jv_outside.specs.promise.Causes.{RoseIf}
use Rattle.jv_outside.specs.promise.Stream.{Stream, HasAll, IsCut}
use Rattle.jv_cmd.specs.declared.ended.Ended.{Ended}
use Rattle.jv_cmd.specs.declared.ended.Ended.TheVariants.{Succeeded, LineNotRun, NoVolume, VolumeExists, NewerVersion, MalformedSetting, BadRow, SourceFailed, OutFailed, ClockFailed, KeeperFailed, DepotFailed, CarrierFailed, ShelfFailed, OutOfMemory}
use Rattle.jv_cmd.specs.promise.Faults.{CountsFaults, out_failed, source_failed}
use Rattle.jv_cmd.specs.Faults.{on_stage}
use Rattle.jv_cmd.specs.Generating.{EndsScript}
use Rattle.jv_cmd.specs.promise.Generating.{PrintsSummary, SumsUp, script_text, summary_of, with_streams}
use Rattle.jv_cmd.specs.promise.Stages.{StageValue}
use Rattle.jv_cmd.proofs.drawn_scripts.DrawnEndLaws.{drawn_runs}
use Rattle.jv_cmd.proofs.runs.ReachedLaws.{EndsScript-none}

all_calm : (said : Option (List ℕ)) (before after : Stream) (line : List ℕ → List ℕ) → IsSomeAnd said (λ text. HasAll before after (line text))
    → after.faults ≡ before.faults
all_calm None before after line h = absurd h
all_calm (Some text) before after line h = h.calm

cut_rose : (said : Option (List ℕ)) (before after : Stream) (line : List ℕ → List ℕ) → IsSomeAnd said (λ text. IsCut before after (line text))
    → RoseIf (out_failed OutFailed) before.faults after.faults
cut_rose None before after line h = absurd h
cut_rose (Some text) before after line h = h.rose

-- a script whose text was the source, and whose answers were kept
module _ (seed : ℕ) (before after : StageValue) (left said : Option (List ℕ)) (source : after.source ≡ before.source) where
  abbrev pub Inner : Ended → Type 0
  Inner ran = EndsScript None (with_streams (Some (script_text seed)) (Some []) before) (with_streams left said after) ran

  calm_source : after.source.faults ≡ before.source.faults
  calm_source = ap (λ (stream : Stream). stream.faults) source

  -- the run ended before its last line
  same_faults : (ran ended : Ended) → Inner ran → source_failed ran ≡ false → out_failed ran ≡ false → ended ≡ ran → after.out ≡ before.out
      → CountsFaults ended (on_stage before) (on_stage after)
  same_faults ran ended e no_source no_out is same =
      subst (λ (x : Ended). CountsFaults x (on_stage before) (on_stage after)) (sym is) (record {
        source = subst (λ failed. RoseIf failed before.source.faults after.source.faults) (sym no_source) calm_source;
        out = subst (λ failed. RoseIf failed before.out.faults after.out.faults) (sym no_out)
            (ap (λ (stream : Stream). stream.faults) same);
        clock = e.faults.clock;
      })

  -- all lines were run
  succeeded_faults : (ended : Ended) → Inner Succeeded → SumsUp seed said before.out after.out ended
      → CountsFaults ended (on_stage before) (on_stage after)
  succeeded_faults Succeeded e h = record { source = calm_source; out = all_calm said before.out after.out (summary_of seed) h; clock = e.faults.clock }
  succeeded_faults OutFailed e h = record { source = calm_source; out = cut_rose said before.out after.out (summary_of seed) h; clock = e.faults.clock }
  succeeded_faults OutOfMemory e h = record { source = calm_source; out = ap (λ (stream : Stream). stream.faults) h; clock = e.faults.clock }
  succeeded_faults (LineNotRun number) e h = absurd h
  succeeded_faults NoVolume e h = absurd h
  succeeded_faults VolumeExists e h = absurd h
  succeeded_faults (NewerVersion version) e h = absurd h
  succeeded_faults MalformedSetting e h = absurd h
  succeeded_faults (BadRow key bytes) e h = absurd h
  succeeded_faults SourceFailed e h = absurd h
  succeeded_faults ClockFailed e h = absurd h
  succeeded_faults KeeperFailed e h = absurd h
  succeeded_faults DepotFailed e h = absurd h
  succeeded_faults CarrierFailed e h = absurd h
  succeeded_faults ShelfFailed e h = absurd h

  faults_of_run : (ran ended : Ended) → Inner ran → PrintsSummary seed said before.out after.out ran ended
      → CountsFaults ended (on_stage before) (on_stage after)
  faults_of_run Succeeded ended e h = succeeded_faults ended e h
  faults_of_run (LineNotRun number) ended e h = same_faults (LineNotRun number) ended e refl refl h.0 h.1
  faults_of_run NoVolume ended e h = absurd e.runs.cause
  faults_of_run VolumeExists ended e h = absurd e.runs.cause
  faults_of_run (NewerVersion version) ended e h = absurd e.runs.cause
  faults_of_run MalformedSetting ended e h = absurd e.runs.cause
  faults_of_run (BadRow key bytes) ended e h = same_faults (BadRow key bytes) ended e refl refl h.0 h.1
  faults_of_run SourceFailed ended e h = (let rose = e.faults.source in absurd (omega (arith, rose)))
  faults_of_run OutFailed ended e h = (let rose = e.faults.out in absurd (omega (arith, rose)))
  faults_of_run ClockFailed ended e h = same_faults ClockFailed ended e refl refl h.0 h.1
  faults_of_run KeeperFailed ended e h = absurd e.runs.cause
  faults_of_run DepotFailed ended e h = absurd e.runs.cause
  faults_of_run CarrierFailed ended e h = absurd e.runs.cause
  faults_of_run ShelfFailed ended e h = absurd e.runs.cause
  faults_of_run OutOfMemory ended e h = same_faults OutOfMemory ended e refl refl h.0 h.1

  pub EndsScript-drawn : (ran ended : Ended) → Inner ran → PrintsSummary seed said before.out after.out ran ended
      → EndsScript (Some seed) before after ended
  EndsScript-drawn ran ended e h = record {
    answers = e.answers;
    runs = record {
      ran = ran;
      left = left;
      said = said;
      runs = e.runs;
      prints = h;
      source = source;
      none_off = drawn_runs seed e.answers before after left said ran ended e.runs h;
    };
    faults = faults_of_run ran ended e h;
    stays = e.stays;
    counts = e.counts;
  }

-- over a source and an out in memory, which had the text and nothing
pub EndsScript-kept : (seed : ℕ) (before after : StageValue) (text taken left said : Option (List ℕ)) (ran ended : Ended)
    → after.source ≡ before.source → text ≡ Some (script_text seed) → taken ≡ Some []
    → EndsScript None (with_streams text taken before) (with_streams left said after) ran
    → PrintsSummary seed said before.out after.out ran ended → EndsScript (Some seed) before after ended
EndsScript-kept seed before after text taken left said ran ended source is none e h =
    EndsScript-drawn seed before after left said source ran ended
    (subst (λ (o : Option (List ℕ)). EndsScript None (with_streams o (Some []) before) (with_streams left said after) ran) is
    (subst (λ (o : Option (List ℕ)). EndsScript None (with_streams text o before) (with_streams left said after) ran) none e)) h

-- there was no memory for the text
pub EndsScript-textless : (seed : ℕ) (stage : StageValue) (setting : Setting) → stage.journal ≡ [] → stage.devices.yard.setting ≡ setting
    → EndsScript (Some seed) stage stage OutOfMemory
EndsScript-textless seed stage setting empty is =
    EndsScript-drawn seed stage stage (Some (script_text seed)) (Some []) refl OutOfMemory OutOfMemory
    (EndsScript-none (with_streams (Some (script_text seed)) (Some []) stage) setting empty is) (refl, refl)
