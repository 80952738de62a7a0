-- What lines that were run have done: none at first, and one line more.
use Rattle.std.proofs.Common.{◌≡◌, ℕ, ◌+◌, ◌≤◌, ◌<◌, IsSomeAnd, IfSome, All, List, [], ◌∷◌, ◌++◌, length, Option, refl, sym, ap, subst, ◌∙◌, arith}
use Rattle.std.proofs.lemmas.List.{append_assoc, length_push}
use Rattle.std.proofs.lemmas.List.Elements.{All-push}
use Rattle.std.specs.Io.KnownBytes.{prepend_known}
use Rattle.jv_model.specs.declared.fault.Device.{Device}
use Rattle.jv_model.specs.declared.limits.TheConstants.{MAX_LINE, MAX_LINES}
use Rattle.jv_model.specs.declared.op.Line.{Line}
use Rattle.jv_model.specs.declared.setting.Setting.{Setting}
use Rattle.jv_model.specs.promise.journal.Past.{at_start}
use Rattle.jv_model_laws.proofs.JournalGrowthLaws.{begun_to-begun}
use Rattle.jv_outside.proofs.StreamLaws.{Gains-nil}
use Rattle.jv_outside.proofs.TicksLaws.{Passes-trans, Passes-zero}
use Rattle.jv_volume_bytes.proofs.BlockLaws.{grows-then}
use Rattle.jv_client_shared.specs.promise.Shared.{depot_in}
use Rattle.jv_client.specs.Makes.{faults_of}
use Rattle.jv_session.specs.promise.Direct.{BlocksStay}
use Rattle.jv_session.specs.Lines.{LineUses}
use Rattle.jv_session.specs.promise.Lines.{device_failures}
use Rattle.jv_session.specs.Stands.{ScheduleValue, fresh_schedule}
use Rattle.jv_session.proofs.UsesLaws.{blocks_stay, both_failures, no_failures, rose_times-then, stays_none, stays_then}
use Rattle.jv_cmd.specs.promise.Run.{Beginning, IsBuilt, IsKnownClock, StartsWhole, session_run, up_to}
use Rattle.jv_cmd.specs.promise.Stages.{StageValue}
use Rattle.jv_cmd.specs.Steps.{Advances, AreBetween, Done, DoneOn, Going, Goes, HasUsed, IsAt, ReadsBuilt, Reaches, used}
use Rattle.jv_cmd.specs.promise.Texts.{texts_of}
use Rattle.jv_cmd.proofs.runs.ActLaws.{AreBetween-append, AreBetween-wider}
use Rattle.jv_cmd.proofs.runs.EntryLaws.{Enters, Enters-goes, OfNext, OfNext-settled, comes, comes_settled, failures_more, there, up_to-now}
use Rattle.jv_cmd.proofs.runs.FreshLaws.{Stands-start}
use Rattle.jv_cmd.proofs.streams.ReadingLaws.{IsKnownClock-earlier, each_more, first_more, none_read, prepend_none, short_more}
use Rattle.jv_cmd.proofs.runs.StepLaws.{Reaches-more}

-- what is used of devices

HasUsed-none : (before : StageValue) → before.journal ≡ [] → HasUsed before before 0 no_failures
HasUsed-none before empty =
    record {
      passes = Passes-zero before.clock.answers;
      stays = stays_none before.devices;
      counts = λ device. refl;
      counted = λ device. ap (device_failures device) empty;
    }

pub HasUsed-line : (before now after : StageValue) (s s' : ScheduleValue) (asked asks : ℕ) (failed more : Device → ℕ)
    → HasUsed before now asked failed → LineUses (used now s) (used after s') asks more
    → HasUsed before after (asked + asks) (both_failures failed more)
HasUsed-line before now after s s' asked asks failed more done uses = record {
  passes = Passes-trans before.clock.answers now.clock.answers after.clock.answers asked asks done.passes uses.passes;
  stays = stays_then before.devices now.devices after.devices done.stays uses.stays;
  counts = λ device. rose_times-then (failed device) (more device) (faults_of device before.devices) (faults_of device now.devices)
      (faults_of device after.devices) (done.counts device) (uses.counts device);
  counted = failures_more now.journal after.journal failed more done.counted uses.answers;
}

-- one line more, where the run began on a whole volume
module _ (left : Option (List ℕ)) (before now after : StageValue) (n : ℕ) (text printed : List ℕ) (line : Line)
    (s s' : ScheduleValue) (d : Done left before now n text s)
    (a : Advances line (n + 1) now after s s' printed) (start : Beginning)
    (w : StartsWhole before start) where
  OfNext-done : OfNext n now.journal after.journal
  OfNext-done = OfNext-settled left before now after n text line s d start w
      (comes_settled left before now after n text line s s' d a.asks a.uses.passes start w
      (λ p more. Enters p (n + 1) now.journal after.journal)
      (λ p more stands next rest count clock.
      Enters-goes p more (n + 1) a.asks now.journal after.journal printed s' after.devices
      (a.goes p more stands next rest count clock)))

  earlier_done : (known : Option (ℕ → ℕ)) → IsKnownClock known before.clock after.clock
      → IsKnownClock known before.clock now.clock
  earlier_done known t = IsKnownClock-earlier known before now after a.asks a.uses.passes t

  goes_there : (known : Option (ℕ → ℕ)) (more : List Line) (status : ℕ) → IsKnownClock known before.clock after.clock
      → Goes (there start known (d.lines ++ line ∷ more) status n now.journal) more
      (n + 1) a.asks now.journal after.journal printed s' after.devices
  goes_there known more status t =
      comes left before now after n text line s s' d a.asks a.uses.passes start w
      (λ p rest. Goes p rest (n + 1) a.asks now.journal after.journal printed s' after.devices) a.goes
      known more status t

  DoneOn-more : DoneOn start before after (d.lines ++ line ∷ []) (n + 1) (d.asked + a.asks) (text ++ printed) s'
  DoneOn-more =
      let o = OfNext-done in
      let on = d.whole start w in
      record {
        own = subst (λ journal. AreBetween 0 (n + 1) journal) (sym o.grows)
            (AreBetween-append 0 (n + 1) now.journal o.acts
            (AreBetween-wider 0 n 0 (n + 1) now.journal (omega arith) (omega arith) on.own)
            (AreBetween-wider (n + 1) (n + 1) 0 (n + 1) o.acts (omega arith) (omega arith) o.own));
        direct = grows-then (depot_in before.devices) (depot_in now.devices) (depot_in after.devices) on.direct
            (comes_settled left before now after n text line s s' d a.asks a.uses.passes start w
            (λ p more. BlocksStay now.devices after.devices) a.direct);
        reaches = λ known more status t.
            let run = session_run start known (d.lines ++ line ∷ more) status in
            subst (λ lines. Reaches (session_run start known lines status) more (n + 1) (d.asked + a.asks)
            (text ++ printed) after.journal s' after.devices) (sym (append_assoc d.lines (line ∷ []) more))
            (Reaches-more run line more n d.asked a.asks text printed now.journal after.journal s s'
            now.devices after.devices (on.reaches known (line ∷ more) status (earlier_done known t))
            (goes_there known more status t));
      }

-- the lines up to there, with the line added, and the entries of the lines before it
pub record DoneMore (left' : Option (List ℕ)) (before now after : StageValue) (n : ℕ) (text : List ℕ) (lines : List Line)
    (line : Line) (s' : ScheduleValue) : Type 0 where
  pub lines_done : Done left' before after (n + 1) text s'
  pub added : lines_done.lines ≡ lines ++ line ∷ []
  pub earlier : (start : Beginning) → StartsWhole before start → up_to n after.journal ≡ now.journal

pub built_more : (left : Option (List ℕ)) (before now : StageValue) (n : ℕ) (text bytes : List ℕ) (line : Line) (s : ScheduleValue)
    (d : Done left before now n text s) → ReadsBuilt bytes s.limits line → All (IsBuilt before.limits) (d.lines ++ line ∷ [])
built_more left before now n text bytes line s d read =
    All-push (IsBuilt before.limits) d.lines line d.built (subst (λ limits. IsBuilt limits line) d.limits read.built)

-- one line more
pub Done-more : (left left' : Option (List ℕ)) (before now after : StageValue) (n : ℕ)
    (text printed bytes_of_line : List ℕ) (line : Line) (s s' : ScheduleValue)
    (d : Done left before now n text s) → n < MAX_LINES → ReadsBuilt bytes_of_line s.limits line
    → length bytes_of_line ≤ MAX_LINE
    → IfSome left (λ all. IsSomeAnd left' (λ rest. texts_of all ≡ bytes_of_line ∷ texts_of rest))
    → Advances line (n + 1) now after s s' printed
    → DoneMore left' before now after n (text ++ printed) d.lines line s'
Done-more left left' before now after n text printed bytes_of_line line s s' d room read short next a =
    let done : Done left' before after (n + 1) (text ++ printed) s' = record {
      texts = d.texts ++ bytes_of_line ∷ [];
      lines = d.lines ++ line ∷ [];
      asked = d.asked + a.asks;
      failed = both_failures d.failed a.failed;
      count = length_push d.lines line ∙ ap (λ k. k + 1) d.count;
      each = each_more d.texts d.lines bytes_of_line line d.each read.read;
      few = omega (arith, room);
      short = short_more d.texts bytes_of_line d.short short;
      built = built_more left before now n text bytes_of_line line s d read;
      first = first_more before.source.content left left' d.texts bytes_of_line d.first next;
      uses = HasUsed-line before now after s s' d.asked a.asks d.failed a.failed d.uses a.uses;
      limits = a.uses.limits ∙ d.limits;
      whole = DoneOn-more left before now after n text printed line s s' d a;
    } in
    record {
      lines_done = done;
      added = refl;
      earlier = λ start w. sym (up_to-now n now.journal after.journal
          (OfNext-done left before now after n text printed line s s' d a start w) (d.whole start w).own);
    }

-- nothing has come yet

DoneOn-start : (start : Beginning) (before : StageValue) (setting : Setting) → before.journal ≡ []
    → before.devices.yard.setting ≡ setting → StartsWhole before start
    → DoneOn start before before [] 0 0 [] (fresh_schedule setting before.limits)
DoneOn-start start before setting empty is w = record {
  own = subst (λ journal. AreBetween 0 0 journal) (sym empty) tt;
  direct = blocks_stay before.devices before.devices refl;
  reaches = λ known more status t.
      let run = session_run start known more status in
      let s = fresh_schedule setting before.limits in
      subst (λ journal. Reaches run more 0 0 [] journal s before.devices) (sym empty) (record {
        allowed = tt;
        at = subst (λ q. IsAt q run more 0 0 0 [] s before.devices) (sym (begun_to-begun 0 (at_start run) (omega arith)))
            (record {
              line = refl;
              stands = Stands-start start before setting known more status w is;
              same_run = refl;
              rest = refl;
              count = refl;
              asked = refl;
              text = refl;
            });
      });
}

pub Done-start : (before : StageValue) (setting : Setting) → before.journal ≡ [] → before.devices.yard.setting ≡ setting
    → Done before.source.content before before 0 [] (fresh_schedule setting before.limits)
Done-start before setting empty is = record {
  texts = [];
  lines = [];
  asked = 0;
  failed = no_failures;
  count = refl;
  each = refl;
  few = omega arith;
  short = λ k d below. absurd (omega (arith, below));
  built = λ k d below. absurd (omega (arith, below));
  first = none_read before.source.content;
  uses = HasUsed-none before empty;
  limits = refl;
  whole = λ start w. DoneOn-start start before setting empty is w;
}

Going-start : (before : StageValue) (setting : Setting) → before.journal ≡ [] → before.devices.yard.setting ≡ setting
    → Going before.source.content before before 0 (fresh_schedule setting before.limits)
Going-start before setting empty is = record {
  text = [];
  lines_done = Done-start before setting empty is;
  gains = Gains-nil before.out.content;
  calm = record { source = refl; out = refl; clock = refl };
}

-- the same, over a reader that holds nothing and a schedule that has done nothing
pub Going-first : (before : StageValue) (setting : Setting) (held : List ℕ) (s : ScheduleValue) → before.journal ≡ []
    → before.devices.yard.setting ≡ setting → held ≡ [] → s ≡ fresh_schedule setting before.limits
    → Going (prepend_known held before.source.content) before before 0 s
Going-first before setting held s empty is nothing fresh =
    subst (λ at. Going (prepend_known held before.source.content) before before 0 at) (sym fresh)
    (subst (λ left. Going left before before 0 (fresh_schedule setting before.limits))
    (prepend_none before.source.content ∙ ap (λ h. prepend_known h before.source.content) (sym nothing))
    (Going-start before setting empty is))
