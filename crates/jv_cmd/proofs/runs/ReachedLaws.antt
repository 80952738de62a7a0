-- What a run has reached after a text, or where the source returned none.
use Rattle.std.proofs.Common.{◌≡◌, ℕ, ◌+◌, ◌≤◌, ◌<◌, IfSome, if◌then◌else◌, true, List, [], ◌∷◌, ◌++◌, length, take, drop, Option, None, Some, Result, Ok, Err, refl, sym, ap, subst, ◌∙◌, arith}
use Rattle.std.proofs.lemmas.List.{length-take-le}
use Rattle.std.specs.Io.KnownBytes.{prepend_known}
use Rattle.jv_model.specs.declared.limits.TheConstants.{MAX_LINE, MAX_LINES}
use Rattle.jv_model.specs.declared.op.Line.{Line}
use Rattle.jv_model.specs.declared.op.Line.TheVariants.{Empty}
use Rattle.jv_model.specs.declared.setting.Setting.{Setting}
use Rattle.jv_model.specs.promise.journal.Legal.{may_be_cut}
use Rattle.jv_model.specs.promise.journal.Past.{at_end, text_of}
use Rattle.jv_model.specs.promise.script.Grammar.{command_of, line_of}
use Rattle.jv_model.specs.promise.script.Spelling.{is_silent, words}
use Rattle.jv_outside.specs.promise.Causes.{Rose}
use Rattle.jv_outside.specs.promise.Stream.{Stream, Gains}
use Rattle.jv_outside.specs.promise.Ticks.{Ticks}
use Rattle.jv_outside.proofs.StreamLaws.{Gains-nil, Gains-trans}
use Rattle.jv_session.specs.Stands.{ScheduleValue, fresh_schedule}
use Rattle.jv_cmd.specs.declared.ended.Ended.{Ended}
use Rattle.jv_cmd.specs.declared.ended.Ended.TheVariants.{Succeeded, LineNotRun, NoVolume, VolumeExists, NewerVersion, MalformedSetting, BadRow, SourceFailed, OutFailed, ClockFailed, KeeperFailed, DepotFailed, CarrierFailed, ShelfFailed, OutOfMemory}
use Rattle.jv_cmd.specs.Cutting.{BeginsWith, CutsText, IsOverlong}
use Rattle.jv_cmd.specs.promise.Ends.{status_of}
use Rattle.jv_cmd.specs.promise.Faults.{CountsFaults}
use Rattle.jv_cmd.specs.Faults.{on_stage}
use Rattle.jv_cmd.specs.promise.Run.{AllButLast, AllLines, Beginning, EndsBy, IsKnownClock, OneTooMany, Prints, PrintsPart, StartsWhole, StopsAt, TooLong, session_run, up_to}
use Rattle.jv_cmd.specs.promise.Stages.{StageValue}
use Rattle.jv_cmd.specs.Generating.{EndsScript}
use Rattle.jv_cmd.specs.Steps.{Advances, BeforeLine, Done, Going, LineEnds, NextLine, OnLine, PrintsCut, ReadsBuilt, StopsIn, TextEnds, TextReads}
use Rattle.jv_cmd.specs.promise.Texts.{texts_of}
use Rattle.jv_cmd.proofs.runs.LinesDoneLaws.{Done-more, Done-start, DoneMore}
use Rattle.jv_cmd.proofs.runs.EndLaws.{EndsScript-bad, EndsScript-last, EndsScript-next, IsIdle, IsNotRun-text, RunsWhole-cut, StopsAt-from, all_printed, gains_before, text_done}
use Rattle.jv_cmd.proofs.runs.StepLaws.{PrintsLine-empty}
use Rattle.jv_cmd.proofs.streams.ReadingLaws.{BeginsWith-cut, IsKnownClock-earlier, Rose-since, all_read}

-- out of memory before the first line
pub EndsScript-none : (before : StageValue) (setting : Setting) → before.journal ≡ []
    → before.devices.yard.setting ≡ setting → EndsScript None before before OutOfMemory
EndsScript-none before setting empty is =
    let d = Done-start before setting empty is in
    let s = fresh_schedule setting before.limits in
    let idle : IsIdle before before = record { journal = refl; devices = refl; answers = refl } in
    EndsScript-last before.source.content before before before 0 [] s d idle OutOfMemory tt
    (λ start known w t. AllLines (all_printed before.source.content before before before 0 [] s d idle
    (Gains-nil before.out.content) 6 start known w t))
    (record { source = refl; out = refl; clock = refl })

-- a text that was read and not run changes nothing
pub TextEnds-from_reads : (number : ℕ) (text : List ℕ) (stage : StageValue) (s : ScheduleValue) (ended : Ended)
    → TextReads number text s.limits (Err ended) → TextEnds number text stage stage s s (Err ended)
TextEnds-from_reads number text stage s Succeeded h = absurd h
TextEnds-from_reads number text stage s (LineNotRun at) h =
    (h.0, h.1, record { out = refl; devices = refl; clock = refl; journal = refl })
TextEnds-from_reads number text stage s SourceFailed h = absurd h
TextEnds-from_reads number text stage s OutFailed h = absurd h
TextEnds-from_reads number text stage s ClockFailed h = absurd h
TextEnds-from_reads number text stage s OutOfMemory h = BeforeLine
    (record { out = refl; devices = refl; clock = refl; journal = refl })
TextEnds-from_reads number text stage s NoVolume h = absurd h
TextEnds-from_reads number text stage s VolumeExists h = absurd h
TextEnds-from_reads number text stage s (NewerVersion version) h = absurd h
TextEnds-from_reads number text stage s MalformedSetting h = absurd h
TextEnds-from_reads number text stage s (BadRow key bytes) h = absurd h
TextEnds-from_reads number text stage s KeeperFailed h = absurd h
TextEnds-from_reads number text stage s DepotFailed h = absurd h
TextEnds-from_reads number text stage s CarrierFailed h = absurd h
TextEnds-from_reads number text stage s ShelfFailed h = absurd h

-- a text that is empty or a comment is the line that does nothing
pub TextEnds-silent : (number : ℕ) (text : List ℕ) (stage : StageValue) (s : ScheduleValue) → is_silent text ≡ true
    → TextEnds number text stage stage s s (Ok tt)
unfolding line_of
TextEnds-silent number text stage s silent = (
  Empty,
  record { read = ap (λ b. if b then Some Empty else command_of (words text)) silent; built = refl },
  PrintsLine-empty number stage s,
)

-- the line of a text was run, or cut off
pub TextEnds-from_line : (number : ℕ) (text : List ℕ) (line : Line) (before after : StageValue) (s s' : ScheduleValue)
    (ran : Result (Unit {0}) Ended) → ReadsBuilt text s.limits line
    → LineEnds line number before after s s' ran → TextEnds number text before after s s' ran
TextEnds-from_line number text line before after s s' (Ok unit) read ends = (line, read, ends)
TextEnds-from_line number text line before after s s' (Err Succeeded) read ends = absurd ends
TextEnds-from_line number text line before after s s' (Err (LineNotRun at)) read ends = absurd ends
TextEnds-from_line number text line before after s s' (Err SourceFailed) read ends = absurd ends
TextEnds-from_line number text line before after s s' (Err OutFailed) read ends = (line, read, ends)
TextEnds-from_line number text line before after s s' (Err ClockFailed) read ends = (line, read, ends.0, ends.1)
TextEnds-from_line number text line before after s s' (Err OutOfMemory) read ends = OnLine line read ends.0 ends.1
TextEnds-from_line number text line before after s s' (Err NoVolume) read ends = absurd ends
TextEnds-from_line number text line before after s s' (Err VolumeExists) read ends = absurd ends
TextEnds-from_line number text line before after s s' (Err (NewerVersion version)) read ends = absurd ends
TextEnds-from_line number text line before after s s' (Err MalformedSetting) read ends = absurd ends
TextEnds-from_line number text line before after s s' (Err (BadRow key bytes)) read ends = (line, read, ends)
TextEnds-from_line number text line before after s s' (Err KeeperFailed) read ends = absurd ends
TextEnds-from_line number text line before after s s' (Err DepotFailed) read ends = absurd ends
TextEnds-from_line number text line before after s s' (Err CarrierFailed) read ends = absurd ends
TextEnds-from_line number text line before after s s' (Err ShelfFailed) read ends = absurd ends

-- lines are done as before, whatever was read of the source
Done-read : (left : Option (List ℕ)) (before now : StageValue) (source : Stream) (n : ℕ) (text : List ℕ)
    (s : ScheduleValue) → Done left before now n text s → Done left before (record now { source = source }) n text s
Done-read left before now source n text s d = record {
  texts = d.texts;
  lines = d.lines;
  asked = d.asked;
  failed = d.failed;
  count = d.count;
  each = d.each;
  few = d.few;
  short = d.short;
  built = d.built;
  first = d.first;
  uses = record { passes = d.uses.passes; stays = d.uses.stays; counts = d.uses.counts; counted = d.uses.counted };
  limits = d.limits;
  whole = λ start w.
      let on = d.whole start w in
      record { own = on.own; direct = on.direct; reaches = on.reaches };
}

pub Going-read : (left : Option (List ℕ)) (before now : StageValue) (source : Stream) (n : ℕ) (s : ScheduleValue)
    → source.faults ≡ now.source.faults → Going left before now n s
    → Going left before (record now { source = source }) n s
Going-read left before now source n s calm going = record {
  text = going.text;
  lines_done = Done-read left before now source n going.text s going.lines_done;
  gains = going.gains;
  calm = record { source = calm ∙ going.calm.source; out = going.calm.out; clock = going.calm.clock };
}

module _ (left left0 : Option (List ℕ)) (before now after : StageValue) (n count : ℕ) (held : List ℕ)
    (s s' : ScheduleValue) (going : Going left before now n s) (room : n < MAX_LINES)
    (cut : CutsText left left0 held count) (source : after.source.faults ≡ now.source.faults) where
  short : length (take count held) ≤ MAX_LINE
  short = omega (arith, length-take-le count held cut.within, cut.short)

  more : (line : Line) (printed : List ℕ) → ReadsBuilt (take count held) s.limits line
      → Advances line (n + 1) now after s s' printed
      → DoneMore (prepend_known (drop (count + 1) held) left0) before now after n
      (going.text ++ printed) going.lines_done.lines line s'
  more line printed read advances =
      Done-more left (prepend_known (drop (count + 1) held) left0) before now after n going.text printed
      (take count held) line s s' going.lines_done room read short cut.known advances

  calm_source : after.source.faults ≡ before.source.faults
  calm_source = source ∙ going.calm.source

  calm_out : after.out ≡ now.out → after.out.faults ≡ before.out.faults
  calm_out out = ap (λ (o : Stream). o.faults) out ∙ going.calm.out

  calm_clock : after.clock ≡ now.clock → after.clock.faults ≡ before.clock.faults
  calm_clock clock = ap (λ (c : Ticks). c.faults) clock ∙ going.calm.clock

  gains_still : after.out ≡ now.out → Gains before.out.content after.out.content going.text
  gains_still out = subst (λ (o : Stream). Gains before.out.content o.content going.text) (sym out) going.gains

  -- out failed in the midst of a line's text
  prints_part : (line : Line) (ends : PrintsCut line (n + 1) now after s s')
      (read : ReadsBuilt (take count held) s.limits line)
      → (start : Beginning) (known : Option (ℕ → ℕ)) → StartsWhole before start
      → IsKnownClock known before.clock after.clock
      → PrintsPart start known before after (more line ends.printed read ends.runs).lines_done.lines
  prints_part line ends read start known w t =
      let d = going.lines_done in
      let m = more line ends.printed read ends.runs in
      let t_now = IsKnownClock-earlier known before now after ends.runs.asks ends.runs.uses.passes t in
      let earlier : text_of (session_run start known d.lines 5) (up_to (length d.lines) after.journal) ≡ going.text =
      ap (λ journal. text_of (session_run start known d.lines 5) journal)
      (ap (λ k. up_to k after.journal) d.count ∙ m.earlier start w)
      ∙ text_done left before now now n going.text s d
      (record { journal = refl; devices = refl; answers = refl }) start w 5 known t_now in
      let all : text_of (session_run start known m.lines_done.lines 5) after.journal ≡ going.text ++ ends.printed =
      text_done (prepend_known (drop (count + 1) held) left0) before after after (n + 1)
      (going.text ++ ends.printed) s' m.lines_done
      (record { journal = refl; devices = refl; answers = refl }) start w 5 known t in
      record {
        earlier = d.lines;
        last = line;
        said = ends.printed;
        count = ends.cut.count;
        are_lines = m.added;
        text = all ∙ ap (λ text. text ++ ends.printed) (sym earlier);
        proper = ends.cut.proper;
        gains = subst (λ text. Gains before.out.content after.out.content (text ++ take ends.cut.count ends.printed))
            (sym earlier)
            (Gains-trans before.out.content now.out.content after.out.content going.text
            (take ends.cut.count ends.printed) going.gains ends.cut.gains);
      }

  -- the run ended on a line, which is cut off
  cut_off : (line : Line) → ReadsBuilt (take count held) s.limits line
      → (stops : StopsIn line (n + 1) now after s s') (ended : Ended) → may_be_cut (status_of ended) ≡ true
      → EndsBy ended before after (going.lines_done.texts ++ take count held ∷ []) (going.lines_done.lines ++ line ∷ [])
      → ((start : Beginning) (known : Option (ℕ → ℕ)) → Gains before.out.content after.out.content
      (at_end (session_run start known (going.lines_done.lines ++ line ∷ []) (status_of ended))
      after.journal).printed
      → Prints ended start known before after (going.lines_done.lines ++ line ∷ []))
      → CountsFaults ended (on_stage before) (on_stage after) → EndsScript None before after ended
  cut_off line read stops ended cuts cause prints faults =
      let d = going.lines_done in
      let left' = prepend_known (drop (count + 1) held) left0 in
      EndsScript-next left left' before now after n going.text
      (take count held) line s s' d room read short cut.known ended stops.cut.asks stops.cut.failed stops.cut.uses
      cause
      (λ start known w t.
      RunsWhole-cut left left' before now after n going.text
      (take count held) line s s' d room read short cut.known stops.cut start w ended cuts known t
      (prints start known
      (gains_before left left' before now after n going.text
      (take count held) line s s' d room read short cut.known stops.cut start w (gains_still stops.out)
      (status_of ended) known t)))
      faults

  -- a text was run, or the run ended there
  NextLine-text : (ran : Result (Unit {0}) Ended) → TextEnds (n + 1) (take count held) now after s s' ran
      → NextLine (prepend_known (drop (count + 1) held) left0) before after n s' ran
  NextLine-text (Ok unit) ends =
      record {
        text = going.text ++ ends.2.printed;
        lines_done = (more ends.0 ends.2.printed ends.1 ends.2.runs).lines_done;
        gains = Gains-trans before.out.content now.out.content after.out.content going.text ends.2.printed going.gains
            ends.2.writes.gains;
        calm = record {
          source = calm_source;
          out = ends.2.writes.calm ∙ going.calm.out;
          clock = ends.2.clock
              ∙ going.calm.clock;
        };
      }
  NextLine-text (Err Succeeded) ends = absurd ends
  NextLine-text (Err (LineNotRun at)) ends =
      let d = going.lines_done in
      let still = ends.2 in
      let idle : IsIdle now after = record {
        journal = still.journal;
        devices = still.devices;
        answers = ap
            (λ (c : Ticks). c.answers) still.clock;
      } in
      let stops : StopsAt before d.texts d.lines (n + 1) = StopsAt-from left before now n going.text s d
      (take count held) (BeginsWith-cut left left0 held count cut)
      (IsNotRun-text left before now n going.text s d (n + 1) (take count held) ends.1) in
      EndsScript-last left before now after n going.text s d idle (LineNotRun at)
      (subst (λ number. StopsAt before d.texts d.lines number) (sym ends.0) stops)
      (λ start known w t. all_printed left before now after n going.text s d idle
      (gains_still still.out) 3 start known w t)
      (record { source = calm_source; out = calm_out still.out; clock = calm_clock still.clock })
  NextLine-text (Err SourceFailed) ends = absurd ends
  NextLine-text (Err OutFailed) ends =
      let m = more ends.0 ends.2.printed ends.1 ends.2.runs in
      EndsScript-last (prepend_known (drop (count + 1) held) left0) before after after (n + 1)
      (going.text ++ ends.2.printed) s' m.lines_done
      (record { journal = refl; devices = refl; answers = refl }) OutFailed tt
      (prints_part ends.0 ends.2 ends.1)
      (record {
        source = calm_source;
        out = Rose-since before.out.faults now.out.faults after.out.faults
            going.calm.out ends.2.cut.rose;
        clock = ends.2.clock ∙ going.calm.clock;
      })
  NextLine-text (Err ClockFailed) ends =
      cut_off ends.0 ends.1 ends.2 ClockFailed refl tt (λ start known gains. gains)
      (record {
        source = calm_source;
        out = calm_out ends.2.out;
        clock = Rose-since before.clock.faults now.clock.faults after.clock.faults going.calm.clock ends.3;
      })
  NextLine-text (Err OutOfMemory) (BeforeLine still) =
      let idle : IsIdle now after = record {
        journal = still.journal;
        devices = still.devices;
        answers = ap
            (λ (c : Ticks). c.answers) still.clock;
      } in
      EndsScript-last left before now after n going.text s going.lines_done idle OutOfMemory tt
      (λ start known w t. AllLines (all_printed left before now after n going.text s going.lines_done idle
      (gains_still still.out) 6 start known w t))
      (record { source = calm_source; out = calm_out still.out; clock = calm_clock still.clock })
  NextLine-text (Err OutOfMemory) (OnLine line read stops calm) =
      cut_off line read stops OutOfMemory refl tt (λ start known gains. AllButLast gains)
      (record { source = calm_source; out = calm_out stops.out; clock = calm ∙ going.calm.clock })
  NextLine-text (Err (BadRow key bytes)) ends =
      EndsScript-bad left (prepend_known (drop (count + 1) held) left0) before now after n going.text
      (take count held) ends.0 s s' going.lines_done room ends.1 short cut.known key bytes ends.2.breaks
      (record { source = calm_source; out = calm_out ends.2.out; clock = ends.2.breaks.calm ∙ going.calm.clock })
  NextLine-text (Err NoVolume) ends = absurd ends
  NextLine-text (Err VolumeExists) ends = absurd ends
  NextLine-text (Err (NewerVersion version)) ends = absurd ends
  NextLine-text (Err MalformedSetting) ends = absurd ends
  NextLine-text (Err KeeperFailed) ends = absurd ends
  NextLine-text (Err DepotFailed) ends = absurd ends
  NextLine-text (Err CarrierFailed) ends = absurd ends
  NextLine-text (Err ShelfFailed) ends = absurd ends

  -- the same, where the text, what is held then and what is left are known by equations
  pub NextLine-front : (text rest : List ℕ) (last : Option (List ℕ)) (ran : Result (Unit {0}) Ended) → text ≡ take count held
      → rest ≡ drop (count + 1) held → last ≡ left0 → TextEnds (n + 1) text now after s s' ran
      → NextLine (prepend_known rest last) before after n s' ran
  NextLine-front text rest last ran is passed same ends =
      subst (λ l. NextLine (prepend_known rest l) before after n s' ran) (sym same)
      (subst (λ r. NextLine (prepend_known r left0) before after n s' ran) (sym passed)
      (NextLine-text ran (subst (λ t. TextEnds (n + 1) t now after s s' ran) is ends)))

-- the run ended before a line, by what was read of the source
module _ (left : Option (List ℕ)) (before now : StageValue) (source : Stream) (n : ℕ) (s : ScheduleValue)
    (going : Going left before now n s) where
  idle : IsIdle now (record now { source = source })
  idle = record { journal = refl; devices = refl; answers = refl }

  -- with the text of all lines
  EndsScript-read : (ended : Ended) → EndsBy ended before
      (record now { source = source }) going.lines_done.texts going.lines_done.lines
      → ((start : Beginning) (known : Option (ℕ → ℕ)) → Gains before.out.content now.out.content
      (text_of (session_run start known going.lines_done.lines (status_of ended)) now.journal)
      → Prints ended start known before (record now { source = source }) going.lines_done.lines)
      → CountsFaults ended (on_stage before) (on_stage (record now { source = source }))
      → EndsScript None before (record now { source = source }) ended
  EndsScript-read ended cause prints faults =
      EndsScript-last left before now (record now { source = source }) n going.text s going.lines_done idle ended cause
      (λ start known w t. prints start known (all_printed left before now
      (record now { source = source }) n going.text s going.lines_done idle going.gains
      (status_of ended) start known w t)) faults

  pub EndsScript-succeeded : source.faults ≡ now.source.faults → IfSome left (λ all. texts_of all ≡ [])
      → EndsScript None before (record now { source = source }) Succeeded
  EndsScript-succeeded calm none =
      EndsScript-read Succeeded (all_read before.source.content left going.lines_done.texts going.lines_done.first none)
      (λ start known gains. gains)
      (record { source = calm ∙ going.calm.source; out = going.calm.out; clock = going.calm.clock })

  pub EndsScript-overlong : source.faults ≡ now.source.faults → IsOverlong left
      → EndsScript None before (record now { source = source }) (LineNotRun (n + 1))
  EndsScript-overlong calm long =
      EndsScript-read (LineNotRun (n + 1)) (StopsAt-from left before now n going.text s
      going.lines_done long.next long.begins (TooLong long.long))
      (λ start known gains. gains)
      (record { source = calm ∙ going.calm.source; out = going.calm.out; clock = going.calm.clock })

  pub EndsScript-too_many : source.faults ≡ now.source.faults → (next : List ℕ) → BeginsWith left next → n ≡ MAX_LINES
      → EndsScript None before (record now { source = source }) (LineNotRun (n + 1))
  EndsScript-too_many calm next begins all =
      EndsScript-read (LineNotRun (n + 1)) (StopsAt-from left before now n going.text s
      going.lines_done next begins
      (OneTooMany (omega (arith, all)))) (λ start known gains. gains)
      (record { source = calm ∙ going.calm.source; out = going.calm.out; clock = going.calm.clock })

  pub EndsScript-source : Rose now.source.faults source.faults
      → EndsScript None before (record now { source = source }) SourceFailed
  EndsScript-source rose =
      EndsScript-read SourceFailed tt (λ start known gains. gains)
      (record {
        source = Rose-since before.source.faults now.source.faults source.faults going.calm.source rose;
        out = going.calm.out;
        clock = going.calm.clock;
      })
