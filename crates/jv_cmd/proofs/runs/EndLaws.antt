-- How a run of lines ends: after lines that are done, or on the next one.
use Rattle.std.proofs.Common.{◌≡◌, ℕ, ◌+◌, ◌≤◌, ◌<◌, IsSomeAnd, IfSome, true, false, List, [], ◌∷◌, ◌++◌, length, Option, None, sym, ap, subst, ◌∙◌, arith}
use Rattle.std.proofs.lemmas.List.{append-nil, length_push}
use Rattle.jv_model.specs.declared.fault.Device.{Device}
use Rattle.jv_model.specs.declared.limits.TheConstants.{MAX_LINE, MAX_LINES}
use Rattle.jv_model.specs.declared.op.Line.{Line}
use Rattle.jv_model.specs.declared.row.RowKey.{RowKey}
use Rattle.jv_model.specs.promise.journal.Legal.{may_be_cut}
use Rattle.jv_model.specs.promise.journal.Past.{Past, at_end, text_of}
use Rattle.jv_outside.specs.promise.Causes.{RoseTimes}
use Rattle.jv_outside.specs.promise.Stream.{Gains}
use Rattle.jv_volume_bytes.proofs.BlockLaws.{grows-then}
use Rattle.jv_client_shared.specs.promise.Shared.{Shared, depot_in}
use Rattle.jv_client.specs.promise.Built.{is_built_line}
use Rattle.jv_client.specs.Makes.{faults_of}
use Rattle.jv_session.specs.promise.Direct.{BlocksStay}
use Rattle.jv_session.specs.Lines.{BreaksAt, Cut, CutsLine, LineUses}
use Rattle.jv_session.specs.promise.Lines.{StaysPut, device_failures}
use Rattle.jv_session.specs.Stands.{InLine, ScheduleValue, Stands}
use Rattle.jv_session.proofs.UsesLaws.{both_failures}
use Rattle.jv_cmd.specs.declared.ended.Ended.{Ended}
use Rattle.jv_cmd.specs.declared.ended.Ended.TheVariants.{BadRow}
use Rattle.jv_cmd.specs.Cutting.{BeginsWith}
use Rattle.jv_cmd.specs.promise.Ends.{status_of}
use Rattle.jv_cmd.specs.promise.Faults.{CountsFaults}
use Rattle.jv_cmd.specs.Faults.{on_stage}
use Rattle.jv_client_shared.proofs.WholeVolumeLaws.{store-whole}
use Rattle.jv_cmd.specs.promise.Run.{AreLines, Beginning, EndsBy, IsKnownClock, IsNotRun, IsTextNotRun, Leaves, LineUnbuilt, NoLine, Off, Prints, RunsWhole, StartsWhole, StopsAt, session_run}
use Rattle.jv_cmd.specs.promise.Stages.{StageValue}
use Rattle.jv_cmd.specs.Generating.{EndsScript}
use Rattle.jv_cmd.specs.Steps.{Done, HasUsed, ReadsBuilt, Reaches, used}
use Rattle.jv_cmd.specs.promise.Texts.{texts_of}
use Rattle.jv_cmd.proofs.runs.LinesDoneLaws.{HasUsed-line, built_more}
use Rattle.jv_cmd.proofs.runs.EntryLaws.{Enters, Enters-cut, OfNext, OfNext-settled, comes, comes_settled, there}
use Rattle.jv_cmd.proofs.streams.ReadingLaws.{IsKnownClock-earlier, each_more, first_is, first_more, known_then, next_is, short_more}
use Rattle.jv_cmd.proofs.runs.StepLaws.{InLine-cut, Legal-cut, Legal-reached, Stands-reached, printed-cut, text_of-reached}

-- what the end of a run leaves
Leaves-in_line : (p : Past) (s : ScheduleValue) (v : Shared) → InLine p s v → Leaves v p.state.tree
Leaves-in_line p s v stands = record {
  volume = store-whole p.state.tree stands.known v stands.state.has_store;
  known = stands.known;
  store = stands.state.has_store;
}

Leaves-stands : (p : Past) (s : ScheduleValue) (v : Shared) → Stands p s v → Leaves v p.state.tree
Leaves-stands p s v stands = Leaves-in_line p s v stands.in_line

-- nothing was run since
pub record IsIdle (now after : StageValue) : Type 0 where
  pub journal : after.journal ≡ now.journal
  pub devices : after.devices ≡ now.devices
  pub answers : after.clock.answers ≡ now.clock.answers

-- the run ended after lines that are done
module _ (left : Option (List ℕ)) (before now after : StageValue) (n : ℕ) (text : List ℕ) (s : ScheduleValue)
    (d : Done left before now n text s) (idle : IsIdle now after) where
  earlier_last : (known : Option (ℕ → ℕ)) → IsKnownClock known before.clock after.clock
      → IsKnownClock known before.clock now.clock
  earlier_last known t = known_then known before.clock now.clock after.clock idle.answers t

  at_last : (start : Beginning) → StartsWhole before start → (known : Option (ℕ → ℕ)) (status : ℕ)
      → IsKnownClock known before.clock after.clock
      → Reaches (session_run start known d.lines status) [] n d.asked text after.journal s after.devices
  at_last start w known status t =
      subst (λ k. Reaches (session_run start known d.lines status) [] n d.asked text after.journal s k)
      (sym idle.devices)
      (subst (λ journal. Reaches (session_run start known d.lines status) [] n d.asked text journal s now.devices)
      (sym idle.journal)
      (subst (λ lines. Reaches (session_run start known lines status) [] n d.asked text now.journal s now.devices)
      (append-nil d.lines) ((d.whole start w).reaches known [] status (earlier_last known t))))

  Stands-last : (start : Beginning) → StartsWhole before start → (known : Option (ℕ → ℕ)) (status : ℕ)
      → IsKnownClock known before.clock after.clock
      → Stands (at_end (session_run start known d.lines status) after.journal) s after.devices
  Stands-last start w known status t =
      Stands-reached (session_run start known d.lines status) n d.asked text after.journal s after.devices d.count
      (at_last start w known status t)

  -- the text of lines that are done
  pub text_done : (start : Beginning) → StartsWhole before start → (status : ℕ) (known : Option (ℕ → ℕ))
      → IsKnownClock known before.clock after.clock
      → text_of (session_run start known d.lines status) after.journal ≡ text
  text_done start w status known t = text_of-reached (session_run start known d.lines status) n d.asked text
      after.journal s after.devices d.count (at_last start w known status t)

  -- all of it was printed
  pub all_printed : Gains before.out.content after.out.content text
      → (status : ℕ) (start : Beginning) (known : Option (ℕ → ℕ)) → StartsWhole before start
      → IsKnownClock known before.clock after.clock
      → Gains before.out.content after.out.content (text_of (session_run start known d.lines status) after.journal)
  all_printed gains status start known w t = subst (λ bytes. Gains before.out.content after.out.content bytes)
      (sym (text_done start w status known t)) gains

  RunsWhole-last : (ended : Ended) (start : Beginning) (known : Option (ℕ → ℕ)) → StartsWhole before start
      → IsKnownClock known before.clock after.clock → Prints ended start known before after d.lines
      → RunsWhole start known before after ended d.lines
  RunsWhole-last ended start known w t prints = record {
    legal = Legal-reached (session_run start known d.lines (status_of ended)) n d.asked text after.journal s
        after.devices d.count (at_last start w known (status_of ended) t);
    printed = prints;
    direct = subst (BlocksStay before.devices) (sym idle.devices) (d.whole start w).direct;
    leaves = Leaves-stands _ s after.devices (Stands-last start w known (status_of ended) t);
  }

  pub EndsScript-last : (ended : Ended) → EndsBy ended before after d.texts d.lines
      → ((start : Beginning) (known : Option (ℕ → ℕ)) → StartsWhole before start
      → IsKnownClock known before.clock after.clock → Prints ended start known before after d.lines)
      → CountsFaults ended (on_stage before) (on_stage after) → EndsScript None before after ended
  EndsScript-last ended cause prints faults = record {
    answers = d.failed;
    runs = record {
      texts = d.texts;
      lines = d.lines;
      read = record {
        first = first_is before.source.content left d.texts d.first;
        each = d.each;
        few = omega
            (arith, d.few, d.count);
        short = d.short;
      };
      built = d.built;
      cause = cause;
      counted = λ device. ap (device_failures device) idle.journal ∙ d.uses.counted device;
      whole = λ start known w t. RunsWhole-last ended start known w t (prints start known w t);
    };
    faults = faults;
    stays = subst (λ (v : Shared). StaysPut before.devices v) (sym idle.devices) d.uses.stays;
    counts = λ device. subst (λ (v : Shared). RoseTimes (d.failed device) (faults_of device before.devices) (faults_of device v))
        (sym idle.devices) (d.uses.counts device);
  }

-- the run ended on the next line
module _ (left left' : Option (List ℕ)) (before now after : StageValue) (n : ℕ) (text bytes_of_line : List ℕ)
    (line : Line) (s s' : ScheduleValue) (d : Done left before now n text s)
    (room : n < MAX_LINES) (read : ReadsBuilt bytes_of_line s.limits line) (short : length bytes_of_line ≤ MAX_LINE)
    (next : IfSome left (λ all. IsSomeAnd left' (λ rest. texts_of all ≡ bytes_of_line ∷ texts_of rest))) where
  AreLines-next : AreLines before.source.content (d.texts ++ bytes_of_line ∷ []) (d.lines ++ line ∷ [])
  AreLines-next = record {
    first = first_is before.source.content left' (d.texts ++ bytes_of_line ∷ [])
        (first_more before.source.content left left' d.texts bytes_of_line d.first next);
    each = each_more d.texts d.lines bytes_of_line line d.each read.read;
    few = (let size = length_push d.lines line in omega (arith, size, d.count, room));
    short = short_more d.texts bytes_of_line d.short short;
  }

  pub EndsScript-next : (ended : Ended) (asks : ℕ) (failed : Device → ℕ) → LineUses (used now s) (used after s') asks failed
      → EndsBy ended before after (d.texts ++ bytes_of_line ∷ []) (d.lines ++ line ∷ [])
      → ((start : Beginning) (known : Option (ℕ → ℕ)) → StartsWhole before start
      → IsKnownClock known before.clock after.clock
      → RunsWhole start known before after ended (d.lines ++ line ∷ []))
      → CountsFaults ended (on_stage before) (on_stage after) → EndsScript None before after ended
  EndsScript-next ended asks failed uses cause whole faults = record {
    answers = both_failures d.failed failed;
    runs = record {
      texts = d.texts ++ bytes_of_line ∷ [];
      lines = d.lines ++ line ∷ [];
      read = AreLines-next;
      built = built_more left before now n text bytes_of_line line s d read;
      cause = cause;
      counted = used_now.counted;
      whole = whole;
    };
    faults = faults;
    stays = used_now.stays;
    counts = used_now.counts;
  }
    where
      used_now : HasUsed before after (d.asked + asks) (both_failures d.failed failed)
      used_now = HasUsed-line before now after s s' d.asked asks d.failed failed d.uses uses

  -- which is cut off
  module _ (c : CutsLine line (n + 1) (used now s) (used after s')) (start : Beginning)
      (w : StartsWhole before start) where
    OfNext-cut : OfNext n now.journal after.journal
    OfNext-cut = OfNext-settled left before now after n text line s d start w
        (comes_settled left before now after n text line s s' d c.asks c.uses.passes start w
        (λ p more. Enters p (n + 1) now.journal after.journal)
        (λ p more stands next rest count clock. Enters-cut p more (n + 1) c.asks now after s s'
        (c.stops p more stands next rest count clock)))

    cut_there : (known : Option (ℕ → ℕ)) (status : ℕ) → IsKnownClock known before.clock after.clock
        → Cut (there start known (d.lines ++ line ∷ []) status n now.journal) [] (n + 1) c.asks (used now s)
        (used after s')
    cut_there known status t =
        comes left before now after n text line s s' d c.asks c.uses.passes start w
        (λ p more. Cut p more (n + 1) c.asks (used now s) (used after s')) c.stops known [] status t

    earlier_cut : (known : Option (ℕ → ℕ)) → IsKnownClock known before.clock after.clock
        → IsKnownClock known before.clock now.clock
    earlier_cut known t = IsKnownClock-earlier known before now after c.asks c.uses.passes t

    size_cut : length (d.lines ++ line ∷ []) ≡ n + 1
    size_cut = length_push d.lines line ∙ ap (λ k. k + 1) d.count

    reaches_cut : (known : Option (ℕ → ℕ)) (status : ℕ) → IsKnownClock known before.clock after.clock
        → Reaches (session_run start known (d.lines ++ line ∷ []) status)
        (line ∷ []) n d.asked text now.journal s now.devices
    reaches_cut known status t = (d.whole start w).reaches known (line ∷ []) status (earlier_cut known t)

    -- out has gained the text of the lines before it
    pub gains_before : Gains before.out.content after.out.content text → (status : ℕ) (known : Option (ℕ → ℕ))
        → IsKnownClock known before.clock after.clock
        → Gains before.out.content after.out.content (at_end
        (session_run start known (d.lines ++ line ∷ []) status) after.journal).printed
    gains_before gains status known t =
        subst (λ bytes. Gains before.out.content after.out.content bytes)
        (sym (printed-cut (session_run start known (d.lines ++ line ∷ []) status) line n d.asked c.asks text
        (used now s) (used after s') size_cut (reaches_cut known status t) (cut_there known status t))) gains

    direct_cut : BlocksStay before.devices after.devices
    direct_cut = grows-then (depot_in before.devices) (depot_in now.devices) (depot_in after.devices) (d.whole start w).direct
        (comes_settled left before now after n text line s s' d c.asks c.uses.passes start w
        (λ p more. BlocksStay now.devices after.devices)
        (λ p more stands next rest count clock. (c.stops p more stands next rest count clock).direct))

    pub RunsWhole-cut : (ended : Ended) → may_be_cut (status_of ended) ≡ true → (known : Option (ℕ → ℕ))
        → IsKnownClock known before.clock after.clock
        → Prints ended start known before after (d.lines ++ line ∷ [])
        → RunsWhole start known before after ended (d.lines ++ line ∷ [])
    RunsWhole-cut ended cuts known t prints =
        let run = session_run start known (d.lines ++ line ∷ []) (status_of ended) in
        let cut = cut_there known (status_of ended) t in
        record {
          legal = Legal-cut run line n d.asked c.asks text (used now s) (used after s') size_cut
              (reaches_cut known (status_of ended) t) cut cuts;
          printed = prints;
          direct = direct_cut;
          leaves = Leaves-in_line _ s' after.devices (InLine-cut run line n d.asked c.asks text (used now s)
              (used after s') size_cut (reaches_cut known (status_of ended) t) cut);
        }

  -- a row was Bad there, as none is where the run began on a whole volume
  module _ (key : RowKey) (bytes : List ℕ) (b : BreaksAt line (n + 1) (used now s) (used after s') key bytes) where
    torn : (start : Beginning) → StartsWhole before start → ⊥
    torn start w = comes left before now after n text line s s' d b.asks b.uses.passes start w
        (λ p more. ⊥) b.never None [] 4 tt

    pub EndsScript-bad : CountsFaults (BadRow key bytes) (on_stage before) (on_stage after) → EndsScript None before after (BadRow key bytes)
    EndsScript-bad faults = EndsScript-next (BadRow key bytes) b.asks b.failed b.uses
        (record { bad = b.bad; torn = torn }) (λ start known w t. absurd (torn start w)) faults

pub StopsAt-from : (left : Option (List ℕ)) (before now : StageValue) (n : ℕ) (text : List ℕ) (s : ScheduleValue)
    (d : Done left before now n text s) (next : List ℕ) → BeginsWith left next
    → IsNotRun before.limits (n + 1) next → StopsAt before d.texts d.lines (n + 1)
StopsAt-from left before now n text s d next begins off = record {
  after_lines = ap (λ k. k + 1) (sym d.count);
  text = next;
  next = next_is before.source.content left d.texts next d.first begins;
  off = off;
}

pub IsNotRun-text : (left : Option (List ℕ)) (before now : StageValue) (n : ℕ) (text : List ℕ) (s : ScheduleValue)
    (d : Done left before now n text s) (number : ℕ) (next : List ℕ) → IsTextNotRun next s.limits → IsNotRun before.limits number next
IsNotRun-text left before now n text s d number next (NoLine e) = Off (NoLine e)
IsNotRun-text left before now n text s d number next (LineUnbuilt line e unbuilt) =
    Off (LineUnbuilt line e (subst (λ limits. is_built_line limits line ≡ false) d.limits unbuilt))
