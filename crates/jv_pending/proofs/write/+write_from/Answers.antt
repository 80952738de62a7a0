use Rattle.std.proofs.Common.{◌≡◌, ◌+◌, ◌-◌, ◌%◌, ◌∙◌, ◌++◌, List, ℕ, [], ◌∷◌, ◌<◌, take, length, is_some, refl, ◌≤◌, ap, sym, subst, arith}
use Rattle.std.proofs.lemmas.List.{take-take, take-append-drop, drop_all, append-nil}
use Rattle.jv_pending.specs.declared.run.RunStart.{RunStart}
use Rattle.jv_pending.specs.Runs.{place, gap, Rise, Starts, Writes}
use Rattle.jv_pending.proofs.PartLaws.{with_rise}
use Rattle.jv_model.proofs.TestLaws.{some_of}
use Rattle.jv_pending.proofs.EntryLaws.{one_rises, there_before}
use Rattle.jv_pending.proofs.WrittenLaws.{no_gap, reaches_here, starts_behind, border_fits, border_written}
use Rattle.jv_pending.proofs.write.+write_from.Goals as goal
use Rattle.jv_model.specs.declared.limits.TheConstants.{FILE_END, WINDOW}

pub write_from-requires : goal.write_from-requires
write_from-requires t c =
    let first = c.args.first in
    let part = c.split_at.result.0.now in
    let mid = c.take_run.new.runs.entries in
    let room : ℕ = WINDOW - c.args.from % WINDOW in
    let to : ℕ = c.args.from + length part in
    let front = c.split_at.ensures.front_len in
    let back = c.split_at.ensures.back_len in
    let more = c.if-bytes-room.false in
    let fits = c.requires.file in
    let d = c.decreases in
    let border : to % WINDOW ≡ 0 = omega arith in
    let window : c.args.from % WINDOW + length part ≤ WINDOW = omega arith in
    let same : to ≡ c.args.from + room = omega arith in
    let none = no_gap to border in (
      omega arith,
      (
        c.in_ok-taken.ensures.rise,
        (
          subst (λ n. Starts n mid (record { inode = first.inode; from = c.args.from + room })) same
              (starts_behind c.args.from part first c.args.runs.now.entries c.requires.rise c.requires.starts (omega arith) (omega arith) (record { inode = first.inode; from = c.args.from + room }) refl (omega arith) border window mid c.in_ok-taken.ensures.after (omega arith)),
          (omega arith, omega arith),
        ),
      ),
    )

pub put_over-requires-clause-there : goal.put_over-requires-clause-there
put_over-requires-clause-there t c =
    let first = c.args.first in
    let from = c.requires.starts.touches.from_is in
    let fits = c.requires.file in
    let more = c.if-bytes-room.false in
    let some = some_of _ c.in_ok-taken.ensures.there in
    ap is_some (there_before first (place first.inode (c.args.from + (WINDOW - c.args.from % WINDOW))) c.take_run.new.runs.entries c.write_from.new.runs.entries some.0
    (omega arith) (omega arith) c.in_ok-taken.ensures.rise c.in-Ok.ensures.rise c.in-Ok.ensures.ok.before some.1)

pub returns-in-Ok-clause-rise : goal.returns-in-Ok-clause-rise
returns-in-Ok-clause-rise t c =
    let first = c.args.first in
    let from = c.requires.starts.touches.from_is in
    let fits = c.requires.file in
    let more = c.if-bytes-room.false in
    let put = c.write_from.new.runs.entries in
    let up = c.in-Ok.ensures.rise in
    subst (Rise 0) (sym c.put_over.ensures)
    (with_rise ((first, c.put.new.self) ∷ []) (place first.inode (c.args.from + (WINDOW - c.args.from % WINDOW))) 0 put (one_rises first (omega arith) put up c.put.new.self) (omega arith, tt) up)

pub returns-in-Ok-clause-ok : goal.returns-in-Ok-clause-ok
returns-in-Ok-clause-ok t c =
    let first = c.args.first in
    let from = c.args.from in
    let rs = c.args.runs.now.entries in
    let part = c.split_at.result.0.now in
    let rest = c.split_at.result.1.now in
    let mid = c.take_run.new.runs.entries in
    let put = c.write_from.new.runs.entries in
    let room : ℕ = WINDOW - from % WINDOW in
    let end : RunStart = record { inode = first.inode; from = from + room } in
    let to : ℕ = from + length part in
    let front = c.split_at.ensures.front_len in
    let back = c.split_at.ensures.back_len in
    let more = c.if-bytes-room.false in
    let fits = c.requires.file in
    let border : to % WINDOW ≡ 0 = omega arith in
    let window : from % WINDOW + length part ≤ WINDOW = omega arith in
    let same : to ≡ from + room = omega arith in
    let none = no_gap to border in
    let ends : end.from ≡ to + gap to = omega arith in
    let taken = c.in_ok-taken.ensures in
    let run = c.in_ok-taken.taken.run in
    let len = c.in_ok-taken.taken.len in
    let v : List ℕ = take len run in
    let some : 0 < length part = omega arith in
    let file : from + length part ≤ FILE_END = omega arith in
    let reaches = reaches_here from part first rs c.requires.rise c.requires.starts some file end refl ends v taken.run in
    let within = border_fits from part first rs c.requires.rise c.requires.starts some file end refl ends border window v taken.run in
    let count : length v ≡ len = ap length taken.run ∙ sym taken.len in
    let long = taken.long in
    let all : c.put.new.self ≡ take (from - first.from) v ++ part =
    c.put.ensures
    ∙ ap (λ (x : List ℕ). take (from - first.from) run ++ (part ++ x)) (drop_all (from - first.from + length part) run (omega arith))
    ∙ ap (λ (x : List ℕ). take (from - first.from) run ++ x) (append-nil part)
    ∙ ap (λ (x : List ℕ). x ++ part) (sym (take-take (from - first.from) len run (omega arith))) in
    let both : part ++ rest ≡ c.args.bytes.now =
    ap (λ (x : List ℕ). x ++ rest) c.split_at.ensures.front ∙ ap (λ (x : List ℕ). take room c.args.bytes.now ++ x) c.split_at.ensures.back ∙ take-append-drop room c.args.bytes.now in
    subst (λ (x : List ℕ). Writes from x first rs c.put_over.new.runs.entries) both
    (border_written from part first rs c.requires.rise c.requires.starts some file end refl ends border window rest mid put c.put_over.new.runs.entries v c.put.new.self taken.run (omega arith)
    taken.before taken.after c.in-Ok.ensures.rise (subst (λ n. Writes n rest end mid put) (sym same) c.in-Ok.ensures.ok) all c.put_over.ensures)
