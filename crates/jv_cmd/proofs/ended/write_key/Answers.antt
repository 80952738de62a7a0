use Rattle.std.proofs.Common.{rules, ◌≡◌, ◌++◌, codes, decimal, List, ℕ, Result, IsErrAnd, sym, subst}
use Rattle.jv_model.specs.declared.fault.Down.{Down}
use Rattle.jv_outside.specs.promise.Stream.{Stream, HasAll}
use Rattle.jv_outside.specs.Stream.{FailsToWriteAll, WritesAll}
use Rattle.jv_cmd.specs.promise.Ends.{digits_or_dash}
use Rattle.jv_cmd.proofs.streams.SayingLaws.{HasAll-after, Fails-after, Fails-more, WritesAll-after, WritesAll-failed, key_parts}
use Rattle.jv_cmd.proofs.ended.write_key.Goals as goal

-- the text from its first part on
module _ (result : Result (Unit {0}) Down) (before after : Stream) (start tab space number digits end : List ℕ) where
  in_parts : WritesAll before after result (start ++ tab ++ space ++ number ++ space ++ digits ++ end)
      → WritesAll before after result (start ++ (tab ++ space ++ number ++ space ++ digits) ++ end)
  in_parts h = subst (λ (text : List ℕ). WritesAll before after result text)
      (sym (key_parts start tab space number digits end)) h

  -- a write of a part failed
  module _ (down : Down) (is : IsErrAnd result (λ error. error ≡ down)) where
    at_end : FailsToWriteAll before after down (start ++ tab ++ space ++ number ++ space ++ digits ++ end)
        → WritesAll before after result (start ++ (tab ++ space ++ number ++ space ++ digits) ++ end)
    at_end fails = in_parts (WritesAll-failed result before after down
        (start ++ tab ++ space ++ number ++ space ++ digits ++ end) is fails)

    at_digits : FailsToWriteAll before after down (start ++ tab ++ space ++ number ++ space ++ digits)
        → WritesAll before after result (start ++ (tab ++ space ++ number ++ space ++ digits) ++ end)
    at_digits fails = at_end (Fails-more before after down
        (start ++ tab ++ space ++ number ++ space ++ digits) end fails)

    at_space : FailsToWriteAll before after down (start ++ tab ++ space ++ number ++ space)
        → WritesAll before after result (start ++ (tab ++ space ++ number ++ space ++ digits) ++ end)
    at_space fails = at_digits (Fails-more before after down (start ++ tab ++ space ++ number ++ space) digits fails)

    at_number : FailsToWriteAll before after down (start ++ tab ++ space ++ number)
        → WritesAll before after result (start ++ (tab ++ space ++ number ++ space ++ digits) ++ end)
    at_number fails = at_space (Fails-more before after down (start ++ tab ++ space ++ number) space fails)

    at_start : FailsToWriteAll before after down (start ++ tab ++ space)
        → WritesAll before after result (start ++ (tab ++ space ++ number ++ space ++ digits) ++ end)
    at_start fails = at_number (Fails-more before after down (start ++ tab ++ space) number fails)

pub returns-in_err-write_number : goal.returns-in_err-write_number
returns-in_err-write_number g c =
    let key = c.args.key.now in
    at_start c.from_residual.result (g.E.Sink.seen c.args.err.now) (g.E.Sink.seen c.write_number.new.err)
    (codes "juicevol: row ") (decimal key.tab) (codes " ") (decimal key.a) (digits_or_dash key.b)
    (codes ": not a row\n")
    c.in_err-write_number.field-0.0 c.from_residual.ensures.1
    (subst (λ (tab : ℕ). FailsToWriteAll (g.E.Sink.seen c.args.err.now)
    (g.E.Sink.seen c.write_number.new.err) c.in_err-write_number.field-0.0
    (codes "juicevol: row " ++ decimal tab ++ codes " "))
    c.from.ensures c.in_err-write_number.ensures)

pub returns-in_err-write_whole : goal.returns-in_err-write_whole
returns-in_err-write_whole g c =
    let key = c.args.key.now in
    let before = g.E.Sink.seen c.args.err.now in
    let first = g.E.Sink.seen c.write_number.new.err in
    let after = g.E.Sink.seen c.write_whole.new.sink in
    let down = c.in_err-write_whole.field-0.0 in
    let tab : HasAll before first (codes "juicevol: row " ++ decimal key.tab ++ codes " ") =
    subst (λ (tab : ℕ). HasAll before first (codes "juicevol: row " ++ decimal tab ++ codes " ")) c.from.ensures
    c.in_ok-write_number.ensures in
    let number : c.as_bytes.result.now ≡ decimal key.a = search rules in
    at_number c.from_residual-in_err-write_whole.result before after (codes "juicevol: row ") (decimal key.tab)
    (codes " ") (decimal key.a) (digits_or_dash key.b) (codes ": not a row\n")
    down c.from_residual-in_err-write_whole.ensures.1
    (Fails-after before first after down (codes "juicevol: row " ++ decimal key.tab ++ codes " ") (decimal key.a) tab
    (subst (λ (text : List ℕ). FailsToWriteAll first after down text) number c.in_err-write_whole.ensures))

pub returns-in_err-write_whole-2 : goal.returns-in_err-write_whole-2
returns-in_err-write_whole-2 g c =
    let key = c.args.key.now in
    let before = g.E.Sink.seen c.args.err.now in
    let first = g.E.Sink.seen c.write_number.new.err in
    let second = g.E.Sink.seen c.write_whole.new.sink in
    let after = g.E.Sink.seen c.write_whole-2.new.sink in
    let down = c.in_err-write_whole-2.field-0.0 in
    let tab : HasAll before first (codes "juicevol: row " ++ decimal key.tab ++ codes " ") =
    subst (λ (tab : ℕ). HasAll before first (codes "juicevol: row " ++ decimal tab ++ codes " ")) c.from.ensures
    c.in_ok-write_number.ensures in
    let number : c.as_bytes.result.now ≡ decimal key.a = search rules in
    at_space c.from_residual-in_err-write_whole-2.result before after (codes "juicevol: row ") (decimal key.tab)
    (codes " ") (decimal key.a) (digits_or_dash key.b) (codes ": not a row\n")
    down c.from_residual-in_err-write_whole-2.ensures.1
    (Fails-after before second after down (codes "juicevol: row " ++ decimal key.tab ++ codes " " ++ decimal key.a)
    (codes " ")
    (HasAll-after before first second (codes "juicevol: row " ++ decimal key.tab ++ codes " ") (decimal key.a) tab
    (subst (λ (text : List ℕ). HasAll first second text) number c.in_ok-write_whole.ensures))
    c.in_err-write_whole-2.ensures)

pub returns-in_err-write_digits : goal.returns-in_err-write_digits
returns-in_err-write_digits g c =
    let key = c.args.key.now in
    let before = g.E.Sink.seen c.args.err.now in
    let first = g.E.Sink.seen c.write_number.new.err in
    let second = g.E.Sink.seen c.write_whole.new.sink in
    let third = g.E.Sink.seen c.write_whole-2.new.sink in
    let after = g.E.Sink.seen c.write_digits.new.err in
    let down = c.in_err-write_digits.field-0.0 in
    let tab : HasAll before first (codes "juicevol: row " ++ decimal key.tab ++ codes " ") =
    subst (λ (tab : ℕ). HasAll before first (codes "juicevol: row " ++ decimal tab ++ codes " ")) c.from.ensures
    c.in_ok-write_number.ensures in
    let number : c.as_bytes.result.now ≡ decimal key.a = search rules in
    at_digits c.from_residual-in_err-write_digits.result before after (codes "juicevol: row ") (decimal key.tab)
    (codes " ") (decimal key.a) (digits_or_dash key.b) (codes ": not a row\n")
    down c.from_residual-in_err-write_digits.ensures.1
    (Fails-after before third after down (codes "juicevol: row " ++ decimal key.tab ++ codes " " ++ decimal
    key.a ++ codes " ") (digits_or_dash key.b)
    (HasAll-after before second third (codes "juicevol: row " ++ decimal key.tab ++ codes " " ++ decimal key.a)
    (codes " ")
    (HasAll-after before first second (codes "juicevol: row " ++ decimal key.tab ++ codes " ") (decimal key.a) tab
    (subst (λ (text : List ℕ). HasAll first second text) number c.in_ok-write_whole.ensures))
    c.in_ok-write_whole-2.ensures)
    (subst (λ (bytes : List ℕ). FailsToWriteAll third after down (digits_or_dash bytes)) c.as_slice.ensures
    c.in_err-write_digits.ensures))

pub returns : goal.returns
returns g c =
    let key = c.args.key.now in
    let before = g.E.Sink.seen c.args.err.now in
    let first = g.E.Sink.seen c.write_number.new.err in
    let second = g.E.Sink.seen c.write_whole.new.sink in
    let third = g.E.Sink.seen c.write_whole-2.new.sink in
    let fourth = g.E.Sink.seen c.write_digits.new.err in
    let after = g.E.Sink.seen c.write_whole-3.new.sink in
    let tab : HasAll before first (codes "juicevol: row " ++ decimal key.tab ++ codes " ") =
    subst (λ (tab : ℕ). HasAll before first (codes "juicevol: row " ++ decimal tab ++ codes " ")) c.from.ensures
    c.in_ok-write_number.ensures in
    let number : c.as_bytes.result.now ≡ decimal key.a = search rules in
    in_parts c.write_whole-3.result before after (codes "juicevol: row ") (decimal key.tab) (codes " ")
    (decimal key.a) (digits_or_dash key.b) (codes ": not a row\n")
    (WritesAll-after c.write_whole-3.result before fourth after
    (codes "juicevol: row " ++ decimal key.tab ++ codes " " ++ decimal key.a ++ codes " " ++ digits_or_dash key.b)
    (codes ": not a row\n")
    (HasAll-after before third fourth (codes "juicevol: row " ++ decimal key.tab ++ codes " " ++ decimal
    key.a ++ codes " ") (digits_or_dash key.b)
    (HasAll-after before second third (codes "juicevol: row " ++ decimal key.tab ++ codes " " ++ decimal key.a)
    (codes " ")
    (HasAll-after before first second (codes "juicevol: row " ++ decimal key.tab ++ codes " ") (decimal key.a) tab
    (subst (λ (text : List ℕ). HasAll first second text) number c.in_ok-write_whole.ensures))
    c.in_ok-write_whole-2.ensures)
    (subst (λ (bytes : List ℕ). HasAll third fourth (digits_or_dash bytes)) c.as_slice.ensures
    c.in_ok-write_digits.ensures))
    c.write_whole-3.ensures)
