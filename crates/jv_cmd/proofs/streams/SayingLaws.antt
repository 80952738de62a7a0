-- What was said, by one write after another.
use Rattle.std.proofs.Common.{◌≡◌, ℕ, ◌+◌, ◌<◌, List, ◌∷◌, ◌++◌, append_assoc, length, get_or, suc, take, drop, Result, Ok, Err, IsErrAnd, sym, ap, subst, ◌∙◌, arith, length-append, refl}
use Rattle.std.specs.List.{flat_map}
use Rattle.std.proofs.lemmas.List.{take_at, drop_at, take-append-le}
use Rattle.std.proofs.lemmas.List.Concat.{flat_map-cons}
use Rattle.std.proofs.lemmas.Grind.{flat_map-append}
use Rattle.std.proofs.Math.Seq.{split_at, take-add}
use Rattle.jv_model.specs.declared.fault.Down.{Down}
use Rattle.jv_model.specs.promise.script.Printed.{hex_pair}
use Rattle.jv_outside.specs.promise.Stream.{Stream, Gains, HasAll, IsCut}
use Rattle.jv_outside.specs.Stream.{FailsToWriteAll, WritesAll}
use Rattle.jv_outside.proofs.StreamLaws.{Gains-trans}
use Rattle.jv_cmd.specs.promise.Saying.{Says, Said, Cut}
use Rattle.jv_cmd.specs.declared.ended.Ended.{Ended}
use Rattle.jv_cmd.specs.promise.Ends.{message_of}
use Rattle.jv_cmd.proofs.streams.ReadingLaws.{Rose-since}

-- whether a call failed or not
pub Says-written : (result : Result (Unit {0}) Down) (before after : Stream) (text : List ℕ)
    → WritesAll before after result text → Says before after text
Says-written (Ok unit) before after text all = Said all
Says-written (Err down) before after text fails = Cut fails.cut

pub HasAll-after : (before between after : Stream) (first second : List ℕ) → HasAll before between first
    → HasAll between after second → HasAll before after (first ++ second)
HasAll-after before between after first second p q = record {
  gains = Gains-trans before.content between.content after.content first second p.gains q.gains;
  calm = q.calm ∙ p.calm;
}

take_behind : (first second : List ℕ) (count : ℕ) → first ++ take count second ≡ take (length first + count)
    (first ++ second)
take_behind first second count =
    sym (take-add (length first) count (first ++ second)
    ∙ ap (λ front. front ++ take count (drop (length first) (first ++ second)))
    (take_at first second (length first) refl)
    ∙ ap (λ rest. first ++ take count rest) (drop_at first second (length first) refl))

-- a proper prefix after a whole
pub IsCut-after : (before between after : Stream) (first second : List ℕ) → HasAll before between first
    → IsCut between after second → IsCut before after (first ++ second)
IsCut-after before between after first second p q = record {
  count = length first + q.count;
  proper = omega (arith, q.proper, length-append first second);
  gains = subst (λ bytes. Gains before.content after.content bytes) (take_behind first second q.count)
      (Gains-trans before.content between.content after.content first (take q.count second) p.gains q.gains);
  rose = Rose-since before.faults between.faults after.faults p.calm q.rose;
}

-- a proper prefix of the first text is one of both
pub IsCut-more : (before after : Stream) (first second : List ℕ) → IsCut before after first
    → IsCut before after (first ++ second)
IsCut-more before after first second q = record {
  count = q.count;
  proper = omega (arith, q.proper, length-append first second);
  gains = subst (λ bytes. Gains before.content after.content bytes)
      (sym (take-append-le q.count first second (omega (arith, q.proper)))) q.gains;
  rose = q.rose;
}

-- a text after a text that was written
pub Fails-after : (before between after : Stream) (down : Down) (first second : List ℕ) → HasAll before between first
    → FailsToWriteAll between after down second → FailsToWriteAll before after down (first ++ second)
Fails-after before between after down first second p q = record {
  cut = IsCut-after before between after first second p q.cut;
  failed = q.failed;
}

-- a text that was cut, before another
pub Fails-more : (before after : Stream) (down : Down) (first second : List ℕ)
    → FailsToWriteAll before after down first → FailsToWriteAll before after down (first ++ second)
Fails-more before after down first second q = record {
  cut = IsCut-more before after first second q.cut;
  failed = q.failed;
}

-- a write after another
pub WritesAll-after : (result : Result (Unit {0}) Down) (before between after : Stream) (first second : List ℕ)
    → HasAll before between first → WritesAll between after result second
    → WritesAll before after result (first ++ second)
WritesAll-after (Ok unit) before between after first second p all = HasAll-after before between after first second p all
WritesAll-after (Err down) before between after first second p fails =
    Fails-after before between after down first second p fails

-- a write that failed passes its error on
pub WritesAll-failed : (result : Result (Unit {0}) Down) (before after : Stream) (down : Down) (text : List ℕ)
    → IsErrAnd result (λ error. error ≡ down) → FailsToWriteAll before after down text
    → WritesAll before after result text
WritesAll-failed (Ok unit) before after down text is fails = absurd is
WritesAll-failed (Err error) before after down text is fails = subst
    (λ (d : Down). FailsToWriteAll before after d text) (sym is) fails

-- a write that failed in the midst of a text
pub WritesAll-stopped : (result : Result (Unit {0}) Down) (before between after : Stream) (down : Down)
    (first second rest : List ℕ) → IsErrAnd result (λ error. error ≡ down)
    → HasAll before between first → FailsToWriteAll between after down second
    → WritesAll before after result (first ++ second ++ rest)
WritesAll-stopped result before between after down first second rest is p fails =
    WritesAll-failed result before after down (first ++ second ++ rest) is
    (Fails-more before after down (first ++ second) rest
    (Fails-after before between after down first second p fails))

-- the text of a row's key, one part after another
pub key_parts : (start tab space number digits end : List ℕ)
    → start ++ (tab ++ space ++ number ++ space ++ digits) ++ end ≡ start ++ tab ++ space ++ number ++ space ++ digits
    ++ end
key_parts start tab space number digits end = simp append_assoc

-- those of the bytes before a place, of the one there, and of those behind it
pub pairs_apart : (bytes : List ℕ) (i : ℕ) → i < length bytes
    → flat_map hex_pair (take i bytes) ++ hex_pair (get_or bytes i 0) ++ flat_map hex_pair
    (drop (suc i) bytes) ≡ flat_map hex_pair bytes
pairs_apart bytes i below =
    let byte = get_or bytes i 0 in
    append_assoc (flat_map hex_pair (take i bytes)) (hex_pair byte) (flat_map hex_pair (drop (suc i) bytes))
    ∙ ap (λ pairs. flat_map hex_pair (take i bytes) ++ pairs) (sym (flat_map-cons hex_pair byte (drop (suc i) bytes)))
    ∙ sym (flat_map-append hex_pair (take i bytes) (byte ∷ drop (suc i) bytes))
    ∙ ap (flat_map hex_pair) (sym (split_at bytes i 0 below))

pub Says-ended : {ended this : Ended} {before after : Stream} → ended ≡ this → Says before after (message_of this)
    → Says before after (message_of ended)
Says-ended {ended} {this} {before} {after} same says = subst (λ (e : Ended). Says before after (message_of e))
    (sym same) says
