-- How a journal so far, its clock and the text that it prints grow.
use Rattle.std.proofs.Common.{◌≡◌, ℕ, zero, suc, ◌+◌, ◌-◌, ◌≤◌, ◌<◌, Bool, true, false, if◌then◌else◌, IfSome, MatchBool, MatchOption, inl, inr, List, [], ◌∷◌, ◌++◌, length, slice_get, Option, None, Some, refl, sym, ap, subst, ◌∙◌, arith, append_assoc, ◌&&◌}
use Rattle.std.specs.List.{AllByRecursion}
use Rattle.std.proofs.lemmas.List.{append-nil}
use Rattle.std.proofs.lemmas.Bool.Decides.{leb_tells}
use Rattle.jv_model.specs.declared.limits.TheConstants.{LAST_MOMENT}
use Rattle.jv_model.specs.declared.act.Act.{Act}
use Rattle.jv_model.specs.declared.act.ActKind.{ActKind}
use Rattle.jv_model.specs.declared.act.ActKind.TheVariants.{Mounted, Meta, Opened, Look, Commit, Truncated, Copied, Compacted, Settled, Expired, Purged, Cleaned, Quiet, Miss, Crashed, Ticked, Answered}
use Rattle.jv_model.specs.declared.fault.Fault.{Fault}
use Rattle.jv_model.specs.declared.op.Op.{Op}
use Rattle.jv_model.specs.declared.op.Line.{Line}
use Rattle.jv_model.specs.declared.op.Line.TheVariants.{Empty, Do, Begin, Step, Run, Crash, Drain, Tick}
use Rattle.jv_model.specs.promise.client.ModelClient.{Doing}
use Rattle.jv_model.specs.promise.client.Submission.{submission}
use Rattle.jv_model.specs.promise.journal.State.{State, after_step, of_doing, changed, effect}
use Rattle.jv_model.specs.promise.journal.Past.{Past, Due, at_start, begun, begun_by, begun_by_due, begun_to, begin_from, begin_next, after_line, is_busy, is_workers, lined, asks_clock, after, advance, past, reached, is_over}
use Rattle.jv_model.specs.promise.journal.Legal.{Allowed, AllAllowed, IsMoment, clock_moment, tick_of}
use Rattle.jv_model_laws.specs.Laws.{JournalsGrow, EarlierTextStays, FollowsClock, Follows, OthersStay, EntriesAreCounted, text_to}
pub use Rattle.jv_model.proofs.ClientsLaws.{own_client, other_client}

-- what a line that begins leaves

pub record Frame (p q : Past) : Type 0 where
  pub run : q.run ≡ p.run
  pub line : q.line ≡ p.line
  pub printed : q.printed ≡ p.printed
  pub complete : q.complete ≡ p.complete
  pub lines : q.rest ≡ p.rest
  pub at : q.at ≡ p.at
  pub count : q.state.count ≡ p.state.count

frame_due : (due : Due) (p : Past) (client : ℕ) (o : Op) (fault : Option Fault) → Frame p (begun_by_due due p client o fault)
frame_due due p client o None = record { run = refl; line = refl; printed = refl; complete = refl; lines = refl; at = refl; count = refl }
frame_due due p client o (Some fault) = record { run = refl; line = refl; printed = refl; complete = refl; lines = refl; at = refl; count = refl }

frame_idle : (p : Past) (due idle : Due) (said : List ℕ) (busy : Bool) → Frame p (if busy then record p { due = due } else record p { due = idle; said = said })
frame_idle p due idle said true = record { run = refl; line = refl; printed = refl; complete = refl; lines = refl; at = refl; count = refl }
frame_idle p due idle said false = record { run = refl; line = refl; printed = refl; complete = refl; lines = refl; at = refl; count = refl }

pub frame_begun : (p : Past) (line : Line) → Frame p (begun p line)
frame_begun p Empty = record { run = refl; line = refl; printed = refl; complete = refl; lines = refl; at = refl; count = refl }
frame_begun p (Do client o) = frame_due _ p client o (submission (p.state.clients client) o)
frame_begun p (Begin client o) = let f = frame_due _ (record p { said = _ }) client o (submission (p.state.clients client) o) in record { run = f.run; line = f.line; printed = f.printed; complete = f.complete; lines = f.lines; at = f.at; count = f.count }
frame_begun p (Step client) = frame_idle p _ _ _ (is_busy p client)
frame_begun p (Run client) = frame_idle p _ _ _ (is_busy p client)
frame_begun p (Crash client) = record { run = refl; line = refl; printed = refl; complete = refl; lines = refl; at = refl; count = refl }
frame_begun p (Drain client) = record { run = refl; line = refl; printed = refl; complete = refl; lines = refl; at = refl; count = refl }
frame_begun p (Tick by) = record { run = refl; line = refl; printed = refl; complete = refl; lines = refl; at = refl; count = refl }

pub record AfterLine (p q : Past) : Type 0 where
  pub run : q.run ≡ p.run
  pub line : q.line ≡ p.line + 1
  pub printed : q.printed ≡ p.printed ++ p.said
  pub complete : q.complete ≡ (p.complete && is_over p)
  pub at : q.at ≡ p.at
  pub count : q.state.count ≡ p.state.count

after_line_begin_from : (rest : List Line) (p : Past) → AfterLine p (begin_from rest p)
after_line_begin_from [] p = record { run = refl; line = refl; printed = refl; complete = refl; at = refl; count = refl }
after_line_begin_from (line ∷ rest) p = let f = frame_begun (after_line p rest) line in record { run = f.run; line = f.line; printed = f.printed; complete = f.complete; at = f.at; count = f.count }

pub after_line_begin_next : (p : Past) → AfterLine p (begin_next p)
unfolding begin_next
after_line_begin_next p = after_line_begin_from p.rest p

-- lines

line-begun_by : (n : ℕ) (p : Past) → (begun_by n p).line ≡ p.line + n
line-begun_by zero p = omega arith
line-begun_by (suc n) p = let e = line-begun_by n p in let f = (after_line_begin_next (begun_by n p)).line in omega (arith, e, f)

pub line-begun_to : (n : ℕ) (p : Past) → p.line ≤ n → (begun_to n p).line ≡ n
unfolding begun_to
line-begun_to n p h = let e = line-begun_by (n - p.line) p in omega (arith, e)

-- a line that is the present one, or an earlier one, is begun already
pub begun_to-begun : (n : ℕ) (p : Past) → n ≤ p.line → begun_to n p ≡ p
unfolding begun_to
begun_to-begun n p e = let none : n - p.line ≡ 0 = omega arith in ap (λ k. begun_by k p) none

pub begun_to-next : (n : ℕ) (p : Past) → p.line + 1 ≡ n → begun_to n p ≡ begin_next p
unfolding begun_to
begun_to-next n p e = let one : n - p.line ≡ 1 = omega arith in ap (λ k. begun_by k p) one

begun_by-twice : (m n : ℕ) (p : Past) → begun_by m (begun_by n p) ≡ begun_by (m + n) p
begun_by-twice zero n p = ap (λ k. begun_by k p) (let e : n ≡ 0 + n = omega arith in e)
begun_by-twice (suc m) n p = ap begin_next (begun_by-twice m n p) ∙ ap (λ k. begun_by k p) (let e : suc (m + n) ≡ suc m + n = omega arith in e)

-- lines begun up to one number and then up to a later one
pub begun_to-twice : (m n : ℕ) (p : Past) → p.line ≤ n → n ≤ m → begun_to m (begun_to n p) ≡ begun_to m p
unfolding begun_to
begun_to-twice m n p low high =
    let at = line-begun_by (n - p.line) p in
    let steps : m - (begun_by (n - p.line) p).line ≡ m - n = omega (arith, at) in
    let all : (m - n) + (n - p.line) ≡ m - p.line = omega arith in
    ap (λ k. begun_by k (begun_by (n - p.line) p)) steps ∙ begun_by-twice (m - n) (n - p.line) p ∙ ap (λ k. begun_by k p) all

-- an entry of the present line
pub advance-present : (p : Past) (act : Act) → p.line ≡ act.line → advance p act ≡ after p act
unfolding advance
advance-present p act e = ap (λ q. after q act) (begun_to-begun act.line p (omega arith))

pub past-append : (p : Past) (xs ys : List Act) → past p (xs ++ ys) ≡ past (past p xs) ys
past-append p [] ys = refl
past-append p (x ∷ xs) ys = past-append (advance p x) xs ys

-- a journal that grows stays legal so far
pub AllAllowed-append : (p : Past) (xs ys : List Act) → AllAllowed p xs → AllAllowed (past p xs) ys → AllAllowed p (xs ++ ys)
AllAllowed-append p [] ys h g = g
AllAllowed-append p (x ∷ xs) ys h g = (h.0, AllAllowed-append (advance p x) xs ys h.1 g)

pub AllAllowed-parts : (p : Past) (xs ys : List Act) → AllAllowed p (xs ++ ys) → AllAllowed p xs × AllAllowed (past p xs) ys
AllAllowed-parts p [] ys h = (tt, h)
AllAllowed-parts p (x ∷ xs) ys h = let rest = AllAllowed-parts (advance p x) xs ys h.1 in ((h.0, rest.0), rest.1)

-- the lines up to an entry's own are begun by the entry
pub advance-begun_to : (n : ℕ) (p : Past) (act : Act) → p.line ≤ n → n ≤ act.line → advance (begun_to n p) act ≡ advance p act
unfolding advance
advance-begun_to n p act low high = ap (λ q. after q act) (begun_to-twice act.line n p low high)

pub past-begun_to : (n : ℕ) (p : Past) (act : Act) (acts : List Act) → p.line ≤ n → n ≤ act.line → past (begun_to n p) (act ∷ acts) ≡ past p (act ∷ acts)
past-begun_to n p act acts low high = ap (λ q. past q acts) (advance-begun_to n p act low high)

pub AllAllowed-begun_to : (n : ℕ) (p : Past) (act : Act) (acts : List Act) → p.line ≤ n → n ≤ act.line → AllAllowed (begun_to n p) (act ∷ acts) → AllAllowed p (act ∷ acts)
AllAllowed-begun_to n p act acts low high h = (
  subst (λ q. Allowed q act) (begun_to-twice act.line n p low high) h.0,
  subst (λ q. AllAllowed q acts) (advance-begun_to n p act low high) h.1,
)

pub journals_grow : JournalsGrow
journals_grow run journal more = (AllAllowed-parts (at_start run) journal more, λ h. AllAllowed-append (at_start run) journal more h.0 h.1)

-- an entry begins no line, and so prints nothing of the lines before

pub record Entered (p : Past) (act : Act) (q : Past) : Type 0 where
  pub run : q.run ≡ p.run
  pub line : q.line ≡ p.line
  pub printed : q.printed ≡ p.printed
  pub complete : q.complete ≡ p.complete
  pub lines : q.rest ≡ p.rest
  pub at : q.at ≡ act.at
  pub state : q.state ≡ effect p.state act

record SameText (p q : Past) : Type 0 where
  run : q.run ≡ p.run
  line : q.line ≡ p.line
  printed : q.printed ≡ p.printed
  complete : q.complete ≡ p.complete
  lines : q.rest ≡ p.rest

text_lined : (p : Past) (act : Act) (kind : ActKind) → SameText p (lined p act kind)
text_lined p act (Answered told) = record { run = refl; line = refl; printed = refl; complete = refl; lines = refl }
text_lined p act Crashed = record { run = refl; line = refl; printed = refl; complete = refl; lines = refl }
text_lined p act (Ticked by) = record { run = refl; line = refl; printed = refl; complete = refl; lines = refl }
text_lined p act _ = record { run = refl; line = refl; printed = refl; complete = refl; lines = refl }

text_of_line : (p q : Past) (asked : ℕ) (worker : Bool) → SameText p q → SameText p (if worker then p else record q { asked = asked })
text_of_line p q asked true s = record { run = refl; line = refl; printed = refl; complete = refl; lines = refl }
text_of_line p q asked false s = record { run = s.run; line = s.line; printed = s.printed; complete = s.complete; lines = s.lines }

pub entered : (p : Past) (act : Act) → Entered p act (after p act)
unfolding after
entered p act = let s = text_of_line p (lined p act act.kind) _ (is_workers p) (text_lined p act act.kind) in record { run = s.run; line = s.line; printed = s.printed; complete = s.complete; lines = s.lines; at = refl; state = refl }

pub advanced : (p : Past) (act : Act) → Entered (begun_to act.line p) act (advance p act)
unfolding advance
advanced p act = entered (begun_to act.line p) act

pub line_of_advance : (p : Past) (act : Act) → Allowed (begun_to act.line p) act → (advance p act).line ≡ act.line
line_of_advance p act may = (advanced p act).line ∙ may.line

-- the text before the present line only grows

record IsPrefix (xs ys : List ℕ) : Type 0 where
  rest : List ℕ
  whole : xs ++ rest ≡ ys

prefix_self : (xs : List ℕ) → IsPrefix xs xs
prefix_self xs = record { rest = []; whole = append-nil xs }

prefix_same : {xs ys : List ℕ} → ys ≡ xs → IsPrefix xs ys
prefix_same {xs} {ys} e = record { rest = []; whole = append-nil xs ∙ sym e }

prefix_then : {xs ys zs : List ℕ} → IsPrefix xs ys → IsPrefix ys zs → IsPrefix xs zs
prefix_then {xs} {ys} {zs} a b = record { rest = a.rest ++ b.rest; whole = sym (append_assoc xs a.rest b.rest) ∙ ap (λ l. l ++ b.rest) a.whole ∙ b.whole }

prefix_append : (xs ys : List ℕ) → IsPrefix xs (xs ++ ys)
prefix_append xs ys = record { rest = ys; whole = refl }

abbrev told : Past → List ℕ
told p = p.printed ++ p.said

printed_by : (n : ℕ) (p : Past) → IsPrefix p.printed (begun_by n p).printed
printed_by zero p = prefix_self p.printed
printed_by (suc n) p = prefix_then (printed_by n p) (prefix_then (prefix_append (begun_by n p).printed (begun_by n p).said) (prefix_same (after_line_begin_next (begun_by n p)).printed))

printed_to : (n : ℕ) (p : Past) → IsPrefix p.printed (begun_to n p).printed
unfolding begun_to
printed_to n p = printed_by (n - p.line) p

told_by : (n : ℕ) (p : Past) → IsPrefix (told p) (begun_by (suc n) p).printed
told_by zero p = prefix_same (after_line_begin_next p).printed
told_by (suc n) p = prefix_then (told_by n p) (prefix_then (prefix_append (begun_by (suc n) p).printed (begun_by (suc n) p).said) (prefix_same (after_line_begin_next (begun_by (suc n) p)).printed))

told_next : (k : ℕ) (p : Past) → 0 < k → IsPrefix (told p) (begun_by k p).printed
told_next zero p h = absurd (omega arith)
told_next (suc n) p h = told_by n p

told_to : (n : ℕ) (p : Past) → p.line < n → IsPrefix (told p) (begun_to n p).printed
unfolding begun_to
told_to n p h = told_next (n - p.line) p (omega arith)

printed_advance : (p : Past) (act : Act) → IsPrefix (begun_to act.line p).printed (advance p act).printed
printed_advance p act = prefix_same (advanced p act).printed

printed_past : (p : Past) (acts : List Act) → IsPrefix p.printed (past p acts).printed
printed_past p [] = prefix_self p.printed
printed_past p (act ∷ acts) = prefix_then (prefix_then (printed_to act.line p) (printed_advance p act)) (printed_past (advance p act) acts)

-- lines up to a number

line_to : (n m : ℕ) (p : Past) → p.line ≤ n → m ≤ n → (begun_to m p).line ≤ n
line_to n m p low h = elim (leb_tells p.line m) [
  | inl up ↦ (let e = line-begun_to m p up.1 in omega (arith, e))
  | inr down ↦ subst (λ (q : Past). q.line ≤ n) (sym (begun_to-begun m p (omega (arith, down.1)))) low
]

line_advance : (n : ℕ) (p : Past) (act : Act) → p.line ≤ n → act.line ≤ n → (advance p act).line ≤ n
line_advance n p act low h = let b = line_to n act.line p low h in let s = (advanced p act).line in omega (arith, b, s)

line_past : (n : ℕ) (p : Past) (acts : List Act) → p.line ≤ n → AllByRecursion (λ act. act.line ≤ n) acts → (past p acts).line ≤ n
line_past n p [] low h = low
line_past n p (act ∷ acts) low h = line_past n (advance p act) acts (line_advance n p act low h.0) h.1

-- entries of later lines

text_alone : (line last : ℕ) (p : Past) → p.line ≤ line → line ≤ last → IsPrefix (text_to line p) (text_to last p)
text_alone line last p low high =
    let b = begun_to line p in
    let at = line-begun_to line p low in
    let to : begun_to last b ≡ begun_to last p = begun_to-twice last line p low high in
    elim (leb_tells last line) [
      | inl same ↦ (let e : line ≡ last = omega (arith, same.1, high) in prefix_same (sym (ap (λ n. text_to n p) e)))
      | inr more ↦ (let h : b.line < last = omega (arith, at, more.1) in
          prefix_then (told_to last b h) (prefix_then (prefix_append (begun_to last b).printed (begun_to last b).said) (prefix_same (ap told (sym to)))))
    ]

text_later : (line last : ℕ) (p : Past) (act : Act) (acts : List Act) → p.line ≤ line → line < act.line → IsPrefix (text_to line p) (text_to last (past p (act ∷ acts)))
text_later line last p act acts low h =
    let b = begun_to line p in
    let at = line-begun_to line p low in
    let same : past b (act ∷ acts) ≡ past p (act ∷ acts) = past-begun_to line p act acts low (omega arith) in
    let next : b.line < act.line = omega (arith, at, h) in
    let q = past b (act ∷ acts) in
    prefix_then (told_to act.line b next) (prefix_then (printed_advance b act) (prefix_then (printed_past (advance b act) acts)
    (prefix_then (printed_to last q) (prefix_then (prefix_append (begun_to last q).printed (begun_to last q).said) (prefix_same (ap (text_to last) (sym same)))))))

text_more : (line last : ℕ) (p : Past) (more : List Act) → p.line ≤ line → AllByRecursion (λ act. line < act.line) more → line ≤ last → IsPrefix (text_to line p) (text_to last (past p more))
text_more line last p [] low h high = text_alone line last p low high
text_more line last p (act ∷ acts) low h high = text_later line last p act acts low h.0

pub earlier_text : EarlierTextStays
earlier_text run journal more line last first later high =
    let p = reached run journal in
    let t = text_more line last p more (line_past line (at_start run) journal (omega arith) first) later high in
    (t.rest, t.whole ∙ sym (ap (text_to last) (past-append (at_start run) journal more)))

-- lines and moments never fall

pub record Begun (p q : Past) : Type 0 where
  pub run : q.run ≡ p.run
  pub at : q.at ≡ p.at
  pub count : q.state.count ≡ p.state.count

begun_frame_by : (n : ℕ) (p : Past) → Begun p (begun_by n p)
begun_frame_by zero p = record { run = refl; at = refl; count = refl }
begun_frame_by (suc n) p = let b = begun_frame_by n p in let t = after_line_begin_next (begun_by n p) in record { run = t.run ∙ b.run; at = t.at ∙ b.at; count = t.count ∙ b.count }

pub begun_frame : (n : ℕ) (p : Past) → Begun p (begun_to n p)
unfolding begun_to
begun_frame n p = begun_frame_by (n - p.line) p

-- an entry's line isn't begun before
pub line_allowed : (p : Past) (act : Act) → Allowed (begun_to act.line p) act → p.line ≤ act.line
line_allowed p act h = elim (leb_tells p.line act.line) [
  | inl low ↦ low.1
  | inr high ↦ (let same = ap (λ (q : Past). q.line) (begun_to-begun act.line p (omega (arith, high.1))) in let at = h.line in omega (arith, same, at))
]

moment_clock : (p : Past) (act : Act) (tick : ℕ) (clock : Option (ℕ → ℕ)) → p.at ≤ LAST_MOMENT
    → MatchOption clock ((p.at ≤ act.at) × (act.at ≤ LAST_MOMENT)) (λ answers. act.at ≡ clock_moment p tick answers) → (p.at ≤ act.at) × (act.at ≤ LAST_MOMENT)
moment_clock p act tick None low h = h
moment_clock p act tick (Some answers) low h = (grind arith, grind arith)

moment_asked : (p : Past) (act : Act) (P : Type 0) (asks : Bool) → p.at ≤ LAST_MOMENT → (P → (p.at ≤ act.at) × (act.at ≤ LAST_MOMENT)) → MatchBool asks P (act.at ≡ p.at) → (p.at ≤ act.at) × (act.at ≤ LAST_MOMENT)
moment_asked p act P true low f h = f h
moment_asked p act P false low f h = (omega arith, omega arith)

moment_worker : (p : Past) (act : Act) (P : Type 0) (worker : Bool) → (P → (p.at ≤ act.at) × (act.at ≤ LAST_MOMENT)) → MatchBool worker ((p.at ≤ act.at) × (act.at ≤ LAST_MOMENT)) P → (p.at ≤ act.at) × (act.at ≤ LAST_MOMENT)
moment_worker p act P true f h = h
moment_worker p act P false f h = f h

moment_allowed : (p : Past) (act : Act) → p.at ≤ LAST_MOMENT → IsMoment p act → (p.at ≤ act.at) × (act.at ≤ LAST_MOMENT)
moment_allowed p act low h = moment_worker p act _ (is_workers p) (moment_asked p act _ (asks_clock p act) low (moment_clock p act (p.ticks + tick_of act.kind) p.run.clock low)) h

record Since (first moment_before : ℕ) (act : Act) : Type 0 where
  line : first ≤ act.line
  moment : moment_before ≤ act.at
  last : act.at ≤ LAST_MOMENT

since_weaker : (line at line' at' : ℕ) → line ≤ line' → at ≤ at' → (acts : List Act) → AllByRecursion (Since line' at') acts → AllByRecursion (Since line at) acts
since_weaker line at line' at' l m [] h = tt
since_weaker line at line' at' l m (act ∷ acts) h = (record { line = (let a = h.0.line in omega (arith, a)); moment = (let a = h.0.moment in omega (arith, a)); last = h.0.last }, since_weaker line at line' at' l m acts h.1)

since_allowed : (p : Past) (act : Act) → p.at ≤ LAST_MOMENT → Allowed (begun_to act.line p) act → Since p.line p.at act
since_allowed p act low h =
    let b = begun_frame act.line p in
    let at = b.at in
    let m = moment_allowed (begun_to act.line p) act (omega (arith, at)) h.moment in
    record { line = line_allowed p act h; moment = (let a = m.0 in omega (arith, at, a)); last = m.1 }

since_past : (p : Past) (acts : List Act) → p.at ≤ LAST_MOMENT → AllAllowed p acts → AllByRecursion (Since p.line p.at) acts
since_past p [] low h = tt
since_past p (act ∷ acts) low h =
    let s = since_allowed p act low h.0 in
    let a = advanced p act in
    let at = a.at in
    let line : (advance p act).line ≡ act.line = a.line ∙ h.0.line in
    let later = since_past (advance p act) acts (let l = s.last in omega (arith, at, l)) h.1 in
    (s, since_weaker p.line p.at (advance p act).line (advance p act).at (let l = s.line in omega (arith, line, l)) (let m = s.moment in omega (arith, at, m)) acts later)

since_at : (P : Act → Type 0) (acts : List Act) (i : ℕ) → AllByRecursion P acts → IfSome (slice_get acts i) P
since_at P [] i h = tt
since_at P (act ∷ acts) zero h = h.0
since_at P (act ∷ acts) (suc i) h = since_at P acts i h.1

abbrev Orderly : List Act → ℕ → ℕ → Type 0
Orderly acts i j = IfSome (slice_get acts i) (λ a. IfSome (slice_get acts j) (λ b. Follows a b))

-- what follows of a value follows where there is one
pub if_some_of : {A : Type 0} (P Q : A → Type 0) (o : Option A) → ((x : A) → P x → Q x) → IfSome o P → IfSome o Q
if_some_of P Q None f h = tt
if_some_of P Q (Some x) f h = f x h

follows_at : (p : Past) (acts : List Act) (i j : ℕ) → p.at ≤ LAST_MOMENT → AllAllowed p acts → i ≤ j → Orderly acts i j
follows_at p [] i j low h le = tt
follows_at p (act ∷ acts) (suc i) zero low h le = absurd (omega arith)
follows_at p (act ∷ acts) (suc i) (suc j) low h le = follows_at (advance p act) acts i j (let s = since_allowed p act low h.0 in let l = s.last in let at = (advanced p act).at in omega (arith, at, l)) h.1 (omega arith)
follows_at p (act ∷ acts) zero zero low h le = let s = since_allowed p act low h.0 in record { line = omega arith; moment = omega arith; last = s.last }
follows_at p (act ∷ acts) zero (suc j) low h le =
    let s = since_allowed p act low h.0 in
    let a = advanced p act in
    let at = a.at in
    let line : (advance p act).line ≡ act.line = a.line ∙ h.0.line in
    let later = since_past (advance p act) acts (let l = s.last in omega (arith, at, l)) h.1 in
    if_some_of (Since (advance p act).line (advance p act).at) (λ b. Follows act b) (slice_get acts j)
    (λ b f. record { line = (let l = f.line in omega (arith, line, l)); moment = (let m = f.moment in omega (arith, at, m)); last = f.last })
    (since_at (Since (advance p act).line (advance p act).at) acts j later)

pub clock_followed : FollowsClock
clock_followed run journal h zero later le = tt
clock_followed run journal h (suc i) zero le = absurd (omega arith)
clock_followed run journal h (suc i) (suc j) le = follows_at (at_start run) journal i j (omega arith) h (omega arith)

-- entries are counted

pub count_past : (p : Past) (acts : List Act) → (past p acts).state.count ≡ p.state.count + length acts
count_past p [] = omega arith
count_past p (act ∷ acts) =
    let rest = count_past (advance p act) acts in
    let one : (advance p act).state.count ≡ (begun_to act.line p).state.count + 1 = ap (λ (s : State). s.count) (advanced p act).state in
    let same = (begun_frame act.line p).count in
    omega (arith, rest, one, same)

pub counted : EntriesAreCounted
counted run journal = let e = count_past (at_start run) journal in omega (arith, e)

-- an entry changes nothing of another client

others_step : (s : State) (act : Act) (d : Doing) (kind : ActKind) (q : ℕ) → (q ≡ act.client → ⊥) → (after_step s act d kind).clients q ≡ s.clients q
others_step s act d (Mounted sid) q h = other_client s.clients act.client _ q h
others_step s act d Meta q h = other_client s.clients act.client _ q h
others_step s act d (Opened handle inode) q h = other_client s.clients act.client _ q h
others_step s act d (Look inode window) q h = other_client s.clients act.client _ q h
others_step s act d (Commit inode from len staged) q h = other_client s.clients act.client _ q h
others_step s act d (Truncated inode len) q h = other_client s.clients act.client _ q h
others_step s act d (Copied source from target to len) q h = other_client s.clients act.client _ q h
others_step s act d (Compacted inode window from to) q h = other_client s.clients act.client _ q h
others_step s act d (Settled commit) q h = other_client s.clients act.client _ q h
others_step s act d (Expired sid) q h = other_client s.clients act.client _ q h
others_step s act d (Purged inode) q h = other_client s.clients act.client _ q h
others_step s act d (Cleaned table key) q h = other_client s.clients act.client _ q h
others_step s act d Quiet q h = other_client s.clients act.client _ q h
others_step s act d (Miss inode window) q h = other_client s.clients act.client _ q h
others_step s act d Crashed q h = refl
others_step s act d (Ticked by) q h = refl
others_step s act d (Answered told) q h = refl

others_none : (s : State) (kind : ActKind) (act : Act) (q : ℕ) → (of_doing s (record act { kind = kind }) None).clients q ≡ s.clients q
others_none s (Settled commit) act q = refl
others_none s _ act q = refl

others_doing : (s : State) (act : Act) (o : Option Doing) (q : ℕ) → (q ≡ act.client → ⊥) → (of_doing s act o).clients q ≡ s.clients q
others_doing s act None q h = others_none s act.kind act q
others_doing s act (Some d) q h = others_step s act d act.kind q h

others_changed : (s : State) (act : Act) (kind : ActKind) (q : ℕ) → (q ≡ act.client → ⊥) → (changed s act kind).clients q ≡ s.clients q
others_changed s act Crashed q h = other_client s.clients act.client _ q h
others_changed s act (Answered told) q h = other_client s.clients act.client _ q h
others_changed s act _ q h = others_doing s act (s.clients act.client).doing q h

pub others_kept : OthersStay
others_kept s act q h = others_changed s act act.kind q h
