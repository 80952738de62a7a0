-- What was read of the source, and what the clock answered, line by line.
use Rattle.std.proofs.Common.{◌≡◌, ℕ, ◌+◌, ◌≤◌, IsSome, IfSome, IsSomeAnd, All, List, [], ◌∷◌, ◌++◌, length, map, take, drop, Option, None, Some, refl, sym, ap, subst, ◌∙◌}
use Rattle.std.proofs.lemmas.List.{append_assoc, append-nil, map_push}
use Rattle.std.proofs.lemmas.List.Elements.{All-push}
use Rattle.std.specs.Io.KnownBytes.{prepend_known}
use Rattle.jv_model.specs.declared.limits.TheConstants.{MAX_LINE}
use Rattle.jv_model.specs.declared.op.Line.{Line}
use Rattle.jv_model.specs.promise.script.Grammar.{line_of}
use Rattle.jv_outside.specs.promise.Causes.{Rose}
use Rattle.jv_outside.specs.promise.Ticks.{Ticks, Passes}
use Rattle.jv_session.specs.Stands.{ClockFor}
use Rattle.jv_cmd.specs.Cutting.{BeginsWith, CutsText}
use Rattle.jv_cmd.specs.promise.Run.{BeginWith, IsKnownClock}
use Rattle.jv_cmd.specs.promise.Stages.{StageValue}
use Rattle.jv_cmd.specs.promise.Texts.{texts_of}

-- a rise of a count that was the same before
pub Rose-since : (a b c : ℕ) → b ≡ a → Rose b c → Rose a c
Rose-since a b c same r = subst (λ n. Rose n c) same r

-- the clock

pub known_before : (a b : Option (ℕ → ℕ)) (n : ℕ) → Passes a b n → IsSome b → IsSome a
known_before a None n p e = cc
known_before None (Some g) n p e = absurd p.known
known_before (Some f) (Some g) n p e = refl

pub IsKnownClock-earlier : (known : Option (ℕ → ℕ)) (before now after : StageValue) (asks : ℕ)
    → Passes now.clock.answers after.clock.answers asks → IsKnownClock known before.clock after.clock
    → IsKnownClock known before.clock now.clock
IsKnownClock-earlier None before now after asks p t = tt
IsKnownClock-earlier (Some answers) before now after asks p t =
    (t.0, known_before now.clock.answers after.clock.answers asks p t.1)

pub known_since : (answers : ℕ → ℕ) (b : Option (ℕ → ℕ)) (asked : ℕ) → Passes (Some answers) b asked
    → IfSome b (λ rest. (n : ℕ) → rest n ≡ answers (n + asked))
known_since answers None asked p = tt
known_since answers (Some g) asked p = p.known

pub ClockFor-now : (known : Option (ℕ → ℕ)) (before now after : StageValue) (asked : ℕ)
    → IsKnownClock known before.clock after.clock → Passes before.clock.answers now.clock.answers asked
    → ClockFor known asked now.clock.answers after.clock.answers
ClockFor-now None before now after asked t p = tt
ClockFor-now (Some answers) before now after asked t p =
    (t.1, known_since answers now.clock.answers asked (subst (λ first. Passes first now.clock.answers asked) t.0 p))

pub known_then : (known : Option (ℕ → ℕ)) (before now after : Ticks) → after.answers ≡ now.answers
    → IsKnownClock known before after → IsKnownClock known before now
known_then None before now after same t = tt
known_then (Some answers) before now after same t = (t.0, subst (λ rest. IsSome rest) same t.1)

-- the source

pub first_more : (bytes left left' : Option (List ℕ)) (texts : List (List ℕ)) (text : List ℕ)
    → IfSome bytes (λ all. IsSomeAnd left (λ rest. texts_of all ≡ texts ++ texts_of rest))
    → IfSome left (λ all. IsSomeAnd left' (λ rest. texts_of all ≡ text ∷ texts_of rest))
    → IfSome bytes (λ all. IsSomeAnd left' (λ rest. texts_of all ≡ (texts ++ text ∷ []) ++ texts_of rest))
first_more None left left' texts text p q = tt
first_more (Some xs) None left' texts text p q = absurd p
first_more (Some xs) (Some ys) None texts text p q = absurd q
first_more (Some xs) (Some ys) (Some zs) texts text p q = p ∙ ap (λ more. texts ++ more) q
    ∙ sym (append_assoc texts (text ∷ []) (texts_of zs))

pub first_is : (bytes left : Option (List ℕ)) (texts : List (List ℕ))
    → IfSome bytes (λ all. IsSomeAnd left (λ rest. texts_of all ≡ texts ++ texts_of rest)) → BeginWith bytes texts
first_is None left texts p = record { known = tt }
first_is (Some xs) None texts p = absurd p
first_is (Some xs) (Some ys) texts p = record { known = (texts_of ys, p) }

pub next_is : (bytes left : Option (List ℕ)) (texts : List (List ℕ)) (text : List ℕ)
    → IfSome bytes (λ all. IsSomeAnd left (λ rest. texts_of all ≡ texts ++ texts_of rest)) → BeginsWith left text
    → BeginWith bytes (texts ++ text ∷ [])
next_is None left texts text p q = record { known = tt }
next_is (Some xs) None texts text p q = absurd p
next_is (Some xs) (Some ys) texts text p q = record {
  known = (q.known.0, p ∙ ap (λ more. texts ++ more) q.known.1 ∙ sym (append_assoc texts (text ∷ []) q.known.0));
}

pub BeginsWith-cut : (left left' : Option (List ℕ)) (held : List ℕ) (count : ℕ) → CutsText left left' held count
    → BeginsWith left (take count held)
BeginsWith-cut None left' held count c = record { known = tt }
BeginsWith-cut (Some xs) None held count c = absurd c.known
BeginsWith-cut (Some xs) (Some ys) held count c = record { known = (texts_of (drop (count + 1) held ++ ys), c.known) }

pub all_read : (bytes left : Option (List ℕ)) (texts : List (List ℕ))
    → IfSome bytes (λ all. IsSomeAnd left (λ rest. texts_of all ≡ texts ++ texts_of rest))
    → IfSome left (λ all. texts_of all ≡ []) → IfSome bytes (λ all. texts_of all ≡ texts)
all_read None left texts p q = tt
all_read (Some xs) None texts p q = absurd p
all_read (Some xs) (Some ys) texts p q = p ∙ ap (λ more. texts ++ more) q ∙ append-nil texts

pub none_read : (bytes : Option (List ℕ)) → IfSome bytes (λ all. IsSomeAnd bytes
    (λ rest. texts_of all ≡ [] ++ texts_of rest))
none_read None = tt
none_read (Some xs) = refl

pub each_more : (texts : List (List ℕ)) (lines : List Line) (text : List ℕ) (line : Line)
    → map line_of texts ≡ map Some lines → line_of text ≡ Some line
    → map line_of (texts ++ text ∷ []) ≡ map Some (lines ++ line ∷ [])
each_more texts lines text line each one =
    map_push line_of texts text ∙ ap (λ all. all ++ line_of text ∷ []) each
    ∙ ap (λ last. map Some lines ++ last ∷ []) one ∙ sym (map_push Some lines line)

pub short_more : (texts : List (List ℕ)) (text : List ℕ) → All (λ line. length line ≤ MAX_LINE) texts
    → length text ≤ MAX_LINE → All (λ line. length line ≤ MAX_LINE) (texts ++ text ∷ [])
short_more texts text all one = All-push (λ one. length one ≤ MAX_LINE) texts text all one

pub prepend_none : (left : Option (List ℕ)) → left ≡ prepend_known [] left
prepend_none None = refl
prepend_none (Some xs) = refl
