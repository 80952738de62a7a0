-- Texts with escapes, by their parts.
use Rattle.std.proofs.Common.{◌≡◌, ◌≢◌, ◌⊎◌, inl, inr, ◌==◌, ℕ, arith, length, nat_lt, eqb, Bool, true, false, ◌&&◌, List, [], ◌∷◌, ◌++◌, Option, Some, None, IsSome, is_some, refl, sym, ap, subst, ◌∙◌}
use Rattle.std.specs.List.{list_all, flat_map}
use Rattle.std.proofs.lemmas.Bool.{eq-eqb, ne_eqb, lt-ltb, cases_eq}
use Rattle.jv_model.specs.promise.Optional.{◌>>=◌}
use Rattle.jv_model.specs.promise.script.Grammar.{is_plain, is_escape, escape_bytes, bytes_of_escapes, unescaped, path_of, target_of}
use Rattle.jv_model.specs.promise.Lists.{parted}
use Rattle.jv_model.specs.promise.tree.Walk.{is_absolute}
use Rattle.jv_model.specs.promise.Optional.{provided}
use Rattle.jv_script.specs.Reading.{first_of}

pub unescaped_parts : (text plain : List ℕ) (escapes : List (List ℕ)) → parted 37 text ≡ plain ∷ escapes → unescaped text ≡ provided (list_all is_plain plain && list_all is_escape escapes) (plain ++ flat_map escape_bytes escapes)
unfolding unescaped
unescaped_parts text plain escapes e = ap bytes_of_escapes e

sound : (a b : Bool) (bytes : List ℕ) → IsSome (provided (a && b) bytes) → (b ≡ true) × (provided (a && b) bytes ≡ Some bytes)
sound true true bytes some = (refl, refl)
sound true false bytes some = cc
sound false b bytes some = cc

-- a text that spells bytes
pub sound_parts : (text plain : List ℕ) (escapes : List (List ℕ)) → parted 37 text ≡ plain ∷ escapes → IsSome (unescaped text) → (list_all is_escape escapes ≡ true) × (unescaped text ≡ Some (plain ++ flat_map escape_bytes escapes))
sound_parts text plain escapes e some =
    let all = unescaped_parts text plain escapes e in
    let both = sound (list_all is_plain plain) (list_all is_escape escapes) (plain ++ flat_map escape_bytes escapes) (subst IsSome all some) in
    (both.0, all ∙ both.1)

-- paths by their first byte
slashed : Option (List ℕ) → Option (List ℕ)
slashed spelled = spelled >>= (λ path. provided (is_absolute path) path)

path_of-slashed : (text : List ℕ) → path_of text ≡ slashed (unescaped text)
unfolding path_of slashed
path_of-slashed text = refl

slash : (spelled : Option (List ℕ)) → first_of spelled ≡ Some 47 → is_some (slashed spelled) ≡ true
unfolding slashed
slash None e = cc
slash (Some []) e = cc
slash (Some (byte ∷ bytes)) e = let here : byte ≡ 47 = cc in rw here refl

no_slash : (spelled : Option (List ℕ)) (c : ℕ) → first_of spelled ≡ Some c → c ≢ 47 → is_some (slashed spelled) ≡ false
unfolding slashed
no_slash None c e other = refl
no_slash (Some []) c e other = refl
no_slash (Some (byte ∷ bytes)) c e other =
    let here : byte ≡ c = cc in
    rw (here, ne_eqb c 47 other) refl

nothing_first : (spelled : Option (List ℕ)) → first_of spelled ≡ None → is_some (slashed spelled) ≡ false
unfolding slashed
nothing_first None e = refl
nothing_first (Some []) e = refl
nothing_first (Some (byte ∷ bytes)) e = cc

pub path_of_some : (text : List ℕ) (c : ℕ) → Some c ≡ first_of (unescaped text) → (c == 47) ≡ is_some (path_of text)
path_of_some text c e = either (cases_eq c 47)
  where
    either : (c ≡ 47) ⊎ (c ≢ 47) → (c == 47) ≡ is_some (path_of text)
    either (inl same) = eq-eqb c 47 same ∙ sym (rw (path_of-slashed text) (slash (unescaped text) (sym e ∙ ap Some same)))
    either (inr other) = ne_eqb c 47 other ∙ sym (rw (path_of-slashed text) (no_slash (unescaped text) c (sym e) other))

pub path_of_none : (text : List ℕ) → None ≡ first_of (unescaped text) → false ≡ is_some (path_of text)
path_of_none text e = sym (rw (path_of-slashed text) (nothing_first (unescaped text) (sym e)))

whole_path : (spelled : Option (List ℕ)) → is_some (slashed spelled) ≡ true → IsSome spelled × (slashed spelled ≡ spelled)
unfolding slashed
whole_path None e = cc
whole_path (Some []) e = cc
whole_path (Some (byte ∷ bytes)) e = (refl, either (eqb byte 47) e)
  where
    either : (v : Bool) → is_some (provided v (byte ∷ bytes)) ≡ true → provided v (byte ∷ bytes) ≡ Some (byte ∷ bytes)
    either true h = refl
    either false h = cc

-- a path is the bytes that it spells
pub path_is_spelled : (text : List ℕ) → is_some (path_of text) ≡ true → IsSome (unescaped text) × (path_of text ≡ unescaped text)
path_is_spelled text e =
    let whole = whole_path (unescaped text) (ap is_some (sym (path_of-slashed text)) ∙ e) in
    (whole.0, path_of-slashed text ∙ whole.1)

-- targets by whether there is a first byte
target_in : Option (List ℕ) → Option (List ℕ)
target_in spelled = spelled >>= (λ target. provided (nat_lt 0 (length target)) target)

target_of-target_in : (text : List ℕ) → target_of text ≡ target_in (unescaped text)
unfolding target_of target_in
target_of-target_in text = refl

by_first : (spelled : Option (List ℕ)) → is_some (first_of spelled) ≡ is_some (target_in spelled)
unfolding target_in
by_first None = refl
by_first (Some []) = refl
by_first (Some (byte ∷ bytes)) = sym (rw (lt-ltb 0 (length (byte ∷ bytes)) (omega arith)) refl)

whole_target : (spelled : Option (List ℕ)) → is_some (target_in spelled) ≡ true → IsSome spelled × (target_in spelled ≡ spelled)
unfolding target_in
whole_target None some = cc
whole_target (Some []) some = cc
whole_target (Some (byte ∷ bytes)) some = (refl, rw (lt-ltb 0 (length (byte ∷ bytes)) (omega arith)) refl)

pub target_by_first : (text : List ℕ) → is_some (first_of (unescaped text)) ≡ is_some (target_of text)
target_by_first text = by_first (unescaped text) ∙ ap is_some (sym (target_of-target_in text))

-- a target is the bytes that it spells
pub target_is_spelled : (text : List ℕ) → is_some (target_of text) ≡ true → IsSome (unescaped text) × (target_of text ≡ unescaped text)
target_is_spelled text e =
    let whole = whole_target (unescaped text) (ap is_some (sym (target_of-target_in text)) ∙ e) in
    (whole.0, target_of-target_in text ∙ whole.1)
