-- What a reader of lines finds, by what it holds.
use Rattle.std.proofs.Common.{◌≡◌, ℕ, ◌+◌, ◌<◌, ◌≤◌, false, cond, leb, eqb, List, [], ◌∷◌, ◌++◌, length, take, drop, Option, Some, None, Ok, inl, inr, refl, sym, ap, subst, ◌∙◌, arith}
use Rattle.std.proofs.lemmas.Bool.{leb-true, leb-false, eqb-true, eqb-false, cases_Bool}
use Rattle.std.proofs.lemmas.List.{append_assoc, append-nil, take_all, drop_all, length-take, nil_from_length}
use Rattle.std.specs.List.{position}
use Rattle.std.specs.Io.KnownBytes.{prepend_known, Keeps, IsAtEnd}
use Rattle.jv_cmd.specs.declared.reader.Next.TheVariants.{Text, TooLong, End}
use Rattle.jv_model.specs.declared.limits.TheConstants.{MAX_LINE}
use Rattle.jv_cmd.specs.promise.Texts.{is_feed, texts_of}
use Rattle.jv_cmd.specs.Texts.{has_feed}
use Rattle.jv_cmd.specs.Cutting.{Fills, BeginsWith, CutsText, IsOverlong, Finds}
use Rattle.jv_cmd.proofs.asked.TextLaws.{texts_of-feed, texts_of-last, texts_of-long, around_feed}

pub Keeps-same : (a : Option (List ℕ)) → Keeps a a
Keeps-same None = tt
Keeps-same (Some xs) = refl

-- what is held and left stays the same while bytes come in
pub Keeps-filled : (start left left' : Option (List ℕ)) (held new : List ℕ) (count : ℕ) → Keeps start (prepend_known held left) → Fills left left' held new count → Keeps start (prepend_known new left')
Keeps-filled None left left' held new count k f = tt
Keeps-filled (Some xs) None left' held new count k f = absurd k
Keeps-filled (Some xs) (Some ys) None held new count k f = absurd f.taken
Keeps-filled (Some xs) (Some ys) (Some zs) held new count k f =
    ap (λ bs. bs ++ zs) f.held ∙ append_assoc held f.bytes zs ∙ ap (λ bs. held ++ bs) (sym f.taken) ∙ k

cut_at : (xs held ys : List ℕ) (k : ℕ) → held ++ ys ≡ xs → position is_feed held ≡ Some k → texts_of xs ≡ take k held ∷ texts_of (drop (k + 1) held ++ ys)
cut_at xs held ys k e at =
    let around = around_feed held k at in
    let whole : xs ≡ take k held ++ 10 ∷ (drop (k + 1) held ++ ys) =
    sym e ∙ ap (λ bs. bs ++ ys) around.2 ∙ append_assoc (take k held) (10 ∷ drop (k + 1) held) ys in
    ap texts_of whole ∙ texts_of-feed (take k held) (drop (k + 1) held ++ ys) around.1

cuts : (start left : Option (List ℕ)) (held : List ℕ) (k : ℕ) → Keeps start (prepend_known held left) → position is_feed held ≡ Some k → k ≤ MAX_LINE → CutsText start left held k
cuts None left held k keeps at short = record { within = omega (arith, (around_feed held k at).0); short = short; known = tt }
cuts (Some xs) None held k keeps at short = absurd keeps
cuts (Some xs) (Some ys) held k keeps at short = record { within = omega (arith, (around_feed held k at).0); short = short; known = cut_at xs held ys k keeps at }

passes : (start left : Option (List ℕ)) (held : List ℕ) (k : ℕ) → Keeps start (prepend_known held left) → position is_feed held ≡ Some k → BeginsWith start (take k held)
passes None left held k keeps at = record { known = tt }
passes (Some xs) None held k keeps at = absurd keeps
passes (Some xs) (Some ys) held k keeps at = record { known = (texts_of (drop (k + 1) held ++ ys), cut_at xs held ys k keeps at) }

-- a line feed is held
pub Finds-feed : (start left : Option (List ℕ)) (held : List ℕ) (k : ℕ) → Keeps start (prepend_known held left) → position is_feed held ≡ Some k → Finds start left held (Ok (cond (leb k MAX_LINE) (Text k) TooLong))
Finds-feed start left held k keeps at = elim (cases_Bool (leb k MAX_LINE)) [
  | inl e ↦ subst (λ b. Finds start left held (Ok (cond b (Text k) TooLong))) (sym e) (cuts start left held k keeps at (leb-true k MAX_LINE e))
  | inr e ↦
      let far = leb-false k MAX_LINE e in
      let size : MAX_LINE < length (take k held) = omega (arith, far, length-take k held, (around_feed held k at).0) in
      let long : IsOverlong start = record { next = take k held; long = size; begins = passes start left held k keeps at } in
      subst (λ b. Finds start left held (Ok (cond b (Text k) TooLong))) (sym e) long
]

-- no line feed is held, and more bytes than a text may have
pub IsOverlong-held : (start left : Option (List ℕ)) (held : List ℕ) → Keeps start (prepend_known held left) → has_feed held ≡ false → MAX_LINE < length held → IsOverlong start
IsOverlong-held None left held keeps none long = record { next = held; long = long; begins = record { known = tt } }
IsOverlong-held (Some xs) None held keeps none long = absurd keeps
IsOverlong-held (Some xs) (Some ys) held keeps none long =
    let first = texts_of-long held ys none (omega (arith, long)) in
    record { next = first.0; long = omega (arith, long, first.2); begins = record { known = (first.1, ap texts_of (sym keeps) ∙ first.3) } }

nothing_more : (left left' : Option (List ℕ)) (held new : List ℕ) → Fills left left' held new 0 → new ≡ held
nothing_more left left' held new f = f.held ∙ ap (λ bs. held ++ bs) (nil_from_length f.bytes f.size) ∙ append-nil held

none_last : (start left' : Option (List ℕ)) (new : List ℕ) → Keeps start (prepend_known new left') → IsAtEnd left' → new ≡ [] → Finds start left' new (Ok End)
none_last None left' new keeps at_end e = tt
none_last (Some xs) None new keeps at_end e = absurd keeps
none_last (Some xs) (Some zs) new keeps at_end e = ap texts_of (sym keeps ∙ ap (λ bs. bs ++ zs) e ∙ at_end)

one_last : (start left' : Option (List ℕ)) (new : List ℕ) (seen : ℕ) → Keeps start (prepend_known new left') → IsAtEnd left' → has_feed new ≡ false → seen ≡ length new → 0 < seen → seen ≤ MAX_LINE → CutsText start left' new seen
one_last None left' new seen keeps at_end none size some short = record { within = omega (arith, size); short = short; known = tt }
one_last (Some xs) None new seen keeps at_end none size some short = absurd keeps
one_last (Some xs) (Some zs) new seen keeps at_end none size some short =
    let only : xs ≡ new = sym keeps ∙ ap (λ bs. new ++ bs) at_end ∙ append-nil new in
    let none_left : texts_of (drop (seen + 1) new ++ zs) ≡ [] = ap texts_of (ap (λ bs. bs ++ zs) (drop_all (seen + 1) new (omega (arith, size))) ∙ at_end) in
    record {
      within = omega (arith, size);
      short = short;
      known = ap texts_of only ∙ texts_of-last new none (omega (arith, size)) ∙ ap (λ text. text ∷ []) (sym (take_all seen new (omega (arith, size)))) ∙ ap (λ texts. take seen new ∷ texts) (sym none_left);
    }

-- the source is at its end, and no line feed is held
pub Finds-last : (start left left' : Option (List ℕ)) (held new : List ℕ) (seen : ℕ) → Keeps start (prepend_known held left) → Fills left left' held new 0 → has_feed held ≡ false → seen ≡ length held → seen ≤ MAX_LINE → Finds start left' new (Ok (cond (eqb seen 0) End (Text seen)))
Finds-last start left left' held new seen keeps f none size short =
    let kept = Keeps-filled start left left' held new 0 keeps f in
    let same = nothing_more left left' held new f in
    let no_feed_now : has_feed new ≡ false = ap has_feed same ∙ none in
    let size_now : seen ≡ length new = size ∙ ap length (sym same) in
    elim (cases_Bool (eqb seen 0)) [
      | inl e ↦ subst (λ b. Finds start left' new (Ok (cond b End (Text seen)))) (sym e)
          (none_last start left' new kept (f.at_end refl) (nil_from_length new (sym size_now ∙ eqb-true seen 0 e)))
      | inr e ↦
          let some : 0 < seen = omega (arith, eqb-false seen 0 e) in
          let cut : CutsText start left' new seen = one_last start left' new seen kept (f.at_end refl) no_feed_now size_now some short in
          subst (λ b. Finds start left' new (Ok (cond b End (Text seen)))) (sym e) cut
    ]
