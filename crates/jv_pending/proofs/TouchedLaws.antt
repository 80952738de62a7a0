-- Which runs a write touches.
use Rattle.std.proofs.Common.{◌≡◌, ℕ, ◌+◌, ◌-◌, ◌*◌, ◌<◌, ◌≤◌, ltb, leb, List, [], ◌∷◌, ◌++◌, length, take, drop, Some, None, unwrap_or, IfSome, IsSomeAnd, refl, sym, ap, subst, ◌∙◌, ⊎_elim, arith}
use Rattle.std.proofs.lemmas.Bool.{cases_lt, cases_eq, cases_order}
use Rattle.std.proofs.lemmas.Option.{none-some, same_Some}
use Rattle.std.proofs.lemmas.List.{append_assoc, append-nil, take_all}
use Rattle.std.proofs.lemmas.List.Elements.{filter-append}
use Rattle.jv_model.specs.declared.limits.TheConstants.{FILE_END}
use Rattle.jv_model.specs.Lists.{first_item}
use Rattle.jv_model.specs.promise.Lists.{last_item}
use Rattle.jv_pending.specs.declared.run.RunStart.{RunStart}
use Rattle.jv_pending.specs.Runs.{Run, place, place_of, start_place, end_place, end_of_run, gap, bytes_at, IsRun, InOrder, Rise, Before, EndBy, BeginBy, Reaches, IsFirst, IsTouched, runs_before, runs_from, runs_within, head_of, tail_of, joined_from}
use Rattle.jv_pending.proofs.OrderLaws.{EndBy-weaker, InOrder-left}
use Rattle.jv_pending.proofs.JoinLaws.{BeginBy-weaker, gap_le, gap_says, order_after}
use Rattle.jv_pending.proofs.PartLaws.{before_yes, before_no, before_none, before_all, from_yes, from_no, from_none, from_all, Rise-order, Rise-before, Rise-from, Before-before, Before-weaker, Before-last, file_last, last_early, before_before, within_is, whole}
use Rattle.jv_pending.proofs.EntryLaws.{present, absent, there}

-- the last run
pub last_split : (xs : List Run) (r : Run) → Some r ≡ last_item xs → (t : List Run) × (xs ≡ t ++ r ∷ [])
last_split [] r h = absurd (none-some r (sym h))
last_split (x ∷ []) r h = ([], ap (λ (y : Run). y ∷ []) (same_Some x r (sym h)))
last_split (x ∷ y ∷ xs) r h = let q = last_split (y ∷ xs) r h in (x ∷ q.0, ap (λ (t : List Run). x ∷ t) q.1)

cons_none : (x : Run) (xs : List Run) → x ∷ xs ≡ [] → ⊥
cons_none x xs h = let n = ap length h in absurd (omega arith)

pub last_nothing : (xs : List Run) → None ≡ last_item xs → xs ≡ []
last_nothing [] h = refl
last_nothing (x ∷ []) h = absurd (none-some x h)
last_nothing (x ∷ y ∷ xs) h = absurd (cons_none y xs (last_nothing (y ∷ xs) h))

pub last_file : (n : ℕ) (rs : List Run) (r : Run) → Rise 0 rs → Some r ≡ last_item (runs_before n rs) → (r.0.from < FILE_END) × (start_place r < n)
last_file n rs r o h =
    let s = last_split (runs_before n rs) r h in
    (file_last 0 s.0 r (subst (Rise 0) s.1 (Rise-before n 0 rs o)), last_early n s.0 r (subst (Before n) s.1 (Before-before n rs)))

tail_end : (to : ℕ) (xs : List Run) (r : Run) → tail_of to (xs ++ r ∷ []) ≡ drop (to - r.0.from) r.1
tail_end to [] r = refl
tail_end to (x ∷ []) r = refl
tail_end to (x ∷ y ∷ xs) r = tail_end to (y ∷ xs) r

-- the bytes behind a write, by the last run that begins before a place
pub tail_there : (first end to : ℕ) (rs : List Run) (r : Run) → Rise 0 rs → Some r ≡ last_item (runs_before end rs) → first ≤ start_place r → tail_of to (runs_within first end rs) ≡ drop (to - r.0.from) r.1
tail_there first end to rs r o h l =
    let s = last_split (runs_before end rs) r h in
    ap (λ (t : List Run). tail_of to (runs_from first t)) s.1
    ∙ ap (tail_of to) (filter-append (λ x. leb first (start_place x)) s.0 (r ∷ []) ∙ ap (λ (t : List Run). runs_from first s.0 ++ t) (from_yes first r [] l))
    ∙ tail_end to (runs_from first s.0) r

pub tail_early : (first end to : ℕ) (rs : List Run) (r : Run) → Rise 0 rs → Some r ≡ last_item (runs_before end rs) → start_place r < first → tail_of to (runs_within first end rs) ≡ []
tail_early first end to rs r o h l =
    let s = last_split (runs_before end rs) r h in
    let rise : Rise 0 (s.0 ++ r ∷ []) = subst (Rise 0) s.1 (Rise-before end 0 rs o) in
    ap (λ (t : List Run). tail_of to (runs_from first t)) s.1
    ∙ ap (tail_of to) (filter-append (λ x. leb first (start_place x)) s.0 (r ∷ [])
    ∙ ap (λ (t : List Run). t ++ runs_from first (r ∷ [])) (from_none first s.0 (Before-weaker (start_place r) first s.0 (omega arith) (Before-last 0 s.0 r rise).0))
    ∙ from_no first r [] l)

pub tail_none : (first end to : ℕ) (rs : List Run) → None ≡ last_item (runs_before end rs) → tail_of to (runs_within first end rs) ≡ []
tail_none first end to rs h = ap (λ (t : List Run). tail_of to (runs_from first t)) (last_nothing (runs_before end rs) h)

-- the runs within two places
within_rise : (first end : ℕ) (rs : List Run) → Rise 0 rs → Rise first (runs_within first end rs)
within_rise first end rs o = Rise-from first 0 (runs_before end rs) (Rise-before end 0 rs o)

within_before : (first end : ℕ) (rs : List Run) → Before end (runs_within first end rs)
within_before first end rs = subst (Before end) (sym (within_is first end rs)) (Before-before end (runs_from first rs))

-- the bytes before a write, by the run at the first place
pub take_none : (n : ℕ) → take {A = ℕ} n [] ≡ []
take_none n = take_all n [] (omega arith)

head_late : (i from low : ℕ) (mid : List Run) (first : RunStart) → first.inode ≡ i → low ≡ place_of first + 1 → Rise low mid → BeginBy i FILE_END mid → joined_from from mid ≡ first.from → head_of from mid ≡ []
head_late i from low [] first e l r b j = refl
head_late i from low (x ∷ mid) first e l r b j =
    let k = r.1 in
    let n = b.0 in
    ap (λ m. take m x.1) (let z : from - x.0.from ≡ 0 = omega arith in z)

pub head_is : (i from to : ℕ) (rs : List Run) (first end : RunStart) → Rise 0 rs → to ≤ FILE_END → from < to → IsTouched i from to rs first end → head_of from (runs_within (place_of first) (place_of end) rs) ≡ take (from - first.from) (unwrap_or (bytes_at first rs) [])
head_is i from to rs first end o file lt t =
    let ff = t.first_from in
    let fi = t.first_inode in
    let ei = t.end_inode in
    let ef = t.end_from in
    let g = gap_le to in
    let here : first.from < FILE_END = omega arith in
    let up : place_of first < place_of end = omega arith in
    elim (bytes_at first rs) as (λ b. bytes_at first rs ≡ b → head_of from (runs_within (place_of first) (place_of end) rs) ≡ take (from - first.from) (unwrap_or b [])) [
      | None ↦ λ e.
          let m : runs_within (place_of first) (place_of end) rs ≡ runs_within (place_of first + 1) (place_of end) rs =
          within_is (place_of first) (place_of end) rs ∙ ap (runs_before (place_of end)) (absent first here 0 rs o e) ∙ sym (within_is (place_of first + 1) (place_of end) rs) in
          head_late i from (place_of first + 1) (runs_within (place_of first) (place_of end) rs) first fi refl (subst (Rise (place_of first + 1)) (sym m) (within_rise (place_of first + 1) (place_of end) rs o))
          (BeginBy-weaker i (to + gap to - 1) FILE_END (runs_within (place_of first) (place_of end) rs) (omega arith) t.of_inode) t.begins
          ∙ sym (take_none (from - first.from))
      | Some v ↦ λ e.
          ap (head_of from) (within_is (place_of first) (place_of end) rs ∙ ap (runs_before (place_of end)) (present first here 0 rs v o e) ∙ before_yes (place_of end) (first, v) (runs_from (place_of first + 1) rs) up)
    ] refl

-- the runs from a place on are in order
pub InOrder-from : (n low : ℕ) (rs : List Run) → InOrder low rs → (m : ℕ) × InOrder m (runs_from n rs)
InOrder-from n low [] o = (low, tt)
InOrder-from n low (r ∷ rs) o =
    ⊎_elim
    (λ l. let q = InOrder-from n (end_place r) rs o.2 in (q.0, subst (InOrder q.0) (sym (from_no n r rs l)) q.1))
    (λ g. let s = Rise-order low (r ∷ rs) o in (low, subst (InOrder low) (sym (from_all n n (r ∷ rs) (omega arith) (s.0, g, s.2))) o))
    (cases_lt (start_place r) n)

EndBy-before : (m n : ℕ) (rs : List Run) → EndBy m rs → EndBy m (runs_before n rs)
EndBy-before m n [] e = tt
EndBy-before m n (r ∷ rs) e =
    ⊎_elim
    (λ l. subst (EndBy m) (sym (before_yes n r rs l)) (e.0, EndBy-before m n rs e.1))
    (λ g. subst (EndBy m) (sym (before_no n r rs g)) (EndBy-before m n rs e.1))
    (cases_lt (start_place r) n)

-- the runs before one end early enough
pub end_early : (low : ℕ) (xs : List Run) (r : Run) (ys : List Run) → InOrder low (xs ++ r ∷ ys) → EndBy (start_place r - gap r.0.from) xs × (low + gap r.0.from ≤ start_place r)
end_early low [] r ys o = (tt, o.1)
end_early low (x ∷ xs) r ys o =
    let q = end_early (end_place x) xs r ys o.2 in
    let k = o.1 in
    let e = q.1 in
    ((omega arith, q.0), omega arith)

end_by_last : (low n : ℕ) (xs : List Run) (r : Run) → InOrder low (xs ++ r ∷ []) → end_place r ≤ n → EndBy n (xs ++ r ∷ [])
end_by_last low n [] r o h = (h, tt)
end_by_last low n (x ∷ xs) r o h = let q = end_early (end_place x) xs r [] o.2 in let e = q.1 in (omega arith, end_by_last (end_place x) n xs r o.2 h)

end_is_run : (low : ℕ) (xs : List Run) (r : Run) → InOrder low (xs ++ r ∷ []) → IsRun r
end_is_run low [] r o = o.0
end_is_run low (x ∷ xs) r o = end_is_run (end_place x) xs r o.2

pub InOrder-before : (n : ℕ) (rs : List Run) → InOrder 0 rs → InOrder 0 (runs_before n rs)
InOrder-before n rs o = InOrder-left 0 (runs_before n rs) (runs_from n rs) (subst (InOrder 0) (sym (whole n 0 rs (Rise-order 0 rs o))) o)

pub last_is_run : (n : ℕ) (rs : List Run) (r : Run) → InOrder 0 rs → Some r ≡ last_item (runs_before n rs) → IsRun r
last_is_run n rs r o h = let s = last_split (runs_before n rs) r h in end_is_run 0 s.0 r (subst (InOrder 0) s.1 (InOrder-before n rs o))

Rise-split : (low : ℕ) (xs : List Run) (r : Run) (ys : List Run) → Rise low (xs ++ r ∷ ys) → Before (start_place r) xs × Rise (start_place r) (r ∷ ys) × (low ≤ start_place r)
Rise-split low [] r ys h = (tt, (h.0, omega arith, h.2), h.1)
Rise-split low (x ∷ xs) r ys h = let q = Rise-split (start_place x + 1) xs r ys h.2 in let k = h.1 in let e = q.2 in ((omega arith, q.0), q.1, omega arith)

-- the last run before a place is in the map
pub last_there : (n : ℕ) (rs : List Run) (r : Run) → Rise 0 rs → Some r ≡ last_item (runs_before n rs) → bytes_at r.0 rs ≡ Some r.1
last_there n rs r o h =
    let s = last_split (runs_before n rs) r h in
    let after : List Run = runs_from n rs in
    let all : rs ≡ s.0 ++ r ∷ after = sym (whole n 0 rs o) ∙ ap (λ (t : List Run). t ++ after) s.1 ∙ append_assoc s.0 (r ∷ []) after in
    let under = Rise-split 0 s.0 r after (subst (Rise 0) all o) in
    let here : runs_from (start_place r) rs ≡ r ∷ after =
    ap (runs_from (start_place r)) all
    ∙ filter-append (λ x. leb (start_place r) (start_place x)) s.0 (r ∷ after)
    ∙ ap (λ (t : List Run). t ++ runs_from (start_place r) (r ∷ after)) (from_none (start_place r) s.0 under.0)
    ∙ from_all (start_place r) (start_place r) (r ∷ after) (omega arith) under.1 in
    there r.0 (last_file n rs r o h).0 0 rs after r.1 o here

-- a run that begins at a position or later reaches it
pub late : (i from low : ℕ) (rs : List Run) → InOrder low rs → Rise (place i from) rs → IfSome (first_item rs) (λ r. r.0.inode ≡ i → from + 1 ≤ end_of_run r + gap from)
late i from low [] o r = tt
late i from low (x ∷ rs) o r = λ e. let s = o.0.some in let k = r.1 in omega arith

-- the run that begins last up to a position and reaches it is the first that a write touches
pub first_reaches : (i from : ℕ) (rs : List Run) (r : Run) → InOrder 0 rs → Some r ≡ last_item (runs_before (place i from + 1) rs) → from < FILE_END → r.0.inode ≡ i → from + 1 ≤ end_of_run r + gap from → IsFirst i from rs r.0
first_reaches i from rs r o h file e reach =
    let low = Rise-order 0 rs o in
    let s = last_split (runs_before (place i from + 1) rs) r h in
    let early = last_early (place i from + 1) s.0 r (subst (Before (place i from + 1)) s.1 (Before-before (place i from + 1) rs)) in
    let after : List Run = runs_from (place i from + 1) rs in
    let all : rs ≡ s.0 ++ r ∷ after =
    sym (whole (place i from + 1) 0 rs low) ∙ ap (λ (t : List Run). t ++ after) s.1 ∙ append_assoc s.0 (r ∷ []) after in
    let rises : Rise 0 (s.0 ++ r ∷ after) = subst (Rise 0) all low in
    let under = Rise-split 0 s.0 r after rises in
    let here : runs_from (start_place r) rs ≡ r ∷ after =
    ap (runs_from (start_place r)) all
    ∙ filter-append (λ x. leb (start_place r) (start_place x)) s.0 (r ∷ after)
    ∙ ap (λ (t : List Run). t ++ runs_from (start_place r) (r ∷ after)) (from_none (start_place r) s.0 under.0)
    ∙ from_all (start_place r) (start_place r) (r ∷ after) (omega arith) under.1 in
    let before : runs_before (start_place r) rs ≡ s.0 =
    ap (runs_before (start_place r)) all
    ∙ filter-append (λ x. ltb (start_place x) (start_place r)) s.0 (r ∷ after)
    ∙ ap (λ (t : List Run). runs_before (start_place r) s.0 ++ t) (before_none (start_place r) (start_place r) (r ∷ after) (omega arith) under.1)
    ∙ append-nil (runs_before (start_place r) s.0)
    ∙ before_all (start_place r) s.0 under.0 in
    let g = gap_le from in
    let k = gap_le r.0.from in
    let below : start_place r - gap r.0.from ≤ place i from - gap from =
    ⊎_elim (λ same. let q : gap r.0.from ≡ gap from = ap gap same in omega arith) (λ n. omega arith) (cases_eq r.0.from from) in
    record {
      inode_is = e;
      from_is = omega arith;
      before = subst (EndBy (place i from - gap from)) (sym before) (EndBy-weaker (start_place r - gap r.0.from) (place i from - gap from) s.0 below (end_early 0 s.0 r after (subst (InOrder 0) all o)).0);
      reached = subst (λ (t : List Run). IfSome (first_item t) (λ x. x.0.inode ≡ i → from + 1 ≤ end_of_run x + gap from)) (sym here) (λ _. reach);
      begins = λ _. subst (λ (t : List Run). IsSomeAnd (first_item t) (λ x. x.0 ≡ r.0)) (sym here) refl;
    }

-- where no run reaches it, the write itself is the first
first_here : (i from : ℕ) (rs : List Run) → InOrder 0 rs → EndBy (place i from - gap from) (runs_before (place i from + 1) rs) → IsFirst i from rs (record { inode = i; from = from })
first_here i from rs o b =
    let low = Rise-order 0 rs o in
    let q = InOrder-from (place i from) 0 rs o in
    record {
      inode_is = refl;
      from_is = omega arith;
      before = subst (EndBy (place i from - gap from)) (before_before (place i from) (place i from + 1) rs (omega arith)) (EndBy-before (place i from - gap from) (place i from) (runs_before (place i from + 1) rs) b);
      reached = late i from q.0 (runs_from (place i from) rs) q.1 (Rise-from (place i from) 0 rs low);
      begins = λ l. absurd (omega arith);
    }

pub first_none : (i from : ℕ) (rs : List Run) → InOrder 0 rs → None ≡ last_item (runs_before (place i from + 1) rs) → IsFirst i from rs (record { inode = i; from = from })
first_none i from rs o h = first_here i from rs o (subst (EndBy (place i from - gap from)) (sym (last_nothing (runs_before (place i from + 1) rs) h)) tt)

pub first_apart : (i from : ℕ) (rs : List Run) (r : Run) → InOrder 0 rs → Some r ≡ last_item (runs_before (place i from + 1) rs) → from < FILE_END → (r.0.inode ≡ i → end_of_run r + gap from ≤ from) → IsFirst i from rs (record { inode = i; from = from })
first_apart i from rs r o h file apart =
    let s = last_split (runs_before (place i from + 1) rs) r h in
    let early = last_early (place i from + 1) s.0 r (subst (Before (place i from + 1)) s.1 (Before-before (place i from + 1) rs)) in
    let front : InOrder 0 (s.0 ++ r ∷ []) = subst (InOrder 0) s.1 (InOrder-before (place i from + 1) rs o) in
    let in_file = (end_is_run 0 s.0 r front).in_file in
    let g = gap_le from in
    let ends : end_place r ≤ place i from - gap from =
    ⊎_elim
    (λ e. let a = apart e in omega arith)
    (λ x. ⊎_elim (λ l. omega arith) (λ m. absurd (omega arith)) x)
    (cases_order r.0.inode i) in
    first_here i from rs o (subst (EndBy (place i from - gap from)) (sym s.1) (end_by_last 0 (place i from - gap from) s.0 r front ends))

-- the runs that a write touches, by the first of them
begin_by : (i low to : ℕ) (mid : List Run) → i * FILE_END ≤ low → to ≤ FILE_END → Rise low mid → Before (place i to) mid → BeginBy i (to - 1) mid
begin_by i low to [] l h r b = tt
begin_by i low to (x ∷ mid) l h r b =
    let k = r.1 in
    let n = b.0 in
    let f = r.0 in
    (omega arith, omega arith, begin_by i (start_place x + 1) to mid (omega arith) h r.2 b.1)

reaches_by : (i from : ℕ) (mid : List Run) → IfSome (first_item mid) (λ r. r.0.inode ≡ i → from + 1 ≤ end_of_run r + gap from) → BeginBy i FILE_END mid → Reaches from mid
reaches_by i from [] h b = tt
reaches_by i from (x ∷ mid) h b = h b.0

begins_by : (i from low : ℕ) (mid : List Run) (first : RunStart) → first.inode ≡ i → first.from ≤ from → place_of first ≤ low → Rise low mid → BeginBy i FILE_END mid → (first.from < from → IsSomeAnd (first_item mid) (λ r. r.0 ≡ first)) → joined_from from mid ≡ first.from
begins_by i from low [] first e l k r b h = ⊎_elim (λ lt. absurd (h lt)) (λ ge. omega arith) (cases_lt first.from from)
begins_by i from low (x ∷ mid) first e l k r b h =
    let m = r.1 in
    let n = b.0 in
    ⊎_elim
    (λ lt. let q : x.0 ≡ first = h lt in let f : x.0.from ≡ first.from = ap (λ (s : RunStart). s.from) q in omega arith)
    (λ ge. omega arith)
    (cases_lt first.from from)

-- the first run from a place on is the first of those within two places, where any are
first_within : (n : ℕ) (rs : List Run) (P : Run → Type 0) → (low : ℕ) → Rise low rs → IfSome (first_item rs) P → IfSome (first_item (runs_before n rs)) P
first_within n [] P low r h = tt
first_within n (x ∷ rs) P low r h =
    ⊎_elim
    (λ l. subst (λ (t : List Run). IfSome (first_item t) P) (sym (before_yes n x rs l)) h)
    (λ g. let s : Rise (start_place x) (x ∷ rs) = (r.0, omega arith, r.2) in subst (λ (t : List Run). IfSome (first_item t) P) (sym (before_none n (start_place x) (x ∷ rs) g s)) tt)
    (cases_lt (start_place x) n)

first_kept : (n : ℕ) (rs : List Run) (first : RunStart) → place_of first < n → IsSomeAnd (first_item rs) (λ r. r.0 ≡ first) → IsSomeAnd (first_item (runs_before n rs)) (λ r. r.0 ≡ first)
first_kept n [] first l h = absurd h
first_kept n (x ∷ rs) first l h = subst (λ (t : List Run). IsSomeAnd (first_item t) (λ r. r.0 ≡ first)) (sym (before_yes n x rs (let q : place_of x.0 ≡ place_of first = ap place_of h in omega arith))) h

pub touched : (i from to : ℕ) (rs : List Run) (first end : RunStart) → InOrder 0 rs → from < to → to ≤ FILE_END → IsFirst i from rs first → end.inode ≡ i → end.from ≡ to + gap to → IsTouched i from to rs first end
touched i from to rs first end o lt file f ei ef =
    let low = Rise-order 0 rs o in
    let g = gap_le to in
    let fi = f.inode_is in
    let ff = f.from_is in
    let up : place_of first < place_of end = omega arith in
    let top : to + gap to ≤ FILE_END = ⊎_elim (λ z. let e = z.1 in omega arith) (λ z. let p = z.0 in ⊎_elim (λ l. omega arith) (λ s. absurd (omega arith)) (cases_lt to FILE_END)) (gap_says to) in
    let mid : List Run = runs_within (place_of first) (place_of end) rs in
    let behind : List Run = runs_from (place_of first) rs in
    let same : mid ≡ runs_before (place_of end) behind = within_is (place_of first) (place_of end) rs in
    let last : place_of end ≡ place i (to + gap to) = omega arith in
    let rises : Rise (place_of first) mid = within_rise (place_of first) (place_of end) rs low in
    let all : BeginBy i (to + gap to - 1) mid = begin_by i (place_of first) (to + gap to) mid (omega arith) top rises (subst (λ n. Before n mid) last (within_before (place_of first) (place_of end) rs)) in
    let wide : BeginBy i FILE_END mid = BeginBy-weaker i (to + gap to - 1) FILE_END mid (omega arith) all in
    let q = InOrder-from (place_of end) 0 rs o in
    record {
      first_inode = fi;
      first_from = ff;
      end_inode = ei;
      end_from = ef;
      begins = begins_by i from (place_of first) mid first fi ff (omega arith) rises wide
          (λ l. subst (λ (t : List Run). IsSomeAnd (first_item t) (λ r. r.0 ≡ first)) (sym same) (first_kept (place_of end) behind first up (f.begins l)));
      before = f.before;
      of_inode = all;
      reached = reaches_by i from mid (subst (λ (t : List Run). IfSome (first_item t) (λ r. r.0.inode ≡ i → from + 1 ≤ end_of_run r + gap from)) (sym same)
          (first_within (place_of end) behind (λ r. r.0.inode ≡ i → from + 1 ≤ end_of_run r + gap from) (place_of first) (Rise-from (place_of first) 0 rs low) f.reached)) wide;
      after = order_after i to q.0 (runs_from (place_of end) rs) q.1 file (subst (λ n. Rise n (runs_from (place_of end) rs)) last (Rise-from (place_of end) 0 rs low));
    }
