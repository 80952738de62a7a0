-- A write inside one window, and what a write leaves.
use Rattle.std.proofs.Common.{◌≡◌, ℕ, ◌+◌, ◌-◌, ◌*◌, ◌/◌, ◌%◌, ◌<◌, ◌≤◌, List, [], ◌∷◌, ◌++◌, length, take, drop, unwrap_or, Some, None, ◌⊎◌, inl, inr, refl, sym, ap, subst, ◌∙◌, ⊎_elim, arith}
use Rattle.std.proofs.lemmas.List.{append-nil, length-append, length-drop, drop_all}
use Rattle.std.proofs.lemmas.Bool.{cases_lt}
use Rattle.jv_model.specs.declared.limits.TheConstants.{FILE_END, WINDOW}
use Rattle.jv_model.specs.promise.client.Pending.{PendingByte, written}
use Rattle.jv_pending.specs.Runs.{Run, place, place_of, bytes_at, runs_before, runs_from, runs_within, Rise, placed, pending_bytes, end_place, gap, IsRun, InOrder, end_after, IsCut, IsTouched, BeginBy, Reaches, head_of, tail_of, joined_from, joined, joined_behind, Rewrites}
use Rattle.jv_pending.specs.declared.run.RunStart.{RunStart}
use Rattle.jv_pending.proofs.OrderLaws.{EndBy-weaker, InOrder-left, InOrder-right, pending_bytes-append, length-placed, Rises-runs}
use Rattle.jv_pending.proofs.JoinLaws.{gap_le, gap_says, length_joined, BeginBy-weaker, written_joined, order_joined}
use Rattle.jv_pending.proofs.CutLaws.{one_cut, joined_in_file}
use Rattle.jv_pending.proofs.PartLaws.{thirds, within_is, Rise-order}
use Rattle.jv_pending.proofs.EntryLaws.{within_cons, absent}
use Rattle.jv_pending.proofs.TouchedLaws.{head_is, take_none}

-- the touched runs end in the window of the write
tail_in_window : (i q to low : ℕ) (mid : List Run) → q * WINDOW < to → to ≤ q * WINDOW + WINDOW → InOrder low mid → BeginBy i (to + gap to - 1) mid → to + length (tail_of to mid) ≤ q * WINDOW + WINDOW
tail_in_window i q to low [] g l o a = omega arith
tail_in_window i q to low (x ∷ []) g l o a =
    let w = o.0.in_window in
    let b = a.1 in
    let n : length (drop (to - x.0.from) x.1) ≡ length x.1 - (to - x.0.from) = length-drop (to - x.0.from) x.1 in
    let f : x.0.from / WINDOW ≤ q = ⊎_elim (λ z. let e = z.1 in omega arith) (λ z. let e = z.1 in let p = z.0 in omega arith) (gap_says to) in
    omega arith
tail_in_window i q to low (x ∷ y ∷ ms) g l o a = tail_in_window i q to (end_place x) (y ∷ ms) g l o.2 a.2

-- the first of them begins there
same_window : (f n from len : ℕ) → f ≤ from → from + 1 ≤ f + n + gap from → f % WINDOW + n ≤ WINDOW → 0 < len → from % WINDOW + len ≤ WINDOW → f / WINDOW ≡ from / WINDOW
same_window f n from len h r w s l = ⊎_elim (λ z. let e = z.1 in let p = z.0 in omega arith) (λ z. let e = z.1 in let p = z.0 in omega arith) (gap_says from)

tail_joined : (i to low : ℕ) (x : Run) (rest : List Run) → InOrder low (x ∷ rest) → BeginBy i to (x ∷ rest) → drop (to - x.0.from) x.1 ++ tail_of to rest ≡ tail_of to (x ∷ rest)
tail_joined i to low x [] o a = append-nil (drop (to - x.0.from) x.1)
tail_joined i to low x (y ∷ ms) o a =
    let e = a.0 in let f = a.2.0 in let g = a.2.1 in let h = o.2.1 in
    ap (λ (t : List ℕ). t ++ tail_of to (y ∷ ms)) (drop_all (to - x.0.from) x.1 (omega arith))

no_length : (xs : List ℕ) → length xs ≤ 0 → xs ≡ []
no_length [] h = refl
no_length (x ∷ xs) h = absurd (omega arith)

cut_same : (i j f g : ℕ) (xs ys : List ℕ) (rs : List Run) → i ≡ j → f ≡ g → xs ≡ ys → IsCut i f xs rs → IsCut j g ys rs
cut_same i j f g xs ys rs ei ef ex c = subst (λ k. IsCut k g ys rs) ei (subst (λ k. IsCut i k ys rs) ef (subst (λ t. IsCut i f t rs) ex c))

-- the run at a place and the runs behind it, or none there
abbrev pub AtFirst : RunStart → List ℕ → List Run → List Run → Type 0
AtFirst first v rest mid = (mid ≡ (first, v) ∷ rest) ⊎ ((v ≡ []) × (mid ≡ rest))

pub at_first : (k : RunStart) (high : ℕ) (es : List Run) → k.from < FILE_END → place_of k < high → Rise 0 es → AtFirst k (unwrap_or (bytes_at k es) []) (runs_within (place_of k + 1) high es) (runs_within (place_of k) high es)
at_first k high es file h r =
    elim (bytes_at k es) as (λ o. bytes_at k es ≡ o → AtFirst k (unwrap_or o []) (runs_within (place_of k + 1) high es) (runs_within (place_of k) high es)) [
      | Some v ↦ λ e. inl (within_cons k high es v file h r e)
      | None ↦ λ e. inr (refl, within_is (place_of k) high es ∙ ap (runs_before high) (absent k file 0 es r e) ∙ sym (within_is (place_of k + 1) high es))
    ] refl

-- a write that no run reaches begins where they are put
late_first : (i from low : ℕ) (mid : List Run) (first : RunStart) → first.inode ≡ i → first.from ≤ from → low ≡ place_of first + 1 → Rise low mid → BeginBy i FILE_END mid → joined_from from mid ≡ first.from → (first.from ≡ from) × (head_of from mid ≡ [])
late_first i from low [] first e f l r b j = (omega arith, refl)
late_first i from low (x ∷ mid) first e f l r b j =
    let k = r.1 in
    let n = b.0 in
    (omega arith, ap (λ m. take m x.1) (let z : from - x.0.from ≡ 0 = omega arith in z))

joined_window : (from len : ℕ) (mid : List Run) (first : ℕ) → joined_from from mid ≡ first → Reaches from mid → (low : ℕ) → InOrder low mid → 0 < len → from % WINDOW + len ≤ WINDOW → first / WINDOW ≡ from / WINDOW
joined_window from len [] first j r low o some window = let e : from ≡ first = j in omega arith
joined_window from len (x ∷ mid) first j r low o some window =
    ⊎_elim
    (λ l. let e : x.0.from ≡ first = omega arith in ap (λ n. n / WINDOW) (sym e) ∙ same_window x.0.from (length x.1) from len (omega arith) r o.0.in_window some window)
    (λ g. let e : from ≡ first = omega arith in ap (λ n. n / WINDOW) (sym e))
    (cases_lt x.0.from from)

of_inode_by : (i to : ℕ) (mid : List Run) → BeginBy i (to + gap to - 1) mid → BeginBy i to mid
of_inode_by i to mid a = BeginBy-weaker i (to + gap to - 1) to mid (omega (arith, (gap_le to).0)) a

pub count_parts : (low high : ℕ) (rs : List Run) → Rise 0 rs → low ≤ high → length (pending_bytes rs) ≡ length (pending_bytes (runs_before low rs)) + (length (pending_bytes (runs_within low high rs)) + length (pending_bytes (runs_from high rs)))
count_parts low high rs r h =
    ap (λ (x : List Run). length (pending_bytes x)) (sym (thirds low high 0 rs h r))
    ∙ ap length (pending_bytes-append (runs_before low rs) (runs_within low high rs ++ runs_from high rs))
    ∙ length-append (pending_bytes (runs_before low rs)) (pending_bytes (runs_within low high rs ++ runs_from high rs))
    ∙ ap (λ k. length (pending_bytes (runs_before low rs)) + k) (ap length (pending_bytes-append (runs_within low high rs) (runs_from high rs)) ∙ length-append (pending_bytes (runs_within low high rs)) (pending_bytes (runs_from high rs)))

module _ (i from : ℕ) (bs : List ℕ) (first end : RunStart) (rs : List Run) (o : InOrder 0 rs) (some : 0 < length bs) (file : from + length bs ≤ FILE_END) (t : IsTouched i from (from + length bs) rs first end) where
  abbrev to : ℕ
  to = from + length bs

  abbrev front : List Run
  front = runs_before (place_of first) rs

  abbrev mid : List Run
  mid = runs_within (place_of first) (place_of end) rs

  abbrev behind : List Run
  behind = runs_from (place_of end) rs

  rises : Rise 0 rs
  rises = Rise-order 0 rs o

  pub forward : place_of first < place_of end
  forward = let fi = t.first_inode in let ff = t.first_from in let ei = t.end_inode in let ef = t.end_from in omega arith

  in_parts : InOrder 0 (front ++ (mid ++ behind))
  in_parts = subst (InOrder 0) (sym (thirds (place_of first) (place_of end) 0 rs (let f = forward in omega arith) rises)) o

  pub mid_order : InOrder (end_after 0 front) mid
  mid_order = InOrder-left (end_after 0 front) mid behind (InOrder-right 0 front (mid ++ behind) in_parts)

  written_parts : written i from bs (pending_bytes rs) ≡ pending_bytes front ++ (placed i (joined_from from mid) (joined from bs mid) ++ pending_bytes behind)
  written_parts =
      ap (λ (x : List Run). written i from bs (pending_bytes x)) (sym (thirds (place_of first) (place_of end) 0 rs (let f = forward in omega arith) rises))
      ∙ written_joined i from to 0 bs front mid behind refl file in_parts
      (EndBy-weaker (place i from - gap from) (place i from) front (omega arith) t.before)
      (of_inode_by i to mid t.of_inode) t.reached (Rises-runs (place i to) behind t.after)

  pub rewritten : (new : List Run) → Rewrites i from bs first end rs new → pending_bytes new ≡ written i from bs (pending_bytes rs)
  rewritten new w =
      ap pending_bytes w.same
      ∙ pending_bytes-append front (w.fresh ++ behind)
      ∙ ap (λ (x : List PendingByte). pending_bytes front ++ x) (pending_bytes-append w.fresh behind ∙ ap (λ (x : List PendingByte). x ++ pending_bytes behind) w.cut.same)
      ∙ sym written_parts

  pub rewritten_order : (low : ℕ) → InOrder low rs → low ≤ place i from - gap from → (new : List Run) → Rewrites i from bs first end rs new → InOrder low new
  rewritten_order low ordered early new w =
      subst (InOrder low) (sym w.same)
      (order_joined i from to low bs front mid behind w.fresh refl file
      (subst (InOrder low) (sym (thirds (place_of first) (place_of end) 0 rs (let f = forward in omega arith) rises)) ordered) early t.before
      (of_inode_by i to mid t.of_inode) t.reached t.after w.cut)

  pub mid_count : length (pending_bytes mid) ≤ length (pending_bytes rs)
  mid_count = let all = count_parts (place_of first) (place_of end) rs rises (let f = forward in omega arith) in omega arith

  pub count_written : length (written i from bs (pending_bytes rs)) + length (pending_bytes mid) ≡ length (pending_bytes rs) + (length (head_of from mid) + (length bs + length (tail_of to mid)))
  count_written =
      let all = count_parts (place_of first) (place_of end) rs rises (let f = forward in omega arith) in
      let new : length (written i from bs (pending_bytes rs)) ≡ length (pending_bytes front) + ((length (head_of from mid) + (length bs + length (tail_of to mid))) + length (pending_bytes behind)) =
      ap length written_parts
      ∙ length-append (pending_bytes front) (placed i (joined_from from mid) (joined from bs mid) ++ pending_bytes behind)
      ∙ ap (λ k. length (pending_bytes front) + k)
      (length-append (placed i (joined_from from mid) (joined from bs mid)) (pending_bytes behind)
      ∙ ap (λ k. k + length (pending_bytes behind))
      (length-placed i (joined_from from mid) (joined from bs mid)
      ∙ length-append (head_of from mid) (bs ++ tail_of to mid)
      ∙ ap (λ k. length (head_of from mid) + k) (length-append bs (tail_of to mid)))) in
      omega arith

  pub counted : (held touched : ℕ) (head tail : List ℕ) → held ≡ length (pending_bytes rs) → touched ≡ length (pending_bytes mid) → head ≡ take (from - first.from) (unwrap_or (bytes_at first rs) []) → tail ≡ tail_of to mid
      → held - touched + (length head + (length bs + length tail)) ≡ length (written i from bs (pending_bytes rs))
  counted held touched head tail eh em h l =
      let n = count_written in
      let m = mid_count in
      let a = ap length (h ∙ sym (head_is i from to rs first end rises file (omega arith) t)) in
      let b = ap length l in
      omega arith

  -- one run in the place of those that are touched in one window
  pub one_rewrites : (new : List Run) (all : List ℕ) → from % WINDOW + length bs ≤ WINDOW → all ≡ joined from bs mid → new ≡ front ++ ((first, all) ∷ behind) → Rewrites i from bs first end rs new
  one_rewrites new all window e h =
      let q : first.from / WINDOW ≡ from / WINDOW = joined_window from (length bs) mid first.from t.begins t.reached (end_after 0 front) mid_order some window in
      let n = ap length e in
      let b = t.begins in
      let l : joined_from from mid + length (joined from bs mid) ≡ to + length (tail_of to mid) = length_joined from to bs mid refl t.reached in
      let w : to + length (tail_of to mid) ≤ from / WINDOW * WINDOW + WINDOW = tail_in_window i (from / WINDOW) to (end_after 0 front) mid (omega arith) (omega arith) mid_order t.of_inode in
      let f = t.first_from in
      let k : joined_from from mid + length (joined from bs mid) ≤ FILE_END = joined_in_file i from to (end_after 0 front) bs mid refl file mid_order (of_inode_by i to mid t.of_inode) t.reached in
      let run : IsRun (first, all) = record {
        some = omega arith;
        in_window = omega arith;
        in_file = omega arith;
      } in
      record {
        fresh = (first, all) ∷ [];
        cut = cut_same first.inode i first.from (joined_from from mid) all (joined from bs mid) ((first, all) ∷ []) t.first_inode (sym b) e (one_cut (first, all) run);
        same = h;
      }

  module _ (v : List ℕ) (rest : List Run) (at : AtFirst first v rest mid) (rise : Rise (place_of first + 1) rest) where
    late_here : mid ≡ rest → (first.from ≡ from) × (head_of from mid ≡ [])
    late_here e = late_first i from (place_of first + 1) mid first t.first_inode t.first_from refl (subst (Rise (place_of first + 1)) (sym e) rise) (BeginBy-weaker i (to + gap to - 1) FILE_END mid (omega (arith, (gap_le to).0)) t.of_inode) t.begins

    pub at_reaches : from - first.from ≤ length v
    at_reaches =
        ⊎_elim
        (λ e. let r = subst (Reaches from) e t.reached in omega (arith, (gap_le from).0))
        (λ e. let z = (late_here e.1).0 in omega arith)
        at

    pub head_here : take (from - first.from) v ≡ head_of from mid
    head_here =
        ⊎_elim
        (λ e. ap (head_of from) (sym e))
        (λ e. ap (take (from - first.from)) e.0 ∙ take_none (from - first.from) ∙ sym (late_here e.1).1)
        at

    pub joined_here : joined_behind (from - first.from) v bs (tail_of to rest) ≡ joined from bs mid
    joined_here =
        let f = t.first_from in
        let tail : drop (from - first.from + length bs) v ++ tail_of to rest ≡ tail_of to mid =
        ⊎_elim
        (λ e. ap (λ n. drop n v ++ tail_of to rest) (let d : from - first.from + length bs ≡ to - first.from = omega arith in d)
        ∙ tail_joined i to (end_after 0 front) (first, v) rest (subst (InOrder (end_after 0 front)) e mid_order) (subst (BeginBy i to) e (of_inode_by i to mid t.of_inode))
        ∙ ap (tail_of to) (sym e))
        (λ e. ap (λ (x : List ℕ). drop (from - first.from + length bs) x ++ tail_of to rest) e.0 ∙ ap (λ (x : List ℕ). x ++ tail_of to rest) (drop_all (from - first.from + length bs) [] (omega arith)) ∙ ap (tail_of to) (sym e.1))
        at in
        ap (λ (x : List ℕ). take (from - first.from) v ++ (bs ++ x)) tail
        ∙ ap (λ (x : List ℕ). x ++ (bs ++ tail_of to mid)) head_here

    -- up to a border nothing is left behind the write
    module _ (border : to % WINDOW ≡ 0) (window : from % WINDOW + length bs ≤ WINDOW) where
      pub none_behind_border : tail_of to mid ≡ []
      none_behind_border =
          no_length (tail_of to mid)
          (let w = tail_in_window i (from / WINDOW) to (end_after 0 front) mid (omega arith) (omega arith) mid_order t.of_inode in omega arith)

      pub ends_by_border : length v ≤ from - first.from + length bs
      ends_by_border =
          ⊎_elim
          (λ e.
          let o = subst (InOrder (end_after 0 front)) e mid_order in
          let w = o.0.in_window in
          let f = t.first_from in
          let q : first.from / WINDOW ≡ from / WINDOW = joined_window from (length bs) mid first.from t.begins t.reached (end_after 0 front) mid_order some window in
          omega arith)
          (λ e. let n = ap length e.0 in omega arith)
          at

      pub joined_border : take (from - first.from) v ++ bs ≡ joined from bs mid
      joined_border =
          ap (λ (x : List ℕ). x ++ bs) head_here
          ∙ ap (λ (x : List ℕ). head_of from mid ++ x) (sym (append-nil bs))
          ∙ ap (λ (x : List ℕ). head_of from mid ++ (bs ++ x)) (sym none_behind_border)
