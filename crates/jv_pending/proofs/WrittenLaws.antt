-- What a write leaves of the runs from the first one on that it touches.
use Rattle.std.proofs.Common.{◌≡◌, ℕ, ◌+◌, ◌-◌, ◌%◌, ◌<◌, ◌≤◌, ltb, leb, List, [], ◌∷◌, ◌++◌, length, take, unwrap_or, IfSome, IsSomeAnd, refl, sym, ap, subst, ◌∙◌, ⊎_elim, arith}
use Rattle.std.proofs.lemmas.Bool.{cases_lt, cases_eq}
use Rattle.std.proofs.lemmas.List.{append_assoc, append-nil}
use Rattle.std.proofs.lemmas.List.Elements.{filter-append}
use Rattle.jv_model.specs.declared.limits.TheConstants.{FILE_END, WINDOW}
use Rattle.jv_model.specs.promise.client.Pending.{PendingByte, written}
use Rattle.jv_model.specs.Lists.{first_item}
use Rattle.jv_pending.specs.declared.run.RunStart.{RunStart}
use Rattle.jv_pending.specs.Runs.{Run, place, place_of, placed, start_place, end_place, end_of_run, gap, bytes_at, pending_bytes, InOrder, Rise, Before, EndBy, end_after, runs_before, runs_from, runs_within, with_runs, tail_of, joined_from, joined, BeginBy, Reaches, joined_behind, IsFirst, IsTouched, Starts, Writes}
use Rattle.jv_pending.proofs.ByteLaws.{Rises, front, back, written_is, written-append}
use Rattle.jv_pending.proofs.OrderLaws.{EndBy-weaker, InOrder-weaker, InOrder-left, InOrder-append, end_after_by, pending_bytes-append, Rises-runs, front_runs, back_runs}
use Rattle.jv_pending.proofs.JoinLaws.{gap_le, gap_says}
use Rattle.jv_pending.proofs.PartLaws.{Rise-order, Rise-weaker, Rise-before, Rise-from, Before-before, before_none, from_none, from_all, from_from, before_before, before_all, within_is, whole, with_before, with_here}
use Rattle.jv_pending.proofs.EntryLaws.{one_rises}
use Rattle.jv_pending.proofs.TouchedLaws.{touched, late, end_early, InOrder-from, InOrder-before}
use Rattle.jv_pending.proofs.WindowLaws.{AtFirst, at_first, rewritten, rewritten_order, one_rewrites, at_reaches, joined_here, ends_by_border, joined_border}

InOrder-at : (m n : ℕ) (rs : List Run) → m ≡ n → InOrder m rs → InOrder n rs
InOrder-at m n rs e o = subst (λ k. InOrder k rs) e o

pub no_gap : (n : ℕ) → n % WINDOW ≡ 0 → gap n ≡ 0
no_gap n e = ⊎_elim (λ z. z.1) (λ z. absurd (let p = z.0 in omega arith)) (gap_says n)

-- a write changes nothing before it
pub written_over : (i f low : ℕ) (bs : List ℕ) (xs : List Run) (q : List PendingByte) → f + length bs ≤ FILE_END → EndBy (place i f) xs → Rises low (pending_bytes xs ++ q) → Rises low q → written i f bs (pending_bytes xs ++ q) ≡ pending_bytes xs ++ written i f bs q
written_over i f low bs xs q file e r s =
    let to : ℕ = f + length bs in
    written_is i f to low bs (pending_bytes xs ++ q) refl file r
    ∙ ap (λ (t : List PendingByte). t ++ (placed i f bs ++ back (place i to) (pending_bytes xs ++ q))) (front_runs (place i f) xs q e)
    ∙ ap (λ (t : List PendingByte). (pending_bytes xs ++ front (place i f) q) ++ (placed i f bs ++ t)) (back_runs (place i to) xs q (EndBy-weaker (place i f) (place i to) xs (omega arith) e))
    ∙ append_assoc (pending_bytes xs) (front (place i f) q) (placed i f bs ++ back (place i to) q)
    ∙ ap (λ (t : List PendingByte). pending_bytes xs ++ t) (sym (written_is i f to low bs q refl file s))

-- a run put into a list that differs only at its place
pub within_same : (first : RunStart) (high : ℕ) (rs mid : List Run) → runs_from (place_of first + 1) mid ≡ runs_from (place_of first + 1) rs → runs_within (place_of first + 1) high mid ≡ runs_within (place_of first + 1) high rs
within_same first high rs mid after = within_is (place_of first + 1) high mid ∙ ap (runs_before high) after ∙ sym (within_is (place_of first + 1) high rs)

pub put_same : (first : RunStart) (high : ℕ) (rs mid : List Run) (all : List ℕ) → place_of first < high → runs_before (place_of first) mid ≡ runs_before (place_of first) rs → runs_from (place_of first + 1) mid ≡ runs_from (place_of first + 1) rs
    → with_runs ((first, all) ∷ []) high mid ≡ with_runs ((first, all) ∷ []) high rs
put_same first high rs mid all up before after =
    ap (λ (t : List Run). t ++ ((first, all) ∷ runs_from high mid)) before
    ∙ ap (λ (t : List Run). runs_before (place_of first) rs ++ ((first, all) ∷ t))
    (sym (from_from (place_of first + 1) high mid (omega arith)) ∙ ap (runs_from high) after ∙ from_from (place_of first + 1) high rs (omega arith))

-- runs that begin before a border end there or before it
pub border_ends : (i b low : ℕ) (rs : List Run) → b % WINDOW ≡ 0 → b ≤ FILE_END → InOrder low rs → Before (place i b) rs → EndBy (place i b) rs
border_ends i b low [] z f o e = tt
border_ends i b low (r ∷ rs) z f o e =
    let w = o.0.in_window in
    let k = o.0.in_file in
    let l = e.0 in
    (ends_before r.0.inode i r.0.from b (length r.1) z f w k l, border_ends i b (end_place r) rs z f o.2 e.1)
  where
    ends_before : (j i from b n : ℕ) → b % WINDOW ≡ 0 → b ≤ FILE_END → from % WINDOW + n ≤ WINDOW → from + n ≤ FILE_END → place j from < place i b → place j (from + n) ≤ place i b
    ends_before j i from b n z f w k l =
        ⊎_elim
        (λ s. omega arith)
        (λ g. ⊎_elim (λ e. omega arith) (λ d. absurd (omega arith)) (cases_eq j i))
        (cases_lt j i)

-- runs from a place on are in order from just before it
pub low_order : (first : RunStart) (m : ℕ) (es : List Run) → first.from < FILE_END → InOrder m es → Rise (place_of first) es → InOrder (place_of first - gap first.from) es
low_order first m [] f o r = tt
low_order first m (y ∷ ys) f o r =
    let g = gap_le first.from in
    let h = gap_le y.0.from in
    let late = r.1 in
    let file = r.0 in (
      o.0,
      ⊎_elim
          (λ same. let q : gap first.from ≡ gap y.0.from = ap gap (let d : first.from ≡ y.0.from = omega arith in d) in omega arith)
          (λ n. omega arith)
          (cases_eq (place_of first) (start_place y)),
      o.2,
    )

module _ (from : ℕ) (bs : List ℕ) (first : RunStart) (rs : List Run) (rise : Rise 0 rs) (s : Starts from rs first) (some : 0 < length bs) (file : from + length bs ≤ FILE_END) where
  abbrev es : List Run
  es = runs_from (place_of first) rs

  abbrev to : ℕ
  to = from + length bs

  rise_es : Rise (place_of first) es
  rise_es = Rise-from (place_of first) 0 rs rise

  order_es : InOrder 0 es
  order_es = InOrder-weaker (place_of first - gap first.from) 0 es (omega arith) s.order

  pub first_file : first.from < FILE_END
  first_file = let f = s.touches.from_is in omega arith

  module _ (end : RunStart) (ei : end.inode ≡ first.inode) (ef : end.from ≡ to + gap to) where
    pub is_touched : IsTouched first.inode from to es first end
    is_touched = touched first.inode from to es first end order_es (omega arith) file s.touches ei ef

    pub is_forward : place_of first < place_of end
    is_forward = let f = s.touches.from_is in omega arith

    pub within_here : runs_within (place_of first) (place_of end) es ≡ runs_within (place_of first) (place_of end) rs
    within_here =
        within_is (place_of first) (place_of end) es
        ∙ ap (runs_before (place_of end)) (from_from (place_of first) (place_of first) rs (omega arith))
        ∙ sym (within_is (place_of first) (place_of end) rs)

    pub rest_rises : Rise (place_of first + 1) (runs_within (place_of first + 1) (place_of end) rs)
    rest_rises = Rise-from (place_of first + 1) 0 (runs_before (place_of end) rs) (Rise-before (place_of end) 0 rs rise)

    pub at_here : (v : List ℕ) → v ≡ unwrap_or (bytes_at first rs) [] → AtFirst first v (runs_within (place_of first + 1) (place_of end) rs) (runs_within (place_of first) (place_of end) es)
    at_here v e =
        subst (AtFirst first v (runs_within (place_of first + 1) (place_of end) rs)) (sym within_here)
        (subst (λ w. AtFirst first w (runs_within (place_of first + 1) (place_of end) rs) (runs_within (place_of first) (place_of end) rs)) (sym e)
        (at_first first (place_of end) rs first_file is_forward rise))

    pub reaches_here : (v : List ℕ) → v ≡ unwrap_or (bytes_at first rs) [] → from - first.from ≤ length v
    reaches_here v e = at_reaches first.inode from bs first end es order_es some file is_touched v (runs_within (place_of first + 1) (place_of end) rs) (at_here v e) rest_rises

    put_here : (all : List ℕ) → runs_from (place_of first) (with_runs ((first, all) ∷ []) (place_of end) rs) ≡ (first, all) ∷ runs_from (place_of end) rs
    put_here all = with_here ((first, all) ∷ []) (place_of end) 0 rs (one_rises first first_file rs rise all) (is_forward, tt) rise

    early : place_of first - gap first.from ≤ place first.inode from - gap from
    early =
        let f = s.touches.from_is in
        let g = gap_le first.from in
        let h = gap_le from in
        ⊎_elim
        (λ e. let q : gap first.from ≡ gap from = ap gap e in omega arith)
        (λ n. omega arith)
        (cases_eq first.from from)

    -- a write inside one window
    pub window_written : (new : List Run) (v : List ℕ) → v ≡ unwrap_or (bytes_at first rs) [] → from % WINDOW + length bs ≤ WINDOW
        → new ≡ with_runs ((first, joined_behind (from - first.from) v bs (tail_of to (runs_within (place_of first + 1) (place_of end) rs))) ∷ []) (place_of end) rs
        → Writes from bs first rs new
    window_written new v e window h =
        let rest : List Run = runs_within (place_of first + 1) (place_of end) rs in
        let all : List ℕ = joined_behind (from - first.from) v bs (tail_of to rest) in
        let here : runs_from (place_of first) new ≡ runs_before (place_of first) es ++ ((first, all) ∷ runs_from (place_of end) es) =
        ap (runs_from (place_of first)) h ∙ put_here all
        ∙ ap (λ (t : List Run). (first, all) ∷ t) (sym (from_from (place_of first) (place_of end) rs (let f = is_forward in omega arith)))
        ∙ ap (λ (t : List Run). t ++ ((first, all) ∷ runs_from (place_of end) es)) (sym (before_none (place_of first) (place_of first) es (omega arith) rise_es)) in
        let w = one_rewrites first.inode from bs first end es order_es some file is_touched (runs_from (place_of first) new) all window
        (joined_here first.inode from bs first end es order_es some file is_touched v rest (at_here v e) rest_rises) here in
        record {
          before = ap (runs_before (place_of first)) h ∙ with_before ((first, all) ∷ []) (place_of end) 0 rs (one_rises first first_file rs rise all) (is_forward, tt) rise (place_of first) (omega arith);
          order = rewritten_order first.inode from bs first end es order_es some file is_touched (place_of first - gap first.from) s.order early (runs_from (place_of first) new) w;
          same = rewritten first.inode from bs first end es order_es some file is_touched (runs_from (place_of first) new) w;
        }

    -- a write up to a border, and another from there on
    module _ (border : to % WINDOW ≡ 0) (window : from % WINDOW + length bs ≤ WINDOW) where
      pub border_is : place_of end ≡ place first.inode to
      border_is = let g = no_gap to border in omega arith

      pub border_fits : (v : List ℕ) → v ≡ unwrap_or (bytes_at first rs) [] → length v ≤ from - first.from + length bs
      border_fits v e = ends_by_border first.inode from bs first end es order_es some file is_touched v (runs_within (place_of first + 1) (place_of end) rs) (at_here v e) rest_rises border window

      -- the runs behind the border, in a list that has the same there
      pub starts_behind : (mid : List Run) → runs_from (place_of first + 1) mid ≡ runs_from (place_of first + 1) rs → end.from < FILE_END → Starts to mid end
      starts_behind mid after inside =
          let g = no_gap to border in
          let same : runs_from (place_of end) mid ≡ runs_from (place_of end) es =
          sym (from_from (place_of first + 1) (place_of end) mid (let f = is_forward in omega arith)) ∙ ap (runs_from (place_of end)) after
          ∙ from_from (place_of first + 1) (place_of end) rs (let f = is_forward in omega arith)
          ∙ sym (from_from (place_of first) (place_of end) rs (let f = is_forward in omega arith)) in
          let behind : List Run = runs_from (place_of end) es in
          let rises : Rise (place_of end) behind = Rise-from (place_of end) 0 es (Rise-weaker (place_of first) 0 es (omega arith) rise_es) in
          let order : InOrder (place_of end) behind = subst (λ n. InOrder n behind) (sym border_is) is_touched.after in
          let whole_behind : runs_from (place_of end) behind ≡ behind = from_all (place_of end) (place_of end) behind (omega arith) rises in
          let first_is : IsFirst end.inode to behind end = record {
            inode_is = refl;
            from_is = omega arith;
            before = subst (EndBy (place end.inode to - gap to)) (sym (before_none (place_of end) (place_of end) behind (omega arith) rises)) tt;
            reached = subst (λ (t : List Run). IfSome (first_item t) (λ r. r.0.inode ≡ end.inode → to + 1 ≤ end_of_run r + gap to)) (sym whole_behind)
                (late end.inode to (place_of end) behind order (subst (λ n. Rise n behind) (let d : place_of end ≡ place end.inode to = omega arith in d) rises));
            begins = λ l. absurd (omega arith);
          } in
          record {
            order = subst (InOrder (place_of end - gap end.from)) (sym same) (low_order end (place_of end) behind inside order rises);
            touches = subst (λ (t : List Run). IsFirst end.inode to t end) (sym same) first_is;
          }

      end_gap : gap to ≡ 0 → place_of end - gap end.from ≡ place_of end
      end_gap g = let e : gap end.from ≡ gap to = ap gap (let d : end.from ≡ to = omega arith in d) in omega arith

      pub border_written : (rest : List ℕ) (mid put new : List Run) (v all : List ℕ) → v ≡ unwrap_or (bytes_at first rs) []
          → to + length rest ≤ FILE_END
          → runs_before (place_of first) mid ≡ runs_before (place_of first) rs → runs_from (place_of first + 1) mid ≡ runs_from (place_of first + 1) rs
          → Rise 0 put → Writes to rest end mid put
          → all ≡ take (from - first.from) v ++ bs
          → new ≡ with_runs ((first, all) ∷ []) (place_of end) put
          → Writes from (bs ++ rest) first rs new
      border_written rest mid put new v all e fits before after up w ea h =
          let g = no_gap to border in
          let f = is_forward in
          let same : runs_from (place_of end) mid ≡ runs_from (place_of end) es =
          sym (from_from (place_of first + 1) (place_of end) mid (omega arith)) ∙ ap (runs_from (place_of end)) after
          ∙ from_from (place_of first + 1) (place_of end) rs (omega arith)
          ∙ sym (from_from (place_of first) (place_of end) rs (omega arith)) in
          let ahead : List Run = runs_before (place_of end) es in
          let behind : List Run = runs_from (place_of end) put in
          let both : List Run = ahead ++ behind in
          let cut : ahead ++ runs_from (place_of end) es ≡ es = whole (place_of end) (place_of first) es rise_es in
          let ordered : InOrder (place_of first - gap first.from) (ahead ++ runs_from (place_of end) es) = subst (InOrder (place_of first - gap first.from)) (sym cut) s.order in
          let ahead_order = InOrder-left (place_of first - gap first.from) ahead (runs_from (place_of end) es) ordered in
          let ends : EndBy (place first.inode to) ahead = border_ends first.inode to (place_of first - gap first.from) ahead border file ahead_order (subst (λ n. Before n ahead) border_is (Before-before (place_of end) es)) in
          let low : place_of first - gap first.from ≤ place first.inode to = omega arith in
          let rises : Rise (place_of end) behind = Rise-from (place_of end) 0 put up in
          let behind_order : InOrder (place_of end) behind = InOrder-at (place_of end - gap end.from) (place_of end) behind (end_gap g) w.order in
          let both_order : InOrder (place_of first - gap first.from) both =
          InOrder-append (place_of first - gap first.from) ahead behind ahead_order
          (InOrder-weaker (place_of end) (end_after (place_of first - gap first.from) ahead) behind
          (let b = border_is in let k = end_after_by (place_of first - gap first.from) (place first.inode to) ahead low ends in omega arith) behind_order) in
          let zero : InOrder 0 both = InOrder-weaker (place_of first - gap first.from) 0 both (omega arith) both_order in
          let none_early : runs_before (place_of first) both ≡ [] =
          filter-append (λ r. ltb (start_place r) (place_of first)) ahead behind
          ∙ ap (λ (t : List Run). t ++ runs_before (place_of first) behind) (before_none (place_of first) (place_of first) ahead (omega arith) (Rise-before (place_of end) (place_of first) es rise_es))
          ∙ before_none (place_of first) (place_of end) behind (omega arith) rises in
          let ahead_is : runs_before (place_of end) both ≡ ahead =
          filter-append (λ r. ltb (start_place r) (place_of end)) ahead behind
          ∙ ap (λ (t : List Run). runs_before (place_of end) ahead ++ t) (before_none (place_of end) (place_of end) behind (omega arith) rises)
          ∙ append-nil (runs_before (place_of end) ahead)
          ∙ before_all (place_of end) ahead (Before-before (place_of end) es) in
          let behind_is : runs_from (place_of end) both ≡ behind =
          filter-append (λ r. leb (place_of end) (start_place r)) ahead behind
          ∙ ap (λ (t : List Run). t ++ runs_from (place_of end) behind) (from_none (place_of end) ahead (Before-before (place_of end) es))
          ∙ from_all (place_of end) (place_of end) behind (omega arith) rises in
          let within : runs_within (place_of first) (place_of end) both ≡ runs_within (place_of first) (place_of end) es = ap (runs_from (place_of first)) ahead_is in
          let t = is_touched in
          let touched_both : IsTouched first.inode from to both first end = record {
            first_inode = t.first_inode;
            first_from = t.first_from;
            end_inode = t.end_inode;
            end_from = t.end_from;
            begins = subst (λ (x : List Run). joined_from from x ≡ first.from) (sym within) t.begins;
            before = subst (EndBy (place first.inode from - gap from)) (sym none_early) tt;
            of_inode = subst (BeginBy first.inode (to + gap to - 1)) (sym within) t.of_inode;
            reached = subst (Reaches from) (sym within) t.reached;
            after = subst (InOrder (place first.inode to)) (sym behind_is) (subst (λ n. InOrder n behind) border_is behind_order);
          } in
          let here : runs_from (place_of first) new ≡ runs_before (place_of first) both ++ ((first, all) ∷ runs_from (place_of end) both) =
          ap (runs_from (place_of first)) h
          ∙ with_here ((first, all) ∷ []) (place_of end) 0 put (one_rises first first_file put up all) (f, tt) up
          ∙ ap (λ (x : List Run). (first, all) ∷ x) (sym behind_is)
          ∙ ap (λ (x : List Run). x ++ ((first, all) ∷ runs_from (place_of end) both)) (sym none_early) in
          let part : all ≡ joined from bs (runs_within (place_of first) (place_of end) both) =
          ea ∙ joined_border first.inode from bs first end es order_es some file is_touched v (runs_within (place_of first + 1) (place_of end) rs) (at_here v e) rest_rises border window
          ∙ ap (joined from bs) (sym within) in
          let r = one_rewrites first.inode from bs first end both zero some file touched_both (runs_from (place_of first) new) all window part here in
          let bytes : pending_bytes both ≡ written first.inode to rest (pending_bytes es) =
          pending_bytes-append ahead behind
          ∙ ap (λ (x : List PendingByte). pending_bytes ahead ++ x) (w.same ∙ ap (λ i. written i to rest (pending_bytes (runs_from (place_of end) mid))) ei ∙ ap (λ (x : List Run). written first.inode to rest (pending_bytes x)) same)
          ∙ sym (written_over first.inode to 0 rest ahead (pending_bytes (runs_from (place_of end) es)) fits ends
          (subst (Rises 0) (pending_bytes-append ahead (runs_from (place_of end) es)) (Rises-runs 0 (ahead ++ runs_from (place_of end) es) (InOrder-weaker (place_of first - gap first.from) 0 (ahead ++ runs_from (place_of end) es) (omega arith) ordered)))
          (Rises-runs 0 (runs_from (place_of end) es) (InOrder-weaker (place first.inode to) 0 (runs_from (place_of end) es) (omega arith) t.after)))
          ∙ ap (written first.inode to rest) (sym (pending_bytes-append ahead (runs_from (place_of end) es)) ∙ ap pending_bytes cut) in
          record {
            before = ap (runs_before (place_of first)) h
                ∙ with_before ((first, all) ∷ []) (place_of end) 0 put (one_rises first first_file put up all) (f, tt) up (place_of first) (omega arith)
                ∙ sym (before_before (place_of first) (place_of end) put (omega arith)) ∙ ap (runs_before (place_of first)) w.before ∙ before_before (place_of first) (place_of end) mid (omega arith)
                ∙ before;
            order = rewritten_order first.inode from bs first end both zero some file touched_both (place_of first - gap first.from) both_order early (runs_from (place_of first) new) r;
            same = rewritten first.inode from bs first end both zero some file touched_both (runs_from (place_of first) new) r
                ∙ ap (written first.inode from bs) bytes
                ∙ sym (written-append first.inode from bs rest (pending_bytes es));
          }

-- a write to all runs, by the first of them that it touches
module _ (inode from : ℕ) (bs : List ℕ) (first : RunStart) (rs : List Run) (order : InOrder 0 rs) (f : IsFirst inode from rs first) (file : from < FILE_END) where
  abbrev behind : List Run
  behind = runs_from (place_of first) rs

  here : IsFirst first.inode from rs first
  here = subst (λ i. IsFirst i from rs first) (sym f.inode_is) f

  rises_behind : Rise (place_of first) behind
  rises_behind = Rise-from (place_of first) 0 rs (Rise-order 0 rs order)

  again : runs_from (place_of first) behind ≡ behind
  again = from_from (place_of first) (place_of first) rs (omega arith)

  pub starts : Starts from rs first
  starts =
      let q = InOrder-from (place_of first) 0 rs order in
      let l = f.from_is in
      record {
        order = low_order first q.0 behind (omega arith) q.1 rises_behind;
        touches = record {
          inode_is = refl;
          from_is = f.from_is;
          before = subst (EndBy (place first.inode from - gap from)) (sym (before_none (place_of first) (place_of first) behind (omega arith) rises_behind)) tt;
          reached = subst (λ (t : List Run). IfSome (first_item t) (λ r. r.0.inode ≡ first.inode → from + 1 ≤ end_of_run r + gap from)) (sym again) here.reached;
          begins = λ l. subst (λ (t : List Run). IsSomeAnd (first_item t) (λ r. r.0 ≡ first)) (sym again) (here.begins l);
        };
      }

  -- the runs before it end early enough
  begins_with : IsSomeAnd (first_item behind) (λ r. r.0 ≡ first) → (r : Run) × (t : List Run) × (r.0 ≡ first) × (behind ≡ r ∷ t)
  begins_with h = split behind h
    where
      split : (es : List Run) → IsSomeAnd (first_item es) (λ r. r.0 ≡ first) → (r : Run) × (t : List Run) × (r.0 ≡ first) × (es ≡ r ∷ t)
      split [] h = absurd h
      split (x ∷ xs) h = (x, xs, h, refl)

  ends_early : EndBy (place_of first - gap first.from) (runs_before (place_of first) rs)
  ends_early =
      let l = f.from_is in
      ⊎_elim
      (λ less.
      let b = begins_with (here.begins less) in
      let all : rs ≡ runs_before (place_of first) rs ++ b.0 ∷ b.1 = sym (whole (place_of first) 0 rs (Rise-order 0 rs order)) ∙ ap (λ (t : List Run). runs_before (place_of first) rs ++ t) b.3 in
      subst (λ (s : RunStart). EndBy (place_of s - gap s.from) (runs_before (place_of first) rs)) b.2
      (end_early 0 (runs_before (place_of first) rs) b.0 b.1 (subst (InOrder 0) all order)).0)
      (λ more.
      let e : from ≡ first.from = omega arith in
      subst (λ n. EndBy (place first.inode n - gap n) (runs_before (place_of first) rs)) e here.before)
      (cases_lt first.from from)

  module _ (fits : from + length bs ≤ FILE_END) (new : List Run) (rise : Rise 0 new) (w : Writes from bs first rs new) where
    parts : runs_before (place_of first) rs ++ runs_from (place_of first) new ≡ new
    parts = ap (λ (t : List Run). t ++ runs_from (place_of first) new) (sym w.before) ∙ whole (place_of first) 0 new rise

    pub all_order : InOrder 0 new
    all_order =
        subst (InOrder 0) parts
        (InOrder-append 0 (runs_before (place_of first) rs) (runs_from (place_of first) new) (InOrder-before (place_of first) rs order)
        (InOrder-weaker (place_of first - gap first.from) (end_after 0 (runs_before (place_of first) rs)) (runs_from (place_of first) new)
        (end_after_by 0 (place_of first - gap first.from) (runs_before (place_of first) rs) (omega arith) ends_early) w.order))

    pub all_written : pending_bytes new ≡ written inode from bs (pending_bytes rs)
    all_written =
        let cut = whole (place_of first) 0 rs (Rise-order 0 rs order) in
        let q = InOrder-from (place_of first) 0 rs order in
        ap pending_bytes (sym parts)
        ∙ pending_bytes-append (runs_before (place_of first) rs) (runs_from (place_of first) new)
        ∙ ap (λ (t : List PendingByte). pending_bytes (runs_before (place_of first) rs) ++ t) w.same
        ∙ sym (written_over first.inode from 0 bs (runs_before (place_of first) rs) (pending_bytes behind) fits
        (EndBy-weaker (place first.inode from - gap from) (place first.inode from) (runs_before (place_of first) rs) (omega arith) here.before)
        (subst (Rises 0) (pending_bytes-append (runs_before (place_of first) rs) behind) (Rises-runs 0 (runs_before (place_of first) rs ++ behind) (subst (InOrder 0) (sym cut) order)))
        (Rises-runs 0 behind (InOrder-weaker q.0 0 behind (omega arith) q.1)))
        ∙ ap (written first.inode from bs) (sym (pending_bytes-append (runs_before (place_of first) rs) behind) ∙ ap pending_bytes cut)
        ∙ ap (λ i. written i from bs (pending_bytes rs)) f.inode_is
