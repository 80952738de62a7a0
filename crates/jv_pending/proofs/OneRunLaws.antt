-- A write that touches one run alone.
use Rattle.std.proofs.Common.{◌≡◌, ℕ, ◌+◌, ◌-◌, ◌%◌, ◌<◌, ◌≤◌, List, [], ◌∷◌, ◌++◌, length, Some, Option, is_some, unwrap_or, refl, sym, ap, subst, ◌∙◌, arith}
use Rattle.std.proofs.lemmas.List.{length-append}
use Rattle.jv_model.specs.declared.limits.TheConstants.{FILE_END, WINDOW}
use Rattle.jv_model.specs.promise.client.Pending.{written}
use Rattle.jv_model.specs.promise.Lists.{last_item}
use Rattle.jv_pending.specs.declared.run.RunStart.{RunStart}
use Rattle.jv_pending.specs.Runs.{Run, place, place_of, placed, start_place, end_of_run, gap, bytes_at, pending_bytes, InOrder, Rise, Before, runs_before, runs_from, runs_within, with_runs, tail_of, joined_behind, IsFirst, IsOnly, Starts, Writes}
use Rattle.jv_pending.proofs.OrderLaws.{pending_bytes-append, length-placed}
use Rattle.jv_pending.proofs.PartLaws.{Rise-order, Rise-before, Rise-from, Before-weaker, Before-last, Before-end, before_all, before_before, from_none, from_from, within_is, whole}
use Rattle.jv_pending.proofs.EntryLaws.{put_back, swap_rises}
use Rattle.jv_pending.proofs.TouchedLaws.{last_split, last_there, first_reaches}
use Rattle.jv_pending.proofs.WrittenLaws.{starts, reaches_here, window_written, all_order, all_written}

-- the last run before a place, where it begins early enough, is the only one that a write touches
module _ (n : ℕ) (rs : List Run) (r : Run) (o : InOrder 0 rs) (h : Some r ≡ last_item (runs_before n rs)) where
  before_it : (t : List Run) × (runs_before n rs ≡ t ++ r ∷ []) × Before (start_place r + 1) (t ++ r ∷ [])
  before_it =
      let s = last_split (runs_before n rs) r h in
      let b = (Before-last 0 s.0 r (subst (Rise 0) s.1 (Rise-before n 0 rs (Rise-order 0 rs o)))).0 in
      (s.0, s.1, Before-end (start_place r + 1) s.0 r (Before-weaker (start_place r) (start_place r + 1) s.0 (omega arith) b) (omega arith))

  none_behind_it : runs_within (start_place r + 1) n rs ≡ []
  none_behind_it =
      let s = before_it in
      ap (runs_from (start_place r + 1)) s.1 ∙ from_none (start_place r + 1) (s.0 ++ r ∷ []) s.2

  first_it : (from : ℕ) → place r.0.inode from + 1 ≤ n → from < FILE_END → r.0.from ≤ from → from + 1 ≤ end_of_run r + gap from → IsFirst r.0.inode from rs r.0
  first_it from up file begins reach =
      let s = before_it in
      let m : ℕ = place r.0.inode from + 1 in
      let same : runs_before m rs ≡ runs_before n rs =
      sym (before_before m n rs up) ∙ ap (runs_before m) s.1
      ∙ before_all m (s.0 ++ r ∷ []) (Before-weaker (start_place r + 1) m (s.0 ++ r ∷ []) (omega arith) s.2)
      ∙ sym s.1 in
      first_reaches r.0.inode from rs r o (subst (λ (t : List Run). Some r ≡ last_item t) (sym same) h) file refl reach

  pub only_it : (from count : ℕ) → n ≡ place r.0.inode (from + count + gap (from + count)) → 0 < count → from + count ≤ FILE_END → r.0.from ≤ from → from + 1 ≤ end_of_run r + gap from → from % WINDOW + count ≤ WINDOW → IsOnly from count rs r.0
  only_it from count e some file begins reach window = record {
    is_first = first_it from (omega arith) (omega arith) begins reach;
    there = ap is_some (last_there n rs r (Rise-order 0 rs o) h);
    alone = subst (λ k. runs_within (start_place r + 1) k rs ≡ []) e none_behind_it;
    in_window = window;
  }

-- the bytes of runs, by those of one of them
count_with : (k : RunStart) (v : List ℕ) (high : ℕ) (rs : List Run) → length (pending_bytes (with_runs ((k, v) ∷ []) high rs)) ≡ length (pending_bytes (runs_before (place_of k) rs)) + (length v + length (pending_bytes (runs_from high rs)))
count_with k v high rs =
    ap length (pending_bytes-append (runs_before (place_of k) rs) ((k, v) ∷ runs_from high rs))
    ∙ length-append (pending_bytes (runs_before (place_of k) rs)) (pending_bytes ((k, v) ∷ runs_from high rs))
    ∙ ap (λ m. length (pending_bytes (runs_before (place_of k) rs)) + m)
    (length-append (placed k.inode k.from v) (pending_bytes (runs_from high rs)) ∙ ap (λ m. m + length (pending_bytes (runs_from high rs))) (length-placed k.inode k.from v))

module _ (from : ℕ) (bs : List ℕ) (first : RunStart) (rs : List Run) (order : InOrder 0 rs) (some : 0 < length bs) (file : from + length bs ≤ FILE_END) (only : IsOnly from (length bs) rs first) (v : List ℕ) (there : bytes_at first rs ≡ Some v) where
  abbrev to : ℕ
  to = from + length bs

  abbrev end : RunStart
  end = record { inode = first.inode; from = to + gap to }

  rise : Rise 0 rs
  rise = Rise-order 0 rs order

  starts_only : Starts from rs first
  starts_only = starts first.inode from bs first rs order only.is_first (omega arith)

  value : v ≡ unwrap_or (bytes_at first rs) []
  value = sym (ap (λ (o : Option (List ℕ)). unwrap_or o []) there)

  pub file_only : first.from < FILE_END
  file_only = let f = only.is_first.from_is in omega arith

  pub reaches_only : from - first.from ≤ length v
  reaches_only = reaches_here from bs first rs rise starts_only some file end refl refl v value

  -- no run begins between it and the end of the write
  same_behind : runs_from (place_of first + 1) rs ≡ runs_from (place_of end) rs
  same_behind =
      let f = only.is_first.from_is in
      sym (whole (place_of end) (place_of first + 1) (runs_from (place_of first + 1) rs) (Rise-from (place_of first + 1) 0 rs rise))
      ∙ ap (λ (t : List Run). t ++ runs_from (place_of end) (runs_from (place_of first + 1) rs)) (sym (within_is (place_of first + 1) (place_of end) rs) ∙ only.alone)
      ∙ from_from (place_of first + 1) (place_of end) rs (omega arith)

  module _ (new : List Run) (e : new ≡ with_runs ((first, joined_behind (from - first.from) v bs []) ∷ []) (place_of first + 1) rs) where
    abbrev all : List ℕ
    all = joined_behind (from - first.from) v bs []

    writes_only : Writes from bs first rs new
    writes_only =
        window_written from bs first rs rise starts_only some file end refl refl new v value only.in_window
        (e
        ∙ ap (λ (t : List Run). runs_before (place_of first) rs ++ ((first, all) ∷ t)) same_behind
        ∙ ap (λ (t : List Run). with_runs ((first, joined_behind (from - first.from) v bs (tail_of to t)) ∷ []) (place_of end) rs) (sym only.alone))

    rises_only : Rise 0 new
    rises_only = subst (Rise 0) (sym e) (swap_rises first file_only rs rise all)

    pub order_only : InOrder 0 new
    order_only = all_order first.inode from bs first rs order only.is_first (omega arith) file new rises_only writes_only

    pub written_only : pending_bytes new ≡ written first.inode from bs (pending_bytes rs)
    written_only = all_written first.inode from bs first rs order only.is_first (omega arith) file new rises_only writes_only

    pub count_only : (more : ℕ) → length v + more ≡ length all → length (pending_bytes rs) + more ≡ length (pending_bytes new)
    count_only more h =
        let a = count_with first all (place_of first + 1) rs in
        let b = count_with first v (place_of first + 1) rs in
        let old = ap (λ (t : List Run). length (pending_bytes t)) (put_back first file_only rs rise v there) in
        let now = ap (λ (t : List Run). length (pending_bytes t)) e in
        omega arith
