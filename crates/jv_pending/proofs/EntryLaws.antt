-- What a map's calls do to its list of runs.
use Rattle.std.proofs.Common.{◌≡◌, ℕ, ◌+◌, ◌<◌, ◌≤◌, Bool, true, false, not, ◌&&◌, eqb, ltb, leb, cond, if◌then◌else◌, List, [], ◌∷◌, ◌++◌, Option, Some, None, refl, sym, ap, subst, ◌∙◌, ⊎_elim, arith}
use Rattle.std.proofs.lemmas.Bool.{cases_lt, cases_order, cond-true, cond-false, le-ltb, le-leb, lt-leb, eq-eqb, ne_eqb}
use Rattle.std.proofs.lemmas.Option.{none-some, same_Some}
use Rattle.std.specs.declared.cmp.Ordering.TheVariants.{Less, Equal, Greater}
use Rattle.std.specs.declared.ops.Bound.TheVariants.{Included, Excluded, Unbounded}
use Rattle.std.specs.Ordering.{is_eq, is_le, nat_cmp, ordering_then, match_ordering}
use Rattle.std.specs.BTreeMap.{is_at, insert_entry}
use Rattle.std.specs.BTreeMap.Range.{entries_between}
use Rattle.std.proofs.lemmas.List.Elements.{filter-append}
use Rattle.std.specs.Map.{lookup, remove_entry, set_value}
use Rattle.jv_model.specs.declared.limits.TheConstants.{FILE_END}
use Rattle.jv_model.proofs.TestLaws.{nat_less}
use Rattle.jv_pending.specs.declared.run.RunStart.{RunStart}
use Rattle.jv_pending.specs.Runs.{Run, start_cmp, bytes_at, place_of, start_place, Rise, runs_before, runs_from, runs_within, with_runs, without_run, given_back}
use Rattle.jv_pending.proofs.PartLaws.{before_yes, before_no, from_yes, from_no, before_none, from_all, Rise-from, whole, within_is, cut_before, cut_rest, cut_rise, with_before, with_from, with_here, with_rise, with_with}

-- starts go as their places do
cmp_equal : (m n : ℕ) → m ≡ n → nat_cmp m n ≡ Equal
cmp_equal m n e = cond-false (ltb m n) Less (cond (eqb m n) Equal Greater) (le-ltb m n (omega arith)) ∙ cond-true (eqb m n) Equal Greater (eq-eqb m n e)

cmp_greater : (m n : ℕ) → n < m → nat_cmp m n ≡ Greater
cmp_greater m n h = cond-false (ltb m n) Less (cond (eqb m n) Equal Greater) (le-ltb m n (omega arith)) ∙ cond-false (eqb m n) Equal Greater (ne_eqb m n (λ e. omega arith))

pub starts_less : (s t : RunStart) → s.from ≤ FILE_END → t.from < FILE_END → place_of s < place_of t → start_cmp s t ≡ Less
starts_less s t a b h =
    ⊎_elim
    (λ e. ap (λ o. ordering_then o (nat_cmp s.from t.from)) (cmp_equal s.inode t.inode e) ∙ nat_less s.from t.from (omega arith))
    (λ o. ⊎_elim (λ l. ap (λ o. ordering_then o (nat_cmp s.from t.from)) (nat_less s.inode t.inode l)) (λ g. absurd (omega arith)) o)
    (cases_order s.inode t.inode)

pub starts_greater : (s t : RunStart) → s.from ≤ FILE_END → t.from < FILE_END → place_of t < place_of s → start_cmp s t ≡ Greater
starts_greater s t a b h =
    ⊎_elim
    (λ e. ap (λ o. ordering_then o (nat_cmp s.from t.from)) (cmp_equal s.inode t.inode e) ∙ cmp_greater s.from t.from (omega arith))
    (λ o. ⊎_elim (λ l. absurd (omega arith)) (λ g. ap (λ o. ordering_then o (nat_cmp s.from t.from)) (cmp_greater s.inode t.inode g)) o)
    (cases_order s.inode t.inode)

pub same_start : (s t : RunStart) → s.from < FILE_END → t.from < FILE_END → place_of s ≡ place_of t → s ≡ t
same_start s t a b h =
    let i : s.inode ≡ t.inode = omega arith in
    let f : s.from ≡ t.from = omega arith in
    λ k. record { inode = i k; from = f k }

pub starts_equal : (s t : RunStart) → s.from < FILE_END → t.from < FILE_END → place_of s ≡ place_of t → start_cmp s t ≡ Equal
starts_equal s t a b h =
    let i : s.inode ≡ t.inode = omega arith in
    ap (λ o. ordering_then o (nat_cmp s.from t.from)) (cmp_equal s.inode t.inode i) ∙ cmp_equal s.from t.from (omega arith)

pub starts_le : (s t : RunStart) → s.from ≤ FILE_END → t.from < FILE_END → is_le (start_cmp s t) ≡ leb (place_of s) (place_of t)
starts_le s t a b =
    ⊎_elim
    (λ l. ap is_le (starts_less s t a b l) ∙ sym (le-leb (place_of s) (place_of t) (omega arith)))
    (λ g. ⊎_elim
    (λ l. ap is_le (starts_greater s t a b l) ∙ sym (lt-leb (place_of s) (place_of t) l))
    (λ e. ⊎_elim
    (λ in_file. ap is_le (starts_equal s t in_file b (omega arith)) ∙ sym (le-leb (place_of s) (place_of t) (omega arith)))
    (λ past. ap is_le (ap (λ o. ordering_then o (nat_cmp s.from t.from)) (nat_less s.inode t.inode (omega arith))) ∙ sym (le-leb (place_of s) (place_of t) (omega arith)))
    (cases_lt s.from FILE_END))
    (cases_lt (place_of t) (place_of s)))
    (cases_lt (place_of s) (place_of t))

-- the ranges of a map
pub between_from : (s : RunStart) (low : ℕ) (es : List Run) → s.from ≤ FILE_END → Rise low es → entries_between start_cmp (Included s) Unbounded es ≡ runs_from (place_of s) es
between_from s low [] h r = refl
between_from s low (e ∷ es) h r =
    let rest = between_from s (start_place e + 1) es h r.2 in
    let test = starts_le s e.0 h r.0 in
    ⊎_elim
    (λ l. ap (λ b. cond (b && true) (e ∷ entries_between start_cmp (Included s) Unbounded es) (entries_between start_cmp (Included s) Unbounded es)) (test ∙ lt-leb (place_of s) (start_place e) l) ∙ rest ∙ sym (from_no (place_of s) e es l))
    (λ g. ap (λ b. cond (b && true) (e ∷ entries_between start_cmp (Included s) Unbounded es) (entries_between start_cmp (Included s) Unbounded es)) (test ∙ le-leb (place_of s) (start_place e) g) ∙ ap (λ (t : List Run). e ∷ t) rest ∙ sym (from_yes (place_of s) e es g))
    (cases_lt (start_place e) (place_of s))

pub between_before : (s : RunStart) (low : ℕ) (es : List Run) → s.from ≤ FILE_END → Rise low es → entries_between start_cmp Unbounded (Excluded s) es ≡ runs_before (place_of s) es
between_before s low [] h r = refl
between_before s low (e ∷ es) h r =
    let rest = between_before s (start_place e + 1) es h r.2 in
    let test = starts_le s e.0 h r.0 in
    ⊎_elim
    (λ l. ap (λ b. cond (not b) (e ∷ entries_between start_cmp Unbounded (Excluded s) es) (entries_between start_cmp Unbounded (Excluded s) es)) (test ∙ lt-leb (place_of s) (start_place e) l) ∙ ap (λ (t : List Run). e ∷ t) rest ∙ sym (before_yes (place_of s) e es l))
    (λ g. ap (λ b. cond (not b) (e ∷ entries_between start_cmp Unbounded (Excluded s) es) (entries_between start_cmp Unbounded (Excluded s) es)) (test ∙ le-leb (place_of s) (start_place e) g) ∙ rest ∙ sym (before_no (place_of s) e es g))
    (cases_lt (start_place e) (place_of s))

pub between_within : (s t : RunStart) (low : ℕ) (es : List Run) → s.from ≤ FILE_END → t.from ≤ FILE_END → Rise low es → entries_between start_cmp (Included s) (Excluded t) es ≡ runs_within (place_of s) (place_of t) es
between_within s t low [] h k r = refl
between_within s t low (e ∷ es) h k r =
    let rest = between_within s t (start_place e + 1) es h k r.2 in
    let one = starts_le s e.0 h r.0 in
    let two = starts_le t e.0 k r.0 in
    let both : (b c : Bool) → is_le (start_cmp s e.0) ≡ b → is_le (start_cmp t e.0) ≡ c → entries_between start_cmp (Included s) (Excluded t) (e ∷ es) ≡ cond (b && not c) (e ∷ runs_within (place_of s) (place_of t) es) (runs_within (place_of s) (place_of t) es) =
    λ b c p q. ap (λ d. cond (d && not (is_le (start_cmp t e.0))) (e ∷ entries_between start_cmp (Included s) (Excluded t) es) (entries_between start_cmp (Included s) (Excluded t) es)) p
    ∙ ap (λ d. cond (b && not d) (e ∷ entries_between start_cmp (Included s) (Excluded t) es) (entries_between start_cmp (Included s) (Excluded t) es)) q
    ∙ ap (λ (x : List Run). cond (b && not c) (e ∷ x) x) rest in
    ⊎_elim
    (λ l. ⊎_elim
    (λ m. both false false (one ∙ lt-leb (place_of s) (start_place e) m) (two ∙ lt-leb (place_of t) (start_place e) l) ∙ sym (ap (runs_from (place_of s)) (before_yes (place_of t) e es l) ∙ from_no (place_of s) e (runs_before (place_of t) es) m))
    (λ m. both true false (one ∙ le-leb (place_of s) (start_place e) m) (two ∙ lt-leb (place_of t) (start_place e) l) ∙ sym (ap (runs_from (place_of s)) (before_yes (place_of t) e es l) ∙ from_yes (place_of s) e (runs_before (place_of t) es) m))
    (cases_lt (start_place e) (place_of s)))
    (λ g. let last = two ∙ le-leb (place_of t) (start_place e) g in
    ⊎_elim
    (λ m. both false true (one ∙ lt-leb (place_of s) (start_place e) m) last ∙ sym (ap (runs_from (place_of s)) (before_no (place_of t) e es g)))
    (λ m. both true true (one ∙ le-leb (place_of s) (start_place e) m) last ∙ sym (ap (runs_from (place_of s)) (before_no (place_of t) e es g)))
    (cases_lt (start_place e) (place_of s)))
    (cases_lt (start_place e) (place_of t))

pair_of : (e : Run) (s : RunStart) (v : List ℕ) → e.0 ≡ s → e.1 ≡ v → e ≡ (s, v)
pair_of e s v h k = λ i. (h i, k i)

abbrev first_bytes : List Run → Option (List ℕ)
first_bytes [] = None
first_bytes (r ∷ rs) = Some r.1

-- what a map has at a start
module _ (k : RunStart) (file : k.from < FILE_END) where
  at_less : (e : Run) → e.0.from < FILE_END → start_place e < place_of k → start_cmp k e.0 ≡ Greater
  at_less e h l = starts_greater k e.0 (omega arith) h l

  at_more : (e : Run) → e.0.from < FILE_END → place_of k < start_place e → start_cmp k e.0 ≡ Less
  at_more e h l = starts_less k e.0 (omega arith) h l

  -- the runs that begin from there on
  pub present : (low : ℕ) (es : List Run) (v : List ℕ) → Rise low es → lookup (is_at (start_cmp k)) es ≡ Some v → runs_from (place_of k) es ≡ (k, v) ∷ runs_from (place_of k + 1) es
  present low [] v r h = absurd (none-some v h)
  present low (e ∷ es) v r h =
      ⊎_elim
      (λ same.
      let f : Some e.1 ≡ Some v = sym (ap (λ o. cond (is_eq o) (Some e.1) (lookup (is_at (start_cmp k)) es)) (starts_equal k e.0 file r.0 same)) ∙ h in
      from_yes (place_of k) e es (omega arith)
      ∙ ap (λ (x : Run). x ∷ runs_from (place_of k) es) (pair_of e k v (sym (same_start k e.0 file r.0 same)) (same_Some e.1 v f))
      ∙ ap (λ (t : List Run). (k, v) ∷ t) (from_all (place_of k) (start_place e + 1) es (omega arith) r.2 ∙ sym (from_no (place_of k + 1) e es (omega arith) ∙ from_all (place_of k + 1) (start_place e + 1) es (omega arith) r.2)))
      (λ o. ⊎_elim
      (λ more.
      let q = present (start_place e + 1) es v r.2 (sym (ap (λ o. cond (is_eq o) (Some e.1) (lookup (is_at (start_cmp k)) es)) (at_more e r.0 more)) ∙ h) in
      let s : Rise (start_place e + 1) ((k, v) ∷ runs_from (place_of k + 1) es) = subst (Rise (start_place e + 1)) (sym (from_all (place_of k) (start_place e + 1) es (omega arith) r.2) ∙ q) r.2 in
      absurd (let t = s.1 in omega arith))
      (λ less.
      from_no (place_of k) e es less
      ∙ present (start_place e + 1) es v r.2 (sym (ap (λ o. cond (is_eq o) (Some e.1) (lookup (is_at (start_cmp k)) es)) (at_less e r.0 less)) ∙ h)
      ∙ ap (λ (t : List Run). (k, v) ∷ t) (sym (from_no (place_of k + 1) e es (omega arith))))
      o)
      (cases_order (place_of k) (start_place e))

  pub absent : (low : ℕ) (es : List Run) → Rise low es → lookup (is_at (start_cmp k)) es ≡ None → runs_from (place_of k) es ≡ runs_from (place_of k + 1) es
  absent low [] r h = refl
  absent low (e ∷ es) r h =
      ⊎_elim
      (λ same. absurd (none-some e.1 (sym h ∙ ap (λ o. cond (is_eq o) (Some e.1) (lookup (is_at (start_cmp k)) es)) (starts_equal k e.0 file r.0 same))))
      (λ o. ⊎_elim
      (λ more. from_yes (place_of k) e es (omega arith) ∙ ap (λ (t : List Run). e ∷ t) (from_all (place_of k) (start_place e + 1) es (omega arith) r.2)
      ∙ sym (from_yes (place_of k + 1) e es (omega arith) ∙ ap (λ (t : List Run). e ∷ t) (from_all (place_of k + 1) (start_place e + 1) es (omega arith) r.2)))
      (λ less.
      from_no (place_of k) e es less
      ∙ absent (start_place e + 1) es r.2 (sym (ap (λ o. cond (is_eq o) (Some e.1) (lookup (is_at (start_cmp k)) es)) (at_less e r.0 less)) ∙ h)
      ∙ sym (from_no (place_of k + 1) e es (omega arith)))
      o)
      (cases_order (place_of k) (start_place e))

  pub there : (low : ℕ) (es t : List Run) (v : List ℕ) → Rise low es → runs_from (place_of k) es ≡ (k, v) ∷ t → lookup (is_at (start_cmp k)) es ≡ Some v
  there low es t v r h =
      elim (lookup (is_at (start_cmp k)) es) as (λ o. lookup (is_at (start_cmp k)) es ≡ o → o ≡ Some v) [
        | None ↦ λ e. absurd (let q : Rise (place_of k + 1) ((k, v) ∷ t) = subst (Rise (place_of k + 1)) (sym (absent low es r e) ∙ h) (Rise-from (place_of k + 1) low es r) in let z = q.1 in omega arith)
        | Some w ↦ λ e. ap first_bytes (sym (present low es w r e) ∙ h)
      ] refl

  pub removed : (low : ℕ) (es : List Run) → Rise low es → remove_entry (is_at (start_cmp k)) es ≡ runs_before (place_of k) es ++ runs_from (place_of k + 1) es
  removed low [] r = refl
  removed low (e ∷ es) r =
      ⊎_elim
      (λ same.
      ap (λ o. cond (is_eq o) es (e ∷ remove_entry (is_at (start_cmp k)) es)) (starts_equal k e.0 file r.0 same)
      ∙ sym (ap (λ (t : List Run). t ++ runs_from (place_of k + 1) (e ∷ es)) (before_no (place_of k) e es (omega arith) ∙ before_none (place_of k) (start_place e + 1) es (omega arith) r.2)
      ∙ from_no (place_of k + 1) e es (omega arith) ∙ from_all (place_of k + 1) (start_place e + 1) es (omega arith) r.2))
      (λ o. ⊎_elim
      (λ more.
      ap (λ o. cond (is_eq o) es (e ∷ remove_entry (is_at (start_cmp k)) es)) (at_more e r.0 more)
      ∙ ap (λ (t : List Run). e ∷ t) (removed (start_place e + 1) es r.2 ∙ ap (λ (t : List Run). t ++ runs_from (place_of k + 1) es) (before_none (place_of k) (start_place e + 1) es (omega arith) r.2))
      ∙ sym (ap (λ (t : List Run). t ++ runs_from (place_of k + 1) (e ∷ es)) (before_no (place_of k) e es (omega arith) ∙ before_none (place_of k) (start_place e + 1) es (omega arith) r.2)
      ∙ from_yes (place_of k + 1) e es (omega arith)))
      (λ less.
      ap (λ o. cond (is_eq o) es (e ∷ remove_entry (is_at (start_cmp k)) es)) (at_less e r.0 less)
      ∙ ap (λ (t : List Run). e ∷ t) (removed (start_place e + 1) es r.2)
      ∙ sym (ap (λ (t : List Run). t ++ runs_from (place_of k + 1) (e ∷ es)) (before_yes (place_of k) e es less)
      ∙ ap (λ (t : List Run). (e ∷ runs_before (place_of k) es) ++ t) (from_no (place_of k + 1) e es (omega arith))))
      o)
      (cases_order (place_of k) (start_place e))

  pub inserted : (low : ℕ) (es : List Run) (v : List ℕ) → Rise low es → insert_entry start_cmp es k v ≡ runs_before (place_of k) es ++ (k, v) ∷ runs_from (place_of k + 1) es
  inserted low [] v r = refl
  inserted low (e ∷ es) v r =
      ⊎_elim
      (λ same.
      ap (λ o. match_ordering o ((k, v) ∷ e ∷ es) ((e.0, v) ∷ es) (e ∷ insert_entry start_cmp es k v)) (starts_equal k e.0 file r.0 same)
      ∙ ap (λ (s : RunStart). (s, v) ∷ es) (sym (same_start k e.0 file r.0 same))
      ∙ sym (ap (λ (t : List Run). t ++ (k, v) ∷ runs_from (place_of k + 1) (e ∷ es)) (before_no (place_of k) e es (omega arith) ∙ before_none (place_of k) (start_place e + 1) es (omega arith) r.2)
      ∙ ap (λ (t : List Run). (k, v) ∷ t) (from_no (place_of k + 1) e es (omega arith) ∙ from_all (place_of k + 1) (start_place e + 1) es (omega arith) r.2)))
      (λ o. ⊎_elim
      (λ more.
      ap (λ o. match_ordering o ((k, v) ∷ e ∷ es) ((e.0, v) ∷ es) (e ∷ insert_entry start_cmp es k v)) (at_more e r.0 more)
      ∙ sym (ap (λ (t : List Run). t ++ (k, v) ∷ runs_from (place_of k + 1) (e ∷ es)) (before_no (place_of k) e es (omega arith) ∙ before_none (place_of k) (start_place e + 1) es (omega arith) r.2)
      ∙ ap (λ (t : List Run). (k, v) ∷ t) (from_yes (place_of k + 1) e es (omega arith) ∙ ap (λ (t : List Run). e ∷ t) (from_all (place_of k + 1) (start_place e + 1) es (omega arith) r.2))))
      (λ less.
      ap (λ o. match_ordering o ((k, v) ∷ e ∷ es) ((e.0, v) ∷ es) (e ∷ insert_entry start_cmp es k v)) (at_less e r.0 less)
      ∙ ap (λ (t : List Run). e ∷ t) (inserted (start_place e + 1) es v r.2)
      ∙ sym (ap (λ (t : List Run). t ++ (k, v) ∷ runs_from (place_of k + 1) (e ∷ es)) (before_yes (place_of k) e es less)
      ∙ ap (λ (t : List Run). (e ∷ runs_before (place_of k) es) ++ (k, v) ∷ t) (from_no (place_of k + 1) e es (omega arith))))
      o)
      (cases_order (place_of k) (start_place e))

  -- a value that is written over another is as one that is put there
  pub set_is : (low : ℕ) (es : List Run) (v w : List ℕ) → Rise low es → lookup (is_at (start_cmp k)) es ≡ Some v → set_value (is_at (start_cmp k)) es w ≡ insert_entry start_cmp es k w
  set_is low [] v w r h = absurd (none-some v h)
  set_is low (e ∷ es) v w r h =
      ⊎_elim
      (λ same.
      ap (λ o. cond (is_eq o) ((e.0, w) ∷ es) (e ∷ set_value (is_at (start_cmp k)) es w)) (starts_equal k e.0 file r.0 same)
      ∙ sym (ap (λ o. match_ordering o ((k, w) ∷ e ∷ es) ((e.0, w) ∷ es) (e ∷ insert_entry start_cmp es k w)) (starts_equal k e.0 file r.0 same)))
      (λ o. ⊎_elim
      (λ more.
      let q = present low (e ∷ es) v r h in
      let s : Rise (start_place e) ((k, v) ∷ runs_from (place_of k + 1) (e ∷ es)) = subst (Rise (start_place e)) (sym (from_all (place_of k) (start_place e) (e ∷ es) (omega arith) (r.0, omega arith, r.2)) ∙ q) (r.0, omega arith, r.2) in
      absurd (let t = s.1 in omega arith))
      (λ less.
      ap (λ o. cond (is_eq o) ((e.0, w) ∷ es) (e ∷ set_value (is_at (start_cmp k)) es w)) (at_less e r.0 less)
      ∙ ap (λ (t : List Run). e ∷ t) (set_is (start_place e + 1) es v w r.2 (sym (ap (λ o. cond (is_eq o) (Some e.1) (lookup (is_at (start_cmp k)) es)) (at_less e r.0 less)) ∙ h))
      ∙ sym (ap (λ o. match_ordering o ((k, w) ∷ e ∷ es) ((e.0, w) ∷ es) (e ∷ insert_entry start_cmp es k w)) (at_less e r.0 less)))
      o)
      (cases_order (place_of k) (start_place e))

-- a place that is made where there is no run, and one that is given up
module _ (k : RunStart) (file : k.from < FILE_END) (es : List Run) (r : Rise 0 es) where
  pub one_rises : (v : List ℕ) → Rise 0 ((k, v) ∷ [])
  one_rises v = (file, omega arith, tt)

  pub put_back : (v : List ℕ) → bytes_at k es ≡ Some v → with_runs ((k, v) ∷ []) (place_of k + 1) es ≡ es
  put_back v h = ap (λ (t : List Run). runs_before (place_of k) es ++ t) (sym (present k file 0 es v r h)) ∙ whole (place_of k) 0 es r

  pub swapped : (v w : List ℕ) → bytes_at k es ≡ Some v → set_value (is_at (start_cmp k)) es w ≡ with_runs ((k, w) ∷ []) (place_of k + 1) es
  swapped v w h = set_is k file 0 es v w r h ∙ inserted k file 0 es w r

  pub put_there : (v : List ℕ) (high : ℕ) → place_of k < high → bytes_at k (with_runs ((k, v) ∷ []) high es) ≡ Some v
  put_there v high h =
      there k file 0 (with_runs ((k, v) ∷ []) high es) (runs_from high es) v (with_rise ((k, v) ∷ []) high 0 es (one_rises v) (h, tt) r) (with_here ((k, v) ∷ []) high 0 es (one_rises v) (h, tt) r)

  pub unmade : bytes_at k es ≡ None → es ≡ without_run k (with_runs ((k, []) ∷ []) (place_of k + 1) es)
  unmade h =
      let up : place_of k < place_of k + 1 = omega arith in
      sym (ap (λ (t : List Run). t ++ runs_from (place_of k + 1) (with_runs ((k, []) ∷ []) (place_of k + 1) es)) (with_before ((k, []) ∷ []) (place_of k + 1) 0 es (one_rises []) (up, tt) r (place_of k) (omega arith))
      ∙ ap (λ (t : List Run). runs_before (place_of k) es ++ t) (with_from ((k, []) ∷ []) (place_of k + 1) 0 es (one_rises []) (up, tt) r (place_of k + 1) (omega arith) ∙ sym (absent k file 0 es r h))
      ∙ whole (place_of k) 0 es r)

  -- the run at a start is left where those behind it are taken out
  pub left_there : (v : List ℕ) (high : ℕ) → place_of k < high → bytes_at k es ≡ Some v → bytes_at k (runs_before (place_of k + 1) es ++ runs_from high es) ≡ Some v
  left_there v high h e =
      let one : runs_from (place_of k) (runs_before (place_of k + 1) es) ≡ (k, v) ∷ [] =
      within_is (place_of k) (place_of k + 1) es ∙ ap (runs_before (place_of k + 1)) (present k file 0 es v r e)
      ∙ before_yes (place_of k + 1) (k, v) (runs_from (place_of k + 1) es) (omega arith)
      ∙ ap (λ (t : List Run). (k, v) ∷ t) (before_none (place_of k + 1) (place_of k + 1) (runs_from (place_of k + 1) es) (omega arith) (Rise-from (place_of k + 1) 0 es r)) in
      there k file 0 (runs_before (place_of k + 1) es ++ runs_from high es) (runs_from high es) v (cut_rise (place_of k + 1) high 0 es (omega arith) r)
      (filter-append (λ x. leb (place_of k) (start_place x)) (runs_before (place_of k + 1) es) (runs_from high es)
      ∙ ap (λ (t : List Run). t ++ runs_from (place_of k) (runs_from high es)) one
      ∙ ap (λ (t : List Run). (k, v) ∷ t) (from_all (place_of k) high (runs_from high es) (omega arith) (Rise-from high 0 es r)))

  pub settled : (v : List ℕ) (high : ℕ) → place_of k < high → with_runs ((k, v) ∷ []) (place_of k + 1) (runs_before (place_of k + 1) es ++ runs_from high es) ≡ with_runs ((k, v) ∷ []) high es
  settled v high h =
      ap (λ (t : List Run). t ++ ((k, v) ∷ runs_from (place_of k + 1) (runs_before (place_of k + 1) es ++ runs_from high es))) (cut_before (place_of k + 1) high 0 es (omega arith) r (place_of k) (omega arith))
      ∙ ap (λ (t : List Run). runs_before (place_of k) es ++ ((k, v) ∷ t)) (cut_rest (place_of k + 1) high 0 es (omega arith) r (place_of k + 1) (omega arith) (omega arith))

  -- other bytes in a run change no run behind it
  pub swap_rises : (w : List ℕ) → Rise 0 (with_runs ((k, w) ∷ []) (place_of k + 1) es)
  swap_rises w = with_rise ((k, w) ∷ []) (place_of k + 1) 0 es (one_rises w) (omega arith, tt) r

  pub swap_over : (w v : List ℕ) (high : ℕ) → place_of k < high → with_runs ((k, v) ∷ []) high (with_runs ((k, w) ∷ []) (place_of k + 1) es) ≡ with_runs ((k, v) ∷ []) high es
  swap_over w v high h = with_with ((k, v) ∷ []) ((k, w) ∷ []) high (place_of k + 1) 0 es (one_rises w) (omega arith, tt) r (omega arith) (omega arith)

-- the runs within two places, by the run at the first
pub within_cons : (k : RunStart) (high : ℕ) (es : List Run) (v : List ℕ) → k.from < FILE_END → place_of k < high → Rise 0 es → bytes_at k es ≡ Some v → runs_within (place_of k) high es ≡ (k, v) ∷ runs_within (place_of k + 1) high es
within_cons k high es v file h r e =
    within_is (place_of k) high es
    ∙ ap (runs_before high) (present k file 0 es v r e)
    ∙ before_yes high (k, v) (runs_from (place_of k + 1) es) h
    ∙ ap (λ (t : List Run). (k, v) ∷ t) (sym (within_is (place_of k + 1) high es))

-- other bytes in a run change none before it
pub kept_there : (k s : RunStart) (es : List Run) (v w : List ℕ) → k.from < FILE_END → s.from < FILE_END → place_of k < place_of s → Rise 0 es → bytes_at k es ≡ Some v → bytes_at k (with_runs ((s, w) ∷ []) (place_of s + 1) es) ≡ Some v
kept_there k s es v w f g h r e =
    there k f 0 (with_runs ((s, w) ∷ []) (place_of s + 1) es)
    (runs_within (place_of k + 1) (place_of s) es ++ runs_from (place_of k) ((s, w) ∷ runs_from (place_of s + 1) es)) v
    (swap_rises s g es r w)
    (filter-append (λ x. leb (place_of k) (start_place x)) (runs_before (place_of s) es) ((s, w) ∷ runs_from (place_of s + 1) es)
    ∙ ap (λ (t : List Run). t ++ runs_from (place_of k) ((s, w) ∷ runs_from (place_of s + 1) es)) (within_cons k (place_of s) es v f h r e))

-- a run that is given back to the place that it was taken out of
pub given_back_is : (is_new : Bool) (k : RunStart) (old made mid : List Run) (v w : List ℕ) → k.from < FILE_END → Rise 0 made → bytes_at k made ≡ Some v → mid ≡ with_runs ((k, w) ∷ []) (place_of k + 1) made
    → old ≡ (if is_new then without_run k made else made) → given_back k is_new v mid ≡ old
given_back_is true k old made mid v w f r e m h =
    ap (without_run k) m
    ∙ ap (λ (t : List Run). t ++ runs_from (place_of k + 1) (with_runs ((k, w) ∷ []) (place_of k + 1) made)) (with_before ((k, w) ∷ []) (place_of k + 1) 0 made (one_rises k f made r w) (omega arith, tt) r (place_of k) (omega arith))
    ∙ ap (λ (t : List Run). runs_before (place_of k) made ++ t) (with_from ((k, w) ∷ []) (place_of k + 1) 0 made (one_rises k f made r w) (omega arith, tt) r (place_of k + 1) (omega arith))
    ∙ sym h
given_back_is false k old made mid v w f r e m h =
    ap (with_runs ((k, v) ∷ []) (place_of k + 1)) m
    ∙ swap_over k f made r w v (place_of k + 1) (omega arith)
    ∙ put_back k f made r v e
    ∙ sym h

-- a run before a place stays where those before it do
pub there_before : (k : RunStart) (high : ℕ) (es fs : List Run) (v : List ℕ) → k.from < FILE_END → place_of k < high → Rise 0 es → Rise 0 fs → runs_before high fs ≡ runs_before high es → bytes_at k es ≡ Some v → bytes_at k fs ≡ Some v
there_before k high es fs v f h r q same e =
    there k f 0 fs (runs_within (place_of k + 1) high es ++ runs_from (place_of k) (runs_from high fs)) v q
    (ap (runs_from (place_of k)) (sym (whole high 0 fs q))
    ∙ filter-append (λ x. leb (place_of k) (start_place x)) (runs_before high fs) (runs_from high fs)
    ∙ ap (λ (t : List Run). runs_from (place_of k) t ++ runs_from (place_of k) (runs_from high fs)) same
    ∙ ap (λ (t : List Run). t ++ runs_from (place_of k) (runs_from high fs)) (within_cons k high es v f h r e))
