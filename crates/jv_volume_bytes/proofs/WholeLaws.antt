-- What a transaction on lists has to say of its rows so that slices and files stay whole: facts on lists, places and single rows.
use Rattle.std.proofs.Common.{◌≡◌, ◌≢◌, ℕ, ◌+◌, ◌<◌, ◌≤◌, ◌⊎◌, inl, inr, List, [], ◌∷◌, Option, None, Some, refl, sym, ap, subst, ◌∙◌, arith}
use Rattle.std.specs.List.{AllByRecursion}
use Rattle.std.proofs.lemmas.Bool.{cases_eq}
use Rattle.std.proofs.lemmas.Option.{same_Some}
use Rattle.jv_model.specs.declared.tables.TheConstants.{TABLE_OF_LISTS}
use Rattle.jv_model.specs.declared.limits.TheConstants.{FILE_END, FULL_COUNT, WINDOW}
use Rattle.jv_model.specs.declared.row.RowKey.{RowKey}
use Rattle.jv_model.specs.declared.row.Node.{Node as NodeRow}
use Rattle.jv_model.specs.declared.row.SliceRow.{SliceRow}
use Rattle.jv_model.specs.declared.row.Dead.{Dead}
use Rattle.jv_model.specs.declared.slice.Rec.{Rec}
use Rattle.jv_model.specs.declared.slice.Spot.TheVariants.{Zero}
use Rattle.jv_model.specs.promise.FiniteMap.{get}
use Rattle.jv_model.specs.promise.blocks.Slices.{IsRecord}
use Rattle.jv_volume.specs.promise.TypedRows.{Rows}
use Rattle.jv_volume.specs.promise.Views.{lists_of, node_row_at, slice_row_at, dropped_at, dead_at}
use Rattle.jv_volume.specs.promise.TreeOf.{counters_of_rows}
use Rattle.jv_volume.specs.promise.Slices.{listed, named_by, count_in, slice_count, ListsHave, IsUnknown, next_slice, WholeSlices, place_in, HasLists, OfFile, OfDropped, WholeFiles}
use Rattle.jv_volume_bytes.specs.Counts.{HadSize, HasDied, KeepsOthers}
use Rattle.jv_volume_bytes.specs.promise.Counts.{record_count}

-- what all records of a list have, if they had another thing
pub all-mapped : (P Q : Rec → Type 0) → ((r : Rec) → P r → Q r) → (l : List Rec) → AllByRecursion P l → AllByRecursion Q l
all-mapped P Q gives [] all = tt
all-mapped P Q gives (r ∷ rs) (first, rest) = (gives r first, all-mapped P Q gives rs rest)

-- ---- slices

-- What a transaction does that makes no slice: each record names a slice that had a row of its size, no slice gets a row, counts are
-- exact, and a slice that loses its row is dead.
pub record SlicesGo (more : ℕ) (rows after : Rows) : Type 0 where
  pub next : next_slice after ≡ next_slice rows
  pub records : ListsHave IsRecord after
  pub names : ListsHave (λ r. r.id ≢ 0 → HadSize rows r.id r.size) after
  pub had : (id : ℕ) (slice : SliceRow) → slice_row_at after id ≡ Some slice → HadSize rows id slice.size
  pub exact : (id : ℕ) → 0 < id → slice_count after id ≡ named_by after id
  pub dies : (id : ℕ) (slice : SliceRow) → slice_row_at rows id ≡ Some slice → slice_row_at after id ≡ None → HasDied after id slice.size
  pub stays : (id : ℕ) (dead : Dead) → 0 < id → dead_at rows id ≡ Some dead → dead_at after id ≡ Some dead
  pub died : (id : ℕ) (dead : Dead) → dead_at after id ≡ Some dead
      → (dead_at rows id ≡ Some dead) ⊎ (HadSize rows id dead.size × (slice_row_at after id ≡ None))
  pub count : record_count after ≤ record_count rows + more

module _ (more : ℕ) (rows after : Rows) (go : SlicesGo more rows after) where
  no_row_stays : (id : ℕ) → slice_row_at rows id ≡ None → slice_row_at after id ≡ None
  no_row_stays id none = by_row (slice_row_at after id) refl
    where
      by_row : (o : Option SliceRow) → slice_row_at after id ≡ o → slice_row_at after id ≡ None
      by_row None e = e
      by_row (Some slice) e = (let had = go.had id slice e in let is = had.is in absurd (cc))

  -- an unknown slice stays unknown
  pub unknown-go : (id : ℕ) → 0 < id → IsUnknown rows id → IsUnknown after id
  unknown-go id some u = record {
    unnamed = sym (go.exact id some) ∙ ap count_in (no_row_stays id u.no_row);
    no_row = no_row_stays id u.no_row;
    not_dead = by_dead (dead_at after id) refl;
  }
    where
      by_dead : (o : Option Dead) → dead_at after id ≡ o → dead_at after id ≡ None
      by_dead None e = e
      by_dead (Some dead) e = elim (go.died id dead e) [
        | inl was ↦ (let none = u.not_dead in absurd (cc))
        | inr had ↦ (let is = had.0.is in let none = u.no_row in absurd (cc))
      ]

  pub keeps-go : KeepsOthers 0 more rows after
  keeps-go = record {
    next = go.next;
    unknown = λ id some apart u. unknown-go id some u;
    had = λ id slice named there. go.had id slice there;
    dies = λ id slice some there none. go.dies id slice there none;
    dead = go.stays;
    records = go.count;
  }

  module _ (w : WholeSlices rows) (given : 0 < next_slice rows) where
    pub slices-go : WholeSlices after
    slices-go = record {
      sizes = w.sizes;
      records = go.records;
      sized = λ key. all-mapped (λ r. r.id ≢ 0 → HadSize rows r.id r.size) (λ r. r.id ≢ 0 → r.size ≡ w.sizes r.id)
          (λ r had named. (size_of r.id r.size (had named)).0) (listed key (get after key)) (go.names key);
      slice_size = λ id slice there. size_of id slice.size (go.had id slice there);
      exact = go.exact;
      dead_size = λ id dead some there. elim (go.died id dead there) [
        | inl was ↦ w.dead_size id dead some was
        | inr had ↦ (let size = size_of id dead.size had.0 in (size.1, size.2))
      ];
      apart = λ id some there. by_dead id some (dead_at after id) refl there;
      below = λ id high. (let fresh : next_slice rows ≤ id = subst (λ n. n ≤ id) go.next high in unknown-go id (omega (arith, given, fresh)) (w.below id fresh));
      none = no_row_stays 0 w.none;
      slices_end = subst (λ n. n ≤ FULL_COUNT) (sym go.next) w.slices_end;
    }
      where
        size_of : (id size : ℕ) → HadSize rows id size → (size ≡ w.sizes id) × (1 ≤ size) × (size ≤ WINDOW)
        size_of id size had = subst (λ n. (n ≡ w.sizes id) × (1 ≤ n) × (n ≤ WINDOW)) had.size_is (w.slice_size id had.slice had.is)

        by_dead : (id : ℕ) → 0 < id → (o : Option Dead) → dead_at after id ≡ o → dead_at after id ≢ None → slice_row_at after id ≡ None
        by_dead id some None e there = absurd (there e)
        by_dead id some (Some dead) e there = elim (go.died id dead e) [
          | inl was ↦ no_row_stays id (w.apart id some (λ none. absurd (cc)))
          | inr had ↦ had.1
        ]

-- ---- files

-- What a transaction does that changes one file's lists and length alone, as far as files see it.
pub record FileGoes (inode : ℕ) (rows after : Rows) : Type 0 where
  pub was : NodeRow
  pub before : node_row_at rows inode ≡ Some was
  pub file : was.kind ≡ 1
  pub node : NodeRow
  pub is : node_row_at after inode ≡ Some node
  pub stays : node.kind ≡ 1
  pub small : node.length ≤ FILE_END
  pub own : (p : ℕ) → node.length ≤ p → place_in (lists_of after inode) p ≡ Zero
  pub others : (i : ℕ) → i ≢ inode → node_row_at after i ≡ node_row_at rows i
  pub places : (i : ℕ) → i ≢ inode → (p : ℕ) → place_in (lists_of after i) p ≡ place_in (lists_of rows i) p
  pub lists : (key : RowKey) → key.tab ≡ TABLE_OF_LISTS → get after key ≢ None → (get rows key ≢ None) ⊎ (key.a ≡ inode)
  pub dropped : (i : ℕ) → dropped_at after i ≡ dropped_at rows i
  pub next : (counters_of_rows after).inode ≡ (counters_of_rows rows).inode

pub files-go : (inode : ℕ) (rows after : Rows) → FileGoes inode rows after → WholeFiles rows → WholeFiles after
files-go inode rows after go w = record {
  small = λ i n there kind. elim (cases_eq i inode) [
    | inl same ↦ subst (λ (m : NodeRow). m.length ≤ FILE_END) (is_own i n same there) go.small
    | inr apart ↦ w.small i n (sym (go.others i apart) ∙ there) kind
  ];
  past = λ i n there kind p high. elim (cases_eq i inode) [
    | inl same ↦ ap (λ j. place_in (lists_of after j) p) same ∙ go.own p (subst (λ (m : NodeRow). m.length ≤ p) (sym (is_own i n same there)) high)
    | inr apart ↦ go.places i apart p ∙ w.past i n (sym (go.others i apart) ∙ there) kind p high
  ];
  owned = λ key tab there. elim (go.lists key tab there) [
    | inl was ↦ kept key.a (w.owned key tab was)
    | inr same ↦ subst (HasLists after) (sym same) (OfFile go.node go.is go.stays)
  ];
  gone = λ i there.
      (let old = w.gone i (λ none. there (go.dropped i ∙ none)) in
      (go.others i (λ same. absurd (is_gone i same old.0)) ∙ old.0, subst (λ n. i < n) (sym go.next) old.1));
}
  where
    is_own : (i : ℕ) (n : NodeRow) → i ≡ inode → node_row_at after i ≡ Some n → go.node ≡ n
    is_own i n same there = same_Some go.node n (sym go.is ∙ ap (node_row_at after) (sym same) ∙ there)

    is_gone : (i : ℕ) → i ≡ inode → node_row_at rows i ≡ None → ⊥
    is_gone i same none = (let is = go.before in let there = ap (node_row_at rows) same in absurd (cc))

    kept : (i : ℕ) → HasLists rows i → HasLists after i
    kept i (OfFile n there kind) = elim (cases_eq i inode) [
      | inl same ↦ subst (HasLists after) (sym same) (OfFile go.node go.is go.stays)
      | inr apart ↦ OfFile n (go.others i apart ∙ there) kind
    ]
    kept i (OfDropped there) = OfDropped (λ none. there (sym (go.dropped i) ∙ none))
