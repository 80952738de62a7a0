-- Rows of one owner in the order of their numbers, as a file's lists go by windows: the first row
-- behind a number is the next one's.
use Rattle.std.proofs.Common.{◌≡◌, ◌≢◌, ℕ, ◌<◌, ◌≤◌, Bool, true, false, ◌⊎◌, List, [], length, inl, inr, Option, None, Some, Ok, refl, sym, ap, subst, ◌∙◌, arith, eq-eqb, eqb-true}
use Rattle.std.specs.Prelude.{◌==◌, ◌&&◌, if◌then◌else◌, IfSome, ok_or}
use Rattle.std.specs.Option.{option_map}
use Rattle.std.specs.declared.cmp.Ordering.TheVariants.{Less}
use Rattle.std.specs.Ordering.{is_lt, nat_cmp, ordering_then}
use Rattle.std.specs.Cmp.{nat_cmp_total, tied_itself}
use Rattle.std.specs.Cmp.Lexicographic.{slice_cmp}
use Rattle.std.proofs.lemmas.Bool.{cases_order, ltb-true, lt-ltb}
use Rattle.jv_model.specs.declared.row.Row.{Row}
use Rattle.jv_model.specs.declared.row.RowKey.{RowKey}
use Rattle.jv_model.specs.promise.FiniteMap.{get}
use Rattle.jv_model.proofs.FiniteMapLaws.{first_where-found}
use Rattle.jv_model.proofs.TestLaws.{none_unless, of_known}
use Rattle.jv_model.specs.promise.rows.RowGrammar.{row_of}
use Rattle.jv_model.specs.promise.rows.RowKeys.{RowMap, row_key, row_cmp}
use Rattle.jv_outside.specs.promise.Store.{Store}
use Rattle.jv_volume.specs.promise.TypedRows.{cell_of, typed}
use Rattle.jv_volume.proofs.shapes.ShapeMapLaws.{first_where-none}
use Rattle.jv_volume.proofs.maps.TableLaws.{same_key_parts}
use Rattle.jv_volume.proofs.maps.TypedLaws.{get-typed}
use Rattle.jv_rows.specs.Lists.{is_past, is_ahead, if_past}
use Rattle.jv_rows.specs.Scans.{ScansRows}
use Rattle.jv_rows.proofs.scans.NextRowLaws.{not_behind, first_behind, first_where-least, passes, IsRead, ReadsOne, NoRow, OneRow, reads-one, tab_of}
use Rattle.jv_rows.proofs.scans.ScannedLaws.{number-rises}

-- How the keys of a table spell numbers: in bytes that rise with the numbers.
pub record NumberedTable : Type 0 where
  pub tab : ℕ
  pub width : ℕ
  pub limit : ℕ
  pub bytes_of : ℕ → List ℕ
  pub number_of : List ℕ → ℕ
  pub some_bytes : (n : ℕ) → slice_cmp nat_cmp [] (bytes_of n) ≡ Less
  pub bytes_rise : (a b : ℕ) → a < b → b < limit → slice_cmp nat_cmp (bytes_of a) (bytes_of b) ≡ Less
  pub below_limit : (n : ℕ) → number_of (bytes_of n) < limit

module _ (table : NumberedTable) where
  -- the number that bytes spell
  abbrev pub number_in : List ℕ → Option ℕ
  number_in bytes = (if length bytes == table.width then Some (table.number_of bytes) else None)

  -- a key's bytes are those of the number that they spell
  abbrev pub IsSpelledKey : RowKey → Type 0
  IsSpelledKey key = IfSome (number_in key.b) (λ n. key.b ≡ table.bytes_of n)

-- keys of one owner go as their bytes do
same_owner : (tab owner : ℕ) (xs ys : List ℕ) → slice_cmp nat_cmp xs ys ≡ Less
    → row_cmp (record { tab = tab; a = owner; b = xs }) (record { tab = tab; a = owner; b = ys }) ≡ Less
same_owner tab owner xs ys less =
    ap (λ o. ordering_then o (ordering_then (nat_cmp owner owner) (slice_cmp nat_cmp xs ys))) (tied_itself nat_cmp_total tab)
    ∙ ap (λ o. ordering_then o (slice_cmp nat_cmp xs ys)) (tied_itself nat_cmp_total owner) ∙ less

module _ (table : NumberedTable) (owner : ℕ) where
  abbrev pub key_at : ℕ → RowKey
  key_at n = record { tab = table.tab; a = owner; b = table.bytes_of n }

  -- the key of a number, or one below those of all the owner's
  abbrev pub key_behind : Option ℕ → RowKey
  key_behind None = record { tab = table.tab; a = owner; b = [] }
  key_behind (Some n) = key_at n

  -- ---- keys in their order

  key-less : (a b : ℕ) → a < b → b < table.limit → row_cmp (key_at a) (key_at b) ≡ Less
  key-less a b less small = same_owner table.tab owner (table.bytes_of a) (table.bytes_of b) (table.bytes_rise a b less small)

  key-past : (last : Option ℕ) (n : ℕ) → n < table.limit → is_past last n ≡ true → row_cmp (key_behind last) (key_at n) ≡ Less
  key-past None n small past = same_owner table.tab owner [] (table.bytes_of n) (table.some_bytes n)
  key-past (Some last) n small past = key-less last n (ltb-true last n past) small

  -- a number is past one whose key comes earlier
  number-past : (last : Option ℕ) (n j : ℕ) → j < table.limit → is_past last j ≡ true → row_cmp (key_behind last) (key_at n) ≡ Less → is_past last n ≡ true
  number-past None n j small past less = refl
  number-past (Some a) n j small past less = elim (cases_order a n) [
    | inl same ↦ absurd (not_behind (key_at a) (key_at n) less (inl (ap key_at same)))
    | inr other ↦ elim other [
      | inl lower ↦ lt-ltb a n lower
      | inr more ↦ absurd (not_behind (key_at a) (key_at n) less (inr (key-less n a more (let up : a < j = ltb-true a j past in omega (arith, up, small)))))
    ]
  ]

  behind_place : (last : Option ℕ) → ((key_behind last).tab ≡ table.tab) × ((key_behind last).a ≡ owner)
  behind_place None = (refl, refl)
  behind_place (Some n) = (refl, refl)

  -- ---- the number of a key

  module _ (last : Option ℕ) where
    -- the number of a key, if it is the owner's and comes after the last
    abbrev pub number_at : RowKey → Option ℕ
    number_at key = (if key.a == owner then if_past last (number_in table key.b) else None)

    -- an owner's key has a number that comes after the last
    pub record HasNumber (key : RowKey) (n : ℕ) : Type 0 where
      pub owner_is : key.a ≡ owner
      pub bytes_are : key.b ≡ table.bytes_of n
      pub small : n < table.limit
      pub past : is_past last n ≡ true

    pub has_number : (key : RowKey) → IsSpelledKey table key → IfSome (number_at key) (HasNumber key)
    has_number key spelled = by_owner (key.a == owner) refl
      where
        by_past : key.a ≡ owner → key.b ≡ table.bytes_of (table.number_of key.b) → (b : Bool) → is_past last (table.number_of key.b) ≡ b
            → IfSome (if b then Some (table.number_of key.b) else None) (HasNumber key)
        by_past owner_is bytes_are true past = record {
          owner_is = owner_is;
          bytes_are = bytes_are;
          small = subst (λ bytes. table.number_of bytes < table.limit) (sym bytes_are) (table.below_limit (table.number_of key.b));
          past = past;
        }
        by_past owner_is bytes_are false past = tt

        by_width : key.a ≡ owner → (b : Bool) → IfSome (if b then Some (table.number_of key.b) else None) (λ n. key.b ≡ table.bytes_of n)
            → IfSome (if_past last (if b then Some (table.number_of key.b) else None)) (HasNumber key)
        by_width owner_is true bytes_are = by_past owner_is bytes_are (is_past last (table.number_of key.b)) refl
        by_width owner_is false bytes_are = tt

        by_owner : (b : Bool) → (key.a == owner) ≡ b → IfSome (if b then if_past last (number_in table key.b) else None) (HasNumber key)
        by_owner true same = by_width (eqb-true key.a owner same) (length key.b == table.width) spelled
        by_owner false same = tt

-- ---- the row that was read

module _ (table : NumberedTable) (owner : ℕ) (last : Option ℕ) (known : RowMap) (list : List (RowKey × Row)) where
  abbrev behind : RowKey
  behind = key_behind table owner last

  abbrev at : ℕ → RowKey
  at n = key_at table owner n

  module _ (e : RowKey × List ℕ) (r : IsRead table.tab behind known list e) where
    pub read_place : (e.0.tab ≡ table.tab) × (row_cmp behind e.0 ≡ Less)
    read_place = tab_of table.tab behind e.0 e.1 (first_where-found row_key (passes table.tab behind) known e r.first).passes

    pub read_row : row_of table.tab e.1 ≡ Some r.row
    read_row = ap (λ (t : ℕ). row_of t e.1) (sym read_place.0) ∙ r.read

    pub read_cell : get (typed known) e.0 ≡ Some (Ok r.row)
    read_cell = get-typed known e.0 ∙ ap (option_map (cell_of e.0)) (first_where-found row_key (passes table.tab behind) known e r.first).there
        ∙ ap (λ o. Some (ok_or o e.1)) r.read

    read_key : (n : ℕ) → e.0.a ≡ owner → e.0.b ≡ table.bytes_of n → at n ≡ e.0
    read_key n number bytes = same_key_parts e.0 table.tab owner (table.bytes_of n) (sym read_place.0) (sym number) (sym bytes)

    pub read_there : (n : ℕ) → HasNumber table owner last e.0 n → get (typed known) (at n) ≡ Some (Ok r.row)
    read_there n has = ap (get (typed known)) (read_key n has.owner_is has.bytes_are) ∙ read_cell

    -- the key of a number between is neither its key nor behind it
    module _ (wide : length e.0.b ≡ table.width) (spelled : IsSpelledKey table e.0) (j : ℕ) (small : j < table.limit) (past : is_past last j ≡ true)
        (ahead : is_ahead (number_at table owner last e.0) j ≡ true) (least : (at j ≡ e.0) ⊎ (row_cmp e.0 (at j) ≡ Less)) where
      abbrev n : ℕ
      n = table.number_of e.0.b

      owner_below : e.0.a ≤ owner
      owner_below = elim least [
        | inl same ↦ (let e_is : e.0.a ≡ owner = ap (λ (k : RowKey). k.a) (sym same) in omega (arith, e_is))
        | inr less ↦ number-rises e.0 (at j) read_place.0 less
      ]

      owner_is : e.0.a ≡ owner
      owner_is =
          let up = number-rises behind e.0 ((behind_place table owner last).0 ∙ sym read_place.0) read_place.1 in
          let from = (behind_place table owner last).1 in
          let down = owner_below in
          omega (arith, up, from, down)

      spells : number_in table e.0.b ≡ Some n
      spells = ap (λ b. if b then Some n else None) (eq-eqb (length e.0.b) table.width wide)

      e_is : at n ≡ e.0
      e_is = read_key n owner_is (of_known (λ m. e.0.b ≡ table.bytes_of m) (number_in table e.0.b) n spells spelled)

      number_is : number_at table owner last e.0 ≡ Some n
      number_is = ap (λ b. if b then if_past last (number_in table e.0.b) else None) (eq-eqb e.0.a owner owner_is) ∙ ap (if_past last) spells
          ∙ ap (λ b. if b then Some n else None) (number-past table owner last n j small past (subst (λ k. row_cmp behind k ≡ Less) (sym e_is) read_place.1))

      not_between : ⊥
      not_between =
          let has = of_known (HasNumber table owner last e.0) (number_at table owner last e.0) n number_is (has_number table owner last e.0 spelled) in
          let before : j < n = ltb-true j n (sym (ap (λ o. is_ahead o j) number_is) ∙ ahead) in
          not_behind (at j) e.0 (subst (λ k. row_cmp (at j) k ≡ Less) e_is (key-less table owner j n before has.small)) least

  -- ---- what the scan found

  -- where the row that was read has the number that was found, no number between has a row
  module _ (before now : Store) (s : ScansRows table.tab (Some behind) 1 before now (Ok list)) (is : before.rows ≡ Some known) (found : Option ℕ)
      (found_is : (e : RowKey × List ℕ) → IsRead table.tab behind known list e
      → (length e.0.b ≡ table.width) × IsSpelledKey table e.0 × (found ≡ number_at table owner last e.0))
      (j : ℕ) (small : j < table.limit) (past : is_past last j ≡ true) (ahead : is_ahead found j ≡ true) where
    passes_here : (y : List ℕ) → passes table.tab behind (at j) y ≡ true
    passes_here y = ap (λ b. b && is_lt (row_cmp behind (at j))) (eq-eqb table.tab table.tab refl) ∙ ap is_lt (key-past table owner last j small past)

    none_by : (y : List ℕ) → get known (at j) ≡ Some y → ReadsOne table.tab behind known list → ⊥
    none_by y stored (NoRow first none) = first_where-none row_key (passes table.tab behind) known (at j) y first stored (passes_here y)
    none_by y stored (OneRow e r) =
        let of = found_is e r in
        not_between e r of.0 of.1 j small past (ap (λ o. is_ahead o j) (sym of.2) ∙ ahead)
        (first_where-least row_key (passes table.tab behind) known e (at j) y r.first stored (passes_here y))

    pub none_between : get (typed known) (at j) ≡ None
    none_between = get-typed known (at j) ∙ ap (option_map (cell_of (at j)))
        (none_unless (get known (at j)) (λ y stored. none_by y stored (reads-one table.tab behind known list before now s is)))

-- ---- another owner's row is the first

-- where the first row behind a number is another owner's, no number behind has a row
module _ (table : NumberedTable) (owner : ℕ) (last : Option ℕ) (known : RowMap) (e : RowKey × List ℕ)
    (first : first_behind table.tab (key_behind table owner last) known ≡ Some e) (other : e.0.a ≢ owner) where
  abbrev start : RowKey
  start = key_behind table owner last

  first_place : (e.0.tab ≡ table.tab) × (row_cmp start e.0 ≡ Less)
  first_place = tab_of table.tab start e.0 e.1 (first_where-found row_key (passes table.tab start) known e first).passes

  module _ (j : ℕ) (small : j < table.limit) (past : is_past last j ≡ true) where
    passes_at : (y : List ℕ) → passes table.tab start (key_at table owner j) y ≡ true
    passes_at y = ap (λ b. b && is_lt (row_cmp start (key_at table owner j))) (eq-eqb table.tab table.tab refl) ∙ ap is_lt (key-past table owner last j small past)

    not_first : (key_at table owner j ≡ e.0) ⊎ (row_cmp e.0 (key_at table owner j) ≡ Less) → ⊥
    not_first (inl same) = other (ap (λ (k : RowKey). k.a) (sym same))
    not_first (inr less) =
        let down = number-rises e.0 (key_at table owner j) first_place.0 less in
        let up = number-rises start e.0 ((behind_place table owner last).0 ∙ sym first_place.0) first_place.1 in
        let from = (behind_place table owner last).1 in
        other (omega (arith, down, up, from))

    pub none_behind : get (typed known) (key_at table owner j) ≡ None
    none_behind = get-typed known (key_at table owner j) ∙ ap (option_map (cell_of (key_at table owner j)))
        (none_unless (get known (key_at table owner j)) (λ y stored. not_first
        (first_where-least row_key (passes table.tab start) known e (key_at table owner j) y first stored (passes_at y))))
