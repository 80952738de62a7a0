-- What a drafted change keeps, how a small change ends at each of its exits, and what it reads over drafted changes.
use Rattle.std.proofs.Common.{◌≡◌, ◌≢◌, ◌⊎◌, ℕ, false, ◌||◌, List, Option, None, Some, Result, Ok, Err, refl, sym, ap, subst, ◌∙◌, true≢false, inl, inr}
use Rattle.std.specs.Prelude.{Bool, OnOk, is_some, IsTrue}
use Rattle.jv_model.specs.declared.fault.Fault.{Fault}
use Rattle.jv_model.specs.declared.fault.RowFault.{RowFault}
use Rattle.jv_model.specs.declared.fault.RowFault.TheVariants.{Bad, Failed, Memory}
use Rattle.jv_model.specs.declared.fault.TxFault.{TxFault}
use Rattle.jv_model.specs.declared.fault.TxFault.TheVariants.{Refused, Moved, Rows as OfRows}
use Rattle.jv_model.specs.declared.limits.TheConstants.{ROOT, TRASH_ROOT}
use Rattle.jv_model.specs.declared.row.Row.{Row}
use Rattle.jv_model.specs.declared.row.RowKey.{RowKey}
use Rattle.jv_model.specs.promise.FiniteMap.{get}
use Rattle.jv_model.specs.FiniteMap.{alter}
use Rattle.jv_model.specs.promise.rows.RowKeys.{RowMap, row_key, is_key_of}
use Rattle.jv_model.specs.promise.rows.RowPlaces.{node_key}
use Rattle.jv_model.specs.promise.tree.Tree.{Tree}
use Rattle.jv_outside.specs.declared.batch.Change.{Change}
use Rattle.jv_outside.specs.promise.Store.{Store}
use Rattle.jv_rows.specs.Drafts.{drafted, cell, Drafts, Sees, RefusesCell, Needs, IsNoRow, RefusesNeeded}
use Rattle.jv_rows.specs.Readings.{RowCause}
use Rattle.jv_rows.specs.Transactions.{FaultCause, BadFault}
use Rattle.jv_rows.specs.promise.Transactions.{is_needed, IsBad, Malformed, Lacks}
use Rattle.jv_volume.specs.promise.Shape.{is_top}
use Rattle.jv_volume.specs.promise.TypedRows.{Cell, Rows, typed}
use Rattle.jv_volume.proofs.maps.MapLaws.{get-alter-here, get-alter-apart}
use Rattle.jv_volume.proofs.shapes.ShapeMapLaws.{same_or_apart, tied_apart}
use Rattle.jv_rows_drafts.specs.Drafting.{Minds, AreRows, Led, LeadsTo, Drafting}
use Rattle.jv_model.proofs.TestLaws.{if_some-by, of_known}

-- ---- one more change

-- changes that do this to all rows
abbrev pub Drafted : RowKey → Option Cell → List Change → List Change → Type 0
Drafted key stands was now = (known : RowMap) → drafted now known ≡ alter (drafted was known) key stands

-- one more change that was made
pub was_drafted : {E : Type 0} (key : RowKey) (stands : Option Cell) (was now : List Change)
    (result : Result (Unit {0}) E) → result ≡ Ok tt
    → Drafts key stands was now result → Drafted key stands was now
was_drafted key stands was now result is d = subst (λ r. OnOk r (Drafted key stands was now)) is d.done

module _ (key : RowKey) (was now : List Change) where
  -- what stands at a key: what the change left there, or what stood there
  stands_at : (stands : Option Cell) → Drafted key stands was now → (known : RowMap) (at : RowKey) (cell : Option Cell)
      → get (drafted now known) at ≡ cell
      → ((at ≡ key) × (stands ≡ cell)) ⊎ (get (drafted was known) at ≡ cell)
  stands_at stands d known at cell is = elim (same_or_apart row_key at key) [
    | inl same ↦ inl (
      same,
      sym (get-alter-here row_key (drafted was known) key stands) ∙ ap
          (get (alter (drafted was known) key stands)) (sym same)
          ∙ ap (λ (rows : Rows). get rows at) (sym (d known)) ∙ is,
    )
    | inr apart ↦ inr (sym (get-alter-apart row_key (drafted was known) key stands at apart)
        ∙ ap (λ (rows : Rows). get rows at) (sym (d known)) ∙ is)
  ]

  formed : (stands : Option Cell) → ((bytes : List ℕ) → stands ≡ Some (Err bytes) → ⊥)
      → (IsTrue (is_needed key) → stands ≡ None → ⊥)
      → Drafted key stands was now → AreRows was → AreRows now
  formed stands well stays d are = record {
    spelled = λ known at bytes is. elim (stands_at stands d known at (Some (Err bytes)) is) [
      | inl here ↦ absurd (well bytes here.1)
      | inr there ↦ are.spelled known at bytes there
    ];
    needed = λ known at need is. elim (stands_at stands d known at None is) [
      | inl here ↦ absurd (stays (subst (λ q. IsTrue (is_needed q)) here.0 need) here.1)
      | inr there ↦ are.needed known at need there
    ];
  }

  -- no change that puts a row leaves bytes that are malformed
  pub are_rows-put : (row : Row) → Drafted key (Some (Ok row)) was now → AreRows was → AreRows now
  are_rows-put row d are = formed (Some (Ok row)) (λ bytes is. absurd (cc)) (λ need is. absurd (cc)) d are

  -- nor does one that takes a row away, which each volume can be without
  pub are_rows-drop : is_needed key ≡ false → Drafted key None was now → AreRows was → AreRows now
  are_rows-drop spare d are = formed None (λ bytes is. absurd (cc)) (λ need is. true≢false (sym need ∙ spare)) d are

-- the rows of nodes that each volume has are those of the root and the trash
pub spare-node : (inode : ℕ) → is_top inode ≡ false → is_needed (node_key inode) ≡ false
spare-node inode low = λ i. other ROOT root_apart i || (other TRASH_ROOT trash_apart i || false)
  where
    root_apart : inode ≢ ROOT
    root_apart e = true≢false (sym (ap is_top e) ∙ low)

    trash_apart : inode ≢ TRASH_ROOT
    trash_apart e = true≢false (sym (ap is_top e) ∙ low)

    other : (top : ℕ) → inode ≢ top → is_key_of (node_key inode) (node_key top) ≡ false
    other top apart = tied_apart row_key (node_key top) (node_key inode) (λ same. apart (ap (λ (k : RowKey). k.a) same))

-- ---- readings and changes so far

-- nothing but readings, none of which failed
pub record Stays (before after : Store) : Type 0 where
  pub rows_are : after.rows ≡ before.rows
  pub opened_at : after.opened ≡ before.opened
  pub calm : after.faults ≡ before.faults

pub stays-none : (store : Store) → Stays store store
stays-none store = record { rows_are = refl; opened_at = refl; calm = refl }

pub stays-then : (before middle after : Store) → Stays before middle → Stays middle after → Stays before after
stays-then before middle after p q =
    record { rows_are = q.rows_are ∙ p.rows_are; opened_at = q.opened_at ∙ p.opened_at; calm = q.calm ∙ p.calm }

module _ {A : Type 0} (row : A → Row) (is_allowed : A → Bool) (key : RowKey) (changes : List Change)
    (before after : Store) where
  -- one more reading
  pub stays-sees : (found : Option A) → Sees row is_allowed key changes before after (Ok found) → Stays before after
  stays-sees found s = record { rows_are = s.rows_are; opened_at = s.opened_at; calm = s.counts }

  -- what it found
  pub seen-stands : (found : Option A) → Sees row is_allowed key changes before after (Ok found) → (known : RowMap)
      → before.rows ≡ Some known
      → get (drafted changes known) key ≡ cell row found
  seen-stands found s known is = of_known (λ known. get (drafted changes known) key ≡ cell row found) before.rows known
      is s.found

module _ (key : RowKey) (changes : List Change) where
  -- a Bad that a reading returns is of bytes that the keeper has
  pub bad-cell : (rows : Option RowMap) (fault : RowFault) → RefusesCell key changes rows fault → AreRows changes
      → (known : RowMap) → rows ≡ Some known → BadFault (typed known) (OfRows fault)
  bad-cell rows (Bad at bytes) h are known is =
      Malformed (ap (get (typed known)) h.0
      ∙ are.spelled known key bytes (of_known (λ known. get (drafted changes known) key ≡ Some (Err bytes)) rows known
      is h.1))
  bad-cell rows Failed h are known is = tt
  bad-cell rows Memory h are known is = tt

  -- and drafted rows have none
  pub leads-cell : (A : Type 0) (rows : Option RowMap) (fault : RowFault) → RefusesCell key changes rows fault
      → (known : RowMap) → rows ≡ Some known → (bytes : ℕ → ℕ → ℕ) (t : Tree) → Minds known changes bytes t
      → (now : List Change) (model : Result Tree Fault) → LeadsTo {A = A} known now bytes (Err (OfRows fault)) model
  leads-cell A rows (Bad at bad) h known is bytes t m now model =
      absurd (true≢false (sym (m.cells key (Err bad)
      (of_known (λ known. get (drafted changes known) key ≡ Some (Err bad)) rows known is h.1)).cell_is))
  leads-cell A rows Failed h known is bytes t m now model = tt
  leads-cell A rows Memory h known is bytes t m now model = tt

-- ---- a row that each volume has, which wasn't read

module _ {A : Type 0} (row : A → Row) (is_allowed : A → Bool) (key : RowKey) (changes : List Change)
    (before after : Store) where
  -- one more reading
  pub stays-needs : (x : A) → Needs row is_allowed key changes before after (Ok x) → Stays before after
  stays-needs x n = record { rows_are = n.rows_are; opened_at = n.opened_at; calm = n.counts }

  -- what it found
  pub needed-stands : (x : A) → Needs row is_allowed key changes before after (Ok x) → (known : RowMap)
      → before.rows ≡ Some known
      → get (drafted changes known) key ≡ Some (Ok (row x))
  needed-stands x n known is = of_known (λ known. get (drafted changes known) key ≡ Some (Ok (row x))) before.rows known
      is n.found

module _ (key : RowKey) (changes : List Change) (need : IsTrue (is_needed key)) where
  bad_by : AreRows changes → (known : RowMap) (stands : Option Cell) → get (drafted changes known) key ≡ stands
      → (bytes : List ℕ) → IsNoRow stands bytes
      → IsBad (typed known) key bytes
  bad_by are known None is bytes h = Lacks need (are.needed known key need is) h
  bad_by are known (Some (Ok row)) is bytes h = absurd h
  bad_by are known (Some (Err stored)) is bytes h =
      Malformed (are.spelled known key bytes (is ∙ ap (λ b. Some (Err b)) h))

  -- it is Bad since the keeper has none, or malformed bytes
  pub bad-needed : (rows : Option RowMap) (fault : TxFault) → RefusesNeeded key changes rows fault → AreRows changes
      → (known : RowMap) → rows ≡ Some known → BadFault (typed known) fault
  bad-needed rows (Refused fault) h are known is = absurd h
  bad-needed rows (Moved list) h are known is = absurd h
  bad-needed rows (OfRows (Bad at bytes)) h are known is =
      subst (λ q. IsBad (typed known) q bytes) (sym h.0) (bad_by are known (get (drafted changes known) key) refl bytes
      (of_known (λ known. IsNoRow (get (drafted changes known) key) bytes) rows known is h.1))
  bad-needed rows (OfRows Failed) h are known is = tt
  bad-needed rows (OfRows Memory) h are known is = tt

  none_leads : (known : RowMap) (bytes : ℕ → ℕ → ℕ) (t : Tree) → Minds known changes bytes t
      → IsTrue (is_some (get (drafted changes known) key))
      → (stands : Option Cell) → get (drafted changes known) key ≡ stands → (bad : List ℕ) → IsNoRow stands bad → ⊥
  none_leads known bytes t m there None is bad h = true≢false (sym there ∙ ap is_some is)
  none_leads known bytes t m there (Some (Ok row)) is bad h = h
  none_leads known bytes t m there (Some (Err stored)) is bad h = true≢false (sym (m.cells key (Err stored) is).cell_is)

  -- and drafted rows have it
  pub leads-needed : (A : Type 0) (rows : Option RowMap) (fault : TxFault) → RefusesNeeded key changes rows fault
      → (known : RowMap) → rows ≡ Some known → (bytes : ℕ → ℕ → ℕ) (t : Tree) → Minds known changes bytes t
      → IsTrue (is_some (get (drafted changes known) key))
      → (now : List Change) (model : Result Tree Fault) → LeadsTo {A = A} known now bytes (Err fault) model
  leads-needed A rows (Refused fault) h known is bytes t m there now model = absurd h
  leads-needed A rows (Moved list) h known is bytes t m there now model = h
  leads-needed A rows (OfRows (Bad at bad)) h known is bytes t m there now model =
      none_leads known bytes t m there (get (drafted changes known) key) refl bad
      (of_known (λ known. IsNoRow (get (drafted changes known) key) bad) rows known is h.1)
  leads-needed A rows (OfRows Failed) h known is bytes t m there now model = tt
  leads-needed A rows (OfRows Memory) h known is bytes t m there now model = tt

-- ---- the exits of a small change

counted : (fault : RowFault) (before middle after : Store) → middle.faults ≡ before.faults
    → RowCause middle.faults after.faults fault
    → RowCause before.faults after.faults fault
counted fault before middle after calm h = subst (λ n. RowCause n after.faults fault) calm h

module _ {A : Type 0} (ready : Tree → Type 0) (was now : List Change) (before middle : Store) (p : Stays before middle)
    (step : Tree → Result Tree Fault) where
  -- a row wasn't read
  pub drafting-unread : {B : Type 0} (row : B → Row) (is_allowed : B → Bool) (key : RowKey) (after : Store)
      (fault : RowFault)
      → Sees row is_allowed key was middle after (Err fault)
      → Drafting {A = A} ready was now before after (Err (OfRows fault)) step
  drafting-unread row is_allowed key after fault s = record {
    rows_are = s.rows_are ∙ p.rows_are;
    opened_at = s.opened_at ∙ p.opened_at;
    counts = counted fault before middle after p.calm s.counts;
    formed = λ are. tt;
    leads = λ known is bytes t m is_ready. leads-cell key was A middle.rows fault s.refused known
        (p.rows_are ∙ is) bytes t m now (step t);
    bad = λ are. if_some-by (λ known. BadFault (typed known) (OfRows fault)) before.rows
        (λ known is. bad-cell key was middle.rows fault s.refused are known (p.rows_are ∙ is));
  }

  -- nor was one that each volume has, and drafted rows have
  pub drafting-lacking : {B : Type 0} (row : B → Row) (is_allowed : B → Bool) (key : RowKey) (after : Store)
      (fault : TxFault) → IsTrue (is_needed key)
      → ((known : RowMap) (bytes : ℕ → ℕ → ℕ) (t : Tree) → Minds known was bytes t → ready t
      → IsTrue (is_some (get (drafted was known) key)))
      → Needs row is_allowed key was middle after (Err fault)
      → Drafting {A = A} ready was now before after (Err fault) step
  drafting-lacking row is_allowed key after fault need there n = record {
    rows_are = n.rows_are ∙ p.rows_are;
    opened_at = n.opened_at ∙ p.opened_at;
    counts = subst (λ count. FaultCause count after.faults fault) p.calm n.counts;
    formed = λ are. tt;
    leads = λ known is bytes t m is_ready. leads-needed key was need A middle.rows fault n.refused known
        (p.rows_are ∙ is) bytes t m (there known bytes t m is_ready) now (step t);
    bad = λ are. if_some-by (λ known. BadFault (typed known) fault) before.rows
        (λ known is. bad-needed key was need middle.rows fault n.refused are known (p.rows_are ∙ is));
  }

  -- memory ran out
  pub drafting-memory : Drafting {A = A} ready was now before middle (Err (OfRows Memory)) step
  drafting-memory = record {
    rows_are = p.rows_are;
    opened_at = p.opened_at;
    counts = p.calm;
    formed = λ are. tt;
    leads = λ known is bytes t m is_ready. tt;
    bad = λ are. if_some-by (λ known. BadFault (typed known) (OfRows Memory)) before.rows (λ known is. tt);
  }

  -- it is refused, and so is the model's
  pub drafting-refused : (fault : Fault)
      → ((known : RowMap) → before.rows ≡ Some known → (bytes : ℕ → ℕ → ℕ) (t : Tree) → Minds known was bytes t
      → ready t → step t ≡ Err fault)
      → Drafting {A = A} ready was now before middle (Err (Refused fault)) step
  drafting-refused fault refuses = record {
    rows_are = p.rows_are;
    opened_at = p.opened_at;
    counts = p.calm;
    formed = λ are. tt;
    leads = refuses;
    bad = λ are. if_some-by (λ known. BadFault (typed known) (Refused fault)) before.rows (λ known is. tt);
  }

  -- it is made
  pub drafting-made : (x : A) → (AreRows was → AreRows now)
      → ((known : RowMap) → before.rows ≡ Some known → (bytes : ℕ → ℕ → ℕ) (t : Tree) → Minds known was bytes t
      → ready t → Led known now bytes (step t))
      → Drafting ready was now before middle (Ok x) step
  drafting-made x formed leads = record {
    rows_are = p.rows_are;
    opened_at = p.opened_at;
    counts = p.calm;
    formed = formed;
    leads = leads;
    bad = λ are. tt;
  }
