-- Drafted rows stay those of a tree when a session or a sustained file comes or goes, and when the next session rises.
use Rattle.std.proofs.Common.{◌≡◌, ℕ, ◌<◌, ◌^◌, false, List, Option, None, Some, Ok, refl, sym, ap, subst, ◌∙◌, arith}
use Rattle.std.specs.Prelude.{◌==◌}
use Rattle.jv_model.specs.declared.row.Counters.{Counters}
use Rattle.jv_model.specs.declared.row.RowKey.{RowKey}
use Rattle.jv_model.specs.declared.row.Row.TheVariants.{OfCounters, OfSession}
use Rattle.jv_model.specs.declared.row.Session.{Session}
use Rattle.jv_model.specs.promise.FiniteMap.{get}
use Rattle.jv_model.specs.FiniteMap.{alter}
use Rattle.jv_model.specs.promise.rows.RowKeys.{RowMap}
use Rattle.jv_model.specs.promise.rows.RowPlaces.{counters_key, session_key, sustained_key}
use Rattle.jv_model.specs.promise.tree.Tree.{Tree}
use Rattle.jv_outside.specs.declared.batch.Change.{Change}
use Rattle.jv_outside.specs.promise.Store.{Store}
use Rattle.jv_rows.specs.Drafts.{drafted}
use Rattle.jv_rows.specs.Transactions.{Always}
use Rattle.jv_volume.specs.promise.TypedRows.{Cell, Rows, typed}
use Rattle.jv_volume.specs.promise.TreeOf.{tree_of}
use Rattle.jv_volume.specs.promise.Slices.{WholeFiles}
use Rattle.jv_volume.specs.promise.Stored.{Stored}
use Rattle.jv_volume.specs.promise.Views.{row_in, counters_in, counters_at}
use Rattle.jv_volume.specs.promise.Whole.{IsRowAt}
use Rattle.jv_volume.specs.Whole.{Quiet}
use Rattle.jv_volume.proofs.stored.FileStepLaws.{files-other, files-put_counters}
use Rattle.jv_volume.proofs.stored.QuietLaws.{quiet-alter, quiet-put_counters}
use Rattle.jv_volume.proofs.maps.SeenLaws.{row-put, rows-alter}
use Rattle.jv_volume.proofs.maps.SeenLaws as seen
use Rattle.jv_volume.proofs.stored.StoredLaws.{found_counters}
use Rattle.jv_volume.proofs.stored.StoredStepLaws.{stored-put_counters}
use Rattle.jv_volume.proofs.stored.TableStepLaws.{stored-put_session, stored-drop_session, stored-drop_sustained}
use Rattle.jv_volume.proofs.stored.TreeOfLaws.{tree_of-put_session, tree_of-drop_session, tree_of-drop_sustained, tree_of-put_counters}
use Rattle.jv_rows_drafts.specs.Drafting.{KeepsLengths, Minds, Drafting}
use Rattle.jv_rows_drafts.proofs.DraftedLaws.{Drafted, are_rows-put, are_rows-drop, stays-none, drafting-made}
use Rattle.jv_rows_drafts.proofs.LengthLaws.{lengths-alter}
use Rattle.jv_live.specs.Steps.{keeping_session, ending_session, letting_go}

-- a change at a key, by what it does to rows
module _ (known : RowMap) (was now : List Change) (bytes : ℕ → ℕ → ℕ) (t : Tree) (m : Minds known was bytes t) (q : RowKey) (stands : Option Cell)
    (done : Drafted q stands was now) where
  abbrev rows : Rows
  rows = drafted was known

  minds_by : (u : Tree) → tree_of bytes (alter rows q stands) ≡ u → ((x : Cell) → stands ≡ Some x → IsRowAt q x)
      → Stored (alter rows q stands) (tree_of bytes (alter rows q stands)) → WholeFiles (alter rows q stands) → Quiet (typed known) (alter rows q stands)
      → (2 == q.tab) ≡ false
      → Minds known now bytes u
  minds_by u tree well stored files quiet beside = record {
    tree = ap (tree_of bytes) (done known) ∙ tree;
    cells = subst (λ (r : Rows). seen.AreRows r) (sym (done known)) (rows-alter rows q stands m.cells well);
    stored = subst (λ (r : Rows). Stored r (tree_of bytes r)) (sym (done known)) stored;
    files = subst WholeFiles (sym (done known)) files;
    quiet = subst (Quiet (typed known)) (sym (done known)) quiet;
    lengths = subst (KeepsLengths (typed known)) (sym (done known)) (lengths-alter (typed known) rows m.lengths q stands beside);
  }

module _ (known : RowMap) (was now : List Change) (bytes : ℕ → ℕ → ℕ) (t : Tree) (m : Minds known was bytes t) where
  pub minds-keep_session : (sid : ℕ) (session : Session) → Drafted (session_key sid) (Some (Ok (OfSession session))) was now
      → Minds known now bytes (keeping_session sid session t)
  minds-keep_session sid session done =
      let r = drafted was known in
      let q = session_key sid in
      let good : Cell = Ok (OfSession session) in
      minds_by known was now bytes t m q (Some good) done (keeping_session sid session t)
      (tree_of-put_session bytes r sid session ∙ ap (keeping_session sid session) m.tree)
      (λ x. row-put q good x (record { key_is = refl; cell_is = refl; hour = refl }))
      (stored-put_session bytes r sid session m.stored)
      (files-other r q (Some good) m.files refl refl refl refl)
      (quiet-alter (typed known) r m.quiet q (Some good) refl refl refl refl) refl

  pub minds-end_session : (sid : ℕ) → Drafted (session_key sid) None was now → Minds known now bytes (ending_session sid t)
  minds-end_session sid done =
      let r = drafted was known in
      let q = session_key sid in
      minds_by known was now bytes t m q None done (ending_session sid t)
      (tree_of-drop_session bytes r sid ∙ ap (ending_session sid) m.tree)
      (λ x e. absurd (cc))
      (stored-drop_session bytes r sid m.stored)
      (files-other r q None m.files refl refl refl refl)
      (quiet-alter (typed known) r m.quiet q None refl refl refl refl) refl

  pub minds-let_go : (sid inode : ℕ) → inode < 2 ^ 64 → Drafted (sustained_key sid inode) None was now → Minds known now bytes (letting_go sid inode t)
  minds-let_go sid inode small done =
      let r = drafted was known in
      let q = sustained_key sid inode in
      minds_by known was now bytes t m q None done (letting_go sid inode t)
      (tree_of-drop_sustained bytes r sid inode small ∙ ap (letting_go sid inode) m.tree)
      (λ x e. absurd (cc))
      (stored-drop_sustained bytes r sid inode small m.stored)
      (files-other r q None m.files refl refl refl refl)
      (quiet-alter (typed known) r m.quiet q None refl refl refl refl) refl

  -- the counters with another next session
  pub minds-counted : (c : Counters) (next : ℕ) → get (drafted was known) counters_key ≡ Some (Ok (OfCounters c))
      → Drafted counters_key (Some (Ok (OfCounters (record c { session = next })))) was now → Minds known now bytes (record t { next_session = next })
  minds-counted c next there done =
      let r = drafted was known in
      let after : Counters = record c { session = next } in
      let good : Cell = Ok (OfCounters after) in
      let at : counters_at r ≡ Some c = ap (λ o. counters_in (row_in o)) there in
      let has = found_counters bytes r m.stored c at in
      minds_by known was now bytes t m counters_key (Some good) done (record t { next_session = next })
      (tree_of-put_counters bytes r after ∙ (λ i. record (tree_of bytes r) { next_inode = sym has.next_inode i; next_session = next })
      ∙ ap (λ (u : Tree). record u { next_session = next }) m.tree)
      (λ x. row-put counters_key good x (record { key_is = refl; cell_is = refl; hour = refl }))
      (stored-put_counters bytes r after m.stored has.space has.inodes)
      (files-put_counters r c after m.files at refl (omega arith))
      (quiet-put_counters (typed known) r m.quiet c after at refl) refl

-- ---- the same as steps

module _ (was now : List Change) (store : Store) where
  pub drafting-keep_session : (sid : ℕ) (session : Session) → Drafted (session_key sid) (Some (Ok (OfSession session))) was now
      → Drafting Always was now store store (Ok (tt {0})) (λ t. Ok (keeping_session sid session t))
  drafting-keep_session sid session done = drafting-made Always was now store store (stays-none store) (λ t. Ok (keeping_session sid session t)) (tt {0})
      (are_rows-put (session_key sid) was now (OfSession session) done)
      (λ known is bytes t m is_ready. record {
        left = keeping_session sid session t;
        is = refl;
        minds = minds-keep_session known was now bytes t m sid
            session done;
      })

  pub drafting-end_session : (sid : ℕ) → Drafted (session_key sid) None was now → Drafting Always was now store store (Ok (tt {0}))
      (λ t. Ok (ending_session sid t))
  drafting-end_session sid done = drafting-made Always was now store store (stays-none store) (λ t. Ok (ending_session sid t)) (tt {0})
      (are_rows-drop (session_key sid) was now refl done)
      (λ known is bytes t m is_ready. record { left = ending_session sid t; is = refl; minds = minds-end_session known was now bytes t m sid done })

  pub drafting-let_go : (sid inode : ℕ) → inode < 2 ^ 64 → Drafted (sustained_key sid inode) None was now
      → Drafting Always was now store store (Ok (tt {0})) (λ t. Ok (letting_go sid inode t))
  drafting-let_go sid inode small done = drafting-made Always was now store store (stays-none store) (λ t. Ok (letting_go sid inode t)) (tt {0})
      (are_rows-drop (sustained_key sid inode) was now refl done)
      (λ known is bytes t m is_ready. record { left = letting_go sid inode t; is = refl; minds = minds-let_go known was now bytes t m sid inode small done })
