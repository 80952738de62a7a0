-- How a commit of bytes begins: the file is there, the bytes aren't too old, and the volume has room.
use Rattle.std.proofs.Common.{Bool, ◌≡◌, ℕ, ◌+◌, true, false, List, length, Option, None, Some, Result, Ok, Err, refl, sym, ap, ◌∙◌}
use Rattle.std.specs.Prelude.{◌==◌, nat_lt, max, OnOk, if◌then◌else◌}
use Rattle.jv_model.specs.declared.fault.Fault.{Fault}
use Rattle.jv_model.specs.declared.fault.Fault.TheVariants.{NoSpace, TimedOut}
use Rattle.jv_model.specs.declared.fault.TxFault.{TxFault}
use Rattle.jv_model.specs.declared.lifetimes.TheConstants.{UPLOAD_LIFE}
use Rattle.jv_model.specs.declared.row.Node.{Node as NodeRow}
use Rattle.jv_model.specs.declared.row.Row.TheVariants.{OfNode}
use Rattle.jv_model.specs.promise.FiniteMap.{get}
use Rattle.jv_model.specs.promise.rows.RowKeys.{RowMap}
use Rattle.jv_model.specs.promise.rows.RowPlaces.{node_key}
use Rattle.jv_model.specs.promise.tree.Attempt.{◌>>=◌, require}
use Rattle.jv_model.specs.promise.tree.FileBytes.{committed}
use Rattle.jv_model.specs.tree.FileBytes.{length_seen, commit_of}
use Rattle.jv_model.specs.promise.tree.Changes.{empty_content, overwritten, with_content, content_of}
use Rattle.jv_model.specs.promise.tree.Tree.{Tree, Content, content_at, fits}
use Rattle.jv_outside.specs.declared.batch.Change.{Change}
use Rattle.jv_outside.specs.promise.Store.{Store}
use Rattle.jv_rows.proofs.transactions.TransactionLaws.{Past, past-start, past-as, past-looks, past-ends}
use Rattle.jv_volume.specs.promise.TypedRows.{typed}
use Rattle.jv_volume.specs.promise.TreeOf.{tree_of}
use Rattle.jv_volume.specs.promise.Views.{row_in, node_in, node_row_at}
use Rattle.jv_volume.specs.promise.Whole.{Whole}
use Rattle.jv_volume.proofs.stored.StoredLaws.{found_node, whole-stored}
use Rattle.jv_rows.specs.Drafts.{drafted}
use Rattle.jv_data.specs.Committing.{HasFile, Begun, BeginsCommit}
use Rattle.jv_data.specs.Resizing.{AreSized, ResizesFile}
use Rattle.jv_data.specs.Truncating.{LeaveSlices}
use Rattle.jv_model.proofs.TestLaws.{of_known, bound}

-- a block that is young enough at the moments of the arguments
pub is_timely : (now started n s : ℕ) (young : Bool) → n ≡ now → s ≡ started → young ≡ nat_lt n (s + UPLOAD_LIFE) → young ≡ true
    → nat_lt now (started + UPLOAD_LIFE) ≡ true
is_timely now started n s young now_is started_is young_is is = (λ i. nat_lt (sym now_is i) (sym started_is i + UPLOAD_LIFE)) ∙ sym young_is ∙ is

-- a test whose answer isn't asked for
without : {A : Type 0} (b : Bool) (fault : Fault) (x : A) → (require b fault >>= (λ unit. Ok x)) >>= (λ left. Ok tt) ≡ require b fault
without true fault x = refl
without false fault x = refl

abbrev or_empty : Option Content → Content
or_empty None = empty_content
or_empty (Some content) = content

-- what a whole volume's file has
pub content_found : (rows : RowMap) (inode : ℕ) (was : NodeRow) → Whole (typed rows) → node_row_at (typed rows) inode ≡ Some was → was.kind ≡ 1
    → (bytes : ℕ → ℕ → ℕ) → content_at (tree_of bytes (typed rows)) inode ≡ Some (content_of was.length (bytes inode))
content_found rows inode was whole there file bytes =
    (found_node bytes (typed rows) (whole-stored bytes (typed rows) whole) inode was there).content
    ∙ ap (λ k. if k == 1 then Some (content_of was.length (bytes inode)) else None) file

module _ (sid now inode end started : ℕ) (before : Store) where
  abbrev act : ℕ → List ℕ → Tree → Result (Unit {0}) Fault
  act from patch t = commit_of sid inode from patch started now t >>= (λ left. Ok tt)

  abbrev room : ℕ → List ℕ → Tree → Result (Unit {0}) Fault
  room from patch t = require (fits t (committed t now inode from patch)) NoSpace

  abbrev in_time : ℕ → List ℕ → Tree → Result (Unit {0}) Fault
  in_time from patch t = require (nat_lt now (started + UPLOAD_LIFE)) (TimedOut started now) >>= (λ unit. room from patch t)

  act_is : (from : ℕ) (patch : List ℕ) (t : Tree) → act from patch t ≡ length_seen sid inode t >>= (λ length. in_time from patch t)
  act_is from patch t =
      bound (length_seen sid inode t) _ (λ left. Ok tt)
      ∙ ap (λ r. length_seen sid inode t >>= (λ length. r))
      (bound (require (nat_lt now (started + UPLOAD_LIFE)) (TimedOut started now)) _ (λ left. Ok tt)
      ∙ ap (λ r. require (nat_lt now (started + UPLOAD_LIFE)) (TimedOut started now) >>= (λ unit. r))
      (without (fits t (committed t now inode from patch)) NoSpace (committed t now inode from patch)))

  start : (from : ℕ) (patch : List ℕ) → Past before before (act from patch) (λ t. length_seen sid inode t >>= (λ length. in_time from patch t))
  start from patch = past-as before before before (act from patch) (act from patch) (past-start before (act from patch))
      (λ t. length_seen sid inode t >>= (λ length. in_time from patch t)) (λ known is whole bytes. act_is from patch (tree_of bytes (typed known)))

  module _ (middle : Store) (was : NodeRow) (h : HasFile sid inode before middle (Ok was)) where
    seen : (from : ℕ) (patch : List ℕ) → Past before middle (act from patch) (in_time from patch)
    seen from patch = past-looks before before middle (act from patch) (length_seen sid inode) (λ t length. in_time from patch t)
        (start from patch) was.length h.looks

    module _ (timely : nat_lt now (started + UPLOAD_LIFE) ≡ true) where
      -- what is put there, with the length that the file has then
      abbrev content : ℕ → List ℕ → Tree → Content
      content from patch t = record { length = max was.length end; byte = (overwritten (or_empty (content_at t inode)) from patch).byte }

      abbrev sized_room : ℕ → List ℕ → Tree → Result (Unit {0}) Fault
      sized_room from patch t = require (fits t (with_content t now inode (content from patch t))) NoSpace

      was_stands : (known : RowMap) → before.rows ≡ Some known → get (typed known) (node_key inode) ≡ Some (Ok (OfNode was))
      was_stands known is = of_known (λ known. get (typed known) (node_key inode) ≡ Some (Ok (OfNode was))) middle.rows known (h.looks.rows_are ∙ is) h.stands

      was_at : (known : RowMap) → before.rows ≡ Some known → node_row_at (typed known) inode ≡ Some was
      was_at known is = ap (λ o. node_in (row_in o)) (was_stands known is)

      committed_is : (from : ℕ) (patch : List ℕ) → from + length patch ≡ end → (known : RowMap) → before.rows ≡ Some known → Whole (typed known) → (bytes : ℕ → ℕ → ℕ)
          → (let t = tree_of bytes (typed known) in committed t now inode from patch ≡ with_content t now inode (content from patch t))
      committed_is from patch reaches known is whole bytes =
          let t = tree_of bytes (typed known) in
          let found = content_found known inode was whole (was_at known is) h.file bytes in
          ap (λ o. elim o as (λ _. Tree) [ None ↦ t | Some old ↦ with_content t now inode (overwritten old from patch) ]) found
          ∙ (λ i. with_content t now inode (record {
            length = max was.length (reaches i);
            byte = (overwritten (or_empty (sym found i)) from patch).byte;
          }))

      pub begin-sized : (after : Store) (changes : List Change) (result : Result (Unit {0}) TxFault)
          → ResizesFile inode was (max was.length end) now middle after changes result
          → BeginsCommit sid now inode end started before after changes result
      begin-sized after changes result r = record {
        looks = λ from patch reaches. past-ends before middle after (act from patch) (sized_room from patch)
            (past-as before middle middle (act from patch) (in_time from patch) (seen from patch) (sized_room from patch) (λ known is whole bytes.
            let t = tree_of bytes (typed known) in
            ap (λ b. require b (TimedOut started now) >>= (λ unit. room from patch t)) timely
            ∙ ap (λ (u : Tree). require (fits t u) NoSpace) (committed_is from patch reaches known is whole bytes)))
            result (r.looks (content from patch) (λ t. refl));
        leaves = leaves result r.leaves;
        begun = begun result r.sized;
      }
        where
          leaves : (result : Result (Unit {0}) TxFault) → OnOk result (LeaveSlices middle.rows changes) → OnOk result (LeaveSlices before.rows changes)
          leaves (Err fault) l = tt
          leaves (Ok unit) l = λ known is key of. l known (h.looks.rows_are ∙ is) key of

          begun : (result : Result (Unit {0}) TxFault)
              → OnOk result ((known : RowMap) → middle.rows ≡ Some known → Whole (typed known)
              → AreSized (typed known) (drafted changes known) inode was (max was.length end) now)
              → OnOk result ((known : RowMap) → before.rows ≡ Some known → Whole (typed known) → Begun (typed known) (drafted changes known) inode end now)
          begun (Err fault) s = tt
          begun (Ok unit) s = λ known is whole. record { was = was; there = was_stands known is; file = h.file; sized = s known (h.looks.rows_are ∙ is) whole }
