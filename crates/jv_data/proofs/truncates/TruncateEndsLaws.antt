-- How a truncate ends, by the model's.
use Rattle.std.proofs.Common.{◌≡◌, ℕ, ◌<◌, ◌≤◌, Bool, true, false, List, Option, None, Some, Result, Ok, Err, refl, sym, ap, subst, ◌∙◌, arith}
use Rattle.std.specs.Prelude.{nat_le, is_some}
use Rattle.std.specs.Option.{option_map}
use Rattle.std.proofs.lemmas.Option.{same_Some}
use Rattle.std.proofs.lemmas.Bool.{cond-true, cond-false, le-leb, lt-leb, lt-ltb, le-ltb}
use Rattle.jv_model.specs.declared.fault.Fault.{Fault}
use Rattle.jv_model.specs.declared.fault.Fault.TheVariants.{FileTooLarge, NoSpace, Stale}
use Rattle.jv_model.specs.declared.fault.Gone.TheVariants.{Node as GoneNode}
use Rattle.jv_model.specs.declared.fault.RowFault.TheVariants.{Bad, Failed, Memory}
use Rattle.jv_model.specs.declared.fault.TxFault.{TxFault}
use Rattle.jv_model.specs.declared.fault.TxFault.TheVariants.{Refused, Moved, Rows as OfRows}
use Rattle.jv_model.specs.declared.limits.TheConstants.{FILE_END}
use Rattle.jv_model.specs.declared.op.Reply.TheVariants.{Done}
use Rattle.jv_model.specs.promise.FiniteMap.{get}
use Rattle.jv_model.specs.promise.rows.RowKeys.{RowMap}
use Rattle.jv_model.specs.promise.tree.Attempt.{◌>>=◌, require, some_or}
use Rattle.jv_model.specs.promise.tree.Caller.{Caller, Outcome, done, session_there}
use Rattle.jv_model.specs.promise.tree.Changes.{resized, with_content, content_of}
use Rattle.jv_model.specs.promise.tree.FileBytes.{truncated, truncate}
use Rattle.jv_model.specs.tree.FileBytes.{length_seen}
use Rattle.jv_model.specs.promise.tree.Tree.{Tree, Content, content_at, fits}
use Rattle.jv_outside.specs.promise.Store.{Store}
use Rattle.jv_outside.specs.Store.{Commits}
use Rattle.jv_model.specs.declared.basics.Who.{Who}
use Rattle.jv_rows.specs.Transactions.{Agrees, IsFor}
use Rattle.jv_rows.proofs.transactions.TransactionLaws.{Past, past-as, past-calm, past-ends, past-fails, past-looks, past-refuses, past-stops, fails-commit}
use Rattle.jv_data.specs.Resizing.{ResizesFile, AreSized}
use Rattle.jv_data.specs.Truncating.{ListsCut, LeaveSlices, Cut, Kept, Shortens, list_after, CutsFile}
use Rattle.jv_data.proofs.commits.BeginningLaws.{content_found}
use Rattle.jv_data.proofs.commits.CommitLaws.{looks-any}
use Rattle.jv_outside.specs.promise.Rows.{applied}
use Rattle.jv_rows.specs.Drafts.{drafted}
use Rattle.jv_model.specs.declared.slice.Spot.TheVariants.{Zero}
use Rattle.jv_volume_bytes.specs.Counts.{KeepsOthers}
use Rattle.jv_volume_bytes.proofs.ByteLaws.{byte-grown}
use Rattle.jv_volume_bytes.proofs.KeepLaws.{keeps-stay}
use Rattle.jv_volume_bytes.proofs.PlaceLaws.{place_in-same}
use Rattle.jv_volume.proofs.stored.QuietLaws.{lists_of-stay, slice_row-stay}
use Rattle.jv_volume.specs.promise.Slices.{place_in}
use Rattle.jv_data.proofs.files.BesideLaws.{beside-none}
use Rattle.jv_data.proofs.files.ChangedFileLaws.{tree-changed}
use Rattle.jv_data.proofs.files.RefusedLaws.{changes-refused}
use Rattle.jv_data.proofs.files.RestLaws.{drops-rest, rest-sized, of_left}
use Rattle.jv_data.proofs.files.SizedLaws.{sized_rows, sized as sized_row, node-sized, quiet-sized, whole-sized}
use Rattle.jv_data.proofs.truncates.TruncatedLaws.{show_last, dies-cut, node-cut, rest-cut, whole-cut, others-cut, tree-cut_lists}
use Rattle.jv_model.specs.declared.fault.Down.{Down}
use Rattle.jv_model.specs.declared.row.Row.TheVariants.{OfNode}
use Rattle.jv_model.specs.rows.RowFaults.{row_fault}
use Rattle.jv_model.specs.promise.rows.RowPlaces.{node_key}
use Rattle.jv_outside.specs.declared.batch.Change.{Change}
use Rattle.jv_volume.specs.promise.Views.{row_in, node_in, node_row_at, lists_of, slice_row_at, dead_at}
use Rattle.jv_volume.specs.promise.Whole.{Whole}
use Rattle.jv_volume.specs.Whole.{Quiet}
use Rattle.jv_model.specs.declared.row.Node.{Node as NodeRow}
use Rattle.jv_model.specs.declared.row.RowKey.{RowKey}
use Rattle.jv_model.specs.declared.row.SliceRow.{SliceRow}
use Rattle.jv_model.specs.tree.Trash.{due_after}
use Rattle.jv_volume.specs.promise.TreeOf.{tree_of}
use Rattle.jv_volume.specs.promise.TypedRows.{Rows, typed}
use Rattle.jv_volume_bytes.specs.promise.Bytes.{KnownBytes, spot_byte, bytes_of, tree_with}
use Rattle.jv_data.specs.Changing.{Makes, DieUntil, AnyBytes, Never, Changed, Changes, may_change, KeepsRest}
use Rattle.jv_data.specs.Committing.{HasFile}
use Rattle.jv_model.proofs.TestLaws.{of_known}

-- the model's truncate of a file that a session sees
abbrev pub truncating : (sid now inode len : ℕ) → Tree → Result Outcome Fault
truncating sid now inode len t = do
  _ ← session_there t sid
  content ← some_or (content_at t inode) (Stale (GoneNode inode))
  _ ← require (nat_le len FILE_END) FileTooLarge
  _ ← require (fits t (truncated t now inode len)) NoSpace
  done (truncated t now inode len)

pub truncate-as : (t : Tree) (caller : Caller) (sid now inode len : ℕ) → caller.sid ≡ sid → caller.now ≡ now → caller.inode ≡ inode
    → truncate t caller len ≡ truncating sid now inode len t
unfolding truncate
truncate-as t caller sid now inode len s n i = λ k. truncating (s k) (n k) (i k) len t

stops : (b : Bool) (o : Option Content) (f g fault : Fault) (rest : Result Outcome Fault)
    → ◌≡◌ {A = Result ℕ Fault} (require b f >>= (λ unit. some_or o g >>= (λ content. Ok content.length))) (Err fault)
    → ◌≡◌ {A = Result Outcome Fault} (require b f >>= (λ unit. some_or o g >>= (λ content. rest))) (Err fault)
stops false o f g fault rest e = (let one : f ≡ fault = cc in ap (λ x. Err x) one)
stops true None f g fault rest e = (let one : g ≡ fault = cc in ap (λ x. Err x) one)
stops true (Some content) f g fault rest e = absurd (cc)

goes : (b : Bool) (o : Option Content) (f g : Fault) (n : ℕ) (rest : Result Outcome Fault)
    → ◌≡◌ {A = Result ℕ Fault} (require b f >>= (λ unit. some_or o g >>= (λ content. Ok content.length))) (Ok n)
    → ◌≡◌ {A = Result Outcome Fault} (require b f >>= (λ unit. some_or o g >>= (λ content. rest))) rest
goes false o f g n rest e = absurd (cc)
goes true None f g n rest e = absurd (cc)
goes true (Some content) f g n rest e = refl

abbrev makes : ℕ → Makes
makes now = record { own = 0; size = 0; more = 1; due = due_after now }

module _ (sid now inode len : ℕ) where
  abbrev act : Tree → Result Outcome Fault
  act = truncating sid now inode len

  abbrev pub Ends : Store → Store → Result (Unit {0}) TxFault → Type 0
  Ends before after result = Changes {A = Unit {0}} (makes now) AnyBytes Never before after result (λ unit. Done) act

  -- the content that the file gets
  abbrev content : Tree → Content
  content t = elim (content_at t inode) as (λ _. Content) [ None ↦ record { length = len; byte = λ p. 0 } | Some old ↦ resized old len ]

  long : (t : Tree) → (content t).length ≡ len
  long t = by_content (content_at t inode)
    where
      by_content : (o : Option Content) → (elim o as (λ _. Content) [ None ↦ record { length = len; byte = λ p. 0 } | Some old ↦ resized old len ]).length ≡ len
      by_content None = refl
      by_content (Some old) = refl

  pub truncate-unread : (before after : Store) (fault : TxFault) → HasFile sid inode before after (Err fault) → Ends before after (Err fault)
  truncate-unread before after fault h = changes-refused (makes now) Never (λ unit. Done) before after act fault (record {
    rows_are = h.looks.rows_are;
    opened_at = h.looks.opened_at;
    counts = h.looks.counts;
    agrees = λ known is whole bytes. same (tree_of bytes (typed known)) fault (h.looks.agrees known is whole bytes);
    bad = h.looks.bad;
  })
    where
      same : (t : Tree) (fault : TxFault) → Agrees {A = ℕ} (Err fault) (length_seen sid inode t) → Agrees {A = Outcome} (Err fault) (act t)
      same t (Refused f) e = stops (is_some (get t.sessions sid)) (content_at t inode) _ _ f _ e
      same t (Moved list) e = e
      same t (OfRows (Bad at bytes)) e = e
      same t (OfRows Failed) e = tt
      same t (OfRows Memory) e = tt

  module _ (before seen : Store) (was : NodeRow) (h : HasFile sid inode before seen (Ok was)) where
    abbrev rest : Tree → Result Outcome Fault
    rest t = require (nat_le len FILE_END) FileTooLarge >>= (λ unit. require (fits t (truncated t now inode len)) NoSpace >>= (λ unit. done (truncated t now inode len)))

    past_file : Past before seen act rest
    past_file = record {
      rows_are = h.looks.rows_are;
      opened_at = h.looks.opened_at;
      calm = h.looks.counts;
      goes_on = λ known is whole bytes. (let t = tree_of bytes (typed known) in
          goes (is_some (get t.sessions sid)) (content_at t inode) _ _ was.length (rest t) (h.looks.agrees known is whole bytes));
    }

    pub truncate-too_long : FILE_END < len → Ends before seen (Err (Refused FileTooLarge))
    truncate-too_long over = changes-refused (makes now) Never (λ unit. Done) before seen act (Refused FileTooLarge)
        (past-refuses before seen act FileTooLarge (past-as before seen seen act rest past_file (λ t. Err FileTooLarge)
        (λ known is whole bytes. (let t = tree_of bytes (typed known) in
        ap (λ b. require b FileTooLarge >>= (λ unit. require (fits t (truncated t now inode len)) NoSpace >>= (λ unit. done (truncated t now inode len)))) (lt-leb len FILE_END over)))))

    there : (known : RowMap) → before.rows ≡ Some known → node_row_at (typed known) inode ≡ Some was
    there known is = ap (λ o. node_in (row_in o))
        (of_known (λ known. get (typed known) (node_key inode) ≡ Some (Ok (OfNode was))) seen.rows known (h.looks.rows_are ∙ is) h.stands)

    same_tree : (t : Tree) (x : Content) → content_at t inode ≡ Some x → truncated t now inode len ≡ with_content t now inode (content t)
    same_tree t x e =
        ap (λ o. elim o as (λ _. Tree) [ None ↦ t | Some old ↦ with_content t now inode (resized old len) ]) e
        ∙ sym (ap (λ o. with_content t now inode (elim o as (λ _. Content) [ None ↦ record { length = len; byte = λ p. 0 } | Some old ↦ resized old len ])) e)

    module _ (small : len ≤ FILE_END) where
      abbrev last_step : Tree → Result Outcome Fault
      last_step t = done (truncated t now inode len)

      past_fits : Past before seen act (λ t. require (fits t (with_content t now inode (content t))) NoSpace >>= (λ unit. last_step t))
      past_fits = past-as before seen seen act rest past_file (λ t. require (fits t (with_content t now inode (content t))) NoSpace >>= (λ unit. last_step t))
          (λ known is whole bytes. (let t = tree_of bytes (typed known) in
          ap (λ b. require b FileTooLarge >>= (λ unit. require (fits t (truncated t now inode len)) NoSpace >>= (λ unit. last_step t))) (le-leb len FILE_END small)
          ∙ ap (λ x. require (fits t x) NoSpace >>= (λ unit. last_step t)) (same_tree t _ (content_found known inode was whole (there known is) h.file bytes))))

      pub truncate-no_room : (after : Store) (changes : List Change) (fault : TxFault) → ResizesFile inode was len now seen after changes (Err fault) → Ends before after (Err fault)
      truncate-no_room after changes fault r = changes-refused (makes now) Never (λ unit. Done) before after act fault
          (past-stops before seen after act (λ t. require (fits t (with_content t now inode (content t))) NoSpace) (λ t unit. last_step t) past_fits fault (r.looks content long))

      module _ (sized : Store) (d1 : List Change) (r : ResizesFile inode was len now seen sized d1 (Ok tt)) where
        past_sized : Past before sized act last_step
        past_sized = past-looks before seen sized act (λ t. require (fits t (with_content t now inode (content t))) NoSpace) (λ t unit. last_step t) past_fits tt (r.looks content long)

        pub leave-sized : LeaveSlices sized.rows d1
        leave-sized known is key of = r.leaves known (sym (r.looks content long).rows_are ∙ is) key of

        pub truncate-unread_lists : (after : Store) (d2 : List Change) (fault : TxFault) → Shortens inode was.length len now sized after d1 d2 (Err fault) → Ends before after (Err fault)
        truncate-unread_lists after d2 fault z = changes-refused (makes now) Never (λ unit. Done) before after act fault
            (past-ends before sized after act last_step past_sized (Err fault) (looks-any sized after fault last_step z.looks))

        module _ (cut : Store) (d2 : List Change) (z : Shortens inode was.length len now sized cut d1 d2 (Ok tt)) where
          past_cut : Past before cut act last_step
          past_cut = past-calm before sized cut act last_step past_sized z.looks.rows_are z.looks.opened_at z.looks.counts

          pub truncate-down : (after : Store) (down : Down) → Commits cut after (Err down) d2 → Ends before after (Err (OfRows (row_fault down)))
          truncate-down after down commits = changes-refused (makes now) Never (λ unit. Done) before after act (OfRows (row_fault down))
              (past-fails before cut after act last_step past_cut (OfRows (row_fault down)) (fails-commit cut after down d2 commits))

          module _ (last : Store) (commits : Commits cut last (Ok tt) d2) (known : RowMap) (is : before.rows ≡ Some known) (whole : Whole (typed known)) where
            at_seen : seen.rows ≡ Some known
            at_seen = h.looks.rows_are ∙ is

            at_sized : sized.rows ≡ Some known
            at_sized = (r.looks content long).rows_are ∙ at_seen

            abbrev s : AreSized (typed known) (drafted d1 known) inode was len now
            s = r.sized known at_seen whole

            abbrev sized_known : Rows
            sized_known = sized_rows (typed known) inode was s.counters now len whole (there known is) h.file s.there

            quiet : Quiet (typed known) sized_known
            quiet = quiet-sized (typed known) inode was s.counters now len whole (there known is) h.file s.there

            abbrev left : Rows
            left = drafted d2 known

            by_lists : (P : Rows → Type 0) → (ListsCut inode len now (typed known) sized_known left → P left) → (was.length ≤ len → P sized_known) → P left
            by_lists P cut kept = elim (z.lists known at_sized) [
              | Cut shorter c ↦ cut (subst (λ (rows : Rows). ListsCut inode len now (typed known) rows (drafted d2 known)) s.is c)
              | Kept longer same ↦ subst P (sym (same ∙ s.is)) (kept longer)
            ]

            whole_left : Whole left
            whole_left = by_lists Whole
                (λ c. whole-cut (typed known) inode was s.counters now len whole (there known is) h.file s.there small left c s.given)
                (λ longer. whole-sized (typed known) inode was s.counters now len whole (there known is) h.file s.there longer small)

            others_left : KeepsOthers 0 1 (typed known) left
            others_left = by_lists (KeepsOthers 0 1 (typed known))
                (λ c. others-cut (typed known) inode was s.counters now len whole (there known is) h.file s.there small left c s.given)
                (λ longer. keeps-stay (typed known) sized_known quiet.apart 0 1 quiet.next)

            dies_left : DieUntil (due_after now) (typed known) left
            dies_left setting set = by_lists (λ rows. (id : ℕ) (slice : SliceRow) → slice_row_at (typed known) id ≡ Some slice → slice_row_at rows id ≡ None
                → dead_at rows id ≡ Some (record { size = slice.size; due = due_after now setting }))
                (λ c id slice here none. dies-cut (typed known) inode was s.counters now len whole (there known is) h.file s.there small left c id slice here none
                ∙ ap (λ (n : ℕ). Some (record { size = slice.size; due = n })) (c.is_due.is
                ∙ ap (due_after now) (same_Some c.is_due.setting setting (sym c.is_due.set ∙ set))))
                (λ longer id slice here none. (let stays = slice_row-stay (typed known) sized_known quiet.apart id in absurd (cc)))

            node_left : node_row_at left inode ≡ Some (sized_row (typed known) inode was s.counters now len whole (there known is) h.file s.there)
            node_left = by_lists (λ rows. node_row_at rows inode ≡ Some (sized_row (typed known) inode was s.counters now len whole (there known is) h.file s.there))
                (λ c. node-cut (typed known) inode was s.counters now len whole (there known is) h.file s.there small left c s.given)
                (λ longer. node-sized (typed known) inode was s.counters now len whole (there known is) h.file s.there)

            rest_left : (key : RowKey) → may_change inode key ≡ false → get left key ≡ get (typed known) key
            rest_left key other = by_lists (λ rows. get rows key ≡ get (typed known) key)
                (λ c. rest-cut (typed known) inode was s.counters now len whole (there known is) h.file s.there small left c key other)
                (λ longer. rest-sized (typed known) inode was s.counters now len whole (there known is) h.file s.there key other)

            lists_left : (u : ℕ) → lists_of left inode u ≡ list_after was.length len u (lists_of (typed known) inode u)
            lists_left u = elim (z.lists known at_sized) [
              | Cut shorter c ↦ show_last (typed known) inode was s.counters now len whole (there known is) h.file s.there small left
                  (subst (λ (rows : Rows). ListsCut inode len now (typed known) rows left) s.is c) u
                  ∙ sym (cond-true _ _ _ (lt-ltb len was.length shorter))
              | Kept longer same ↦ ap (λ (rows : Rows). lists_of rows inode u) (same ∙ s.is) ∙ lists_of-stay (typed known) sized_known quiet.apart inode u
                  ∙ sym (cond-false _ _ _ (le-ltb len was.length longer))
            ]

            stands : last.rows ≡ Some (applied d2 known)
            stands = commits.content_is ∙ ap (option_map (applied d2)) (z.looks.rows_are ∙ at_sized)

            tree_left : (known_bytes : KnownBytes) → tree_with known_bytes left ≡ truncated (tree_with known_bytes (typed known)) now inode len
            tree_left known_bytes = by_lists (λ rows. tree_with known_bytes rows ≡ truncated (tree_with known_bytes (typed known)) now inode len)
                (λ c. tree-cut_lists (typed known) inode was s.counters now len whole (there known is) h.file s.there small left c known_bytes)
                (λ longer. tree-changed (typed known) inode was s.counters now len whole (there known is) h.file s.there sized_known (beside-none sized_known) known_bytes
                (resized (content_of was.length (bytes_of known_bytes (typed known) inode)) len) refl
                (λ i apart p. shown i p)
                (λ p high. shown inode p ∙ past_was p (omega (arith, longer, high)))
                (λ p. ap (spot_byte known_bytes) (shown inode p) ∙ byte-grown known_bytes was.length (place_in (lists_of (typed known) inode)) past_was len longer p)
                ∙ sym (ap (λ o. elim o as (λ _. Tree) [ None ↦ tree_with known_bytes (typed known) | Some old ↦ with_content (tree_with known_bytes (typed known)) now inode (resized old len) ])
                (content_found known inode was whole (there known is) h.file (bytes_of known_bytes (typed known)))))
              where
                shown : (i p : ℕ) → place_in (lists_of sized_known i) p ≡ place_in (lists_of (typed known) i) p
                shown i p = place_in-same (lists_of sized_known i) (lists_of (typed known) i) (λ u. lists_of-stay (typed known) sized_known quiet.apart i u) p

                past_was : (p : ℕ) → was.length ≤ p → place_in (lists_of (typed known) inode) p ≡ Zero
                past_was = whole.files.past inode was (there known is) h.file

            changed : (known_bytes : KnownBytes) → Changed (makes now) known last.rows known_bytes Done act
            unfolding drafted
            changed known_bytes = record {
              left = applied d2 known;
              is = stands;
              whole = whole_left;
              others = others_left;
              size = λ slice here. (let none = whole_left.slices.none in absurd (cc));
              dies = dies_left;
              dropped = drops-rest (typed known) left inode (sized_row (typed known) inode was s.counters now len whole (there known is) h.file s.there) rest_left node_left;
              model = past_cut.goes_on known is whole (bytes_of known_bytes (typed known)) ∙ ap done (sym (tree_left known_bytes));
            }

          pub truncate-done : (last : Store) → Commits cut last (Ok tt) d2 → Ends before last (Ok tt)
          truncate-done last commits = record {
            opened_at = commits.opened_at ∙ past_cut.opened_at;
            counts = commits.calm ∙ past_cut.calm;
            undone = tt;
            lands = λ known is whole known_bytes ready. changed last commits known is whole known_bytes;
            bad = tt;
          }

          -- and all other rows are as before
          pub truncate-rest : (last : Store) → Commits cut last (Ok tt) d2 → KeepsRest {A = Unit {0}} inode before last (Ok tt)
          truncate-rest last commits known after is whole here key other =
              of_left (λ rows. get rows key ≡ get (typed known) key) d2 known after last.rows (stands last commits known is whole) here
              (rest_left last commits known is whole key other)

          -- the file's lists are cut
          pub truncate-lists : (last : Store) → Commits cut last (Ok tt) d2 → CutsFile inode len before last (Ok tt)
          truncate-lists last commits known after is whole here node found u =
              of_left (λ rows. lists_of rows inode u ≡ list_after node.length len u (lists_of (typed known) inode u)) d2 known after last.rows
              (stands last commits known is whole) here (lists_left last commits known is whole u
              ∙ ap (λ (w : NodeRow). list_after w.length len u (lists_of (typed known) inode u)) (same_Some was node (sym (there known is) ∙ found)))

-- the same by the caller of the model
pub ends-as : (who : Who) (inode len now : ℕ) (before after : Store) (result : Result (Unit {0}) TxFault) → now ≡ who.now → Ends who.sid now inode len before after result
    → (caller : Caller) → IsFor who caller → caller.inode ≡ inode
    → Changes {A = Unit {0}} (makes who.now) AnyBytes Never before after result (λ unit. Done) (λ t. truncate t caller len)
ends-as who inode len now before after result now_is e caller for of =
    subst (λ (act : Tree → Result Outcome Fault). Changes {A = Unit {0}} (makes who.now) AnyBytes Never before after result (λ unit. Done) act)
    (λ i t. sym (truncate-as t caller who.sid who.now inode len for.sid for.now of) i)
    (subst (λ (n : ℕ). Ends who.sid n inode len before after result) now_is e)
