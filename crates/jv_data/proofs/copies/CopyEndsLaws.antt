-- How a copy ends, by the model's.
use Rattle.std.proofs.Common.{◌≡◌, ◌≢◌, ℕ, ◌+◌, ◌-◌, ◌<◌, ◌≤◌, inr, Bool, true, false, List, [], Option, None, Some, Result, Ok, Err, refl, sym, ap, subst, ◌∙◌, arith}
use Rattle.std.specs.Prelude.{◌==◌, ◌&&◌, not, min, max, nat_le, is_some, IfErr, IsTrue}
use Rattle.std.specs.Option.{option_map}
use Rattle.std.proofs.lemmas.Option.{same_Some}
use Rattle.std.proofs.lemmas.Bool.{and_from, leb-true, eqb-false, ne_eqb}
use Rattle.jv_model.specs.declared.fault.Down.{Down}
use Rattle.jv_model.specs.declared.fault.Fault.{Fault}
use Rattle.jv_model.specs.declared.fault.Fault.TheVariants.{FileTooLarge, Invalid, NoSpace, Stale}
use Rattle.jv_model.specs.declared.fault.Gone.TheVariants.{Node as GoneNode}
use Rattle.jv_model.specs.declared.fault.RowFault.TheVariants.{Bad, Failed, Memory}
use Rattle.jv_model.specs.declared.fault.TxFault.{TxFault}
use Rattle.jv_model.specs.declared.fault.TxFault.TheVariants.{Refused, Moved, Rows as OfRows}
use Rattle.jv_model.specs.declared.basics.Who.{Who}
use Rattle.jv_model.specs.declared.limits.TheConstants.{FILE_END}
use Rattle.jv_model.specs.declared.op.Reply.TheVariants.{Count}
use Rattle.jv_model.specs.declared.row.Node.{Node as NodeRow}
use Rattle.jv_model.specs.declared.row.Row.TheVariants.{OfNode}
use Rattle.jv_model.specs.declared.row.RowKey.{RowKey}
use Rattle.jv_model.specs.declared.setting.Setting.{Setting}
use Rattle.jv_model.specs.declared.slice.Rec.{Rec}
use Rattle.jv_model.specs.promise.FiniteMap.{get}
use Rattle.jv_model.specs.rows.RowFaults.{row_fault}
use Rattle.jv_model.specs.promise.rows.RowKeys.{RowMap}
use Rattle.jv_model.specs.promise.rows.RowPlaces.{node_key, slice_key}
use Rattle.jv_model.specs.promise.tree.Attempt.{◌>>=◌, require, some_or}
use Rattle.jv_model.specs.promise.tree.Caller.{Caller, Outcome, answered, session_there}
use Rattle.jv_model.specs.promise.tree.Changes.{copied_over, with_content, content_of}
use Rattle.jv_model.specs.promise.tree.FileBytes.{copied, overlap, copy}
use Rattle.jv_model.specs.tree.FileBytes.{length_seen}
use Rattle.jv_model.specs.promise.tree.Tree.{Tree, Content, content_at, fits, space_limit, used_space, inode_limit, used_inodes}
use Rattle.jv_outside.specs.declared.batch.Change.{Change}
use Rattle.jv_outside.specs.promise.Rows.{applied}
use Rattle.jv_outside.specs.promise.Store.{Store}
use Rattle.jv_outside.specs.Store.{Commits}
use Rattle.jv_rows.specs.Counts.{is_named, IsFull as CountIsFull, FailsToRecount, RefusesAdjust, Adjusted, Adjusts}
use Rattle.jv_rows.specs.Drafts.{drafted, IsNoRow}
use Rattle.jv_rows.specs.Transactions.{BadFault, IsFor, Looks, TransactionCounts}
use Rattle.jv_rows.proofs.transactions.TransactionLaws.{Past, past-start, past-as, past-calm, past-ends, past-fails, past-looks, past-refuses, past-stops, fails-commit}
use Rattle.jv_volume.specs.promise.TreeOf.{tree_of}
use Rattle.jv_volume.specs.promise.TypedRows.{Rows, typed}
use Rattle.jv_volume.specs.promise.Views.{row_in, node_in, node_row_at, lists_of}
use Rattle.jv_volume.specs.promise.Slices.{records_naming}
use Rattle.jv_volume.specs.promise.Whole.{Whole}
use Rattle.jv_volume_bytes.specs.promise.Bytes.{KnownBytes, bytes_of, tree_with}
use Rattle.jv_volume_bytes.proofs.KeepLaws.{keeps-stay}
use Rattle.jv_data.specs.declared.copying.CopyCourse.{CopyCourse}
use Rattle.jv_data.specs.Changing.{Makes, AnyBytes, IsCrowded, IsFull, Changed, LandsChanged, Changes, count_in, may_change, KeepsRest}
use Rattle.jv_data.specs.Committing.{HasFile}
use Rattle.jv_data.specs.Copying.{Copying, CopiesLists, GetsPieces, AddsPieces}
use Rattle.jv_data.specs.Resizing.{ResizesFile, AreSized}
use Rattle.jv_data.specs.Truncating.{HasSlice, HaveSlices}
use Rattle.jv_data.proofs.commits.BeginningLaws.{content_found}
use Rattle.jv_data.proofs.commits.CommitLaws.{looks-any}
use Rattle.jv_data.proofs.copies.CopiedLaws.{crowded-copied, lives-copied, node-copied, pieces-last, rest-copied, whole-copied, others-copied, tree-copied_lists}
use Rattle.jv_data.proofs.lists.PartsLaws.{gets-none, get-copied, have-copied}
use Rattle.jv_data.proofs.files.RefusedLaws.{changes-refused}
use Rattle.jv_data.proofs.files.RestLaws.{drops-rest, of_left}
use Rattle.jv_volume.proofs.stored.QuietLaws.{drop-none}
use Rattle.jv_data.proofs.files.SizedLaws.{sized_rows}
use Rattle.jv_data.proofs.truncates.TruncateLaws.{has_named}
use Rattle.jv_data.proofs.files.CountersLaws.{fits-same}
use Rattle.jv_model.proofs.TestLaws.{if_some-by, of_known}

-- ---- the model's copy, by its steps

-- two files are there, one after the other
two_files : (b : Bool) (o p : Option Content) (f g h : Fault) (rest : ℕ → Result Outcome Fault)
    → ◌≡◌ {A = Result Outcome Fault} (require b f >>= (λ unit. some_or o g >>= (λ source. some_or p h >>= (λ target. rest source.length))))
    ((require b f >>= (λ unit. some_or o g >>= (λ content. Ok content.length)))
    >>= (λ n. (require b f >>= (λ unit. some_or p h >>= (λ content. Ok content.length))) >>= (λ m. rest n)))
two_files false o p f g h rest = refl
two_files true None p f g h rest = refl
two_files true (Some source) None f g h rest = refl
two_files true (Some source) (Some target) f g h rest = refl

-- a tree fits in place of itself
fits_same : (t : Tree) → fits t t ≡ true
fits_same t =
    and_from _ _ (fits-same (space_limit t.setting) (used_space t)) (fits-same (inode_limit t.setting) (used_inodes t))

-- the bytes of a file that a range of a file is copied to
abbrev bytes_copied : Option Content → Option Content → (from to n : ℕ) → ℕ → ℕ
bytes_copied (Some source) (Some content) from to n = (copied_over source from content to n).byte
bytes_copied _ _ from to n = λ p. 0

-- what two files have once a range of one was copied to the other
copied_files : (t : Tree) (now src from dst to n : ℕ) (source target : Content) → n ≢ 0 → content_at t src ≡ Some source → content_at t dst ≡ Some target
    → copied t now src from dst to n ≡ with_content t now dst (copied_over source from target to n)
copied_files t now src from dst to n source target some e f = rw (ne_eqb n 0 some, copied) (rw (e, f) refl)

-- what a record that came names
named_is : (added : List Rec) (id : ℕ) → IsTrue (is_named [] added id) → (id ≢ 0) × (0 < records_naming id added)
named_is added id is = by_count (id == 0) (0 + records_naming id added == 0) refl refl is
  where
    by_count : (a b : Bool) → (id == 0) ≡ a → (0 + records_naming id added == 0) ≡ b → (not a && not b) ≡ true → (id ≢ 0) × (0 < records_naming id added)
    by_count true b e f h = absurd (cc)
    by_count false true e f h = absurd (cc)
    by_count false false e f h = (eqb-false id 0 e, (let n = eqb-false (0 + records_naming id added) 0 f in omega (arith, n)))

-- counts that follow, by the records of the arguments
pub adjusts-as : (gone came added : List Rec) (due : ℕ) (before after : Store) (changes changed : List Change) (result : Result (Unit {0}) TxFault) → gone ≡ [] → came ≡ added
    → Adjusts gone came due before after changes changed result → Adjusts [] added due before after changes changed result
adjusts-as gone came added due before after changes changed result none same a =
    subst (λ (l : List Rec). Adjusts l added due before after changes changed result) none (subst (λ (l : List Rec). Adjusts gone l due before after changes changed result) same a)

module _ (sid now src dst from to len : ℕ) (due : Setting → ℕ) where
  -- by the number of bytes that were copied
  abbrev pub makes : ℕ → Makes
  makes count = record { own = 0; size = 0; more = count; due = due }

  -- of this many bytes
  abbrev last_step : ℕ → Tree → Result Outcome Fault
  last_step n t = answered (copied t now src from dst to n) (Count n)

  abbrev fitting : ℕ → Tree → Result Outcome Fault
  fitting n t = require (fits t (copied t now src from dst to n)) NoSpace >>= (λ unit. last_step n t)

  abbrev ending : ℕ → Tree → Result Outcome Fault
  ending n t = require (nat_le (to + n) FILE_END) FileTooLarge >>= (λ unit. fitting n t)

  abbrev starting : ℕ → Tree → Result Outcome Fault
  starting n t = require (not ((src == dst) && overlap from to n)) Invalid >>= (λ unit. ending n t)

  -- of two files that a session sees
  abbrev pub act : Tree → Result Outcome Fault
  act t = do
    _ ← session_there t sid
    source ← some_or (content_at t src) (Stale (GoneNode src))
    _ ← some_or (content_at t dst) (Stale (GoneNode dst))
    starting (min len (source.length - from)) t

  abbrev with_target : Tree → ℕ → Result Outcome Fault
  with_target t n = length_seen sid dst t >>= (λ m. starting (min len (n - from)) t)

  abbrev pub Ends : Store → Store → Result ℕ TxFault → Type 0
  Ends before after result = Changes {A = ℕ} (makes (count_in result)) AnyBytes (IsCrowded FILE_END) before after result (λ n. Count n) act

  ends-refused : (before after : Store) (fault : TxFault) → Looks {A = Outcome} before after (Err fault) act → Ends before after (Err fault)
  ends-refused before after fault l = changes-refused {A = ℕ} (makes 0) (IsCrowded FILE_END) (λ n. Count n) before after act fault l

  past_start : (before : Store) → Past before before act (λ t. length_seen sid src t >>= with_target t)
  past_start before = past-as before before before act act (past-start before act) (λ t. length_seen sid src t >>= with_target t) (λ known is whole bytes.
      (let t = tree_of bytes (typed known) in
      two_files (is_some (get t.sessions sid)) (content_at t src) (content_at t dst) _ _ _ (λ n. starting (min len (n - from)) t)))

  pub copy-no_source : (before after : Store) (fault : TxFault) → HasFile sid src before after (Err fault) → Ends before after (Err fault)
  copy-no_source before after fault h = ends-refused before after fault (past-stops before before after act (length_seen sid src) with_target (past_start before) fault h.looks)

  module _ (before seen : Store) (source : NodeRow) (h : HasFile sid src before seen (Ok source)) where
    past_source : Past before seen act (λ t. with_target t source.length)
    past_source = past-looks before before seen act (length_seen sid src) with_target (past_start before) source.length h.looks

    abbrev with_both : Tree → ℕ → Result Outcome Fault
    with_both t m = starting (min len (source.length - from)) t

    pub copy-no_target : (after : Store) (fault : TxFault) → HasFile sid dst seen after (Err fault) → Ends before after (Err fault)
    copy-no_target after fault g = ends-refused before after fault (past-stops before seen after act (length_seen sid dst) with_both past_source fault g.looks)

    module _ (both : Store) (target : NodeRow) (g : HasFile sid dst seen both (Ok target)) (n : ℕ) (n_is : n ≡ min len (min source.length FILE_END - from)) where
      at_seen : (known : RowMap) → before.rows ≡ Some known → seen.rows ≡ Some known
      at_seen known is = h.looks.rows_are ∙ is

      at_both : (known : RowMap) → before.rows ≡ Some known → both.rows ≡ Some known
      at_both known is = g.looks.rows_are ∙ at_seen known is

      source_there : (known : RowMap) → before.rows ≡ Some known → node_row_at (typed known) src ≡ Some source
      source_there known is = ap (λ o. node_in (row_in o))
          (of_known (λ known. get (typed known) (node_key src) ≡ Some (Ok (OfNode source))) seen.rows known (at_seen known is) h.stands)

      target_there : (known : RowMap) → before.rows ≡ Some known → node_row_at (typed known) dst ≡ Some target
      target_there known is = ap (λ o. node_in (row_in o))
          (of_known (λ known. get (typed known) (node_key dst) ≡ Some (Ok (OfNode target))) both.rows known (at_both known is) g.stands)

      past_both : Past before both act (starting n)
      past_both = past-as before both both act (λ t. with_both t target.length)
          (past-looks before seen both act (length_seen sid dst) with_both past_source target.length g.looks) (starting n)
          (λ known is whole bytes. ap (λ m. starting m (tree_of bytes (typed known))) (same known is whole))
        where
          same : (known : RowMap) → before.rows ≡ Some known → Whole (typed known) → min len (source.length - from) ≡ n
          same known is whole = (let small = whole.files.small src source (source_there known is) h.file in omega (arith, n_is, small))

      pub copy-overlaps : ((src == dst) && overlap from to n) ≡ true → Ends before both (Err (Refused Invalid))
      copy-overlaps is = ends-refused before both (Refused Invalid) (past-refuses before both act Invalid
          (past-as before both both act (starting n) past_both (λ t. Err Invalid) (λ known here whole bytes.
          ap (λ b. require (not b) Invalid >>= (λ unit. ending n (tree_of bytes (typed known)))) is)))

      module _ (apart : ((src == dst) && overlap from to n) ≡ false) where
        past_apart : Past before both act (ending n)
        past_apart = past-as before both both act (starting n) past_both (ending n) (λ known is whole bytes.
            ap (λ b. require (not b) Invalid >>= (λ unit. ending n (tree_of bytes (typed known)))) apart)

        pub copy-too_long : nat_le (to + n) FILE_END ≡ false → Ends before both (Err (Refused FileTooLarge))
        copy-too_long over = ends-refused before both (Refused FileTooLarge) (past-refuses before both act FileTooLarge
            (past-as before both both act (ending n) past_apart (λ t. Err FileTooLarge) (λ known is whole bytes.
            ap (λ b. require b FileTooLarge >>= (λ unit. fitting n (tree_of bytes (typed known)))) over)))

        module _ (within : nat_le (to + n) FILE_END ≡ true) where
          past_within : Past before both act (fitting n)
          past_within = past-as before both both act (ending n) past_apart (fitting n) (λ known is whole bytes.
              ap (λ b. require b FileTooLarge >>= (λ unit. fitting n (tree_of bytes (typed known)))) within)

          -- nothing is copied
          pub copy-none : n ≡ 0 → Ends before both (Ok 0)
          copy-none none = record {
            opened_at = past_within.opened_at;
            counts = past_within.calm;
            undone = tt;
            lands = λ known is whole known_bytes ready. record {
              left = known;
              is = past_within.rows_are ∙ is;
              whole = whole;
              others = keeps-stay (typed known) (typed known) (λ key of. refl) 0 0 refl;
              size = λ slice here. (let no = whole.slices.none in absurd (cc));
              dies = λ setting set id slice here gone. absurd (cc);
              dropped = drop-none (typed known);
              model = past_within.goes_on known is whole (bytes_of known_bytes (typed known))
                  ∙ ap (λ m. fitting m (tree_with known_bytes (typed known))) none
                  ∙ ap (λ b. require b NoSpace >>= (λ unit. answered (tree_with known_bytes (typed known)) (Count 0))) (fits_same (tree_with known_bytes (typed known)));
            };
            bad = tt;
          }

          -- and all rows are as before
          pub rest-none : KeepsRest {A = ℕ} dst before both (Ok 0)
          rest-none known after is whole here key other =
              ap (λ (r : RowMap). get (typed r) key) (same_Some after known (sym here ∙ past_within.rows_are ∙ is))

          pub pieces-nothing : AddsPieces src from dst to before both (Ok 0)
          pieces-nothing known after is whole here u =
              subst (λ (r : RowMap). GetsPieces (typed known) src from dst to 0 u (lists_of (typed r) dst u)) (same_Some known after (sym (past_within.rows_are ∙ is) ∙ here))
              (gets-none (typed known) src from dst to 0 u refl)

          module _ (some : n ≢ 0) where
            abbrev length : ℕ
            length = max target.length (to + n)

            abbrev course : CopyCourse
            course = record { source = src; from = from; target = dst; to = to; len = n }

            -- the content that the target gets
            abbrev content : Tree → Content
            content t = record { length = length; byte = bytes_copied (content_at t src) (content_at t dst) from to n }

            copied_is : (known : RowMap) → before.rows ≡ Some known → Whole (typed known) → (bytes : ℕ → ℕ → ℕ)
                → copied (tree_of bytes (typed known)) now src from dst to n
                ≡ with_content (tree_of bytes (typed known)) now dst (copied_over (content_of source.length (bytes src)) from (content_of target.length (bytes dst)) to n)
            copied_is known is whole bytes =
                copied_files (tree_of bytes (typed known)) now src from dst to n (content_of source.length (bytes src)) (content_of target.length (bytes dst)) some
                (content_found known src source whole (source_there known is) h.file bytes) (content_found known dst target whole (target_there known is) g.file bytes)

            content_is : (known : RowMap) → before.rows ≡ Some known → Whole (typed known) → (bytes : ℕ → ℕ → ℕ)
                → copied_over (content_of source.length (bytes src)) from (content_of target.length (bytes dst)) to n ≡ content (tree_of bytes (typed known))
            content_is known is whole bytes =
                (λ i. record {
                  length = length;
                  byte = bytes_copied (sym (content_found known src source whole (source_there known is) h.file bytes) i)
                      (sym (content_found known dst target whole (target_there known is) g.file bytes) i) from to n;
                })

            abbrev room : Tree → Result (Unit {0}) Fault
            room t = require (fits t (with_content t now dst (content t))) NoSpace

            past_room : Past before both act (λ t. room t >>= (λ unit. last_step n t))
            past_room = past-as before both both act (fitting n) past_within (λ t. room t >>= (λ unit. last_step n t)) (λ known is whole bytes.
                (let t = tree_of bytes (typed known) in
                ap (λ (x : Tree). require (fits t x) NoSpace >>= (λ unit. last_step n t))
                (copied_is known is whole bytes ∙ ap (with_content t now dst) (content_is known is whole bytes))))

            pub copy-no_room : (after : Store) (changes : List Change) (fault : TxFault) → ResizesFile dst target length now both after changes (Err fault)
                → Ends before after (Err fault)
            copy-no_room after changes fault r =
                ends-refused before after fault (past-stops before both after act room (λ t unit. last_step n t) past_room fault (r.looks content (λ t. refl)))

            module _ (sized : Store) (d1 : List Change) (r : ResizesFile dst target length now both sized d1 (Ok tt)) where
              past_sized : Past before sized act (last_step n)
              past_sized = past-looks before both sized act room (λ t unit. last_step n t) past_room tt (r.looks content (λ t. refl))

              pub copy-unread : (after : Store) (d2 : List Change) (fault : TxFault) → CopiesLists course sized after d1 d2 (Err fault) → Ends before after (Err fault)
              copy-unread after d2 fault z = ends-refused before after fault
                  (past-ends before sized after act (last_step n) past_sized (Err fault) (looks-any sized after fault (last_step n) z.looks))

              module _ (lists : Store) (d2 : List Change) (added : List Rec) (z : CopiesLists course sized lists d1 d2 (Ok added)) where
                past_lists : Past before lists act (last_step n)
                past_lists = past-calm before sized lists act (last_step n) past_sized z.looks.rows_are z.looks.opened_at z.looks.counts

                at_sized : (known : RowMap) → before.rows ≡ Some known → sized.rows ≡ Some known
                at_sized known is = (r.looks content (λ t. refl)).rows_are ∙ at_both known is

                at_lists : (known : RowMap) → before.rows ≡ Some known → lists.rows ≡ Some known
                at_lists known is = z.looks.rows_are ∙ at_sized known is

                before_lists : (known : RowMap) → lists.rows ≡ Some known → before.rows ≡ Some known
                before_lists known is = sym past_lists.rows_are ∙ is

                are_sized : (known : RowMap) → before.rows ≡ Some known → Whole (typed known) → AreSized (typed known) (drafted d1 known) dst target length now
                are_sized known is whole = r.sized known (at_both known is) whole

                -- each slice that is named has a row
                have : (known : RowMap) → lists.rows ≡ Some known → (id : ℕ) → id ≢ 0 → 0 < records_naming id added → HasSlice (drafted d2 known) id
                have known is id named naming =
                    let here = before_lists known is in
                    let y = z.copied known (at_sized known here) in
                    let row = has_named (typed known) id named added
                    (subst (HaveSlices (typed known)) (sym y.added_is) (have-copied (typed known) course y.parts n y.follow)) naming in
                    record {
                      slice = row.slice;
                      is = ap (λ (rows : Rows). get rows (slice_key id)) y.is
                          ∙ get-copied (typed known) course (drafted d1 known) y.parts (slice_key id) refl
                          ∙ r.leaves known (at_both known here) (slice_key id) refl
                          ∙ row.is;
                    }

                never_bad : (at : RowKey) (bad : List ℕ) → FailsToRecount [] added d2 lists.rows (OfRows (Bad at bad)) → (known : RowMap) → lists.rows ≡ Some known → ⊥
                never_bad at bad f known is =
                    let p = named_is added f.id f.named in
                    let row = have known is f.id p.0 p.1 in
                    let no = of_known (λ known. IsNoRow (get (drafted d2 known) (slice_key f.id)) bad) lists.rows known is f.why.1 in
                    subst (λ c. IsNoRow c bad) row.is no

                module _ (known : RowMap) (is : before.rows ≡ Some known) (whole : Whole (typed known)) where
                  abbrev s : AreSized (typed known) (drafted d1 known) dst target length now
                  s = are_sized known is whole

                  abbrev sized_known : Rows
                  sized_known = sized_rows (typed known) dst target s.counters now length whole (target_there known is) g.file s.there

                  small : length ≤ FILE_END
                  small = (let least = whole.files.small dst target (target_there known is) g.file in let end = leb-true (to + n) FILE_END within in omega (arith, least, end))

                  y : Copying course n (typed known) sized_known (drafted d2 known) added
                  y = subst (λ (rows : Rows). Copying course n (typed known) rows (drafted d2 known) added) s.is (z.copied known (at_sized known is))

                  crowded : (known_bytes : KnownBytes) (fault : Fault) → FailsToRecount [] added d2 lists.rows (Refused fault)
                      → IsFull (IsCrowded FILE_END) (typed known) fault (act (tree_with known_bytes (typed known)))
                  crowded known_bytes fault f = record {
                    fault_is = f.why.0;
                    full =
                        (let p = named_is added f.id f.named in
                        let full = of_known (λ known. CountIsFull f.id 0 (records_naming f.id added) (drafted d2 known)) lists.rows known (at_lists known is) f.why.1 in
                        let many = crowded-copied (typed known) course target s.counters now length whole (target_there known is) g.file s.there small refl
                        (drafted d2 known) added y f.id (omega (arith, p.0)) full in
                        let end = leb-true (to + n) FILE_END within in
                        omega (arith, many, end));
                    otherwise = subst (λ (r : Result Outcome Fault). IfErr r (λ other. other ≡ NoSpace))
                        (sym (past_lists.goes_on known is whole (bytes_of known_bytes (typed known)))) tt;
                  }

                -- counts that didn't follow
                lands_uncounted : (after : Store) (fault : TxFault) → RefusesAdjust [] added d2 lists.rows fault → (known : RowMap) → before.rows ≡ Some known → Whole (typed known)
                    → (known_bytes : KnownBytes) → LandsChanged {A = ℕ} (makes 0) (IsCrowded FILE_END) known after.rows known_bytes (λ n. Count n) act (Err fault)
                lands_uncounted after (Refused fault) f known is whole known_bytes = inr (crowded known is whole known_bytes fault f)
                lands_uncounted after (Moved list) f known is whole known_bytes = f
                lands_uncounted after (OfRows (Bad at bad)) f known is whole known_bytes = never_bad at bad f known (at_lists known is)
                lands_uncounted after (OfRows Failed) f known is whole known_bytes = tt
                lands_uncounted after (OfRows Memory) f known is whole known_bytes = tt

                bad_uncounted : (fault : TxFault) → RefusesAdjust [] added d2 lists.rows fault → (known : RowMap) → before.rows ≡ Some known → BadFault (typed known) fault
                bad_uncounted (Refused fault) f known is = tt
                bad_uncounted (Moved list) f known is = tt
                bad_uncounted (OfRows (Bad at bad)) f known is = absurd (never_bad at bad f known (at_lists known is))
                bad_uncounted (OfRows Failed) f known is = tt
                bad_uncounted (OfRows Memory) f known is = tt

                pub copy-uncounted : (after : Store) (d3 : List Change) (fault : TxFault) → Adjusts [] added 0 lists after d2 d3 (Err fault) → Ends before after (Err fault)
                copy-uncounted after d3 fault a = record {
                  opened_at = a.opened_at ∙ past_lists.opened_at;
                  counts = subst (λ m. TransactionCounts {A = ℕ} m after.faults (Err fault)) past_lists.calm a.counts;
                  undone = a.rows_are ∙ past_lists.rows_are;
                  lands = λ known is whole known_bytes ready. lands_uncounted after fault a.refused known is whole known_bytes;
                  bad = if_some-by (λ known. BadFault (typed known) fault) before.rows (λ known is. bad_uncounted fault a.refused known is);
                }

                module _ (counted : Store) (d3 : List Change) (a : Adjusts [] added 0 lists counted d2 d3 (Ok tt)) where
                  past_counted : Past before counted act (last_step n)
                  past_counted = past-calm before lists counted act (last_step n) past_lists a.rows_are a.opened_at a.counts

                  pub copy-down : (after : Store) (down : Down) → Commits counted after (Err down) d3 → Ends before after (Err (OfRows (row_fault down)))
                  copy-down after down commits = ends-refused before after (OfRows (row_fault down))
                      (past-fails before counted after act (last_step n) past_counted (OfRows (row_fault down)) (fails-commit counted after down d3 commits))

                  module _ (last : Store) (commits : Commits counted last (Ok tt) d3) (known : RowMap) (is : before.rows ≡ Some known) (whole : Whole (typed known)) where
                    abbrev left : Rows
                    left = drafted d3 known

                    adjusted : Adjusted [] added 0 (drafted d2 known) left
                    adjusted = of_known (λ known. Adjusted [] added 0 (drafted d2 known) (drafted d3 known)) lists.rows known (at_lists known is) a.done

                    enough : n ≤ n
                    enough = omega arith

                    whole_left : Whole left
                    whole_left = whole-copied (typed known) course target (s known is whole).counters now length whole (target_there known is) g.file (s known is whole).there (small known is whole) refl
                        (drafted d2 known) added (y known is whole) n 0 enough left adjusted (s known is whole).given

                    rest_left : (key : RowKey) → may_change dst key ≡ false → get left key ≡ get (typed known) key
                    rest_left = rest-copied (typed known) course target (s known is whole).counters now length whole (target_there known is) g.file (s known is whole).there (small known is whole) refl
                        (drafted d2 known) added (y known is whole) n 0 enough left adjusted

                    pieces_left : (u : ℕ) → GetsPieces (typed known) src from dst to n u (lists_of left dst u)
                    pieces_left = pieces-last (typed known) course target (s known is whole).counters now length whole (target_there known is) g.file (s known is whole).there (small known is whole) refl
                        (drafted d2 known) added (y known is whole) n 0 enough left adjusted

                    stands : last.rows ≡ Some (applied d3 known)
                    stands = commits.content_is ∙ ap (option_map (applied d3)) (past_counted.rows_are ∙ is)

                    changed : (known_bytes : KnownBytes) → Changed (makes n) known last.rows known_bytes (Count n) act
                    unfolding drafted
                    changed known_bytes = record {
                      left = applied d3 known;
                      is = stands;
                      whole = whole_left;
                      others = others-copied (typed known) course target (s known is whole).counters now length whole (target_there known is) g.file (s known is whole).there (small known is whole) refl
                          (drafted d2 known) added (y known is whole) n 0 enough left adjusted (s known is whole).given;
                      size = λ slice here. (let none = whole_left.slices.none in absurd (cc));
                      dropped = drops-rest (typed known) left dst _ rest_left (node-copied (typed known) course target (s known is whole).counters now length whole (target_there known is) g.file
                          (s known is whole).there (small known is whole) refl (drafted d2 known) added (y known is whole) n 0 enough left adjusted (s known is whole).given);
                      dies = λ setting set id slice here gone. absurd (lives-copied (typed known) course target (s known is whole).counters now length whole (target_there known is) g.file
                          (s known is whole).there (small known is whole) refl (drafted d2 known) added (y known is whole) n 0 enough left adjusted id slice here gone);
                      model = past_counted.goes_on known is whole (bytes_of known_bytes (typed known))
                          ∙ ap (λ (x : Tree). answered x (Count n)) (copied_is known is whole (bytes_of known_bytes (typed known))
                          ∙ sym (tree-copied_lists (typed known) course target (s known is whole).counters now length whole (target_there known is) g.file (s known is whole).there (small known is whole) refl
                          (drafted d2 known) added (y known is whole) n 0 enough left adjusted known_bytes source (source_there known is) h.file));
                    }

                  pub copy-done : (last : Store) → Commits counted last (Ok tt) d3 → Ends before last (Ok n)
                  copy-done last commits = record {
                    opened_at = commits.opened_at ∙ past_counted.opened_at;
                    counts = commits.calm ∙ past_counted.calm;
                    undone = tt;
                    lands = λ known is whole known_bytes ready. changed last commits known is whole known_bytes;
                    bad = tt;
                  }

                  -- and all other rows are as before
                  pub rest-done : (last : Store) → Commits counted last (Ok tt) d3 → KeepsRest {A = ℕ} dst before last (Ok n)
                  rest-done last commits known after is whole here key other =
                      of_left (λ rows. get rows key ≡ get (typed known) key) d3 known after last.rows (stands last commits known is whole) here
                      (rest_left last commits known is whole key other)

                  pub pieces-done : (last : Store) → Commits counted last (Ok tt) d3 → AddsPieces src from dst to before last (Ok n)
                  pieces-done last commits known after is whole here u =
                      of_left (λ rows. GetsPieces (typed known) src from dst to n u (lists_of rows dst u)) d3 known after last.rows (stands last commits known is whole) here
                      (pieces_left last commits known is whole u)

-- ---- by the caller of the model

copy-as : (t : Tree) (caller : Caller) (sid now src dst from to len : ℕ) (due : Setting → ℕ) → caller.sid ≡ sid → caller.now ≡ now → caller.inode ≡ src
    → caller.other ≡ dst → copy t caller from to len ≡ act sid now src dst from to len due t
unfolding copy
copy-as t caller sid now src dst from to len due s n i o = λ k. act (s k) (n k) (i k) (o k) from to len due t

pub ends-as : (who : Who) (src dst from to len now : ℕ) (due : Setting → ℕ) (before after : Store) (result : Result ℕ TxFault) → now ≡ who.now
    → Ends who.sid now src dst from to len due before after result
    → (caller : Caller) → IsFor who caller → caller.inode ≡ src → caller.other ≡ dst
    → Changes {A = ℕ} (record { own = 0; size = 0; more = count_in result; due = due }) AnyBytes (IsCrowded FILE_END) before after result (λ n. Count n) (λ t. copy t caller from to len)
ends-as who src dst from to len now due before after result now_is e caller for of to_other =
    subst (λ (act : Tree → Result Outcome Fault).
    Changes {A = ℕ} (record { own = 0; size = 0; more = count_in result; due = due }) AnyBytes (IsCrowded FILE_END) before after result (λ n. Count n) act)
    (λ i t. sym (copy-as t caller who.sid now src dst from to len due for.sid (for.now ∙ sym now_is) of to_other) i) e
