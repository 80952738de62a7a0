-- How the parts of a copy are added to the lists of its target, one window after another.
use Rattle.std.proofs.Common.{◌≡◌, ℕ, ◌+◌, ◌%◌, ◌<◌, true, List, [], ◌∷◌, ◌++◌, length, Some, Ok, Err, Result, refl, ap, ◌∙◌, arith}
use Rattle.std.specs.Prelude.{◌&&◌, IsTrue}
use Rattle.std.specs.List.{AllByRecursion, list_all}
use Rattle.jv_model.specs.declared.fault.TxFault.{TxFault}
use Rattle.jv_model.specs.declared.limits.TheConstants.{WINDOW}
use Rattle.jv_model.specs.declared.row.Row.TheVariants.{OfList}
use Rattle.jv_model.specs.declared.slice.Rec.{Rec}
use Rattle.jv_model.specs.FiniteMap.{alter}
use Rattle.jv_model.specs.promise.blocks.Slices.{IsRecord, is_record}
use Rattle.jv_model.specs.promise.rows.RowGrammar.{is_list}
use Rattle.jv_model.specs.promise.rows.RowKeys.{RowMap}
use Rattle.jv_model.specs.promise.rows.RowPlaces.{list_key}
use Rattle.jv_outside.specs.declared.batch.Change.{Change}
use Rattle.jv_outside.specs.promise.Store.{Store}
use Rattle.jv_rows.specs.Drafts.{drafted, cell}
use Rattle.jv_rows.specs.Transactions.{Looks}
use Rattle.jv_volume.specs.promise.TypedRows.{typed}
use Rattle.jv_volume.specs.promise.Views.{lists_of}
use Rattle.jv_data.specs.declared.copying.CopyCourse.{CopyCourse}
use Rattle.jv_data.specs.Copying.{ShowsRange, part_len, window_at, rows_added, CopiesPart, Copying, CopiesLists}
use Rattle.jv_data.specs.Records.{HasRecords}
use Rattle.jv_data.proofs.truncates.TruncateLaws.{looks-then}
use Rattle.jv_model.proofs.TestLaws.{of_known}

-- records that are allowed pass the test
pub all_allowed : (list : List Rec) → AllByRecursion IsRecord list → list_all is_record list ≡ true
all_allowed [] all = refl
all_allowed (r ∷ rs) all = (λ i. all.0 i && all_allowed rs all.1 i)

-- a list with more records is one that the grammar allows
pub is_list-append : (list more : List Rec) → AllByRecursion IsRecord list → AllByRecursion IsRecord more → 0 < length more → IsTrue (is_list (list ++ more))
is_list-append [] [] all come some = absurd (omega (arith, some))
is_list-append [] (r ∷ rs) all come some = all_allowed (r ∷ rs) come
is_list-append (x ∷ xs) more all come some = (λ i. all.0 i && records xs all.1 i)
  where
    records : (list : List Rec) → AllByRecursion IsRecord list → list_all is_record (list ++ more) ≡ true
    records [] all = all_allowed more come
    records (r ∷ rs) all = (λ i. all.0 i && records rs all.1 i)

-- ---- one part

module _ (c : CopyCourse) (done : ℕ) (before : Store) (changes : List Change) where
  abbrev pos : ℕ
  pos = (c.to + done) % WINDOW

  abbrev Shows : Store → Result (List Rec) TxFault → Type 0
  Shows read result = ShowsRange c.source (c.from + done) pos (part_len c done) before read result

  module _ (read : Store) (new : List Rec) (s : Shows read (Ok new)) where
    pub part-unread : (after : Store) (fault : TxFault) → HasRecords c.target (window_at c done) read after (Err fault)
        → CopiesPart c done before after changes changes (Err fault)
    part-unread after fault h = record { looks = looks-then before read after (Err fault) s.looks h.looks; shows = tt; added = tt }

    module _ (after : Store) (old : List Rec) (h : HasRecords c.target (window_at c done) read after (Ok old)) where
      both : Looks {A = Unit {0}} before after (Ok tt) (λ t. Ok tt)
      both = looks-then before read after (Ok tt) s.looks h.looks

      pub part-added : (changed : List Change)
          → ((known : RowMap) → drafted changed known ≡ alter (drafted changes known) (list_key c.target (window_at c done)) (cell OfList (Some (old ++ new))))
          → CopiesPart c done before after changes changed (Ok new)
      part-added changed put = record {
        looks = both;
        shows = s.shows;
        added = λ known is. put known ∙ ap (λ (l : List Rec). alter (drafted changes known) (list_key c.target (window_at c done)) (Some (Ok (OfList (l ++ new)))))
            (of_known (λ known. old ≡ lists_of (typed known) c.target (window_at c done)) read.rows known (s.looks.rows_are ∙ is) h.list);
      }

-- ---- one part after another

-- `done` bytes are copied
pub record IsCopying (c : CopyCourse) (before now : Store) (changes changed : List Change) (done : ℕ) (added : List Rec) : Type 0 where
  pub looks : Looks {A = Unit {0}} before now (Ok tt) (λ t. Ok tt)
  pub so_far : (known : RowMap) → before.rows ≡ Some known → Copying c done (typed known) (drafted changes known) (drafted changed known) added

module _ (c : CopyCourse) (before now : Store) (changes changed : List Change) (done : ℕ) (added : List Rec) (p : IsCopying c before now changes changed done added) where
  pub copying-fails : (after : Store) (last : List Change) (fault : TxFault) → CopiesPart c done now after changed last (Err fault)
      → CopiesLists c before after changes last (Err fault)
  copying-fails after last fault z = record { looks = looks-then before now after (Err fault) p.looks z.looks; copied = tt }

  module _ (after : Store) (last : List Change) (new : List Rec) (z : CopiesPart c done now after changed last (Ok new)) where
    pub copying-more : done < c.len → (next : ℕ) → next ≡ done + part_len c done → (more : List Rec) → more ≡ added ++ new
        → IsCopying c before after changes last next more
    copying-more less next next_is more more_is = record {
      looks = looks-then before now after (Ok tt) p.looks z.looks;
      so_far = λ known is.
          (let q = p.so_far known is in
          let here : now.rows ≡ Some known = p.looks.rows_are ∙ is in
          record {
            parts = (done, new) ∷ q.parts;
            follow = (less, next_is, z.shows known here, q.follow);
            added_is = more_is ∙ ap (λ l. l ++ new) q.added_is;
            is = z.added known here ∙ ap (rows_added (typed known) c done new) q.is;
          });
    }
