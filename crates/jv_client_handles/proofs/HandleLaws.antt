-- Open files of a client stand for the model's: while others go on, as handles are named, opened and closed, as windows
-- are looked at, and as files change.
use Rattle.std.proofs.Common.{◌≡◌, ℕ, ◌+◌, ◌≤◌, List, [], ◌∷◌, map, Option, None, Some, refl, sym, ap, subst, ◌∙◌}
use Rattle.std.proofs.Common.{arith}
use Rattle.std.specs.Prelude.{if◌then◌else◌, is_some}
use Rattle.std.specs.List.{AllByRecursion}
use Rattle.std.proofs.lemmas.Bool.Decides.{eqb_tells}
use Rattle.std.proofs.lemmas.Bool.{cases_eq}
use Rattle.std.proofs.Common.{inl, inr}
use Rattle.jv_model.specs.promise.client.ModelClient.{OpenFile, View as ModelView, file_of, free_handle, held_inodes, inode_in}
use Rattle.jv_model.specs.promise.client.ModelClient.{open_count, views_without, with_file}
use Rattle.jv_model.specs.promise.journal.Reading.{fresh_view}
use Rattle.jv_model.specs.promise.tree.Tree.{Tree}
use Rattle.jv_model.specs.promise.Lists.{is_among}
use Rattle.jv_client_shared.specs.promise.Shared.{HasStore, Known, Shared}
use Rattle.jv_client_shared.specs.Seen.{IsView}
use Rattle.jv_client_shared.specs.Keeping.{KeepsShared}
use Rattle.jv_client_shared.proofs.StoreLaws.{view-stays}
use Rattle.jv_client_handles.specs.declared.handle.Handle.{Handle}
use Rattle.jv_client_handles.specs.declared.views.View.{View}
use Rattle.jv_client_handles.specs.Views.{no_views, view_at, with_view}
use Rattle.jv_client_handles.specs.Handles.{held_here, inode_here, inode_of_handle, new_handle, seen_by, unseen, unseen_by}
use Rattle.jv_client_handles.specs.Held.{AreHandles, IsHandle, IsSeen, SamePlace, SameTable}
use Rattle.jv_client_handles.proofs.TableLaws.{count-same, file-same, free-same, same_place-by, same_table-by, same-with_file}
use Rattle.jv_client_handles.proofs.TableLaws.{same-with_files, some-same, there_in}
use Rattle.jv_client_handles.proofs.UnseenLaws.{unseen_by-seen_by}
use Rattle.jv_client_handles.proofs.SeenLaws.{fresh-beside, fresh-dropped, fresh-elsewhere, fresh-kept, fresh-none}
use Rattle.jv_client_handles.proofs.SeenLaws.{fresh-taken, view_at-other, view_at-own}

-- ---- while others go on

module _ (t : Tree) (g : Known) (v : Shared) (s : HasStore t g v) (own : ℕ) (g' : Known) (v' : Shared)
    (k : KeepsShared own g g' v v') where
  pub seen-stays : (window : ℕ) (m : ModelView) (view : View) → IsSeen g v window m view → IsSeen g' v' window m view
  seen-stays window m view h = record {
    entry = h.entry;
    shows = view-stays t g v s own g' v' k window view.length view.list m.content h.shows;
  }

  module _ (views : List ModelView) (count later : ℕ) (le : count ≤ later) where
    pub handle-stays : (number : ℕ) (file : OpenFile) (handle : Handle) → IsHandle g v views count number file handle
        → IsHandle g' v' views later number file handle
    handle-stays number file handle h = record {
      inode = h.inode;
      opened = h.opened;
      before = (let before = h.before in omega (arith, before, le));
      seen = λ window.
          same_place-by (IsSeen g v window) (IsSeen g' v' window) (fresh_view views number file window)
          (view_at handle.views window)
          (seen-stays window) (h.seen window);
    }

    pub handles-stay : (files : List (Option OpenFile)) (handles : List (Option Handle))
        → AreHandles g v views count files handles
        → AreHandles g' v' views later files handles
    handles-stay files handles h =
        same_table-by (IsHandle g v views count) (IsHandle g' v' views later) 1 files handles handle-stays h

-- ---- over what clients share, as it is

module _ (g : Known) (v : Shared) where
  -- after more entries

  pub handle-later : (views : List ModelView) (count later : ℕ) → count ≤ later
      → (number : ℕ) (file : OpenFile) (handle : Handle)
      → IsHandle g v views count number file handle → IsHandle g v views later number file handle
  handle-later views count later le number file handle h = record {
    inode = h.inode;
    opened = h.opened;
    before = (let before = h.before in omega (arith, before, le));
    seen = h.seen;
  }

  pub handles-later : (views : List ModelView) (count later : ℕ) → count ≤ later
      → (files : List (Option OpenFile)) (handles : List (Option Handle))
      → AreHandles g v views count files handles → AreHandles g v views later files handles
  handles-later views count later le files handles h =
      same_table-by (IsHandle g v views count) (IsHandle g v views later) 1 files handles
      (handle-later views count later le) h

  -- what handles name

  module _ (views : List ModelView) (count : ℕ) (files : List (Option OpenFile)) (handles : List (Option Handle))
      (h : AreHandles g v views count files handles) where
    pub handles-named : (number : ℕ) → SamePlace (IsHandle g v views count number) (file_of files number)
        (file_of handles number)
    handles-named number = file-same (IsHandle g v views count) files handles h number

    pub handles-some : (number : ℕ) → is_some (file_of files number) ≡ is_some (file_of handles number)
    handles-some number =
        some-same (IsHandle g v views count number) (file_of files number) (file_of handles number)
        (handles-named number)

    -- the model's file of a handle that is open
    pub handles-there : (number : ℕ) (handle : Handle) → file_of handles number ≡ Some handle
        → (file : OpenFile) × (file_of files number ≡ Some file) × IsHandle g v views count number file handle
    handles-there number handle is =
        there_in (IsHandle g v views count number) (file_of files number) (file_of handles number) handle is
        (handles-named number)

    pub handles-inode : (number : ℕ) → inode_in (file_of files number) ≡ inode_here handles number
    handles-inode number = by_place (file_of files number) (file_of handles number) (handles-named number)
      where
        by_place : (file : Option OpenFile) (handle : Option Handle)
            → SamePlace (IsHandle g v views count number) file handle
            → inode_in file ≡ inode_of_handle handle
        by_place None None same = refl
        by_place None (Some handle) same = absurd same
        by_place (Some file) None same = absurd same
        by_place (Some file) (Some handle) same = same.inode

    pub handles-free : free_handle files ≡ free_handle handles
    handles-free = free-same (IsHandle g v views count) 1 1 files handles h

    pub handles-count : open_count files ≡ open_count handles
    handles-count = count-same (IsHandle g v views count) 1 files handles h

  held-from : (views : List ModelView) (count number : ℕ) (files : List (Option OpenFile))
      (handles : List (Option Handle))
      → SameTable (IsHandle g v views count) number files handles → held_inodes files ≡ held_here handles
  held-from views count number [] [] h = refl
  held-from views count number [] (handle ∷ handles) h = absurd h
  held-from views count number (file ∷ files) [] h = absurd h
  held-from views count number (None ∷ files) (None ∷ handles) h = held-from views count (number + 1) files handles h.1
  held-from views count number (None ∷ files) (Some handle ∷ handles) h = absurd h.0
  held-from views count number (Some file ∷ files) (None ∷ handles) h = absurd h.0
  held-from views count number (Some file ∷ files) (Some handle ∷ handles) h =
      ap (λ n. n ∷ held_inodes files) h.0.inode ∙ ap (λ inodes. handle.inode ∷ inodes)
      (held-from views count (number + 1) files handles h.1)

  pub handles-held : (views : List ModelView) (count : ℕ) (files : List (Option OpenFile))
      (handles : List (Option Handle))
      → AreHandles g v views count files handles → held_inodes files ≡ held_here handles
  handles-held views count files handles h = held-from views count 1 files handles h

  -- a file is opened

  -- an open file of the model
  abbrev pub opened_by : ℕ → ℕ → OpenFile
  opened_by inode entry = record { inode = inode; opened = entry }

  module _ (views : List ModelView) (entry : ℕ)
      (old : AllByRecursion (λ (view : ModelView). view.entry ≤ entry) views) where
    -- nothing is seen of it yet
    new-seen : (inode number window : ℕ)
        → SamePlace (IsSeen g v window) (fresh_view views number (opened_by inode entry) window)
        (view_at no_views window)
    new-seen inode number window =
        subst (λ (o : Option ModelView). SamePlace (IsSeen g v window) o None)
        (sym (fresh-none number (opened_by inode entry) window views old)) tt

    pub handle-new : (inode number : ℕ) → IsHandle g v views entry number (opened_by inode entry)
        (new_handle inode entry)
    handle-new inode number = record { inode = refl; opened = refl; before = omega arith; seen = new-seen inode number }

  module _ (views : List ModelView) (count entry inode : ℕ) (next : entry ≡ count + 1)
      (old : AllByRecursion (λ (view : ModelView). view.entry ≤ entry) views) (files : List (Option OpenFile))
      (handles : List (Option Handle)) (h : AreHandles g v views count files handles) where
    -- At any handle, by an entry that no view is newer than.
    pub handles-opened : (number : ℕ)
        → AreHandles g v views entry (with_file number (Some (opened_by inode entry)) files)
        (with_file number (Some (new_handle inode entry)) handles)
    handles-opened number =
        same-with_files (IsHandle g v views entry) (Some (opened_by inode entry)) (Some (new_handle inode entry))
        (handle-new views entry old inode) number files handles
        (handles-later views count entry (omega (arith, next)) files handles h)

    -- The model and the code take the same one.
    pub handles-open : AreHandles g v views entry (with_file (free_handle files) (Some (opened_by inode entry)) files)
        (with_file (free_handle handles) (Some (new_handle inode entry)) handles)
    handles-open =
        subst
        (λ n. AreHandles g v views entry (with_file (free_handle files) (Some (opened_by inode entry)) files)
        (with_file n (Some (new_handle inode entry)) handles))
        (handles-free views count files handles h) (handles-opened (free_handle files))

  -- a file is closed
  pub handles-close : (views : List ModelView) (count number : ℕ) (files : List (Option OpenFile))
      (handles : List (Option Handle))
      → AreHandles g v views count files handles → AreHandles g v views count (with_file number None files)
      (with_file number None handles)
  handles-close views count number files handles h =
      same-with_files (IsHandle g v views count) None None (λ n. tt) number files handles h

  -- Whether a file is open by another handle than one is the same of both.
  pub handles-elsewhere : (views : List ModelView) (count number inode : ℕ) (files : List (Option OpenFile))
      (handles : List (Option Handle)) → AreHandles g v views count files handles
      → is_among inode (held_inodes (with_file number None files))
      ≡ is_among inode (held_here (with_file number None handles))
  handles-elsewhere views count number inode files handles h =
      ap (is_among inode)
      (handles-held views count (with_file number None files) (with_file number None handles)
      (handles-close views count number files handles h))

  -- ---- a window is looked at

  -- The latest view is one of a window of this file, taken by the next entry.
  module _ (views : List ModelView) (count : ℕ) (taken : ModelView) (view : View) (entry : taken.entry ≡ view.entry)
      (next : view.entry ≡ count + 1) (shows : IsView g v taken.window view.length view.list taken.content) where
    looked-seen : (number : ℕ) (file : OpenFile) (handle : Handle) → taken.handle ≡ number → taken.inode ≡ file.inode
        → IsHandle g v views count number file handle → (window : ℕ)
        → SamePlace (IsSeen g v window) (fresh_view (taken ∷ views) number file window)
        (view_at (with_view taken.window view handle.views) window)
    looked-seen number file handle mine inode h window = elim (cases_eq taken.window window) [
      | inl own ↦
          let before = h.before in
          let fresh = fresh-taken number file window taken views mine inode own (omega (arith, before, entry, next)) in
          let kept : view_at (with_view taken.window view handle.views) window ≡ Some view =
          ap (view_at (with_view taken.window view handle.views)) (sym own)
          ∙ view_at-own taken.window view handle.views in
          let is : IsSeen g v window taken view =
          subst (λ n. IsSeen g v n taken view) own (record { entry = entry; shows = shows }) in
          subst (λ (o : Option View). SamePlace (IsSeen g v window) (fresh_view (taken ∷ views) number file window) o)
          (sym kept)
          (subst (λ (o : Option ModelView). SamePlace (IsSeen g v window) o (Some view)) (sym fresh) is)
      | inr apart ↦
          subst (λ (o : Option View). SamePlace (IsSeen g v window) (fresh_view (taken ∷ views) number file window) o)
          (sym (view_at-other taken.window view handle.views window apart))
          (subst (λ (o : Option ModelView). SamePlace (IsSeen g v window) o (view_at handle.views window))
          (sym (fresh-beside number file window taken views apart)) (h.seen window))
    ]

    -- the handle that looked
    pub handle-looked : (number : ℕ) (file : OpenFile) (handle : Handle) → taken.handle ≡ number
        → taken.inode ≡ file.inode
        → IsHandle g v views count number file handle
        → IsHandle g v (taken ∷ views) (count + 1) number file
        (record handle { views = with_view taken.window view handle.views })
    handle-looked number file handle mine inode h = record {
      inode = h.inode;
      opened = h.opened;
      before = (let before = h.before in omega (arith, before));
      seen = looked-seen number file handle mine inode h;
    }

    -- all others have what they had
    handle-beside : (number : ℕ) (file : OpenFile) (handle : Handle) → (number ≡ taken.handle → ⊥)
        → IsHandle g v views count number file handle
        → IsHandle g v (taken ∷ views) (count + 1) number file handle
    handle-beside number file handle apart h = record {
      inode = h.inode;
      opened = h.opened;
      before = (let before = h.before in omega (arith, before));
      seen = λ window.
          subst (λ (o : Option ModelView). SamePlace (IsSeen g v window) o (view_at handle.views window))
          (sym (fresh-elsewhere number file window taken views (λ e. apart (sym e)))) (h.seen window);
    }

    pub handles-looked : (files : List (Option OpenFile)) (handles : List (Option Handle)) (file : OpenFile)
        → file_of files taken.handle ≡ Some file → taken.inode ≡ file.inode → AreHandles g v views count files handles
        → AreHandles g v (taken ∷ views) (count + 1) files
        (with_file taken.handle (seen_by taken.window view (file_of handles taken.handle)) handles)
    handles-looked files handles file is inode h = by_handle (file_of handles taken.handle) refl
      where
        by_handle : (o : Option Handle) → file_of handles taken.handle ≡ o
            → AreHandles g v (taken ∷ views) (count + 1) files
            (with_file taken.handle (seen_by taken.window view o) handles)
        by_handle None e =
            absurd (cc (sym (ap is_some is) ∙ handles-some views count files handles h taken.handle ∙ ap is_some e))
        by_handle (Some handle) e =
            let own = handles-there views count files handles h taken.handle handle e in
            let same : own.0 ≡ file = cc (sym own.1 ∙ is) in
            let mine : IsHandle g v views count taken.handle file handle =
            subst (λ (f : OpenFile). IsHandle g v views count taken.handle f handle) same own.2 in
            same-with_file (IsHandle g v views count) (IsHandle g v (taken ∷ views) (count + 1)) taken.handle files
            handles file handle
            (record handle { views = with_view taken.window view handle.views }) is e handle-beside
            (handle-looked taken.handle file handle refl inode mine) h

  -- A look at a window that its handle had no view of, when it is undone, leaves the table as it was.
  pub handles-undone : (views : List ModelView) (count window : ℕ) (view : View) (files : List (Option OpenFile))
      (handles : List (Option Handle)) (number : ℕ) (handle : Handle) → file_of handles number ≡ Some handle
      → view_at handle.views window ≡ None → (looked : List (Option Handle))
      → looked ≡ with_file number (seen_by window view (file_of handles number)) handles
      → AreHandles g v views count files handles
      → AreHandles g v views count files (with_file number (unseen_by window (file_of looked number)) looked)
  handles-undone views count window view files handles number handle there none looked is h =
      subst (AreHandles g v views count files)
      (sym (unseen_by-seen_by window view handles number handle there none looked is)) h

  -- ---- a file changed

  module _ (views : List ModelView) (count inode : ℕ) where
    forgotten : (number : ℕ) (file : OpenFile) (handle : Handle) → IsHandle g v views count number file handle
        → SamePlace (IsHandle g v (views_without inode views) count number) (Some file) (unseen inode (Some handle))
    forgotten number file handle h = elim (eqb_tells handle.inode inode) [
      | inl same ↦
          subst (λ b. SamePlace (IsHandle g v (views_without inode views) count number) (Some file)
          (if b then Some (record handle { views = no_views }) else Some handle)) (sym same.0)
          (record {
            inode = h.inode;
            opened = h.opened;
            before = h.before;
            seen = λ window.
                subst (λ (o : Option ModelView). SamePlace (IsSeen g v window) o None)
                (sym (fresh-dropped inode number file window views (h.inode ∙ same.1))) tt;
          })
      | inr other ↦
          subst (λ b. SamePlace (IsHandle g v (views_without inode views) count number) (Some file)
          (if b then Some (record handle { views = no_views }) else Some handle)) (sym other.0)
          (record {
            inode = h.inode;
            opened = h.opened;
            before = h.before;
            seen = λ window.
                subst (λ (o : Option ModelView). SamePlace (IsSeen g v window) o (view_at handle.views window))
                (sym (fresh-kept inode number file window views (λ e. other.1 (sym h.inode ∙ e)))) (h.seen window);
          })
    ]

    place-forgotten : (number : ℕ) (file : Option OpenFile) (handle : Option Handle)
        → SamePlace (IsHandle g v views count number) file handle
        → SamePlace (IsHandle g v (views_without inode views) count number) file (unseen inode handle)
    place-forgotten number None None h = tt
    place-forgotten number None (Some handle) h = absurd h
    place-forgotten number (Some file) None h = absurd h
    place-forgotten number (Some file) (Some handle) h = forgotten number file handle h

    table-forgotten : (number : ℕ) (files : List (Option OpenFile)) (handles : List (Option Handle))
        → SameTable (IsHandle g v views count) number files handles
        → SameTable (IsHandle g v (views_without inode views) count) number files (map (unseen inode) handles)
    table-forgotten number [] [] h = tt
    table-forgotten number [] (handle ∷ handles) h = absurd h
    table-forgotten number (file ∷ files) [] h = absurd h
    table-forgotten number (file ∷ files) (handle ∷ handles) h =
        (place-forgotten number file handle h.0, table-forgotten (number + 1) files handles h.1)

    pub handles-forgotten : (files : List (Option OpenFile)) (handles : List (Option Handle))
        → AreHandles g v views count files handles
        → AreHandles g v (views_without inode views) count files (map (unseen inode) handles)
    handles-forgotten files handles h = table-forgotten 1 files handles h
