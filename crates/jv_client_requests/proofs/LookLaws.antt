-- Looks at a window of a file: the view that a reading goes on with, or why it is refused.
use Rattle.std.proofs.Common.{◌≡◌, ℕ, Bool, true, false, List, [], ◌∷◌, Option, None, Some, Result, Ok, Err, refl}
use Rattle.std.proofs.Common.{sym, ap, subst, ◌∙◌}
use Rattle.std.specs.Prelude.{is_some, length, IsTrue}
use Rattle.jv_model.specs.declared.act.ActKind.TheVariants.{Answered, Look, Quiet}
use Rattle.jv_model.specs.declared.act.Told.{Told}
use Rattle.jv_model.specs.declared.act.Told.TheVariants.{Looks, Refused as ToldRefused}
use Rattle.jv_model.specs.declared.fault.Down.{Down}
use Rattle.jv_model.specs.declared.fault.Fault.{Fault}
use Rattle.jv_model.specs.declared.fault.Fault.TheVariants.{Stale}
use Rattle.jv_model.specs.declared.fault.Gone.TheVariants.{Session, Node}
use Rattle.jv_model.specs.declared.fault.RowFault.TheVariants.{Bad}
use Rattle.jv_model.specs.declared.fault.TxFault.{TxFault}
use Rattle.jv_model.specs.declared.fault.TxFault.TheVariants.{Refused as RefusedBy, Moved, Rows as OfRows}
use Rattle.jv_model.specs.declared.op.Reply.TheVariants.{Data, Refused}
use Rattle.jv_model.specs.declared.op.Step.TheVariants.{More, Done}
use Rattle.jv_model.specs.declared.profile.Does.TheVariants.{Reads}
use Rattle.jv_model.specs.declared.row.RowKey.{RowKey}
use Rattle.jv_model.specs.declared.slice.Rec.{Rec}
use Rattle.jv_model.specs.promise.FiniteMap.{get}
use Rattle.jv_model.specs.rows.RowFaults.{row_fault}
use Rattle.jv_model.specs.promise.tree.Attempt.{◌>>=◌, require, some_or}
use Rattle.jv_model.specs.promise.tree.Tree.{Tree, Content, File, Directory, Symlink, Node as TreeNode, content_at}
use Rattle.jv_model.specs.promise.tree.Tree.{content_in, node_at}
use Rattle.jv_model.specs.promise.client.ModelClient.{ModelClient, OpenFile, Doing, Reading, session_of}
use Rattle.jv_model.specs.promise.client.Profile.{handle_of}
use Rattle.jv_model.specs.promise.journal.Reading.{asked_parts, reading}
use Rattle.jv_model.specs.promise.journal.State.{State, after_told, or_empty, with_look}
use Rattle.jv_model.specs.promise.journal.Steps.{file_in_use, is_failure, must_answer, window_to_look}
use Rattle.jv_model.specs.tree.FileBytes.{length_seen}
use Rattle.jv_outside.specs.promise.Store.{Store}
use Rattle.jv_volume.specs.promise.TypedRows.{typed}
use Rattle.jv_volume.specs.promise.Views.{lists_of}
use Rattle.jv_volume.specs.Holding.{IsHoldable}
use Rattle.jv_volume.specs.promise.Shape.{Regular, form_of, is_there}
use Rattle.jv_data.specs.declared.looking.View.{View}
use Rattle.jv_data.specs.Records.{LooksAt}
use Rattle.jv_client_shared.specs.Keeping.{HoldsSame}
use Rattle.jv_client_shared.specs.Direct.{HasNamed}
use Rattle.jv_client_shared.specs.Seen.{IsView}
use Rattle.jv_client_shared.specs.promise.Shared.{HasStore, Known, Shared, depot_in}
use Rattle.jv_client_shared.proofs.SameLaws.{same-rows, same-stays}
use Rattle.jv_client_shared.proofs.StoreLaws.{look-has, look-view, view-stays}
use Rattle.jv_model_steps.specs.IsStep.{at_stage}
use Rattle.jv_model_steps.specs.Stages.{Begins, GoesOn, MayRead}
use Rattle.jv_model_steps.proofs.ReadStepLaws.{read-answered_look}
use Rattle.jv_model_steps.proofs.RefusalStepLaws.{goes-reading, goes-working}
use Rattle.jv_model_steps.proofs.LookStepLaws.{look-step, look-refused_session, look-refused_node}
use Rattle.jv_model_steps.proofs.SessionLaws.{has_session-mounted, has_session-there}
use Rattle.jv_client_requests.specs.Request.{Request}
use Rattle.jv_client_requests.proofs.StillLaws.{fault_of_rows, found-in, rows-failed, still-request}
use Rattle.jv_model.proofs.TestLaws.{of_known}

-- ---- what a session sees of a file

-- the session is there, and the file, which has `length` bytes
pub record SeesFile (sid inode length : ℕ) (t : Tree) : Type 0 where
  pub session : is_some (get t.sessions sid) ≡ true
  pub content : Content
  pub file : content_at t inode ≡ Some content
  pub long : content.length ≡ length

-- the session is gone, or the file
pub data SeesNone (sid inode : ℕ) (t : Tree) (fault : Fault) : Type 0 where
  NoSession : is_some (get t.sessions sid) ≡ false → fault ≡ Stale (Session sid) → SeesNone sid inode t fault
  NoFile : is_some (get t.sessions sid) ≡ true → content_at t inode ≡ None → fault ≡ Stale (Node inode)
      → SeesNone sid inode t fault

-- the length by whether the session is there, and by the file's bytes
abbrev length_by : (sid inode : ℕ) → Bool → Option Content → Result ℕ Fault
length_by sid inode there o =
    require there (Stale (Session sid)) >>= λ _. some_or o (Stale (Node inode)) >>= λ content. Ok content.length

module _ (sid inode : ℕ) (t : Tree) where
  pub sees_file : (length : ℕ) → length_seen sid inode t ≡ Ok length → SeesFile sid inode length t
  sees_file length = by_both (is_some (get t.sessions sid)) (content_at t inode) refl refl
    where
      by_both : (there : Bool) (o : Option Content) → is_some (get t.sessions sid) ≡ there → content_at t inode ≡ o
          → length_by sid inode there o ≡ Ok length → SeesFile sid inode length t
      by_both false o e f h = absurd (cc)
      by_both true None e f h = absurd (cc)
      by_both true (Some content) e f h = record { session = e; content = content; file = f; long = cc h }

  pub sees_none : (fault : Fault) → length_seen sid inode t ≡ Err fault → SeesNone sid inode t fault
  sees_none fault = by_both (is_some (get t.sessions sid)) (content_at t inode) refl refl
    where
      by_both : (there : Bool) (o : Option Content) → is_some (get t.sessions sid) ≡ there → content_at t inode ≡ o
          → length_by sid inode there o ≡ Err fault → SeesNone sid inode t fault
      by_both false o e f h = NoSession e (cc h)
      by_both true None e f h = NoFile e f (cc h)
      by_both true (Some content) e f h = absurd (cc)

-- a file that has bytes is there
pub content-there : (o : Option TreeNode) (content : Content) → content_in o ≡ Some content → is_some o ≡ true
content-there None content e = absurd (cc)
content-there (Some node) content e = refl

-- a node that can only be a file, and has no bytes, is gone
pub file-gone : (o : Option TreeNode) → (IsTrue (is_there (form_of o)) → form_of o ≡ Regular) → content_in o ≡ None
    → o ≡ None
file-gone None file none = refl
file-gone (Some node) file none =
    elim node.kind as (λ kind.
    (IsTrue (is_there (form_of (Some (record node { kind = kind }))))
    → form_of (Some (record node { kind = kind })) ≡ Regular)
    → content_in (Some (record node { kind = kind })) ≡ None → Some node ≡ None) [
      | File content ↦ λ file none. absurd (cc none)
      | Directory parent ↦ λ file none. absurd (let is = file refl in cc is)
      | Symlink target ↦ λ file none. absurd (let is = file refl in cc is)
    ] file none

-- ---- the look of a reading

-- a reading that may go on may fail
pub goes-look : {c : ModelClient} {d : Doing} {misses : ℕ} → MayRead c d misses → must_answer d ≡ false
goes-look {d = d} (Begins started at flushed first) = goes-working d 0 started at
goes-look {d = d} {misses = misses} (GoesOn at) = goes-reading d misses at

module _ (s : State) (client now : ℕ) (d : Doing) (busy : (s.clients client).doing ≡ Some d)
    (offset len : ℕ) (does : d.does ≡ Reads offset len) where
  abbrev mine : ModelClient
  mine = s.clients client

  module _ (misses : ℕ) (may : MayRead mine d misses) (file : OpenFile) (opened : file_in_use mine d ≡ Some file)
      (window : ℕ) (look : window_to_look mine d file ≡ Some window)
      (g : Known) (v : Shared) (has : HasStore s.tree g v) (keeper : Store) (flying : ℕ) where
    abbrev sid : ℕ
    sid = session_of mine

    abbrev looked : Shared
    looked = record v { keeper = keeper }

    -- whatever its outcome, devices hold what they held
    pub looked-still : (result : Result View TxFault) → LooksAt sid file.inode window v.keeper keeper result
        → HoldsSame v looked
    looked-still result looks = same-rows v keeper v.carrier looks.looks.rows_are

    module _ (view : View) (looks : LooksAt sid file.inode window v.keeper keeper (Ok view)) where
      still : HoldsSame v looked
      still = looked-still (Ok view) looks

      pub looked-sees : SeesFile sid file.inode view.length s.tree
      looked-sees = sees_file sid file.inode s.tree view.length
          (found-in s.tree g v has keeper (Ok view.length) (length_seen sid file.inode) looks.looks)

      -- the model's view has the bytes that the file has
      pub looked-content : or_empty (content_at s.tree file.inode) ≡ looked-sees.content
      looked-content = ap or_empty looked-sees.file

      -- it looks at the window, and goes on
      pub look-request : Request s g g v looked client now flying flying (Look file.inode window ∷ []) More s.tree
          (at_stage (Reading misses) d (with_look s d file.inode window mine)) s.copied
      look-request =
          let sees = looked-sees in
          still-request s g v looked has still client now flying (Look file.inode window ∷ []) More
          (at_stage (Reading misses) d (with_look s d file.inode window mine))
          (λ start alone. look-step start alone s client now d busy offset len does misses may file opened window look
          (has_session-there s.tree mine sees.session) (content-there (node_at s.tree file.inode) sees.content sees.file))

      -- they are those of the window's list
      listed_here : view.list ≡ lists_of (typed has.rows) file.inode window
      listed_here = of_known (λ known. view.list ≡ lists_of (typed known) file.inode window) v.keeper.rows has.rows
          has.rows_are looks.list

      -- and the records that it has show the file's bytes
      pub look-shows : IsView g looked window view.length view.list looked-sees.content
      look-shows =
          let sees = looked-sees in
          view-stays s.tree g v has 0 g looked (same-stays 0 g v looked still) window view.length view.list
          sees.content
          (look-view s.tree g v has file.inode window view.length view.list sees.content sees.file sees.long
          listed_here)

      -- and the depot has the blocks that they name
      pub look-named : HasNamed v.yard.setting.block (depot_in v) view.list
      look-named = look-has s.tree g v has file.inode window view.list listed_here

      -- or that was all it needed, and it answers with what it read
      module _ (first second : ℕ) (bytes : List ℕ)
          (reads : reading (with_look s d file.inode window mine).views (handle_of d.op) file (asked_parts offset len)
          first second ≡ Some bytes) where
        abbrev told : Told
        told = Looks first second (length bytes)

        pub look-answered : Request s g g v looked client now flying flying
            (Look file.inode window ∷ Answered told ∷ []) (Done (Data bytes)) s.tree
            (after_told d.op told (with_look s d file.inode window mine)) s.copied
        look-answered =
            let sees = looked-sees in
            still-request s g v looked has still client now flying (Look file.inode window ∷ Answered told ∷ [])
            (Done (Data bytes)) (after_told d.op told (with_look s d file.inode window mine))
            (λ start alone. read-answered_look start alone s client now d busy offset len does file opened first
            second bytes misses may window look (has_session-there s.tree mine sees.session)
            (content-there (node_at s.tree file.inode) sees.content sees.file) reads)

    -- the keeper failed, or memory ran out
    pub look-failed : (down : Down) → LooksAt sid file.inode window v.keeper keeper (Err (OfRows (row_fault down)))
        → Request s g g v looked client now flying flying (Answered (ToldRefused (fault_of_rows down)) ∷ [])
        (Done (Refused (fault_of_rows down))) s.tree (record mine { doing = None }) s.copied
    look-failed down looks =
        rows-failed s g v looked has (looked-still (Err (OfRows (row_fault down))) looks) client now flying d busy
        (goes-look may) down

    -- a look that is refused, since the session or the file is gone
    pub look-calm : (fault : Fault) → LooksAt sid file.inode window v.keeper keeper (Err (RefusedBy fault))
        → is_failure (ToldRefused fault) ≡ false
    look-calm fault looks = by_cause (sees_none sid file.inode s.tree fault
        (found-in s.tree g v has keeper (Err (RefusedBy fault)) (length_seen sid file.inode) looks.looks))
      where
        by_cause : SeesNone sid file.inode s.tree fault → is_failure (ToldRefused fault) ≡ false
        by_cause (NoSession gone is) = ap (λ f. is_failure (ToldRefused f)) is
        by_cause (NoFile session none is) = ap (λ f. is_failure (ToldRefused f)) is

    module _ (holdable : IsHoldable s.tree file.inode) (mounted : IsTrue (is_some (s.clients client).session))
        (fault : Fault)
        (looks : LooksAt sid file.inode window v.keeper keeper (Err (RefusedBy fault))) where
      pub look-refused : Request s g g v looked client now flying flying (Quiet ∷ Answered (ToldRefused fault) ∷ [])
          (Done (Refused fault)) s.tree (after_told d.op (ToldRefused fault) mine) s.copied
      look-refused = by_cause (sees_none sid file.inode s.tree fault
          (found-in s.tree g v has keeper (Err (RefusedBy fault)) (length_seen sid file.inode) looks.looks))
        where
          still : HoldsSame v looked
          still = looked-still (Err (RefusedBy fault)) looks

          IsRefused : Fault → Type 0
          IsRefused fault = Request s g g v looked client now flying flying
              (Quiet ∷ Answered (ToldRefused fault) ∷ [])
              (Done (Refused fault)) s.tree (after_told d.op (ToldRefused fault) mine) s.copied

          by_cause : SeesNone sid file.inode s.tree fault → IsRefused fault
          by_cause (NoSession gone is) =
              subst IsRefused (sym is)
              (still-request s g v looked has still client now flying
              (Quiet ∷ Answered (ToldRefused (Stale (Session sid))) ∷ []) (Done (Refused (Stale (Session sid))))
              (after_told d.op (ToldRefused (Stale (Session sid))) mine)
              (λ start alone. look-refused_session start alone s client now d busy offset len does misses may file
              opened window look (has_session-mounted s.tree mine mounted ∙ gone)))
          by_cause (NoFile session none is) =
              subst IsRefused (sym is)
              (still-request s g v looked has still client now flying
              (Quiet ∷ Answered (ToldRefused (Stale (Node file.inode))) ∷ [])
              (Done (Refused (Stale (Node file.inode))))
              (after_told d.op (ToldRefused (Stale (Node file.inode))) mine)
              (λ start alone. look-refused_node start alone s client now d busy offset len does misses may file opened
              window look (has_session-there s.tree mine session)
              (file-gone (node_at s.tree file.inode) holdable.file none)))

-- A look at rows that are a tree's meets no malformed row, and asks for no list that may have moved.
pub look-never_bad : (t : Tree) (g : Known) (v : Shared) → HasStore t g v → (sid inode window : ℕ) (keeper : Store)
    (at : RowKey) (bytes : List ℕ) → LooksAt sid inode window v.keeper keeper (Err (OfRows (Bad at bytes))) → ⊥
look-never_bad t g v has sid inode window keeper at bytes looks =
    found-in t g v has keeper (Err (OfRows (Bad at bytes))) (length_seen sid inode) looks.looks

pub look-never_moved : (t : Tree) (g : Known) (v : Shared) → HasStore t g v → (sid inode window : ℕ) (keeper : Store)
    (list : List Rec) → LooksAt sid inode window v.keeper keeper (Err (Moved list)) → ⊥
look-never_moved t g v has sid inode window keeper list looks =
    found-in t g v has keeper (Err (Moved list)) (length_seen sid inode) looks.looks
