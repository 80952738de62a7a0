-- How look-ups and attributes go on after the walk, and what they answer over whole rows.
use Rattle.std.proofs.Common.{◌≡◌, ◌⊎◌, inl, inr, [], ℕ, zero, suc, ◌≤◌, arith, Bool, true, false, List, Option, Some, None, Result, Ok, Err, refl, sym, ap, ◌∙◌}
use Rattle.std.specs.Prelude.{◌==◌, IsErrAnd, not, if◌then◌else◌}
use Rattle.jv_model.specs.declared.basics.Who.{Who}
use Rattle.jv_model.specs.declared.fault.Fault.{Fault}
use Rattle.jv_model.specs.declared.fault.Fault.TheVariants.{NotFound, NotADirectory, IsADirectory, Invalid, Stale}
use Rattle.jv_model.specs.declared.fault.Gone.TheVariants.{Node as GoneNode}
use Rattle.jv_model.specs.declared.fault.RowFault.{RowFault}
use Rattle.jv_model.specs.declared.fault.TxFault.{TxFault}
use Rattle.jv_model.specs.declared.op.Reply.TheVariants.{Found, Described, Entries, Usage, Target, FileOpened}
use Rattle.jv_model.specs.declared.row.Node.{Node as NodeRow}
use Rattle.jv_model.specs.declared.setting.FileKind.TheVariants as kind
use Rattle.jv_model.specs.declared.fault.TxFault.TheVariants.{Refused, Rows as OfRows}
use Rattle.jv_model.specs.declared.row.Counters.{Counters}
use Rattle.jv_model.specs.declared.row.Row.TheVariants.{OfSetting, OfCounters, OfNode}
use Rattle.jv_model.specs.declared.setting.Attr.{Attr}
use Rattle.jv_model.specs.declared.setting.FileKind.{FileKind}
use Rattle.jv_model.specs.declared.setting.Setting.{Setting}
use Rattle.jv_model.specs.declared.setting.Space.{Space}
use Rattle.jv_model.specs.promise.rows.RowGrammar.{is_setting, is_counters, is_node}
use Rattle.jv_model.specs.promise.rows.RowPlaces.{setting_key, counters_key, node_key}
use Rattle.jv_model.specs.promise.rows.RowKeys.{RowMap}
use Rattle.jv_model.specs.promise.tree.Attempt.{◌>>=◌, require, some_or}
use Rattle.jv_model.specs.promise.tree.Caller.{Caller, Outcome, answered, in_session}
use Rattle.jv_model.specs.promise.tree.Reading.{lookup, readdir, entries_of, stat, lstat, fstat, open_file, readlink, statfs, described, attr_of, usage_of, file_kind}
use Rattle.jv_model.specs.promise.tree.Tree.{Tree, File, Directory, Symlink, node_at, is_directory, target_at}
use Rattle.jv_model.specs.promise.tree.Walk.{inode_by}
use Rattle.jv_model.specs.promise.tree.Changes.{content_of}
use Rattle.jv_outside.specs.promise.Store.{Store}
use Rattle.jv_volume.specs.promise.TypedRows.{typed}
use Rattle.jv_volume.specs.promise.TreeOf.{node_of_row, tree_of}
use Rattle.jv_volume.specs.promise.Whole.{Whole}
use Rattle.jv_volume.specs.promise.Views.{row_in, setting_in, setting_at, counters_in, counters_at, node_in, node_row_at}
use Rattle.jv_volume.proofs.stored.StoredLaws.{HasNode, found_node, no_node, found_counters, found_setting, whole-stored}
use Rattle.jv_volume.proofs.operations.ReadLaws.{attr_of-row, usage_of-rows}
use Rattle.jv_rows.specs.Drafts.{Sees, Needs, cell}
use Rattle.jv_rows.specs.Transactions.{IsFor, Looks, Transacts, Always}
use Rattle.jv_rows.specs.Walks.{Comes}
use Rattle.jv_rows.specs.declared.walking.Place.{Place}
use Rattle.jv_rows.proofs.transactions.NeedingLaws.{session_is, SettingNeeded, CountersNeeded, stands-needs, fails-needed}
use Rattle.jv_rows.proofs.transactions.TransactionLaws.{Past, past-as, past-calm, past-looks, past-stops, past-fails, past-refuses, transacts-refused, transacts-exit, transacts-answers, fails-sees, as_stored, node-seen}
use Rattle.jv_rows.proofs.walks.ArrivalLaws.{has-node, arrives, past-session, stops-session}
use Rattle.jv_tree.specs.Attributes.{kind_in, attr_in}

-- ---- how they begin

-- what an open does once it has its inode
abbrev pub opened_at : Caller → Tree → ℕ → Result Outcome Fault
opened_at caller t inode = require (not (is_directory t inode)) IsADirectory >>= (λ unit. answered t (FileOpened caller.free_handle inode))

-- what a reading of a symlink does once it has its inode
abbrev pub target_answered : Tree → ℕ → Result Outcome Fault
target_answered t inode = some_or (target_at t inode) Invalid >>= (λ target. answered t (Target target))

module _ (caller : Caller) (path : List ℕ) (t : Tree) where
  pub begins-lookup : lookup t caller path ≡ (in_session t caller >>= (λ unit. inode_by false t path >>= (λ inode. answered t (Found inode))))
  unfolding lookup
  begins-lookup = refl

  pub begins-stat : stat t caller path ≡ (in_session t caller >>= (λ unit. inode_by true t path >>= described t))
  unfolding stat
  begins-stat = refl

  pub begins-lstat : lstat t caller path ≡ (in_session t caller >>= (λ unit. inode_by false t path >>= described t))
  unfolding lstat
  begins-lstat = refl

  -- the same where a last symlink is followed or isn't
  pub begins-stat_by : (follow : Bool) → follow ≡ true → stat t caller path ≡ (in_session t caller >>= (λ unit. inode_by follow t path >>= described t))
  begins-stat_by follow is = begins-stat ∙ ap (λ f. in_session t caller >>= (λ unit. inode_by f t path >>= described t)) (sym is)

  pub begins-lstat_by : (follow : Bool) → follow ≡ false → lstat t caller path ≡ (in_session t caller >>= (λ unit. inode_by follow t path >>= described t))
  begins-lstat_by follow is = begins-lstat ∙ ap (λ f. in_session t caller >>= (λ unit. inode_by f t path >>= described t)) (sym is)

  open_by : (session : Result (Unit {0}) Fault) (walked : Result ℕ Fault)
      → ((session >>= (λ unit. walked >>= (λ inode. require (not (is_directory t inode)) IsADirectory >>= (λ unit. Ok inode)))) >>=
      (λ inode. answered t (FileOpened caller.free_handle inode)))
      ≡ (session >>= (λ unit. walked >>= opened_at caller t))
  open_by (Err fault) walked = refl
  open_by (Ok unit) (Err fault) = refl
  open_by (Ok unit) (Ok inode) = by_test (is_directory t inode)
    where
      by_test : (dir : Bool) → ((require (not dir) IsADirectory >>= (λ unit. Ok inode)) >>= (λ inode. answered t (FileOpened caller.free_handle inode)))
          ≡ (require (not dir) IsADirectory >>= (λ unit. answered t (FileOpened caller.free_handle inode)))
      by_test true = refl
      by_test false = refl

  pub begins-open : open_file t caller path ≡ (in_session t caller >>= (λ unit. inode_by true t path >>= opened_at caller t))
  unfolding open_file
  begins-open = open_by (in_session t caller) (inode_by true t path)

  pub begins-readlink : readlink t caller path ≡ (in_session t caller >>= (λ unit. inode_by false t path >>= target_answered t))
  unfolding readlink
  begins-readlink = refl

-- what a listing does once it has its inode
abbrev pub listed : Tree → ℕ → Result Outcome Fault
listed t dir = require (is_directory t dir) NotADirectory >>= (λ unit. answered t (Entries (entries_of t dir)))

pub begins-readdir : (caller : Caller) (path : List ℕ) (t : Tree)
    → readdir t caller path ≡ (in_session t caller >>= (λ unit. inode_by true t path >>= listed t))
unfolding readdir
begins-readdir caller path t = refl

-- ---- attributes

pub file_kind-row : (byte : ℕ → ℕ) (row : NodeRow) → file_kind (node_of_row byte row).kind ≡ kind_in row.kind
file_kind-row byte row = by_tests (row.kind == 1) (row.kind == 2)
  where
    by_tests : (file dir : Bool) → file_kind (if file then File (content_of row.length byte) else if dir then Directory row.parent else Symlink row.target)
        ≡ (if file then kind.File else if dir then kind.Directory else kind.Symlink)
    by_tests true dir = refl
    by_tests false true = refl
    by_tests false false = refl

module _ (t : Tree) (inode : ℕ) (row : NodeRow) (byte : ℕ → ℕ) (has : HasNode t inode row byte) where
  pub attr-row : attr_of t inode (node_of_row byte row) ≡ attr_in inode row
  attr-row = attr_of-row t inode row byte has ∙ ap (λ k. record (attr_in inode row) { kind = k }) (file_kind-row byte row)

  pub described-row : described t inode ≡ answered t (Described (attr_in inode row))
  described-row = ap (λ o. some_or o NotFound >>= (λ node. answered t (Described (attr_of t inode node)))) has.there
      ∙ ap (λ attr. answered t (Described attr)) attr-row

-- ---- kinds

-- the numbers of kinds
data IsKind (n : ℕ) : Type 0 where
  IsFile : n ≡ 1 → IsKind n
  IsDirectory : n ≡ 2 → IsKind n
  IsSymlink : n ≡ 3 → IsKind n

kinds : (n : ℕ) → 1 ≤ n → n ≤ 3 → IsKind n
kinds zero low high = absurd (omega (arith, low))
kinds (suc zero) low high = IsFile refl
kinds (suc (suc zero)) low high = IsDirectory refl
kinds (suc (suc (suc zero))) low high = IsSymlink refl
kinds (suc (suc (suc (suc n)))) low high = absurd (omega (arith, high))

module _ (t : Tree) (inode : ℕ) (row : NodeRow) (byte : ℕ → ℕ) (has : HasNode t inode row byte) where
  number_is : (n : ℕ) → row.kind ≡ n → kind_in row.kind ≡ kind_in n
  number_is n e = ap kind_in e

  pub is-directory : kind_in row.kind ≡ kind.Directory → is_directory t inode ≡ true
  is-directory e = has.directory ∙ by_kind (kinds row.kind has.low has.high)
    where
      by_kind : IsKind row.kind → (row.kind == 2) ≡ true
      by_kind (IsFile n) = (let both = sym (number_is 1 n) ∙ e in absurd (cc))
      by_kind (IsDirectory n) = ap (λ k. k == 2) n
      by_kind (IsSymlink n) = (let both = sym (number_is 3 n) ∙ e in absurd (cc))

  pub no-directory : (kind_in row.kind ≡ kind.Directory → ⊥) → is_directory t inode ≡ false
  no-directory other = has.directory ∙ by_kind (kinds row.kind has.low has.high)
    where
      by_kind : IsKind row.kind → (row.kind == 2) ≡ false
      by_kind (IsFile n) = ap (λ k. k == 2) n
      by_kind (IsDirectory n) = absurd (other (number_is 2 n))
      by_kind (IsSymlink n) = ap (λ k. k == 2) n

  pub is-symlink : kind_in row.kind ≡ kind.Symlink → target_at t inode ≡ Some row.target
  is-symlink e = has.target ∙ by_kind (kinds row.kind has.low has.high)
    where
      by_kind : IsKind row.kind → (if row.kind == 3 then Some row.target else None) ≡ Some row.target
      by_kind (IsFile n) = (let both = sym (number_is 1 n) ∙ e in absurd (cc))
      by_kind (IsDirectory n) = (let both = sym (number_is 2 n) ∙ e in absurd (cc))
      by_kind (IsSymlink n) = ap (λ k. if k == 3 then Some row.target else None) n

  pub no-symlink : (kind_in row.kind ≡ kind.Symlink → ⊥) → target_at t inode ≡ None
  no-symlink other = has.target ∙ by_kind (kinds row.kind has.low has.high)
    where
      by_kind : IsKind row.kind → (if row.kind == 3 then Some row.target else None) ≡ None
      by_kind (IsFile n) = ap (λ k. if k == 3 then Some row.target else None) n
      by_kind (IsDirectory n) = ap (λ k. if k == 3 then Some row.target else None) n
      by_kind (IsSymlink n) = absurd (other (number_is 3 n))

-- ---- answers after the walk

module _ (before middle after : Store) (who : Who) (caller : Caller) (is_for : IsFor who caller) (follow : Bool) (path : List ℕ)
    (act : Tree → Result Outcome Fault)
    (place : Place) (session : Looks before middle (Ok tt) (session_is who.sid)) (c : Comes middle after (Ok place) (λ t. inode_by follow t path)) where
  module _ (next : Tree → ℕ → Result Outcome Fault) (begins : (t : Tree) → act t ≡ (in_session t caller >>= (λ unit. inode_by follow t path >>= next t))) where
    came : Past before after act (λ t. next t place.inode)
    came = arrives before middle after who caller is_for follow path act next begins place session c

    -- the node that the walk reached
    pub node-here : (known : RowMap) → before.rows ≡ Some known → Whole (typed known) → (bytes : ℕ → ℕ → ℕ)
        → HasNode (tree_of bytes (typed known)) place.inode place.node (bytes place.inode)
    node-here = has-node before after place.inode place.node came.rows_are c.stands

    goes-on : (ends : Tree → Result Outcome Fault) → ((t : Tree) (byte : ℕ → ℕ) → HasNode t place.inode place.node byte → next t place.inode ≡ ends t)
        → Past before after act ends
    goes-on ends same = past-as before after after act (λ t. next t place.inode) came ends
        (λ known is whole bytes. same (tree_of bytes (typed known)) (bytes place.inode) (node-here known is whole bytes))

  -- the attributes of the node
  pub describes : ((t : Tree) → act t ≡ (in_session t caller >>= (λ unit. inode_by follow t path >>= described t))) → (attr : Attr)
      → attr ≡ attr_in place.inode place.node
      → Transacts Always before after (Ok attr) (λ attr. Described attr) act
  describes begins attr is =
      transacts-answers Always before after (λ attr. Described attr) act attr
      (goes-on described begins (λ t. answered t (Described attr))
      (λ t byte has. described-row t place.inode place.node byte has ∙ ap (λ a. answered t (Described a)) (sym is)))

  -- an open
  pub opens : ((t : Tree) → act t ≡ (in_session t caller >>= (λ unit. inode_by follow t path >>= opened_at caller t)))
      → (kind_in place.node.kind ≡ kind.Directory → ⊥)
      → Transacts Always before after (Ok place.inode) (λ inode. FileOpened caller.free_handle inode) act
  opens begins other =
      transacts-answers Always before after (λ inode. FileOpened caller.free_handle inode) act place.inode
      (goes-on (opened_at caller) begins (λ t. answered t (FileOpened caller.free_handle place.inode))
      (λ t byte has. ap (λ b. require (not b) IsADirectory >>= (λ unit. answered t (FileOpened caller.free_handle place.inode)))
      (no-directory t place.inode place.node byte has other)))

  pub opens-directory : ((t : Tree) → act t ≡ (in_session t caller >>= (λ unit. inode_by follow t path >>= opened_at caller t)))
      → kind_in place.node.kind ≡ kind.Directory
      → Transacts {A = ℕ} Always before after (Err (Refused IsADirectory)) (λ inode. FileOpened caller.free_handle inode) act
  opens-directory begins is =
      transacts-refused Always before after (λ inode. FileOpened caller.free_handle inode) act (Refused IsADirectory)
      (past-refuses before after act IsADirectory
      (goes-on (opened_at caller) begins (λ t. Err IsADirectory)
      (λ t byte has. ap (λ b. require (not b) IsADirectory >>= (λ unit. answered t (FileOpened caller.free_handle place.inode)))
      (is-directory t place.inode place.node byte has is))))

  -- a reading of a symlink
  pub reads-target : ((t : Tree) → act t ≡ (in_session t caller >>= (λ unit. inode_by follow t path >>= target_answered t)))
      → kind_in place.node.kind ≡ kind.Symlink
      → Transacts Always before after (Ok place.node.target) (λ target. Target target) act
  reads-target begins is =
      transacts-answers Always before after (λ target. Target target) act place.node.target
      (goes-on target_answered begins (λ t. answered t (Target place.node.target))
      (λ t byte has. ap (λ o. some_or o Invalid >>= (λ target. answered t (Target target))) (is-symlink t place.inode place.node byte has is)))

  pub reads-no-target : ((t : Tree) → act t ≡ (in_session t caller >>= (λ unit. inode_by follow t path >>= target_answered t)))
      → (kind_in place.node.kind ≡ kind.Symlink → ⊥)
      → Transacts {A = List ℕ} Always before after (Err (Refused Invalid)) (λ target. Target target) act
  reads-no-target begins other =
      transacts-refused Always before after (λ target. Target target) act (Refused Invalid) (past-refuses before after act Invalid
      (goes-on target_answered begins (λ t. Err Invalid)
      (λ t byte has. ap (λ o. some_or o Invalid >>= (λ target. answered t (Target target))) (no-symlink t place.inode place.node byte has other))))

-- the node of a listing, once the walk has reached it
module _ (before middle after last : Store) (who : Who) (caller : Caller) (is_for : IsFor who caller) (path : List ℕ) (place : Place)
    (session : Looks before middle (Ok tt) (session_is who.sid))
    (c : Comes middle after (Ok place) (λ t. inode_by true t path)) where
  abbrev readdir_act : Tree → Result Outcome Fault
  readdir_act t = readdir t caller path

  listing : (ends : Tree → Result Outcome Fault) → ((t : Tree) (byte : ℕ → ℕ) → HasNode t place.inode place.node byte → listed t place.inode ≡ ends t)
      → Past before after readdir_act ends
  listing = goes-on before middle after who caller is_for true path readdir_act place session c listed (begins-readdir caller path)

  listing_directory : kind_in place.node.kind ≡ kind.Directory → Past before after readdir_act (λ t. answered t (Entries (entries_of t place.inode)))
  listing_directory is =
      listing (λ t. answered t (Entries (entries_of t place.inode)))
      (λ t byte has. ap (λ b. require b NotADirectory >>= (λ unit. answered t (Entries (entries_of t place.inode))))
      (is-directory t place.inode place.node byte has is))

  pub lists : kind_in place.node.kind ≡ kind.Directory → (result : Result (List (List ℕ × ℕ)) TxFault)
      → Looks after last result (λ t. Ok (entries_of t place.inode))
      → Transacts Always before last result (λ entries. Entries entries) readdir_act
  lists is (Ok entries) looks =
      transacts-answers Always before last (λ entries. Entries entries) readdir_act entries
      (past-looks before after last readdir_act (λ t. Ok (entries_of t place.inode)) (λ t entries. answered t (Entries entries))
      (listing_directory is) entries looks)
  lists is (Err fault) looks =
      transacts-refused Always before last (λ entries. Entries entries) readdir_act fault
      (past-stops before after last readdir_act (λ t. Ok (entries_of t place.inode)) (λ t entries. answered t (Entries entries))
      (listing_directory is) fault looks)

  pub lists-no_directory : (kind_in place.node.kind ≡ kind.Directory → ⊥)
      → Transacts {A = List (List ℕ × ℕ)} Always before after (Err (Refused NotADirectory)) (λ entries. Entries entries) readdir_act
  lists-no_directory other =
      transacts-refused Always before after (λ entries. Entries entries) readdir_act (Refused NotADirectory)
      (past-refuses before after readdir_act NotADirectory
      (listing (λ t. Err NotADirectory)
      (λ t byte has. ap (λ b. require b NotADirectory >>= (λ unit. answered t (Entries (entries_of t place.inode))))
      (no-directory t place.inode place.node byte has other))))

pub other-directory : (found is : FileKind) → found ≡ is → (found ≡ kind.File) ⊎ (found ≡ kind.Symlink) → is ≡ kind.Directory → ⊥
other-directory found is same (inl file) e = (let both = sym file ∙ same ∙ e in absurd (cc))
other-directory found is same (inr link) e = (let both = sym link ∙ same ∙ e in absurd (cc))

pub other-symlink : (found is : FileKind) → found ≡ is → (found ≡ kind.File) ⊎ (found ≡ kind.Directory) → is ≡ kind.Symlink → ⊥
other-symlink found is same (inl file) e = (let both = sym file ∙ same ∙ e in absurd (cc))
other-symlink found is same (inr dir) e = (let both = sym dir ∙ same ∙ e in absurd (cc))

-- ---- the attributes of an open file

-- what they are once the session is there
abbrev pub described_open : ℕ → Tree → Result Outcome Fault
described_open inode t = some_or (node_at t inode) (Stale (GoneNode inode)) >>= (λ node. answered t (Described (attr_of t inode node)))

pub begins-fstat : (caller : Caller) (inode : ℕ) → caller.inode ≡ inode → (t : Tree)
    → fstat t caller ≡ (in_session t caller >>= (λ unit. described_open inode t))
unfolding fstat
begins-fstat caller inode is t = ap (λ i. in_session t caller >>= (λ unit. described_open i t)) is

module _ (before middle after : Store) (who : Who) (caller : Caller) (is_for : IsFor who caller) (inode : ℕ) (is_inode : caller.inode ≡ inode) where
  abbrev fstat_act : Tree → Result Outcome Fault
  fstat_act t = fstat t caller

  pub fstat-exit : (result : Result Attr TxFault) (fault : TxFault) → IsErrAnd result (λ e. e ≡ fault)
      → Looks {A = Unit {0}} before middle (Err fault) (session_is who.sid)
      → Transacts Always before middle result (λ attr. Described attr) fstat_act
  fstat-exit result fault is looks =
      transacts-exit Always before middle (λ attr. Described attr) fstat_act result fault is
      (stops-session before middle who caller is_for fstat_act (described_open inode) (begins-fstat caller inode is_inode) fault looks)

  module _ (session : Looks before middle (Ok tt) (session_is who.sid)) where
    asked : Past before middle fstat_act (described_open inode)
    asked = past-session before middle who caller is_for fstat_act (described_open inode) (begins-fstat caller inode is_inode) session

    pub fstat-unread : (result : Result Attr TxFault) (fault : RowFault) → IsErrAnd result (λ e. e ≡ OfRows fault)
        → Sees OfNode is_node (node_key inode) [] middle after (Err fault)
        → Transacts Always before after result (λ attr. Described attr) fstat_act
    fstat-unread result fault is s =
        transacts-exit Always before after (λ attr. Described attr) fstat_act result (OfRows fault) is
        (past-fails before middle after fstat_act (described_open inode) asked (OfRows fault)
        (fails-sees OfNode is_node (node_key inode) [] middle after (as_stored (node_key inode) middle) fault s))

    module _ (found : Option NodeRow) (s : Sees OfNode is_node (node_key inode) [] middle after (Ok found)) where
      seen : Past before after fstat_act (described_open inode)
      seen = past-calm before middle after fstat_act (described_open inode) asked s.rows_are s.opened_at s.counts

      stands : (known : RowMap) → before.rows ≡ Some known → node_row_at (typed known) inode ≡ node_in (row_in (cell OfNode found))
      stands known is = node-seen inode middle after found s known (asked.rows_are ∙ is)

    pub fstat-there : (node : NodeRow) (attr : Attr) → Sees OfNode is_node (node_key inode) [] middle after (Ok (Some node)) → attr ≡ attr_in inode node
        → Transacts Always before after (Ok attr) (λ attr. Described attr) fstat_act
    fstat-there node attr s is =
        transacts-answers Always before after (λ attr. Described attr) fstat_act attr
        (past-as before after after fstat_act (described_open inode) (seen (Some node) s) (λ t. answered t (Described attr)) (λ known here whole bytes.
        let t = tree_of bytes (typed known) in
        let has = found_node bytes (typed known) (whole-stored bytes (typed known) whole) inode node (stands (Some node) s known here) in
        ap (λ o. some_or o (Stale (GoneNode inode)) >>= (λ node. answered t (Described (attr_of t inode node)))) has.there
        ∙ ap (λ a. answered t (Described a)) (attr-row t inode node (bytes inode) has ∙ sym is)))

    pub fstat-gone : Sees OfNode is_node (node_key inode) [] middle after (Ok None)
        → Transacts {A = Attr} Always before after (Err (Refused (Stale (GoneNode inode)))) (λ attr. Described attr) fstat_act
    fstat-gone s =
        transacts-refused Always before after (λ attr. Described attr) fstat_act (Refused (Stale (GoneNode inode)))
        (past-refuses before after fstat_act (Stale (GoneNode inode))
        (past-as before after after fstat_act (described_open inode) (seen None s) (λ t. Err (Stale (GoneNode inode))) (λ known here whole bytes.
        let t = tree_of bytes (typed known) in
        ap (λ o. some_or o (Stale (GoneNode inode)) >>= (λ node. answered t (Described (attr_of t inode node))))
        (no_node bytes (typed known) inode (stands None s known here)))))

-- ---- what is used

pub begins-statfs : (caller : Caller) (t : Tree) → statfs t caller ≡ (in_session t caller >>= (λ unit. answered t (Usage (usage_of t))))
unfolding statfs
begins-statfs caller t = refl

module _ (before asking setting_read after : Store) (who : Who) (caller : Caller) (is_for : IsFor who caller) where
  abbrev statfs_act : Tree → Result Outcome Fault
  statfs_act t = statfs t caller

  abbrev usage_answered : Tree → Result Outcome Fault
  usage_answered t = answered t (Usage (usage_of t))

  pub statfs-exit : (result : Result Space TxFault) (fault : TxFault) → IsErrAnd result (λ e. e ≡ fault)
      → Looks {A = Unit {0}} before asking (Err fault) (session_is who.sid)
      → Transacts Always before asking result (λ space. Usage space) statfs_act
  statfs-exit result fault is looks =
      transacts-exit Always before asking (λ space. Usage space) statfs_act result fault is
      (stops-session before asking who caller is_for statfs_act usage_answered (begins-statfs caller) fault looks)

  module _ (session : Looks before asking (Ok tt) (session_is who.sid)) where
    statfs_asked : Past before asking statfs_act usage_answered
    statfs_asked = past-session before asking who caller is_for statfs_act usage_answered (begins-statfs caller) session

    pub statfs-no_setting : (result : Result Space TxFault) (fault : TxFault) → IsErrAnd result (λ e. e ≡ fault)
        → Needs OfSetting is_setting setting_key [] asking setting_read (Err fault)
        → Transacts Always before setting_read result (λ space. Usage space) statfs_act
    statfs-no_setting result fault is n =
        transacts-exit Always before setting_read (λ space. Usage space) statfs_act result fault is
        (past-fails before asking setting_read statfs_act usage_answered statfs_asked fault
        (fails-needed OfSetting is_setting setting_key [] asking setting_read (as_stored setting_key asking) (SettingNeeded refl) fault n))

    module _ (setting : Setting) (s : Needs OfSetting is_setting setting_key [] asking setting_read (Ok setting)) where
      with_setting : Past before setting_read statfs_act usage_answered
      with_setting = past-calm before asking setting_read statfs_act usage_answered statfs_asked s.rows_are s.opened_at s.counts

      pub statfs-no_counters : (result : Result Space TxFault) (fault : TxFault) → IsErrAnd result (λ e. e ≡ fault)
          → Needs OfCounters is_counters counters_key [] setting_read after (Err fault)
          → Transacts Always before after result (λ space. Usage space) statfs_act
      statfs-no_counters result fault is n =
          transacts-exit Always before after (λ space. Usage space) statfs_act result fault is
          (past-fails before setting_read after statfs_act usage_answered with_setting fault
          (fails-needed OfCounters is_counters counters_key [] setting_read after (as_stored counters_key setting_read) (CountersNeeded refl) fault n))

      pub statfs-answers : (counters : Counters) → Needs OfCounters is_counters counters_key [] setting_read after (Ok counters)
          → Transacts Always before after (Ok (record {
            used = counters.used_space;
            capacity = setting.capacity;
            inodes = counters.used_inodes;
            limit =
                setting.inodes;
          })) (λ space. Usage space) statfs_act
      statfs-answers counters n =
          let space : Space = record { used = counters.used_space; capacity = setting.capacity; inodes = counters.used_inodes; limit = setting.inodes } in
          transacts-answers Always before after (λ space. Usage space) statfs_act space
          (past-as before after after statfs_act usage_answered
          (past-calm before setting_read after statfs_act usage_answered with_setting n.rows_are n.opened_at n.counts)
          (λ t. answered t (Usage space)) (λ known here whole bytes.
          let t = tree_of bytes (typed known) in
          let stored = whole-stored bytes (typed known) whole in
          let set : setting_at (typed known) ≡ Some setting =
          ap (λ c. setting_in (row_in c)) (stands-needs OfSetting is_setting setting_key [] asking setting_read (as_stored setting_key asking) setting s known
          (statfs_asked.rows_are ∙ here)) in
          let counted : counters_at (typed known) ≡ Some counters =
          ap (λ c. counters_in (row_in c)) (stands-needs OfCounters is_counters counters_key [] setting_read after (as_stored counters_key setting_read) counters n known
          (with_setting.rows_are ∙ here)) in
          ap (λ u. answered t (Usage u)) (usage_of-rows t counters (found_counters bytes (typed known) stored counters counted)
          ∙ ap (λ (s : Setting). record { used = counters.used_space; capacity = s.capacity; inodes = counters.used_inodes; limit = s.inodes })
          (found_setting bytes (typed known) stored setting set))))
