-- The operations that make, change or keep something leave a whole tree whole, whatever they answer.
use Rattle.std.proofs.Common.{◌≡◌, ℕ, ◌+◌, ◌-◌, min, ◌≤◌, ◌<◌, Bool, false, not, ◌&&◌, ◌||◌, ◌==◌, List, length, Some, Result, Ok, Err, refl, subst}
use Rattle.std.specs.Prelude.{nat_lt, nat_le}
use Rattle.std.proofs.lemmas.Bool.{ltb-true, not-true, or_parts}
use Rattle.jv_model.specs.declared.limits.TheConstants.{FILE_END, MAX_PATH, FULL_MODE, FULL_COUNT}
use Rattle.jv_model.specs.declared.fault.Fault.{Fault}
use Rattle.jv_model.specs.declared.fault.Fault.TheVariants.{FileTooLarge, Invalid, NameTooLong, NoSpace, NotFound, NotPermitted, Stale}
use Rattle.jv_model.specs.declared.fault.Gone.TheVariants.{Session}
use Rattle.jv_model.specs.declared.op.Reply.TheVariants.{Done, Found, FileOpened, Count, SessionMade}
use Rattle.jv_model.specs.promise.FiniteMap.{get}
use Rattle.jv_model.specs.promise.tree.Attempt.{◌>>=◌, require, some_or}
use Rattle.jv_model.specs.promise.tree.Tree.{Tree, Node, Content, File, Directory, Symlink, EntryKey, new_node, in_trash, node_at, is_directory, fits, links_fit}
use Rattle.jv_model.specs.promise.tree.Changes.{empty_content, status_changed, put_node}
use Rattle.jv_model.specs.promise.tree.Caller.{Caller, Outcome, outcome, answered, done, in_session}
use Rattle.jv_model.specs.promise.tree.Walk.{inode_of, unfollowed_inode_of}
use Rattle.jv_model.specs.promise.tree.Making.{new_place, with_next, entered, mkdir, create, symlink, is_trashed, linked, link}
use Rattle.jv_model.specs.promise.tree.Reading.{with_attributes, chmod, chown, utimes}
use Rattle.jv_model.specs.promise.tree.FileBytes.{truncated, copied, open_content, overlap, truncate, copy_bytes, copy}
use Rattle.jv_model.specs.promise.tree.Sessions.{with_session, kept_alive, without_session, released, mount, beat, umount, release}
use Rattle.jv_volume.specs.promise.Shape.{Dir, WholeShape, form_of, shape_of}
use Rattle.jv_volume.proofs.shapes.SameShapeLaws.{whole_as, whole-attributes, shape-truncated, shape-copied}
use Rattle.jv_volume.proofs.shapes.EnteredShapeLaws.{whole-with_next}
use Rattle.jv_volume.proofs.shapes.LinkedShapeLaws.{whole-linked}
use Rattle.jv_volume.proofs.shapes.SessionShapeLaws.{whole-with_session, whole-kept_alive, whole-without_session, whole-released}
use Rattle.jv_volume.proofs.shapes.WalkShapeLaws.{went_on, required, was_some, path_named, IsNewPlace, is_new_place}
use Rattle.jv_model.proofs.TestLaws.{same_Ok}

-- a refused operation leaves the tree
pub whole_outcome : (t : Tree) (r : Result Outcome Fault) → WholeShape (shape_of t) → ((d : Outcome) → r ≡ Ok d → WholeShape (shape_of d.tree))
    → WholeShape (shape_of (outcome t r).tree)
whole_outcome t (Ok d) w h = h d refl
whole_outcome t (Err fault) w h = w

-- what is answered with a whole tree
pub whole_answer : (given d : Outcome) → ◌≡◌ {A = Result Outcome Fault} (Ok given) (Ok d) → WholeShape (shape_of given.tree) → WholeShape (shape_of d.tree)
whole_answer given d e w = subst (λ (o : Outcome). WholeShape (shape_of o.tree)) (same_Ok given d e) w

-- new nodes

-- a new node that the limits of a volume allow
pub record IsEntered (t : Tree) (now : ℕ) (place : EntryKey) (node : Node) (after : Tree) : Type 0 where
  pub room : t.next_inode < FULL_COUNT
  pub is : with_next t now place node ≡ after

pub is_entered : (t : Tree) (now : ℕ) (place : EntryKey) (node : Node) (after : Tree) → entered t now place node ≡ Ok after → IsEntered t now place node after
is_entered t now place node after h =
    let fits_in = λ (u : Unit {0}). require (fits t (with_next t now place node)) NoSpace >>= (λ _. Ok (with_next t now place node)) in
    let room = went_on (require (nat_lt t.next_inode FULL_COUNT) NoSpace) fits_in after h in
    let fit = went_on (require (fits t (with_next t now place node)) NoSpace) (λ _. Ok (with_next t now place node)) after room.2 in
    record { room = ltb-true _ _ (required _ NoSpace room.0 room.1); is = same_Ok _ after fit.2 }

whole-entered : (t : Tree) (now : ℕ) (place : EntryKey) (node : Node) (after : Tree) → WholeShape (shape_of t) → IsNewPlace t place
    → entered t now place node ≡ Ok after
    → ((parent : ℕ) → form_of (Some node) ≡ Dir parent → parent ≡ place.dir) → WholeShape (shape_of after)
whole-entered t now place node after w new h parent =
    let e = is_entered t now place node after h in
    subst (λ (x : Tree). WholeShape (shape_of x)) e.is (whole-with_next t now place w new.free new.within new.may e.room node parent)

neither : (a b : Bool) (u : Unit {0}) → require (not (a || b)) NotPermitted ≡ Ok u → (a ≡ false) × (b ≡ false)
neither a b u h = or_parts a b (not-true (a || b) (required (not (a || b)) NotPermitted u h))

module _ (t : Tree) (who : Caller) (w : WholeShape (shape_of t)) where
  -- a new file
  pub whole-create : (path : List ℕ) (mode : ℕ) → WholeShape (shape_of (outcome t (create t who path mode)).tree)
  unfolding create
  whole-create path mode = whole_outcome t (create t who path mode) w (λ d h.
      let node = new_node (File empty_content) mode who.now in
      let said = λ (after : Tree). answered after (FileOpened who.free_handle t.next_inode) in
      let inside = went_on (in_session t who) (λ _. new_place t path >>= (λ place. entered t who.now place node >>= said)) d h in
      let place = went_on (new_place t path) (λ place. entered t who.now place node >>= said) d inside.2 in
      let after = went_on (entered t who.now place.0 node) said d place.2 in
      whole_answer _ d after.2 (whole-entered t who.now place.0 node after.0 w (is_new_place t path place.0 place.1) after.1 (λ parent e. absurd (cc))))

  -- a new directory
  pub whole-mkdir : (path : List ℕ) (mode : ℕ) → WholeShape (shape_of (outcome t (mkdir t who path mode)).tree)
  unfolding mkdir
  whole-mkdir path mode = whole_outcome t (mkdir t who path mode) w (λ d h.
      let made = λ (place : EntryKey). new_node (Directory place.dir) mode who.now in
      let said = λ (place : EntryKey) (after : Tree). require (links_fit after place.dir) NoSpace >>= (λ _. answered after (Found t.next_inode)) in
      let next = λ (place : EntryKey). entered t who.now place (made place) >>= said place in
      let inside = went_on (in_session t who) (λ _. new_place t path >>= next) d h in
      let place = went_on (new_place t path) next d inside.2 in
      let after = went_on (entered t who.now place.0 (made place.0)) (said place.0) d place.2 in
      let fit = went_on (require (links_fit after.0 place.0.dir) NoSpace) (λ _. answered after.0 (Found t.next_inode)) d after.2 in
      let own : (parent : ℕ) → Dir place.0.dir ≡ Dir parent → parent ≡ place.0.dir = λ parent e. (cc) in
      whole_answer _ d fit.2 (whole-entered t who.now place.0 (made place.0) after.0 w (is_new_place t path place.0 place.1) after.1 own))

  -- a new symlink
  pub whole-symlink : (target path : List ℕ) → WholeShape (shape_of (outcome t (symlink t who target path)).tree)
  unfolding symlink
  whole-symlink target path = whole_outcome t (symlink t who target path) w (λ d h.
      let node = new_node (Symlink target) FULL_MODE who.now in
      let said = λ (after : Tree). answered after (Found t.next_inode) in
      let placed = new_place t path >>= (λ place. entered t who.now place node >>= said) in
      let inside = went_on (in_session t who) (λ _. require (nat_le (length target) MAX_PATH) NameTooLong >>= (λ _. placed)) d h in
      let short = went_on (require (nat_le (length target) MAX_PATH) NameTooLong) (λ _. placed) d inside.2 in
      let place = went_on (new_place t path) (λ place. entered t who.now place node >>= said) d short.2 in
      let after = went_on (entered t who.now place.0 node) said d place.2 in
      whole_answer _ d after.2 (whole-entered t who.now place.0 node after.0 w (is_new_place t path place.0 place.1) after.1 (λ parent e. absurd (cc))))

  -- a further entry of a file or a symlink
  pub whole-link : (path to : List ℕ) → WholeShape (shape_of (outcome t (link t who path to)).tree)
  unfolding link
  whole-link path to = whole_outcome t (link t who path to) w (λ d h.
      let after = λ (inode : ℕ) (place : EntryKey). linked t who.now place inode in
      let said = λ (inode : ℕ) (place : EntryKey). require (links_fit (after inode place) inode) NoSpace >>= (λ _. done (after inode place)) in
      let next = λ (inode : ℕ). require (not (is_directory t inode || is_trashed t inode)) NotPermitted >>= (λ _. new_place t to >>= said inode) in
      let inside = went_on (in_session t who) (λ _. unfollowed_inode_of t path >>= next) d h in
      let inode = went_on (unfollowed_inode_of t path) next d inside.2 in
      let may = went_on (require (not (is_directory t inode.0 || is_trashed t inode.0)) NotPermitted) (λ _. new_place t to >>= said inode.0) d inode.2 in
      let place = went_on (new_place t to) (said inode.0) d may.2 in
      let fit = went_on (require (links_fit (after inode.0 place.0) inode.0) NoSpace) (λ _. done (after inode.0 place.0)) d place.2 in
      let plain = neither (is_directory t inode.0) (is_trashed t inode.0) may.0 may.1 in
      let new = is_new_place t to place.0 place.1 in
      let named = path_named t w false path inode.0 inode.1 plain.0 in
      whole_answer (record { tree = after inode.0 place.0; reply = Done }) d fit.2
      (whole-linked t who.now place.0 named.at inode.0 w new.free new.within new.may plain.0 plain.1 named.is))

  -- attributes

  whole-with_attributes : (path : List ℕ) (change : Node → Node) → ((node : Node) → (change node).kind ≡ node.kind)
      → WholeShape (shape_of (outcome t (with_attributes t who path change)).tree)
  whole-with_attributes path change keeps_kind = whole_outcome t (with_attributes t who path change) w (λ d h.
      let after = λ (inode : ℕ) (node : Node). put_node t inode (status_changed who.now (change node)) in
      let may = λ (inode : ℕ) (node : Node). require (not (in_trash inode)) NotPermitted >>= (λ _. done (after inode node)) in
      let next = λ (inode : ℕ). some_or (node_at t inode) NotFound >>= may inode in
      let inside = went_on (in_session t who) (λ _. inode_of t path >>= next) d h in
      let inode = went_on (inode_of t path) next d inside.2 in
      let node = went_on (some_or (node_at t inode.0) NotFound) (may inode.0) d inode.2 in
      let left = went_on (require (not (in_trash inode.0)) NotPermitted) (λ _. done (after inode.0 node.0)) d node.2 in
      let there = was_some _ NotFound node.0 node.1 in
      whole_answer _ d left.2 (whole-attributes t inode.0 node.0 (status_changed who.now (change node.0)) there (keeps_kind node.0) w))

  -- other permission bits
  pub whole-chmod : (path : List ℕ) (mode : ℕ) → WholeShape (shape_of (outcome t (chmod t who path mode)).tree)
  unfolding chmod
  whole-chmod path mode = whole-with_attributes path (λ (node : Node). record node { mode = mode }) (λ node. refl)

  -- other owners
  pub whole-chown : (path : List ℕ) (uid gid : ℕ) → WholeShape (shape_of (outcome t (chown t who path uid gid)).tree)
  unfolding chown
  whole-chown path uid gid = whole-with_attributes path (λ (node : Node). record node { uid = uid; gid = gid }) (λ node. refl)

  -- another time
  pub whole-utimes : (path : List ℕ) (mtime : ℕ) → WholeShape (shape_of (outcome t (utimes t who path mtime)).tree)
  unfolding utimes
  whole-utimes path mtime = whole-with_attributes path (λ (node : Node). record node { mtime = mtime }) (λ node. refl)

  -- bytes

  -- a file cut to a length, or with zeros up to it
  pub whole-truncate : (len : ℕ) → WholeShape (shape_of (outcome t (truncate t who len)).tree)
  unfolding truncate
  whole-truncate len = whole_outcome t (truncate t who len) w (λ d h.
      let after = truncated t who.now who.inode len in
      let fitting = require (fits t after) NoSpace >>= (λ _. done after) in
      let small = require (nat_le len FILE_END) FileTooLarge >>= (λ _. fitting) in
      let inside = went_on (in_session t who) (λ _. open_content t who.inode >>= (λ _. small)) d h in
      let content = went_on (open_content t who.inode) (λ _. small) d inside.2 in
      let short = went_on (require (nat_le len FILE_END) FileTooLarge) (λ _. fitting) d content.2 in
      let fit = went_on (require (fits t after) NoSpace) (λ _. done after) d short.2 in
      whole_answer _ d fit.2 (whole_as _ _ (shape-truncated t who.now who.inode len) w))

  whole-copy_bytes : (from to len : ℕ) (d : Outcome) → copy_bytes t who from to len ≡ Ok d → WholeShape (shape_of d.tree)
  whole-copy_bytes from to len d h =
      let after = copied t who.now who.inode from who.other to len in
      let fitting = require (fits t after) NoSpace >>= (λ _. answered after (Count len)) in
      let small = require (nat_le (to + len) FILE_END) FileTooLarge >>= (λ _. fitting) in
      let apart = went_on (require (not ((who.inode == who.other) && overlap from to len)) Invalid) (λ _. small) d h in
      let short = went_on (require (nat_le (to + len) FILE_END) FileTooLarge) (λ _. fitting) d apart.2 in
      let fit = went_on (require (fits t after) NoSpace) (λ _. answered after (Count len)) d short.2 in
      whole_answer _ d fit.2 (whole_as _ _ (shape-copied t who.now who.inode from who.other to len) w)

  -- bytes of one file put into another
  pub whole-copy : (from to len : ℕ) → WholeShape (shape_of (outcome t (copy t who from to len)).tree)
  unfolding copy
  whole-copy from to len = whole_outcome t (copy t who from to len) w (λ d h.
      let copies = λ (source : Content). copy_bytes t who from to (min len (source.length - from)) in
      let next = λ (source : Content). open_content t who.other >>= (λ _. copies source) in
      let inside = went_on (in_session t who) (λ _. open_content t who.inode >>= next) d h in
      let source = went_on (open_content t who.inode) next d inside.2 in
      let target = went_on (open_content t who.other) (λ _. copies source.0) d source.2 in
      whole-copy_bytes from to (min len (source.0.length - from)) d target.2)

  -- sessions

  -- a new session, which has a number from 1 on
  pub whole-mount : 1 ≤ t.next_session → WholeShape (shape_of (outcome t (mount t who)).tree)
  unfolding mount
  whole-mount first = whole_outcome t (mount t who) w (λ d h.
      let room = went_on (require (nat_lt t.next_session FULL_COUNT) NoSpace) (λ _. answered (with_session t who) (SessionMade t.next_session)) d h in
      whole_answer _ d room.2 (whole-with_session t who w first (ltb-true _ _ (required _ NoSpace room.0 room.1))))

  -- a session that shows a sign of life
  pub whole-beat : WholeShape (shape_of (outcome t (beat t who)).tree)
  unfolding beat
  whole-beat = whole_outcome t (beat t who) w (λ d h.
      let session = went_on (some_or (get t.sessions who.sid) (Stale (Session who.sid))) (λ session. done (kept_alive t who session)) d h in
      whole_answer _ d session.2 (whole-kept_alive t who session.0 (was_some _ (Stale (Session who.sid)) session.0 session.1) w))

  -- a session that ends
  pub whole-umount : WholeShape (shape_of (outcome t (umount t who)).tree)
  unfolding umount
  whole-umount = whole_outcome t (umount t who) w (λ d h.
      let inside = went_on (in_session t who) (λ _. done (without_session t who.sid)) d h in
      whole_answer _ d inside.2 (whole-without_session t who.sid w))

  -- the end of the last handle on a file
  pub whole-release : WholeShape (shape_of (outcome t (release t who)).tree)
  unfolding release
  whole-release = whole_outcome t (release t who) w (λ d h.
      let inside = went_on (in_session t who) (λ _. done (released t who.sid who.inode)) d h in
      whole_answer _ d inside.2 (whole-released t who.sid who.inode w))
