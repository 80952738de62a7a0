-- New entries: their times, and the limits of a volume.
use Rattle.std.specs.Prelude.{◌≡◌, ℕ, ◌-◌, true, false, ◌&&◌, ◌||◌, not, List, [], ◌∷◌, Ok, Err, codes}
use Rattle.std.proofs.Common.{refl}
use Rattle.jv_model.specs.declared.limits.TheConstants.{FULL_COUNT}
use Rattle.jv_model.specs.declared.op.Op.TheVariants as op
use Rattle.jv_model.proofs.ReplyTextExamples.{replies_on_literals}
use Rattle.jv_model.proofs.TreeComputeLaws.{tree_computes}
use Rattle.jv_model_examples.proofs.trees.TreeRuns.{Event, Asks, Ticks, texts, plain_start, RunState}
use Rattle.jv_model.specs.declared.fault.Fault.TheVariants.{NoSpace}
use Rattle.jv_model.specs.promise.tree.Tree.{Tree, Directory, EntryKey, new_node, is_directory, links_fit}
use Rattle.jv_model.specs.promise.tree.Walk.{unfollowed_inode_of}
use Rattle.jv_model.specs.promise.tree.Caller.{Caller, in_session}
use Rattle.jv_model.specs.promise.tree.Making.{new_place, entered, mkdir, link, linked, is_trashed}
use Rattle.jv_model.specs.promise.tree.Renaming.{within_links}

-- a volume whose next inode and next session are the last
abbrev almost_full : RunState
almost_full = record plain_start {
  tree = record plain_start.tree { next_inode = FULL_COUNT - 1; next_session = FULL_COUNT - 1 };
}

-- A new entry sets both times of its directory; a change of attributes the change time alone.
abbrev times_are_set_events : List Event
times_are_set_events =
    Asks 0 (op.Mount false)
    ∷ Asks 0 (op.Mkdir (codes "/d") 493)
    ∷ Ticks 1
    ∷ Asks 0 (op.Create (codes "/d/f") 420)
    ∷ Asks 0 (op.Stat (codes "/d"))
    ∷ Asks 0 (op.Stat (codes "/"))
    ∷ Ticks 1
    ∷ Asks 0 (op.Chmod (codes "/d/f") 384)
    ∷ Asks 0 (op.Stat (codes "/d/f"))
    ∷ Ticks 1
    ∷ Asks 0 (op.Chown (codes "/d/f") 7 4294967295)
    ∷ Asks 0 (op.Utimes (codes "/d/f") 5)
    ∷ Asks 0 (op.Stat (codes "/d/f"))
    ∷ Asks 0 (op.Stat (codes "/d"))
    ∷ Ticks 1
    ∷ Asks 0 (op.Link (codes "/d/f") (codes "/g"))
    ∷ Asks 0 (op.Stat (codes "/g"))
    ∷ Asks 0 (op.Stat (codes "/"))
    ∷ Asks 0 (op.Write 1 0 (0 ∷ []))
    ∷ Asks 0 (op.Fstat 1)
    ∷ Asks 0 (op.Chmod (codes "/q") 384)
    ∷ []

abbrev times_are_set_texts : List (List ℕ)
times_are_set_texts =
    codes "ok 1"
    ∷ codes "ok 2"
    ∷ codes "-"
    ∷ codes "ok 1 3"
    ∷ codes "ok 2 d 0755 2 0 0 4096 1001 1001"
    ∷ codes "ok 1 d 0777 3 0 0 4096 1000 1000"
    ∷ codes "-"
    ∷ codes "ok"
    ∷ codes "ok 3 f 0600 1 0 0 0 1001 1002"
    ∷ codes "-"
    ∷ codes "ok"
    ∷ codes "ok"
    ∷ codes "ok 3 f 0600 1 7 4294967295 0 5 1003"
    ∷ codes "ok 2 d 0755 2 0 0 4096 1001 1001"
    ∷ codes "-"
    ∷ codes "ok"
    ∷ codes "ok 3 f 0600 2 7 4294967295 0 5 1004"
    ∷ codes "ok 1 d 0777 3 0 0 4096 1004 1004"
    ∷ codes "ok 1"
    ∷ codes "ok 3 f 0600 2 7 4294967295 1 1004 1004"
    ∷ codes "err ENOENT"
    ∷ []

times_are_set : texts plain_start times_are_set_events ≡ times_are_set_texts
unfolding tree_computes replies_on_literals
times_are_set = refl

-- The last inode and the last session are one below 2^62.
abbrev numbers_run_out_events : List Event
numbers_run_out_events =
    Asks 0 (op.Mount false)
    ∷ Asks 1 (op.Mount false)
    ∷ Asks 0 (op.Create (codes "/f") 420)
    ∷ Asks 0 (op.Create (codes "/g") 420)
    ∷ Asks 0 (op.Mkdir (codes "/d") 493)
    ∷ Asks 0 (op.Symlink (codes "f") (codes "/l"))
    ∷ Asks 0 (op.Create (codes "/f") 420)
    ∷ Asks 0 (op.Link (codes "/f") (codes "/g"))
    ∷ []

abbrev numbers_run_out_texts : List (List ℕ)
numbers_run_out_texts =
    codes "ok 4611686018427387903"
    ∷ codes "err ENOSPC"
    ∷ codes "ok 1 4611686018427387903"
    ∷ codes "err ENOSPC"
    ∷ codes "err ENOSPC"
    ∷ codes "err ENOSPC"
    ∷ codes "err EEXIST"
    ∷ codes "ok"
    ∷ []

numbers_run_out : texts almost_full numbers_run_out_events ≡ numbers_run_out_texts
unfolding tree_computes replies_on_literals
numbers_run_out = refl

-- Link counts that can't be stored: no tree that is written out here has that many entries.

-- a file with 2^32 - 1 names gets no other
full_links_refuse_a_link : (t : Tree) (who : Caller) (path to : List ℕ) (inode : ℕ) (place : EntryKey)
    → in_session t who ≡ Ok tt → unfollowed_inode_of t path ≡ Ok inode → not (is_directory t inode || is_trashed t inode) ≡ true
    → new_place t to ≡ Ok place → links_fit (linked t who.now place inode) inode ≡ false
    → link t who path to ≡ Err NoSpace
unfolding link
full_links_refuse_a_link t who path to inode place session walk may free full =
    rw session (rw walk (rw may (rw free (rw full refl))))

-- a directory with 2^32 - 3 directories gets no other, by a mkdir
full_links_refuse_a_mkdir : (t after : Tree) (who : Caller) (path : List ℕ) (mode : ℕ) (place : EntryKey)
    → in_session t who ≡ Ok tt → new_place t path ≡ Ok place
    → entered t who.now place (new_node (Directory place.dir) mode who.now) ≡ Ok after → links_fit after place.dir ≡ false
    → mkdir t who path mode ≡ Err NoSpace
unfolding mkdir
full_links_refuse_a_mkdir t after who path mode place session free room full =
    rw session (rw free (rw room (rw full refl)))

-- nor by a rename
full_links_refuse_a_rename : (from to : EntryKey) (after : Tree) → (links_fit after from.dir && links_fit after to.dir) ≡ false
    → within_links from to after ≡ Err NoSpace
full_links_refuse_a_rename from to after full = rw full refl
