-- Sessions, and the files that they keep.
use Rattle.std.specs.Prelude.{◌≡◌, ℕ, false, List, [], ◌∷◌, ◌++◌, codes}
use Rattle.std.proofs.Common.{refl}
use Rattle.jv_model.specs.declared.basics.How.TheVariants.{Plain}
use Rattle.jv_model.specs.declared.op.Op.TheVariants as op
use Rattle.jv_model.specs.promise.tree.Tree.{Tree}
use Rattle.jv_model.proofs.ReplyTextExamples.{replies_on_literals}
use Rattle.jv_model.proofs.TreeComputeLaws.{tree_computes}
use Rattle.jv_model_examples.proofs.trees.TreeRuns.{Event, Asks, Ticks, Expires, texts, plain_start, state_after}

-- A session ends with its umount, or once its time has come and another session cleans; the files that it kept go with it.
abbrev sessions_expire_events : List Event
sessions_expire_events =
    Asks 0 (op.Mount false)
    ∷ Asks 1 (op.Mount false)
    ∷ Asks 0 (op.Create (codes "/f") 420)
    ∷ Asks 1 (op.Create (codes "/g") 420)
    ∷ Asks 0 (op.Unlink (codes "/f"))
    ∷ Asks 1 (op.Unlink (codes "/g"))
    ∷ Asks 0 op.Statfs
    ∷ Ticks 30
    ∷ Asks 1 op.Beat
    ∷ Ticks 29
    ∷ Expires 1
    ∷ Ticks 1
    ∷ Expires 0
    ∷ Expires 1
    ∷ Expires 1
    ∷ Asks 0 (op.Stat (codes "/"))
    ∷ Asks 0 op.Beat
    ∷ Asks 0 op.Umount
    ∷ Asks 1 op.Statfs
    ∷ Asks 0 (op.Mount false)
    ∷ Asks 1 op.Umount
    ∷ Asks 0 op.Statfs
    ∷ Ticks 60
    ∷ Asks 2 (op.Mount false)
    ∷ Expires 2
    ∷ []

abbrev sessions_expire_texts : List (List ℕ)
sessions_expire_texts =
    codes "ok 1"
    ∷ codes "ok 2"
    ∷ codes "ok 1 2"
    ∷ codes "ok 1 3"
    ∷ codes "ok"
    ∷ codes "ok"
    ∷ codes "ok 8192 0 2 0"
    ∷ codes "-"
    ∷ codes "ok"
    ∷ codes "-"
    ∷ codes "none"
    ∷ codes "-"
    ∷ codes "none"
    ∷ codes "expired 1"
    ∷ codes "none"
    ∷ codes "err ESTALE session 1"
    ∷ codes "err ESTALE session 1"
    ∷ codes "err ESTALE session 1"
    ∷ codes "ok 4096 0 1 0"
    ∷ codes "ok 3"
    ∷ codes "ok"
    ∷ codes "ok 0 0 0 0"
    ∷ codes "-"
    ∷ codes "ok 4"
    ∷ codes "expired 3"
    ∷ []

sessions_expire : texts plain_start sessions_expire_events ≡ sessions_expire_texts
unfolding tree_computes replies_on_literals
sessions_expire = refl

-- Without a session every operation is ESTALE, before its path is looked at.
abbrev sessions_come_first_events : List Event
sessions_come_first_events =
    Asks 0 (op.Lookup (codes "/q"))
    ∷ Asks 0 (op.Mkdir (codes "/") 493)
    ∷ Asks 0 (op.Rename (codes "/q") (codes "/q") Plain)
    ∷ Asks 0 (op.Truncate 1 0)
    ∷ Asks 0 (op.Copy 1 0 2 0 0)
    ∷ Asks 0 (op.Close 1)
    ∷ Asks 0 (op.Compact (codes "/") 0)
    ∷ []

abbrev sessions_come_first_texts : List (List ℕ)
sessions_come_first_texts =
    codes "err ESTALE session 0"
    ∷ codes "err ESTALE session 0"
    ∷ codes "err ESTALE session 0"
    ∷ codes "err ESTALE session 0"
    ∷ codes "err ESTALE session 0"
    ∷ codes "err ESTALE session 0"
    ∷ codes "err ESTALE session 0"
    ∷ []

sessions_come_first : texts plain_start sessions_come_first_events ≡ sessions_come_first_texts
unfolding tree_computes replies_on_literals
sessions_come_first = refl

-- A file that was removed while it was open leaves nothing behind, by an umount, by its close, or by a cleaning.
abbrev begun_events : List Event
begun_events =
    Asks 0 (op.Mount false)
    ∷ Asks 0 (op.Create (codes "/f") 420)
    ∷ Asks 0 (op.Unlink (codes "/f"))
    ∷ []

abbrev tree_left : List Event → Tree
tree_left events = (state_after plain_start (begun_events ++ events)).tree

abbrev bare_tree : Tree
bare_tree = record plain_start.tree { next_inode = 3; next_session = 2 }

umounts_leave_nothing : tree_left (Asks 0 op.Umount ∷ []) ≡ bare_tree
unfolding tree_computes
umounts_leave_nothing = refl

closes_leave_nothing : tree_left (Asks 0 (op.Close 1) ∷ Asks 0 op.Umount ∷ []) ≡ bare_tree
unfolding tree_computes
closes_leave_nothing = refl

cleanings_leave_nothing : tree_left (Ticks 60 ∷ Expires 1 ∷ []) ≡ bare_tree
unfolding tree_computes
cleanings_leave_nothing = refl
