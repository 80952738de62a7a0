-- Paths, symlinks and names.
use Rattle.std.specs.Prelude.{◌≡◌, ℕ, false, List, [], ◌∷◌, ◌++◌, replicate, codes, zero, suc, ◌+◌, decimal, reverse}
use Rattle.std.proofs.Common.{refl}
use Rattle.jv_model.specs.declared.basics.How.TheVariants.{Plain}
use Rattle.jv_model.specs.declared.op.Op.TheVariants as op
use Rattle.jv_model.proofs.ReplyTextExamples.{replies_on_literals}
use Rattle.jv_model.proofs.TreeComputeLaws.{tree_computes}
use Rattle.jv_model_examples.proofs.trees.TreeRuns.{Event, Asks, texts, plain_start, RunState, state_after}

-- Slashes in a row are one, one at the end is ignored, and the root is its own parent.
abbrev paths_have_spare_slashes_events : List Event
paths_have_spare_slashes_events =
    Asks 0 (op.Mount false)
    ∷ Asks 0 (op.Mkdir (codes "//a/") 493)
    ∷ Asks 0 (op.Create (codes "/a//f") 420)
    ∷ Asks 0 (op.Lookup (codes "/a/f/"))
    ∷ Asks 0 (op.Lookup (codes "/a/./f"))
    ∷ Asks 0 (op.Lookup (codes "/a/../../a/f"))
    ∷ Asks 0 (op.Lookup (codes "/"))
    ∷ Asks 0 (op.Lookup (codes "/.."))
    ∷ Asks 0 (op.Lookup (codes "/a/f/."))
    ∷ Asks 0 (op.Lookup (codes "/a/f/.."))
    ∷ Asks 0 (op.Lookup (codes "/a/g"))
    ∷ Asks 0 (op.Lookup (codes "/a/g/h"))
    ∷ Asks 0 (op.Readdir (codes "/a/f"))
    ∷ Asks 0 (op.Open (codes "/a"))
    ∷ Asks 0 (op.Compact (codes "/a") 0)
    ∷ Asks 0 (op.Compact (codes "/a/f") 0)
    ∷ Asks 0 (op.Compact (codes "/a/g") 0)
    ∷ []

abbrev paths_have_spare_slashes_texts : List (List ℕ)
paths_have_spare_slashes_texts =
    codes "ok 1"
    ∷ codes "ok 2"
    ∷ codes "ok 1 3"
    ∷ codes "ok 3"
    ∷ codes "ok 3"
    ∷ codes "ok 3"
    ∷ codes "ok 1"
    ∷ codes "ok 1"
    ∷ codes "err ENOTDIR"
    ∷ codes "err ENOTDIR"
    ∷ codes "err ENOENT"
    ∷ codes "err ENOENT"
    ∷ codes "err ENOTDIR"
    ∷ codes "err EISDIR"
    ∷ codes "err EISDIR"
    ∷ codes "ok"
    ∷ codes "err ENOENT"
    ∷ []

paths_have_spare_slashes : texts plain_start paths_have_spare_slashes_events ≡ paths_have_spare_slashes_texts
unfolding tree_computes replies_on_literals
paths_have_spare_slashes = refl

-- An entry has a last name, of at most 255 bytes, in a directory.
abbrev entries_have_last_names_events : List Event
entries_have_last_names_events =
    Asks 0 (op.Mount false)
    ∷ Asks 0 (op.Mkdir (codes "/") 493)
    ∷ Asks 0 (op.Mkdir (codes "/..") 493)
    ∷ Asks 0 (op.Mkdir (codes "/a/.") 493)
    ∷ Asks 0 (op.Mkdir (codes "/a/b") 493)
    ∷ Asks 0 (op.Create (codes "/a") 420)
    ∷ Asks 0 (op.Create (codes "/a/b") 420)
    ∷ Asks 0 (op.Create (47 ∷ replicate 255 110) 420)
    ∷ Asks 0 (op.Create (47 ∷ replicate 256 110) 420)
    ∷ Asks 0 (op.Lookup (47 ∷ replicate 256 110))
    ∷ Asks 0 (op.Create (codes "/a/" ++ replicate 256 110) 420)
    ∷ Asks 0 (op.Lookup (replicate 4096 47))
    ∷ Asks 0 (op.Lookup (replicate 4097 47))
    ∷ Asks 0 (op.Mkdir (replicate 4097 47) 420)
    ∷ []

abbrev entries_have_last_names_texts : List (List ℕ)
entries_have_last_names_texts =
    codes "ok 1"
    ∷ codes "err EINVAL"
    ∷ codes "err EINVAL"
    ∷ codes "err EINVAL"
    ∷ codes "err ENOENT"
    ∷ codes "ok 1 2"
    ∷ codes "err ENOTDIR"
    ∷ codes "ok 2 3"
    ∷ codes "err ENAMETOOLONG"
    ∷ codes "err ENAMETOOLONG"
    ∷ codes "err ENOTDIR"
    ∷ codes "ok 1"
    ∷ codes "err ENAMETOOLONG"
    ∷ codes "err ENAMETOOLONG"
    ∷ []

entries_have_last_names : texts plain_start entries_have_last_names_events ≡ entries_have_last_names_texts
unfolding tree_computes replies_on_literals
entries_have_last_names = refl

-- A symlink is walked from the root or from its own directory. The last one is followed by an open, and names itself in an entry.
abbrev symlinks_are_ways_events : List Event
symlinks_are_ways_events =
    Asks 0 (op.Mount false)
    ∷ Asks 0 (op.Mkdir (codes "/d") 493)
    ∷ Asks 0 (op.Create (codes "/d/f") 420)
    ∷ Asks 0 (op.Symlink (codes "f") (codes "/d/near"))
    ∷ Asks 0 (op.Symlink (codes "/d/near") (codes "/far"))
    ∷ Asks 0 (op.Symlink (codes "d") (codes "/dir"))
    ∷ Asks 0 (op.Symlink (codes "gone") (codes "/dangling"))
    ∷ Asks 0 (op.Open (codes "/far"))
    ∷ Asks 0 (op.Lookup (codes "/far"))
    ∷ Asks 0 (op.Stat (codes "/far"))
    ∷ Asks 0 (op.Create (codes "/dir/g") 420)
    ∷ Asks 0 (op.Lookup (codes "/d/g"))
    ∷ Asks 0 (op.Lookup (codes "/dir/g"))
    ∷ Asks 0 (op.Readdir (codes "/dir/"))
    ∷ Asks 0 (op.Lookup (codes "/far/x"))
    ∷ Asks 0 (op.Open (codes "/dangling"))
    ∷ Asks 0 (op.Create (codes "/dangling") 420)
    ∷ Asks 0 (op.Readlink (codes "/dangling"))
    ∷ Asks 0 (op.Link (codes "/far") (codes "/same"))
    ∷ Asks 0 (op.Lstat (codes "/same"))
    ∷ Asks 0 (op.Unlink (codes "/far"))
    ∷ Asks 0 (op.Open (codes "/same"))
    ∷ Asks 0 (op.Rename (codes "/same") (codes "/d/near") Plain)
    ∷ Asks 0 (op.Readlink (codes "/d/near"))
    ∷ Asks 0 (op.Open (codes "/d/near"))
    ∷ Asks 0 (op.Symlink (replicate 4096 97) (codes "/long"))
    ∷ Asks 0 (op.Symlink (replicate 4097 97) (codes "/longer"))
    ∷ Asks 0 (op.Symlink (codes "x") (codes "/"))
    ∷ []

abbrev symlinks_are_ways_texts : List (List ℕ)
symlinks_are_ways_texts =
    codes "ok 1"
    ∷ codes "ok 2"
    ∷ codes "ok 1 3"
    ∷ codes "ok 4"
    ∷ codes "ok 5"
    ∷ codes "ok 6"
    ∷ codes "ok 7"
    ∷ codes "ok 2 3"
    ∷ codes "ok 5"
    ∷ codes "ok 3 f 0644 1 0 0 0 1000 1000"
    ∷ codes "ok 3 8"
    ∷ codes "ok 8"
    ∷ codes "ok 8"
    ∷ codes "ok f:3 g:8 near:4"
    ∷ codes "err ENOTDIR"
    ∷ codes "err ENOENT"
    ∷ codes "err EEXIST"
    ∷ codes "ok gone"
    ∷ codes "ok"
    ∷ codes "ok 5 l 0777 2 0 0 7 1000 1000"
    ∷ codes "ok"
    ∷ codes "ok 4 3"
    ∷ codes "ok"
    ∷ codes "ok /d/near"
    ∷ codes "err ELOOP"
    ∷ codes "ok 9"
    ∷ codes "err ENAMETOOLONG"
    ∷ codes "err EINVAL"
    ∷ []

symlinks_are_ways : texts plain_start symlinks_are_ways_events ≡ symlinks_are_ways_texts
unfolding tree_computes replies_on_literals
symlinks_are_ways = refl

-- a file `/l0`, and symlinks to it, each of which leads to the one before it
abbrev chain : ℕ → List Event
chain zero = Asks 0 (op.Create (codes "/l0") 420) ∷ Asks 0 (op.Mount false) ∷ []
chain (suc n) = Asks 0 (op.Symlink (108 ∷ decimal n) (codes "/l" ++ decimal (n + 1))) ∷ chain n

abbrev chained : RunState
chained = state_after plain_start (reverse (chain 41))

-- a walk follows 40 symlinks and no more; one that isn't followed doesn't count
symlinks_are_counted : texts chained (
    Asks 0 (op.Lookup (codes "/l41"))
    ∷ Asks 0 (op.Open (codes "/l40"))
    ∷ Asks 0 (op.Open (codes "/l41"))
    ∷ [])
    ≡ codes "ok 43" ∷ codes "ok 2 2" ∷ codes "err ELOOP" ∷ []
unfolding tree_computes replies_on_literals
symlinks_are_counted = refl
