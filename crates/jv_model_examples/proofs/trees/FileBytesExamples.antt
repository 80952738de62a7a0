-- The bytes of files, and their times.
use Rattle.std.specs.Prelude.{◌≡◌, ℕ, false, List, [], ◌∷◌, map, codes}
use Rattle.std.proofs.Common.{refl}
use Rattle.jv_model.specs.declared.op.Op.TheVariants as op
use Rattle.jv_model.specs.promise.tree.Tree.{Content}
use Rattle.jv_model.specs.promise.tree.Changes.{resized, overwritten, copied_over}
use Rattle.jv_model.proofs.ReplyTextExamples.{replies_on_literals}
use Rattle.jv_model.proofs.TreeComputeLaws.{tree_computes}
use Rattle.jv_model_examples.proofs.trees.TreeRuns.{Event, Asks, Ticks, texts, plain_start, plain_setting, start_of, state_after, RunState}

-- What a write, a truncate or a copy leaves open reads as zeros, whatever stood there before.
abbrev gaps_are_zeros_events : List Event
gaps_are_zeros_events =
    Asks 0 (op.Mount false)
    ∷ Asks 0 (op.Create (codes "/f") 420)
    ∷ Asks 0 (op.Write 1 0 (104 ∷ 101 ∷ 108 ∷ 108 ∷ 111 ∷ []))
    ∷ Asks 0 (op.Truncate 1 3)
    ∷ Asks 0 (op.Truncate 1 5)
    ∷ Asks 0 (op.Read 1 0 9)
    ∷ Asks 0 (op.Truncate 1 1)
    ∷ Asks 0 (op.Write 1 3 (122 ∷ []))
    ∷ Asks 0 (op.Read 1 0 9)
    ∷ Asks 0 (op.Read 1 4 9)
    ∷ Asks 0 (op.Create (codes "/g") 420)
    ∷ Asks 0 (op.Copy 1 0 2 2 100)
    ∷ Asks 0 (op.Read 2 0 9)
    ∷ Asks 0 (op.Truncate 1 0)
    ∷ Asks 0 (op.Copy 2 4 1 1 2)
    ∷ Asks 0 (op.Read 1 0 9)
    ∷ Asks 0 (op.Fstat 1)
    ∷ []

abbrev gaps_are_zeros_texts : List (List ℕ)
gaps_are_zeros_texts =
    codes "ok 1"
    ∷ codes "ok 1 2"
    ∷ codes "ok 5"
    ∷ codes "ok"
    ∷ codes "ok"
    ∷ codes "ok 68656c0000"
    ∷ codes "ok"
    ∷ codes "ok 1"
    ∷ codes "ok 6800007a"
    ∷ codes "ok -"
    ∷ codes "ok 2 3"
    ∷ codes "ok 4"
    ∷ codes "ok 00006800007a"
    ∷ codes "ok"
    ∷ codes "ok 2"
    ∷ codes "ok 00007a"
    ∷ codes "ok 2 f 0644 1 0 0 3 1000 1000"
    ∷ []

gaps_are_zeros : texts plain_start gaps_are_zeros_events ≡ gaps_are_zeros_texts
unfolding tree_computes replies_on_literals
gaps_are_zeros = refl

-- A copy goes as far as its source; in one file its ranges are apart; and no file passes 2^40.
abbrev copies_keep_their_bounds_events : List Event
copies_keep_their_bounds_events =
    Asks 0 (op.Mount false)
    ∷ Asks 0 (op.Create (codes "/f") 420)
    ∷ Asks 0 (op.Write 1 0 (1 ∷ 2 ∷ 3 ∷ []))
    ∷ Asks 0 (op.Copy 1 0 1 2 3)
    ∷ Asks 0 (op.Copy 1 2 1 0 3)
    ∷ Asks 0 (op.Copy 1 0 1 3 3)
    ∷ Asks 0 (op.Read 1 0 9)
    ∷ Asks 0 (op.Copy 1 1 1 1 1)
    ∷ Ticks 4
    ∷ Asks 0 (op.Copy 1 6 1 0 9)
    ∷ Asks 0 (op.Copy 1 9 1 0 9)
    ∷ Asks 0 (op.Fstat 1)
    ∷ Asks 0 (op.Copy 1 0 1 1099511627775 2)
    ∷ Asks 0 (op.Copy 1 0 1 1099511627777 0)
    ∷ Asks 0 (op.Copy 1 0 1 1099511627775 1)
    ∷ Asks 0 (op.Fstat 1)
    ∷ Asks 0 (op.Truncate 1 1099511627777)
    ∷ Asks 0 (op.Create (codes "/g") 420)
    ∷ Asks 1 (op.Mount false)
    ∷ Asks 1 (op.Unlink (codes "/g"))
    ∷ Asks 0 (op.Copy 1 0 2 0 1)
    ∷ Asks 0 (op.Copy 2 0 1 0 1)
    ∷ []

abbrev copies_keep_their_bounds_texts : List (List ℕ)
copies_keep_their_bounds_texts =
    codes "ok 1"
    ∷ codes "ok 1 2"
    ∷ codes "ok 3"
    ∷ codes "err EINVAL"
    ∷ codes "ok 1"
    ∷ codes "ok 3"
    ∷ codes "ok 030203030203"
    ∷ codes "err EINVAL"
    ∷ codes "-"
    ∷ codes "ok 0"
    ∷ codes "ok 0"
    ∷ codes "ok 2 f 0644 1 0 0 6 1000 1000"
    ∷ codes "err EFBIG"
    ∷ codes "err EFBIG"
    ∷ codes "ok 1"
    ∷ codes "ok 2 f 0644 1 0 0 1099511627776 1004 1004"
    ∷ codes "err EFBIG"
    ∷ codes "ok 2 3"
    ∷ codes "ok 2"
    ∷ codes "ok"
    ∷ codes "err ESTALE inode 3"
    ∷ codes "err ESTALE inode 3"
    ∷ []

copies_keep_their_bounds : texts plain_start copies_keep_their_bounds_events ≡ copies_keep_their_bounds_texts
unfolding tree_computes replies_on_literals
copies_keep_their_bounds = refl

-- a volume of a GiB
abbrev small_start : RunState
small_start = start_of (record plain_setting { capacity = 1 }) 1000

-- Bytes that would pass the capacity are refused, and a change that takes no more space than there was is not.
abbrev bytes_fit_in_the_volume_events : List Event
bytes_fit_in_the_volume_events =
    Asks 0 (op.Mount false)
    ∷ Asks 0 (op.Create (codes "/f") 420)
    ∷ Asks 0 (op.Truncate 1 1073741825)
    ∷ Asks 0 (op.Truncate 1 1073737728)
    ∷ Asks 0 (op.Create (codes "/g") 420)
    ∷ Asks 0 (op.Truncate 2 4097)
    ∷ Asks 0 (op.Copy 1 0 2 0 4097)
    ∷ Asks 0 (op.Copy 1 0 2 4096 1)
    ∷ Asks 0 (op.Copy 1 0 2 0 4096)
    ∷ Asks 0 (op.Symlink (codes "f") (codes "/l"))
    ∷ Asks 0 (op.Truncate 1 1073737727)
    ∷ Asks 0 (op.Copy 2 0 1 0 4096)
    ∷ Asks 0 op.Statfs
    ∷ []

abbrev bytes_fit_in_the_volume_texts : List (List ℕ)
bytes_fit_in_the_volume_texts =
    codes "ok 1"
    ∷ codes "ok 1 2"
    ∷ codes "err ENOSPC"
    ∷ codes "ok"
    ∷ codes "ok 2 3"
    ∷ codes "err ENOSPC"
    ∷ codes "err ENOSPC"
    ∷ codes "err ENOSPC"
    ∷ codes "ok 4096"
    ∷ codes "err ENOSPC"
    ∷ codes "ok"
    ∷ codes "ok 4096"
    ∷ codes "ok 1073741824 1 2 0"
    ∷ []

bytes_fit_in_the_volume : texts small_start bytes_fit_in_the_volume_events ≡ bytes_fit_in_the_volume_texts
unfolding tree_computes replies_on_literals
bytes_fit_in_the_volume = refl

abbrev over_limit : RunState → RunState
over_limit s = record s { tree = record s.tree { setting = record s.tree.setting { inodes = 1 } } }

-- a volume of two files that may have one
abbrev over_start : RunState
over_start = over_limit (state_after plain_start (
    Asks 0 (op.Mount false)
    ∷ Asks 0 (op.Create (codes "/f") 420)
    ∷ Asks 0 (op.Create (codes "/g") 420)
    ∷ []))

-- On a volume that is over its limit, as a loaded one may be, only what would grow is refused.
abbrev what_does_not_grow_fits_events : List Event
what_does_not_grow_fits_events =
    Asks 0 (op.Truncate 1 4096)
    ∷ Asks 0 (op.Write 2 0 (0 ∷ []))
    ∷ Asks 0 (op.Copy 1 0 2 0 4096)
    ∷ Asks 0 (op.Create (codes "/h") 420)
    ∷ Asks 0 (op.Link (codes "/f") (codes "/h"))
    ∷ Asks 0 op.Statfs
    ∷ []

abbrev what_does_not_grow_fits_texts : List (List ℕ)
what_does_not_grow_fits_texts =
    codes "ok"
    ∷ codes "ok 1"
    ∷ codes "ok 4096"
    ∷ codes "err ENOSPC"
    ∷ codes "ok"
    ∷ codes "ok 8192 0 2 1"
    ∷ []

what_does_not_grow_fits : texts over_start what_does_not_grow_fits_events ≡ what_does_not_grow_fits_texts
unfolding tree_computes replies_on_literals
what_does_not_grow_fits = refl

-- what a byte function says past the length doesn't count
abbrev loud : Content
loud = record { length = 1; byte = λ _. 9 }

gaps_are_zeros_by_definition : map (overwritten loud 3 (5 ∷ [])).byte (0 ∷ 1 ∷ 2 ∷ 3 ∷ 4 ∷ []) ≡ 9 ∷ 0 ∷ 0 ∷ 5 ∷ 0 ∷ []
gaps_are_zeros_by_definition = refl

grown_files_are_zeros_by_definition : map (resized loud 3).byte (0 ∷ 1 ∷ 2 ∷ 3 ∷ []) ≡ 9 ∷ 0 ∷ 0 ∷ 0 ∷ []
grown_files_are_zeros_by_definition = refl

copies_are_zeros_by_definition : map (copied_over loud 0 loud 2 3).byte (0 ∷ 1 ∷ 2 ∷ 3 ∷ 4 ∷ 5 ∷ []) ≡ 9 ∷ 0 ∷ 9 ∷ 0 ∷ 0 ∷ 0 ∷ []
copies_are_zeros_by_definition = refl
