-- Runs: how the pending bytes lie in memory.
use Rattle.std.specs.Prelude.{◌≡◌, ℕ, ◌+◌, ◌-◌, ◌*◌, ◌%◌, ◌<◌, ◌≤◌, ◌==◌, nat_lt, nat_le, if◌then◌else◌, Bool, List, [], ◌∷◌, ◌++◌, length, take, drop, min, filter, Option, Some, IsSome, IfSome, IsSomeAnd}
use Rattle.std.specs.declared.cmp.Ordering.{Ordering}
use Rattle.std.specs.Ordering.{nat_cmp, ordering_then}
use Rattle.std.specs.BTreeMap.{is_at}
use Rattle.std.specs.Map.{lookup}
use Rattle.jv_model.specs.declared.limits.TheConstants.{FILE_END, WINDOW}
use Rattle.jv_model.specs.promise.client.Pending.{PendingByte, Segment, written}
use Rattle.jv_model.specs.Lists.{first_item}
use Rattle.jv_model.specs.promise.Lists.{last_item}
use Rattle.jv_pending.specs.declared.run.RunStart.{RunStart}

-- a run: where it begins, and its bytes
abbrev pub Run : Type 0
Run = RunStart × List ℕ

-- places as numbers, in the order of the inodes and then of the positions: no position passes 2^40
abbrev pub place : ℕ → ℕ → ℕ
place inode position = inode * FILE_END + position

abbrev pub place_of : RunStart → ℕ
place_of s = place s.inode s.from

-- starts go by inode, then by position
abbrev pub start_cmp : RunStart → RunStart → Ordering
start_cmp s t = ordering_then (nat_cmp s.inode t.inode) (nat_cmp s.from t.from)

-- the bytes of the run at a start
abbrev pub bytes_at : RunStart → List Run → Option (List ℕ)
bytes_at s = lookup (is_at (start_cmp s))

-- bytes in a row from a position on
abbrev pub placed : ℕ → ℕ → List ℕ → List PendingByte
placed inode from [] = []
placed inode from (b ∷ bs) =
    record { inode = inode; position = from; byte = b } ∷ placed inode (from + 1) bs

-- the bytes of runs
abbrev pub pending_bytes : List Run → List PendingByte
pending_bytes [] = []
pending_bytes (r ∷ rs) = placed r.0.inode r.0.from r.1 ++ pending_bytes rs

abbrev pub end_of_run : Run → ℕ
end_of_run r = r.0.from + length r.1

abbrev pub start_place : Run → ℕ
start_place r = place_of r.0

abbrev pub end_place : Run → ℕ
end_place r = place r.0.inode (end_of_run r)

abbrev pub segment_of_run : Run → Segment
segment_of_run r = record { inode = r.0.inode; from = r.0.from; len = length r.1 }

-- how many positions must lie free before a run that begins here: none at the begin of a window
abbrev pub gap : ℕ → ℕ
gap from = if from % WINDOW == 0 then 0 else 1

-- a run has bytes, inside one window
pub record IsRun (r : Run) : Type 0 where
  pub some : 0 < length r.1
  pub in_window : r.0.from % WINDOW + length r.1 ≤ WINDOW
  pub in_file : end_of_run r ≤ FILE_END

-- the runs rise, begin at this place or later, and don't touch in a window
abbrev pub InOrder : ℕ → List Run → Type 0
InOrder low [] = Unit {0}
InOrder low (r ∷ rs) = IsRun r × (low + gap r.0.from ≤ start_place r) × InOrder (end_place r) rs

-- the runs, some of which may have no bytes, begin at places that rise from this one on
abbrev pub Rise : ℕ → List Run → Type 0
Rise low [] = Unit {0}
Rise low (r ∷ rs) = (r.0.from < FILE_END) × (low ≤ start_place r) × Rise (start_place r + 1) rs

-- all begin before a place
abbrev pub Before : ℕ → List Run → Type 0
Before n [] = Unit {0}
Before n (r ∷ rs) = (start_place r < n) × Before n rs

-- the runs that begin before a place, and the others
abbrev pub runs_before : ℕ → List Run → List Run
runs_before n = filter (λ r. nat_lt (start_place r) n)

abbrev pub runs_from : ℕ → List Run → List Run
runs_from n = filter (λ r. nat_le n (start_place r))

-- the runs that begin at a place or later, and before another
abbrev pub runs_within : ℕ → ℕ → List Run → List Run
runs_within low high runs = runs_from low (runs_before high runs)

-- where the first run begins, or else this place
abbrev pub first_place : ℕ → List Run → ℕ
first_place n [] = n
first_place n (r ∷ rs) = start_place r

-- these runs in the place of those that begin from their first one on and before a place
abbrev pub with_runs : List Run → ℕ → List Run → List Run
with_runs fresh high runs =
    runs_before (first_place high fresh) runs ++ (fresh ++ runs_from high runs)

-- the others than the run at a start
abbrev pub without_run : RunStart → List Run → List Run
without_run s runs = runs_before (place_of s) runs ++ runs_from (place_of s + 1) runs

-- the place after the last run
abbrev pub end_after : ℕ → List Run → ℕ
end_after low [] = low
end_after low (r ∷ rs) = end_after (end_place r) rs

-- runs that are bytes in a row, cut where windows end
pub record IsCut (inode from : ℕ) (bytes : List ℕ) (runs : List Run) : Type 0 where
  pub same : pending_bytes runs ≡ placed inode from bytes
  pub order : InOrder (place inode from - gap from) runs
  pub ends : end_after (place inode from) runs ≡ place inode (from + length bytes)

-- what a write from a position on leaves of the runs that it overlaps or touches: the bytes before
-- it
abbrev pub head_of : ℕ → List Run → List ℕ
head_of from [] = []
head_of from (r ∷ rs) = take (from - r.0.from) r.1

-- and those from its end on
abbrev pub tail_of : ℕ → List Run → List ℕ
tail_of to [] = []
tail_of to (r ∷ []) = drop (to - r.0.from) r.1
tail_of to (_ ∷ r ∷ rs) = tail_of to (r ∷ rs)

-- where the joined bytes begin
abbrev pub joined_from : ℕ → List Run → ℕ
joined_from from [] = from
joined_from from (r ∷ rs) = min r.0.from from

abbrev pub joined : ℕ → List ℕ → List Run → List ℕ
joined from bytes mid = head_of from mid ++ (bytes ++ tail_of (from + length bytes) mid)

-- each run ends at a place or before it
abbrev pub EndBy : ℕ → List Run → Type 0
EndBy n [] = Unit {0}
EndBy n (r ∷ rs) = (end_place r ≤ n) × EndBy n rs

-- the runs are of one inode and begin at a position or before it
abbrev pub BeginBy : ℕ → ℕ → List Run → Type 0
BeginBy inode to [] = Unit {0}
BeginBy inode to (r ∷ rs) = (r.0.inode ≡ inode) × (r.0.from ≤ to) × BeginBy inode to rs

-- the first run overlaps what begins at a position, or touches it in its window
abbrev pub Reaches : ℕ → List Run → Type 0
Reaches from [] = Unit {0}
Reaches from (r ∷ rs) = from + 1 ≤ end_of_run r + gap from

-- the run at `first` overlaps or touches what begins at a position, or `first` is its start, and no
-- run before it does
pub record IsFirst (inode from : ℕ) (runs : List Run) (first : RunStart) : Type 0 where
  pub inode_is : first.inode ≡ inode
  pub from_is : first.from ≤ from
  pub before : EndBy (place inode from - gap from) (runs_before (place_of first) runs)
  pub reached : IfSome (first_item (runs_from (place_of first) runs))
      (λ r. r.0.inode ≡ inode → from + 1 ≤ end_of_run r + gap from)
  pub begins : (first.from < from
      → IsSomeAnd (first_item (runs_from (place_of first) runs)) (λ r. r.0 ≡ first))

-- the runs from `first` on and before `end` are those that a write overlaps or touches in a window
pub record IsTouched (inode from to : ℕ) (runs : List Run) (first end : RunStart) : Type 0 where
  pub first_inode : first.inode ≡ inode
  pub first_from : first.from ≤ from
  pub end_inode : end.inode ≡ inode
  pub end_from : end.from ≡ to + gap to
  pub begins : joined_from from (runs_within (place_of first) (place_of end) runs) ≡ first.from
  pub before : EndBy (place inode from - gap from) (runs_before (place_of first) runs)
  pub of_inode : BeginBy inode (to + gap to - 1) (runs_within (place_of first) (place_of end) runs)
  pub reached : Reaches from (runs_within (place_of first) (place_of end) runs)
  pub after : InOrder (place inode to) (runs_from (place_of end) runs)

-- bytes over those of a run from an index on, and more behind all
abbrev pub joined_behind : ℕ → List ℕ → List ℕ → List ℕ → List ℕ
joined_behind at run bytes more = take at run ++ (bytes ++ (drop (at + length bytes) run ++ more))

-- a run that was taken out of its place, back in it, or the place gone where it was new
abbrev pub given_back : RunStart → Bool → List ℕ → List Run → List Run
given_back s is_new bytes runs =
    if is_new then without_run s runs else with_runs ((s, bytes) ∷ []) (place_of s + 1) runs

-- the last run before `end` begins behind `first`, and more than `count` of its bytes lie behind a
-- position
pub record IsLonger (first end : RunStart) (to count : ℕ) (runs : List Run)
    (last : RunStart) : Type 0 where
  pub bytes : List ℕ
  pub is_last : Some (last, bytes) ≡ last_item (runs_before (place_of end) runs)
  pub behind : place_of first < place_of last
  pub from : last.from ≤ to
  pub longer : count + (to - last.from) < length bytes

-- the run at `first` overlaps or touches what begins at a position, or `first` is its start, and
-- the runs from there on are in order
pub record Starts (from : ℕ) (runs : List Run) (first : RunStart) : Type 0 where
  pub order : InOrder (place_of first - gap first.from) (runs_from (place_of first) runs)
  pub touches : IsFirst first.inode from (runs_from (place_of first) runs) first

-- the run at `first` is the only one that a write of `count` bytes overlaps or touches, and the
-- write stays in one window
pub record IsOnly (from count : ℕ) (runs : List Run) (first : RunStart) : Type 0 where
  pub is_first : IsFirst first.inode from runs first
  pub there : IsSome (bytes_at first runs)
  pub alone : runs_within (place_of first + 1)
      (place first.inode (from + count + gap (from + count))) runs ≡ []
  pub in_window : from % WINDOW + count ≤ WINDOW

-- the runs from `first` on are those with the bytes written, and the runs before it stay
pub record Writes (from : ℕ) (bytes : List ℕ) (first : RunStart) (old new : List Run) : Type 0 where
  pub before : runs_before (place_of first) new ≡ runs_before (place_of first) old
  pub order : InOrder (place_of first - gap first.from) (runs_from (place_of first) new)
  pub same : pending_bytes (runs_from (place_of first) new) ≡ written first.inode from bytes
      (pending_bytes (runs_from (place_of first) old))

-- the touched runs give way to the bytes of the write joined with theirs
pub record Rewrites (inode from : ℕ) (bytes : List ℕ) (first end : RunStart)
    (old new : List Run) : Type 0 where
  pub fresh : List Run
  pub cut : IsCut inode (joined_from from (runs_within (place_of first) (place_of end) old))
      (joined from bytes (runs_within (place_of first) (place_of end) old)) fresh
  pub same : new ≡ runs_before (place_of first) old ++ (fresh ++ runs_from (place_of end) old)
