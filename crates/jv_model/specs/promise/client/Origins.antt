-- Where the bytes of files come from, which says whose blocks a reader may still miss.
use Rattle.std.specs.Prelude.{ℕ, ◌+◌, ◌-◌, Bool, ◌&&◌, ◌||◌, not, ◌==◌, nat_le, nat_lt, if◌then◌else◌, List, Option, None, Some}
use Rattle.std.specs.List.{list_any}
use Rattle.jv_model.specs.promise.Ranges.{in_range}

-- where a position's byte comes from
pub data Origin : Type 0 where
  Start : (inode position : ℕ) → Origin  -- it was there when the run began, at this place
  Zero : Origin  -- it was cut off, or filled
  Committed : (entry : ℕ) → Origin  -- it came with the Commit of that number
  Made : Origin  -- a compaction put it into a new slice

-- an origin, and the number of the entry that set it, 0 for none
pub record Mark : Type 0 where
  pub origin : Origin
  pub stamp : ℕ

-- by inode and position
abbrev pub Marks : Type 0
Marks = ℕ → ℕ → Mark

abbrev pub first_marks : Marks
first_marks = λ inode position. record { origin = Start inode position; stamp = 0 }

abbrev pub marked : Origin → ℕ → Mark
marked origin entry = record { origin = origin; stamp = entry }

-- a commit brings its bytes
abbrev pub marks_committed : ℕ → ℕ → ℕ → ℕ → Marks → Marks
marks_committed entry inode from len marks = λ i position. if (i == inode)
    && in_range from len position then marked (Committed entry) entry else marks i position

-- a truncation leaves zeros from its length on
abbrev pub marks_truncated : ℕ → ℕ → ℕ → Marks → Marks
marks_truncated entry inode len marks = λ i position. if (i == inode) && nat_le len position
    then marked Zero entry else marks i position

-- a copy takes each origin along; zeros fill what lies between the target's old length and its
-- range
abbrev pub marks_copied : ℕ → ℕ → ℕ → ℕ → ℕ → ℕ → ℕ → Marks → Marks
marks_copied entry source from target to len length marks =
    λ i position. if not (i == target) || (len == 0) then marks i position
    else if in_range to len position
    then marked (marks source (from + (position - to))).origin entry
    else if nat_le length position && nat_lt position to then marked Zero entry
    else marks i position

-- a compaction puts into its new slice what is no younger than its last look at the list
abbrev pub marks_compacted : ℕ → ℕ → ℕ → ℕ → ℕ → Marks → Marks
marks_compacted entry look inode from to marks = λ i position. if (i == inode)
    && nat_le from position && nat_lt position to && nat_lt (marks i position).stamp look
    then marked Made entry
    else marks i position

-- a Commit some of whose blocks are staged at its client, and not all published yet
pub record Owed : Type 0 where
  pub commit : ℕ
  pub client : ℕ

-- what owes a byte that is in no object yet: a Commit, or what was there before the run
pub data Owner : Type 0 where
  ACommit : (entry : ℕ) → Owner
  TheStart : Owner

-- the number that an answer has for an owner: 0 for the start
abbrev pub owner_number : Owner → ℕ
owner_number (ACommit entry) = entry
owner_number TheStart = 0

-- whether that Commit is owed by another client than this one
abbrev pub is_owed_by_another : ℕ → ℕ → Owed → Bool
is_owed_by_another client commit owed = (owed.commit == commit) && not (owed.client == client)

-- what owes a byte that this client may miss, since other clients alone have its block
abbrev pub missing_owner : (ℕ → ℕ → List ℕ) → List Owed → ℕ → Origin → Option Owner
missing_owner shelved owed client (Start inode position) =
    (if list_any (λ q. not (q == client)) (shelved inode position) then Some TheStart else None)
missing_owner shelved owed client Zero = None
missing_owner shelved owed client (Committed entry) =
    (if list_any (is_owed_by_another client entry) owed then Some (ACommit entry) else None)
missing_owner shelved owed client Made = None
