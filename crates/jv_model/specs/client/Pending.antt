-- What only inner contracts cite: of `promise/client/Pending`.
use Rattle.std.specs.Prelude.{ℕ, ◌+◌, Bool, true, ◌&&◌, if◌then◌else◌, List, [], ◌∷◌, Option, None, Some}
use Rattle.jv_model.specs.promise.client.Pending.{PendingByte, Segment, stands_at, comes_before, pending_of, first_segment}

-- the pending byte at a place
abbrev pub pending_at : ℕ → ℕ → List PendingByte → Option ℕ
pending_at inode position [] = None
pending_at inode position (b ∷ bs) =
    (if stands_at inode position b then Some b.byte else pending_at inode position bs)

-- whether every byte's place is after this one
abbrev pub all_after : ℕ → ℕ → List PendingByte → Bool
all_after inode position [] = true
all_after inode position (b ∷ bs) = comes_before inode position b && all_after inode position bs

-- whether the places strictly rise
abbrev pub is_rising : List PendingByte → Bool
is_rising [] = true
is_rising (b ∷ bs) = all_after b.inode b.position bs && is_rising bs

-- the least segment of one inode alone where one is given, else of all
abbrev pub first_segment_of : Option ℕ → List PendingByte → Option Segment
first_segment_of None pending = first_segment pending
first_segment_of (Some inode) pending = first_segment (pending_of inode pending)

-- the position after an inode's last pending byte, 0 where it has none
abbrev pub pending_end : List PendingByte → ℕ
pending_end [] = 0
pending_end (b ∷ []) = b.position + 1
pending_end (_ ∷ b ∷ bs) = pending_end (b ∷ bs)

abbrev pub end_of : ℕ → List PendingByte → ℕ
end_of inode pending = pending_end (pending_of inode pending)
