-- Bytes that a client has written and not yet committed: a partial map from inode and position to
-- byte, kept as the list of its bytes in rising order of their places.
use Rattle.std.specs.Prelude.{ℕ, ◌+◌, ◌%◌, Bool, ◌&&◌, ◌||◌, not, ◌==◌, nat_lt, nat_le, if◌then◌else◌, List, [], ◌∷◌, map, filter, Option, None, Some}
use Rattle.jv_model.specs.declared.limits.TheConstants.{WINDOW}

-- a pending byte and its place
pub record PendingByte : Type 0 where
  pub inode : ℕ
  pub position : ℕ
  pub byte : ℕ

-- pending positions in a row, inside one window
pub record Segment : Type 0 where
  pub inode : ℕ
  pub from : ℕ
  pub len : ℕ

-- whether a byte stands at a place
abbrev pub stands_at : ℕ → ℕ → PendingByte → Bool
stands_at inode position b = (b.inode == inode) && (b.position == position)

-- whether a place comes before a byte's
abbrev pub comes_before : ℕ → ℕ → PendingByte → Bool
comes_before inode position b =
    nat_lt inode b.inode || ((inode == b.inode) && nat_lt position b.position)

-- one byte set
abbrev pub byte_set : ℕ → ℕ → ℕ → List PendingByte → List PendingByte
byte_set inode position byte [] = record { inode = inode; position = position; byte = byte } ∷ []
byte_set inode position byte (b ∷ bs) = (if stands_at inode position b
    then record { inode = inode; position = position; byte = byte } ∷ bs
    else if comes_before inode position b
    then record { inode = inode; position = position; byte = byte } ∷ b ∷ bs
    else b ∷ byte_set inode position byte bs)

-- a write sets the positions of its bytes
abbrev pub written : ℕ → ℕ → List ℕ → List PendingByte → List PendingByte
written inode from [] pending = pending
written inode from (byte ∷ bytes) pending =
    byte_set inode from byte (written inode (from + 1) bytes pending)

-- whether a byte stands in a range of an inode
abbrev pub is_in_range : ℕ → ℕ → ℕ → PendingByte → Bool
is_in_range inode from len b =
    (b.inode == inode) && nat_le from b.position && nat_lt b.position (from + len)

-- the pending bytes without those of a range of an inode
abbrev pub without_range : ℕ → ℕ → ℕ → List PendingByte → List PendingByte
without_range inode from len = filter (λ b. not (is_in_range inode from len b))

-- the pending bytes of one inode, and those of all others
abbrev pub pending_of : ℕ → List PendingByte → List PendingByte
pending_of inode = filter (λ b. b.inode == inode)

abbrev pub pending_of_others : ℕ → List PendingByte → List PendingByte
pending_of_others inode = filter (λ b. not (b.inode == inode))

-- how many of the bytes follow one another from a place on, in its window
abbrev pub run_length : ℕ → ℕ → List PendingByte → ℕ
run_length inode position [] = 0
run_length inode position (b ∷ bs) = (if stands_at inode position b
    then (if (position + 1) % WINDOW == 0 then 1 else 1 + run_length inode (position + 1) bs)
    else 0)

-- the least segment: pending positions in a row, as many as there are inside one window; a flush
-- commits it first
abbrev pub first_segment : List PendingByte → Option Segment
first_segment [] = None
first_segment (b ∷ bs) =
    Some (record {
      inode = b.inode;
      from = b.position;
      len = run_length b.inode b.position (b ∷ bs);
    })

-- the bytes of a range of an inode, in order
abbrev pub bytes_in_range : ℕ → ℕ → ℕ → List PendingByte → List ℕ
bytes_in_range inode from len pending =
    map (λ b. b.byte) (filter (is_in_range inode from len) pending)
