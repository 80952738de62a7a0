-- Small changes of a tree, of which the operations are made.
use Rattle.std.specs.Prelude.{ℕ, ◌+◌, ◌-◌, max, nat_lt, if◌then◌else◌, List, length, slice_index, Option, None, Some}
use Rattle.std.specs.Option.{option_map}
use Rattle.jv_model.specs.promise.FiniteMap.{insert, remove}
use Rattle.jv_model.specs.promise.tree.Tree.{Tree, Node, File, Content, EntryKey, node_at}
use Rattle.jv_model.specs.promise.Ranges.{in_range}

-- A node whose content or entries changed has both times at the moment (POSIX.1-2017, 4.9 "File
-- Times Update": last data modification and last file status change).
abbrev pub touched : ℕ → Node → Node
touched now node = record node { mtime = now; ctime = now }

-- a node whose attributes or links changed
abbrev pub status_changed : ℕ → Node → Node
status_changed now node = record node { ctime = now }

abbrev pub put_node : Tree → ℕ → Node → Tree
put_node t inode node = record t { nodes = insert t.nodes inode node }

abbrev pub drop_node : Tree → ℕ → Tree
drop_node t inode = record t { nodes = remove t.nodes inode }

-- the node at an inode replaced by one, where there is one
abbrev pub set_node : Tree → ℕ → Option Node → Tree
set_node t inode None = t
set_node t inode (Some node) = put_node t inode node

-- the node at an inode changed, where there is one
abbrev pub change_node : Tree → ℕ → (Node → Node) → Tree
change_node t inode change = set_node t inode (option_map change (node_at t inode))

-- a directory whose entries changed
abbrev pub touch : Tree → ℕ → ℕ → Tree
touch t now dir = change_node t dir (touched now)

-- an entry that names this inode
abbrev pub put_entry : Tree → ℕ → EntryKey → ℕ → Tree
put_entry t now place inode =
    record (touch t now place.dir) { entries = insert t.entries place inode }

-- without an entry
abbrev pub take_entry : Tree → ℕ → EntryKey → Tree
take_entry t now place = record (touch t now place.dir) { entries = remove t.entries place }

-- a new node under a new entry
abbrev pub with_node : Tree → ℕ → EntryKey → ℕ → Node → Tree
with_node t now place inode node = put_entry (put_node t inode node) now place inode

-- bytes

abbrev pub empty_content : Content
empty_content = record { length = 0; byte = λ _. 0 }

-- the byte of a file at a position: 0 from its length on
abbrev pub byte_within : Content → ℕ → ℕ
byte_within content position = (if nat_lt position content.length then content.byte position else 0)

-- a file's bytes, none from its length on
abbrev pub content_of : ℕ → (ℕ → ℕ) → Content
content_of length byte =
    record {
      length = length;
      byte = λ position. if nat_lt position length then byte position
          else 0;
    }

-- A file cut to a length, or with zeros up to it (POSIX.1-2017, "ftruncate").
abbrev pub resized : Content → ℕ → Content
resized content len = content_of len (byte_within content)

-- A file with a number of bytes put at a place, each by its distance from there. Zeros fill what
-- lies between the file's end and them (POSIX.1-2017, "write" behind an "lseek" past the end).
abbrev pub patched : Content → ℕ → ℕ → (ℕ → ℕ) → Content
patched content from len byte = record {
  length = max content.length (from + len);
  byte = λ position. if in_range from len position
      then byte (position - from) else byte_within content position;
}

-- a file with bytes put at a place
abbrev pub overwritten : Content → ℕ → List ℕ → Content
overwritten content from bytes = patched content from (length bytes) (slice_index bytes)

-- a file with bytes of another, or of its own, put at a place
abbrev pub copied_over : Content → ℕ → Content → ℕ → ℕ → Content
copied_over source from target to len =
    patched target to len (λ distance. byte_within source (from + distance))

-- the tree with a file's bytes replaced, which sets its times
abbrev pub with_content : Tree → ℕ → ℕ → Content → Tree
with_content t now inode content =
    change_node t inode (λ (node : Node). record (touched now node) { kind = File content })
