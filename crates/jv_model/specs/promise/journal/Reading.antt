-- What a read returns by the looks that it cites (JuiceFS, "Cache": consistency is close-to-open).
use Rattle.std.specs.Prelude.{ℕ, zero, suc, ◌+◌, ◌-◌, ◌*◌, ◌/◌, min, Bool, ◌&&◌, ◌==◌, nat_lt, nat_le, if◌then◌else◌, List, [], ◌∷◌, ◌++◌, length, Option, None, Some, find}
use Rattle.jv_model.specs.declared.limits.TheConstants.{FILE_END, WINDOW}
use Rattle.jv_model.specs.promise.tree.Tree.{Content}
use Rattle.jv_model.specs.promise.client.ModelClient.{OpenFile, View}
use Rattle.jv_model.specs.promise.Optional.{provided}

-- a number of bytes from a position on
abbrev pub bytes_from : (ℕ → ℕ) → ℕ → ℕ → List ℕ
bytes_from byte from zero = []
bytes_from byte from (suc n) = byte from ∷ bytes_from byte (from + 1) n

-- the file's bytes from one position up to another, as far as the file goes
abbrev pub bytes_between : Content → ℕ → ℕ → List ℕ
bytes_between content from to = bytes_from content.byte from (min to content.length - from)

-- the first position of a window
abbrev pub window_start : ℕ → ℕ
window_start window = window * WINDOW

-- the part of a range that lies in one window
pub record Asked : Type 0 where
  pub window : ℕ
  pub from : ℕ
  pub to : ℕ

-- The parts of a range, one for each window that it touches, at most two. No file goes past its
-- greatest length.
abbrev pub asked_parts : ℕ → ℕ → List Asked
asked_parts offset len =
    let stop = min (offset + len) FILE_END in
    let window = offset / WINDOW in
    let border = (window + 1) * WINDOW in
    if nat_le stop offset then []
    else if nat_le stop border then record { window = window; from = offset; to = stop } ∷ []
    else record { window = window; from = offset; to = border } ∷ record {
      window = window + 1;
      from = border;
      to = stop;
    } ∷ []

-- A handle's view is fresh while the client keeps it, where it was taken after the file was opened:
-- a client gives up its views of a file when it changes the file.
abbrev pub is_fresh : ℕ → OpenFile → ℕ → View → Bool
is_fresh handle file window view = (view.handle == handle) && (view.inode == file.inode)
    && (view.window == window) && nat_lt file.opened view.entry

-- the latest fresh view of a window
abbrev pub fresh_view : List View → ℕ → OpenFile → ℕ → Option View
fresh_view views handle file window = find (is_fresh handle file window) views

-- the fresh view that was taken at an entry
abbrev pub cited_view : List View → ℕ → OpenFile → ℕ → ℕ → Option View
cited_view views handle file window entry =
    find (λ view. (view.entry == entry) && is_fresh handle file window view) views

-- what a part shows by the view taken at an entry, where that is fresh
abbrev pub part_read : List View → ℕ → OpenFile → ℕ → Asked → Option (List ℕ)
part_read views handle file entry asked = elim (cited_view views handle file asked.window entry) [
  | None ↦ None
  | Some view ↦ Some (bytes_between view.content asked.from asked.to)
]

-- whether all that was asked of a part is there
abbrev pub is_full : Asked → List ℕ → Bool
is_full asked bytes = length bytes == asked.to - asked.from

abbrev pub joined : List ℕ → Option (List ℕ) → Option (List ℕ)
joined bytes None = None
joined bytes (Some more) = Some (bytes ++ more)

-- the second window is read only where the first one returned all that was asked of it
abbrev pub read_on : List View → ℕ → OpenFile → ℕ → Asked → List Asked → Option (List ℕ)
    → Option (List ℕ)
read_on views handle file second asked others None = None
read_on views handle file second asked [] (Some bytes) = provided (second == 0) bytes
read_on views handle file second asked (other ∷ others) (Some bytes) =
    (if is_full asked bytes then joined bytes (part_read views handle file second other)
    else provided (second == 0) bytes)

-- what a read of these parts returns, citing one look for each part that was read and 0 for each
-- that wasn't
abbrev pub reading : List View → ℕ → OpenFile → List Asked → ℕ → ℕ → Option (List ℕ)
reading views handle file [] first second = provided ((first == 0) && (second == 0)) []
reading views handle file (asked ∷ others) first second =
    read_on views handle file second asked others (part_read views handle file first asked)

-- whether the present view of a part shows all that is asked of it
abbrev pub shows_all : Asked → View → Bool
shows_all asked view = nat_le asked.to view.content.length

-- The part whose window has to be looked at before the reading goes on: the first without a fresh
-- view, where all parts before it are full. None where nothing has to be looked at.
abbrev pub part_to_look : List View → ℕ → OpenFile → List Asked → Option Asked
part_to_look views handle file [] = None
part_to_look views handle file (asked ∷ others) = elim (fresh_view views handle file asked.window) [
  | None ↦ Some asked
  | Some view ↦ (if shows_all asked view then part_to_look views handle file others else None)
]
