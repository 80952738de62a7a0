-- What is known of a device that works in memory until it is opened in a folder.
use Rattle.std.specs.Prelude.{Option, None, Some}

-- what it has in memory, unless it is open in a folder, of whose files nothing is known
abbrev pub known : {F M : Type 0} → Option F → M → Option M
known None content = Some content
known (Some folder) content = None
