-- What is printed is read again as what it was, for all values that an answer may have.
use Rattle.std.specs.Prelude.{◌≡◌, ℕ, ◌<◌, ◌≤◌, true, List, ◌∷◌, ◌++◌, length, All, Some}
use Rattle.jv_model.specs.declared.limits.TheConstants.{MAX_DATA}
use Rattle.jv_model.specs.promise.script.Printed.{data_text}
use Rattle.jv_model.specs.promise.script.ReplyText.{name_text, path_text}
use Rattle.jv_model.specs.promise.script.Grammar.{data_of, path_of, target_of}
use Rattle.jv_model.specs.promise.tree.Walk.{is_absolute}

-- a byte of a file
abbrev pub IsByte : ℕ → Type 0
IsByte c = c < 256

-- a byte of a name, a path or a target: any but 0
abbrev pub IsNameByte : ℕ → Type 0
IsNameByte c = (0 < c) × (c < 256)

-- the bytes of a read
abbrev pub DataIsReadAgain : Type 0
DataIsReadAgain = (bytes : List ℕ) → All IsByte bytes → length bytes ≤ MAX_DATA
    → data_of (data_text bytes) ≡ Some bytes

-- a path
abbrev pub PathsAreReadAgain : Type 0
PathsAreReadAgain = (path : List ℕ) → All IsNameByte path → is_absolute path ≡ true
    → path_of (path_text path) ≡ Some path

-- the target of a symlink
abbrev pub TargetsAreReadAgain : Type 0
TargetsAreReadAgain = (target : List ℕ) → All IsNameByte target → 0 < length target
    → target_of (path_text target) ≡ Some target

-- the name of an entry, after the path of its directory and a slash
abbrev pub NamesAreReadAgain : Type 0
NamesAreReadAgain = (directory name : List ℕ) → All IsNameByte directory → All IsNameByte name
    → is_absolute (directory ++ 47 ∷ name) ≡ true
    → path_of (path_text directory ++ 47 ∷ name_text name) ≡ Some (directory ++ 47 ∷ name)
