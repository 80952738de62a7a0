-- The one printed text of each answer, on a volume with its setting.
use Rattle.std.specs.Prelude.{ℕ, ◌+◌, ◌/◌, ◌%◌, ◌==◌, Bool, true, false, ◌||◌, Option, None, Some, List, [], ◌∷◌, ◌++◌, map, codes, decimal}
use Rattle.std.specs.List.{flat_map, join_with_byte}
use Rattle.jv_model.specs.declared.op.Reply.{Reply}
use Rattle.jv_model.specs.declared.op.Reply.TheVariants as reply
use Rattle.jv_model.specs.declared.setting.Attr.{Attr}
use Rattle.jv_model.specs.declared.setting.FileKind.{FileKind}
use Rattle.jv_model.specs.declared.setting.FileKind.TheVariants as kind
use Rattle.jv_model.specs.declared.setting.Setting.{Setting}
use Rattle.jv_model.specs.declared.slice.BlockId.{BlockId}
use Rattle.jv_model.specs.promise.blocks.BlockNames.{upper_pair, name_in}
use Rattle.jv_model.specs.promise.script.Spelling.{is_letter_or_digit}
use Rattle.jv_model.specs.promise.script.Printed.{number_word, ok_text, data_text, fault_text}

-- names, paths and targets: letters, digits and a few others stand for themselves, all else is `%`
-- and two upper-case digits
abbrev pub is_kept_in_name : ℕ → Bool
is_kept_in_name c = is_letter_or_digit c || (c == 46) || (c == 95) || (c == 45) || (c == 126)

abbrev pub is_kept_in_path : ℕ → Bool
is_kept_in_path c = is_kept_in_name c || (c == 47)

abbrev pub escaped_byte : Bool → ℕ → List ℕ
escaped_byte true c = c ∷ []
escaped_byte false c = 37 ∷ upper_pair c

unfoldable pub name_text : List ℕ → List ℕ
name_text name = flat_map (λ c. escaped_byte (is_kept_in_name c) c) name

unfoldable pub path_text : List ℕ → List ℕ
path_text path = flat_map (λ c. escaped_byte (is_kept_in_path c) c) path

-- `f`, `d` or `l`
abbrev pub kind_letter : FileKind → ℕ
kind_letter kind.File = 102
kind_letter kind.Directory = 100
kind_letter kind.Symlink = 108

-- the four octal digits of a mode
abbrev pub mode_digits : ℕ → List ℕ
mode_digits mode =
    (48 + mode / 512 % 8) ∷ (48 + mode / 64 % 8) ∷ (48 + mode / 8 % 8) ∷ (48 + mode % 8) ∷ []

-- `INO KIND MODE NLINK UID GID SIZE MTIME CTIME`, each with a space before it
unfoldable pub attr_words : Attr → List ℕ
attr_words attr =
    number_word attr.inode ++ (32 ∷ kind_letter attr.kind ∷ 32 ∷ mode_digits attr.mode)
    ++ flat_map number_word
    (attr.nlink ∷ attr.uid ∷ attr.gid ∷ attr.size ∷ attr.mtime ∷ attr.ctime ∷ [])

-- `NAME:INO`
abbrev pub entry_text : List ℕ × ℕ → List ℕ
entry_text entry = name_text entry.0 ++ 58 ∷ decimal entry.1

unfoldable pub entries_text : List (List ℕ × ℕ) → List ℕ
entries_text [] = codes "-"
entries_text (entry ∷ entries) = join_with_byte 32 (map entry_text (entry ∷ entries))

-- the name of the block, if there was one
unfoldable pub uploaded_text : Setting → Option BlockId → List ℕ
uploaded_text setting None = codes "-"
uploaded_text setting (Some block) = name_in setting block

-- the text of an answer, on a volume with this setting
unfoldable pub reply_text : Setting → Reply → List ℕ
reply_text setting (reply.Refused refusal) = codes "err " ++ fault_text refusal
reply_text setting reply.Done = ok_text []
reply_text setting (reply.SessionMade sid) = ok_text (sid ∷ [])
reply_text setting (reply.Found inode) = ok_text (inode ∷ [])
reply_text setting (reply.FileOpened handle inode) = ok_text (handle ∷ inode ∷ [])
reply_text setting (reply.Data bytes) = codes "ok " ++ data_text bytes
reply_text setting (reply.Count bytes) = ok_text (bytes ∷ [])
reply_text setting (reply.Usage space) =
    ok_text (space.used ∷ space.capacity ∷ space.inodes ∷ space.limit ∷ [])
reply_text setting (reply.Compaction before after) = ok_text (before ∷ after ∷ [])
reply_text setting (reply.Cleanup sessions trash files slices) =
    ok_text (sessions ∷ trash ∷ files ∷ slices ∷ [])
reply_text setting (reply.Leaked count bytes) = ok_text (count ∷ bytes ∷ [])
reply_text setting (reply.CacheStats hits misses cached pending) =
    ok_text (hits ∷ misses ∷ cached ∷ pending ∷ [])
reply_text setting (reply.Described attr) = codes "ok" ++ attr_words attr
reply_text setting (reply.Entries entries) = codes "ok " ++ entries_text entries
reply_text setting (reply.Target target) = codes "ok " ++ path_text target
reply_text setting (reply.Uploaded block) = codes "ok " ++ uploaded_text setting block

-- a text and a line feed
abbrev pub with_feed : List ℕ → List ℕ
with_feed text = text ++ 10 ∷ []

-- the line that is printed
abbrev pub printed_line : Setting → Reply → List ℕ
printed_line setting answer = with_feed (reply_text setting answer)
