-- Texts of the whole grammar, and the lines that they are or aren't.
use Rattle.std.proofs.Common.{◌≡◌, [], ◌∷◌, ◌++◌, Some, None, refl, true, false, replicate, codes}
use Rattle.std.specs.Prelude.{⊤}
use Rattle.jv_model.specs.declared.basics.How.TheVariants as how
use Rattle.jv_model.specs.declared.op.Op.TheVariants.{Mount, Umount, Stat, Fstat, Mkdir, Read, Write, Truncate, Copy, Chown, Utimes, Symlink, Link, Rename, Compact, Gc, Upload}
use Rattle.jv_model.specs.declared.op.Line.TheVariants.{Empty, Do, Begin, Step, Run, Crash, Drain, Tick}
use Rattle.jv_model.specs.promise.script.Spelling.{mode_of, number_of, length_of, client_of}
use Rattle.jv_model.specs.promise.script.Grammar.{number_up_to, seconds_of, unescaped, path_of, target_of, repeated_of, part_of, bytes_of_parts, data_of, operation_of_none, operation_of_path, operation_of_one, symlink_of, two_paths_of, path_and_mode_of, truncate_of, utimes_of, compact_of, operation_of_two_names, operation_of_two, read_of, write_of, chown_of, how_of, rename_of, operation_of_three, copy_of, operation_of, begin_of, client_line_of, command_of, line_of}

-- on an `unfolding` line: computes the grammar on a text that is written out
unfoldable pub script_on_literals : ⊤
unfolding mode_of number_of length_of client_of number_up_to seconds_of unescaped path_of target_of repeated_of part_of bytes_of_parts data_of operation_of_none operation_of_path operation_of_one symlink_of two_paths_of path_and_mode_of truncate_of utimes_of compact_of operation_of_two_names operation_of_two read_of write_of chown_of how_of rename_of operation_of_three copy_of operation_of begin_of client_line_of command_of line_of
script_on_literals = tt

pub schedule : (line_of [] ≡ Some Empty) × (line_of (codes "# A") ≡ Some Empty) × (line_of (codes "A begin mount writeback") ≡ Some (Begin 0 (Mount true))) × (line_of (codes "H step") ≡ Some (Step 7)) × (line_of (codes "B run") ≡ Some (Run 1)) × (line_of (codes "C crash") ≡ Some (Crash 2)) × (line_of (codes "drain A") ≡ Some (Drain 0)) × (line_of (codes "tick 4294967296") ≡ Some (Tick 4294967296))
unfolding script_on_literals
schedule = (refl, refl, refl, refl, refl, refl, refl, refl)

pub operations : (line_of (codes "A umount") ≡ Some (Do 0 Umount)) × (line_of (codes "A gc") ≡ Some (Do 0 (Gc false))) × (line_of (codes "A gc delete") ≡ Some (Do 0 (Gc true))) × (line_of (codes "A fstat 1") ≡ Some (Do 0 (Fstat 1))) × (line_of (codes "A mkdir /d 0755") ≡ Some (Do 0 (Mkdir (codes "/d") 493))) × (line_of (codes "A truncate 1 18446744073709551615") ≡ Some (Do 0 (Truncate 1 18446744073709551615))) × (line_of (codes "A copy 1 2 3 4 5") ≡ Some (Do 0 (Copy 1 2 3 4 5))) × (line_of (codes "A chown /f 4294967295 0") ≡ Some (Do 0 (Chown (codes "/f") 4294967295 0))) × (line_of (codes "A utimes / 137438953471") ≡ Some (Do 0 (Utimes (codes "/") 137438953471))) × (line_of (codes "A compact /f 4294967295") ≡ Some (Do 0 (Compact (codes "/f") 4294967295))) × (line_of (codes "A begin upload") ≡ Some (Begin 0 Upload))
unfolding script_on_literals
operations = (refl, refl, refl, refl, refl, refl, refl, refl, refl, refl, refl)

pub renames : (line_of (codes "A rename /a /b") ≡ Some (Do 0 (Rename (codes "/a") (codes "/b") how.Plain))) × (line_of (codes "A rename /a /b noreplace") ≡ Some (Do 0 (Rename (codes "/a") (codes "/b") how.NoReplace))) × (line_of (codes "A rename /a /b exchange") ≡ Some (Do 0 (Rename (codes "/a") (codes "/b") how.Exchange)))
unfolding script_on_literals
renames = (refl, refl, refl)

-- a path is its bytes, whatever their spelling
pub escapes : (line_of (codes "A stat /a%2Fb%25") ≡ Some (Do 0 (Stat (codes "/a/b%")))) × (line_of (codes "A stat %2fa") ≡ Some (Do 0 (Stat (codes "/a")))) × (line_of (codes "A symlink %ff~ /l") ≡ Some (Do 0 (Symlink (255 ∷ 126 ∷ []) (codes "/l")))) × (line_of (codes "A link /%41 /") ≡ Some (Do 0 (Link (codes "/A") (codes "/"))))
unfolding script_on_literals
escapes = (refl, refl, refl, refl)

pub datas : (line_of (codes "A write 1 0 -") ≡ Some (Do 0 (Write 1 0 []))) × (line_of (codes "A write 1 0 61x10") ≡ Some (Do 0 (Write 1 0 (replicate 10 97)))) × (line_of (codes "A write 1 0 6162+Aax2+00") ≡ Some (Do 0 (Write 1 0 (97 ∷ 98 ∷ 170 ∷ 170 ∷ 0 ∷ [])))) × (line_of (codes "A read 1 0 8388608") ≡ Some (Do 0 (Read 1 0 8388608)))
unfolding script_on_literals
datas = (refl, refl, refl, refl)

-- texts that are none: words
pub off_words : (line_of (codes "A umount ") ≡ None) × (line_of (codes "A  beat") ≡ None) × (line_of (codes "I beat") ≡ None) × (line_of (codes "A step 1") ≡ None) × (line_of (codes "A begin step") ≡ None) × (line_of (codes "A begin") ≡ None) × (line_of (codes "drain") ≡ None) × (line_of (codes "drain I") ≡ None) × (line_of (codes "A drain") ≡ None) × (line_of (codes "A mount write") ≡ None) × (line_of (codes "A rename /a /b replace") ≡ None) × (line_of (codes "A copy 1 2 3 4") ≡ None) × (line_of (codes "A copy 1 2 3 4 5 6") ≡ None) × (line_of (codes "A lookup") ≡ None) × (line_of (codes "A beat" ++ 13 ∷ []) ≡ None)
unfolding script_on_literals
off_words = (refl, refl, refl, refl, refl, refl, refl, refl, refl, refl, refl, refl, refl, refl, refl)

-- numbers
pub off_numbers : (line_of (codes "tick 0") ≡ None) × (line_of (codes "tick 4294967297") ≡ None) × (line_of (codes "tick 01") ≡ None) × (line_of (codes "A fstat 18446744073709551616") ≡ None) × (line_of (codes "A chown /f 4294967296 0") ≡ None) × (line_of (codes "A utimes / 137438953472") ≡ None) × (line_of (codes "A read 1 0 8388609") ≡ None) × (line_of (codes "A chmod / 755") ≡ None)
unfolding script_on_literals
off_numbers = (refl, refl, refl, refl, refl, refl, refl, refl)

-- paths and bytes
pub off_paths : (line_of (codes "A stat f") ≡ None) × (line_of (codes "A stat ") ≡ None) × (line_of (codes "A stat /%0") ≡ None) × (line_of (codes "A stat /%00") ≡ None) × (line_of (codes "A stat /%%41") ≡ None) × (line_of (codes "A stat /" ++ 128 ∷ []) ≡ None) × (line_of (codes "A stat /" ++ 9 ∷ []) ≡ None) × (line_of (codes "A symlink  /l") ≡ None)
unfolding script_on_literals
off_paths = (refl, refl, refl, refl, refl, refl, refl, refl)

pub off_data : (line_of (codes "A write 1 0 616") ≡ None) × (line_of (codes "A write 1 0 61x0") ≡ None) × (line_of (codes "A write 1 0 61x") ≡ None) × (line_of (codes "A write 1 0 61x01") ≡ None) × (line_of (codes "A write 1 0 61+") ≡ None) × (line_of (codes "A write 1 0 61+-") ≡ None) × (line_of (codes "A write 1 0 61X2") ≡ None) × (line_of (codes "A write 1 0 61x8388609") ≡ None)
unfolding script_on_literals
off_data = (refl, refl, refl, refl, refl, refl, refl, refl)
