-- Each line of a drawn script is read as what it was, and is built.
use Rattle.std.proofs.Common.{◌≡◌, ℕ, zero, suc, ◌+◌, ◌/◌, ◌%◌, ◌^◌, ◌<◌, ◌≤◌, ◌==◌, nat_le, false, true, if◌then◌else◌, Bool, List, [], ◌∷◌, ◌++◌, length, replicate, Some, refl, ap, ◌∙◌, arith, codes, decimal}
use Rattle.std.specs.List.{join_with_byte}
use Rattle.std.proofs.lemmas.Bool.{le-leb}
use Rattle.std.proofs.lemmas.List.{append_assoc, length-replicate}
use Rattle.jv_model.specs.declared.basics.Limits.{Limits}
use Rattle.jv_model.specs.declared.limits.TheConstants.{MAX_DATA, MAX_LINE}
use Rattle.jv_model.specs.declared.op.Op.{Op}
use Rattle.jv_model.specs.declared.op.Op.TheVariants.{Mount, Read, Write, Flush}
use Rattle.jv_model.specs.promise.script.Spelling.{client_of, length_of, mode_of, words}
use Rattle.jv_model.specs.promise.script.Printed.{hex_digit, hex_pair, number_word}
use Rattle.jv_model.specs.promise.script.ReplyText.{mode_digits}
use Rattle.jv_model.specs.promise.script.Grammar.{client_line_of, command_of, line_of, operation_of, operation_of_none, operation_of_one, operation_of_two, operation_of_three, path_and_mode_of, read_of, write_of}
use Rattle.jv_script_drawn.specs.declared.accesses.TheConstants.{MAX_LENGTH, MODE, POSITIONS, READ_EVERY}
use Rattle.jv_script_drawn.specs.promise.Script.{access, create_line, on_client}
use Rattle.jv_script_drawn.specs.Laws.{IsAccess}
use Rattle.jv_script_drawn.proofs.ScriptLaws.{accesses_fit}
use Rattle.jv_client.specs.promise.Built.{is_built_op}
use Rattle.jv_cmd.specs.promise.Generating.{operation_text, repeated_text}
use Rattle.jv_cmd.specs.Texts.{has_feed}
use Rattle.jv_cmd.proofs.drawn_scripts.DrawnDataLaws.{run_read, run_word}
use Rattle.jv_script.proofs.PrintedDigitLaws.{decimal_read}
use Rattle.jv_cmd.proofs.drawn_scripts.DrawnNumberLaws.{decimal_word, pair_read}
use Rattle.jv_cmd.proofs.drawn_scripts.DrawnPathLaws.{file_read, file_spelled, file_word}
use Rattle.jv_cmd.proofs.drawn_scripts.DrawnWordLaws.{AreWords, IsWord, length_joined, no_feed_joined, words_joined}

-- the text of a line without its line feed
abbrev pub bare : Op → List ℕ
bare op = codes "A " ++ operation_text op

-- outside writeback mode
abbrev pub IsBuiltOp : Op → Type 0
IsBuiltOp op = (limits : Limits) → limits.writeback ≡ false → is_built_op limits op ≡ true

-- The line is read from it as it was, and is built.
pub record IsRunnable (op : Op) : Type 0 where
  pub whole : has_feed (bare op) ≡ false
  pub read : line_of (bare op) ≡ Some (on_client op)
  pub short : length (bare op) ≤ MAX_LINE
  pub built : IsBuiltOp op

abbrev client_word : List ℕ
client_word = codes "A"

client_is_word : IsWord client_word
client_is_word = record { bytes = refl; short = omega arith }

line_of_words : (op : Op) → line_of (bare op) ≡ command_of (words (bare op))
unfolding line_of
line_of_words op = refl

-- by the words that it is made of
by_words : (op : Op) (others : List (List ℕ)) → length others ≤ 4
    → bare op ≡ join_with_byte 32 (client_word ∷ others) → AreWords others
    → command_of (client_word ∷ others) ≡ Some (on_client op) → IsBuiltOp op → IsRunnable op
by_words op others few text are read built = record {
  whole = ap has_feed text ∙ no_feed_joined client_word others client_is_word are;
  read = line_of_words op ∙ ap (λ (t : List ℕ). command_of (words t)) text
      ∙ ap command_of (words_joined client_word others client_is_word are) ∙ read;
  short = omega (arith, few, ap length text, length_joined client_word others client_is_word are);
  built = built;
}

pub mount_runs : IsRunnable (Mount false)
unfolding operation_text command_of client_of client_line_of operation_of operation_of_none
mount_runs =
    by_words (Mount false) (codes "mount" ∷ []) (omega arith) refl
    (record { bytes = refl; short = omega arith }, tt) refl (λ limits direct. rw direct refl)

create_reads : (i : ℕ) → i < 2 ^ 64
    → command_of (client_word ∷ codes "create" ∷ (codes "/g" ++ decimal i) ∷ mode_digits MODE ∷ [])
    ≡ Some (on_client (create_line i))
unfolding command_of client_of client_line_of operation_of operation_of_two path_and_mode_of mode_of
create_reads i small = rw (file_read i small) refl

three_words : (first second third : List ℕ) → IsWord first → IsWord second → IsWord third
    → AreWords (first ∷ second ∷ third ∷ [])
three_words first second third a b c = (a, (b, (c, tt)))

pub create_runs : (i : ℕ) → i < 2 ^ 64 → IsRunnable (create_line i)
unfolding operation_text
create_runs i small =
    by_words (create_line i) (codes "create" ∷ (codes "/g" ++ decimal i) ∷ mode_digits MODE ∷ []) (omega arith) refl
    (three_words (codes "create") (codes "/g" ++ decimal i) (mode_digits MODE)
    (record { bytes = refl; short = omega arith }) (file_word i small) (record { bytes = refl; short = omega arith }))
    (create_reads i small) (λ limits direct. rw (file_spelled i small) refl)

flush_reads : (handle : ℕ) → handle < 2 ^ 64
    → command_of (client_word ∷ codes "flush" ∷ decimal handle ∷ []) ≡ Some (on_client (Flush handle))
unfolding command_of client_of client_line_of operation_of operation_of_one
flush_reads handle small = rw (decimal_read handle small) refl

pub flush_runs : (handle : ℕ) → handle < 2 ^ 64 → IsRunnable (Flush handle)
unfolding operation_text
flush_runs handle small =
    by_words (Flush handle) (codes "flush" ∷ decimal handle ∷ []) (omega arith) refl
    (record { bytes = refl; short = omega arith }, (decimal_word handle small, tt)) (flush_reads handle small)
    (λ limits direct. refl)

read_reads : (handle position size : ℕ) → handle < 2 ^ 64 → position < 2 ^ 64 → size ≤ MAX_DATA
    → command_of (client_word ∷ codes "read" ∷ decimal handle ∷ decimal position ∷ decimal size ∷ [])
    ≡ Some (on_client (Read handle position size))
unfolding command_of client_of client_line_of operation_of operation_of_three read_of length_of
read_reads handle position size opened begins few =
    let size_read = decimal_read size (omega (arith, few)) in
    rw (decimal_read handle opened, decimal_read position begins, size_read, le-leb size MAX_DATA few) refl

-- a name, two numbers, and one word more
numbered : (name last : List ℕ) (handle position : ℕ) → IsWord name → IsWord last → handle < 2 ^ 64
    → position < 2 ^ 64 → AreWords (name ∷ decimal handle ∷ decimal position ∷ last ∷ [])
numbered name last handle position first later opened begins =
    (first, (decimal_word handle opened, (decimal_word position begins, (later, tt))))

pub read_runs : (handle position size : ℕ) → handle < 2 ^ 64 → position < 2 ^ 64 → size ≤ MAX_DATA
    → IsRunnable (Read handle position size)
unfolding operation_text
read_runs handle position size opened begins few =
    let text = append_assoc (number_word handle) (number_word position) (number_word size) in
    by_words (Read handle position size) (codes "read" ∷ decimal handle ∷ decimal position ∷ decimal size ∷ [])
    (omega arith) (ap (λ (rest : List ℕ). codes "A read" ++ rest) text)
    (numbered (codes "read") (decimal size) handle position (record { bytes = refl; short = omega arith })
    (decimal_word size (omega (arith, few))) opened begins)
    (read_reads handle position size opened begins few) (λ limits direct. le-leb size MAX_DATA few)

-- the bytes of a write are a byte and how often it stands

abbrev run_text : ℕ → ℕ → List ℕ
run_text byte n = hex_pair byte ++ 120 ∷ decimal n

repeated : (byte n : ℕ) → 0 < n → repeated_text (replicate n byte) ≡ run_text byte n
repeated byte zero some = absurd (omega arith)
repeated byte (suc n) some = ap (run_text byte) (ap suc (length-replicate n byte))

write_reads : (handle position byte n : ℕ) → handle < 2 ^ 64 → position < 2 ^ 64 → byte < 256 → 0 < n
    → n ≤ MAX_DATA
    → command_of (client_word ∷ codes "write" ∷ decimal handle ∷ decimal position ∷ run_text byte n ∷ [])
    ≡ Some (on_client (Write handle position (replicate n byte)))
unfolding command_of client_of client_line_of operation_of operation_of_three write_of
write_reads handle position byte n opened begins small some few =
    rw (
      decimal_read handle opened,
      decimal_read position begins,
      run_read byte n (hex_digit (byte / 16)) (hex_digit (byte % 16)) (pair_read byte small) some few,
    ) refl

pub write_runs : (handle position byte n : ℕ) → handle < 2 ^ 64 → position < 2 ^ 64 → byte < 256 → 0 < n
    → n ≤ MAX_DATA → IsRunnable (Write handle position (replicate n byte))
unfolding operation_text
write_runs handle position byte n opened begins small some few =
    let pair = pair_read byte small in
    let numbers = number_word handle ++ number_word position in
    let text = append_assoc (number_word handle) (number_word position) (32 ∷ run_text byte n) in
    by_words (Write handle position (replicate n byte))
    (codes "write" ∷ decimal handle ∷ decimal position ∷ run_text byte n ∷ []) (omega arith)
    (ap (λ (run : List ℕ). codes "A write" ++ (numbers ++ 32 ∷ run)) (repeated byte n some)
    ∙ ap (λ (rest : List ℕ). codes "A write" ++ rest) text)
    (numbered (codes "write") (run_text byte n) handle position (record { bytes = refl; short = omega arith })
    (run_word byte n (hex_digit (byte / 16)) (hex_digit (byte % 16)) pair few) opened begins)
    (write_reads handle position byte n opened begins small some few)
    (λ limits direct. ap (λ (len : ℕ). nat_le len MAX_DATA) (length-replicate n byte) ∙ le-leb n MAX_DATA few)

-- a read or a write at a place that a state draws

either_runs : (is_read : Bool) (handle position byte n : ℕ) → IsAccess handle position n → byte < 256
    → IsRunnable (if is_read then Read handle position n else Write handle position (replicate n byte))
either_runs true handle position byte n is small =
    read_runs handle position n (omega (arith, is.file)) (omega (arith, is.begins)) (omega (arith, is.short))
either_runs false handle position byte n is small =
    write_runs handle position byte n (omega (arith, is.file)) (omega (arith, is.begins)) small is.some
    (omega (arith, is.short))

pub access_runs : (number x : ℕ) → x < 2 ^ 64 → IsRunnable (access number x)
access_runs number x small =
    either_runs (number % READ_EVERY == 0) (x / 2 ^ 60 + 1) (x / 2 ^ 20 % POSITIONS) (x % 256)
    (1 + x / 2 ^ 8 % MAX_LENGTH) (accesses_fit 0 x small) (omega arith)
