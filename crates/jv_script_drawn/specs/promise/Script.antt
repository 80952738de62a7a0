-- The script of a seed: client A mounts, makes its files, reads and writes at places that are drawn
-- from the seed, and flushes.
use Rattle.std.specs.Prelude.{ℕ, zero, suc, ◌+◌, ◌*◌, ◌/◌, ◌%◌, ◌^◌, ◌==◌, false, if◌then◌else◌, List, ◌∷◌, ◌++◌, map, replicate, codes, decimal}
use Rattle.std.specs.List.{range_with_len}
use Rattle.jv_model.specs.declared.op.Op.{Op}
use Rattle.jv_model.specs.declared.op.Op.TheVariants.{Mount, Create, Read, Write, Flush}
use Rattle.jv_model.specs.declared.op.Line.{Line}
use Rattle.jv_model.specs.declared.op.Line.TheVariants.{Do}
use Rattle.jv_script_drawn.specs.declared.accesses.TheConstants.{FILES, ACCESSES, READ_EVERY, MAX_LENGTH, POSITIONS, MODE, MULTIPLIER, INCREMENT}

abbrev pub next_state : ℕ → ℕ
next_state x = (x * MULTIPLIER + INCREMENT) % 2 ^ 64

-- the state after a number of steps, which is that of the access with this number, from 1 on
unfoldable pub state : ℕ → ℕ → ℕ
state seed zero = seed
state seed (suc steps) = next_state (state seed steps)

-- makes the file `/gI`
abbrev pub create_line : ℕ → Op
create_line i = Create (codes "/g" ++ decimal i) MODE

-- the access with a number, given its state: the handle, the position, how many bytes, and for a
-- write of which value
abbrev pub access : ℕ → ℕ → Op
access number x =
    let handle = x / 2 ^ 60 + 1 in
    let position = x / 2 ^ 20 % POSITIONS in
    let size = 1 + x / 2 ^ 8 % MAX_LENGTH in
    if number % READ_EVERY == 0 then Read handle position size
    else Write handle position (replicate size (x % 256))

-- the operations of a script with some files and some accesses
unfoldable pub operations : ℕ → ℕ → ℕ → List Op
operations files accesses seed = Mount false ∷ map create_line (range_with_len 0 files)
    ++ map (λ k. access k (state seed k)) (range_with_len 1 accesses)
    ++ map (λ handle. Flush handle) (range_with_len 1 files)

-- the line of client A that does an operation
abbrev pub on_client : Op → Line
on_client op = Do 0 op

unfoldable pub script : ℕ → List Line
script seed = map on_client (operations FILES ACCESSES seed)
