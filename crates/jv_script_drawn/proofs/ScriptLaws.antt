-- What the lines of a script are by their index, how many there are, and that its accesses are of its files.
use Rattle.std.proofs.Common.{◌≡◌, ℕ, zero, suc, ◌+◌, ◌-◌, ◌/◌, ◌%◌, ◌^◌, ◌<◌, ◌≤◌, ◌==◌, Bool, true, false, if◌then◌else◌, List, [], ◌∷◌, ◌++◌, length, map, replicate, refl, ap, sym, subst, ◌∙◌, arith, Some, None, slice_get, length-append}
use Rattle.std.specs.List.{range_with_len}
use Rattle.std.specs.Option.{option_map}
use Rattle.std.proofs.lemmas.List.{length-map, length-replicate}
use Rattle.std.proofs.lemmas.List.FromFn.{length-map-range_with_len, get_or-map-range_with_len}
use Rattle.std.proofs.lemmas.Option.{slice_get-map, slice_get-get_or, slice_get_past}
use Rattle.jv_model.specs.declared.op.Op.{Op}
use Rattle.jv_model.specs.declared.op.Op.TheVariants.{Mount, Read, Write, Flush}
use Rattle.jv_script_drawn.specs.declared.accesses.TheConstants.{FILES, ACCESSES, LINES, READ_EVERY, POSITIONS, MAX_LENGTH}
use Rattle.jv_script_drawn.specs.promise.Script.{next_state, state, create_line, access, operations, on_client, script}
use Rattle.jv_script_drawn.specs.Laws.{IsAccess, IsAccessOp, AccessesFit}
use Rattle.jv_model.proofs.ListLaws.{get_front, get_behind}

-- ==== lists ====

-- the values of a function at numbers in a row
get_drawn : (f : ℕ → Op) (a n i j : ℕ) → i < n → a + i ≡ j → slice_get (map f (range_with_len a n)) i ≡ Some (f j)
get_drawn f a n i j h e =
    let within : i < length (map f (range_with_len a n)) = omega (arith, length-map-range_with_len f a n) in
    slice_get-get_or (map f (range_with_len a n)) i (f j) within ∙ ap Some (get_or-map-range_with_len f a n i j (f j) h e)

-- ==== a script by its parts ====

operation-mount : (files accesses seed : ℕ) → slice_get (operations files accesses seed) 0 ≡ Some (Mount false)
unfolding operations
operation-mount files accesses seed = refl

operation-create : (files accesses seed i : ℕ) → i < files → slice_get (operations files accesses seed) (suc i) ≡ Some (create_line i)
unfolding operations
operation-create files accesses seed i h =
    let creates = map create_line (range_with_len 0 files) in
    let touches = map (λ k. access k (state seed k)) (range_with_len 1 accesses) in
    let flushes = map (λ handle. Flush handle) (range_with_len 1 files) in
    let size : length creates ≡ files = length-map-range_with_len create_line 0 files in
    let front : suc i < length (Mount false ∷ creates) = omega (arith, size) in
    let middle : suc i < length ((Mount false ∷ creates) ++ touches) = omega (arith, front, length-append (Mount false ∷ creates) touches) in
    get_front ((Mount false ∷ creates) ++ touches) flushes (suc i) middle
    ∙ get_front (Mount false ∷ creates) touches (suc i) front
    ∙ get_drawn create_line 0 files i i h (omega arith)

operation-access : (files accesses seed k : ℕ) → 0 < k → k ≤ accesses
    → slice_get (operations files accesses seed) (files + k) ≡ Some (access k (state seed k))
unfolding operations
operation-access files accesses seed k low high =
    let creates = map create_line (range_with_len 0 files) in
    let touch : ℕ → Op = λ k. access k (state seed k) in
    let touches = map touch (range_with_len 1 accesses) in
    let flushes = map (λ handle. Flush handle) (range_with_len 1 files) in
    let size : length creates ≡ files = length-map-range_with_len create_line 0 files in
    let front : length (Mount false ∷ creates) ≡ suc files = ap suc size in
    let touched : length touches ≡ accesses = length-map-range_with_len touch 1 accesses in
    let middle : files + k < length ((Mount false ∷ creates) ++ touches)
    = omega (arith, front, touched, length-append (Mount false ∷ creates) touches) in
    get_front ((Mount false ∷ creates) ++ touches) flushes (files + k) middle
    ∙ get_behind (Mount false ∷ creates) touches (files + k) (k - 1) (omega (arith, front))
    ∙ get_drawn touch 1 accesses (k - 1) k (omega arith) (omega arith)

operation-flush : (files accesses seed handle : ℕ) → 0 < handle → handle ≤ files
    → slice_get (operations files accesses seed) (files + accesses + handle) ≡ Some (Flush handle)
unfolding operations
operation-flush files accesses seed handle low high =
    let creates = map create_line (range_with_len 0 files) in
    let touch : ℕ → Op = λ k. access k (state seed k) in
    let touches = map touch (range_with_len 1 accesses) in
    let flush : ℕ → Op = λ handle. Flush handle in
    let flushes = map flush (range_with_len 1 files) in
    let size : length creates ≡ files = length-map-range_with_len create_line 0 files in
    let front : length (Mount false ∷ creates) ≡ suc files = ap suc size in
    let touched : length touches ≡ accesses = length-map-range_with_len touch 1 accesses in
    let middle : length ((Mount false ∷ creates) ++ touches) ≡ suc files + accesses
    = omega (arith, front, touched, length-append (Mount false ∷ creates) touches) in
    get_behind ((Mount false ∷ creates) ++ touches) flushes (files + accesses + handle) (handle - 1) (omega (arith, middle))
    ∙ get_drawn flush 1 files (handle - 1) handle (omega arith) (omega arith)

length-operations : (files accesses seed : ℕ) → length (operations files accesses seed) ≡ 1 + files + accesses + files
unfolding operations
length-operations files accesses seed =
    let creates = map create_line (range_with_len 0 files) in
    let touch : ℕ → Op = λ k. access k (state seed k) in
    let touches = map touch (range_with_len 1 accesses) in
    let flush : ℕ → Op = λ handle. Flush handle in
    let flushes = map flush (range_with_len 1 files) in
    let size : length creates ≡ files = length-map-range_with_len create_line 0 files in
    let front : length (Mount false ∷ creates) ≡ suc files = ap suc size in
    let touched : length touches ≡ accesses = length-map-range_with_len touch 1 accesses in
    let flushed : length flushes ≡ files = length-map-range_with_len flush 1 files in
    let middle : length ((Mount false ∷ creates) ++ touches) ≡ suc files + accesses
    = omega (arith, front, touched, length-append (Mount false ∷ creates) touches) in
    omega (arith, middle, flushed, length-append ((Mount false ∷ creates) ++ touches) flushes)

-- ==== the script ====

-- a line from its operation
line_of : (seed index : ℕ) (op : Op) → slice_get (operations FILES ACCESSES seed) index ≡ Some op → slice_get (script seed) index ≡ Some (on_client op)
unfolding script
line_of seed index op h = slice_get-map on_client (operations FILES ACCESSES seed) index ∙ ap (option_map on_client) h

pub line-mount : (seed : ℕ) → slice_get (script seed) 0 ≡ Some (on_client (Mount false))
line-mount seed = line_of seed 0 (Mount false) (operation-mount FILES ACCESSES seed)

pub line-create : (seed index i : ℕ) → index ≡ i + 1 → i < FILES → slice_get (script seed) index ≡ Some (on_client (create_line i))
line-create seed index i e h =
    let place : suc i ≡ index = omega arith in
    line_of seed index (create_line i) (subst (λ (k : ℕ). slice_get (operations FILES ACCESSES seed) k ≡ Some (create_line i)) place (operation-create FILES ACCESSES seed i h))

pub line-access : (seed index k x : ℕ) → index ≡ FILES + k → 0 < k → k ≤ ACCESSES → x ≡ state seed k
    → slice_get (script seed) index ≡ Some (on_client (access k x))
line-access seed index k x e low high at =
    let drawn = operation-access FILES ACCESSES seed k low high in
    let here = subst (λ (i : ℕ). slice_get (operations FILES ACCESSES seed) i ≡ Some (access k (state seed k))) (sym e) drawn in
    line_of seed index (access k x) (here ∙ ap (λ (y : ℕ). Some (access k y)) (sym at))

pub line-flush : (seed index handle : ℕ) → index ≡ FILES + ACCESSES + handle → 0 < handle → handle ≤ FILES
    → slice_get (script seed) index ≡ Some (on_client (Flush handle))
line-flush seed index handle e low high =
    let drawn = operation-flush FILES ACCESSES seed handle low high in
    line_of seed index (Flush handle) (subst (λ (i : ℕ). slice_get (operations FILES ACCESSES seed) i ≡ Some (Flush handle)) (sym e) drawn)

-- how many lines there are
pub script_length : (seed : ℕ) → length (script seed) ≡ LINES
unfolding script
script_length seed = length-map (operations FILES ACCESSES seed) on_client ∙ length-operations FILES ACCESSES seed

pub no_line : (seed index : ℕ) → LINES ≤ index → slice_get (script seed) index ≡ None
no_line seed index h = slice_get_past (script seed) index (omega (arith, script_length seed))

-- the state at an index from that at the index before it
pub state_next : (seed k before : ℕ) → before ≡ state seed k → next_state before ≡ state seed (suc k)
unfolding state
state_next seed k before h = ap next_state h

-- ==== accesses ====

drawn_fits : (x : ℕ) → x < 2 ^ 64 → IsAccess (x / 2 ^ 60 + 1) (x / 2 ^ 20 % POSITIONS) (1 + x / 2 ^ 8 % MAX_LENGTH)
drawn_fits x h = record {
  opened = omega arith;
  file = omega arith;
  begins = omega arith;
  some = omega arith;
  short = omega arith;
}

either_fits : (is_read : Bool) (handle position size value : ℕ) → IsAccess handle position size
    → IsAccessOp (if is_read then Read handle position size else Write handle position (replicate size value))
either_fits true handle position size value h = h
either_fits false handle position size value h = subst (λ (n : ℕ). IsAccess handle position n) (sym (length-replicate size value)) h

pub accesses_fit : AccessesFit
accesses_fit number x h =
    either_fits (number % READ_EVERY == 0) (x / 2 ^ 60 + 1) (x / 2 ^ 20 % POSITIONS) (1 + x / 2 ^ 8 % MAX_LENGTH) (x % 256) (drawn_fits x h)
