-- Scripts of the seed 0, worked out by hand.
use Rattle.std.proofs.Common.{◌≡◌, false, [], ◌∷◌, length, replicate, refl, codes, Some, slice_get, lit≤, lit<}
use Rattle.std.specs.Fmt.{digits}
use Rattle.jv_model.specs.declared.op.Op.TheVariants.{Mount, Create, Read, Write, Flush}
use Rattle.jv_model.specs.declared.op.Line.TheVariants.{Do}
use Rattle.jv_script_drawn.specs.promise.Script.{state, operations, script}
use Rattle.jv_script_drawn.proofs.ScriptLaws.{line-access, script_length}

-- with two files and four accesses
small_script : operations 2 4 0
    ≡ Mount false
    ∷ Create (codes "/g0") 420
    ∷ Create (codes "/g1") 420
    ∷ Write 2 129494902 (replicate 1922 79)
    ∷ Write 2 115415115 (replicate 2670 50)
    ∷ Write 10 125969127 (replicate 642 25)
    ∷ Read 7 28219378 154
    ∷ Flush 1
    ∷ Flush 2
    ∷ []
unfolding operations state digits
small_script = refl

first_write : slice_get (script 0) 17 ≡ Some (Do 0 (Write 2 129494902 (replicate 1922 79)))
unfolding state
first_write = line-access 0 17 1 1442695040888963407 refl (lit< tt) (lit≤ tt) refl

first_read : slice_get (script 0) 20 ≡ Some (Do 0 (Read 7 28219378 154))
unfolding state
first_read = line-access 0 20 4 7401132627792533940 refl (lit< tt) (lit≤ tt) refl

all_lines : length (script 0) ≡ 4033
all_lines = script_length 0
