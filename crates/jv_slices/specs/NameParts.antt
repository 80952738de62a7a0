-- What the parts of the reader of names say.
use Rattle.std.specs.Prelude.{◌≡◌, ◌≢◌, List, ℕ, ◌++◌, Option, MatchOption, codes, decimal}
use Rattle.std.specs.Borrow.{Bor}
use Rattle.jv_model.specs.declared.slice.BlockId.{BlockId}

-- a block's numbers as a name ends in them
abbrev pub numbers_of : BlockId → List ℕ
numbers_of block =
    decimal block.id ++ codes "_" ++ decimal block.index ++ codes "_" ++ decimal block.size

-- the text before an end, if it ends so
abbrev pub Strips : List ℕ → List ℕ → Option (Bor (List ℕ)) → Type 0
Strips text end result =
    MatchOption result ((front : List ℕ) → text ≢ front ++ end) (λ front. text ≡ front.now ++ end)
