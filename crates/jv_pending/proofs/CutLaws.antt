-- Bytes in a row as runs.
use Rattle.std.proofs.Common.{◌≡◌, ℕ, ◌+◌, ◌-◌, ◌≤◌, List, [], ◌∷◌, length, refl, arith}
use Rattle.std.proofs.lemmas.List.{append-nil, length-drop}
use Rattle.jv_pending.specs.Runs.{Run, placed, end_place, IsRun, InOrder, IsCut, BeginBy, Reaches, joined_from, joined, tail_of}
use Rattle.jv_pending.proofs.JoinLaws.{gap_le, length_joined}
use Rattle.jv_model.specs.declared.limits.TheConstants.{FILE_END}

-- one run is bytes in a row
pub one_cut : (r : Run) → IsRun r → IsCut r.0.inode r.0.from r.1 (r ∷ [])
one_cut r h =
    let g = gap_le r.0.from in
    record {
      same = append-nil (placed r.0.inode r.0.from r.1);
      order = (h, omega arith, tt);
      ends = refl;
    }

tail_in_file : (i to low : ℕ) (mid : List Run) → to ≤ FILE_END → InOrder low mid → BeginBy i to mid → to + length (tail_of to mid) ≤ FILE_END
tail_in_file i to low [] l o a = omega arith
tail_in_file i to low (x ∷ []) l o a = let f = o.0.in_file in let b = a.1 in omega (arith, length-drop (to - x.0.from) x.1)
tail_in_file i to low (x ∷ y ∷ ms) l o a = tail_in_file i to (end_place x) (y ∷ ms) l o.2 a.2

pub joined_in_file : (i from to low : ℕ) (bs : List ℕ) (mid : List Run) → to ≡ from + length bs → to ≤ FILE_END → InOrder low mid → BeginBy i to mid → Reaches from mid → joined_from from mid + length (joined from bs mid) ≤ FILE_END
joined_in_file i from to low bs mid e l o a h =
    omega (arith, length_joined from to bs mid e h, tail_in_file i to low mid l o a)
