-- Laws of a copy: the records of a window's plan show the places of the source, and with each target window the target shows more of them.
use Rattle.std.proofs.Common.{◌≡◌, ℕ, ◌+◌, ◌-◌, ◌*◌, ◌<◌, ◌≤◌, List, ◌++◌, refl, sym, ap, ◌∙◌, arith}
use Rattle.std.specs.Prelude.{All}
use Rattle.jv_model.specs.declared.limits.TheConstants.{WINDOW}
use Rattle.jv_model.specs.declared.slice.Rec.{Rec}
use Rattle.jv_model.specs.declared.slice.Spot.{Spot}
use Rattle.jv_model.specs.declared.slice.Piece.{Piece}
use Rattle.jv_model.specs.blocks.Slices.{IsPart, IsPlan, IsAsStored}
use Rattle.jv_model.specs.promise.blocks.Slices.{stored_place}
use Rattle.jv_volume.specs.promise.Slices.{place_in}
use Rattle.jv_volume_bytes.specs.Places.{Lists, with_list, put_over}
use Rattle.jv_volume_bytes.specs.Fills.{Fills, records_of_plan}
use Rattle.jv_volume_bytes.proofs.PlaceLaws.{place_in-window}
use Rattle.jv_volume_bytes.proofs.FillLaws.{over-same, over-join, place_in-fill, plan-fills}

-- The records of a plan of a part of one source window, put from a position of a target window on.
pub source-fills : (source : Lists) (w : ℕ) (list : List Rec) (from to at : ℕ) (places : ℕ → Spot) (pieces : List Piece) → list ≡ source w
    → IsPlan list from to pieces → All IsPart pieces → All (IsAsStored list) pieces → to ≤ WINDOW → at + (to - from) ≤ WINDOW
    → ((k : ℕ) → from + k < to → places (at + k) ≡ place_in source (w * WINDOW + (from + k)))
    → Fills places at (at + (to - from)) (records_of_plan at pieces)
source-fills source w list from to at places pieces is plan parts stored within small shows =
    plan-fills list to places pieces from at plan parts stored
    (λ k low. shows k low ∙ place_in-window source w (from + k) (omega (arith, low, within)) ∙ ap (λ l. stored_place l (from + k)) (sym is)) small

-- A target that shows `n` places of the source from `to` on shows more of them, with records in one more window.
pub copy-step : (old : ℕ → Spot) (lists : Lists) (to n : ℕ) (new : ℕ → Spot) (w : ℕ) (l rs : List Rec) (places : ℕ → Spot) (from end : ℕ)
    → ((p : ℕ) → place_in lists p ≡ put_over old to n new p)
    → l ≡ lists w → to + n ≡ w * WINDOW + from → from ≤ WINDOW → Fills places from end rs → ((k : ℕ) → from + k < end → places (from + k) ≡ new (n + k))
    → (p : ℕ) → place_in (with_list w (l ++ rs) lists) p ≡ put_over old to (n + (end - from)) new p
copy-step old lists to n new w l rs places from end was is at small fills shows p =
    place_in-fill places lists w l rs from end is small fills p
    ∙ over-same (place_in lists) (put_over old to n new) (w * WINDOW + from) (end - from) (λ k. places (from + k)) (λ k. new (n + k)) p (was p)
    (λ k low. shows k (omega (arith, low)))
    ∙ ap (λ q. put_over (put_over old to n new) q (end - from) (λ k. new (n + k)) p) (sym at)
    ∙ over-join old to n (end - from) new (λ k. new (n + k)) (λ k. refl) p
