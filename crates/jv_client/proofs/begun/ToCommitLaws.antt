-- What an operation still has to commit: its next segment, and the slice in flight that this gets.
use Rattle.std.proofs.Common.{◌≡◌, ℕ, suc, List, Option, Some, sym, ap, ◌∙◌}
use Rattle.jv_model.specs.promise.client.Pending.{PendingByte, Segment}
use Rattle.jv_client.specs.declared.doing.Doing.{Doing}
use Rattle.jv_client.specs.declared.doing.Flush.{Flush}
use Rattle.jv_client.specs.declared.doing.Progress.{Progress}
use Rattle.jv_client.specs.declared.doing.Progress.TheVariants.{Working}
use Rattle.jv_client.specs.ClientValue.{ClientValue}
use Rattle.jv_client.specs.Held.{flight_by, flight_from, flight_in, flight_of, segment_left}
use Rattle.jv_client.specs.UnderWay.{left, left_of}

-- ---- the operation in progress

module _ (h : ClientValue) (d : Doing) (busy : h.doing ≡ Some d) where
  pub left-is : (segment : Option Segment) → left h ≡ segment → segment_left d.flush h.pending ≡ segment
  left-is segment e = sym (ap (left_of h.pending) busy) ∙ e

  pub flight-is : (p : Progress) → d.progress ≡ p → flight_of h ≡ flight_by h.pending d.flush p
  flight-is p at = ap (flight_in h.pending) busy ∙ ap (flight_by h.pending d.flush) at

-- ---- the slice in flight

-- where requests of a segment were made, it has its number, and one block less than requests was put
pub flight-flying : (pending : List PendingByte) (first : Flush) (quiets put started id : ℕ) (segment : Segment)
    → quiets ≡ suc put → segment_left first pending ≡ Some segment
    → flight_by pending first (Working quiets started id) ≡ flight_from put id pending (Some segment)
flight-flying pending first quiets put started id segment some next =
    ap (λ n. flight_by pending first (Working n started id)) some ∙ ap (flight_from put id pending) next
