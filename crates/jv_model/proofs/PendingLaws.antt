-- What follows where there is no first segment.
use Rattle.std.proofs.Common.{◌≡◌, List, [], ◌∷◌, None, refl}
use Rattle.jv_model.specs.promise.client.Pending.{PendingByte, first_segment}

pub no_first_segment : (pending : List PendingByte) → first_segment pending ≡ None → pending ≡ []
no_first_segment [] e = refl
no_first_segment (b ∷ bs) e = absurd (cc)
