-- The clients of a state, of which one changed; and what a client is doing while something is handed to it.
use Rattle.std.proofs.Common.{◌≡◌, ℕ, inl, inr, refl, sym, subst}
use Rattle.std.specs.Prelude.{if◌then◌else◌}
use Rattle.std.proofs.lemmas.Bool.Decides.{eqb_tells}
use Rattle.jv_model.specs.declared.profile.Does.{Does}
use Rattle.jv_model.specs.promise.client.ModelClient.{ModelClient}
use Rattle.jv_model.specs.promise.journal.State.{Gift, NewSession, NewHandle, Nothing, given, with_client}

pub own_client : (clients : ℕ → ModelClient) (at : ℕ) (c : ModelClient) → with_client clients at c at ≡ c
own_client clients at c = elim (eqb_tells at at) [
  | inl same ↦ subst (λ b. (if b then c else clients at) ≡ c) (sym same.0) refl
  | inr other ↦ absurd (other.1 refl)
]

pub other_client : (clients : ℕ → ModelClient) (at : ℕ) (c : ModelClient) (q : ℕ) → (q ≡ at → ⊥) → with_client clients at c q ≡ clients q
other_client clients at c q apart = elim (eqb_tells q at) [
  | inl same ↦ absurd (apart same.1)
  | inr other ↦ subst (λ b. (if b then c else clients q) ≡ clients q) (sym other.0) refl
]

pub doing_given : (entry : ℕ) (does : Does) (gift : Gift) (c : ModelClient) → (given entry does gift c).doing ≡ c.doing
doing_given entry does (NewSession sid) c = refl
doing_given entry does (NewHandle handle inode) c = refl
doing_given entry does Nothing c = refl
