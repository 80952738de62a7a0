-- The clients of a schedule stand for those of the model while one of them goes on.
use Rattle.std.proofs.Common.{◌≡◌, ◌≢◌, ℕ, ◌≤◌, ◌<◌, List, slice_get, slice_set, Option, None, Some, refl, sym, ap, subst, ◌∙◌, arith}
use Rattle.std.specs.Prelude.{IfSome}
use Rattle.jv_model.specs.promise.tree.Tree.{Tree}
use Rattle.jv_model.specs.promise.client.ModelClient.{ModelClient}
use Rattle.jv_model.specs.promise.journal.State.{State, set_client}
use Rattle.jv_model.specs.promise.journal.Steps.{Start}
use Rattle.jv_model.proofs.ClientsLaws.{own_client, other_client}
use Rattle.jv_volume.specs.Holding.{Stays}
use Rattle.jv_volume.specs.promise.TypedRows.{Rows}
use Rattle.jv_volume_bytes.specs.Flights.{Flight}
use Rattle.jv_client_shared.specs.Flying.{Flies}
use Rattle.jv_client_shared.specs.Keeping.{HoldsSame, KeepsShared}
use Rattle.jv_client_shared.specs.promise.Shared.{HasStore, Known, Shared}
use Rattle.jv_client_shared.specs.Shared.{rows_in}
use Rattle.jv_client_shared.proofs.KeepingLaws.{stays-none}
use Rattle.jv_client_shared.proofs.SameLaws.{same-stays, same-store}
use Rattle.jv_client_requests.specs.Request.{IsApart, IsWithin}
use Rattle.jv_client_requests.proofs.FlightLaws.{apart-new, numbered}
use Rattle.jv_client_requests.proofs.StillLaws.{stays-same}
use Rattle.jv_client.specs.ClientValue.{ClientValue}
use Rattle.jv_client.specs.Held.{IsClient, Holds, IsOnWay, flight_of, in_flight, number_of}
use Rattle.jv_client.proofs.held.HeldLaws.{holds-later}
use Rattle.jv_client.proofs.held.OthersStepLaws.{client-stays}
use Rattle.jv_session.specs.Stands.{IsState, IsClientAt}
use Rattle.jv_session.specs.InLine.{at_moment}
use Rattle.jv_session.proofs.MemberLaws.{apart_set, each-set}
use Rattle.jv_model.proofs.TestLaws.{if_some-by}

-- one of them, at its place
pub client_at : (start : Start) (g : Known) (q : State) (clients : List ClientValue) (v : Shared) (k : ℕ)
    (c : ClientValue) → IsState start g q clients v → slice_get clients k ≡ Some c → IsClientAt g q v k c
client_at start g q clients v k c h found = subst (λ o. IfSome o (IsClientAt g q v k)) found (h.clients_are k)

-- numbers of slices in flight

some_number : (o : Option Flight) → 0 < number_of o → (f : Flight) × (o ≡ Some f)
some_number None some = absurd (omega (arith, some))
some_number (Some f) some = (f, refl)

module _ (g : Known) (v : Shared) where
  on_way : (o : Option Flight) (f : Flight) → o ≡ Some f → IsOnWay g v o → Flies g v f
  on_way o f is h = (subst (IsOnWay g v) is h).0

  -- a step that is about no slice, after which the client has none in flight
  pub apart_nothing : (mine : ℕ) → IsApart g v mine 0 0
  apart_nothing mine = apart-new g v mine 0 (numbered g v)

-- clients that stay while what they share goes on

module _ (g g' : Known) (v v' : Shared) (q t : State) (own : ℕ) (has : HasStore q.tree g v)
    (kept : KeepsShared own g g' v v') (stays : Stays q.tree t.tree) (grew : q.count ≤ t.count) where
  at_later : (k : ℕ) (c : ClientValue) → t.clients k ≡ q.clients k
      → ((f : Flight) → flight_of c ≡ Some f → f.id ≢ own) → IsClientAt g q v k c → IsClientAt g' t v' k c
  at_later k c same apart h = record {
    is_client = subst (λ (m : ModelClient). IsClient g' v' m t.count c) (sym same)
        (client-stays q.tree g v has own g' v' kept (q.clients k) q.count t.count c grew h.is_client apart);
    holds = subst (λ (m : ModelClient). Holds t.tree m) (sym same)
        (holds-later q.tree t.tree (q.clients k) stays h.holds);
  }

  module _ (start : Start) (clients : List ClientValue) (h : IsState start g q clients v) where
    flies_at : (k : ℕ) (c : ClientValue) → slice_get clients k ≡ Some c → (f : Flight) → flight_of c ≡ Some f
        → Flies g v f
    flies_at k c found f is =
        on_way g v (flight_of c) f is (client_at start g q clients v k c h found).is_client.flight

    -- One client went on, and the others stay.
    module _ (client : ℕ) (old new : ClientValue) (found : slice_get clients client ≡ Some old)
        (a : IsApart g v (in_flight old) own (in_flight new)) where
      -- the number of another one's slice in flight
      other_number : (k : ℕ) (c : ClientValue) → (k ≡ client → ⊥) → slice_get clients k ≡ Some c → (f : Flight)
          → flight_of c ≡ Some f → f.id ≢ in_flight old
      other_number k c apart here f is same =
          let number : in_flight c ≡ f.id = ap number_of is in
          let some = (flies_at k c here f is).ever.some in
          h.apart k client c old apart here found (omega (arith, some, number)) (number ∙ same)

      other_later : (k : ℕ) (c : ClientValue) → (k ≡ client → ⊥) → slice_get clients k ≡ Some c
          → t.clients k ≡ q.clients k → IsClientAt g' t v' k c
      other_later k c apart here same =
          at_later k c same (λ f is. a.own_apart f (flies_at k c here f is) (other_number k c apart here f is))
          (client_at start g q clients v k c h here)

      other_apart : (k : ℕ) (c : ClientValue) → (k ≡ client → ⊥) → slice_get clients k ≡ Some c → 0 < in_flight c
          → in_flight c ≢ in_flight new
      other_apart k c apart here some same =
          let flight = some_number (flight_of c) some in
          let number : in_flight c ≡ flight.0.id = ap number_of flight.1 in
          a.new_apart flight.0 (flies_at k c here flight.0 flight.1) (other_number k c apart here flight.0 flight.1)
          (sym number ∙ same)

      pub state_stepped : HasStore t.tree g' v' → IsWithin start t (rows_in v')
          → ((c : ℕ) → (c ≡ client → ⊥) → t.clients c ≡ q.clients c) → IsClientAt g' t v' client new
          → IsState start g' t (slice_set clients client new) v'
      state_stepped has_after within others mine = record {
        has_store = has_after;
        within = within;
        clients_are = each-set (IsClientAt g' t v') clients client new
            (λ k apart. if_some-by (IsClientAt g' t v' k) (slice_get clients k)
            (λ c here. other_later k c apart here (others k apart))) mine;
        apart = apart_set clients client new h.apart other_apart;
      }

    -- All clients stay where the step is about no slice.
    pub state_kept : own ≡ 0 → HasStore t.tree g' v' → IsWithin start t (rows_in v')
        → ((c : ℕ) → t.clients c ≡ q.clients c) → IsState start g' t clients v'
    state_kept none has_after within same = record {
      has_store = has_after;
      within = within;
      clients_are = λ k. if_some-by (IsClientAt g' t v' k) (slice_get clients k)
          (λ c here. at_later k c (same k)
          (λ f is number. numbered g v f (flies_at k c here f is) (number ∙ none))
          (client_at start g q clients v k c h here));
      apart = h.apart;
    }

-- a tree that is the same stays
pub stays_is : (t after : Tree) → after ≡ t → Stays t after
stays_is t after same = subst (Stays t) (sym same) (stays-same t)

-- numbers after further entries
pub within_later : (start : Start) (q t : State) (rows : Rows) → q.count ≤ t.count → t.copied ≡ q.copied
    → IsWithin start q rows → IsWithin start t rows
within_later start q t rows grew copied h = record {
  numbers = (let numbers = h.numbers in omega (arith, numbers, grew));
  records = (let records = h.records in omega (arith, records, grew, copied));
}

module _ (start : Start) (g : Known) (q : State) (clients : List ClientValue) (v : Shared)
    (h : IsState start g q clients v) where
  -- every client and the tree stay
  pub state_noted : (t : State) → t.tree ≡ q.tree → q.count ≤ t.count → t.copied ≡ q.copied
      → ((c : ℕ) → t.clients c ≡ q.clients c) → IsState start g t clients v
  state_noted t tree grew copied same =
      state_kept g g v v q t 0 h.has_store (stays-none 0 g v) (stays_is q.tree t.tree tree) grew start clients h refl
      (subst (λ x. HasStore x g v) (sym tree) h.has_store)
      (within_later start q t (rows_in v) grew copied h.within) same

  -- the tree stays, and one client, which has nothing in flight, is another
  pub state_with : (t : State) (client : ℕ) (old new : ClientValue) → slice_get clients client ≡ Some old
      → in_flight new ≡ 0 → t.tree ≡ q.tree → q.count ≤ t.count → t.copied ≡ q.copied
      → ((c : ℕ) → (c ≡ client → ⊥) → t.clients c ≡ q.clients c) → IsClientAt g t v client new
      → IsState start g t (slice_set clients client new) v
  state_with t client old new found none tree grew copied others mine =
      state_stepped g g v v q t 0 h.has_store (stays-none 0 g v) (stays_is q.tree t.tree tree) grew start clients h
      client old new found
      (subst (λ n. IsApart g v (in_flight old) 0 n) (sym none) (apart_nothing g v (in_flight old)))
      (subst (λ x. HasStore x g v) (sym tree) h.has_store)
      (within_later start q t (rows_in v) grew copied h.within) others mine

  -- the yard knows of another moment
  same_at : (now : ℕ) → HoldsSame v (at_moment now v)
  same_at now = record { rows = refl; objects = refl; blocks = refl; setting = refl; staged = refl }

  pub state_moment : (now : ℕ) → IsState start g q clients (at_moment now v)
  state_moment now =
      let same = same_at now in
      state_kept g g v (at_moment now v) q q 0 h.has_store (same-stays 0 g v (at_moment now v) same)
      (stays-same q.tree) (omega arith) start clients h refl (same-store q.tree g v (at_moment now v) same h.has_store)
      h.within (λ c. refl)

  -- one client began an operation
  pub set_state : (k : ℕ) (m : ModelClient) (old c : ClientValue) → slice_get clients k ≡ Some old → in_flight c ≡ 0
      → IsClient g v m q.count c → Holds q.tree m → IsState start g (set_client q k m) (slice_set clients k c) v
  set_state k m old c found none is holds =
      let own = own_client q.clients k m in
      state_with (set_client q k m) k old c found none refl (omega arith) refl
      (λ j apart. other_client q.clients k m j apart) (record {
        is_client = subst (λ x. IsClient g v x q.count c) (sym own) is;
        holds = subst (λ x. Holds q.tree x) (sym own) holds;
      })
