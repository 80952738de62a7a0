-- Requests about a client's slice in flight, which other slices in flight are apart from.
use Rattle.std.proofs.Common.{◌≢◌, ℕ, List, arith}
use Rattle.jv_model.specs.declared.act.ActKind.{ActKind}
use Rattle.jv_model.specs.declared.op.Step.{Step}
use Rattle.jv_model.specs.promise.tree.Tree.{Tree}
use Rattle.jv_model.specs.promise.client.ModelClient.{ModelClient}
use Rattle.jv_model.specs.promise.journal.State.{State}
use Rattle.jv_volume_bytes.specs.Flights.{Flight}
use Rattle.jv_client_shared.specs.Flying.{Flies}
use Rattle.jv_client_shared.specs.promise.Shared.{Known, Shared}
use Rattle.jv_client_requests.specs.Request.{IsApart, Request}

module _ (g : Known) (v : Shared) where
  pub numbered : (f : Flight) → Flies g v f → f.id ≢ 0
  numbered f flies none = let some = flies.ever.some in absurd (omega (arith, some, none))

module _ (g : Known) (v : Shared) (mine : ℕ) where
  -- a step about the client's slice, which it goes on with
  pub apart-own : IsApart g v mine mine mine
  apart-own = record { own_apart = λ f flies other. other; new_apart = λ f flies other. other }

  -- a step after which the client has a new slice in flight
  pub apart-new : (after : ℕ) → ((f : Flight) → Flies g v f → f.id ≢ after) → IsApart g v mine 0 after
  apart-new after apart = record {
    own_apart = λ f flies other. numbered g v f flies;
    new_apart = λ f flies other. apart f flies;
  }

  -- A step that ends the client's flight: it has none in flight any more.
  pub flight-over : (s : State) (learned : Known) (left : Shared) (client now after : ℕ) (kinds : List ActKind)
      (step : Step) (t : Tree) (c : ModelClient) (copied : ℕ)
      → Request s g learned v left client now mine after kinds step t c copied
      → Request s g learned v left client now mine 0 kinds step t c copied
  flight-over s learned left client now after kinds step t c copied request = record {
    own = request.own;
    allows = request.allows;
    within = request.within;
    leaves = request.leaves;
    leads = request.leads;
    apart = record { own_apart = request.apart.own_apart; new_apart = λ f flies other. numbered g v f flies };
    stays = request.stays;
    drops = request.drops;
  }
