-- What the put of a block does to devices: where they are open, what stays, and which of them failed.
use Rattle.std.proofs.Common.{◌≡◌, ℕ, Bool, true, false, refl, ap}
use Rattle.std.specs.Prelude.{Result, Ok, Err}
use Rattle.jv_model.specs.declared.fault.Device.{Device}
use Rattle.jv_model.specs.declared.fault.Device.TheVariants.{Carrier as OfCarrier, Depot as OfDepot}
use Rattle.jv_outside.specs.promise.Carriage.{Carriage}
use Rattle.jv_outside.specs.promise.Causes.{RoseIf}
use Rattle.jv_volume_bytes.specs.Flights.{Flight}
use Rattle.jv_yard.specs.promise.YardValue.{YardValue}
use Rattle.jv_client_puts.specs.declared.putting.PutFault.{PutFault}
use Rattle.jv_client_puts.specs.declared.putting.PutFault.TheVariants.{Carrier, Depot, Memory}
use Rattle.jv_client_puts.specs.Putting.{PutsFlight}

-- whether a put failed because the device did
abbrev pub put_fails : Device → Result (Unit {0}) PutFault → Bool
put_fails OfCarrier (Err Carrier) = true
put_fails OfDepot (Err Depot) = true
put_fails _ _ = false

-- Carrier and depot are open where they were, and each counts a fault where the put failed because of it, and not
-- otherwise. The shelf is the same, and so is all else of the yard but its log.
pub record PutUses (before after : YardValue) (was is : Carriage) (result : Result (Unit {0}) PutFault) : Type 0 where
  pub setting : after.setting ≡ before.setting
  pub shelf : after.shelf ≡ before.shelf
  pub staged : after.staged ≡ before.staged
  pub last : after.last ≡ before.last
  pub depot_at : after.depot.opened ≡ before.depot.opened
  pub depot : RoseIf (put_fails OfDepot result) before.depot.faults after.depot.faults
  pub carrier_at : is.opened ≡ was.opened
  pub carrier : RoseIf (put_fails OfCarrier result) was.faults is.faults

module _ (client now : ℕ) (f : Flight) (before after : YardValue) (was is : Carriage) where
  unused : (result : Result (Unit {0}) PutFault) → put_fails OfDepot result ≡ false → after ≡ before
      → is.opened ≡ was.opened → RoseIf (put_fails OfCarrier result) was.faults is.faults → PutUses before after was is result
  unused result calm same at cause = record {
    setting = ap (λ (y : YardValue). y.setting) same;
    shelf = ap (λ (y : YardValue). y.shelf) same;
    staged = ap (λ (y : YardValue). y.staged) same;
    last = ap (λ (y : YardValue). y.last) same;
    depot_at = ap (λ (y : YardValue). y.depot.opened) same;
    depot = rw calm (ap (λ (y : YardValue). y.depot.faults) same);
    carrier_at = at;
    carrier = cause;
  }

  pub put-uses : (result : Result (Unit {0}) PutFault) → PutsFlight client now f before after was is result
      → PutUses before after was is result
  put-uses (Ok unit) puts = record {
    setting = ap (λ (y : YardValue). y.setting) puts.0.put.others;
    shelf = ap (λ (y : YardValue). y.shelf) puts.0.put.others;
    staged = ap (λ (y : YardValue). y.staged) puts.0.put.others;
    last = ap (λ (y : YardValue). y.last) puts.0.put.others;
    depot_at = puts.0.put.published.opened_at;
    depot = puts.0.put.published.calm;
    carrier_at = puts.1.opened_at;
    carrier = puts.1.calm;
  }
  put-uses (Err Carrier) puts = unused (Err Carrier) refl puts.0 puts.1.opened_at puts.1.cause
  put-uses (Err Depot) puts = record {
    setting = ap (λ (y : YardValue). y.setting) puts.0.1;
    shelf = ap (λ (y : YardValue). y.shelf) puts.0.1;
    staged = ap (λ (y : YardValue). y.staged) puts.0.1;
    last = ap (λ (y : YardValue). y.last) puts.0.1;
    depot_at = puts.0.0.opened_at;
    depot = puts.0.0.cause;
    carrier_at = puts.1.opened_at;
    carrier = puts.1.calm;
  }
  put-uses (Err Memory) puts = unused (Err Memory) refl puts.0 puts.1.opened_at puts.1.calm
