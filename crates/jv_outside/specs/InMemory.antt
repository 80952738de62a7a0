-- What only inner contracts cite: of `promise/InMemory`.
use Rattle.std.specs.Prelude.{◌≡◌, ℕ, List, Option, Some, refl}
use Rattle.std.specs.Coded.{Coded, code_by, coded×, coded_list, coded_option, coded_ℕ}
use Rattle.jv_model.specs.promise.rows.RowKeys.{RowMap}
use Rattle.jv_model.specs.rows.RowKeys.{row_map_code}
use Rattle.jv_outside.specs.declared.calls.Fails.{Fails}
use Rattle.jv_outside.specs.declared.calls.Fails.TheVariants.{At}
use Rattle.jv_outside.specs.Calls.{CallsValue}
use Rattle.jv_outside.specs.promise.Carriage.{Carriage}
use Rattle.jv_outside.specs.promise.Holding.{Holding}
use Rattle.jv_outside.specs.promise.Store.{Store}
use Rattle.jv_outside.specs.promise.Stream.{Stream}
use Rattle.jv_outside.specs.promise.Ticks.{Ticks}

-- the bytes left, the most that a call reads, and the calls
pub record SourceValue : Type 0 where
  pub left : List ℕ
  pub most : ℕ
  pub calls : CallsValue

-- the bytes taken, the most that a call takes, and the calls
pub record SinkValue : Type 0 where
  pub taken : List ℕ
  pub most : ℕ
  pub calls : CallsValue

-- the moment that each call answers, and the calls
pub record ClockValue : Type 0 where
  pub at : ℕ
  pub calls : CallsValue

-- the rows, the place where the keeper was opened, and the calls
pub record KeeperValue : Type 0 where
  pub rows : RowMap
  pub opened : Option (List ℕ)
  pub calls : CallsValue

-- the same of a keeper that counts no calls
pub record OpenedRows : Type 0 where
  pub rows : RowMap
  pub opened : Option (List ℕ)

-- a device's content, the place where it was opened, and the calls
pub record DeviceValue (M : Type 0) : Type 0 where
  pub content : M
  pub opened : Option (List ℕ)
  pub calls : CallsValue

-- the same of a device that counts its faults alone
pub record FaultedContent (M : Type 0) : Type 0 where
  pub content : M
  pub opened : Option (List ℕ)
  pub faults : ℕ

-- the same of a device that counts nothing
pub record OpenedContent (M : Type 0) : Type 0 where
  pub content : M
  pub opened : Option (List ℕ)

-- the place where a carrier was opened, and the calls
pub record CarrierValue : Type 0 where
  pub opened : Option (List ℕ)
  pub calls : CallsValue

-- bytes that are all known, and the faults of the calls
abbrev pub stream_of : List ℕ → CallsValue → Stream
stream_of bytes calls = record { content = Some bytes; faults = calls.faults }

-- a clock that answers one moment, whatever the calls are
abbrev pub ticks_at : ℕ → ℕ → Ticks
ticks_at at faults = record { answers = Some (λ _. at); faults = faults }

abbrev pub store_of : KeeperValue → Store
store_of keeper =
    record { rows = Some keeper.rows; opened = keeper.opened; faults = keeper.calls.faults }

abbrev pub never_failing_store : OpenedRows → Store
never_failing_store keeper = record { rows = Some keeper.rows; opened = keeper.opened; faults = 0 }

abbrev pub holding_of : {M : Type 0} → DeviceValue M → Holding M
holding_of device =
    record { content = Some device.content; opened = device.opened; faults = device.calls.faults }

abbrev pub faulted_holding : {M : Type 0} → FaultedContent M → Holding M
faulted_holding device =
    record { content = Some device.content; opened = device.opened; faults = device.faults }

abbrev pub never_failing_holding : {M : Type 0} → OpenedContent M → Holding M
never_failing_holding device =
    record { content = Some device.content; opened = device.opened; faults = 0 }

abbrev pub carriage_of : CarrierValue → Carriage
carriage_of carrier = record { opened = carrier.opened; faults = carrier.calls.faults }

abbrev pub never_failing_carriage : Option (List ℕ) → Carriage
never_failing_carriage opened = record { opened = opened; faults = 0 }

abbrev pub numbers_of : Fails → List ℕ
numbers_of (At numbers) = numbers

pub At-numbers : (fails : Fails) → At (numbers_of fails) ≡ fails
At-numbers (At numbers) = refl

-- calls are stored as their counts and the numbers of those that are to fail
abbrev pub calls_code : Coded CallsValue
calls_code =
    code_by ((ℕ × ℕ) × List ℕ) (coded× (coded× coded_ℕ coded_ℕ) (coded_list coded_ℕ))
    (λ c. ((c.made, c.faults), numbers_of c.fails))
    (λ p. record { made = p.0.0; fails = At p.1; faults = p.0.1 })
    (λ c i. record c { fails = At-numbers c.fails i })

abbrev pub place_code : Coded (Option (List ℕ))
place_code = coded_option (coded_list coded_ℕ)

abbrev pub opened_code : Coded (RowMap × Option (List ℕ))
opened_code = coded× row_map_code place_code

abbrev pub opened_rows_code : Coded OpenedRows
opened_rows_code =
    code_by (RowMap × Option (List ℕ)) opened_code (λ k. (k.rows, k.opened))
    (λ p. record { rows = p.0; opened = p.1 }) (λ _. refl)

abbrev pub keeper_code : Coded KeeperValue
keeper_code =
    code_by ((RowMap × Option (List ℕ)) × CallsValue) (coded× opened_code calls_code)
    (λ k. ((k.rows, k.opened), k.calls))
    (λ p. record { rows = p.0.0; opened = p.0.1; calls = p.1 }) (λ _. refl)

abbrev pub device_code : {M : Type 0} → Coded M → Coded (DeviceValue M)
device_code {M} content =
    code_by ((M × Option (List ℕ)) × CallsValue) (coded× (coded× content place_code) calls_code)
    (λ d. ((d.content, d.opened), d.calls))
    (λ p. record { content = p.0.0; opened = p.0.1; calls = p.1 }) (λ _. refl)

abbrev pub faulted_content_code : {M : Type 0} → Coded M → Coded (FaultedContent M)
faulted_content_code {M} content =
    code_by ((M × Option (List ℕ)) × ℕ) (coded× (coded× content place_code) coded_ℕ)
    (λ d. ((d.content, d.opened), d.faults))
    (λ p. record { content = p.0.0; opened = p.0.1; faults = p.1 }) (λ _. refl)

abbrev pub opened_content_code : {M : Type 0} → Coded M → Coded (OpenedContent M)
opened_content_code {M} content =
    code_by (M × Option (List ℕ)) (coded× content place_code) (λ d. (d.content, d.opened))
    (λ p. record { content = p.0; opened = p.1 }) (λ _. refl)

abbrev pub carrier_code : Coded CarrierValue
carrier_code =
    code_by (Option (List ℕ) × CallsValue) (coded× place_code calls_code) (λ c. (c.opened, c.calls))
    (λ p. record { opened = p.0; calls = p.1 }) (λ _. refl)
