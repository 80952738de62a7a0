-- A stage's yard, which is in its door.
use Rattle.std.proofs.Common.{◌≡◌, ℕ, List, Option, None, Some, IsSome, IsSomeAnd, refl, sym, ap, subst, arith}
use Rattle.jv_model.specs.declared.basics.Limits.{Limits}
use Rattle.jv_model.specs.declared.setting.Setting.{Setting}
use Rattle.jv_client_shared.specs.Lengths.{IsLength}
use Rattle.jv_model.specs.declared.act.Act.{Act}
use Rattle.jv_model.specs.declared.op.Line.{Line}
use Rattle.jv_outside.specs.promise.Carriage.{Carriage}
use Rattle.jv_outside.specs.promise.Store.{Store}
use Rattle.jv_outside.specs.promise.Ticks.{Ticks}
use Rattle.jv_yard.specs.promise.YardValue.{YardValue}
use Rattle.jv_client.specs.promise.Shared.{shared}
use Rattle.jv_session.specs.declared.line_end.LineEnd.{LineEnd}
use Rattle.jv_session.specs.Lines.{AtDoor, LineRuns, line_state}
use Rattle.jv_session.specs.Stands.{IsYardOf, ScheduleValue, fresh_schedule}
use Rattle.jv_cmd.specs.Stages.{IsFirst, yard_at}

-- what was done with the yard that was taken was done with the stage's
AtDoor-does : (before after : Option YardValue) (Does : YardValue → YardValue → Type 0) → AtDoor before after Does
    → Does (yard_at before) (yard_at after)
AtDoor-does before after Does at =
    subst (λ (taken : YardValue). Does taken (yard_at after)) (sym (ap yard_at at.taken_is))
    (subst (λ (left : YardValue). Does at.taken left) (sym (ap yard_at at.left_is)) at.does)

-- so was a line run, over a carrier that was lent
pub LineRuns-stage : (line : Line) (number : ℕ) (result : LineEnd) (given left : Option YardValue) (clock clock' : Ticks)
    (keeper keeper' : Store) (lent carrier carrier' : Carriage) (acts acts' : List Act) (s s' : ScheduleValue) → lent ≡ carrier
    → AtDoor given left (λ taken given_back. LineRuns line number (line_state clock (shared keeper taken lent) acts s)
    (line_state clock' (shared keeper' given_back carrier') acts' s') result)
    → LineRuns line number (line_state clock (shared keeper (yard_at given) carrier) acts s)
    (line_state clock' (shared keeper' (yard_at left) carrier') acts' s') result
LineRuns-stage line number result given left clock clock' keeper keeper' lent carrier carrier' acts acts' s s' same at =
    subst (λ (c : Carriage). LineRuns line number (line_state clock (shared keeper (yard_at given) c) acts s)
    (line_state clock' (shared keeper' (yard_at left) carrier') acts' s') result) same
    (AtDoor-does given left (λ taken given_back. LineRuns line number (line_state clock (shared keeper taken lent) acts s)
    (line_state clock' (shared keeper' given_back carrier') acts' s') result) at)

-- a yard that was just started

pub First-setting : (given : Option YardValue) (setting : Setting) → IsSomeAnd given (IsFirst setting) → (yard_at given).setting ≡ setting
First-setting None setting first = absurd first
First-setting (Some yard) setting first = first.setting_is

-- a schedule that has done nothing may go on with it
pub First-fits : (given : Option YardValue) (setting : Setting) (limits : Limits) (s : ScheduleValue) → s ≡ fresh_schedule setting limits
    → IsSomeAnd given (IsFirst setting) → IsSomeAnd given (IsYardOf s)
First-fits None setting limits s fresh first = absurd first
First-fits (Some yard) setting limits s fresh first = record {
  block = subst (λ (x : Setting). IsLength x.block) (sym first.setting_is) first.block;
  last = (let last = first.last_is in omega (arith, last));
}

pub given_some : (given : Option YardValue) (Is : YardValue → Type 0) → IsSomeAnd given Is → IsSome given
given_some None Is h = absurd h
given_some (Some yard) Is h = refl
