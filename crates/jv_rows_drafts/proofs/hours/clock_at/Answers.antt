use Rattle.std.proofs.Common.{◌/◌, ◌≤◌, ◌∙◌, ap, subst, arith, pos, ◌+ℤ◌, ◌*ℤ◌}
use Rattle.jv_model.specs.declared.limits.TheConstants.{LAST_MOMENT}
use Rattle.jv_model.specs.declared.lifetimes.TheConstants.{HOUR}
use Rattle.jv_model.specs.promise.tree.HourNames.{hour_at, day_hours}
use Rattle.jv_rows_drafts.proofs.CivilDateLaws.{is_date_of, day_shown, hour_shown}
use Rattle.jv_rows_drafts.proofs.hours.clock_at.Goals as goal

pub returns-clause-date : goal.returns-clause-date
returns-clause-date c =
    let limit : c.args.at ≤ LAST_MOMENT = subst (λ n. n ≤ LAST_MOMENT) c.seconds.ensures.seconds c.seconds.ensures.limit
    in
    let low : hour_at c.args.at / day_hours ≤ LAST_MOMENT / HOUR / day_hours = omega (arith, limit) in
    is_date_of c.to_datetime.result.date (hour_at c.args.at / day_hours) low
    (day_shown c.to_datetime.result c.args.at (c.to_datetime.ensures ∙ ap (λ n. n +ℤ pos 0) c.timestamp.ensures
    ∙ ap (λ n. pos n *ℤ pos 1_000_000_000 +ℤ pos 0) c.seconds.ensures.seconds))

pub returns-clause-hour : goal.returns-clause-hour
returns-clause-hour c =
    hour_shown c.to_datetime.result c.args.at (c.to_datetime.ensures ∙ ap (λ n. n +ℤ pos 0) c.timestamp.ensures
    ∙ ap (λ n. pos n *ℤ pos 1_000_000_000 +ℤ pos 0) c.seconds.ensures.seconds)
