use Rattle.std.proofs.Common.{◌≡◌, arith}
use Rattle.std.proofs.lemmas.Int.{ints}
use Rattle.jiff_core.specs.Date.{epoch_day}
use Rattle.icescan_json.proofs.Days.{near_year_is, near_month_is, near_day_is}
use Rattle.icescan_json.proofs.dates.near_date.Goals as goal

pub returns-clause-year : goal.returns-clause-year
returns-clause-year c =
    let e : epoch_day c.from_days_since_min.result ≡ c.args.day = omega (arith, ints, c.from_days_since_min.ensures) in
    near_year_is c.from_days_since_min.result c.args.day e

pub returns-clause-month : goal.returns-clause-month
returns-clause-month c =
    let e : epoch_day c.from_days_since_min.result ≡ c.args.day = omega (arith, ints, c.from_days_since_min.ensures) in
    near_month_is c.from_days_since_min.result c.args.day e c.requires.low

pub returns-clause-day : goal.returns-clause-day
returns-clause-day c =
    let e : epoch_day c.from_days_since_min.result ≡ c.args.day = omega (arith, ints, c.from_days_since_min.ensures) in
    near_day_is c.from_days_since_min.result c.args.day e c.requires.low
