use Rattle.std.proofs.Common.{arith, rules, ◌≡◌, SFits, w64, true, false}
use Rattle.std.proofs.lemmas.Int.{ints, to_z-of_z}
use Rattle.jiff_core.specs.Date.{epoch_day}
use Rattle.ice_transform.proofs.Days.{year_of_date, year_of_none}
use Rattle.ice_transform.proofs.calendar.year_of_day.Goals as goal

pub returns-in-Ok : goal.returns-in-Ok
returns-in-Ok c =
    let e : epoch_day c.in-Ok.date ≡ c.args.day = omega (arith, ints, c.in-Ok.ensures.value) in
    let f : SFits w64 c.years_of.result = search rules in
    simp to_z-of_z (year_of_date c.in-Ok.date _ c.years_of.result e c.years_of.ensures)

pub returns-in-Err : goal.returns-in-Err
returns-in-Err c =
    let f : SFits w64 c.args.day = c.ranges.day in
    let known = simp to_z-of_z at c.in-Err.ensures.succeeds in
    year_of_none c.args.day (λ h. let k : false ≡ true = known.1 h in cc)
