use mir.Val.{SFits}
use Rattle.std.proofs.Common.{◌∷◌, append_assoc, rules, w64}
use Rattle.std.proofs.lemmas.Int.{to_z-of_z}
use Rattle.icescan_json.specs.Dates.{date_text, day_of_micros, time_of_micros, time_text}
use Rattle.icescan_json.proofs.dates.put_timestamp.Goals as goal

pub returns : goal.returns
returns g c =
    let f : SFits w64 c.args.n = c.ranges.n in
    let h : SFits w64 c.day_of_micros.result = search rules in
    let day = simp to_z-of_z at c.day_of_micros.ensures in
    let time = simp to_z-of_z at c.time_of_micros.ensures.value in
    let clock = rw time at c.clock_text-clock.ensures in
    let sent = rw (day, clock) at (simp to_z-of_z at c.put_dated.ensures) in
    rw (append_assoc (date_text (day_of_micros c.args.n)) (84 ∷ time_text (time_of_micros c.args.n)) c.args.zone.now)
    sent
