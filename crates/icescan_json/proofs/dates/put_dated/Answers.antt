use mir.Val.{SFits}
use Rattle.std.proofs.Common.{◌≡◌, ◌∙◌, ap, rules, w64}
use Rattle.std.proofs.lemmas.Int.{to_z-of_z}
use Rattle.icescan_json.specs.Dates.{CalendarDate, date_of, month_day_text}
use Rattle.icescan_print.proofs.Sends.{sent_less, sent_more}
use Rattle.icescan_json.proofs.Escapes.{dated}
use Rattle.icescan_json.proofs.dates.put_dated.Goals as goal

pub returns-in_err-put : goal.returns-in_err-put
returns-in_err-put g c =
    rw (dated (date_of c.args.day) c.args.clock.now c.args.zone.now)
    (sent_less _ _ _ _ _ _ _ _ _ _ _ c.from_residual.ensures.0 c.in_err-put.ensures)

pub returns-in_err-put_year : goal.returns-in_err-put_year
returns-in_err-put_year g c =
    let f : SFits w64 c.args.day = c.ranges.day in
    let h : SFits w64 c.date_of-date.result.year = search rules in
    let date = simp to_z-of_z at c.date_of-date.ensures.date in
    let is : c.date_of-date.result.year ≡ (date_of c.args.day).year = ap (λ (d : CalendarDate). d.year) date in
    rw (dated (date_of c.args.day) c.args.clock.now c.args.zone.now)
    (sent_more _ _ _ _ _ _ _ _ _ _ _ _ c.in_ok-put.ensures
    (sent_less _ _ _ _ _ _ _ _ _ _ _ c.from_residual-in_err-put_year.ensures.0 (rw is at (simp to_z-of_z at
    c.in_err-put_year.ensures))))

pub returns-in_err-put_escaped : goal.returns-in_err-put_escaped
returns-in_err-put_escaped g c =
    let f : SFits w64 c.args.day = c.ranges.day in
    let h : SFits w64 c.date_of-date.result.year = search rules in
    let date = simp to_z-of_z at c.date_of-date.ensures.date in
    let is : c.date_of-date.result.year ≡ (date_of c.args.day).year = ap (λ (d : CalendarDate). d.year) date in
    let digits : c.month_day_text.result ≡ month_day_text (date_of c.args.day) =
    c.month_day_text.ensures ∙ ap month_day_text date in
    rw (dated (date_of c.args.day) c.args.clock.now c.args.zone.now)
    (sent_more _ _ _ _ _ _ _ _ _ _ _ _ c.in_ok-put.ensures
    (sent_more _ _ _ _ _ _ _ _ _ _ _ _ (rw is at (simp to_z-of_z at c.in_ok-put_year.ensures))
    (sent_less _ _ _ _ _ _ _ _ _ _ _ c.from_residual-in_err-put_escaped.ensures.0 (rw digits at
    c.in_err-put_escaped.ensures))))

pub returns-in_err-put_escaped-2 : goal.returns-in_err-put_escaped-2
returns-in_err-put_escaped-2 g c =
    let f : SFits w64 c.args.day = c.ranges.day in
    let h : SFits w64 c.date_of-date.result.year = search rules in
    let date = simp to_z-of_z at c.date_of-date.ensures.date in
    let is : c.date_of-date.result.year ≡ (date_of c.args.day).year = ap (λ (d : CalendarDate). d.year) date in
    let digits : c.month_day_text.result ≡ month_day_text (date_of c.args.day) =
    c.month_day_text.ensures ∙ ap month_day_text date in
    rw (dated (date_of c.args.day) c.args.clock.now c.args.zone.now)
    (sent_more _ _ _ _ _ _ _ _ _ _ _ _ c.in_ok-put.ensures
    (sent_more _ _ _ _ _ _ _ _ _ _ _ _ (rw is at (simp to_z-of_z at c.in_ok-put_year.ensures))
    (sent_more _ _ _ _ _ _ _ _ _ _ _ _ (rw digits at c.in_ok-put_escaped.ensures)
    (sent_less _ _ _ _ _ _ _ _ _ _ _ c.from_residual-in_err-put_escaped-2.ensures.0 c.in_err-put_escaped-2.ensures))))

pub returns-in_err-put_escaped-3 : goal.returns-in_err-put_escaped-3
returns-in_err-put_escaped-3 g c =
    let f : SFits w64 c.args.day = c.ranges.day in
    let h : SFits w64 c.date_of-date.result.year = search rules in
    let date = simp to_z-of_z at c.date_of-date.ensures.date in
    let is : c.date_of-date.result.year ≡ (date_of c.args.day).year = ap (λ (d : CalendarDate). d.year) date in
    let digits : c.month_day_text.result ≡ month_day_text (date_of c.args.day) =
    c.month_day_text.ensures ∙ ap month_day_text date in
    rw (dated (date_of c.args.day) c.args.clock.now c.args.zone.now)
    (sent_more _ _ _ _ _ _ _ _ _ _ _ _ c.in_ok-put.ensures
    (sent_more _ _ _ _ _ _ _ _ _ _ _ _ (rw is at (simp to_z-of_z at c.in_ok-put_year.ensures))
    (sent_more _ _ _ _ _ _ _ _ _ _ _ _ (rw digits at c.in_ok-put_escaped.ensures)
    (sent_more _ _ _ _ _ _ _ _ _ _ _ _ c.in_ok-put_escaped-2.ensures
    (sent_less _ _ _ _ _ _ _ _ _ _ _ c.from_residual-in_err-put_escaped-3.ensures.0 c.in_err-put_escaped-3.ensures)))))

pub returns : goal.returns
returns g c =
    let f : SFits w64 c.args.day = c.ranges.day in
    let h : SFits w64 c.date_of-date.result.year = search rules in
    let date = simp to_z-of_z at c.date_of-date.ensures.date in
    let is : c.date_of-date.result.year ≡ (date_of c.args.day).year = ap (λ (d : CalendarDate). d.year) date in
    let digits : c.month_day_text.result ≡ month_day_text (date_of c.args.day) =
    c.month_day_text.ensures ∙ ap month_day_text date in
    rw (dated (date_of c.args.day) c.args.clock.now c.args.zone.now)
    (sent_more _ _ _ _ _ _ _ _ _ _ _ _ c.in_ok-put.ensures
    (sent_more _ _ _ _ _ _ _ _ _ _ _ _ (rw is at (simp to_z-of_z at c.in_ok-put_year.ensures))
    (sent_more _ _ _ _ _ _ _ _ _ _ _ _ (rw digits at c.in_ok-put_escaped.ensures)
    (sent_more _ _ _ _ _ _ _ _ _ _ _ _ c.in_ok-put_escaped-2.ensures
    (sent_more _ _ _ _ _ _ _ _ _ _ _ _ c.in_ok-put_escaped-3.ensures
    c.put-2.ensures)))))
