-- Lemmas on escaped dates and digits.
use Rattle.std.proofs.Common.{◌≡◌, ℕ, List, [], ◌∷◌, ◌++◌, take, drop, ap, ap₂, ◌∙◌, add-one, append_assoc}
use Rattle.std.proofs.Common.{◌+◌, ◌<◌, ◌/◌, ◌%◌, suc, length, get_or}
use Rattle.std.specs.Prelude.{codes}
use Rattle.json.specs.Print.{escape, quoted}
use Rattle.icescan_forms.proofs.Escapes.{escape_append}
use Rattle.icescan_forms.proofs.Lists.{there}
use Rattle.icescan_json.specs.Dates.{CalendarDate, month_day_text, text_of_date, year_text}
use Rattle.icescan_json.specs.Values.{hex_text}
use Rattle.icescan_print.specs.Escaping.{hex_digit}
use Rattle.icescan_print.proofs.Sends.{flat_next, flat_cut}

-- a date within its quotes, and what follows it there
pub dated : (d : CalendarDate) (clock zone : List ℕ) → quoted (text_of_date d ++ (clock ++ zone))
    ≡ codes "\"" ++ (escape (year_text d.year) ++ (escape (month_day_text d) ++ (escape clock ++ (escape zone ++
    codes "\""))))
dated d clock zone =
    let e = escape_append (year_text d.year ++ month_day_text d) (clock ++ zone) in
    let f = escape_append (year_text d.year) (month_day_text d) in
    let g = escape_append clock zone in
    let whole = e ∙ ap₂ (λ (a b : List ℕ). a ++ b) f g in
    ap (λ t. 34 ∷ (t ++ 34 ∷ [])) whole ∙ simp append_assoc

abbrev pair : ℕ → List ℕ
pair b = hex_digit (b / 16) ∷ hex_digit (b % 16) ∷ []

-- the digits of one byte more
pub hex_next : (bytes : List ℕ) (i : ℕ) → i < length bytes → escape (hex_text (take (i + 1) bytes))
    ≡ escape (hex_text (take i bytes)) ++ escape (pair (get_or bytes i 0))
hex_next bytes i l =
    rw (add-one, flat_next pair bytes i (get_or bytes i 0) (there bytes i 0 l))
    (escape_append (hex_text (take i bytes)) (pair (get_or bytes i 0)))

-- the digits, cut at one byte
pub hex_cut : (bytes : List ℕ) (i : ℕ) → i < length bytes → escape (hex_text bytes)
    ≡ escape (hex_text (take i bytes)) ++ (escape (pair (get_or bytes i 0)) ++ escape (hex_text (drop (suc i) bytes)))
hex_cut bytes i l =
    ap escape (flat_cut pair bytes i (get_or bytes i 0) (there bytes i 0 l))
    ∙ escape_append (hex_text (take i bytes)) (pair (get_or bytes i 0) ++ hex_text (drop (suc i) bytes))
    ∙ ap (λ t. escape (hex_text (take i bytes)) ++ t)
    (escape_append (pair (get_or bytes i 0)) (hex_text (drop (suc i) bytes)))
