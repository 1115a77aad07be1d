-- What a user reads of a line of progress has no control characters.
use Rattle.std.proofs.Common.{◌≡◌, ◌<◌, ◌^◌, ℕ, ◌/◌, true, List, [], ◌∷◌, ◌++◌, codes, refl, arith, ◌∙◌}
use Rattle.std.specs.Fmt.{decimal}
use Rattle.std.specs.Int.{IsInRange}
use Rattle.std.specs.List.{list_all}
use Rattle.std.specs.Str.Parse.{AllDigits}
use Rattle.std.proofs.lemmas.Fmt.{decimal_is_IsNumeral}
use Rattle.std.proofs.lemmas.List.Folds.{list_all-append}
use Rattle.std.proofs.lemmas.Str.Parse.{digit_at}
use Rattle.icescan_progress.specs.ProgressTexts.{is_printed, told}

printed : (c : ℕ) → IsInRange 48 57 c → is_printed c ≡ true
printed c h = grind arith

digits_printed : (ds : List ℕ) → AllDigits 10 ds → list_all is_printed ds ≡ true
digits_printed [] h = refl
digits_printed (c ∷ cs) h = rw (printed c (digit_at (c ∷ cs) 0 h (omega arith))) (digits_printed cs h.1)

number_printed : (n : ℕ) → n < 2 ^ 64 → list_all is_printed (decimal n) ≡ true
number_printed n fits = digits_printed (decimal n) (decimal_is_IsNumeral n fits).0.1

both_printed : (xs ys : List ℕ) → list_all is_printed xs ≡ true → list_all is_printed ys ≡ true
    → list_all is_printed (xs ++ ys) ≡ true
both_printed xs ys h k = list_all-append is_printed xs ys ∙ rw (h, k) refl

pub told_printed : (files bytes : ℕ) → files < 2 ^ 64 → bytes < 2 ^ 64 → list_all is_printed (told files bytes) ≡ true
told_printed files bytes few small =
    let n = number_printed files few in
    let m = number_printed (bytes / 1000000) (omega arith) in
    both_printed (codes "read so far: " ++ decimal files) _
    (both_printed (codes "read so far: ") (decimal files) refl n)
    (both_printed (codes " files, " ++ decimal (bytes / 1000000)) (codes " MB")
    (both_printed (codes " files, ") (decimal (bytes / 1000000)) refl m) refl)
