-- The texts of numbers.
use Rattle.std.proofs.Common.{◌≡◌, ℤ, pos, negsuc, refl}
use Rattle.std.specs.Fmt.{signed_decimal}
use Rattle.serde_json.specs.Written.{number_text}
use Rattle.icescan_forms.specs.Objects.{num_of}

pub number_text_is : (z : ℤ) → number_text (num_of z) ≡ signed_decimal z
number_text_is (pos n) = refl
number_text_is (negsuc n) = refl
