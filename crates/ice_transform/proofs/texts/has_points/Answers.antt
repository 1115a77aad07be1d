use Rattle.std.proofs.Common.{◌≤◌, ℕ, length, leb, arith}
use Rattle.std.specs.Bool.{Decides}
use Rattle.std.specs.Str.{chars}
use Rattle.std.proofs.lemmas.Bool.Decides.{same_from_decides, nat_tests}
use Rattle.ice_transform.specs.Cuts.{has_points}
use Rattle.ice_transform.proofs.Points.{text_has_points}
use Rattle.ice_transform.proofs.texts.has_points.Goals as goal

up_to : (a b : ℕ) → Decides (leb a b) (a ≤ b)
up_to a b = (λ h. grind (arith, nat_tests), λ h. grind (arith, nat_tests))

pub returns-clause-test : goal.returns-clause-test
returns-clause-test c =
    rw c.count_points.ensures (same_from_decides (leb c.args.width (length (chars c.args.text.now)))
    (has_points c.args.width c.args.text.now)
    (up_to c.args.width (length (chars c.args.text.now))) (text_has_points c.args.width c.args.text.now c.utf8.text))
