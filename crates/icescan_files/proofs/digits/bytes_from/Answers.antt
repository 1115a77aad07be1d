use Rattle.std.proofs.Common.{Ok, ap, arith, sym, ◌∙◌}
use Rattle.icescan_files.proofs.DigitValues.{odd_names_nothing, others_name_nothing}
use Rattle.icescan_files.proofs.digits.bytes_from.Goals.{then-digits-ne0-via-then-digits-ne0}
use Rattle.icescan_files.proofs.digits.bytes_from.Goals.{then-digits-ne0-via-else-digits-ne0+then-not-are_digits}
use Rattle.icescan_files.proofs.digits.bytes_from.Goals as goal

pub returns-then-digits-ne0 : goal.returns-then-digits-ne0
returns-then-digits-ne0 c =
    elim c.then-digits-ne0.branch [
      | then-digits-ne0-via-then-digits-ne0 w ↦ ap Ok (odd_names_nothing c.args.digits.now (omega arith))
      | then-digits-ne0-via-else-digits-ne0+then-not-are_digits w ↦
          ap Ok (others_name_nothing c.args.digits.now (sym w.are_digits.ensures ∙ w.if-not-are_digits.true))
    ]
