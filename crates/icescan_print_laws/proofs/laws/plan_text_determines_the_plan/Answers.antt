use Rattle.std.proofs.Common.{ap, sym, ◌∙◌}
use Rattle.icescan_print_laws.specs.PlanTold.{told}
use Rattle.icescan_print_laws.proofs.Lines.{plan_told}
use Rattle.icescan_print_laws.proofs.laws.plan_text_determines_the_plan.Goals as goal

pub returns-clause-told : goal.returns-clause-told
returns-clause-told c = plan_told

pub returns-clause-same : goal.returns-clause-same
returns-clause-same c = λ a b fits_a fits_b same. sym (plan_told a fits_a) ∙ ap told same ∙ plan_told b fits_b
