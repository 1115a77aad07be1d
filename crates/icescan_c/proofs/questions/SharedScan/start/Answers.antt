use Rattle.std.proofs.Common.{refl}
use Rattle.icescan_c.proofs.OfQuestions.{of_selection}
use Rattle.icescan_c.proofs.questions.SharedScan.start.Goals as goal

pub invariant_of-result : goal.invariant_of-result
invariant_of-result c =
    of_selection _ c.answer.inside.question _ c.in_ok-scan.scan c.answer.inside.selection c.in_ok-rows.rows.items
    c.into_vec.result.items c.answer.inside.selection.filter.parts c.in_ok-new.ensures.ok c.in_ok-new-2.ensures.ok
    c.answer.invariant c.into_vec.ensures refl c.in_ok-scan.ensures
