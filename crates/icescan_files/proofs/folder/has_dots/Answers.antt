use Rattle.std.proofs.Common.{◌∙◌, ◌+◌, sym, arith}
use Rattle.std.proofs.lemmas.List.{take_rest}
use Rattle.icescan_files.proofs.Segments.{dots_last, dots_then}
use Rattle.icescan_files.proofs.folder.has_dots.Goals as goal

pub returns-then-is_dots : goal.returns-then-is_dots
returns-then-is_dots c =
    sym (c.left.invariant.same ∙ dots_then c.left.left.now c.in-Some.at _ c.in-Some.ensures c.if-is_dots.ensures)

pub left-preserved : goal.left-preserved
left-preserved c =
    record {
      same = rw (take_rest c.left.left.now (c.in-Some.at + 1)) (c.left.invariant.same
          ∙ dots_then c.left.left.now c.in-Some.at _ c.in-Some.ensures c.if-is_dots.ensures);
      within = omega arith;
    }

pub returns : goal.returns
returns c = c.is_dots-2.ensures ∙ sym (dots_last c.left.left.now c.in_default.ensures) ∙ sym c.left.invariant.same
