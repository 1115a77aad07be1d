use Rattle.std.proofs.Common.{◌≢◌, ◌+◌, ◌++◌, ℕ, ◌∙◌, ap, arith, drop, length-drop, sym}
use Rattle.std.proofs.lemmas.List.{take_rest}
use Rattle.std.proofs.lemmas.List.Elements.{All-append, All-nil}
use Rattle.std.proofs.lemmas.Result.{err_from_is_err_and}
use Rattle.icescan_files.specs.Bundles.{files_from}
use Rattle.icescan_files.proofs.Lines.{cut_before, open_before, open_whole}
use Rattle.icescan_files.proofs.bundle_text.Front.take.Goals as goal

pub end_line_with-requires-clause-end : goal.end_line_with-requires-clause-end
end_line_with-requires-clause-end c =
    open_before c.left.left.now c.in-Some.at c.in-Some.ensures.0.high c.in-Some.ensures.0.before

pub returns-in_err-end_line_with-clause-err : goal.returns-in_err-end_line_with-clause-err
returns-in_err-end_line_with-clause-err c =
    let p = err_from_is_err_and c.from_residual.result c.from_residual.ensures.1 in
    let left = c.left.left.now in
    let i = c.in-Some.at in
    rw (p.1, p.2) (λ m rest. sym (c.left.invariant.same rest)
    ∙ ap (λ l. files_from c.left.self.lines c.left.self.bundle (c.left.self.begun.items ++ l))
    (cut_before left i rest c.in-Some.ensures.0.high c.in-Some.ensures.1)
    ∙ c.in_err-end_line_with.ensures.err m (drop (i + 1) left ++ rest))

pub left-preserved : goal.left-preserved
left-preserved c =
    let left = c.left.left.now in
    let i = c.in-Some.at in
    rw (take_rest left (i + 1), c.in_ok-end_line_with.ensures.begun) (record {
      same = λ rest. c.in_ok-end_line_with.ensures.ok (drop (i + 1) left ++ rest)
          ∙ ap (λ l. files_from c.left.self.lines c.left.self.bundle (c.left.self.begun.items ++ l))
          (sym (cut_before left i rest c.in-Some.ensures.0.high c.in-Some.ensures.1)) ∙ c.left.invariant.same rest;
      open_line = All-nil (λ b. b ≢ 10);
      few = omega (
        arith,
        length-drop {A = ℕ},
        c.in_ok-end_line_with.ensures.lines,
        c.in-Some.ensures.0.high,
        c.left.invariant.few,
      );
      fits = omega (
        arith,
        length-drop {A = ℕ},
        c.in_ok-end_line_with.ensures.lines,
        c.in-Some.ensures.0.high,
        c.left.invariant.fits,
      );
    })

pub returns-clause-unbroken : goal.returns-clause-unbroken
returns-clause-unbroken c =
    rw c.in_ok-extend_from_slice.ensures.items
    (All-append (λ b. b ≢ 10) c.left.self.begun.items c.left.left.now c.left.invariant.open_line
    (open_whole c.left.left.now c.in_default.ensures))
