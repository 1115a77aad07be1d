use Rattle.std.proofs.Common.{refl}
use Rattle.std.proofs.lemmas.Result.{err_from_is_err_and}
use Rattle.icescan_files.specs.Bundles.{with_lines}
use Rattle.icescan_files.proofs.Lines.{ended}
use Rattle.icescan_files.proofs.bundle_text.Front.end_line.Goals as goal

pub returns-in_err-add_line-clause-err : goal.returns-in_err-add_line-clause-err
unfolding with_lines
returns-in_err-add_line-clause-err c =
    let p = err_from_is_err_and c.from_residual.result c.from_residual.ensures.1 in
    rw (p.1, p.2) (λ m rest.
    let bad = rw c.as_slice.ensures.value at (c.in_err-add_line.ensures.err m) in
    rw (ended c.args.self.now.begun.items rest c.requires.unbroken, bad) refl)

pub returns-clause-ok : goal.returns-clause-ok
unfolding with_lines
returns-clause-ok c = λ rest.
    let line = rw c.as_slice.ensures.value at c.in_ok-add_line.ensures.ok in
    rw (ended c.args.self.now.begun.items rest c.requires.unbroken, line) refl
