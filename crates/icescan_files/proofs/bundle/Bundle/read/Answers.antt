use Rattle.std.proofs.Common.{[]}
use Rattle.std.proofs.lemmas.List.{append-nil}
use Rattle.std.proofs.lemmas.Result.{err_from_is_err_and}
use Rattle.icescan_files.proofs.bundle.Bundle.read.Goals as goal

pub returns-in_err-take : goal.returns-in_err-take
returns-in_err-take c =
    let p = err_from_is_err_and c.from_residual.result c.from_residual.ensures.1 in
    rw (p.1, p.2) (λ m. rw (
      c.empty-front.ensures.lines,
      c.empty-front.ensures.bundle,
      c.empty-front.ensures.begun,
      append-nil c.args.text.now,
    ) at (c.in_err-take.ensures.err m []))

pub returns : goal.returns
returns c =
    let front = c.take.new.self in
    let read = rw (
      append-nil front.begun.items,
      c.empty-front.ensures.lines,
      c.empty-front.ensures.bundle,
      c.empty-front.ensures.begun,
      append-nil c.args.text.now,
    ) at (c.in_ok-take.ensures.ok []) in
    rw read at c.finish.ensures
