use Rattle.std.proofs.Common.{ap, ◌∙◌}
use Rattle.std.proofs.lemmas.Result.{err_from_is_err_and}
use Rattle.avro_file.specs.Header.{FileHeader}
use Rattle.avro_file.proofs.Unasked.{begun_never, as_fault}
use Rattle.avro_file.proofs.container.Container.read_header.Goals as goal

pub returns-in_err-header-clause-memory : goal.returns-in_err-header-clause-memory
returns-in_err-header-clause-memory c =
    let p = err_from_is_err_and c.from_residual.result c.from_residual.ensures.1 in
    rw (p.1, p.2) (λ m. absurd (begun_never c.args.bytes.now (c.in_err-header.ensures ∙ ap (as_fault {A = FileHeader})
    m)))
