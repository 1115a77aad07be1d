use Rattle.std.proofs.lemmas.Result.{err_from_is_err_and, on_ok_weaker}
use Rattle.icescan_print.specs.TableTexts.{table_text}
use Rattle.icescan_requests.proofs.Shows.{refused, shown}
use Rattle.icescan_requests.proofs.show.run_show.Goals as goal

pub returns-in_err-metadata-clause-refused : goal.returns-in_err-metadata-clause-refused
returns-in_err-metadata-clause-refused g c =
    let p = err_from_is_err_and c.from_residual.result c.from_residual.ensures.1 in
    rw (p.1, p.2) (refused (λ _. ⊥) (g.W.Sink.may_fail c.args.output.now) c.args.metadata.now
    c.in_err-metadata.field-0.0 c.in_err-metadata.ensures.read)

pub returns-clause-written : goal.returns-clause-written
returns-clause-written g c =
    let table = c.in_ok-metadata.metadata.table in
    let is = shown c.args.metadata.now _ c.in_ok-metadata.ensures.read in
    on_ok_weaker c.write_table.result (λ all. (table_text table, is, all))
    (rw c.table.ensures at c.write_table.ensures.all)

pub returns-clause-front : goal.returns-clause-front
returns-clause-front g c =
    let table = c.in_ok-metadata.metadata.table in
    let is = shown c.args.metadata.now _ c.in_ok-metadata.ensures.read in
    λ failed. (table_text table, is, rw c.table.ensures at (c.write_table.ensures.front failed))
