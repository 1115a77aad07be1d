use Rattle.std.proofs.Common.{Some}
use Rattle.std.proofs.lemmas.Result.{err_from_is_err_and}
use Rattle.serde_json.specs.View.{view}
use Rattle.icescan_reachable.proofs.Causes.{for_own, own_is}
use Rattle.icescan_reachable.proofs.named.own_lines.Goals as goal

pub returns-in_err-put_statistics-2-clause-causes : goal.returns-in_err-put_statistics-2-clause-causes
returns-in_err-put_statistics-2-clause-causes c =
    let p = err_from_is_err_and c.from_residual-in_err-put_statistics-2.result
    c.from_residual-in_err-put_statistics-2.ensures.1 in
    rw (p.1, p.2) (for_own c.args.path.now (view c.args.metadata.now) c.in_ok-lines.lines.items
    c.put_statistics.new.lines.items c.in_err-put_statistics-2.field-0.0 c.in_ok-lines.ensures.own
    c.in_ok-put_statistics.ensures.behind c.in_err-put_statistics-2.ensures.causes)

pub returns-clause-own : goal.returns-clause-own
returns-clause-own c =
    own_is c.args.path.now (view c.args.metadata.now) c.in_ok-lines.lines.items c.put_statistics.new.lines.items
    (Some c.put_statistics-2.new.lines.items) c.in_ok-lines.ensures.own c.in_ok-put_statistics.ensures.behind
    c.in_ok-put_statistics-2.ensures.behind
