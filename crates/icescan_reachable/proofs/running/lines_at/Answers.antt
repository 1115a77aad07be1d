use Rattle.std.proofs.Common.{inl, inr}
use Rattle.std.proofs.lemmas.Result.{IfErr-weaker, IfOk-weaker, err_from_is_err_and}
use Rattle.ice_meta.specs.Targets.{described}
use Rattle.icescan_reachable.proofs.Causes.{meta_fault}
use Rattle.icescan_reachable.proofs.running.lines_at.Goals as goal

pub returns-in_err-bytes-clause-causes : goal.returns-in_err-bytes-clause-causes
returns-in_err-bytes-clause-causes g c =
    let p = err_from_is_err_and c.from_residual.result c.from_residual.ensures.1 in
    rw (p.1, p.2) (inl c.in_err-bytes.ensures.unread)

pub returns-in_err-metadata-clause-causes : goal.returns-in_err-metadata-clause-causes
returns-in_err-metadata-clause-causes g c =
    let p = err_from_is_err_and c.from_residual-in_err-metadata.result c.from_residual-in_err-metadata.ensures.1 in
    let says = rw c.deref.ensures.value at c.in_err-metadata.ensures.read in
    rw (p.1, p.2) (meta_fault (g.F.Files.gives c.args.files.now) (g.F.Files.may_fail c.args.files.now) c.args.path.now
    c.in_ok-bytes.bytes.items c.in_err-metadata.field-0.0 c.in_ok-bytes.ensures.given says)

pub returns-clause-given : goal.returns-clause-given
returns-clause-given g c =
    let says = rw c.deref.ensures.value at c.in_ok-metadata.ensures.read in
    IfOk-weaker c.lines_of.result _ _ (λ lines are. record {
      bytes = c.in_ok-bytes.bytes.items;
      metadata = described c.in_ok-metadata.metadata.json c.in_ok-metadata.metadata.table;
      given = c.in_ok-bytes.ensures.given;
      says = says;
      are = are;
    }) c.lines_of.ensures.given

pub returns-clause-causes : goal.returns-clause-causes
returns-clause-causes g c =
    let says = rw c.deref.ensures.value at c.in_ok-metadata.ensures.read in
    IfErr-weaker c.lines_of.result _ _ (λ fault why. inr (
      c.in_ok-bytes.bytes.items,
      c.in_ok-bytes.ensures.given,
      inr (described c.in_ok-metadata.metadata.json c.in_ok-metadata.metadata.table, says, why),
    ))
    c.lines_of.ensures.causes
