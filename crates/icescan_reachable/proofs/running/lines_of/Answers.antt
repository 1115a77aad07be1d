use Rattle.std.proofs.Common.{inl, inr}
use Rattle.std.proofs.lemmas.Result.{err_from_is_err_and}
use Rattle.ice_meta.specs.Targets.{described}
use Rattle.icescan_reachable.proofs.Causes.{of_lists, of_manifests}
use Rattle.icescan_reachable.proofs.running.lines_of.Goals as goal

pub returns-in_err-lines-clause-causes : goal.returns-in_err-lines-clause-causes
returns-in_err-lines-clause-causes g c =
    let p = err_from_is_err_and c.from_residual.result c.from_residual.ensures.1 in
    let own = rw (c.as_bytes.ensures.value, c.json.ensures) at c.in_err-lines.ensures.causes in
    rw (p.1, p.2) (inl own)

pub returns-in_err-put_lists-clause-causes : goal.returns-in_err-put_lists-clause-causes
returns-in_err-put_lists-clause-causes g c =
    let p = err_from_is_err_and c.from_residual-in_err-put_lists.result c.from_residual-in_err-put_lists.ensures.1 in
    let lists = rw (c.as_slice-snapshots.ensures, c.table.ensures) at c.in_err-put_lists.ensures.causes in
    rw (p.1, p.2) (inr (inl lists))

pub returns-in_err-rows-clause-causes : goal.returns-in_err-rows-clause-causes
returns-in_err-rows-clause-causes g c =
    let p = err_from_is_err_and c.from_residual-in_err-rows.result c.from_residual-in_err-rows.ensures.1 in
    let why = rw (c.as_slice-snapshots.ensures, c.table.ensures) at c.in_err-rows.ensures.causes in
    let metadata = described c.args.metadata.now.json c.args.metadata.now.table in
    rw (p.1, p.2) (of_lists (g.F.Files.gives c.args.files.now) (g.F.Files.may_fail c.args.files.now) c.args.path.now
    metadata c.in_err-rows.field-0.0 why)

pub returns-in_err-put_manifests-clause-causes : goal.returns-in_err-put_manifests-clause-causes
returns-in_err-put_manifests-clause-causes g c =
    let p = err_from_is_err_and c.from_residual-in_err-put_manifests.result
    c.from_residual-in_err-put_manifests.ensures.1 in
    let listed = rw (c.as_slice-snapshots.ensures, c.table.ensures) at c.in_ok-rows.ensures.given in
    let why = rw c.deref.ensures.value at c.in_err-put_manifests.ensures.causes in
    let metadata = described c.args.metadata.now.json c.args.metadata.now.table in
    rw (p.1, p.2) (of_manifests (g.F.Files.gives c.args.files.now) (g.F.Files.may_fail c.args.files.now)
    c.args.path.now metadata c.in_ok-rows.rows.items c.in_err-put_manifests.field-0.0 listed why)

pub returns-clause-given : goal.returns-clause-given
returns-clause-given g c =
    let own = rw (c.as_bytes.ensures.value, c.json.ensures) at c.in_ok-lines.ensures.own in
    let lists = rw (c.as_slice-snapshots.ensures, c.table.ensures) at c.in_ok-put_lists.ensures.behind in
    let listed = rw (c.as_slice-snapshots.ensures, c.table.ensures) at c.in_ok-rows.ensures.given in
    let read = rw c.deref.ensures.value at c.in_ok-put_manifests.ensures.given in
    record {
      own = c.in_ok-lines.lines.items;
      lists = c.put_lists.new.lines.items;
      rows = c.in_ok-rows.rows.items;
      all = c.put_manifests.new.lines.items;
      of_metadata = own;
      of_snapshots = lists;
      listed = listed;
      read = read;
      are = c.in_ok-put_in_order.ensures;
    }
