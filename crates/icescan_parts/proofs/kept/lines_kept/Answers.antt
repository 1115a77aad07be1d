use Rattle.std.proofs.Common.{}
use Rattle.icescan_parts.proofs.kept.lines_kept.Goals as goal

pub returns-clause-given : goal.returns-clause-given
returns-clause-given g c =
    let own = rw (c.as_bytes.ensures.value, c.json.ensures) at c.in_ok-lines.ensures.own in
    let lists = rw (c.deref.ensures.value, c.in_ok-snapshots.ensures, c.as_slice-all.ensures, c.table.ensures)
    at c.in_ok-put_lists.ensures.behind in
    let listed = rw (c.deref-2.ensures.value, c.in_ok-snapshots.ensures, c.as_slice-all.ensures, c.table.ensures)
    at c.in_ok-rows.ensures.given in
    let read = rw c.deref-3.ensures.value at c.in_ok-put_manifests.ensures.given in
    record {
      own = c.in_ok-lines.lines.items;
      lists = c.put_lists.new.lines.items;
      rows = c.in_ok-rows.rows.items;
      all = c.put_manifests.new.lines.items;
      of_metadata = own;
      of_snapshots = lists;
      listed = listed;
      read = read;
      are = c.in_ok-put_in_order.ensures;
    }
