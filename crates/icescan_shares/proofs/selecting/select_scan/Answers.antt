use Rattle.std.proofs.Common.{◌≡◌, rules}
use Rattle.icescan_shares.proofs.selecting.select_scan.Goals as goal

pub returns-clause-given : goal.returns-clause-given
returns-clause-given g c =
    let selection = c.in_ok-list.field-0 in
    let list : c.as_str.result.now ≡ selection.list = search rules in
    record {
      selection = selection;
      asked = c.in_ok-list.ensures.gives;
      list = c.in_ok-bytes.bytes.items;
      read = rw list at c.in_ok-bytes.ensures.given;
      scan_is = rw c.deref-2.ensures.value at c.in_ok-scan.ensures.scan;
      name_is = rw c.deref.ensures.value at c.scan_name-name.ensures;
    }
