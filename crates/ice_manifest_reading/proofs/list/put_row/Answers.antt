use Rattle.std.proofs.Common.{◌≡◌, [], ◌∷◌, ◌++◌}
use Rattle.ice_manifest_reading.proofs.Gathered.{in_order_same}
use Rattle.ice_manifest_reading.proofs.list.put_row.Goals as goal

pub returns : goal.returns
returns c =
    let pushed : c.push.new.self.items ≡ c.args.rows.now.items ++ c.args.row ∷ [] = c.in_ok-push.ensures.items in
    rw (c.in_ok-put_in_order.ensures, pushed) (in_order_same (c.args.rows.now.items ++ c.args.row ∷ []))
