use Rattle.std.proofs.Common.{rules}
use Rattle.std.specs.List.Sorted.{IsPartitionedBy}
use Rattle.std.proofs.lemmas.List.Sorted.{IsPartitionPoint-from_clause}
use Rattle.ice_deletes.specs.declared.delete.Delete.{Delete}
use Rattle.ice_deletes.specs.Keys.{key_in, sought}
use Rattle.ice_deletes.specs.Groups.{is_up_to, sort_key}
use Rattle.ice_deletes.specs.Shelves.{earlier}
use Rattle.ice_deletes.proofs.Lists.{sorted_parted, front_passes}
use Rattle.ice_deletes.proofs.Orders.{earlier_orders}
use Rattle.ice_deletes.proofs.Within.{up_to_before}
use Rattle.ice_deletes.proofs.shelf.Shelf.end.Goals as goal

pub returns-clause-front : goal.returns-clause-front
returns-clause-front c =
    let g = c.args.self.now.group in
    let k = sought c.args.key.now in
    let p = λ (d : Delete). is_up_to g k (key_in d) in
    let xs = c.args.self.now.deletes.items in
    let parted : IsPartitionedBy p xs = sorted_parted (earlier g) (earlier_orders g) p (λ x y before h. up_to_before g k
    (sort_key (key_in x)) (sort_key (key_in y)) before h) xs c.requires in
    front_passes p xs c.partition_point.result
    (IsPartitionPoint-from_clause p xs c.partition_point.result (rw c.as_slice.ensures.value at
    c.partition_point.ensures.partitioned) parted (λ a r f k. (search rules, search rules)))
