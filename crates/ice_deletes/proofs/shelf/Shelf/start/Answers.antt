use Rattle.std.proofs.Common.{rules}
use Rattle.std.specs.List.{slice_range}
use Rattle.std.specs.List.Sorted.{IsPartitionedBy}
use Rattle.std.proofs.lemmas.List.Sorted.{IsPartitionPoint-from_clause}
use Rattle.ice_deletes.specs.declared.delete.Delete.{Delete}
use Rattle.ice_deletes.specs.Keys.{key_in, sought}
use Rattle.ice_deletes.specs.Groups.{is_older, sort_key}
use Rattle.ice_deletes.specs.Shelves.{earlier}
use Rattle.ice_deletes.proofs.Lists.{sorted_parted, parted_range, later_back}
use Rattle.ice_deletes.proofs.Orders.{earlier_orders}
use Rattle.ice_deletes.proofs.Within.{older_before}
use Rattle.ice_deletes.proofs.shelf.Shelf.start.Goals as goal

pub returns-clause-back : goal.returns-clause-back
returns-clause-back c =
    let g = c.args.self.now.group in
    let k = sought c.args.key.now in
    let p = λ (d : Delete). is_older g k (key_in d) in
    let xs = c.args.self.now.deletes.items in
    let parted : IsPartitionedBy p xs = sorted_parted (earlier g) (earlier_orders g) p (λ x y before h. older_before g k
    (sort_key (key_in x)) (sort_key (key_in y)) before h) xs c.requires.sorted in
    later_back p c.near_start-first.result c.args.end c.partition_point.result xs c.near_start-first.ensures.within
    c.requires.within (rw c.deref.ensures.value at c.partition_point.ensures.bound) parted
    c.near_start-first.ensures.older
    (IsPartitionPoint-from_clause p (slice_range xs c.near_start-first.result c.args.end) c.partition_point.result
    (rw c.deref.ensures.value at c.partition_point.ensures.partitioned)
    (parted_range p c.near_start-first.result c.args.end xs c.near_start-first.ensures.within c.requires.within parted)
    (λ a r f k. (search rules, search rules)))
