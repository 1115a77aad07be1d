use Rattle.std.proofs.Common.{◌≡◌, ◌++◌, length, arith, ap}
use Rattle.std.proofs.lemmas.List.{length-append}
use Rattle.std.proofs.lemmas.List.Sorted.{length_permutation}
use Rattle.ice_deletes.proofs.shelf.Shelf.take_in.Goals as goal

pub put_numbers-requires : goal.put_numbers-requires
put_numbers-requires c =
    let old = c.args.self.now.deletes.items in
    let fresh = c.args.growth.fresh.items in
    let none : length c.args.growth.numbers.items ≡ 0 = ap length c.requires.room.no_numbers in
    let all = length_permutation (old ++ fresh) c.merge.new.merged.items c.merge.ensures.all in
    omega (
      arith,
      none,
      all,
      length-append old fresh,
      c.args.growth.numbers.ok.0,
      ap length c.deref.ensures.value,
      c.requires.room.numbers,
    )
