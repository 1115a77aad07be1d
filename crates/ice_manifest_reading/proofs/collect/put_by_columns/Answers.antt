use Rattle.std.proofs.Common.{◌≡◌, Ok, sym, ap}
use Rattle.ice_manifest_reading.specs.Behind.{maps_at}
use Rattle.ice_manifest_reading.proofs.collect.put_by_columns.Goals as goal

pub columns_of-requires : goal.columns_of-requires
columns_of-requires g c = c.in_ok-maps.ensures (maps_at c.args.file.now) c.maps_of.ensures

pub returns-clause-told : goal.returns-clause-told
returns-clause-told g c = λ columns said.
    let read = rw said at c.in_ok-bounds.ensures in
    let same : columns ≡ c.in_ok-bounds.bounds = cc in
    rw same (ap Ok (sym c.in_ok-put_read.ensures.told))

pub returns-clause-gathered : goal.returns-clause-gathered
returns-clause-gathered g c = λ columns said.
    let read = rw said at c.in_ok-bounds.ensures in
    let same : columns ≡ c.in_ok-bounds.bounds = cc in
    rw same (ap Ok (sym c.in_ok-put_read.ensures.gathered))
