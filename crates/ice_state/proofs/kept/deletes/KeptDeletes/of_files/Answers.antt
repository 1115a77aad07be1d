use Rattle.std.proofs.Common.{◌≡◌, [], ap, subst, sym}
use Rattle.ice_state.specs.Segments.{AreKept, entries_at}
use Rattle.ice_state.proofs.DeletesKept.{deletes_of_files}
use Rattle.ice_state.proofs.kept.deletes.KeptDeletes.of_files.Goals as goal

pub build-requires : goal.build-requires
build-requires c = subst (AreKept c.args.entries.now) (sym c.new.ensures.items) tt

pub returns : goal.returns
returns c = λ xs same.
    let kept = c.args.entries.now in
    let none : entries_at kept c.new.result.items ≡ [] = ap (entries_at kept) c.new.ensures.items in
    deletes_of_files kept xs (record { indexed = c.in_ok-build.field-0; waiting = c.args.files })
    (c.in_ok-build.ensures.index [] none) c.requires same
