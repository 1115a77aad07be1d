use Rattle.std.proofs.Common.{List, subst}
use Rattle.std.specs.List.Sorted.{IsPermutation}
use Rattle.std.proofs.lemmas.List.Elements.{All-from_recursion, recursion_from_All}
use Rattle.std.proofs.lemmas.List.Sorted.{All-permutation, IsPermutation-map}
use Rattle.ice_manifest_reading.specs.declared.entry.Entry.{Entry}
use Rattle.ice_state.specs.Segments.{entries_at, entry_at, IsKept}
use Rattle.ice_state.proofs.kept.indexed.files_by_number.Goals as goal

pub returns-clause-kept : goal.returns-clause-kept
returns-clause-kept c =
    let kept = IsKept c.args.entries.now in
    let found = c.in_ok-files.files.items in
    let moved = c.by_number.result.items in
    recursion_from_All kept moved
    (All-permutation kept found moved c.by_number.ensures (All-from_recursion kept found c.in_ok-files.ensures.kept))

pub returns-clause-all : goal.returns-clause-all
returns-clause-all c = λ kept.
    let entries = c.args.entries.now in
    let moved = c.by_number.result.items in
    subst (λ (es : List Entry). IsPermutation es (entries_at entries moved)) (c.in_ok-files.ensures.all kept)
    (IsPermutation-map (entry_at entries) c.in_ok-files.files.items moved c.by_number.ensures)
