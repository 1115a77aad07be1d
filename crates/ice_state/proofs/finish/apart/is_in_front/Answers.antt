use Rattle.std.proofs.Common.{◌≡◌, ◌∙◌, List, ℕ, ap, arith, is_lt, subst, sym, true}
use Rattle.std.specs.Cmp.Lexicographic.{slice_cmp}
use Rattle.std.specs.Ordering.{nat_cmp}
use Rattle.std.proofs.lemmas.List.{length-map}
use Rattle.ice_manifest_reading.specs.declared.entry.Entry.{Entry}
use Rattle.ice_state.specs.Apart.{path_at}
use Rattle.ice_state.specs.Segments.{entry_at, entries_at}
use Rattle.ice_state.proofs.Stretches.{file_entry}
use Rattle.ice_state.proofs.finish.apart.is_in_front.Goals as goal

pub returns : goal.returns
returns c = λ t l.
    let kept = c.args.entries.now in
    let files = c.args.files.now in
    let xs = entries_at kept files in
    let path = c.args.path.now in
    let place = c.args.place in
    let here : c.path.result.now ≡ path_at xs place = c.path.ensures
    ∙ ap (λ (x : Entry). x.file.path)
    (file_entry kept files place _ (omega (arith, l, length-map files (entry_at kept)))) in
    let lt : is_lt (slice_cmp nat_cmp path c.path.result.now) ≡ true = ap is_lt (sym c.cmp.ensures)
    ∙ sym c.is_lt.ensures ∙ t in
    subst (λ (p : List ℕ). is_lt (slice_cmp nat_cmp path p) ≡ true) here lt
