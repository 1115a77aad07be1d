use Rattle.std.proofs.Common.{◌≡◌, ◌-◌, ◌∙◌, List, ℕ, ap, arith, is_lt, subst, sym, true}
use Rattle.std.specs.Cmp.Lexicographic.{slice_cmp}
use Rattle.std.specs.Ordering.{nat_cmp}
use Rattle.ice_manifest_reading.specs.declared.entry.Entry.{Entry}
use Rattle.ice_state.specs.Apart.{path_at}
use Rattle.ice_state.specs.Segments.{entries_at}
use Rattle.ice_state.proofs.Stretches.{file_entry}
use Rattle.ice_state.proofs.finish.apart.is_behind.Goals as goal

pub returns : goal.returns
returns c = λ t k e.
    let kept = c.args.entries.now in
    let files = c.args.files.now in
    let xs = entries_at kept files in
    let path = c.args.path.now in
    let last = c.args.place - 1 in
    let at : last ≡ k = omega (arith, e) in
    let here : c.path.result.now ≡ path_at xs last = c.path.ensures
    ∙ ap (λ (x : Entry). x.file.path) (file_entry kept files last _ (omega (arith, e, c.requires.place))) in
    let lt : is_lt (slice_cmp nat_cmp c.path.result.now path) ≡ true = ap is_lt (sym c.cmp.ensures)
    ∙ sym c.is_lt.ensures ∙ t in
    subst (λ (n : ℕ). is_lt (slice_cmp nat_cmp (path_at xs n) path) ≡ true) at
    (subst (λ (p : List ℕ). is_lt (slice_cmp nat_cmp p path) ≡ true) here lt)
