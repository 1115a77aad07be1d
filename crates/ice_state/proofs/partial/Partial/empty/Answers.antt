use Rattle.std.proofs.Common.{◌≡◌, ◌∙◌, [], ap, arith, filter, length, replicate, subst, sym, IfSome, List, None}
use Rattle.std.proofs.Common.{Option}
use Rattle.std.specs.List.Sorted.{IsPermutation}
use Rattle.std.proofs.lemmas.List.Sorted.{IsPermutation-refl}
use Rattle.ice_manifest_reading.specs.declared.entry.Entry.{Entry}
use Rattle.ice_state.specs.declared.kept.deletes.KeptDeletes.{KeptDeletes}
use Rattle.ice_state.specs.declared.kept.taken.Taken.{Taken}
use Rattle.ice_state.specs.KeptDeletes.{AreDeletesOf}
use Rattle.ice_state.specs.Outcomes.{kept_in}
use Rattle.ice_state.specs.Parts.{holds_deletes}
use Rattle.ice_state.specs.Segments.{AreKept, entries_at}
use Rattle.ice_state.specs.Slots.{contents, HaveNumbers}
use Rattle.ice_state.proofs.Contents.{none-content}
use Rattle.ice_state.proofs.DeletesKept.{none_kept, some_if_ok}
use Rattle.ice_state.proofs.SlotContents.{none-contents, none-numbers}
use Rattle.ice_state.proofs.partial.Partial.empty.Goals as goal

pub of_files-requires : goal.of_files-requires
of_files-requires c = subst (AreKept c.new-entries.result) (sym c.new.ensures.items) tt

pub invariant_of-result : goal.invariant_of-result
invariant_of-result c =
    let entries = c.new-entries.result in
    let xs = kept_in (contents entries c.loop.slots.items) in
    let nothing : xs ≡ [] =
    ap (λ (ss : List (Option Taken)). kept_in (contents entries ss)) c.loop.invariant
    ∙ ap kept_in (none-contents entries c.loop.counter) ∙ none_kept c.loop.counter in
    let none : entries_at entries c.new.result.items ≡ filter holds_deletes xs =
    ap (entries_at entries) c.new.ensures.items ∙ ap (filter holds_deletes) (sym nothing) in
    let files = subst (λ (es : List Entry). IsPermutation es (entries_at entries c.new.result.items)) none
    (IsPermutation-refl (entries_at entries c.new.result.items)) in
    record {
      numbers = subst (HaveNumbers entries) (sym c.loop.invariant) (none-numbers entries c.loop.counter);
      all_deletes =
          subst (λ (d : Option KeptDeletes). IfSome d (AreDeletesOf entries xs)) (sym c.ok-deletes.ensures.value)
          (some_if_ok c.of_files.result (AreDeletesOf entries xs) (c.of_files.ensures xs files));
    }

pub returns-clause-none : goal.returns-clause-none
returns-clause-none c =
    let all : c.loop.counter ≡ length c.args.scan.now.wanted = omega (arith, ap length c.wanted-end.ensures) in
    ap (contents _) c.loop.invariant ∙ none-contents _ c.loop.counter ∙ ap (λ n. replicate n None) all

pub returns-clause-world : goal.returns-clause-world
returns-clause-world c = λ world. returns-clause-none c ∙ none-content world c.args.scan.now c.args.scan.now.wanted
