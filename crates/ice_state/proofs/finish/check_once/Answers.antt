use Rattle.std.proofs.Common.{◌≡◌, ◌∙◌, ◌++◌, ◌∷◌, [], ap, arith, rules, subst, sym, List, MatchResult}
use Rattle.std.proofs.lemmas.Grind.{common_steps}
use Rattle.std.proofs.lemmas.List.{map-append}
use Rattle.ice_state.specs.declared.fault.FinishFault.{FinishFault}
use Rattle.ice_state.specs.declared.kept.segments.FileNumber.{FileNumber}
use Rattle.ice_state.specs.ByKind.{entries_by_kind}
use Rattle.ice_state.specs.Outcomes.{by_path, twice}
use Rattle.ice_state.specs.Parts.{Stops}
use Rattle.ice_state.specs.Segments.{AreKept, entry_at, entries_at, Segmented}
use Rattle.ice_state.proofs.PathsAlike.{twice_alike}
use Rattle.ice_state.proofs.finish.check_once.Goals as goal
use Rattle.ice_state.proofs.finish.check_once.Goals.{In_ok-extend_from_slice}

both_kept : (kept : Segmented) (ns ms : List FileNumber) → AreKept kept ns → AreKept kept ms → AreKept kept (ns ++ ms)
both_kept kept [] ms first rest = rest
both_kept kept (n ∷ ns) ms first rest = (first.0, both_kept kept ns ms first.1 rest)

-- all files
all : (c : In_ok-extend_from_slice) → c.extend_from_slice.new.self.items
    ≡ c.args.files.now.data_files.items ++ c.args.files.now.delete_files.items
all c = first_of (search rules, grind (arith, common_steps))

pub sorted_by_path-requires : goal.sorted_by_path-requires
sorted_by_path-requires c = subst (AreKept c.args.entries.now)
    (sym (c.deref-2.ensures.value ∙ all (goal.at.sorted_by_path-requires c).In_ok-extend_from_slice))
    (both_kept c.args.entries.now c.args.files.now.data_files.items c.args.files.now.delete_files.items c.requires.0
    c.requires.1)

pub check_neighbours-requires : goal.check_neighbours-requires
check_neighbours-requires c = subst (AreKept c.args.entries.now)
    (sym c.deref-3.ensures.value) c.in_ok-sorted.ensures.kept

pub returns : goal.returns
returns c = λ xs same.
    let kept = c.args.entries.now in
    let files = c.args.files.now.data_files.items in
    let deletes = c.args.files.now.delete_files.items in
    let is = all (goal.at.returns c).In_ok-extend_from_slice in
    let sorted : entries_at kept c.deref-3.result.now ≡ by_path (entries_at kept (files ++ deletes)) =
    ap (entries_at kept) c.deref-3.ensures.value ∙ c.in_ok-sorted.ensures.sorted
    ∙ ap (λ (ns : List FileNumber). by_path (entries_at kept ns)) (c.deref-2.ensures.value ∙ is) in
    let alike : twice (entries_at kept c.deref-3.result.now) ≡ twice (by_path xs) =
    ap twice (sorted ∙ ap by_path (map-append (entry_at kept) files deletes))
    ∙ twice_alike xs (entries_by_kind kept c.args.files.now) same in
    subst (λ (fs : List FinishFault). MatchResult c.check_neighbours.result (λ _. fs ≡ []) (λ f. Stops f fs)) alike
    c.check_neighbours.ensures
