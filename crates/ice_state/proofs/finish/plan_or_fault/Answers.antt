use Rattle.std.proofs.Common.{◌≡◌, ◌∙◌, refl, subst, sym, List}
use Rattle.std.specs.List.Sorted.{IsPermutation}
use Rattle.std.proofs.lemmas.Result.{err_from_is_err_and}
use Rattle.ice_manifest_reading.specs.declared.entry.Entry.{Entry}
use Rattle.ice_state.specs.declared.fault.FinishFault.{FinishFault}
use Rattle.ice_state.specs.Lines.{lines_of}
use Rattle.ice_state.specs.Outcomes.{by_path, kept_in}
use Rattle.ice_state.specs.Parts.{Stops}
use Rattle.ice_state.specs.Slots.{contents}
use Rattle.ice_state.proofs.DeletesKept.{if_moved}
use Rattle.ice_state.proofs.Outcomes.{stopped_missing, stopped_bad, stopped_twice, finished}
use Rattle.ice_state.proofs.PathsAlike.{sorted_once, twice_alike}
use Rattle.ice_state.proofs.PathsOnce.{by_path_moves, by_path_twice}
use Rattle.ice_state.proofs.finish.plan_or_fault.Given.{Over}
use Rattle.ice_state.proofs.finish.plan_or_fault.Goals as goal
use Rattle.ice_state.proofs.finish.plan_or_fault.Goals.{In_ok-files}

pub returns-in_err-check_taken-clause-outcome : goal.returns-in_err-check_taken-clause-outcome
returns-in_err-check_taken-clause-outcome g c =
    let p = err_from_is_err_and c.from_residual.result c.from_residual.ensures.1 in
    let kept = c.args.entries.now in
    rw (p.1, p.2) (stopped_missing c.args.rows.now (contents kept c.args.slots.now) c.in_err-check_taken.field-0.0
    (c.in_err-check_taken.ensures kept))

pub returns-in_err-check_good-clause-outcome : goal.returns-in_err-check_good-clause-outcome
returns-in_err-check_good-clause-outcome g c =
    let p = err_from_is_err_and c.from_residual-in_err-check_good.result
    c.from_residual-in_err-check_good.ensures.1 in
    let kept = c.args.entries.now in
    rw (p.1, p.2) (stopped_bad c.args.rows.now (contents kept c.args.slots.now) c.in_err-check_good.field-0.0
    (c.in_ok-check_taken.ensures kept) (c.in_err-check_good.ensures kept))

pub returns-in_err-files-clause-outcome : goal.returns-in_err-files-clause-outcome
returns-in_err-files-clause-outcome g c =
    let p = err_from_is_err_and c.from_residual-in_err-files.result c.from_residual-in_err-files.ensures.1 in
    let cs = contents c.args.entries.now c.args.slots.now in
    let found = c.in_err-files.ensures in
    rw (p.1, p.2) (stopped_twice c.args.rows.now cs c.in_err-files.field-0.0 (by_path (kept_in cs))
    (c.in_ok-check_taken.ensures c.args.entries.now) (c.in_ok-check_good.ensures c.args.entries.now) refl
    (subst (λ (fs : List FinishFault). Stops c.in_err-files.field-0.0 fs)
    (twice_alike (kept_in cs) found.0 found.1) found.2))

-- where no path is shared, the files' entries are the content's by path
sorted_alike : (g : Over) (c : In_ok-files g) → by_path c.in_ok-files.ensures.0
    ≡ by_path (kept_in (contents c.args.entries.now c.args.slots.now))
sorted_alike g c =
    let all = kept_in (contents c.args.entries.now c.args.slots.now) in
    let found = c.in_ok-files.ensures in
    sorted_once all found.0 found.1 (sym (twice_alike all found.0 found.1) ∙ found.2.1)

pub planned-requires : goal.planned-requires
planned-requires g c =
    let kept = c.args.entries.now in
    let all = kept_in (contents kept c.args.slots.now) in
    let found = c.in_ok-files.ensures in (
      by_path found.0,
      record { has = found.2.0; sorted = by_path_twice found.0; once = found.2.1 },
      if_moved kept all (by_path found.0) c.args.deletes.now
          (subst (λ (ys : List Entry). IsPermutation all ys)
          (sym (sorted_alike g (goal.at.planned-requires g c).In_ok-files)) (by_path_moves all))
          c.requires.kept.all_deletes,
    )

pub returns-clause-outcome : goal.returns-clause-outcome
returns-clause-outcome g c =
    let kept = c.args.entries.now in
    let found = c.in_ok-files.ensures in
    finished c.args.rows.now (contents kept c.args.slots.now) (by_path found.0) (lines_of kept c.in_ok-planned.field-0)
    (c.in_ok-check_taken.ensures kept) (c.in_ok-check_good.ensures kept)
    (sorted_alike g (goal.at.returns-clause-outcome g c).In_ok-files) found.2.1
    (c.in_ok-planned.ensures.lines (by_path found.0) found.2.0)
