use Rattle.std.proofs.Common.{◌≡◌, ◌<◌, ◌∙◌, ◌+◌, ◌-◌, ◌++◌, [], List, Option, ℕ, ap, append-nil, arith, get_or, is_lt}
use Rattle.std.proofs.Common.{length, option_map, refl, subst, sym, take, true}
use Rattle.std.specs.Cmp.Lexicographic.{slice_cmp}
use Rattle.std.specs.Ordering.{nat_cmp}
use Rattle.std.proofs.lemmas.List.{take_all}
use Rattle.ice_manifest_reading.specs.declared.entry.Entry.{Entry}
use Rattle.ice_state.specs.declared.kept.row_runs.Run.{Run}
use Rattle.ice_state.specs.Apart.{path_at}
use Rattle.ice_state.specs.Orders.{runs_at}
use Rattle.ice_state.specs.Outcomes.{by_path, entries_in}
use Rattle.ice_state.specs.Rising.{HasEnds, IsRunOf, Rise}
use Rattle.ice_state.specs.Slots.{contents, given}
use Rattle.ice_state.proofs.Positions.{place_within}
use Rattle.ice_state.proofs.Rising.{end_of_both, once_if_rising, rise_behind, sorted_if_rising}
use Rattle.ice_state.proofs.RowsMoved.{at_row, row_more, slot_numbers}
use Rattle.ice_state.proofs.SlotContents.{at-contents, length-contents}
use Rattle.ice_state.proofs.kept.row_runs.rows_rise.Goals.{in-Some+else-not-run+else-not-is_lt, in_default}
use Rattle.ice_state.proofs.kept.row_runs.rows_rise.Goals as goal

pub bounds-slots-row : goal.bounds-slots-row
bounds-slots-row c =
    place_within (length c.args.slots.now) c.args.rows.now c.rows.row-index c.requires.rows c.rows-test.true

pub run_of-requires : goal.run_of-requires
run_of-requires c =
    let slots = c.args.slots.now in
    let rows = c.args.rows.now in
    let below = place_within (length slots) rows c.rows.row-index c.requires.rows c.rows-test.true in
    slot_numbers c.args.entries.now slots (get_or rows c.rows.row-index 0) c.index-slots-row.result
    c.index-slots-row.is below c.requires.numbers

pub rows-preserved : goal.rows-preserved
rows-preserved c =
    let kept = c.args.entries.now in
    let slots = c.args.slots.now in
    let rows = c.args.rows.now in
    let i = c.rows.row-index in
    let cs = contents kept slots in
    let slot = c.index-slots-row.result in
    let run = by_path (entries_in (option_map (given kept) slot)) in
    let old = runs_at cs (take i rows) in
    let row = get_or rows i 0 in
    let below : row < length slots = place_within (length slots) rows i c.requires.rows c.rows-test.true in
    let here = ap (λ s. by_path (entries_in s)) (at_row cs row (option_map (given kept) slot)
    (omega (arith, below, length-contents kept slots)) (at-contents kept slots row slot c.index-slots-row.is)) in
    let step : old ++ run ≡ runs_at cs (take (i + 1) rows) =
    row_more cs rows i 0 old (old ++ run) run c.rows-test.true refl here refl in
    elim c.match-run_of.branch [
      | in-Some+else-not-run+else-not-is_lt w ↦
          let ends : HasEnds run w.in-Some.run' =
          subst (λ (r : Option Run). IsRunOf run r) w.in-Some.is c.run_of.ensures in
          let between : 0 < length old
          → is_lt (slice_cmp nat_cmp (path_at old (length old - 1)) (path_at run 0)) ≡ true =
          λ some. subst (λ (p : List ℕ). is_lt (slice_cmp nat_cmp p (path_at run 0)) ≡ true)
          (c.rows.invariant.before some)
          (subst (λ (p : List ℕ). is_lt (slice_cmp nat_cmp c.rows.before.now p) ≡ true) ends.first
          (sym (w.if-not-is_lt.ensures ∙ ap is_lt w.cmp.ensures))) in
          record {
            rise = subst Rise step (rise_behind old run c.rows.invariant.rise (ends.rise w.if-not-run.false) between);
            before = λ some. rw w.before-is (ends.last ∙ sym (end_of_both old run ends.some)
                ∙ ap (λ (xs : List Entry). path_at xs (length xs - 1)) step);
          }
      | in_default w ↦
          let none : run ≡ [] = w.in_default.ensures in
          let same : old ≡ runs_at cs (take (i + 1) rows) = sym (append-nil old) ∙ ap (λ xs. old ++ xs) (sym none)
          ∙ step in
          record {
            rise = subst Rise same c.rows.invariant.rise;
            before = λ some. rw w.before-is (subst (λ (xs : List Entry). 0 < length xs
                → c.rows.before.now ≡ path_at xs (length xs - 1)) same c.rows.invariant.before some);
          }
    ]

pub returns : goal.returns
returns c =
    let cs = contents c.args.entries.now c.args.slots.now in
    let rows = c.args.rows.now in
    let all : Rise (runs_at cs rows) = subst (λ (ns : List ℕ). Rise (runs_at cs ns))
    (take_all c.rows.row-index rows (omega (arith, c.rows-test.false))) c.rows.invariant.rise in
    record { sorted = λ t. sorted_if_rising (runs_at cs rows) all; once = λ t. once_if_rising (runs_at cs rows) all }
