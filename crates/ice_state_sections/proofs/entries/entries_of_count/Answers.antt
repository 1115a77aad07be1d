use Rattle.std.proofs.Common.{◌∙◌, ap, sym, []}
use Rattle.ice_state_sections.specs.Parts.{behind}
use Rattle.ice_state_sections.specs.Entries.{entry, entry_behind, Known, known}
use Rattle.ice_state_sections.proofs.Loops.{goes_on, ends, is_done}
use Rattle.ice_state_sections.proofs.entries.entries_of_count.Goals as goal

pub returns-in-Err : goal.returns-in-Err
returns-in-Err c =
    let row = c.args.row.now in
    let spec = c.args.spec.now in
    let there = ap (λ (k : Known). entry_behind row spec k c.entries.rest.now)
    (c.behind-before.ensures ∙ ap (known row) c.as_slice.ensures.value) in
    (λ not_memory. ends (entry row spec) c.entries.entries.items c.args.count c.entries.counter
    c.entries.rest.now c.in-Err.fault (behind (entry row spec) c.args.count [] c.args.bytes.now)
    c.entries-test.true (sym there ∙ c.in-Err.ensures not_memory) c.entries.invariant)

pub entries-preserved : goal.entries-preserved
entries-preserved c =
    let row = c.args.row.now in
    let spec = c.args.spec.now in
    let there = ap (λ (k : Known). entry_behind row spec k c.entries.rest.now)
    (c.behind-before.ensures ∙ ap (known row) c.as_slice.ensures.value) in
    rw (c.in_ok-push-in-Ok.ensures.items) (goes_on
    (entry row spec) c.entries.entries.items c.args.count c.entries.counter
    c.entries.rest.now c.in-Ok.entry c.in-Ok.after.now
    (behind (entry row spec) c.args.count [] c.args.bytes.now) c.entries-test.true
    (sym there ∙ c.in-Ok.ensures) c.entries.invariant)

pub returns : goal.returns
returns c = is_done (entry c.args.row.now c.args.spec.now) c.entries.entries.items c.args.count c.entries.counter
    c.entries.rest.now (behind (entry c.args.row.now c.args.spec.now) c.args.count [] c.args.bytes.now)
    c.entries-test.false c.entries.invariant
