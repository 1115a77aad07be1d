use Rattle.std.proofs.Common.{rules, ◌∙◌, option_map}
use Rattle.ice_state.specs.Slots.{contents, given}
use Rattle.ice_state.proofs.Contents.{with_row-kept, with_row-new}
use Rattle.ice_state.proofs.SlotContents.{at-contents, is-some-given, set-contents, set-numbers}
use Rattle.ice_state.proofs.kept.slots.put_row.Goals as goal

pub returns-then-is_none-clause-row : goal.returns-then-is_none-clause-row
returns-then-is_none-clause-row c = λ kept.
    let slots = c.args.slots.now.items in
    set-contents kept slots c.args.i c.args.taken
    ∙ with_row-new (contents kept slots) c.args.i (given kept c.args.taken)
    (option_map (given kept) c.index.result.now) (at-contents kept slots c.args.i c.index.result.now c.index.ensures)
    (is-some-given kept c.index.result.now ∙ search rules)

pub returns-then-is_none-clause-numbers : goal.returns-then-is_none-clause-numbers
returns-then-is_none-clause-numbers c = λ
    kept all one. set-numbers kept c.args.slots.now.items c.args.i c.args.taken all
    one

pub returns-else-is_none-clause-row : goal.returns-else-is_none-clause-row
returns-else-is_none-clause-row c = λ kept.
    let slots = c.args.slots.now.items in
    with_row-kept (contents kept slots) c.args.i (given kept c.args.taken)
    (option_map (given kept) c.index.result.now) (at-contents kept slots c.args.i c.index.result.now c.index.ensures)
    (is-some-given kept c.index.result.now ∙ search rules)
