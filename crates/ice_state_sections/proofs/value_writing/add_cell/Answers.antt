use Rattle.std.proofs.Common.{refl, w64, rules}
use Rattle.ice_value.specs.declared.cell.Cell.TheVariants.{Null, Bool as Flag, Whole, Text, Bytes}
use Rattle.ice_state_sections.specs.Parts.{long, text, run}
use Rattle.ice_state_sections.proofs.Added.{again}
use Rattle.ice_state_sections.proofs.ValuesAdded.{cell_alone, cell_with}
use Rattle.ice_state_sections.proofs.value_writing.add_cell.Goals as goal

pub returns-in_ok-add_number-in-Null : goal.returns-in_ok-add_number-in-Null
returns-in_ok-add_number-in-Null c = rw c.in-Null.is
    (cell_alone 0 Null _ _ (λ s. refl) c.in_ok-add_number-in-Null.ensures)

pub returns-in_ok-add_number-in-Bool : goal.returns-in_ok-add_number-in-Bool
returns-in_ok-add_number-in-Bool c = rw c.in-Bool.is (cell_alone c.flag_code-code.result (Flag c.in-Bool.truth) _ _
    c.flag_code-code.ensures c.in_ok-add_number-in-Bool.ensures)

pub returns-in_ok-add_long-in-Whole : goal.returns-in_ok-add_long-in-Whole
returns-in_ok-add_long-in-Whole c = rw c.in-Whole.is (cell_with 3 long c.in-Whole.number (Whole c.in-Whole.number) _ _ _
    (λ s rest h. rw h refl) c.in_ok-bytes-in-Whole.ensures (again w64 long c.in-Whole.number _ _
    (search rules) c.in_ok-add_long-in-Whole.ensures))

pub returns-in_ok-add_text-in-Text : goal.returns-in_ok-add_text-in-Text
returns-in_ok-add_text-in-Text c = rw c.in-Text.is (cell_with 4 text c.in-Text.text (Text c.in-Text.text) _ _ _
    (λ s rest h. rw h refl) c.in_ok-bytes-in-Text.ensures c.in_ok-add_text-in-Text.ensures)

pub returns-in_ok-add_run-in-Bytes : goal.returns-in_ok-add_run-in-Bytes
returns-in_ok-add_run-in-Bytes c = rw c.in-Bytes.is (cell_with 5 run c.in-Bytes.run' (Bytes c.in-Bytes.run') _ _ _
    (λ s rest h. rw h refl) c.in_ok-bytes-in-Bytes.ensures (rw c.as_slice.ensures at c.in_ok-add_run-in-Bytes.ensures))
