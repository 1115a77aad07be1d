use Rattle.std.proofs.Common.{◌≡◌}
use Rattle.avro_file.proofs.Views.{tree-Record}
use Rattle.avro_file_picked.proofs.row.+count.Goals as goal

pub row_len-returns-in-Record : goal.row_len-returns-in-Record
row_len-returns-in-Record t c =
    let here : c.deref.result.now ≡ c.in-Record.fields.value = c.deref.ensures in
    rw (c.in-Record.is, tree-Record c.in-Record.fields, ← here, ← c.deref-in-Record.ensures.value) c.fields_len.ensures
