use Rattle.std.proofs.Common.{◌≡◌, ℕ, zero, suc, ◌<◌, List, [], ◌∷◌, length, get_or, sym, ◌∙◌, refl, arith}
use Rattle.ice_manifest_fields.specs.Fields.{at}
use Rattle.ice_manifest_layouts.specs.Seen.{tuple_seen}
use Rattle.ice_manifest_reading.proofs.Cells.{cell_next, cells_end}
use Rattle.ice_manifest_reading.proofs.tuple.cells_of.Goals as goal

-- the item of an index
some_item : {A : Type 0} (xs : List A) (i : ℕ) → i < length xs → (x : A) × (x ≡ get_or xs i x)
some_item {A} [] i lt = absurd (omega arith)
some_item {A} (x ∷ xs) zero lt = (x, refl)
some_item {A} (x ∷ xs) (suc i) lt = some_item xs i (omega arith)

pub partition-init : goal.partition-init
partition-init c = rw (c.in_ok-cells.ensures) refl

pub partition-preserved : goal.partition-preserved
partition-preserved c =
    let ps = c.args.file.now.entry.now.partition.now in
    let wanted = some_item ps c.partition.index c.partition-test.true in
    let here = c.found_cell-found.ensures wanted.0 wanted.1 in
    let cell = c.in_ok-cell_found.ensures (at wanted.0.field_id (tuple_seen c.args.file.now)) here in
    rw (c.in_ok-push.ensures.ok) (sym (cell_next c.partition.cells ps (tuple_seen c.args.file.now) c.partition.index
    wanted.0 _ c.partition-test.true wanted.1 cell) ∙ c.partition.invariant)

pub returns : goal.returns
returns c = sym (cells_end c.partition.cells c.args.file.now.entry.now.partition.now (tuple_seen c.args.file.now)
    c.partition.index c.partition-test.false) ∙ c.partition.invariant
