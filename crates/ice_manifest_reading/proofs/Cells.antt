-- Going through the fields of a spec, as the loops do.
use Rattle.std.proofs.Common.{◌≡◌, ℕ, ◌+◌, ◌≤◌, ◌<◌, List, [], ◌∷◌, ◌++◌, length, get_or, drop, Ok, Err, refl, sym, ◌∙◌}
use Rattle.std.proofs.lemmas.List.{append_assoc, append-nil}
use Rattle.contract_words.specs.Outcome.{◌>>=◌}
use Rattle.avro_schema.specs.Tree.{Fields}
use Rattle.avro_file.specs.Picking.{Typed}
use Rattle.ice_value.specs.declared.cell.Cell.{Cell}
use Rattle.ice_meta.specs.declared.spec.PartitionField.{PartitionField}
use Rattle.ice_manifest_fields.specs.declared.fault.FieldFault.{FieldFault}
use Rattle.ice_manifest_fields.specs.Schemas.{type_at, each_is_cell}
use Rattle.ice_manifest_reading.specs.ManifestSchemas.{cells_fit}
use Rattle.ice_manifest_reading.specs.Partitions.{cell_at, cells_of}
use Rattle.ice_manifest_fields.proofs.Steps.{step_of, end_of}

-- ---- types

fit_here : (ps : List PartitionField) (fs : Fields) (i : ℕ) (p : PartitionField) → i < length ps → p ≡ get_or ps i p
    → cells_fit (drop i ps) fs ≡ (each_is_cell p.field_id (type_at p.field_id fs) >>= λ ok. cells_fit (drop (i + 1) ps)
    fs)
unfolding cells_fit
fit_here ps fs i p lt is = rw (step_of ps i p lt is) refl

pub fit_fails : (ps : List PartitionField) (fs : Fields) (i : ℕ) (p : PartitionField) (f : FieldFault) → i < length ps
    → p ≡ get_or ps i p → Err f ≡ each_is_cell p.field_id (type_at p.field_id fs) → cells_fit (drop i ps) fs ≡ Err f
fit_fails ps fs i p f lt is h = fit_here ps fs i p lt is ∙ rw (sym h) refl

pub fit_passes : (ps : List PartitionField) (fs : Fields) (i : ℕ) (p : PartitionField) (u : Unit {0}) → i < length ps
    → p ≡ get_or ps i p → Ok u ≡ each_is_cell p.field_id (type_at p.field_id fs)
    → cells_fit (drop i ps) fs ≡ cells_fit (drop (i + 1) ps) fs
fit_passes ps fs i p u lt is h = fit_here ps fs i p lt is ∙ rw (sym h) refl

pub fits_end : (ps : List PartitionField) (fs : Fields) (i : ℕ) → length ps ≤ i → cells_fit (drop i ps) fs ≡ Ok tt
unfolding cells_fit
fits_end ps fs i le = rw (end_of ps i le) refl

-- ---- cells

pub cell_next : (front : List Cell) (ps : List PartitionField) (x : Typed) (i : ℕ) (p : PartitionField) (c : Cell)
    → i < length ps → p ≡ get_or ps i p → c ≡ cell_at p.field_id x
    → front ++ cells_of (drop i ps) x ≡ (front ++ c ∷ []) ++ cells_of (drop (i + 1) ps) x
cell_next front ps x i p c lt is cell = rw (step_of ps i p lt is, cell)
    (sym (append_assoc front (cell_at p.field_id x ∷ []) (cells_of (drop (i + 1) ps) x)))

pub cells_end : (front : List Cell) (ps : List PartitionField) (x : Typed) (i : ℕ) → length ps ≤ i
    → front ++ cells_of (drop i ps) x ≡ front
cells_end front ps x i le = rw (end_of ps i le) (append-nil front)
