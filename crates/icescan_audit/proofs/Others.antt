-- Findings that are not on delete files.
use Rattle.std.proofs.Common.{◌≡◌, ℕ, Bool, true, false, cond, List, [], ◌∷◌, ◌++◌, ℤ, nat_lt, refl, sym, ap, ◌∙◌, inl}
use Rattle.std.proofs.Common.{inr, map, Option, Some, None}
use Rattle.std.specs.List.{Contains}
use Rattle.std.proofs.lemmas.List.Elements.{Contains-append_cases}
use Rattle.contract_words.specs.Sorting.{sorted}
use Rattle.ice_value.specs.declared.cell.Cell.{Cell}
use Rattle.ice_value.specs.declared.column_type.ColumnType.{ColumnType}
use Rattle.ice_value.specs.declared.file_bounds.FileBounds.{FileBounds}
use Rattle.ice_value.specs.declared.file_content.FileContent.{FileContent}
use Rattle.ice_value.specs.declared.file_content.FileContent.TheVariants.{Data, PositionDeletes, EqualityDeletes}
use Rattle.ice_manifest_reading.specs.Tallying.{tallies_of}
use Rattle.ice_manifest_reading.specs.declared.entry.Entry.{Entry}
use Rattle.ice_manifest_reading.specs.declared.entry.Live.{Live}
use Rattle.ice_manifest_reading.specs.declared.row.Row.{Row}
use Rattle.ice_manifest_reading.specs.declared.tally.Tallies.{Tallies}
use Rattle.ice_meta.specs.declared.spec.Spec.{Spec}
use Rattle.icescan_audit_findings.specs.ColumnFlaws.{bounds_cross, column_flaws, columns_flaws, has_bounds_of_nulls}
use Rattle.icescan_audit_findings.specs.ColumnFlaws.{has_excess_nulls, has_negative_counts}
use Rattle.icescan_audit_findings.specs.Counting.{all_counts, count_flaws, miscounted}
use Rattle.icescan_audit_findings.specs.Coverage.{outside, row_limits, unbounded}
use Rattle.icescan_audit_findings.specs.EntryFlaws.{entry_flaw, entry_flaws, has_flaw}
use Rattle.icescan_audit_findings.specs.FieldFlaws.{field_flaws, fields_flaws, flaws_as, has_other_nulls}
use Rattle.icescan_audit_findings.specs.FieldFlaws.{is_outside_bounds, sources_of}
use Rattle.icescan_audit_findings.specs.Findings.{entry_findings, finding_of, flaws_by, live_findings, live_flaws}
use Rattle.icescan_audit_findings.specs.Findings.{flaws_beside, manifest_finding}
use Rattle.icescan_audit_findings.specs.Findings.{manifest_findings, missing, missing_columns, missing_in}
use Rattle.icescan_audit_findings.specs.Flaws.{flaw_where}
use Rattle.icescan_audit_findings.specs.Repeats.{has_path_of, path_before, repeat_of, repeat_where, repeats}
use Rattle.icescan_audit_findings.specs.Repeats.{repeats_behind, repeats_in}
use Rattle.icescan_audit_findings.specs.RowFlaws.{has_row_flaw, row_finding, row_findings}
use Rattle.icescan_audit_findings.specs.declared.basis.Basis.{Basis}
use Rattle.icescan_audit_findings.specs.declared.basis.TypedColumn.{TypedColumn}
use Rattle.icescan_audit_findings.specs.declared.finding.Finding.{Finding}
use Rattle.icescan_audit_findings.specs.declared.finding.Flaw.{Flaw}
use Rattle.icescan_audit_findings.specs.declared.finding.Flaw.TheVariants.{Uncovered, BelowLeast, AboveLast, NoColumn}
use Rattle.icescan_audit_findings.specs.declared.finding.Flaw.TheVariants.{Miscounted, BoundsCross, ExcessNulls}
use Rattle.icescan_audit_findings.specs.declared.finding.Flaw.TheVariants.{NamedNotLive, DanglingPositions}
use Rattle.icescan_audit_findings.specs.declared.finding.Flaw.TheVariants.{DanglingEqualities}
use Rattle.icescan_audit_findings.specs.declared.finding.Flaw.TheVariants.{OfColumn, OfEntry, OfField, OfRow}
use Rattle.icescan_audit_findings.specs.declared.finding.ColumnFlaw.TheVariants.{BoundsOfNulls, NegativeCounts}
use Rattle.icescan_audit_findings.specs.declared.finding.EntryFlaw.{EntryFlaw}
use Rattle.icescan_audit_findings.specs.declared.finding.EntryFlaw.TheVariants.{AboveManifest, NegativeSize}
use Rattle.icescan_audit_findings.specs.declared.finding.EntryFlaw.TheVariants.{NoEqualityIds, UnknownFormat}
use Rattle.icescan_audit_findings.specs.declared.finding.FieldFlaw.TheVariants.{OtherNulls, OutsideBounds, Unbounded}
use Rattle.icescan_audit_findings.specs.declared.finding.RowFlaw.{RowFlaw}
use Rattle.icescan_audit_findings.specs.declared.finding.RowFlaw.TheVariants.{AboveSnapshot, OtherContent, OtherLength}
use Rattle.icescan_audit_findings.specs.declared.finding.RowFlaw.TheVariants.{OtherSpec, OtherSummaries}
use Rattle.icescan_audit_findings.specs.declared.fields.SourceField.{SourceField}
use Rattle.icescan_audit_findings.specs.declared.limits.FieldLimits.{FieldLimits}
use Rattle.icescan_audit_findings.specs.declared.repeats.LiveFile.{LiveFile}
use Rattle.icescan_audit.specs.Audits.{bytes_findings}
use Rattle.icescan_audit_findings.proofs.Members.{first_or_behind, from_flat, from_map, in_none}

abbrev pub is_on_deletes : Flaw → Bool
is_on_deletes NamedNotLive = true
is_on_deletes DanglingPositions = true
is_on_deletes DanglingEqualities = true
is_on_deletes _ = false

abbrev AreOther : List Flaw → Type 0
AreOther flaws = (f : Flaw) → Contains flaws f → is_on_deletes f ≡ false

abbrev pub AreOthers : List Finding → Type 0
AreOthers findings = (f : Finding) → Contains findings f → is_on_deletes f.flaw ≡ false

one_other : (b : Bool) (flaw : Flaw) → is_on_deletes flaw ≡ false → AreOther (flaw_where b flaw)
one_other true flaw h f c = elim (first_or_behind flaw f [] c) as (λ _. is_on_deletes f ≡ false) [
  | inl e ↦ sym (ap is_on_deletes e) ∙ h
  | inr m ↦ absurd (in_none f m)
]
one_other false flaw h f c = absurd (in_none f c)

both_other : (xs ys : List Flaw) → AreOther xs → AreOther ys → AreOther (xs ++ ys)
both_other xs ys h k f c = elim (Contains-append_cases xs ys f c) as (λ _. is_on_deletes f ≡ false) [
  | inl m ↦ h f m
  | inr m ↦ k f m
]

pub both_others : (xs ys : List Finding) → AreOthers xs → AreOthers ys → AreOthers (xs ++ ys)
both_others xs ys h k f c = elim (Contains-append_cases xs ys f c) as (λ _. is_on_deletes f.flaw ≡ false) [
  | inl m ↦ h f m
  | inr m ↦ k f m
]

mapped_other : {X : Type 0} (make : X → Flaw) → ((x : X) → is_on_deletes (make x) ≡ false) → (xs : List X)
    → AreOther (map make xs)
mapped_other make h xs f c = let r = from_map make xs f c in sym (ap is_on_deletes r.2) ∙ h r.0

missing_other : (content : FileContent) (columns ids : List ℤ) → AreOther (missing_in content columns ids)
missing_other Data columns ids f c = absurd (in_none f c)
missing_other PositionDeletes columns ids f c = absurd (in_none f c)
missing_other EqualityDeletes columns ids f c = mapped_other NoColumn (λ _. refl) (missing columns ids) f c

columns_other : (file : FileBounds) (columns : List TypedColumn) → AreOther (columns_flaws file columns)
columns_other file columns f c =
    let r = from_flat (column_flaws file) columns f c in
    let column = r.0 in
    let cross = flaw_where (bounds_cross file column) (BoundsCross column.id) in
    let excess = flaw_where (has_excess_nulls file column.id) (ExcessNulls column.id) in
    let negative = flaw_where (has_negative_counts file column.id) (OfColumn NegativeCounts column.id) in
    let of_nulls = flaw_where (has_bounds_of_nulls file column.id) (OfColumn BoundsOfNulls column.id) in
    both_other cross (excess ++ (negative ++ of_nulls)) (one_other (bounds_cross file column) (BoundsCross column.id) refl)
    (both_other excess (negative ++ of_nulls)
    (one_other (has_excess_nulls file column.id) (ExcessNulls column.id) refl)
    (both_other negative of_nulls
    (one_other (has_negative_counts file column.id) (OfColumn NegativeCounts column.id) refl)
    (one_other (has_bounds_of_nulls file column.id) (OfColumn BoundsOfNulls column.id) refl))) f r.2

field_other : (file : FileBounds) (g : SourceField) (t : Option ColumnType) (p : Cell) → AreOther (flaws_as file g t p)
field_other file g None p = λ f c. absurd (in_none f c)
field_other file g (Some t) p =
    both_other (flaw_where (has_other_nulls file g.column p) (OfField OtherNulls g.name))
    (flaw_where (is_outside_bounds file g.transform t g.column p) (OfField OutsideBounds g.name))
    (one_other (has_other_nulls file g.column p) (OfField OtherNulls g.name) refl)
    (one_other (is_outside_bounds file g.transform t g.column p) (OfField OutsideBounds g.name) refl)

fields_other : (file : FileBounds) (gs : List SourceField) (tuple : List Cell) → AreOther (fields_flaws file gs tuple)
fields_other file [] tuple = λ f c. absurd (in_none f c)
fields_other file (g ∷ gs) [] = λ f c. absurd (in_none f c)
fields_other file (g ∷ gs) (p ∷ tuple) = both_other (field_flaws file g p) (fields_flaws file gs tuple)
    (field_other file g g.column_type p) (fields_other file gs tuple)

itself_other : (row : Row) (x : Entry) → AreOther (entry_flaws row x)
itself_other row x =
    let one : (flaw : EntryFlaw) → AreOther (entry_flaw flaw row x) =
    λ flaw. one_other (has_flaw flaw row x) (OfEntry flaw) refl in
    let last = entry_flaw UnknownFormat row x in
    let two = entry_flaw NegativeSize row x ++ last in
    both_other (entry_flaw AboveManifest row x) (entry_flaw NoEqualityIds row x ++ two) (one AboveManifest)
    (both_other (entry_flaw NoEqualityIds row x) two (one NoEqualityIds)
    (both_other (entry_flaw NegativeSize row x) last (one NegativeSize) (one UnknownFormat)))

beside_other : (row : Row) (limits : List FieldLimits) (gs : List SourceField) (x : Entry) (file : FileBounds)
    → AreOther (flaws_beside row limits gs x file)
beside_other row limits gs x file =
    let names = unbounded limits x.file.tuple in
    let fields = fields_flaws file gs x.file.tuple in
    both_other (map (OfField Unbounded) names) (fields ++ entry_flaws row x)
    (mapped_other (OfField Unbounded) (λ _. refl) names)
    (both_other fields (entry_flaws row x) (fields_other file gs x.file.tuple) (itself_other row x))

live_other : (basis : Basis) (row : Row) (limits : List FieldLimits) (l : Live)
    → AreOther (live_flaws basis row limits l)
live_other basis row limits l =
    let x = l.entry in
    let names = outside limits x.file.tuple in
    let below = nat_lt x.sequence_number row.min_sequence_number in
    let above = nat_lt basis.last x.sequence_number in
    let gone = missing_columns basis x in
    let beside = flaws_beside row limits (sources_of basis row) x l.bounds in
    both_other (flaws_by basis row limits x) (columns_flaws l.bounds basis.typed ++ beside)
    (both_other (map Uncovered names) (flaw_where below BelowLeast ++ (flaw_where above AboveLast ++ gone))
    (mapped_other Uncovered (λ _. refl) names)
    (both_other (flaw_where below BelowLeast) (flaw_where above AboveLast ++ gone) (one_other below BelowLeast refl)
    (both_other (flaw_where above AboveLast) gone (one_other above AboveLast refl)
    (missing_other x.file.content basis.columns x.file.equality_ids))))
    (both_other (columns_flaws l.bounds basis.typed) beside (columns_other l.bounds basis.typed)
    (beside_other row limits (sources_of basis row) x l.bounds))

made_other : (make : Flaw → Finding) → ((f : Flaw) → (make f).flaw ≡ f) → (flaws : List Flaw) → AreOther flaws
    → AreOthers (map make flaws)
made_other make h flaws k f c =
    let r = from_map make flaws f c in
    sym (ap (λ (x : Finding). is_on_deletes x.flaw) r.2) ∙ ap is_on_deletes (h r.0) ∙ k r.0 r.1

manifest_other : (basis : Basis) (row : Row) (spec : Spec) (tallies : Tallies) (lives : List Live)
    → AreOthers (manifest_findings basis row spec tallies lives)
manifest_other basis row spec tallies lives =
    both_others (map (manifest_finding row) (count_flaws row tallies)) (live_findings basis row spec lives)
    (made_other (manifest_finding row) (λ _. refl) (count_flaws row tallies)
    (mapped_other Miscounted (λ _. refl) (miscounted row.counts tallies all_counts)))
    (λ f c.
    let limits = row_limits spec row.partitions in
    let r = from_flat (entry_findings basis row limits) lives f c in
    made_other (finding_of row r.0.entry) (λ _. refl) (live_flaws basis row limits r.0)
    (live_other basis row limits r.0)
    f r.2)

row_other : (b : Bool) (row : Row) (flaw : RowFlaw)
    → AreOthers (cond b (manifest_finding row (OfRow flaw) ∷ []) [])
row_other true row flaw f c = elim (first_or_behind (manifest_finding row (OfRow flaw)) f [] c) as
    (λ _. is_on_deletes f.flaw ≡ false) [
      | inl e ↦ sym (ap (λ (y : Finding). is_on_deletes y.flaw) e)
      | inr m ↦ absurd (in_none f m)
    ]
row_other false row flaw f c = absurd (in_none f c)

rows_other : (basis : Basis) (row : Row) (file : List ℕ) → AreOthers (row_findings basis row file)
rows_other basis row file =
    let one : (flaw : RowFlaw) → AreOthers (row_finding flaw basis row file) =
    λ flaw. row_other (has_row_flaw flaw basis row file) row flaw in
    let last = row_finding AboveSnapshot basis row file in
    let two = row_finding OtherSummaries basis row file ++ last in
    let three = row_finding OtherLength basis row file ++ two in
    both_others (row_finding OtherSpec basis row file) (row_finding OtherContent basis row file ++ three) (one OtherSpec)
    (both_others (row_finding OtherContent basis row file) three (one OtherContent)
    (both_others (row_finding OtherLength basis row file) two (one OtherLength)
    (both_others (row_finding OtherSummaries basis row file) last (one OtherSummaries) (one AboveSnapshot))))

pub bytes_other : (basis : Basis) (row : Row) (spec : Spec) (bytes : List ℕ) (lives : List Live)
    → AreOthers (bytes_findings basis row spec bytes lives)
bytes_other basis row spec bytes lives =
    both_others (row_findings basis row bytes) (manifest_findings basis row spec (tallies_of bytes) lives)
    (rows_other basis row bytes) (manifest_other basis row spec (tallies_of bytes) lives)

repeat_other : (b : Bool) (x : LiveFile) → AreOthers (repeat_where b x)
repeat_other true x f c = elim (first_or_behind (repeat_of x) f [] c) as (λ _. is_on_deletes f.flaw ≡ false) [
  | inl e ↦ sym (ap (λ (y : Finding). is_on_deletes y.flaw) e)
  | inr m ↦ absurd (in_none f m)
]
repeat_other false x f c = absurd (in_none f c)

behind_other : (x : LiveFile) (ys : List LiveFile) → AreOthers (repeats_behind x ys)
behind_other x [] = λ f c. absurd (in_none f c)
behind_other x (y ∷ ys) =
    both_others (repeat_where (has_path_of x y) y) (repeats_behind y ys)
    (repeat_other (has_path_of x y) y) (behind_other y ys)

in_order_other : (xs : List LiveFile) → AreOthers (repeats_in xs)
in_order_other [] = λ f c. absurd (in_none f c)
in_order_other (x ∷ xs) = behind_other x xs

pub repeats_other : (files : List LiveFile) → AreOthers (repeats files)
repeats_other files = in_order_other (sorted path_before files)
