-- Of the findings on one entry those on coverage are the names of the fields outside of the limits.
use Rattle.std.proofs.Common.{◌≡◌, ℕ, ℤ, Bool, true, false, nat_lt, List, [], ◌∷◌, ◌++◌, map, refl, sym}
use Rattle.std.proofs.Common.{◌∙◌, ap, cond, not, Option, Some, None}
use Rattle.ice_value.specs.declared.file_content.FileContent.{FileContent}
use Rattle.ice_value.specs.declared.file_content.FileContent.TheVariants.{Data, PositionDeletes, EqualityDeletes}
use Rattle.ice_manifest_reading.specs.declared.entry.Entry.{Entry}
use Rattle.ice_manifest_reading.specs.declared.entry.Live.{Live}
use Rattle.ice_manifest_reading.specs.declared.row.Row.{Row}
use Rattle.ice_manifest_reading.specs.declared.tally.Tallies.{Tallies}
use Rattle.ice_value.specs.declared.file_bounds.FileBounds.{FileBounds}
use Rattle.icescan_audit_findings.specs.declared.basis.Basis.{Basis}
use Rattle.icescan_audit_findings.specs.declared.basis.TypedColumn.{TypedColumn}
use Rattle.icescan_audit_findings.specs.declared.finding.Count.{Count}
use Rattle.icescan_audit_findings.specs.declared.finding.Finding.{Finding}
use Rattle.icescan_audit_findings.specs.declared.finding.Flaw.{Flaw}
use Rattle.icescan_audit_findings.specs.declared.finding.Flaw.TheVariants.{Uncovered, BelowLeast, AboveLast, NoColumn}
use Rattle.icescan_audit_findings.specs.declared.finding.Flaw.TheVariants.{Miscounted, LiveTwice, BoundsCross}
use Rattle.icescan_audit_findings.specs.declared.finding.Flaw.TheVariants.{ExcessNulls}
use Rattle.icescan_audit_findings.specs.declared.finding.Flaw.TheVariants.{NamedNotLive, DanglingPositions}
use Rattle.icescan_audit_findings.specs.declared.finding.Flaw.TheVariants.{DanglingEqualities}
use Rattle.icescan_audit_findings.specs.declared.limits.FieldLimits.{FieldLimits}
use Rattle.icescan_audit_findings.specs.declared.finding.Flaw.TheVariants.{OfColumn, OfEntry, OfField, OfRow}
use Rattle.icescan_audit_findings.specs.declared.finding.ColumnFlaw.TheVariants.{BoundsOfNulls, NegativeCounts}
use Rattle.icescan_audit_findings.specs.declared.finding.EntryFlaw.{EntryFlaw}
use Rattle.icescan_audit_findings.specs.declared.finding.EntryFlaw.TheVariants.{AboveManifest, NegativeSize}
use Rattle.icescan_audit_findings.specs.declared.finding.EntryFlaw.TheVariants.{NoEqualityIds, UnknownFormat}
use Rattle.icescan_audit_findings.specs.declared.finding.FieldFlaw.TheVariants.{OtherNulls, OutsideBounds, Unbounded}
use Rattle.icescan_audit_findings.specs.declared.finding.RowFlaw.{RowFlaw}
use Rattle.icescan_audit_findings.specs.declared.finding.RowFlaw.TheVariants.{AboveSnapshot, OtherContent, OtherLength}
use Rattle.icescan_audit_findings.specs.declared.finding.RowFlaw.TheVariants.{OtherSpec, OtherSummaries}
use Rattle.icescan_audit_findings.specs.declared.fields.SourceField.{SourceField}
use Rattle.ice_value.specs.declared.cell.Cell.{Cell}
use Rattle.ice_value.specs.declared.column_type.ColumnType.{ColumnType}
use Rattle.icescan_audit_findings.specs.ColumnFlaws.{bounds_cross, column_flaws, columns_flaws, has_bounds_of_nulls}
use Rattle.icescan_audit_findings.specs.ColumnFlaws.{has_excess_nulls, has_negative_counts}
use Rattle.icescan_audit_findings.specs.Coverage.{outside, unbounded}
use Rattle.icescan_audit_findings.specs.EntryFlaws.{entry_flaw, entry_flaws, has_flaw}
use Rattle.icescan_audit_findings.specs.FieldFlaws.{field_flaws, fields_flaws, flaws_as, has_other_nulls}
use Rattle.icescan_audit_findings.specs.FieldFlaws.{is_outside_bounds, sources_of}
use Rattle.icescan_audit_findings.specs.RowFlaws.{has_row_flaw, row_finding, row_findings}
use Rattle.icescan_audit_findings.specs.Counting.{all_counts, count_flaws, miscounted}
use Rattle.icescan_audit_findings.specs.Findings.{entry_findings, finding_of, flaws_beside, flaws_by, manifest_finding}
use Rattle.icescan_audit_findings.specs.Findings.{missing}
use Rattle.icescan_audit_findings.specs.Findings.{missing_columns}
use Rattle.icescan_audit_findings.specs.Findings.{missing_in}
use Rattle.icescan_audit_findings.specs.Flaws.{flaw_where}
use Rattle.icescan_audit_findings.specs.Repeats.{has_path_of, path_before, repeat_where, repeats, repeats_behind, repeats_in}
use Rattle.icescan_audit_findings.specs.Telling.{faults, is_fault, is_uncovered, uncovered}
use Rattle.icescan_audit_findings.specs.Dangling.{dangling_flaw, data_files, delete_files, delete_findings}
use Rattle.icescan_audit_findings.specs.Dangling.{finding_where}
use Rattle.icescan_audit_findings.specs.Dangling.{findings_beside, is_reaching, names_none, paths_in}
use Rattle.icescan_audit_findings.specs.declared.file_key.FileKey.{FileKey}
use Rattle.ice_value.specs.Applying.{DataKey}
use Rattle.std.specs.List.{flat_map}
use Rattle.icescan_audit_findings.specs.declared.repeats.LiveFile.{LiveFile}
use Rattle.contract_words.specs.Sorting.{sorted}

-- ---- two lists

none_left : {X : Type 0} (xs ys : List X) → xs ++ ys ≡ [] → xs ≡ []
none_left [] ys h = refl
none_left (x ∷ xs) ys h = absurd cc

none_right : {X : Type 0} (xs ys : List X) → xs ++ ys ≡ [] → ys ≡ []
none_right [] ys h = h
none_right (x ∷ xs) ys h = absurd cc

none_both : {X : Type 0} (xs ys : List X) → xs ≡ [] → ys ≡ [] → xs ++ ys ≡ []
none_both [] ys h k = k
none_both (x ∷ xs) ys h k = absurd cc

uncovered_first : (b : Bool) (x : Finding) (xs ys zs : List Finding) → zs ≡ xs ++ ys
    → cond b (x ∷ zs) zs ≡ cond b (x ∷ xs) xs ++ ys
uncovered_first true x xs ys zs h = ap (λ (l : List Finding). x ∷ l) h
uncovered_first false x xs ys zs h = h

uncovered-append : (xs ys : List Finding) → uncovered (xs ++ ys) ≡ uncovered xs ++ uncovered ys
uncovered-append [] ys = refl
uncovered-append (x ∷ xs) ys = uncovered_first (is_uncovered x.flaw) x (uncovered xs) (uncovered ys)
    (uncovered (xs ++ ys)) (uncovered-append xs ys)

pub none_of_both : (xs ys : List Finding) → uncovered (xs ++ ys) ≡ [] → (uncovered xs ≡ []) × (uncovered ys ≡ [])
none_of_both xs ys h =
    let k = sym (uncovered-append xs ys) ∙ h in
    (none_left (uncovered xs) (uncovered ys) k, none_right (uncovered xs) (uncovered ys) k)

pub none_of_all : (xs ys : List Finding) → uncovered xs ≡ [] → uncovered ys ≡ [] → uncovered (xs ++ ys) ≡ []
none_of_all xs ys h k = uncovered-append xs ys ∙ none_both (uncovered xs) (uncovered ys) h k

-- ---- the findings on one entry

module _ (row : Row) (x : Entry) where
  abbrev found : List Flaw → List Finding
  found flaws = map (finding_of row x) flaws

  found-append : (ls ms : List Flaw) → found (ls ++ ms) ≡ found ls ++ found ms
  found-append [] ms = refl
  found-append (l ∷ ls) ms = ap (λ (more : List Finding). finding_of row x l ∷ more) (found-append ls ms)

  of_names : (names : List (List ℕ)) → uncovered (found (map Uncovered names)) ≡ [] → names ≡ []
  of_names [] h = refl
  of_names (n ∷ ns) h = absurd cc

  of_names_back : (names : List (List ℕ)) → names ≡ [] → uncovered (found (map Uncovered names)) ≡ []
  of_names_back [] h = refl
  of_names_back (n ∷ ns) h = absurd cc

  no_least : (b : Bool) → uncovered (found (flaw_where b BelowLeast)) ≡ []
  no_least true = refl
  no_least false = refl

  no_last : (b : Bool) → uncovered (found (flaw_where b AboveLast)) ≡ []
  no_last true = refl
  no_last false = refl

  no_columns : (ids : List ℤ) → uncovered (found (map NoColumn ids)) ≡ []
  no_columns [] = refl
  no_columns (id ∷ ids) = no_columns ids

  no_missing : (content : FileContent) (columns ids : List ℤ) → uncovered (found (missing_in content columns ids)) ≡ []
  no_missing Data columns ids = refl
  no_missing PositionDeletes columns ids = refl
  no_missing EqualityDeletes columns ids = no_columns (missing columns ids)

  none_in : (ls ms : List Flaw) → uncovered (found ls) ≡ [] → uncovered (found ms) ≡ []
      → uncovered (found (ls ++ ms)) ≡ []
  none_in ls ms h k = ap uncovered (found-append ls ms) ∙ none_of_all (found ls) (found ms) h k

  others : (basis : Basis) → uncovered (found (flaw_where (nat_lt x.sequence_number row.min_sequence_number) BelowLeast
      ++ (flaw_where (nat_lt basis.last x.sequence_number) AboveLast ++ missing_columns basis x))) ≡ []
  others basis =
      none_in (flaw_where (nat_lt x.sequence_number row.min_sequence_number) BelowLeast)
      (flaw_where (nat_lt basis.last x.sequence_number) AboveLast ++ missing_columns basis x)
      (no_least (nat_lt x.sequence_number row.min_sequence_number))
      (none_in (flaw_where (nat_lt basis.last x.sequence_number) AboveLast) (missing_columns basis x)
      (no_last (nat_lt basis.last x.sequence_number))
      (no_missing x.file.content basis.columns x.file.equality_ids))

  abbrev rest : Basis → List Flaw
  rest basis = flaw_where (nat_lt x.sequence_number row.min_sequence_number) BelowLeast
      ++ (flaw_where (nat_lt basis.last x.sequence_number) AboveLast ++ missing_columns basis x)

  no_where : (b : Bool) (flaw : Flaw) → is_uncovered flaw ≡ false → uncovered (found (flaw_where b flaw)) ≡ []
  no_where true flaw h = rw h refl
  no_where false flaw h = refl

  one_column : (cross nulls negative of_nulls : Bool) (id : ℤ) → uncovered (found (flaw_where cross (BoundsCross id)
      ++ (flaw_where nulls (ExcessNulls id) ++ (flaw_where negative (OfColumn NegativeCounts id)
      ++ flaw_where of_nulls (OfColumn BoundsOfNulls id))))) ≡ []
  one_column cross nulls negative of_nulls id =
      let last = flaw_where of_nulls (OfColumn BoundsOfNulls id) in
      let two = flaw_where negative (OfColumn NegativeCounts id) ++ last in
      none_in (flaw_where cross (BoundsCross id)) (flaw_where nulls (ExcessNulls id) ++ two)
      (no_where cross (BoundsCross id) refl) (none_in (flaw_where nulls (ExcessNulls id)) two
      (no_where nulls (ExcessNulls id) refl) (none_in (flaw_where negative (OfColumn NegativeCounts id)) last
      (no_where negative (OfColumn NegativeCounts id) refl) (no_where of_nulls (OfColumn BoundsOfNulls id) refl)))

  said : (file : FileBounds) (columns : List TypedColumn) → uncovered (found (columns_flaws file columns)) ≡ []
  said file [] = refl
  said file (c ∷ cs) = none_in (column_flaws file c) (columns_flaws file cs)
      (one_column (bounds_cross file c) (has_excess_nulls file c.id) (has_negative_counts file c.id)
      (has_bounds_of_nulls file c.id) c.id) (said file cs)

  no_bound : (names : List (List ℕ)) → uncovered (found (map (OfField Unbounded) names)) ≡ []
  no_bound [] = refl
  no_bound (n ∷ ns) = no_bound ns

  one_field : (file : FileBounds) (f : SourceField) (t : Option ColumnType) (p : Cell)
      → uncovered (found (flaws_as file f t p)) ≡ []
  one_field file f None p = refl
  one_field file f (Some t) p =
      let nulls = has_other_nulls file f.column p in
      let outside = is_outside_bounds file f.transform t f.column p in
      none_in (flaw_where nulls (OfField OtherNulls f.name)) (flaw_where outside (OfField OutsideBounds f.name))
      (no_where nulls (OfField OtherNulls f.name) refl) (no_where outside (OfField OutsideBounds f.name) refl)

  all_fields : (file : FileBounds) (fs : List SourceField) (tuple : List Cell)
      → uncovered (found (fields_flaws file fs tuple)) ≡ []
  all_fields file [] tuple = refl
  all_fields file (f ∷ fs) [] = refl
  all_fields file (f ∷ fs) (p ∷ tuple) = none_in (field_flaws file f p) (fields_flaws file fs tuple)
      (one_field file f f.column_type p) (all_fields file fs tuple)

  one_entry : (flaw : EntryFlaw) → uncovered (found (entry_flaw flaw row x)) ≡ []
  one_entry flaw = no_where (has_flaw flaw row x) (OfEntry flaw) refl

  itself : uncovered (found (entry_flaws row x)) ≡ []
  itself = none_in (entry_flaw AboveManifest row x)
      (entry_flaw NoEqualityIds row x ++ (entry_flaw NegativeSize row x ++ entry_flaw UnknownFormat row x))
      (one_entry AboveManifest) (none_in (entry_flaw NoEqualityIds row x)
      (entry_flaw NegativeSize row x ++ entry_flaw UnknownFormat row x) (one_entry NoEqualityIds)
      (none_in (entry_flaw NegativeSize row x) (entry_flaw UnknownFormat row x) (one_entry NegativeSize)
      (one_entry UnknownFormat)))

  beside : (limits : List FieldLimits) (fs : List SourceField) (file : FileBounds)
      → uncovered (found (flaws_beside row limits fs x file)) ≡ []
  beside limits fs file =
      let names = unbounded limits x.file.tuple in
      let fields = fields_flaws file fs x.file.tuple in
      none_in (map (OfField Unbounded) names) (fields ++ entry_flaws row x) (no_bound names)
      (none_in fields (entry_flaws row x) (all_fields file fs x.file.tuple) itself)

  told_by : (basis : Basis) (limits : List FieldLimits) → uncovered (found (flaws_by basis row limits x)) ≡ []
      → outside limits x.file.tuple ≡ []
  told_by basis limits h =
      let names = outside limits x.file.tuple in
      of_names names (none_of_both (found (map Uncovered names)) (found (rest basis))
      (ap uncovered (sym (found-append (map Uncovered names) (rest basis))) ∙ h)).0

  told_back_by : (basis : Basis) (limits : List FieldLimits) → outside limits x.file.tuple ≡ []
      → uncovered (found (flaws_by basis row limits x)) ≡ []
  told_back_by basis limits h =
      let names = outside limits x.file.tuple in
      none_in (map Uncovered names) (rest basis) (of_names_back names h) (others basis)

module _ (row : Row) (l : Live) where
  -- what is wrong with what the manifest says of the columns, and then the rest
  abbrev behind : Basis → List FieldLimits → List Flaw
  behind basis limits = columns_flaws l.bounds basis.typed
      ++ flaws_beside row limits (sources_of basis row) l.entry l.bounds

  pub told : (basis : Basis) (limits : List FieldLimits) → uncovered (entry_findings basis row limits l) ≡ []
      → outside limits l.entry.file.tuple ≡ []
  told basis limits h =
      let flaws = flaws_by basis row limits l.entry in
      told_by row l.entry basis limits (none_of_both (found row l.entry flaws)
      (found row l.entry (behind basis limits))
      (ap uncovered (sym (found-append row l.entry flaws (behind basis limits))) ∙ h)).0

  pub told_back : (basis : Basis) (limits : List FieldLimits) → outside limits l.entry.file.tuple ≡ []
      → uncovered (entry_findings basis row limits l) ≡ []
  told_back basis limits h =
      none_in row l.entry (flaws_by basis row limits l.entry) (behind basis limits)
      (told_back_by row l.entry basis limits h) (none_in row l.entry (columns_flaws l.bounds basis.typed)
      (flaws_beside row limits (sources_of basis row) l.entry l.bounds) (said row l.entry l.bounds basis.typed)
      (beside row l.entry limits (sources_of basis row) l.bounds))

-- ---- the findings on what a row counts

counted : (row : Row) (counts : List Count)
    → uncovered (map (manifest_finding row) (map Miscounted counts)) ≡ []
counted row [] = refl
counted row (count ∷ counts) = counted row counts

pub no_counts : (row : Row) (tallies : Tallies)
    → uncovered (map (manifest_finding row) (count_flaws row tallies)) ≡ []
no_counts row tallies = counted row (miscounted row.counts tallies all_counts)

-- ---- the findings on files that are live twice

repeat_none : (b : Bool) (x : LiveFile) → uncovered (repeat_where b x) ≡ []
repeat_none true x = refl
repeat_none false x = refl

none_behind : (x : LiveFile) (xs : List LiveFile) → uncovered (repeats_behind x xs) ≡ []
none_behind x [] = refl
none_behind x (y ∷ ys) = none_of_all (repeat_where (has_path_of x y) y) (repeats_behind y ys)
    (repeat_none (has_path_of x y) y) (none_behind y ys)

none_repeated : (xs : List LiveFile) → uncovered (repeats_in xs) ≡ []
none_repeated [] = refl
none_repeated (x ∷ xs) = none_behind x xs

pub no_repeats : (files : List LiveFile) → uncovered (repeats files) ≡ []
no_repeats files = none_repeated (sorted path_before files)

-- ---- the findings on delete files

where_none : (b : Bool) (x : LiveFile) (flaw : Flaw) → is_uncovered flaw ≡ false
    → uncovered (finding_where b x flaw) ≡ []
where_none true x flaw h = rw h refl
where_none false x flaw h = refl

dangles : (content : FileContent) → is_uncovered (dangling_flaw content) ≡ false
dangles Data = refl
dangles PositionDeletes = refl
dangles EqualityDeletes = refl

none_on_deletes : (xs : List DataKey) (ds : List (LiveFile × FileKey))
    → uncovered (flat_map (findings_beside xs) ds) ≡ []
none_on_deletes xs [] = refl
none_on_deletes xs (d ∷ ds) =
    let named = names_none (paths_in xs) d.1.referenced in
    let reaching = is_reaching xs d.1 in
    none_of_all (findings_beside xs d) (flat_map (findings_beside xs) ds)
    (none_of_all (finding_where named d.0 NamedNotLive)
    (finding_where (not reaching) d.0 (dangling_flaw d.1.content)) (where_none named d.0 NamedNotLive refl)
    (where_none (not reaching) d.0 (dangling_flaw d.1.content) (dangles d.1.content))) (none_on_deletes xs ds)

pub no_delete_findings : (files : List LiveFile) → uncovered (delete_findings files) ≡ []
no_delete_findings files = none_on_deletes (data_files files) (delete_files files)

-- ---- the findings on a row

none_row : (b : Bool) (row : Row) (flaw : RowFlaw)
    → uncovered (cond b (manifest_finding row (OfRow flaw) ∷ []) []) ≡ []
none_row true row flaw = refl
none_row false row flaw = refl

pub no_row_findings : (basis : Basis) (row : Row) (file : List ℕ) → uncovered (row_findings basis row file) ≡ []
no_row_findings basis row file =
    let of : (flaw : RowFlaw) → uncovered (row_finding flaw basis row file) ≡ [] =
    λ flaw. none_row (has_row_flaw flaw basis row file) row flaw in
    let last = row_finding AboveSnapshot basis row file in
    let two = row_finding OtherSummaries basis row file ++ last in
    let three = row_finding OtherLength basis row file ++ two in
    none_of_all (row_finding OtherSpec basis row file) (row_finding OtherContent basis row file ++ three) (of OtherSpec)
    (none_of_all (row_finding OtherContent basis row file) three (of OtherContent)
    (none_of_all (row_finding OtherLength basis row file) two (of OtherLength)
    (none_of_all (row_finding OtherSummaries basis row file) last (of OtherSummaries) (of AboveSnapshot))))

-- ---- faults

no_fault : (flaw : Flaw) → is_fault flaw ≡ false → is_uncovered flaw ≡ false
unfolding is_fault
no_fault (Miscounted count) h = refl
no_fault (Uncovered field) h = absurd cc
no_fault BelowLeast h = refl
no_fault AboveLast h = refl
no_fault LiveTwice h = refl
no_fault (NoColumn id) h = refl
no_fault (BoundsCross id) h = refl
no_fault (ExcessNulls id) h = refl
no_fault NamedNotLive h = refl
no_fault DanglingPositions h = refl
no_fault DanglingEqualities h = refl
no_fault (OfRow flaw) h = refl
no_fault (OfEntry flaw) h = refl
no_fault (OfColumn flaw id) h = refl
no_fault (OfField flaw field) h = refl

no_fault_first : (b : Bool) (x : Finding) (xs : List Finding) → is_fault x.flaw ≡ b
    → cond b (x ∷ faults xs) (faults xs) ≡ [] → (faults xs ≡ [] → uncovered xs ≡ [])
    → cond (is_uncovered x.flaw) (x ∷ uncovered xs) (uncovered xs) ≡ []
no_fault_first true x xs e h rest = absurd cc
no_fault_first false x xs e h rest = rw (no_fault x.flaw e) (rest h)

-- where there are no faults, all is covered
pub uncovered_are_faults : (findings : List Finding) → faults findings ≡ [] → uncovered findings ≡ []
uncovered_are_faults [] h = refl
uncovered_are_faults (x ∷ xs) h = no_fault_first (is_fault x.flaw) x xs refl h (uncovered_are_faults xs)
