-- Rows stay covered.
use Rattle.std.proofs.Common.{◌≡◌, ℕ, suc, List, [], ◌∷◌, ◌++◌, map, refl, sym, ◌∙◌, ap, subst}
use Rattle.std.specs.Prelude.{Option, None, Some, Result, Ok, Err, option_map}
use Rattle.std.specs.FinMap.{get}
use Rattle.std.specs.List.{AllByRecursion}
use Rattle.std.specs.Option.{option_and_then, unwrap_or}
use Rattle.std.specs.Result.{result_ok}
use Rattle.contract_words.specs.Outcome.{◌>>=◌}
use Rattle.ice_value.specs.declared.cell.Cell.{Cell}
use Rattle.ice_meta.specs.declared.spec.Spec.{Spec}
use Rattle.ice_manifest_reading.specs.declared.entry.Entry.{Entry}
use Rattle.ice_manifest_reading.specs.declared.entry.Live.{Live}
use Rattle.ice_manifest.specs.declared.heading.Heading.{Heading}
use Rattle.ice_manifest.specs.declared.new_file.NewFile.{NewFile}
use Rattle.ice_manifest_fields.specs.declared.fault.ManifestFault.{ManifestFault}
use Rattle.ice_manifest_reading.specs.declared.row.Row.{Row}
use Rattle.ice_manifest_reading.specs.Lists.{path_before}
use Rattle.ice_manifest_reading.specs.Manifests.{entries, entries_of, live_of}
use Rattle.ice_manifest.specs.Writing.{new_entries}
use Rattle.ice_state.specs.Contents.{live_by}
use Rattle.ice_state.specs.Covering.{RowCovers}
use Rattle.ice_state.specs.Snapshots.{live, live_or_none}
use Rattle.ice_catalog_changes.specs.declared.change.Commit.{Commit}
use Rattle.ice_catalog_changes.specs.declared.fault.PrepareFault.{PrepareFault}
use Rattle.ice_catalog_versions.specs.declared.world.World.{World}
use Rattle.ice_catalog_versions.specs.Adding.{next, next_sequence}
use Rattle.ice_catalog_versions.specs.Applying.{apply, unless}
use Rattle.ice_catalog_versions.specs.Bases.{base_rows, live_at, rows_at, spec_in, table_specs}
use Rattle.ice_catalog_versions.specs.Covered.{CoversFiles, EmptyIsCovered, HasCoveredRows, KeepsCovering, StaysCovered}
use Rattle.ice_catalog_versions.specs.Histories.{History, after, replay, start, state_of, step}
use Rattle.ice_catalog_versions.specs.Live.{AddInTurn, HasBaseAndChange, added_entries, added_row, entries_at}
use Rattle.ice_catalog_versions.specs.Live.{new_manifests}
use Rattle.ice_catalog_versions.specs.Refusals.{refusal}
use Rattle.ice_catalog_versions.specs.States.{State}
use Rattle.ice_catalog_versions.specs.Staying.{AreNewTo}
use Rattle.ice_catalog_versions.proofs.NewRows.{new_covered}
use Rattle.ice_catalog_versions.proofs.Replays.{state_after}
use Rattle.ice_catalog_versions.proofs.NewSummaries.{all_of_map}
use Rattle.ice_catalog_versions.proofs.Staying.{from_none, specs_stay}
use Rattle.ice_catalog_versions.proofs.Writable.{all_append, all_both, all_map, all_sorted, all_weaker}

-- ---- live entries, with their bounds and without

without_bounds : (r : Result (List Live) ManifestFault)
    → entries (live_or_none (Some r)) ≡ unwrap_or (result_ok (r >>= λ found. Ok (entries found))) []
without_bounds (Ok found) = refl
without_bounds (Err f) = refl

live_entries : (w : World) (specs : List Spec) (row : Row) → entries (live (get w) specs row) ≡ live_at w specs row
unfolding entries_of
live_entries w specs row = here (spec_in specs row.spec_id) (get w row.path) where
  here : (o : Option Spec) (b : Option (List ℕ)) → entries (live_or_none (option_map (live_by o row) b)) ≡ unwrap_or
      (option_and_then (λ spec. option_and_then (λ bytes. result_ok (entries_of row spec bytes)) b) o) []
  here None None = refl
  here None (Some bytes) = refl
  here (Some spec) None = refl
  here (Some spec) (Some bytes) = without_bounds (live_of row spec bytes)

-- the row covers these entries
abbrev CoversEntries : List Spec → Row → List Entry → Type 0
CoversEntries specs row found = AllByRecursion (λ (e : Entry). RowCovers specs row e.file.tuple) found

of_files : (P : List Cell → Type 0) (row : Row) (h : Heading) (position : ℕ) (files : List NewFile)
    → AllByRecursion (λ (f : NewFile). P f.tuple) files
    → AllByRecursion (λ (e : Entry). P e.file.tuple) (new_entries row h position files)
of_files P row h position [] all = tt
of_files P row h position (f ∷ files) all = (all.0, of_files P row h (suc position) files all.1)

abbrev pub IsCoveredAt : World → List Spec → Row → Type 0
IsCoveredAt w specs row = AllByRecursion (λ (l : Live). RowCovers specs row l.entry.file.tuple) (live (get w) specs row)

by_entries : (w : World) (specs : List Spec) (row : Row) → CoversEntries specs row (live_at w specs row)
    → IsCoveredAt w specs row
by_entries w specs row h =
    all_of_map (λ (e : Entry). RowCovers specs row e.file.tuple) (λ (l : Live). l.entry) (live (get w) specs row)
    (subst (CoversEntries specs row) (sym (live_entries w specs row)) h)

of_entries : (w : World) (specs : List Spec) (row : Row) → IsCoveredAt w specs row
    → CoversEntries specs row (live_at w specs row)
of_entries w specs row h =
    subst (CoversEntries specs row) (live_entries w specs row)
    (all_map (λ (e : Entry). RowCovers specs row e.file.tuple) (λ (l : Live). l.entry) (live (get w) specs row) h)

-- ---- one commit

stepped : (s t : State) (c : Commit) → step (Some s) c ≡ Some t → (refusal s c ≡ None) × (next s c ≡ t)
unfolding apply
stepped s t c e = here (refusal s c) refl e where
  here : (r : Option PrepareFault) → refusal s c ≡ r → result_ok (unless r (next s c)) ≡ Some t
      → (refusal s c ≡ None) × (next s c ≡ t)
  here None is e = (is, cc)
  here (Some f) is e = absurd cc

module _ (s t : State) (c : Commit) (none : refusal s c ≡ None) (is : next s c ≡ t) (has : HasBaseAndChange s c t)
    (covered : HasCoveredRows s) where
  specs : table_specs t.metadata.table ≡ table_specs s.metadata.table
  specs = subst (λ (t : State). table_specs t.metadata.table ≡ table_specs s.metadata.table) is (specs_stay s c)

  -- what covers the entries that a row has in the next state
  moved : (row : Row) (found : List Entry) → unwrap_or (entries_at t row) [] ≡ found
      → CoversEntries (table_specs s.metadata.table) row found → IsCoveredAt t.world (table_specs t.metadata.table) row
  moved row found e h =
      by_entries t.world (table_specs t.metadata.table) row
      (subst (CoversEntries (table_specs t.metadata.table) row) (sym e) (subst (λ (of : List Spec). CoversEntries of row
      found) (sym specs) h))

  of_base : AllByRecursion (IsCoveredAt t.world (table_specs t.metadata.table)) (base_rows s.world s.metadata.table)
  of_base =
      let own = table_specs s.metadata.table in
      let rows = base_rows s.world s.metadata.table in
      all_weaker (λ row. (entries_at t row ≡ entries_at s row) × IsCoveredAt s.world own row)
      (IsCoveredAt t.world (table_specs t.metadata.table)) rows
      (λ row h. moved row (live_at s.world own row) (ap (λ o. unwrap_or o []) h.0) (of_entries s.world own row h.1))
      (all_both (λ row. entries_at t row ≡ entries_at s row) (IsCoveredAt s.world own) rows has.base covered)

  of_change : AllByRecursion (λ added. IsCoveredAt t.world (table_specs t.metadata.table) (added_row s added))
      (new_manifests s c)
  of_change =
      let own = table_specs s.metadata.table in
      let sequence = next_sequence s.metadata.table in
      all_weaker (λ added. (entries_at t (added_row s added) ≡ Some (added_entries s added)) × CoversFiles own sequence
      added) (λ added. IsCoveredAt t.world (table_specs t.metadata.table) (added_row s added)) (new_manifests s c)
      (λ added h. moved (added_row s added) (added_entries s added) (ap (λ o. unwrap_or o []) h.0)
      (of_files (RowCovers own (added_row s added)) (added_row s added) added.heading 0 added.files h.1))
      (all_both (λ added. entries_at t (added_row s added) ≡ Some (added_entries s added)) (CoversFiles own sequence)
      (new_manifests s c) has.added (new_covered s c none))

  of_both : HasCoveredRows t
  of_both =
      let at = IsCoveredAt t.world (table_specs t.metadata.table) in
      let rows = base_rows s.world s.metadata.table in
      let more = map (added_row s) (new_manifests s c) in
      subst (AllByRecursion at) (sym (ap (λ o. unwrap_or o []) has.rows))
      (all_sorted at path_before (rows ++ more) (all_append at rows more of_base (all_map at (added_row s)
      (new_manifests s c) of_change)))

pub keeps_covering : KeepsCovering
keeps_covering s t c e has covered = let h = stepped s t c e in of_both s t c h.0 h.1 has covered

-- ---- tables without a current snapshot

pub empty_is_covered : EmptyIsCovered
empty_is_covered s none = subst (AllByRecursion (IsCoveredAt s.world (table_specs s.metadata.table)))
    (ap (λ list. unwrap_or (rows_at s.world list) []) (sym none)) tt

-- ---- journals

in_turn : (h : History) (cs : List Commit) (s : State) → state_of h ≡ Some s → AddInTurn h cs → AreNewTo (Some s) cs
    → HasCoveredRows s → (t : State) → replay (Some s) cs ≡ Some t → HasCoveredRows t
in_turn h [] s is adds new covered t e = let same : s ≡ t = cc in subst HasCoveredRows same covered
in_turn h (c ∷ cs) s is adds new covered t e =
    let P : Option State → Type 0 = λ o. step (Some s) c ≡ o → AreNewTo o cs → replay o cs ≡ Some t
    → HasCoveredRows t in
    let at : (o : Option State) → P o =
    λ o. elim o as P [
      | None ↦ λ to more k. let no : None ≡ Some t = sym (from_none cs) ∙ k in absurd cc
      | Some q ↦ λ to more k.
          in_turn (after h c) cs q (state_after h c ∙ (ap (λ o. step o c) is ∙ to)) adds.1 more (keeps_covering s q c to
          (adds.0 s q is to new.0) covered) t k
    ] in
    at (step (Some s) c) refl new.1 e

pub stays_covered : StaysCovered
unfolding state_of
stays_covered h s grown began is = here (start h.opening) refl where
  here : (o : Option State) → start h.opening ≡ o → HasCoveredRows s
  here None e = let no : None ≡ Some s = sym (from_none h.journal) ∙ (ap (λ o. replay o h.journal) (sym e) ∙ is) in
      absurd cc
  here (Some b) e =
      in_turn (record { opening = h.opening; journal = [] }) h.journal b e grown (subst (λ o. AreNewTo o h.journal) e
      began.new) (began.opening b e) s (ap (λ o. replay o h.journal) (sym e) ∙ is)
