-- What the findings on a manifest tell of its row's summaries.
use Rattle.std.proofs.Common.{◌≡◌, ℕ, suc, arith, List, [], ◌∷◌, length, map, refl, sym, ◌∙◌, Option, Some, None}
use Rattle.std.proofs.Common.{subst}
use Rattle.std.specs.List.{AllByRecursion, Contains}
use Rattle.ice_value.specs.declared.cell.Cell.{Cell}
use Rattle.ice_value.specs.declared.file_bounds.Summary.{Summary}
use Rattle.ice_manifest_reading.specs.Laws.{HasACellForEach}
use Rattle.ice_manifest_reading.specs.Manifests.{live_of}
use Rattle.std.specs.Prelude.{Ok}
use Rattle.ice_manifest_reading.specs.declared.entry.Live.{Live}
use Rattle.ice_manifest_reading.specs.declared.row.Row.{Row}
use Rattle.ice_manifest_reading.specs.declared.tally.Tallies.{Tallies}
use Rattle.ice_meta.specs.declared.spec.Spec.{Spec}
use Rattle.ice_state.specs.Covering.{Covers, RowCovers}
use Rattle.ice_state.specs.Specs.{spec_of}
use Rattle.icescan_audit_findings.specs.declared.basis.Basis.{Basis}
use Rattle.icescan_audit_findings.specs.declared.finding.Finding.{Finding}
use Rattle.icescan_audit_findings.specs.Coverage.{outside, row_limits}
use Rattle.icescan_audit_findings.specs.Counting.{count_flaws}
use Rattle.icescan_audit_findings.specs.Findings.{entry_findings, live_findings, manifest_finding, manifest_findings}
use Rattle.icescan_audit_findings.specs.Telling.{uncovered}
use Rattle.icescan_audit_findings.proofs.CoverageLaws.{covered_by, none_by}
use Rattle.icescan_audit_findings.proofs.Told.{no_counts, none_of_all, none_of_both, told, told_back}

covered_where_none : (spec : Spec) (summaries : Option (List Summary)) (tuple : List Cell)
    → length tuple ≡ length spec.fields → outside (row_limits spec summaries) tuple ≡ [] → Covers spec summaries tuple
covered_where_none spec None tuple full h = tt
covered_where_none spec (Some ss) tuple full h = covered_by spec ss tuple full h

none_where_covered : (spec : Spec) (summaries : Option (List Summary)) (tuple : List Cell)
    → Covers spec summaries tuple → outside (row_limits spec summaries) tuple ≡ []
none_where_covered spec None tuple h = refl
none_where_covered spec (Some ss) tuple h = none_by spec ss tuple h

-- what each element of a list has, at its place
each_at : (P : Live → Type 0) (ls : List Live) → ((l : Live) → Contains ls l → P l) → AllByRecursion P ls
each_at P [] h = tt
each_at P (l ∷ ls) h = (h l (0, omega arith, refl), each_at P ls (λ x c. h x (suc c.0, omega arith, c.2)))

module _ (basis : Basis) (row : Row) (spec : Spec) (is : spec_of basis.specs row.spec_id ≡ Some spec) where
  abbrev IsFull : Live → Type 0
  IsFull l = length l.entry.file.tuple ≡ length spec.fields

  only : (other : Spec) → spec_of basis.specs row.spec_id ≡ Some other → spec ≡ other
  only other h = let same : Some spec ≡ Some other = sym is ∙ h in cc

  abbrev findings_in : List Live → List Finding
  findings_in ls = live_findings basis row spec ls

  -- of one entry
  pub covered_one : (l : Live) → length l.entry.file.tuple ≡ length spec.fields
      → uncovered (entry_findings basis row (row_limits spec row.partitions) l) ≡ []
      → RowCovers basis.specs row l.entry.file.tuple
  covered_one l full h =
      let covers = covered_where_none spec row.partitions l.entry.file.tuple full
      (told row l basis (row_limits spec row.partitions) h) in
      λ other found. subst (λ (s : Spec). Covers s row.partitions l.entry.file.tuple) (only other found) covers

  pub none_of_one : (l : Live) → RowCovers basis.specs row l.entry.file.tuple
      → uncovered (entry_findings basis row (row_limits spec row.partitions) l) ≡ []
  none_of_one l h = told_back row l basis (row_limits spec row.partitions)
      (none_where_covered spec row.partitions l.entry.file.tuple (h spec is))

  covered_in : (ls : List Live) → AllByRecursion IsFull ls → uncovered (findings_in ls) ≡ []
      → AllByRecursion (λ (l : Live). RowCovers basis.specs row l.entry.file.tuple) ls
  covered_in [] full h = tt
  covered_in (l ∷ ls) full h =
      let parts = none_of_both (entry_findings basis row (row_limits spec row.partitions) l) (findings_in ls) h in
      (covered_one l full.0 parts.0, covered_in ls full.1 parts.1)

  none_in : (ls : List Live) → AllByRecursion (λ (l : Live). RowCovers basis.specs row l.entry.file.tuple) ls
      → uncovered (findings_in ls) ≡ []
  none_in [] h = refl
  none_in (l ∷ ls) h =
      none_of_all (entry_findings basis row (row_limits spec row.partitions) l) (findings_in ls)
      (none_of_one l h.0) (none_in ls h.1)

-- no finding says that a summary does not cover an entry just where the row's summaries cover all entries
pub told_of_manifest : (full : HasACellForEach) (basis : Basis) (row : Row) (spec : Spec)
    → spec_of basis.specs row.spec_id ≡ Some spec → (bytes : List ℕ) (tallies : Tallies) (lives : List Live)
    → live_of row spec bytes ≡ Ok lives → uncovered (manifest_findings basis row spec tallies lives) ≡ []
    → AllByRecursion (λ (l : Live). RowCovers basis.specs row l.entry.file.tuple) lives
told_of_manifest full basis row spec is bytes tallies lives has none = covered_in basis row spec is lives
    (each_at (IsFull basis row spec is) lives (λ l c. full row spec bytes lives l has c))
    (none_of_both (map (manifest_finding row) (count_flaws row tallies))
    (live_findings basis row spec lives) none).1

pub told_of_covered : (basis : Basis) (row : Row) (spec : Spec) → spec_of basis.specs row.spec_id ≡ Some spec
    → (tallies : Tallies) (lives : List Live)
    → AllByRecursion (λ (l : Live). RowCovers basis.specs row l.entry.file.tuple) lives
    → uncovered (manifest_findings basis row spec tallies lives) ≡ []
told_of_covered basis row spec is tallies lives covered =
    none_of_all (map (manifest_finding row) (count_flaws row tallies))
    (live_findings basis row spec lives) (no_counts row tallies)
    (none_in basis row spec is lives covered)
