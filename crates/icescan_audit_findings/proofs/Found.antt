-- What was examined of the live entries of a manifest.
use Rattle.std.proofs.Common.{◌≡◌, suc, List, [], ◌∷◌, ◌++◌, length, map, refl, ap, append_assoc}
use Rattle.std.specs.Prelude.{Result, Ok, Err}
use Rattle.std.specs.List.{flat_map}
use Rattle.ice_manifest_fields.specs.declared.fault.ManifestFault.{ManifestFault}
use Rattle.ice_manifest_reading.specs.Telling.{told_of}
use Rattle.ice_manifest_reading.specs.declared.entry.Live.{Live}
use Rattle.ice_manifest_reading.specs.declared.row.Row.{Row}
use Rattle.ice_manifest_reading.specs.declared.tally.Tallies.{Tallies}
use Rattle.ice_meta.specs.declared.spec.Spec.{Spec}
use Rattle.icescan_audit_findings.specs.declared.basis.Basis.{Basis}
use Rattle.icescan_audit_findings.specs.declared.examined.Examined.{Examined}
use Rattle.icescan_audit_findings.specs.declared.finding.Finding.{Finding}
use Rattle.icescan_audit_findings.specs.declared.repeats.LiveFile.{LiveFile}
use Rattle.icescan_audit_findings.specs.Counting.{count_flaws}
use Rattle.icescan_audit_findings.specs.Coverage.{row_limits}
use Rattle.icescan_audit_findings.specs.Examining.{examined, file_at, findings_on}
use Rattle.icescan_audit_findings.specs.Findings.{entry_findings, live_findings, manifest_finding, manifest_findings}
use Rattle.icescan_audit_findings.specs.Repeats.{live_file, live_files}

module _ (basis : Basis) (row : Row) (spec : Spec) where
  abbrev seen : Live → Examined
  seen l = examined basis row (row_limits spec row.partitions) l

  same_number : (ls : List Live) → length (map seen ls) ≡ length ls
  same_number [] = refl
  same_number (l ∷ ls) = ap (λ n. suc n) (same_number ls)

  same_findings : (ls : List Live) → flat_map (findings_on row) (map seen ls) ≡ live_findings basis row spec ls
  same_findings [] = refl
  same_findings (l ∷ ls) =
      ap (λ (more : List Finding). entry_findings basis row (row_limits spec row.partitions) l ++ more)
      (same_findings ls)

  same_files : (ls : List Live) → map (file_at row) (map seen ls) ≡ live_files basis row ls
  same_files [] = refl
  same_files (l ∷ ls) = ap (λ (more : List LiveFile). live_file basis row l.entry ∷ more) (same_files ls)

  -- what was told of the live entries of a manifest that was read
  pub told_ok : (read : Result (List Live) ManifestFault) (found : List Examined) → told_of seen read ≡ Ok found
      → (lives : List Live) × (read ≡ Ok lives) × (found ≡ map seen lives)
  told_ok (Ok ls) found h = (ls, refl, cc)
  told_ok (Err e) found h = absurd cc

  pub told_err : (read : Result (List Live) ManifestFault) (fault : ManifestFault) → told_of seen read ≡ Err fault
      → read ≡ Err fault
  told_err (Ok ls) fault h = absurd cc
  told_err (Err e) fault h = let same : e ≡ fault = cc in ap Err same

  pub number_of : (found : List Examined) (ls : List Live) → found ≡ map seen ls → length found ≡ length ls
  number_of found ls is = rw (is, same_number ls) refl

  pub findings_of : (old : List Finding) (tallies : Tallies) (found : List Examined) (ls : List Live)
      → found ≡ map seen ls → (old ++ map (manifest_finding row) (count_flaws row tallies))
      ++ flat_map (findings_on row) found ≡ old ++ manifest_findings basis row spec tallies ls
  findings_of old tallies found ls is = rw (is, same_findings ls, append_assoc) refl

  pub files_of : (found : List Examined) (ls : List Live) → found ≡ map seen ls
      → map (file_at row) found ≡ live_files basis row ls
  files_of found ls is = rw (is, same_files ls) refl
