-- Findings on counts stand just where a manifest's entries do not bear them out.
use Rattle.std.proofs.Common.{◌≡◌, ◌≢◌, ◌⊎◌, inl, inr, ℕ, ℤ, Bool, true, false, not, cond, List, [], ◌∷◌, map, refl}
use Rattle.std.proofs.Common.{sym, ap, subst, ◌∙◌, arith, Option, Some, None, Decides}
use Rattle.std.specs.List.{Contains, filter}
use Rattle.std.specs.Ordering.{int_eq}
use Rattle.std.proofs.lemmas.Bool.Decides.{Decides-int_eq}
use Rattle.std.proofs.lemmas.List.Elements.{Contains-append_left, Contains-append_cases}
use Rattle.ice_manifest_reading.specs.declared.entry.Live.{Live}
use Rattle.ice_manifest_reading.specs.declared.row.Row.{Row}
use Rattle.ice_manifest_reading.specs.declared.tally.Tallies.{Tallies}
use Rattle.ice_meta.specs.declared.spec.Spec.{Spec}
use Rattle.ice_state.proofs.Elements.{contains_more}
use Rattle.icescan_audit_findings.specs.declared.basis.Basis.{Basis}
use Rattle.icescan_audit_findings.specs.declared.finding.Count.{Count}
use Rattle.icescan_audit_findings.specs.declared.finding.Count.TheVariants.{AddedFiles, ExistingFiles, DeletedFiles}
use Rattle.icescan_audit_findings.specs.declared.finding.Count.TheVariants.{AddedRows, ExistingRows, DeletedRows}
use Rattle.icescan_audit_findings.specs.declared.finding.Finding.{Finding}
use Rattle.icescan_audit_findings.specs.declared.finding.Flaw.TheVariants.{Miscounted}
use Rattle.icescan_audit_findings.specs.Counting.{all_counts, count_flaws, has_all, is_borne_out, listed, miscounted}
use Rattle.icescan_audit_findings.specs.Counting.{there_are}
use Rattle.icescan_audit_findings.specs.Coverage.{row_limits}
use Rattle.icescan_audit_findings.specs.Findings.{entry_findings, finding_of, live_findings, live_flaws}
use Rattle.icescan_audit_findings.specs.Findings.{manifest_finding}
use Rattle.icescan_audit_findings.specs.Findings.{manifest_findings}
use Rattle.icescan_audit_findings.specs.Telling.{IsMiscounted}
use Rattle.icescan_audit_findings.proofs.Members.{at_head, first_or_behind, from_flat, from_map, in_map, in_none}

-- ---- those of a list for which a test holds

still_there : {X : Type 0} (b : Bool) (y x : X) (zs : List X) → Contains zs x → Contains (cond b (y ∷ zs) zs) x
still_there true y x zs c = contains_more y x zs c
still_there false y x zs c = c

pub in_filter : {X : Type 0} (p : X → Bool) (xs : List X) (x : X) → Contains xs x → p x ≡ true → Contains (filter p xs) x
in_filter p [] x c h = absurd (in_none x c)
in_filter p (y ∷ ys) x c h = elim (first_or_behind y x ys c) as (λ _. Contains (filter p (y ∷ ys)) x) [
  | inl e ↦ (let here : p y ≡ true = ap p e ∙ h in
      rw here (subst (λ z. Contains (z ∷ filter p ys) x) (sym e) (at_head x (filter p ys))))
  | inr m ↦ still_there (p y) y x (filter p ys) (in_filter p ys x m h)
]

first_or_later : {X : Type 0} (b : Bool) (y x : X) (zs : List X) → Contains (cond b (y ∷ zs) zs) x
    → ((b ≡ true) × (y ≡ x)) ⊎ Contains zs x
first_or_later true y x zs c = elim (first_or_behind y x zs c) as (λ _. ((true ≡ true) × (y ≡ x)) ⊎ Contains zs x) [
  | inl e ↦ inl (refl, e)
  | inr m ↦ inr m
]
first_or_later false y x zs c = inr c

from_filter : {X : Type 0} (p : X → Bool) (xs : List X) (x : X) → Contains (filter p xs) x → p x ≡ true
from_filter p [] x c = absurd (in_none x c)
from_filter p (y ∷ ys) x c = elim (first_or_later (p y) y x (filter p ys) c) as (λ _. p x ≡ true) [
  | inl e ↦ sym (ap p e.1) ∙ e.0
  | inr m ↦ from_filter p ys x m
]

-- ---- one count

differs : (b : Bool) (P : Type 0) → Decides b P → not b ≡ true → P → ⊥
differs true P d h p = absurd cc
differs false P d h p = let is : false ≡ true = d.1 p in absurd cc

differs_back : (b : Bool) (P : Type 0) → Decides b P → (P → ⊥) → not b ≡ true
differs_back true P d h = absurd (h (d.0 refl))
differs_back false P d h = refl

is_other : (count : Option ℤ) (number : ℤ) → not (is_borne_out count number) ≡ true
    → (n : ℤ) × (count ≡ Some n) × (n ≢ number)
is_other None number h = absurd cc
is_other (Some n) number h = (n, refl, differs (int_eq n number) (n ≡ number) (Decides-int_eq n number) h)

is_other_back : (count : Option ℤ) (number n : ℤ) → count ≡ Some n → n ≢ number
    → not (is_borne_out count number) ≡ true
is_other_back None number n is other = absurd cc
is_other_back (Some m) number n is other =
    let same : m ≡ n = cc in
    differs_back (int_eq m number) (m ≡ number) (Decides-int_eq m number) (λ e. other (sym same ∙ e))

is_there : (count : Count) → Contains all_counts count
is_there AddedFiles = (0, omega arith, refl)
is_there ExistingFiles = (1, omega arith, refl)
is_there DeletedFiles = (2, omega arith, refl)
is_there AddedRows = (3, omega arith, refl)
is_there ExistingRows = (4, omega arith, refl)
is_there DeletedRows = (5, omega arith, refl)

-- ---- the findings on a manifest

module _ (basis : Basis) (row : Row) (spec : Spec) (tallies : Tallies) (lives : List Live) (count : Count) where
  abbrev is_wrong : Count → Bool
  is_wrong c = not (has_all row.counts tallies c)

  abbrev finding : Finding
  finding = manifest_finding row (Miscounted count)

  of_counts : Contains (map (manifest_finding row) (count_flaws row tallies)) finding
      → IsMiscounted row.counts tallies count
  of_counts c =
      let found = from_map (manifest_finding row) (count_flaws row tallies) finding c in
      let counted = from_map Miscounted (miscounted row.counts tallies all_counts) found.0 found.1 in
      let same : Miscounted counted.0 ≡ Miscounted count = counted.2 ∙ ap (λ (x : Finding). x.flaw) found.2 in
      let is : counted.0 ≡ count = cc in
      let wrong = from_filter is_wrong all_counts counted.0 counted.1 in
      subst (λ (k : Count). IsMiscounted row.counts tallies k) is
      (is_other (listed row.counts counted.0) (there_are tallies counted.0) wrong)

  of_entries : Contains (live_findings basis row spec lives) finding → ⊥
  of_entries c =
      let limits = row_limits spec row.partitions in
      let at = from_flat (entry_findings basis row limits) lives finding c in
      let found = from_map (finding_of row at.0.entry) (live_flaws basis row limits at.0) finding at.2 in
      let none : ◌≡◌ {A = Option (List ℕ)} (Some at.0.entry.file.path) None = ap (λ (x : Finding). x.file) found.2 in
      absurd cc

  pub from_finding : Contains (manifest_findings basis row spec tallies lives) finding
      → IsMiscounted row.counts tallies count
  from_finding c =
      elim (Contains-append_cases (map (manifest_finding row) (count_flaws row tallies))
      (live_findings basis row spec lives) finding c) as (λ _. IsMiscounted row.counts tallies count) [
        | inl m ↦ of_counts m
        | inr m ↦ absurd (of_entries m)
      ]

  pub to_finding : IsMiscounted row.counts tallies count
      → Contains (manifest_findings basis row spec tallies lives) finding
  to_finding h =
      let wrong = is_other_back (listed row.counts count) (there_are tallies count) h.0 h.1 h.2 in
      let counted = in_filter is_wrong all_counts count (is_there count) wrong in
      let flaw = in_map Miscounted (miscounted row.counts tallies all_counts) count counted in
      let found = in_map (manifest_finding row) (count_flaws row tallies) (Miscounted count) flaw in
      Contains-append_left (map (manifest_finding row) (count_flaws row tallies)) (live_findings basis row spec lives)
      finding found
