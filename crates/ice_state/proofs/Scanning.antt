-- What a scan wants, and when there is none.
use Rattle.std.proofs.Common.{◌≡◌, ◌↔◌, ℤ, List, [], ◌∷◌, refl, sym, ap, ◌∙◌, Bool, true, false, filter, arith, subst}
use Rattle.std.proofs.Common.{Option, Some, None, is_none, Err}
use Rattle.std.specs.List.{Contains}
use Rattle.std.specs.List.Sorted.{IsSortedBy}
use Rattle.std.specs.Option.{IsSome}
use Rattle.contract_words.proofs.Sorted.{Rises, sorted_rises, filter-sorted, irreflexive}
use Rattle.ice_filter.specs.declared.bound.BoundPredicate.{BoundPredicate}
use Rattle.ice_filter.specs.declared.parts.Part.{Part}
use Rattle.ice_meta.specs.declared.spec.Spec.{Spec}
use Rattle.ice_manifest_reading.specs.declared.row.Row.{Row}
use Rattle.ice_state.specs.declared.fault.ScanFault.TheVariants.{NoSuchSpec}
use Rattle.ice_state.specs.Scans.{Scanned, pruner, row_before, by_row_path, without_spec, wanted_rows, unless_missing}
use Rattle.ice_state.specs.Scans.{scan_with, scan_of, IsScanOf, IsFirstUnknown}
use Rattle.ice_state.specs.Specs.{spec_of}
use Rattle.ice_state.proofs.Elements.{filtered, refiltered, all_at, sorted_contains, contains_sorted, sorted_from_rises}
use Rattle.ice_state.proofs.Scans.{row_order, scan_is, same_pruner}
use Rattle.ice_state.proofs.Specs.{spec_of-by_id}

abbrev unknown_row : List Spec → Row → Bool
unknown_row specs row = is_none (spec_of specs row.spec_id)

there : (o : Option Spec) → is_none o ≡ false → IsSome o
there None h = cc
there (Some spec) h = refl

nowhere : (o : Option Spec) → is_none o ≡ true → o ≡ None
nowhere None h = refl
nowhere (Some spec) h = cc

pub known : (rows : List Row) (specs : List Spec) (scan : Scanned) (row : Row) → IsScanOf rows specs scan
    → Contains rows row → IsSome (spec_of specs row.spec_id)
known rows specs scan row h c =
    let P : (b : Bool) → unknown_row specs row ≡ b → unknown_row specs row ≡ false =
    λ b. elim b as (λ v. unknown_row specs row ≡ v → unknown_row specs row ≡ false) [
      | true ↦ λ t.
          let one : Contains (without_spec specs (by_row_path rows)) row = refiltered (unknown_row specs)
          (by_row_path rows) row (contains_sorted row_before rows row c) t in
          let none : Contains [] row = subst (λ (xs : List Row). Contains xs row) (scan_is rows specs scan h).0 one in
          absurd (omega (arith, none.1))
      | false ↦ λ f. f
    ] in
    there (spec_of specs row.spec_id) (P (unknown_row specs row) refl)

pub same_specs : (rows : List Row) (specs : List Spec) (scan : Scanned) (id : ℤ) → IsScanOf rows specs scan
    → spec_of scan.specs id ≡ spec_of specs id
same_specs rows specs scan id h = ap (λ (s : Scanned). spec_of s.specs id) (sym (scan_is rows specs scan h).1) ∙
    spec_of-by_id specs id

wanted_is : (rows : List Row) (specs : List Spec) (scan : Scanned) → IsScanOf rows specs scan
    → wanted_rows (pruner scan) (by_row_path rows) ≡ scan.wanted
wanted_is rows specs scan h = ap (λ p. wanted_rows p (by_row_path rows)) (same_pruner rows specs scan h) ∙ ap
    (λ (s : Scanned). s.wanted) (scan_is rows specs scan h).1

pub members : (rows : List Row) (specs : List Spec) (scan : Scanned) (row : Row) → IsScanOf rows specs scan
    → Contains scan.wanted row ↔ (Contains rows row × ((pruner scan).wants row ≡ true))
members rows specs scan row h = (
  λ c.
      let f = filtered (pruner scan).wants (by_row_path rows) row (subst (λ (xs : List Row). Contains xs row)
      (sym (wanted_is rows specs scan h)) c) in
      (sorted_contains row_before rows row f.0, f.1),
  λ m. subst (λ (xs : List Row). Contains xs row) (wanted_is rows specs scan h) (refiltered (pruner scan).wants
      (by_row_path rows) row (contains_sorted row_before rows row m.0) m.1),
)

pub in_order : (rows : List Row) (specs : List Spec) (scan : Scanned) → IsScanOf rows specs scan
    → IsSortedBy row_before scan.wanted
in_order rows specs scan h =
    let rises : Rises row_before row_order (wanted_rows (pruner scan) (by_row_path rows)) =
    subst (Rises row_before row_order) (sym (filter-sorted row_before row_order (pruner scan).wants rows))
    (sorted_rises row_before row_order (filter (pruner scan).wants rows)) in
    subst (IsSortedBy row_before) (wanted_is rows specs scan h) (sorted_from_rises row_before row_order
    (wanted_rows (pruner scan) (by_row_path rows)) rises)

pub refused : (rows : List Row) (specs : List Spec) (parts : List (Part BoundPredicate)) (id : ℤ)
    → scan_of rows specs parts ≡ Err (NoSuchSpec id) → (row : Row) × IsFirstUnknown specs rows id row
refused rows specs parts id h =
    let made : Scanned = scan_with rows specs parts in
    let rises : Rises row_before row_order (without_spec specs (by_row_path rows)) =
    subst (Rises row_before row_order) (sym (filter-sorted row_before row_order (unknown_row specs) rows))
    (sorted_rises row_before row_order (filter (unknown_row specs) rows)) in
    let P : (xs : List Row) → without_spec specs (by_row_path rows) ≡ xs → Rises row_before row_order xs
    → unless_missing xs made ≡ Err (NoSuchSpec id) → (row : Row) × IsFirstUnknown specs rows id row =
    λ xs. elim xs as (λ v. without_spec specs (by_row_path rows) ≡ v → Rises row_before row_order v
    → unless_missing v made ≡ Err (NoSuchSpec id) → (row : Row) × IsFirstUnknown specs rows id row) [
      | [] ↦ λ e r k. cc
      | row ∷ rest ↦ λ e r k.
          let named : row.spec_id ≡ id = cc in
          let first : Contains (without_spec specs (by_row_path rows)) row = subst (λ (v : List Row). Contains v row)
          (sym e) (0, omega arith, refl) in
          let f = filtered (unknown_row specs) (by_row_path rows) row first in (
            row,
            record {
              among = sorted_contains row_before rows row f.0;
              named = named;
              unknown = ap (spec_of specs) (sym named) ∙ nowhere (spec_of specs row.spec_id) f.1;
              least = λ other c u.
                  let one : Contains (without_spec specs (by_row_path rows)) other = refiltered (unknown_row specs)
                  (by_row_path rows) other (contains_sorted row_before rows other c) (ap is_none u) in
                  all_at (λ (y : Row). row_before y row ≡ false) (row ∷ rest) other (
                    irreflexive row_before row_order
                        row,
                    r.0,
                  ) (subst (λ (v : List Row). Contains v other) e one);
            },
          )
    ] in
    P (without_spec specs (by_row_path rows)) refl rises h
