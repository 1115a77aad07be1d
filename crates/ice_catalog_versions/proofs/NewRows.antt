-- The rows of the manifests of a commit that isn't refused cover the tuples of their files.
use Rattle.std.proofs.Common.{◌≡◌, ℕ, ◌+◌, ℤ, Bool, true, false, cond, List, [], ◌∷◌, filter, find, refl, sym, ◌∙◌, ap}
use Rattle.std.proofs.Common.{subst}
use Rattle.std.specs.Prelude.{Option, None, Some}
use Rattle.std.specs.List.{AllByRecursion}
use Rattle.std.specs.Ordering.{int_eq}
use Rattle.std.proofs.lemmas.Bool.Decides.{Decides-int_eq}
use Rattle.ice_meta.specs.declared.spec.Spec.{Spec}
use Rattle.ice_meta.specs.Targets.{Described}
use Rattle.ice_manifest.specs.declared.new_file.NewFile.{NewFile}
use Rattle.ice_manifest_reading.specs.declared.row.ManifestContent.{ManifestContent}
use Rattle.ice_manifest_reading.specs.declared.row.ManifestContent.TheVariants.{Data, Deletes}
use Rattle.ice_manifest.specs.NewRows.{new_row, summaries}
use Rattle.ice_manifest.proofs.Summaries.{by_summaries}
use Rattle.ice_state.specs.Covering.{Covers}
use Rattle.ice_state.specs.Specs.{spec_of}
use Rattle.ice_catalog_changes.specs.declared.change.Commit.{Commit}
use Rattle.ice_catalog_changes.specs.declared.change.Ids.{Ids}
use Rattle.ice_catalog_changes.specs.declared.fault.PrepareFault.TheVariants as fault
use Rattle.ice_catalog_versions.specs.Adding.{NewManifest, heading_of, manifest_of, manifests_from, next_sequence}
use Rattle.ice_catalog_versions.specs.Adding.{spec_or_none}
use Rattle.ice_catalog_versions.specs.Adding.{types_of}
use Rattle.ice_catalog_versions.specs.Bases.{spec_in, table_specs}
use Rattle.ice_catalog_versions.specs.Covered.{CoversFiles, NewRowsCover}
use Rattle.ice_catalog_versions.specs.Groups.{Group, group_of, groups, groups_of, is_of_spec, spec_ids}
use Rattle.ice_catalog_versions.specs.Refusals.{all_files, is_wrong, refusal}
use Rattle.ice_catalog_versions.specs.States.{State}
use Rattle.ice_catalog_versions.specs.Tuples.{fits_spec}
use Rattle.ice_catalog_versions.proofs.Leasts.{no_path, none_passes, unmapped, unnamed}
use Rattle.ice_catalog_versions.proofs.Reasons.{none_stand}
use Rattle.ice_catalog_versions.proofs.NewSummaries.{told}
use Rattle.ice_catalog_versions.proofs.Writable.{all_append, all_filter, all_here, all_map, all_split, all_weaker}
use Rattle.ice_catalog_versions.proofs.Writable.{not_true}

-- ---- the files of a group fit its spec

abbrev HasFitting : List Spec → Group → Type 0
HasFitting specs g = AllByRecursion (λ (f : NewFile). fits_spec (spec_in specs g.spec_id) f.tuple ≡ true) g.files

fitting_file : (specs : List Spec) (id : ℤ) (f : NewFile) → (is_wrong specs f ≡ false) × (is_of_spec id f ≡ true)
    → fits_spec (spec_in specs id) f.tuple ≡ true
fitting_file specs id f h =
    let same : f.spec_id ≡ id = (Decides-int_eq f.spec_id id).0 h.1 in
    ap (λ i. fits_spec (spec_in specs i) f.tuple) (sym same) ∙ not_true (fits_spec (spec_in specs f.spec_id) f.tuple)
    h.0

fitting_of : (specs : List Spec) (content : ManifestContent) (files : List NewFile)
    → AllByRecursion (λ f. is_wrong specs f ≡ false) files → AllByRecursion (HasFitting specs) (groups_of content files)
fitting_of specs content files right =
    all_map (HasFitting specs) (group_of content files) (spec_ids files)
    (all_here (λ id. HasFitting specs (group_of content files id)) (spec_ids files) (λ id.
    all_weaker (λ f. (is_wrong specs f ≡ false) × (is_of_spec id f ≡ true)) (λ f. fits_spec (spec_in specs id) f.tuple
    ≡ true) (filter (is_of_spec id) files)
    (fitting_file specs id) (all_filter (λ f. is_wrong specs f ≡ false) (is_of_spec id) files right)))

fitting : (s : State) (c : Commit) → refusal s c ≡ None → AllByRecursion (HasFitting (table_specs s.metadata.table))
    (groups c.change)
fitting s c none =
    let specs = table_specs s.metadata.table in
    let right = all_split (λ f. is_wrong specs f ≡ false) c.change.files c.change.deletes
    (none_passes (is_wrong specs) (all_files c.change) (unnamed (is_wrong specs) (all_files c.change)
    (no_path _ (unmapped fault.WrongTuple _ (none_stand s c none).1.1.1.1.1.1.0)))) in
    all_append (HasFitting specs) (groups_of Data c.change.files) (groups_of Deletes c.change.deletes)
    (fitting_of specs Data c.change.files right.0) (fitting_of specs Deletes c.change.deletes right.1)

-- ---- the row of a group covers its files

found_passes : {A : Type 0} (test : A → Bool) (xs : List A) (x : A) → find test xs ≡ Some x → test x ≡ true
found_passes test [] x e = absurd cc
found_passes {A} test (y ∷ xs) x e =
    let P : Bool → Type 0 = λ b. test y ≡ b → cond b (Some y) (find test xs) ≡ Some x → test x ≡ true in
    let at : (b : Bool) → P b =
    λ b. elim b as P [
      | true ↦ λ passes k. let same : y ≡ x = cc in subst (λ z. test z ≡ true) same passes
      | false ↦ λ fails k. found_passes test xs x k
    ] in
    at (test y) refl e

abbrev FileIsCovered : List Spec → Spec → List NewFile → NewFile → Type 0
FileIsCovered specs own files f = (spec : Spec) → spec_of specs own.id ≡ Some spec
    → Covers spec (summaries (types_of own) files) f.tuple

files_covered : (specs : List Spec) (id : ℤ) (files : List NewFile) (o : Option Spec) → spec_in specs id ≡ o
    → AllByRecursion (λ (f : NewFile). fits_spec o f.tuple ≡ true) files
    → AllByRecursion (FileIsCovered specs (spec_or_none id o) files) files
files_covered specs id files None is fits = all_weaker (λ (f : NewFile). fits_spec None f.tuple ≡ true)
    (FileIsCovered specs (spec_or_none id None) files) files (λ f h. absurd cc) fits
files_covered specs id files (Some own) is fits =
    let named : own.id ≡ id = (Decides-int_eq own.id id).0 (found_passes (λ (spec : Spec). int_eq spec.id id) specs own
    is) in
    all_weaker _ (FileIsCovered specs own files) files
    (λ f h spec e.
    let both : Some own ≡ Some spec = sym is ∙ (ap (spec_in specs) (sym named) ∙ e) in
    let same : own ≡ spec = cc in
    subst (λ (s : Spec). Covers s (summaries (types_of own) files) f.tuple) same
    (by_summaries (λ ss. Covers own ss f.tuple) (types_of own) files tt (λ _. h)))
    (told own.fields files fits)

group_covered : (m : Described) (ids : Ids) (sequence : ℕ) (g : Group) → HasFitting (table_specs m.table) g → (n : ℕ)
    → CoversFiles (table_specs m.table) sequence (manifest_of m ids n g)
unfolding heading_of new_row
group_covered m ids sequence g fits n =
    files_covered (table_specs m.table) g.spec_id g.files (spec_in (table_specs m.table) g.spec_id) refl fits

all_numbered : (Q : NewManifest → Type 0) (m : Described) (ids : Ids) (n : ℕ) (gs : List Group)
    → AllByRecursion (λ g. (n : ℕ) → Q (manifest_of m ids n g)) gs → AllByRecursion Q (manifests_from m ids n gs)
all_numbered Q m ids n [] all = tt
all_numbered Q m ids n (g ∷ gs) all = (all.0 n, all_numbered Q m ids (n + 1) gs all.1)

pub new_covered : NewRowsCover
new_covered s c none =
    let specs = table_specs s.metadata.table in
    let sequence = next_sequence s.metadata.table in
    all_numbered (CoversFiles specs sequence) s.metadata c.ids 0 (groups c.change)
    (all_weaker (HasFitting specs) (λ g. (n : ℕ) → CoversFiles specs sequence (manifest_of s.metadata c.ids n g))
    (groups c.change) (group_covered s.metadata c.ids sequence) (fitting s c none))
