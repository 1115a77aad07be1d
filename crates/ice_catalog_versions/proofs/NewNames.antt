-- The uuid of a commit is in the path of each file that it adds.
use Rattle.std.proofs.Common.{◌≡◌, ◌+◌, inl, inr, ℕ, List, [], ◌∷◌, ◌++◌, map, refl, sym, ap, ◌∙◌, subst, append_assoc}
use Rattle.std.specs.Prelude.{codes, Option, None, Some}
use Rattle.std.specs.FinMap.{get}
use Rattle.std.specs.Fmt.{decimal, signed_decimal}
use Rattle.std.specs.List.{AllByRecursion, Contains}
use Rattle.std.proofs.lemmas.List.Elements.{Contains-append_cases}
use Rattle.ice_meta.specs.declared.table.Table.{Table}
use Rattle.ice_meta.specs.Targets.{Described}
use Rattle.ice_manifest_reading.proofs.Sets.{cases_of, here, later, nowhere}
use Rattle.ice_catalog_changes.specs.declared.change.Commit.{Commit}
use Rattle.ice_catalog_changes.specs.declared.change.Ids.{Ids}
use Rattle.ice_catalog_changes.specs.NewFiles.{Added, uuid_text}
use Rattle.ice_catalog_versions.specs.Adding.{added, file_of, list_path, manifest_path, manifests_from}
use Rattle.ice_catalog_versions.specs.Groups.{Group, groups}
use Rattle.ice_catalog_versions.specs.NewNames.{CarriesItsUuid, IsInNoPath, IsPartOf, MakesNewNames}
use Rattle.ice_catalog_versions.specs.States.{State}

-- ---- names

in_manifest : (t : Table) (ids : Ids) (n : ℕ) → IsPartOf (uuid_text ids) (manifest_path t ids n)
unfolding manifest_path
in_manifest t ids n =
    let front = t.location ++ codes "/metadata/" in
    let text = uuid_text ids in
    let rest = codes "-m" ++ decimal n ++ codes ".avro" in
    let name = ap (λ x. x ++ codes ".avro") (append_assoc text (codes "-m") (decimal n))
    ∙ append_assoc text (codes "-m" ++ decimal n) (codes ".avro") in
    (front, rest, ap (λ x. front ++ x) name ∙ sym (append_assoc front text rest))

in_list : (t : Table) (ids : Ids) → IsPartOf (uuid_text ids) (list_path t ids)
unfolding list_path
in_list t ids =
    let front = t.location ++ codes "/metadata/" in
    let more = codes "snap-" ++ signed_decimal ids.snapshot ++ codes "-" in
    let text = uuid_text ids in
    let rest = codes ".avro" in (
      front ++ more,
      rest,
      sym (append_assoc front (more ++ text) rest) ∙ ap (λ x. x ++ rest) (sym (append_assoc front
          more text)),
    )

-- ---- files

abbrev Carries : Ids → List ℕ × List ℕ → Type 0
Carries ids file = IsPartOf (uuid_text ids) file.0

in_manifests : (m : Described) (ids : Ids) (n : ℕ) (gs : List Group) (file : List ℕ × List ℕ)
    → Contains (map file_of (manifests_from m ids n gs)) file → Carries ids file
in_manifests m ids n [] file i = absurd (nowhere file i)
in_manifests m ids n (g ∷ gs) file i = elim (cases_of _ (map file_of (manifests_from m ids (n + 1) gs)) file i) as
    (λ _. Carries ids file) [
      | inl same ↦ subst (Carries ids) same (in_manifest m.table ids n)
      | inr j ↦ in_manifests m ids (n + 1) gs file j
    ]

carried : (s : State) (c : Commit) (file : List ℕ × List ℕ) → Contains (added s c) file → Carries c.ids file
unfolding added
carried s c file i = elim (Contains-append_cases (map file_of (manifests_from s.metadata c.ids 0 (groups c.change))) _
    file i) as (λ _. Carries c.ids file) [
      | inl manifest ↦ in_manifests s.metadata c.ids 0 (groups c.change) file manifest
      | inr list ↦ elim (cases_of _ [] file list) as (λ _. Carries c.ids file) [
        | inl same ↦ subst (Carries c.ids) same (in_list s.metadata.table c.ids)
        | inr none ↦ absurd (nowhere file none)
      ]
    ]

pub carries_its_uuid : CarriesItsUuid
carries_its_uuid s c path bytes i = carried s c (path, bytes) i

-- ---- what is there

all_new : (s : State) (c : Commit) (files : Added) → IsInNoPath (uuid_text c.ids) s.world
    → ((file : List ℕ × List ℕ) → Contains files file → Carries c.ids file)
    → AllByRecursion (λ (f : List ℕ × List ℕ). get s.world f.0 ≡ None) files
all_new s c [] new carry = tt
all_new s c (f ∷ fs) new carry = (
  absent (get s.world f.0) refl,
  all_new s c fs new (λ file i. carry file (later f fs file i)),
) where
  absent : (o : Option (List ℕ)) → get s.world f.0 ≡ o → get s.world f.0 ≡ None
  absent None e = e
  absent (Some bytes) e = absurd (new f.0 bytes e (carry f (here f fs f refl)))

pub makes_new_names : MakesNewNames
makes_new_names s c new = all_new s c (added s c) new (carried s c)
