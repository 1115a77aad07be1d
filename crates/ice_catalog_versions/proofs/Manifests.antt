-- One manifest after the other.
use Rattle.std.proofs.Common.{◌≡◌, ◌+◌, ◌<◌, ◌≤◌, ℕ, List, [], ◌∷◌, ◌++◌, length, get_or, drop, map, ap, ◌∙◌}
use Rattle.std.proofs.Common.{append_assoc}
use Rattle.ice_meta.specs.Targets.{Described}
use Rattle.ice_catalog_changes.specs.declared.change.Ids.{Ids}
use Rattle.ice_catalog_versions.specs.declared.groups.Group as kept
use Rattle.ice_manifest.specs.declared.heading.Heading.{Heading}
use Rattle.ice_manifest.specs.declared.new_file.NewFile.{NewFile}
use Rattle.ice_catalog_versions.specs.Adding.{NewManifest, heading_of, manifest_of, manifest_path}
use Rattle.ice_catalog_versions.specs.Groups.{Group}
use Rattle.ice_catalog_versions.specs.Seen.{seen, all_seen}
use Rattle.ice_catalog_versions.proofs.Walks.{step_of, end_of}

pub seen_more : (gs : List kept.Group) (i : ℕ) (g : kept.Group) → i < length gs → g ≡ get_or gs i g
    → all_seen (drop i gs) ≡ seen g ∷ all_seen (drop (i + 1) gs)
seen_more gs i g lt is = ap all_seen (step_of gs i g lt is)

pub seen_end : (gs : List kept.Group) (i : ℕ) → length gs ≤ i → all_seen (drop i gs) ≡ []
seen_end gs i le = ap all_seen (end_of gs i le)

-- what was put last moves from the rest
pub moved : {A B : Type 0} (f : A → B) (old new whole : List B) (x : A) (rest : List A) → new ≡ old ++ f x ∷ []
    → old ++ map f (x ∷ rest) ≡ whole → new ++ map f rest ≡ whole
moved f old new whole x rest n h = ap (λ ys. ys ++ map f rest) n ∙ (append_assoc old (f x ∷ []) (map f rest) ∙ h)

-- the manifest of a group is known by its parts
pub same_manifest : (m : Described) (ids : Ids) (n : ℕ) (g : Group) (h : Heading) (path : List ℕ) (files : List NewFile)
    → h ≡ heading_of m ids g → path ≡ manifest_path m.table ids n → files ≡ g.files
    → (let made : NewManifest = record { heading = h; path = path; files = files } in made ≡ manifest_of m ids n g)
same_manifest m ids n g h path files is_heading is_path are_files = λ i. record {
  heading = is_heading i;
  path = is_path i;
  files = are_files i;
}
