-- The manifests that a commit adds: one for each content and spec of its files, those of data first, then by the id of
-- the spec, with the files in the order of the change.
use Rattle.std.specs.Prelude.{ℤ, Bool, ◌++◌, List, map, filter}
use Rattle.std.specs.List.{dedup}
use Rattle.std.specs.Ordering.{int_cmp, int_eq, is_lt}
use Rattle.contract_words.specs.Sorting.{sorted}
use Rattle.ice_manifest.specs.declared.new_file.NewFile.{NewFile}
use Rattle.ice_manifest_reading.specs.declared.row.ManifestContent.{ManifestContent}
use Rattle.ice_manifest_reading.specs.declared.row.ManifestContent.TheVariants.{Data, Deletes}
use Rattle.ice_catalog_changes.specs.declared.change.Change.{Change}

-- the files of one content and one spec
pub record Group : Type 0 where
  pub content : ManifestContent
  pub spec_id : ℤ
  pub files : List NewFile

abbrev pub id_before : ℤ → ℤ → Bool
id_before id other = is_lt (int_cmp id other)

-- the ids of the files' specs, each once, in their order
abbrev pub spec_ids : List NewFile → List ℤ
spec_ids files = dedup int_eq (sorted id_before (map (λ (file : NewFile). file.spec_id) files))

abbrev pub is_of_spec : ℤ → NewFile → Bool
is_of_spec id file = int_eq file.spec_id id

abbrev pub group_of : ManifestContent → List NewFile → ℤ → Group
group_of content files id = record { content = content; spec_id = id; files = filter (is_of_spec id) files }

abbrev pub groups_of : ManifestContent → List NewFile → List Group
groups_of content files = map (group_of content files) (spec_ids files)

abbrev pub groups : Change → List Group
groups c = groups_of Data c.files ++ groups_of Deletes c.deletes
