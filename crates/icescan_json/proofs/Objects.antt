-- The texts of objects, member by member.
use Rattle.std.proofs.Common.{◌≡◌, ℕ, suc, List, [], ◌∷◌, ◌++◌, map, Option, None, Some, refl, ap, ◌∙◌, append_assoc}
use Rattle.std.specs.Prelude.{codes, true, false, option_map}
use Rattle.std.specs.Fmt.{signed_decimal}
use Rattle.std.specs.List.{enumerate_from}
use Rattle.json.specs.Print.{escape_byte, quoted}
use Rattle.serde_json.specs.Data.{Data, string, array, object, number, unsigned, Members, no_members, member}
use Rattle.serde_json.specs.View.{items_of}
use Rattle.serde_json.specs.Written.{compact_text, items_text, members_text}
use Rattle.ice_value.specs.declared.file_content.FileContent.{FileContent}
use Rattle.ice_value.specs.declared.file_content.FileContent.TheVariants as content
use Rattle.ice_manifest_reading.specs.declared.data_file.DataFile.{DataFile}
use Rattle.ice_manifest_reading.specs.declared.entry.Entry.{Entry}
use Rattle.ice_state.specs.PlaceLists.{LinePlaces}
use Rattle.ice_state.specs.PlacedFiles.{PlanPlaces}
use Rattle.icescan_json.specs.declared.types.SpecTypes.{SpecTypes}
use Rattle.icescan_forms.specs.Objects.{count_json, number_json}
use Rattle.icescan_json.specs.Values.{cell_json, cells_json, type_at}
use Rattle.icescan_json.specs.Types.{types_of}
use Rattle.icescan_json.specs.PlanJson.{member_if, content_name, format_name, file_members, kind_members, delete_json}
use Rattle.icescan_json.specs.PlanJson.{data_json, references, task_json, tasks_json}
use Rattle.icescan_json.specs.Texts.{file_head, file_partition, file_sizes, file_text, format_text, kind_text}
use Rattle.icescan_json.specs.Texts.{referenced_text, references_text, ids_text, deletes_text, tasks_text, json_text}
use Rattle.icescan_json.specs.Texts.{plan_text, task_text, task_texts}
use Rattle.icescan_forms.specs.Pieces.{each_from}
use Rattle.icescan_forms.proofs.Each.{each_same, items_all, items_each, items_by_place}
use Rattle.icescan_forms.proofs.Numbered.{number_text_is}

sizes : (x : Entry) (rest : Members) → members_text true (member (codes "file-size-in-bytes")
    (number_json x.file.file_size) (member (codes "record-count") (number_json x.file.record_count)
    (member (codes "sequence-number") (count_json x.sequence_number) rest)))
    ≡ file_sizes x ++ members_text true rest
unfolding file_sizes escape_byte
sizes x rest = rw (number_text_is x.file.file_size, number_text_is x.file.record_count) (simp append_assoc)

partition : (types : List SpecTypes) (x : Entry) (rest : Members) → members_text true (member (codes "spec-id")
    (number_json x.spec_id) (member (codes "partition") (array (items_of (map
    (λ p. cell_json (type_at (types_of types x.spec_id) p.0) p.1) (enumerate_from 0 x.file.tuple)))) rest))
    ≡ file_partition types x ++ members_text true rest
unfolding file_partition escape_byte
partition types x rest =
    rw (
      number_text_is x.spec_id,
      items_by_place (λ i c. cell_json (type_at (types_of types x.spec_id) i) c) 0
          x.file.tuple,
    )
    (simp append_assoc)

head : (c : FileContent) (path : List ℕ) (format : Option (List ℕ)) (rest : Members) → 123 ∷ members_text false
    (member (codes "content") (string (content_name c)) (member (codes "file-path") (string path)
    (member_if (codes "file-format") (option_map string format) rest)))
    ≡ (codes "{\"content\":\"" ++ (content_name c ++ (codes "\",\"file-path\":" ++ (quoted path ++ format_text
    format))))
    ++ members_text true rest
unfolding escape_byte
head content.Data path None rest = simp append_assoc
head content.PositionDeletes path None rest = simp append_assoc
head content.EqualityDeletes path None rest = simp append_assoc
head content.Data path (Some format) rest = simp append_assoc
head content.PositionDeletes path (Some format) rest = simp append_assoc
head content.EqualityDeletes path (Some format) rest = simp append_assoc

-- a file, and what its kind has
file_is : (types : List SpecTypes) (x : Entry) (rest : Members) → compact_text (object (file_members types x rest))
    ≡ file_text types x ++ members_text true rest
unfolding file_members file_head file_text
file_is types x rest =
    let last = member (codes "file-size-in-bytes") (number_json x.file.file_size)
    (member (codes "record-count") (number_json x.file.record_count)
    (member (codes "sequence-number") (count_json x.sequence_number) rest)) in
    let behind = member (codes "spec-id") (number_json x.spec_id)
    (member (codes "partition") (array (cells_json (types_of types x.spec_id) x.file.tuple)) last) in
    head x.file.content x.file.path (format_name x) behind
    ∙ ap (λ l. file_head x ++ l) (partition types x last ∙ ap (λ l. file_partition types x ++ l) (sizes x rest))
    ∙ simp append_assoc

referenced_is : (path : Option (List ℕ)) → members_text true
    (member_if (codes "referenced-data-file") (option_map string path) no_members) ≡ referenced_text path ++ 125 ∷ []
unfolding escape_byte
referenced_is None = refl
referenced_is (Some path) = simp append_assoc

ids_is : (f : DataFile) → items_text false (items_of (map number_json f.equality_ids)) ≡ ids_text f ++ 93 ∷ []
ids_is f = items_each number_json 0 f.equality_ids ∙ ap (λ t. t ++ 93 ∷ [])
    (each_same (λ _ id. compact_text (number_json id)) (λ _ id. signed_decimal id) (λ i id. number_text_is id) 0
    f.equality_ids)

kind_is : (f : DataFile) (c : FileContent) → members_text true (kind_members f c) ≡ kind_text f c ++ 125 ∷ []
unfolding escape_byte
kind_is f content.Data = refl
kind_is f content.PositionDeletes = referenced_is f.referenced
kind_is f content.EqualityDeletes = rw (ids_is f) (simp append_assoc)

pub delete_is : (types : List SpecTypes) (x : Entry) → compact_text (delete_json types x)
    ≡ file_text types x ++ (kind_text x.file x.file.content ++ 125 ∷ [])
delete_is types x = file_is types x _ ∙ ap (λ l. file_text types x ++ l) (kind_is x.file x.file.content)

pub data_is : (types : List SpecTypes) (x : Entry) → compact_text (data_json types x) ≡ file_text types x ++ 125 ∷ []
data_is types x = file_is types x no_members

references_is : (ns : List ℕ) (rest : Members) → members_text true (references ns rest)
    ≡ references_text ns ++ members_text true rest
unfolding escape_byte
references_is [] rest = refl
references_is (n ∷ ns) rest = rw (items_each (λ i. number (unsigned i)) 0 (n ∷ ns)) (simp append_assoc)

task_is : (types : List SpecTypes) (residual : Data) (x : Entry) (places : LinePlaces)
    → compact_text (task_json types residual x places) ≡ task_text types (compact_text residual) x places
unfolding task_json escape_byte
task_is types residual x places =
    rw (references_is (places.positions ++ places.equalities) (member (codes "residual-filter") residual no_members))
    refl

tasks_are : (types : List SpecTypes) (residual : Data) (n : ℕ) (xs : List Entry) (ps : List LinePlaces)
    → each_from (λ _ d. compact_text d) n (tasks_json types residual xs ps)
    ≡ each_from (λ _ t. t) n (task_texts types (compact_text residual) xs ps)
tasks_are types residual n [] ps = refl
tasks_are types residual n (x ∷ xs) [] = refl
tasks_are types residual n (x ∷ xs) (p ∷ ps) =
    rw (task_is types residual x p, tasks_are types residual (suc n) xs ps) refl

regroup : (d m t : List ℕ) → ((d ++ 93 ∷ []) ++ (m ++ ((t ++ 93 ∷ []) ++ 125 ∷ []))) ++ 10 ∷ []
    ≡ d ++ (93 ∷ (m ++ (t ++ 93 ∷ 125 ∷ 10 ∷ [])))
regroup d m t = simp append_assoc

pub plan_is : (types : List SpecTypes) (residual : Data) (p : PlanPlaces)
    → json_text types residual p ≡ plan_text types (compact_text residual) p
unfolding escape_byte
plan_is types residual p =
    rw (
      items_each (delete_json types) 0 p.deletes,
      items_all 0 (tasks_json types residual p.files p.places),
      tasks_are types residual 0 p.files p.places,
    )
    (ap (λ t. codes "{\"status\":\"completed\",\"delete-files\":[" ++ t)
    (regroup (deletes_text types p.deletes) (codes ",\"file-scan-tasks\":[")
    (tasks_text types (compact_text residual) p)))
