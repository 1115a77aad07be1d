-- The texts of objects are the pieces that are put.
use Rattle.std.proofs.Common.{◌≡◌, ◌∙◌, ℕ, List, [], ◌∷◌, ◌++◌, ap, append_assoc}
use Rattle.std.specs.Prelude.{codes}
use Rattle.std.specs.Fmt.{decimal, signed_decimal}
use Rattle.json.specs.Print.{escape_byte, quoted}
use Rattle.serde_json.specs.Written.{number_text}
use Rattle.ice_manifest_reading.specs.declared.entry.Entry.{Entry}
use Rattle.icescan_forms.proofs.Numbered.{number_text_is}
use Rattle.icescan_forms.specs.Objects.{num_of, object_line}
use Rattle.icescan_changes.specs.JsonLines.{data_object, delete_object}
use Rattle.icescan_changes.specs.JsonPieces.{data_front, data_head, data_numbers, delete_front, delete_rest}
use Rattle.icescan_changes.specs.declared.json_lines.DeleteKind.{DeleteKind}
use Rattle.icescan_changes.specs.declared.json_lines.DeleteKind.TheVariants as deletes

-- the text of a data file, by the texts of its numbers
abbrev data_text : List ℕ → List ℕ → List ℕ → List ℕ → List ℕ → List ℕ → List ℕ
data_text became path seq spec rows size =
    (codes "{\"kind\":\"data\",\"change\":" ++ (quoted became ++ (codes ",\"path\":" ++ (quoted path
    ++ (codes ",\"seq\":" ++ (seq ++ (codes ",\"spec\":" ++ (spec ++ (codes ",\"rows\":" ++ (rows
    ++ (codes ",\"size\":" ++ (size ++ codes "}")))))))))))) ++ 10 ∷ []

signed_is : (became : List ℕ) (x : Entry) → data_text became x.file.path (decimal x.sequence_number)
    (signed_decimal x.spec_id) (signed_decimal x.file.record_count) (signed_decimal x.file.file_size)
    ≡ data_front became x ++ data_numbers x
unfolding data_head data_numbers
signed_is became x = simp append_assoc

pub data_is : (became : List ℕ) (x : Entry) → data_object became x ≡ data_front became x ++ data_numbers x
unfolding data_object object_line escape_byte
data_is became x =
    let text = data_text became x.file.path (decimal x.sequence_number) in
    let rows = x.file.record_count in
    let size = x.file.file_size in
    ap (λ t. text t (number_text (num_of rows)) (number_text (num_of size))) (number_text_is x.spec_id)
    ∙ ap (λ t. text (signed_decimal x.spec_id) t (number_text (num_of size))) (number_text_is rows)
    ∙ ap (λ t. text (signed_decimal x.spec_id) (signed_decimal rows) t) (number_text_is size)
    ∙ signed_is became x

pub delete_is : (kind : DeleteKind) (became owner : List ℕ) (d : Entry) → delete_object kind became owner d
    ≡ delete_front kind became d ++ delete_rest kind owner d.file.equality_ids
unfolding delete_object object_line escape_byte
delete_is deletes.Position became owner d = simp append_assoc
delete_is deletes.Equality became owner d = simp append_assoc
