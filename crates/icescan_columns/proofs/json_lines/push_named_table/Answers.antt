use Rattle.std.proofs.Common.{◌≡◌, ◌++◌, [], ◌∷◌, rules, w32}
use mir.Val.{SFits}
use Rattle.std.proofs.lemmas.Int.{to_z-of_z}
use Rattle.std.specs.Prelude.{OnOk, codes}
use Rattle.serde_json.specs.Data.{string}
use Rattle.icescan_forms.specs.Objects.{count_json, number_json, object_line, value_json}
use Rattle.icescan_columns.proofs.json_lines.push_named_table.Goals as goal

pub returns : goal.returns
returns c =
    let table = c.args.table.now in
    let f : SFits w32 table.current_schema_id = search rules in
    let k : SFits w32 table.default_spec_id = search rules in
    let pushed : OnOk c.push.result (c.push.new.self ≡ c.args.lines.now ++ object_line (
    (codes "kind", string (codes "table")) ∷ (codes "table-uuid", string c.as_bytes.result.now)
    ∷ (codes "location", string c.as_bytes-2.result.now)
    ∷ (codes "last-sequence-number", count_json c.get-number.result)
    ∷ (codes "current-snapshot", value_json c.id_if.result)
    ∷ (codes "current-schema", number_json table.current_schema_id)
    ∷ (codes "default-spec", number_json table.default_spec_id) ∷ []))
    = simp to_z-of_z at c.push.ensures in
    rw (c.as_bytes.ensures.value, c.requires, c.as_bytes-2.ensures, c.get-number.ensures.same, c.id_if.ensures)
    at pushed
