use Rattle.std.proofs.Common.{◌≡◌, ◌++◌, [], ◌∷◌, rules, w64}
use mir.Val.{SFits}
use Rattle.std.proofs.lemmas.Int.{to_z-of_z}
use Rattle.std.specs.Prelude.{OnOk, codes}
use Rattle.serde_json.specs.Data.{string}
use Rattle.icescan_columns.specs.JsonLines.{snapshot_object}
use Rattle.icescan_forms.specs.Objects.{count_json, number_json, object_line, value_json}
use Rattle.icescan_columns.proofs.json_lines.push_snapshot.Goals as goal

pub returns : goal.returns
unfolding snapshot_object
returns c =
    let s = c.args.snapshot.now in
    let f : SFits w64 s.id = search rules in
    let k : SFits w64 s.timestamp_ms = search rules in
    let pushed : OnOk c.push.result (c.push.new.self ≡ c.args.lines.now ++ object_line (
    (codes "kind", string (codes "snapshot")) ∷ (codes "snapshot", number_json s.id)
    ∷ (codes "seq", count_json c.get-number.result) ∷ (codes "at", number_json s.timestamp_ms)
    ∷ (codes "parent", value_json c.id_if.result) ∷ (codes "operation", value_json c.text_if.result)
    ∷ (codes "list", value_json c.text_if-2.result) ∷ []))
    = simp to_z-of_z at c.push.ensures in
    rw (c.get-number.ensures.same, c.id_if.ensures, c.text_if.ensures, c.text_if-2.ensures) at pushed
