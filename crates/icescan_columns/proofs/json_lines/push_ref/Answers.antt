use Rattle.std.proofs.Common.{◌≡◌, ◌++◌, [], ◌∷◌, rules, w64}
use mir.Val.{SFits}
use Rattle.std.proofs.lemmas.Int.{to_z-of_z}
use Rattle.std.specs.Prelude.{OnOk, codes}
use Rattle.serde_json.specs.Data.{string}
use Rattle.icescan_columns.specs.JsonLines.{ref_object}
use Rattle.icescan_forms.specs.Objects.{number_json, object_line}
use Rattle.icescan_columns.proofs.json_lines.push_ref.Goals as goal

pub returns : goal.returns
unfolding ref_object
returns c =
    let found = c.args.found.now in
    let f : SFits w64 found.snapshot_id = search rules in
    let pushed : OnOk c.push.result (c.push.new.self ≡ c.args.lines.now ++ object_line (
    (codes "kind", string (codes "ref")) ∷ (codes "ref", string c.as_bytes.result.now)
    ∷ (codes "type", string c.kind_word.result.now) ∷ (codes "snapshot", number_json found.snapshot_id) ∷ []))
    = simp to_z-of_z at c.push.ensures in
    rw (c.as_bytes.ensures, c.kind_word.ensures) at pushed
