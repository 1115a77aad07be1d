-- The text of a schema that is written.
use Rattle.std.proofs.Common.{◌≡◌, ℕ, ◌+◌, ◌*◌, ◌≤◌, false, List, [], ◌∷◌, Some}
use Rattle.std.proofs.Common.{refl, ap, ◌∙◌, arith}
use Rattle.std.specs.Prelude.{ℤ, pos, negsuc}
use Rattle.serde_json.specs.Data as json
use Rattle.serde_json.specs.Data.{depth, items_depth}
use Rattle.serde_json.specs.Find.{is_float, of_integer}
use Rattle.serde_json.specs.Written.{has_float, items_have_float, compact_text}
use Rattle.serde_json.specs.Read.{read, max_depth}
use Rattle.avro_schema.specs.Size.{height, deepest_field, deepest_branch}
use Rattle.ice_meta.specs.declared.spec.PartitionField.{PartitionField}
use Rattle.ice_meta.specs.declared.spec.Spec.{Spec}
use Rattle.ice_manifest.specs.Writing.{partition_fields_json, spec_text}
use Rattle.ice_manifest.specs.WrittenTypes as written
use Rattle.ice_manifest.specs.WrittenTypes.{Written, WrittenFields, no_more, required, optional, json_of, fields_json}
use Rattle.ice_manifest.specs.WrittenTypes.{written_tree, written_fields}

whole_number : (z : ℤ) → is_float (of_integer z) ≡ false
whole_number (pos n) = refl
whole_number (negsuc n) = refl

mutual
  unfolding json_of fields_json

  pub no_float : (w : Written) → has_float (json_of w) ≡ false
  no_float (written.word w) = refl
  no_float written.date = refl
  no_float written.time = refl
  no_float (written.timestamp adjusted) = refl
  no_float (written.fixed name size) = refl
  no_float (written.uuid name) = refl
  no_float (written.list id w) = rw (whole_number id, no_float w) refl
  no_float (written.map w) = rw (no_float w) refl
  no_float (written.structure name fs) = rw (no_floats fs) refl

  no_floats : (fs : WrittenFields) → items_have_float (fields_json fs) ≡ false
  no_floats no_more = refl
  no_floats (required name id w fs) = rw (whole_number id, no_float w, no_floats fs) refl
  no_floats (optional name id w fs) = rw (whole_number id, no_float w, no_floats fs) refl

mutual
  unfolding json_of fields_json height deepest_field deepest_branch

  levels : (w : Written) → depth (json_of w) ≤ 3 * height (written_tree w) + 2
  levels (written.word w) = omega arith
  levels written.date = omega arith
  levels written.time = omega arith
  levels (written.timestamp adjusted) = omega arith
  levels (written.fixed name size) = omega arith
  levels (written.uuid name) = omega arith
  levels (written.list id w) = omega (arith, levels w)
  levels (written.map w) = omega (arith, levels w)
  levels (written.structure name fs) = omega (arith, field_levels fs)

  field_levels : (fs : WrittenFields) → items_depth (fields_json fs) ≤ 3 * deepest_field (written_fields fs)
  field_levels no_more = omega arith
  field_levels (required name id w fs) = omega (arith, levels w, field_levels fs)
  field_levels (optional name id w fs) = omega (arith, levels w, field_levels fs)

-- JSON nests no deeper than a reader allows
pub under : (w : Written) → height (written_tree w) ≤ 31 → depth (json_of w) ≤ 127
under w h = omega (arith, levels w)

-- ---- as it is written

pub compact : (w : Written) (d : json.Data) (text : List ℕ) → d ≡ json_of w
    → (has_float d ≡ false → text ≡ compact_text d) → text ≡ compact_text (json_of w)
compact w d text e said = said (ap has_float e ∙ no_float w) ∙ ap compact_text e

pub read_again : (w : Written) (d : json.Data) (text : List ℕ) → d ≡ json_of w → height (written_tree w) ≤ 31
    → (depth d ≤ max_depth → read text ≡ Some d) → read text ≡ Some (json_of w)
read_again w d text e low said = let few : depth d ≤ max_depth = omega (arith, ap depth e, under w low) in
    said few ∙ ap Some e

no_spec_floats : (ps : List PartitionField) → items_have_float (partition_fields_json ps) ≡ false
no_spec_floats [] = refl
no_spec_floats (p ∷ ps) = rw (whole_number p.source_id, whole_number p.field_id, no_spec_floats ps) refl

pub spec_compact : (spec : Spec) (d : json.Data) (text : List ℕ) → d ≡ json.array (partition_fields_json spec.fields)
    → (has_float d ≡ false → text ≡ compact_text d) → text ≡ spec_text spec
unfolding spec_text
spec_compact spec d text e said = said (ap has_float e ∙ no_spec_floats spec.fields) ∙ ap compact_text e
