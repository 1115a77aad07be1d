-- Types that are none of a kind.
use Rattle.std.proofs.Common.{◌≡◌, false, rules, refl}
use Rattle.avro_schema.specs.declared.schema.Schema.{Schema, Boolean, Int, Long, String, Bytes, the_lemmas}
use Rattle.avro_schema.specs.declared.schema.BytesKind.{BytesKind}
use Rattle.avro_schema.specs.View.{tree}
use Rattle.ice_manifest_fields.specs.Types.{is_whole, is_truth, is_text, is_binary}

pub other_whole : (s : Schema) → (s ≡ Int → ⊥) → (s ≡ Long → ⊥) → is_whole (tree s) ≡ false
other_whole Int i l = absurd (i refl)
other_whole Long i l = absurd (l refl)
other_whole s i l = search (rules, the_lemmas)

pub other_text : (s : Schema) → (s ≡ String → ⊥) → is_text (tree s) ≡ false
other_text String t = absurd (t refl)
other_text s t = search (rules, the_lemmas)

pub other_binary : (s : Schema) → ((kind : BytesKind) → s ≡ Bytes kind → ⊥) → is_binary (tree s) ≡ false
other_binary (Bytes k) n = absurd (n k refl)
other_binary s n = search (rules, the_lemmas)

pub other_truth : (s : Schema) → (s ≡ Boolean → ⊥) → is_truth (tree s) ≡ false
other_truth Boolean b = absurd (b refl)
other_truth s b = search (rules, the_lemmas)
