use Rattle.std.proofs.Common.{◌≡◌, rules, Bool, List, ◌∷◌, [], ◌++◌, ap, ◌∙◌, append_assoc, Bor, Ordering, is_lt}
use Rattle.std.specs.Cmp.{IsStrictWeakOrder}
use Rattle.std.proofs.lemmas.Cmp.{nat_list_cmp_total}
use Rattle.std.proofs.lemmas.List.{map_push}
use Rattle.std.proofs.lemmas.List.Sorted.{answers_always, ranks_by}
use Rattle.contract_words.specs.Sorting.{sorted}
use Rattle.contract_words.proofs.Sorted.{sorted_from_sort, map-sorted}
use Rattle.avro_file.specs.declared.writer.Property as declared
use Rattle.avro_file.specs.Header.{Property, schema_key, codec_key}
use Rattle.avro_file.specs.Files.{null_codec}
use Rattle.avro_file.specs.Writing.{key_before}
use Rattle.avro_file.specs.Property.{shown_property, shown_properties}
use Rattle.avro_file.proofs.writer.in_order.Goals as goal

abbrev before : declared.Property → declared.Property → Bool
before p q = key_before (shown_property p) (shown_property q)

pub returns : goal.returns
returns c =
    let order : IsStrictWeakOrder before = ranks_by nat_list_cmp_total (λ (p : declared.Property). p.key.now) in
    let all = c.push-2.new.self.items in
    let sort = sorted_from_sort before order all c.sort_by.new.self.items
    (c.in_ok-sort_by.ensures.sorted before order
    (answers_always _ (λ (a : Bor declared.Property × (Bor declared.Property × Unit {0})) (r : Ordering). is_lt r
    ≡ before a.0.now a.1.0.now) _ (λ f a r g h. search rules)))
    (c.in_ok-sort_by.ensures.stable before order
    (answers_always _ (λ (a : Bor declared.Property × (Bor declared.Property × Unit {0})) (r : Ordering). is_lt r
    ≡ before a.0.now a.1.0.now) _ (λ f a r g h. search rules))) in
    let ms = shown_properties c.args.metadata.now in
    let codec : List Property = (codec_key, null_codec) ∷ [] in
    let schema : List Property = (schema_key, c.args.schema.now) ∷ [] in
    let first : shown_properties c.push.new.self.items ≡ ms ++ codec =
    rw (c.in_ok-push.ensures.items, c.in_ok-properties.ensures.items) (map_push shown_property c.args.metadata.now
    _) in
    let second : shown_properties all ≡ (ms ++ codec) ++ schema = rw c.in_ok-push-2.ensures.items
    (map_push shown_property c.push.new.self.items _ ∙ ap (λ (ps : List Property). ps ++ schema) first) in
    ap shown_properties sort ∙ map-sorted shown_property key_before all ∙ ap (sorted key_before)
    (second ∙ append_assoc ms codec schema)
