use Rattle.std.proofs.Common.{◌≡◌, refl, ap, ◌∙◌, true, length, map}
use Rattle.std.proofs.lemmas.List.{length-map}
use Rattle.ice_filter.specs.Trees.{is_filter, map_predicates}
use Rattle.ice_project.specs.Fields.{field_of, fields_of}
use Rattle.ice_project.specs.Projection.{predicate_tests}
use Rattle.ice_project.proofs.projection.project.Goals as goal

pub from_items-requires : goal.from_items-requires
from_items-requires c =
    let fields = c.as_slice-2.result.now in
    let parts = c.as_slice-3.result.now in
    let whole : is_filter parts ≡ true = ap is_filter c.as_slice-3.ensures.parts ∙ c.as_slice-3.ensures.filter in
    ap is_filter c.in_ok-parts.ensures
    ∙ (c.filters_over_other_predicates.ensures.filter (predicate_tests 0 fields) parts ∙
    whole)

pub returns : goal.returns
returns c =
    let spec = c.args.spec.now in
    let read : c.in_ok-fields.fields ≡ fields_of spec = c.in_ok-fields.ensures ∙ ap (map field_of) c.as_slice.ensures in
    let count : length c.as_slice-4.result.now ≡ length spec.fields =
    ap length (c.as_slice-4.ensures ∙ read) ∙ length-map spec.fields field_of in
    let parts : c.from_items.result ≡ map_predicates (predicate_tests 0 (fields_of spec)) c.args.filter.now.parts =
    c.from_items.ensures ∙ c.in_ok-parts.ensures
    ∙ ap (λ fields. map_predicates (predicate_tests 0 fields) c.as_slice-3.result.now) (c.as_slice-2.ensures ∙ read)
    ∙ ap (map_predicates (predicate_tests 0 (fields_of spec))) c.as_slice-3.ensures.parts in
    rw (count, parts) refl
