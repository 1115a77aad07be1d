-- What a filter keeps, by the laws of its projections.
use Rattle.std.proofs.Common.{◌≡◌, List, refl, sym, ap, ◌∙◌, Bool, true, IsTrue, Option, Some, None, is_none}
use Rattle.std.proofs.Common.{option_map}
use Rattle.std.specs.Ordering.{int_eq}
use Rattle.std.proofs.lemmas.Bool.Decides.{Decides-int_eq}
use Rattle.ice_value.specs.Applying.{same_partition}
use Rattle.ice_value.specs.Cells.{same_tuple}
use Rattle.ice_value.specs.declared.cell.Cell.{Cell}
use Rattle.ice_value.specs.declared.file_bounds.Summary.{Summary}
use Rattle.ice_meta.specs.Partitioning.{is_unpartitioned}
use Rattle.ice_meta.specs.declared.spec.Spec.{Spec}
use Rattle.ice_filter.specs.declared.bound.BoundPredicate.{BoundPredicate}
use Rattle.ice_filter.specs.declared.parts.Part.{Part}
use Rattle.ice_project.specs.Fields.{fields_of}
use Rattle.ice_project.specs.Projection.{projection}
use Rattle.ice_project.specs.Summaries.{summaries_may, IsCovered}
use Rattle.ice_project.specs.Tuples.{part_meets}
use Rattle.ice_project.specs.declared.part_filter.PartFilter.{PartFilter}
use Rattle.ice_manifest_reading.specs.declared.entry.Entry.{Entry}
use Rattle.ice_state.specs.Applying.{data_key_of, delete_key_of}
use Rattle.ice_state.specs.Covering.{Covers, HasSoundSummaries}
use Rattle.ice_state.specs.Parts.{OfSpec, filtered_by}
use Rattle.ice_state.specs.Pruning.{by_projection, summaries_allow, pruner_of, IsOpen}
use Rattle.ice_state.specs.Specs.{spec_of}
use Rattle.ice_state.proofs.Filters.{and_true}

-- the same tuples meet the same filters
module _ (same : (part : PartFilter) (tuple other : List Cell) → IsTrue (same_tuple tuple other)
    → part_meets part tuple ≡ part_meets part other) where
  same_by : (parts : List (Part BoundPredicate)) (tuple other : List Cell) → same_tuple tuple other ≡ true
      → (o : Option Spec) → by_projection parts (λ part. part_meets part tuple) o ≡ true
      → by_projection parts (λ part. part_meets part other) o ≡ true
  same_by parts tuple other t None h = h
  same_by parts tuple other t (Some spec) h = sym (same (projection parts spec) tuple other t) ∙ h

  pub of_same_partition : (parts : List (Part BoundPredicate)) (specs : List Spec) (x d : Entry)
      → same_partition (data_key_of x) (delete_key_of d) ≡ true
      → (pruner_of parts specs).meets x.spec_id x.file.tuple ≡ true
      → (pruner_of parts specs).meets d.spec_id d.file.tuple ≡ true
  of_same_partition parts specs x d s met =
      let b = and_true (int_eq x.spec_id d.spec_id) (same_tuple x.file.tuple d.file.tuple) s in
      let ids : x.spec_id ≡ d.spec_id = (Decides-int_eq x.spec_id d.spec_id).0 b.0 in
      ap (λ id. (pruner_of parts specs).meets id d.file.tuple) (sym ids) ∙ same_by parts x.file.tuple d.file.tuple b.1
      (spec_of specs x.spec_id) met

-- a projection through a spec that partitions nothing is met wherever another is
module _ (opens : (filter : List (Part BoundPredicate)) (spec other : Spec) (tuple met : List Cell)
    → is_unpartitioned spec ≡ true → part_meets (projection filter other) met ≡ true
    → part_meets (projection filter spec) tuple ≡ true) where
  open_by : (parts : List (Part BoundPredicate)) (tuple met : List Cell) (o q : Option Spec)
      → option_map is_unpartitioned o ≡ Some true → by_projection parts (λ part. part_meets part met) q ≡ true
      → by_projection parts (λ part. part_meets part tuple) o ≡ true
  open_by parts tuple met None q u h = cc
  open_by parts tuple met (Some spec) None u h = cc
  open_by parts tuple met (Some spec) (Some other) u h = let yes : is_unpartitioned spec ≡ true = cc in
      opens parts spec other tuple met yes h

  pub open_of : (parts : List (Part BoundPredicate)) (specs : List Spec) → IsOpen specs (pruner_of parts specs)
  open_of parts specs = λ x d says u met. open_by parts d.file.tuple x.file.tuple (spec_of specs d.spec_id)
      (spec_of specs x.spec_id) (says ∙ ap Some u) met

-- summaries that cover a tuple that meets the projection don't say no
module _ (sound : (filter : List (Part BoundPredicate)) (spec : Spec) (summaries : List Summary) (tuple : List Cell)
    → IsCovered (fields_of spec) summaries tuple → part_meets (projection filter spec) tuple ≡ true
    → summaries_may (projection filter spec) summaries ≡ true) where
  allowed : (parts : List (Part BoundPredicate)) (spec : Spec) (tuple : List Cell) (summaries : Option (List Summary))
      → Covers spec summaries tuple → part_meets (projection parts spec) tuple ≡ true
      → summaries_allow (projection parts spec) summaries ≡ true
  allowed parts spec tuple None covers met = refl
  allowed parts spec tuple (Some summaries) covers met = sound parts spec summaries tuple covers met

  sound_by : (parts : List (Part BoundPredicate)) (tuple : List Cell) (summaries : Option (List Summary))
      (o : Option Spec)
      → ((spec : Spec) → o ≡ Some spec → Covers spec summaries tuple)
      → by_projection parts (λ part. part_meets part tuple) o ≡ true
      → by_projection parts (λ part. summaries_allow part summaries) o ≡ true
  sound_by parts tuple summaries None covers met = met
  sound_by parts tuple summaries (Some spec) covers met = allowed parts spec tuple summaries (covers spec refl) met

  pub sound_of : (parts : List (Part BoundPredicate)) (specs : List Spec)
      → HasSoundSummaries specs (pruner_of parts specs)
  sound_of parts specs = λ row tuple covers met. sound_by parts tuple row.partitions (spec_of specs row.spec_id) covers
      met

-- the test of the projection through the spec that was found
pub by_spec : (parts : List (Part BoundPredicate)) (test : PartFilter → Bool) (o : Option Spec) (f : OfSpec)
    → option_map (filtered_by parts) o ≡ Some f → test (projection f.filter f.spec) ≡ by_projection parts test o
by_spec parts test None f h = cc
by_spec parts test (Some spec) f h = let same : filtered_by parts spec ≡ f = cc in
    ap (λ (g : OfSpec). test (projection g.filter g.spec)) (sym same)

-- which spec was found, and that there is none
pub found_by : (parts : List (Part BoundPredicate)) (o : Option Spec) (f : OfSpec)
    → option_map (filtered_by parts) o ≡ Some f → o ≡ Some f.spec
found_by parts None f h = cc
found_by parts (Some spec) f h = let same : filtered_by parts spec ≡ f = cc in ap (λ (g : OfSpec). Some g.spec) same

pub found_none : (parts : List (Part BoundPredicate)) (o : Option Spec) → option_map (filtered_by parts) o ≡ None
    → is_none o ≡ true
found_none parts None h = refl
found_none parts (Some spec) h = cc
