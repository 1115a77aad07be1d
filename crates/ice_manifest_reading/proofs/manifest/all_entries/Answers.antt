use Rattle.std.proofs.Common.{sym, ap, ◌∙◌, refl, arith, rules}
use Rattle.std.proofs.lemmas.Result.{err_from_is_err_and}
use Rattle.avro_file.specs.Files.{ahead}
use Rattle.avro_file_picked.specs.Finding.{layout_tree}
use Rattle.ice_manifest_layouts.specs.FieldPaths.{wanted_field_paths}
use Rattle.ice_manifest_fields.specs.Schemas.{fields_in}
use Rattle.ice_manifest_reading.specs.Collecting.{kept_each, told_each}
use Rattle.ice_manifest_fields.proofs.Joining.{joined}
use Rattle.ice_manifest_reading.proofs.Reading.{fewer}
use Rattle.ice_manifest_reading.proofs.Collected.{none_given, given_end, behind_is}
use Rattle.ice_manifest_reading.proofs.Found.{shown_next, entry_given, entry_at_fault}
use Rattle.ice_manifest_reading.proofs.Counting.{all_to_come, none_are_within, entry_tallied, more_are_within}
use Rattle.ice_manifest_reading.proofs.Counting.{none_tallied}
use Rattle.ice_manifest_reading.proofs.manifest.all_entries.Goals as goal

pub objects-init : goal.objects-init
unfolding joined
objects-init g c = record {
  told = rw (c.new-told.ensures.items) refl;
  gathered = refl;
  kept = search (rules, g.met.G.Gather);
  tallied = rw c.none-tallies.ensures (all_to_come _);
  within = rw c.none-tallies.ensures none_are_within;
  few = omega arith;
  schema = c.requires.schema;
  fits = c.in_ok-places.ensures;
}

pub read_object-requires : goal.read_object-requires
read_object-requires g c =
    let next = rw c.in-Some.is at c.in_ok-object.ensures.next in
    let placed = rw c.in-Some.is at c.in_ok-object.ensures.placed in
    let field_paths = c.requires.field_paths ∙ ap wanted_field_paths (sym c.as_slice-partition.ensures) in
    let shown = shown_next (ahead c.objects.reader) (ahead c.next_placed.new.objects) c.in-Some.object next in
    λ _. ((refl, tt), ((field_paths, placed, shown), c.as_slice-partition.ensures))

pub returns-in_err-object-clause-told : goal.returns-in_err-object-clause-told
returns-in_err-object-clause-told g c =
    let p = err_from_is_err_and c.from_residual-in_err-object.result c.from_residual-in_err-object.ensures.1 in
    let gives = told_each (g.T.Tell.told c.args.asked.now.tell.now) in
    rw (p.1, p.2) (λ other. sym c.objects.invariant.told ∙ given_end gives c.args.source.now.row.now
    c.args.source.now.spec.now _ c.objects.position c.objects.told.items (ahead c.objects.reader)
    (ahead c.next_placed.new.objects) _ c.in_err-object.ensures.next)

pub returns-in_err-object-clause-gathered : goal.returns-in_err-object-clause-gathered
returns-in_err-object-clause-gathered g c =
    let p = err_from_is_err_and c.from_residual-in_err-object.result c.from_residual-in_err-object.ensures.1 in
    let gives = kept_each (g.K.Keep.kept c.args.asked.now.keep.now) in
    rw (p.1, p.2) (λ other. behind_is _ _ ∙ sym c.objects.invariant.gathered ∙ given_end gives
    c.args.source.now.row.now c.args.source.now.spec.now _ c.objects.position
    (g.G.Gather.gathered c.objects.gather) (ahead c.objects.reader) (ahead c.next_placed.new.objects) _
    c.in_err-object.ensures.next)

pub returns-in_err-counted-clause-told : goal.returns-in_err-counted-clause-told
returns-in_err-counted-clause-told g c =
    let p = err_from_is_err_and c.from_residual-in_err-counted.result
    c.from_residual-in_err-counted.ensures.1 in
    let gives = told_each (g.T.Tell.told c.args.asked.now.tell.now) in
    let next = rw c.in-Some.is at c.in_ok-object.ensures.next in
    let placed = rw c.in-Some.is at c.in_ok-object.ensures.placed in
    rw (p.1, p.2) (λ other. sym c.objects.invariant.told ∙ entry_at_fault gives c.args.source.now.row.now
    c.args.source.now.spec.now (layout_tree c.args.layout.now) c.objects.position c.objects.told.items
    (ahead c.objects.reader) (ahead c.next_placed.new.objects) _ _ next placed.1 c.requires.records
    (c.in_err-counted.ensures.told other))

pub returns-in_err-counted-clause-gathered : goal.returns-in_err-counted-clause-gathered
returns-in_err-counted-clause-gathered g c =
    let p = err_from_is_err_and c.from_residual-in_err-counted.result
    c.from_residual-in_err-counted.ensures.1 in
    let gives = kept_each (g.K.Keep.kept c.args.asked.now.keep.now) in
    let next = rw c.in-Some.is at c.in_ok-object.ensures.next in
    let placed = rw c.in-Some.is at c.in_ok-object.ensures.placed in
    rw (p.1, p.2) (λ other. behind_is _ _ ∙ sym c.objects.invariant.gathered ∙ entry_at_fault gives
    c.args.source.now.row.now c.args.source.now.spec.now (layout_tree c.args.layout.now) c.objects.position
    (g.G.Gather.gathered c.objects.gather) (ahead c.objects.reader) (ahead c.next_placed.new.objects) _ _ next
    placed.1 c.requires.records (c.in_err-counted.ensures.gathered other))

pub returns-in_err-counted-clause-keeps : goal.returns-in_err-counted-clause-keeps
returns-in_err-counted-clause-keeps g c =
    search (rules, g.met.G.Gather, c.objects.invariant.kept, c.in_err-counted.ensures.keeps)

pub count-requires : goal.count-requires
count-requires g c =
    let less = fewer (ahead c.objects.reader) (ahead c.next_placed.new.objects) c.in-Some.object
    (rw c.in-Some.is at c.in_ok-object.ensures.next) in
    (c.objects.position, omega (arith, less, c.objects.invariant.few, c.requires.few), c.objects.invariant.within)

pub overflow_add-position : goal.overflow_add-position
overflow_add-position g c =
    let less = fewer (ahead c.objects.reader) (ahead c.next_placed.new.objects) c.in-Some.object
    (rw c.in-Some.is at c.in_ok-object.ensures.next) in
    omega (arith, less, c.objects.invariant.few, c.requires.few)

pub objects-smaller : goal.objects-smaller
objects-smaller g c = fewer (ahead c.objects.reader) (ahead c.next_placed.new.objects) c.in-Some.object
    (rw c.in-Some.is at c.in_ok-object.ensures.next)

pub objects-preserved : goal.objects-preserved
objects-preserved g c =
    let next = rw c.in-Some.is at c.in_ok-object.ensures.next in
    let placed = rw c.in-Some.is at c.in_ok-object.ensures.placed in
    let tells = told_each (g.T.Tell.told c.args.asked.now.tell.now) in
    let keeps = kept_each (g.K.Keep.kept c.args.asked.now.keep.now) in
    let gathered = g.G.Gather.gathered in
    let less = fewer (ahead c.objects.reader) (ahead c.next_placed.new.objects) c.in-Some.object next in
    record {
      told = sym (entry_given tells c.args.source.now.row.now c.args.source.now.spec.now (layout_tree c.args.layout.now)
          c.objects.position c.objects.told.items c.read_object.new.told.items (ahead c.objects.reader)
          (ahead c.next_placed.new.objects) _ next placed.1 c.requires.records c.in_ok-counted.ensures.told)
          ∙ c.objects.invariant.told;
      gathered = sym (entry_given keeps c.args.source.now.row.now c.args.source.now.spec.now
          (layout_tree c.args.layout.now) c.objects.position (gathered c.objects.gather)
          (gathered c.read_object.new.gather) (ahead c.objects.reader) (ahead c.next_placed.new.objects) _ next
          placed.1 c.requires.records c.in_ok-counted.ensures.gathered) ∙ c.objects.invariant.gathered;
      kept = search (rules, g.met.G.Gather, c.objects.invariant.kept, c.in_ok-counted.ensures.keeps);
      tallied = rw c.count.ensures (sym (entry_tallied (layout_tree c.args.layout.now) c.objects.tallies
          c.in_ok-counted.counted (ahead c.objects.reader) (ahead c.next_placed.new.objects) _ next placed.1
          c.requires.records c.in_ok-counted.ensures.counted) ∙ c.objects.invariant.tallied);
      within = rw c.count.ensures (more_are_within c.objects.position c.in_ok-counted.counted c.objects.tallies
          (search rules) c.objects.invariant.within);
      few = omega (arith, less, c.objects.invariant.few);
      schema = c.objects.invariant.schema ∙ sym c.in_ok-object.ensures.schema;
      fits = c.in_ok-object.ensures.fits;
    }

pub returns-clause-told : goal.returns-clause-told
returns-clause-told g c =
    let gives = told_each (g.T.Tell.told c.args.asked.now.tell.now) in
    sym c.objects.invariant.told ∙ search (
      rules,
      none_given gives c.args.source.now.row.now c.args.source.now.spec.now
          (fields_in (layout_tree c.args.layout.now)) c.objects.position c.objects.told.items (ahead c.objects.reader)
          (ahead c.next_placed.new.objects),
    )

pub returns-clause-gathered : goal.returns-clause-gathered
returns-clause-gathered g c =
    let gives = kept_each (g.K.Keep.kept c.args.asked.now.keep.now) in
    behind_is _ _ ∙ sym c.objects.invariant.gathered ∙ search (
      rules,
      none_given gives c.args.source.now.row.now c.args.source.now.spec.now
          (fields_in (layout_tree c.args.layout.now)) c.objects.position (g.G.Gather.gathered c.objects.gather)
          (ahead c.objects.reader) (ahead c.next_placed.new.objects),
    )

pub returns-clause-tallies : goal.returns-clause-tallies
returns-clause-tallies g c = sym (search (
  rules,
  none_tallied (fields_in (layout_tree c.args.layout.now)) c.objects.tallies (ahead c.objects.reader)
      (ahead c.next_placed.new.objects),
)) ∙ c.objects.invariant.tallied
