use Rattle.std.proofs.Common.{◌≡◌, ◌≤◌, ◌+◌, arith, refl}
use Rattle.avro_schema.specs.View.{tree}
use Rattle.avro_file_parts.specs.Place.{position_of}
use Rattle.ice_manifest_values.proofs.Coming.{block_ahead, none_ahead, never_fails, counted_off}
use Rattle.ice_manifest_values.proofs.items.ItemsAhead.at_item.Goals.{in_default-via-in-Ok+else-count-gt0}
use Rattle.ice_manifest_values.proofs.items.ItemsAhead.at_item.Goals.{in_default-via-in_default}
use Rattle.ice_manifest_values.proofs.items.ItemsAhead.at_item.Goals as goal

pub returns-in-Ok-clause-no_more : goal.returns-in-Ok-clause-no_more
returns-in-Ok-clause-no_more c =
    let off = counted_off (position_of c.args.self.now.place)
    (position_of c.in-Ok.place) c.in-Ok.count c.in-Ok.ensures in
    let h : c.in-Ok.count + c.in-Ok.place.left ≤ c.args.self.now.in_block + c.args.self.now.place.left =
    omega (arith, off) in
    h

pub returns-in-Ok-clause-items : goal.returns-in-Ok-clause-items
returns-in-Ok-clause-items c = λ vs ahead.
    let zero : c.args.self.now.in_block ≡ 0 = omega (arith, c.if-self-gt0.false) in
    let off = counted_off (position_of c.args.self.now.place)
    (position_of c.in-Ok.place) c.in-Ok.count c.in-Ok.ensures in
    let b = block_ahead (tree c.args.self.now.schema.now) ahead.1 c.in-Ok.count (position_of c.args.self.now.place)
    (position_of c.in-Ok.place) (vs, ahead.2) (rw zero at ahead.3) c.in-Ok.ensures c.if-count-gt0.true in
    (c.if-count-gt0.true, (omega (arith, off, ahead.0), b.0, ahead.2, b.1), refl)

pub returns-in_default-clause-items : goal.returns-in_default-clause-items
returns-in_default-clause-items c =
    elim c.in_default.branch [
      | in_default-via-in-Ok+else-count-gt0 w ↦ λ vs ahead.
          let zero : c.args.self.now.in_block ≡ 0 = omega (arith, c.if-self-gt0.false) in
          let none : w.in-Ok.count ≡ 0 = omega (arith, w.if-count-gt0.false) in
          none_ahead (tree c.args.self.now.schema.now) ahead.1 (position_of c.args.self.now.place)
          (position_of w.in-Ok.place) (vs, ahead.2) (rw zero at ahead.3) (rw none at w.in-Ok.ensures)
      | in_default-via-in_default w ↦ λ vs ahead.
          let zero : c.args.self.now.in_block ≡ 0 = omega (arith, c.if-self-gt0.false) in
          absurd (never_fails (tree c.args.self.now.schema.now) ahead.1 (position_of c.args.self.now.place)
          (vs, ahead.2) w.in_default.field-0 (rw zero at ahead.3) w.in_default.ensures)
    ]
