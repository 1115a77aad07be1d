use Rattle.std.proofs.Common.{◌≡◌, ◌∙◌, length, sym, ap, arith}
use Rattle.avro_file.specs.Files.{Shows, ahead, type_of}
use Rattle.avro_file_picked.proofs.Picks.{next_none}
use Rattle.avro_file_picked.proofs.Placed.{ends_there, written}
use Rattle.avro_file_picked.proofs.Rows.{stand_alike}
use Rattle.avro_file.specs.Blocks.{max_items}
use Rattle.avro_file_picked.specs.Rows.{trees_of, row, AreAlike}
use Rattle.avro_file_picked.specs.Finding.{layout_tree}
use Rattle.avro_file_picked.proofs.layout.Layout.next_placed.Goals as goal

pub returns-in_default-clause-next : goal.returns-in_default-clause-next
returns-in_default-clause-next c =
    next_none (λ x v. ⊥) Shows (ahead c.args.objects.now) (ahead c.front.new.self)
    (rw c.in_default.is at c.in_ok-bytes.ensures.front)

pub pass-requires : goal.pass-requires
pass-requires c =
    let front = rw c.in-Some.is at c.in_ok-bytes.ensures.front in
    let there : layout_tree c.args.self.now ≡ type_of c.front.new.self = c.requires.schema
    ∙ sym c.in_ok-bytes.ensures.schema in
    let steps : AreAlike (trees_of c.deref.result.now) (row (type_of c.front.new.self)) =
    rw (c.deref.ensures.value, ← there) c.requires.fits.0.0 in
    let ends = ends_there (type_of c.front.new.self) (trees_of c.deref.result.now) c.row_end-end.new.starts
    c.in-Some.bytes.now c.in-Some-end.end steps (c.in-Some-end.ensures.1, c.in-Some-end.ensures.2) in
    (c.in-Some.bytes.now, ends.0, front.0, ends.1)

pub returns-in-Some-end-clause-placed : goal.returns-in-Some-end-clause-placed
returns-in-Some-end-clause-placed c =
    let front = rw c.in-Some.is at c.in_ok-bytes.ensures.front in
    let t = layout_tree c.args.self.now in
    let e = c.in-Some-end.ensures in
    let bytes : c.in-Some.bytes.now ≡ c.pass.result.bytes.now = sym front.0.2 ∙ c.pass.ensures.bytes.2 in
    let alike : AreAlike (trees_of c.deref.result.now) (row t) = rw c.deref.ensures.value c.requires.fits.0.0 in
    let stand = stand_alike (trees_of c.deref.result.now) (row t) c.row_end-end.new.starts c.in-Some.bytes.now 0
    max_items c.in-Some-end.end e.1 alike e.2 in
    let starts = written c.row_end-end.new.starts c.args.places.now.starts.items c.args.places.now.starts.len
    (omega (arith, c.args.places.now.starts.ok.0))
    (omega (arith, c.row_end-end.auto.starts, ap length c.deref_mut.ensures.value)) in (
      c.requires.fits.0,
      c.pass.ensures.object ∙ c.in_ok-bytes.ensures.schema ∙ sym c.requires.schema,
      rw (c.in-Some-end.is, starts, ← bytes) (e.0, e.1, stand),
    )
