use Rattle.std.proofs.Common.{inl}
use Rattle.avro_file.specs.Files.{Shows, ahead}
use Rattle.avro_file_picked.specs.Finding.{ArePicked, layout_tree, field_paths_of}
use Rattle.avro_file_picked.proofs.Picks.{next_shown}
use Rattle.avro_file_picked.proofs.layout.Layout.next_with.Goals as goal

pub returns-in_ok-picked-in-Ok-Some-clause-next : goal.returns-in_ok-picked-in-Ok-Some-clause-next
returns-in_ok-picked-in-Ok-Some-clause-next c =
    inl (next_shown Shows (ArePicked (layout_tree c.args.self.now) (field_paths_of c.args.self.now))
    (ahead c.args.objects.now)
    (ahead c.next.new.self) c.in-Ok-Some.object c.in_ok-picked-in-Ok-Some.field-0 c.in_ok-picked-in-Ok-Some.ensures
    (rw (c.in-Ok-Some.field-0-is, c.fork-after.ensures) at c.in-Ok-Some.ensures.next))
