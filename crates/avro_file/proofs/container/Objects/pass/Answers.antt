use Rattle.avro_schema.specs.View.{tree}
use Rattle.avro_file.specs.Where.{file_position_of}
use Rattle.avro_file.specs.Files.{Shows}
use Rattle.avro_file.proofs.Front.{passed_front, comes_next}
use Rattle.avro_file.proofs.container.Objects.pass.Goals as goal

pub returns-clause-next : goal.returns-clause-next
returns-clause-next c =
    let o = c.args.self.now in
    let at = c.requires.2 in
    let passed = passed_front (tree o.schema.now) o.sync.now o.total (file_position_of o.spot) c.requires.0 c.args.end
    c.requires.1 at.1 at.2 c.requires.3 in
    comes_next Shows o.total o.refused _ _ passed.0 _ at.0 passed.2 passed.1
