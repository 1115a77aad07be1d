use Rattle.std.proofs.Common.{arith}
use Rattle.avro_file.proofs.Opened.{opens, opens_only}
use Rattle.avro_file.proofs.container.Container.open_with.Goals as goal

pub returns-clause-held : goal.returns-clause-held
returns-clause-held c = opens c.args.bytes.now c.read_header.result c.read_header.ensures.exact (omega arith)

pub returns-clause-only : goal.returns-clause-only
returns-clause-only c = opens_only c.args.bytes.now c.read_header.result c.read_header.ensures.exact
