use Rattle.std.proofs.Common.{sym}
use Rattle.icescan_explain.proofs.Wanted.{same_spec}
use Rattle.icescan_explain.proofs.manifests.tell_row.Goals as goal

pub read_wanted-requires-clause-spec : goal.read_wanted-requires-clause-spec
read_wanted-requires-clause-spec g c =
    same_spec c.args.tests.now c.args.scan.now c.args.row.now.spec_id c.in-Some.of_spec.now c.requires.by
    (sym c.in-Some.ensures)
