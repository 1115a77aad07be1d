use Rattle.std.proofs.Common.{◌≡◌, rules}
use Rattle.icescan_forms.specs.declared.part.Part.TheVariants as part
use Rattle.icescan_parts.proofs.running.part_lines.Goals as goal

pub returns-in-All-clause-given : goal.returns-in-All-clause-given
returns-in-All-clause-given g c =
    let asked : c.args.part.now ≡ part.All = search rules in
    rw asked c.lines_at.ensures.given

pub returns-in-Only-clause-given : goal.returns-in-Only-clause-given
returns-in-Only-clause-given g c =
    let asked : c.args.part.now ≡ part.Only c.in-Only.snapshots = search rules in
    rw asked (rw c.as_str.ensures at c.lines_by.ensures.given)

pub returns-in-Without-clause-given : goal.returns-in-Without-clause-given
returns-in-Without-clause-given g c =
    let asked : c.args.part.now ≡ part.Without c.in-Without.snapshots = search rules in
    rw asked (rw c.as_str-in-Without.ensures at c.lines_by-in-Without.ensures.given)
