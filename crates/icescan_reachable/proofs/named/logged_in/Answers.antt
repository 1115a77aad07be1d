use Rattle.std.proofs.Common.{◌≡◌, [], ◌∷◌}
use Rattle.icescan_reachable.specs.Lines.{line}
use Rattle.icescan_reachable.specs.declared.kind.FileKind.TheVariants as kind
use Rattle.icescan_reachable.proofs.named.logged_in.Goals as goal

pub returns-clause-own : goal.returns-clause-own
returns-clause-own c =
    let first : c.put_line.new.lines.items ≡ line kind.Metadata c.args.path.now ∷ [] =
    rw c.new-lines.ensures.items at c.in_ok-put_line.ensures in
    rw first at c.in_ok-put_named.ensures.behind
