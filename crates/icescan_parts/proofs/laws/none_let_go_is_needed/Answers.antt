use Rattle.std.proofs.Common.{}
use Rattle.icescan_parts.proofs.KeptReached.{all_kept, none_let_go}
use Rattle.icescan_parts.proofs.OnlyKept.{only_kept}
use Rattle.icescan_parts.proofs.laws.none_let_go_is_needed.Goals as goal

pub returns : goal.returns
returns g c =
    let gives = g.F.Files.gives c.args.files.now in
    record { only = only_kept gives; kept = all_kept gives; let_go = none_let_go gives }
