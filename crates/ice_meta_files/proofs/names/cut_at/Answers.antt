use Rattle.std.proofs.Common.{None, arith}
use Rattle.std.proofs.lemmas.Str.Pattern.{split_parts}
use Rattle.ice_meta_files.proofs.Cuts.{none_is}
use Rattle.ice_meta_files.proofs.names.cut_at.Goals as goal

pub returns-in-None : goal.returns-in-None
returns-in-None c =
    rw (none_is c.args.mark c.args.name.now
    (split_parts c.args.mark c.args.name.now None c.in-None.ensures.cases c.requires))
