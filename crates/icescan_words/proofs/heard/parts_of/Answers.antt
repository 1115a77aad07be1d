use Rattle.std.proofs.Common.{None, arith}
use Rattle.std.proofs.lemmas.Str.Pattern.{split_parts}
use Rattle.clap.proofs.CutLemmas.{list_any-Lacks}
use Rattle.icescan_words.proofs.heard.parts_of.Goals as goal

pub returns-in-None-clause-value : goal.returns-in-None-clause-value
returns-in-None-clause-value c =
    rw (list_any-Lacks 61 c.args.word.now (split_parts 61 c.args.word.now None c.in-None.ensures.cases (omega arith)))
