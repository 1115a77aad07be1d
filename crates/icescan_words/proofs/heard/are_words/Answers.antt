use Rattle.std.proofs.Common.{sym, ◌∙◌}
use Rattle.icescan_words.proofs.Same.{same_words}
use Rattle.icescan_words.proofs.heard.are_words.Goals as goal

pub returns : goal.returns
returns c = λ e. same_words c.args.plain.now c.args.wanted.now (sym c.eq.ensures ∙ e)
