use Rattle.icescan_answer_laws.proofs.Asked.{means_its_text}
use Rattle.icescan_answer_laws.proofs.answers.filters_mean_their_texts.Goals as goal

pub returns : goal.returns
returns c = means_its_text
