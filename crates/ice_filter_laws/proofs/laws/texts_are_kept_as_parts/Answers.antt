use Rattle.ice_filter_laws.proofs.Parts.{kept}
use Rattle.ice_filter_laws.proofs.laws.texts_are_kept_as_parts.Goals as goal

pub returns : goal.returns
returns c = λ text. kept text
