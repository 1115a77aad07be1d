use Rattle.std.proofs.Common.{length}
use Rattle.ice_filter.specs.Grammar.{limits}
use Rattle.ice_filter.specs.Lexing.{tokens_of}
use Rattle.ice_filter.proofs.Unique.{one_reading}
use Rattle.ice_filter.proofs.readings.texts_have_one_reading.Goals as goal

pub returns : goal.returns
returns c = λ text one other h k. one_reading limits (length text) (tokens_of text) one other h k
