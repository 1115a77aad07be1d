use Rattle.std.proofs.Common.{◌≡◌, ◌++◌, length}
use denote.Text.{Utf8}
use denote.Shadow.{shadow}
use Rattle.ice_filter.specs.Texts.{doubled}
use Rattle.ice_filter.proofs.phrase.Phrase.push_doubled.Given as goal

-- the text so far, and what is left with its quotes doubled
abbrev pub invariant-quotes : goal.invariant-quotes
invariant-quotes l = shadow (Utf8 l.rest) × (l.self ++ doubled l.quote l.rest ≡ l.fn.self ++ doubled l.quote l.fn.text)

abbrev pub decreases-quotes : goal.decreases-quotes
decreases-quotes l = length l.rest
