use Rattle.ice_filter_laws.proofs.Filters.{written, writes, refused, refuses, overflowed, overflows, nothing_else}
use Rattle.ice_filter_laws.proofs.laws.texts_say_filters.Goals as goal

pub returns-clause-filter : goal.returns-clause-filter
returns-clause-filter c = λ text f. (λ e. written text f e, λ h. writes text f h)

pub returns-clause-stops : goal.returns-clause-stops
returns-clause-stops c = λ text at. (λ e. refused text at e, λ h. refuses text at h)

pub returns-clause-too_big : goal.returns-clause-too_big
returns-clause-too_big c = λ text. (λ e. overflowed text e, λ h. overflows text h)

pub returns-clause-others : goal.returns-clause-others
returns-clause-others c = λ text e h. nothing_else text e h
