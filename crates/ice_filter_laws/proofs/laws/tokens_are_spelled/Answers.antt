use Rattle.ice_filter_laws.proofs.Lying.{good_lie, lie_tokens, bad_begins_none, none_begins_bad}
use Rattle.ice_filter_laws.proofs.laws.tokens_are_spelled.Goals as goal

pub returns-clause-good : goal.returns-clause-good
returns-clause-good c = λ text tokens. (λ h. good_lie text tokens h, λ h. lie_tokens text tokens h)

pub returns-clause-bad : goal.returns-clause-bad
returns-clause-bad c = λ text before at.
    (λ h. bad_begins_none text before at h, λ h. none_begins_bad text before at h.0 h.1 h.2)
