use Rattle.std.proofs.Common.{refl}
use Rattle.ice_meta.proofs.Following.{other_members_stay}
use Rattle.ice_meta.proofs.Tabled.{others_stay, other_refs_stay, other_targets_stay, history_stays}
use Rattle.ice_meta.proofs.laws.a_commit_keeps_the_rest.Goals as goal

pub returns-clause-members : goal.returns-clause-members
returns-clause-members c = other_members_stay

pub returns-clause-snapshots : goal.returns-clause-snapshots
returns-clause-snapshots c = others_stay

pub returns-clause-refs : goal.returns-clause-refs
returns-clause-refs c = other_refs_stay

pub returns-clause-targets : goal.returns-clause-targets
returns-clause-targets c = other_targets_stay

pub returns-clause-history : goal.returns-clause-history
returns-clause-history c = history_stays

pub returns-clause-schemas : goal.returns-clause-schemas
returns-clause-schemas c = λ t s id. refl

pub returns-clause-specs : goal.returns-clause-specs
returns-clause-specs c = λ t s id. refl
