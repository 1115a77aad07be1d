use Rattle.icescan_commits.proofs.Stored.{told_as_taken}
use Rattle.icescan_commits.proofs.committing.commits_are_put.Goals as goal

pub returns : goal.returns
returns c = told_as_taken
