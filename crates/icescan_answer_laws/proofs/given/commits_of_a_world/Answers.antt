use Rattle.icescan_answer_laws.proofs.Worlds.{committed}
use Rattle.icescan_answer_laws.proofs.given.commits_of_a_world.Goals as goal

pub returns : goal.returns
returns g c = λ world request commit are h. committed (g.F.Files.gives c.args.files.now) world are request commit h
