use Rattle.icescan_commands.proofs.explaining.run_shown.Goals as goal

pub returns-else-shows_progress : goal.returns-else-shows_progress
returns-else-shows_progress g c = rw c.silently.ensures at c.run_explained-else-shows_progress.ensures
