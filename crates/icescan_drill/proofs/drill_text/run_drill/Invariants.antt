use Rattle.icescan_drill.proofs.drill_text.run_drill.Given as goal

abbrev pub ghosts-drill_table : goal.ghosts-drill_table
ghosts-drill_table g a = record { name = a.blank.name; parts = a.blank.parts }
