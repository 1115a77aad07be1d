use Rattle.ice_catalog_tests.proofs.versions.seats.a_late_commit_is_a_conflict.Given as goal

abbrev pub ghosts-commit_from_two : goal.ghosts-commit_from_two
ghosts-commit_from_two g a = record { name = a.blank.name; parts = a.blank.parts }
