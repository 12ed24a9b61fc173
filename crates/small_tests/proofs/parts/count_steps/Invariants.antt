use Rattle.small_tests.proofs.parts.count_steps.Given as goal

abbrev pub ghosts-three_steps : goal.ghosts-three_steps
ghosts-three_steps a = record { name = a.blank.name; parts = a.blank.parts }
