use Rattle.read_cases.proofs.compared.first_difference.Given as goal

-- the steps are counted in a ledger of their own
abbrev pub ghosts-counted_difference : goal.ghosts-counted_difference
ghosts-counted_difference a = record { name = a.blank.name; parts = a.blank.parts }
