use Rattle.cell_reader.proofs.snapshot.Snapshot.value_at.Given as goal

-- the ledger is the new one
abbrev pub ghosts-uncounted_value : goal.ghosts-uncounted_value
ghosts-uncounted_value a = record { name = a.blank.name; parts = a.blank.parts }
