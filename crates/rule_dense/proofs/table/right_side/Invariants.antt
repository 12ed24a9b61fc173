use Rattle.rule_dense.proofs.table.right_side.Given as goal

-- the ledger is the new one
abbrev pub ghosts-statement_value : goal.ghosts-statement_value
ghosts-statement_value a = record { name = a.blank.name; parts = a.blank.parts }
