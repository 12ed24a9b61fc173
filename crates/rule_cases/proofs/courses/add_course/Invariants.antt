use Rattle.rule_cases.proofs.courses.add_course.Given as goal

-- the steps are counted in a ledger of their own
abbrev pub ghosts-add_questions : goal.ghosts-add_questions
ghosts-add_questions a = record { name = a.blank.name; parts = a.blank.parts }
