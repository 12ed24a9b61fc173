-- Which parts of a statement are final.
use Rattle.std.specs.Prelude.{Bool, true, false}
use Rattle.rule_model.specs.declared.rules.Statement.{Statement}
use Rattle.rule_notes.specs.declared.finals.Finals.{Finals}
use Rattle.rule_notes.specs.Reached.{is_final}

abbrev pub finals_of : Statement → Finals
finals_of s = record { leaf = is_final s.leaf; cons = is_final s.cons }

-- the part for a kind of cells
abbrev pub final_for : Finals → Bool → Bool
final_for finals true = finals.leaf
final_for finals false = finals.cons
