-- What holds of the outcome of a step, and of how work begins, by cases.
use Rattle.solver.specs.declared.problem.Turn.{Turn}
use Rattle.solver.specs.declared.problem.Turn.TheVariants.{Asks, Done}
use Rattle.solver.specs.declared.problem.Opened.{Opened}
use Rattle.solver.specs.declared.problem.Opened.TheVariants.{Known, Begun}

abbrev pub MatchTurn : {Q A : Type 0} → Turn Q A → (Q → Type 0) → (A → Type 0) → Type 0
MatchTurn (Asks question) asks done = asks question
MatchTurn (Done answer) asks done = done answer

abbrev pub MatchOpened : {A F : Type 0} → Opened A F → (A → Type 0) → (F → Type 0) → Type 0
MatchOpened (Known answer) known begun = known answer
MatchOpened (Begun frame) known begun = begun frame
