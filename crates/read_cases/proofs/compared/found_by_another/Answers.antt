use Rattle.std.proofs.Common.{subst, sym}
use Rattle.memo_cells.specs.Knowledge.{Knows}
use Rattle.read_cases.proofs.compared.found_by_another.Goals as goal

-- what the one knows, the other knows
pub returns-clause-none : goal.returns-clause-none
returns-clause-none g c = λ known. c.read.ensures.known
    (subst (λ knowledge. Knows knowledge c.args.cell) (sym c.in_ok-other.ensures.knows) known)
