use Rattle.std.proofs.Common.{sym, subst}
use Rattle.bind_arguments.specs.Inside.Families.{AreFamiliesIn}
use Rattle.bind_arguments.proofs.FamilyFacts.{no_families}
use Rattle.bind_arguments.proofs.families.Families.new.Goals as goal

pub returns : goal.returns
returns c space = subst (AreFamiliesIn space) (sym c.new.ensures.items) (no_families space)
