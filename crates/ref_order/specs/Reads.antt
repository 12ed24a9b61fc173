-- What a formula reads, as the code has it.
use Rattle.rule_laws.specs.Meaning.{Precedent, Named, Components}
use Rattle.ref_order.specs.declared.reads.Read.{Read}
use Rattle.ref_order.specs.declared.reads.Read.TheVariants.{Cell, Children}

abbrev pub precedent_of : Read → Precedent
precedent_of (Cell r) = Named r.now
precedent_of (Children dim) = Components dim
