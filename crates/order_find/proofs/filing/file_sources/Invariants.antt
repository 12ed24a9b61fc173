use Rattle.order_find.specs.Filing.{AreFiled, looked_by}
use Rattle.order_find.proofs.filing.file_sources.Given as goal

-- the sources before this one are filed
abbrev pub invariant-each : goal.invariant-each
invariant-each l = AreFiled (looked_by l.model l.numbering l.sources l.filing) l.k
