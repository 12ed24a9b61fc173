use Rattle.std.proofs.Common.{◌≡◌, ◌++◌, map, drop}
use Rattle.script_bind.specs.Binding.{term_of}
use Rattle.script_bind.proofs.terms.+terms.Given as goal

abbrev pub invariant-terms_of-each : goal.invariant-terms_of-each
invariant-terms_of-each l =
    l.terms.items ++ map (term_of l.words) (drop l.expr-index l.exprs) ≡ map (term_of l.words) l.exprs
