-- The leaf counts in none so far.
use Rattle.std.proofs.Common.{◌≡◌, false, take}
use Rattle.std.specs.List.{list_any}
use Rattle.dim_core.specs.Outline.{Outline}
use Rattle.dim_weights.specs.Coefficients.{coef}
use Rattle.dim_weights.specs.Table.{IsWeightsOf, is_nonzero}
use Rattle.feed_sources.proofs.source.counts_in_one.Given as goal

abbrev pub invariant-each : goal.invariant-each
invariant-each l =
    (d : Outline) → IsWeightsOf d l.weights → list_any (λ e. is_nonzero (coef d e l.leaf)) (take l.place l.listed) ≡ false
