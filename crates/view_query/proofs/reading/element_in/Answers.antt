use Rattle.std.proofs.Common.{◌∙◌, ap, sym}
use Rattle.std.proofs.lemmas.Bool.{ne_eqb}
use Rattle.view_query.proofs.LoopFacts.{sought_later}
use Rattle.view_query.proofs.reading.element_in.Goals as goal

pub loop-index-preserved : goal.loop-index-preserved
loop-index-preserved c =
    c.loop-index.invariant
    ∙ sought_later c.args.axes.now c.args.line.now c.args.place c.loop-index.index c.index-axes-index.result c.loop-index-test.true c.index-axes-index.is
    (ne_eqb c.index-axes-index.result.place c.args.place (λ e. c.if-axes-index.false (sym (ap (λ a. a.place) c.index-axes-index.is) ∙ e)))
