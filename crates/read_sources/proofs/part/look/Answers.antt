use Rattle.std.proofs.Common.{◌≡◌, sym, ap, ◌∙◌, true, false}
use Rattle.order_laws.specs.Earlier.{is_below, is_within}
use Rattle.ref_order.specs.Reads.{precedent_of}
use Rattle.read_sources.specs.Gathering.{is_level_in, is_lagged_in}
use Rattle.read_sources.proofs.part.look.Goals as goal

pub returns-clause-seen : goal.returns-clause-seen
returns-clause-seen c =
    let level : is_level_in c.args.part (precedent_of c.args.read) ≡ true = ap is_within (sym c.most_excess-lag.ensures.most) ∙ sym c.is_within.ensures ∙ c.if-not-is_within.false in
    let not_lagged : is_lagged_in c.args.part (precedent_of c.args.read) ≡ false = ap is_below (sym c.most_excess-lag.ensures.most) ∙ sym c.is_below.ensures ∙ c.if-is_below.false in
    (level, not_lagged, c.is_below-2.ensures ∙ ap is_below c.most_excess.ensures.most)
