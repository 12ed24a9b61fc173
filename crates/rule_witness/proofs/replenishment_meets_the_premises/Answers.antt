use Rattle.std.proofs.Common.{inl, inr, lit<, refl}
use Rattle.rule_witness.specs.Replenishment.{stock_feed, closing}
use Rattle.rule_witness.proofs.WellFormed.{formed}
use Rattle.rule_witness.proofs.Ordered.{ordered}
use Rattle.rule_witness.proofs.Covered.{covered, feeds-opening}
use Rattle.rule_witness.proofs.Values.{carried-opening, carried-available, carried-purchase, entered-opening, entered-purchase}
use Rattle.rule_witness.proofs.replenishment_meets_the_premises.Goals as goal

pub returns-clause-well_formed : goal.returns-clause-well_formed
returns-clause-well_formed c = formed

pub returns-clause-ordered : goal.returns-clause-ordered
returns-clause-ordered c = ordered

pub returns-clause-covered : goal.returns-clause-covered
returns-clause-covered c = covered

pub returns-clause-fed : goal.returns-clause-fed
returns-clause-fed c = inr (0, closing, inl (lit< tt, refl), (closing, refl, (0, stock_feed, lit< tt, refl, feeds-opening)))

pub returns-clause-dense : goal.returns-clause-dense
returns-clause-dense c stored = inl ((lit< tt, refl), refl)

pub returns-clause-carried : goal.returns-clause-carried
returns-clause-carried c = carried-opening

pub returns-clause-total : goal.returns-clause-total
returns-clause-total c = carried-available

pub returns-clause-to_purchase : goal.returns-clause-to_purchase
returns-clause-to_purchase c = carried-purchase

pub returns-clause-stet : goal.returns-clause-stet
returns-clause-stet c = entered-opening

pub returns-clause-more_to_purchase : goal.returns-clause-more_to_purchase
returns-clause-more_to_purchase c = entered-purchase
