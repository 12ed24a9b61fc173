use Rattle.std.proofs.Common.{◌≡◌, refl, sym, ◌∙◌, true, false, slice_index_or}
use Rattle.feed_sources.proofs.AboveFacts.{meets-more, meets-none}
use Rattle.feed_sources.proofs.source.is_one_listed.Goals as goal

pub each-preserved : goal.each-preserved
each-preserved c =
    meets-more c.args.elements.now c.args.listed.now c.each.place (slice_index_or c.args.elements.now c.each.place 0) c.each-test.true refl c.each.invariant
    (λ has. (let sure = c.is_listed.ensures.1 has in let clash : true ≡ false = sym sure ∙ c.if-is_listed.false in cc))

pub returns-clause-none : goal.returns-clause-none
returns-clause-none c = λ _. meets-none c.args.elements.now c.args.listed.now c.each.place c.each-test.false c.each.invariant
