use Rattle.std.proofs.Common.{rules, ◌≡◌, ◌<◌, ◌+◌, arith, length, sym, subst, All}
use Rattle.std.proofs.lemmas.Result.{IfOk-weaker}
use Rattle.rule_laws.specs.declared.formula.Formula.TheVariants.{Binary, If}
use Rattle.rule_laws.specs.declared.formula.Formula.TheViews.{the_lemmas}
use Rattle.rule_laws.specs.declared.formula.Truth.TheVariants.{And, Or}
use Rattle.rule_laws.specs.Meaning.{precedents}
use Rattle.rule_laws.specs.ZeroTest.{operands}
use Rattle.feed_find.specs.declared.need.Need.{Need}
use Rattle.feed_find.specs.declared.need.TruthNeed.{TruthNeed}
use Rattle.feed_find.specs.Choosing.{of_binary, of_if, of_both, of_either}
use Rattle.feed_find.specs.Views.{IsChosen, IsCounted, IsCountedTruth, IsBlamedWithin, is_askable}
use Rattle.feed_find.proofs.Choices.{binary-all, if-all, both-all, or-all}
use Rattle.feed_find.proofs.Counting.{counted-binary, counted-if, counted-and, counted-or, both-ok, if-operands, if-long, each-right}
use Rattle.feed_find.proofs.needed.+needed.Goals as goal

pub needed-needed-requires-in-If-2 : goal.needed-needed-requires-in-If-2
needed-needed-requires-in-If-2 t c =
    let f = c.args.formula.now in
    let truth = c.in_ok-truth-in-If.truth in
    let left = c.in_ok-left-in-If.left in
    let by = c.get-in-If.result.now in
    let l = c.get-in-If-2.result.now in
    let r = c.get-in-If-3.result.now in
    let fe : f ≡ If by l r = cc in
    let first : IsCountedTruth by c.args.before truth = c.in_ok-truth-in-If.ensures.counted in
    let second : IsCounted l truth.behind left = c.in_ok-left-in-If.ensures.counted in
    let few : operands r < 4294967296 = omega (arith, c.requires.few, if-operands f l r by fe) in
    let room : left.behind + length (precedents r) < 4294967296 = omega (arith, c.requires.room, first.behind, second.behind, if-long f l r by fe) in
    (search (rules, the_lemmas), (c.requires.asked, (each-right (is_askable c.args.asked) f l r by fe c.requires.known, (few, (room, c.in_ok-left-in-If.ensures.kept)))))

pub needed-returns-in_ok-right-in-Binary-clause-counted : goal.needed-returns-in_ok-right-in-Binary-clause-counted
needed-returns-in_ok-right-in-Binary-clause-counted t c =
    let f = c.args.formula.now in
    let left = c.in_ok-left-in-Binary.left in
    let right = c.in_ok-right-in-Binary.right in
    let l = c.get.result.now in
    let r = c.get-in-Binary.result.now in
    let fe : f ≡ Binary c.in-Binary.op l r = cc in
    IfOk-weaker c.of_binary.result (λ (n : Need). (n ≡ of_binary c.in-Binary.op left right) × IsBlamedWithin n) (IsCounted f c.args.before)
    (λ n both. counted-binary f l r c.in-Binary.op c.args.before left right n fe c.in_ok-left-in-Binary.ensures.counted c.in_ok-right-in-Binary.ensures.counted both.0 both.1)
    (both-ok c.of_binary.result (λ (n : Need). n ≡ of_binary c.in-Binary.op left right) IsBlamedWithin c.of_binary.ensures.need c.of_binary.ensures.within)

pub needed-returns-in_ok-right-in-Binary-clause-valid : goal.needed-returns-in_ok-right-in-Binary-clause-valid
needed-returns-in_ok-right-in-Binary-clause-valid t c =
    let P = IsChosen c.args.asked.model.now.space in
    let left = c.in_ok-left-in-Binary.left in
    let right = c.in_ok-right-in-Binary.right in
    IfOk-weaker c.of_binary.result (λ (n : Need). n ≡ of_binary c.in-Binary.op left right) (λ (n : Need). All P n.chosen)
    (λ n is. subst (λ (n : Need). All P n.chosen) (sym is) (binary-all P c.in-Binary.op left right c.in_ok-left-in-Binary.ensures.valid c.in_ok-right-in-Binary.ensures.valid)) c.of_binary.ensures.need

pub needed-returns-in_ok-right-in-If-clause-counted : goal.needed-returns-in_ok-right-in-If-clause-counted
needed-returns-in_ok-right-in-If-clause-counted t c =
    let f = c.args.formula.now in
    let truth = c.in_ok-truth-in-If.truth in
    let left = c.in_ok-left-in-If.left in
    let right = c.in_ok-right-in-If.right in
    let by = c.get-in-If.result.now in
    let l = c.get-in-If-2.result.now in
    let r = c.get-in-If-3.result.now in
    let fe : f ≡ If by l r = cc in
    IfOk-weaker c.of_if.result (λ (n : Need). (n ≡ of_if truth left right) × IsBlamedWithin n) (IsCounted f c.args.before)
    (λ n both. counted-if f l r by c.args.before truth left right n fe c.in_ok-truth-in-If.ensures.counted c.in_ok-left-in-If.ensures.counted c.in_ok-right-in-If.ensures.counted both.0 both.1)
    (both-ok c.of_if.result (λ (n : Need). n ≡ of_if truth left right) IsBlamedWithin c.of_if.ensures.need c.of_if.ensures.within)

pub needed-returns-in_ok-right-in-If-clause-valid : goal.needed-returns-in_ok-right-in-If-clause-valid
needed-returns-in_ok-right-in-If-clause-valid t c =
    let P = IsChosen c.args.asked.model.now.space in
    let truth = c.in_ok-truth-in-If.truth in
    let left = c.in_ok-left-in-If.left in
    let right = c.in_ok-right-in-If.right in
    IfOk-weaker c.of_if.result (λ (n : Need). n ≡ of_if truth left right) (λ (n : Need). All P n.chosen)
    (λ n is. subst (λ (n : Need). All P n.chosen) (sym is) (if-all P truth left right c.in_ok-truth-in-If.ensures.valid c.in_ok-left-in-If.ensures.valid c.in_ok-right-in-If.ensures.valid)) c.of_if.ensures.need

pub truth_needed-returns-in_ok-right-in-And-clause-valid : goal.truth_needed-returns-in_ok-right-in-And-clause-valid
truth_needed-returns-in_ok-right-in-And-clause-valid t c =
    let P = IsChosen c.args.asked.model.now.space in
    let left = c.in_ok-left-in-And.left in
    let right = c.in_ok-right-in-And.right in
    IfOk-weaker c.of_both.result (λ (n : TruthNeed). n ≡ of_both left right) (λ (n : TruthNeed). All P n.chosen)
    (λ n is. subst (λ (n : TruthNeed). All P n.chosen) (sym is) (both-all P left right c.in_ok-left-in-And.ensures.valid c.in_ok-right-in-And.ensures.valid)) c.of_both.ensures

pub truth_needed-returns-in_ok-right-in-And-clause-counted : goal.truth_needed-returns-in_ok-right-in-And-clause-counted
truth_needed-returns-in_ok-right-in-And-clause-counted t c =
    let f = c.args.truth.now in
    let left = c.in_ok-left-in-And.left in
    let right = c.in_ok-right-in-And.right in
    let l = c.get.result.now in
    let r = c.get-in-And.result.now in
    let fe : f ≡ And l r = cc in
    IfOk-weaker c.of_both.result (λ (n : TruthNeed). n ≡ of_both left right) (IsCountedTruth f c.args.before)
    (λ n is. counted-and f l r c.args.before left right n fe c.in_ok-left-in-And.ensures.counted c.in_ok-right-in-And.ensures.counted is) c.of_both.ensures

pub truth_needed-returns-in_ok-right-in-Or-clause-counted : goal.truth_needed-returns-in_ok-right-in-Or-clause-counted
truth_needed-returns-in_ok-right-in-Or-clause-counted t c =
    let f = c.args.truth.now in
    let left = c.in_ok-left-in-Or.left in
    let right = c.in_ok-right-in-Or.right in
    let l = c.get-in-Or.result.now in
    let r = c.get-in-Or-2.result.now in
    let fe : f ≡ Or l r = cc in
    IfOk-weaker c.of_either.result (λ (n : TruthNeed). n ≡ of_either left right) (IsCountedTruth f c.args.before)
    (λ n is. counted-or f l r c.args.before left right n fe c.in_ok-left-in-Or.ensures.counted c.in_ok-right-in-Or.ensures.counted is) c.of_either.ensures

pub truth_needed-returns-in_ok-right-in-Or-clause-valid : goal.truth_needed-returns-in_ok-right-in-Or-clause-valid
truth_needed-returns-in_ok-right-in-Or-clause-valid t c =
    let P = IsChosen c.args.asked.model.now.space in
    let left = c.in_ok-left-in-Or.left in
    let right = c.in_ok-right-in-Or.right in
    IfOk-weaker c.of_either.result (λ (n : TruthNeed). n ≡ of_either left right) (λ (n : TruthNeed). All P n.chosen)
    (λ n is. subst (λ (n : TruthNeed). All P n.chosen) (sym is) (or-all P left right c.in_ok-left-in-Or.ensures.valid c.in_ok-right-in-Or.ensures.valid)) c.of_either.ensures
