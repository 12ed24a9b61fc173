use Rattle.std.proofs.Common.{rules, ◌≡◌, refl, ◌++◌, sym, ap, ◌∙◌}
use Rattle.rule_laws.specs.declared.formula.Formula.TheViews.{the_lemmas}
use Rattle.rule_laws.specs.Meaning.{precedents, truth_precedents}
use Rattle.order_laws.specs.Earlier.{is_earlier}
use Rattle.rule_laws.proofs.PrecedentFacts.{binary_reads, if_reads, compare_reads, and_reads, or_reads}
use Rattle.check_order.proofs.Walks.{first, second, both}
use Rattle.check_order.proofs.walk.+walk.Goals as goal

pub walk-walk-after-requires : goal.walk-walk-after-requires
walk-walk-after-requires t c =
    let e : precedents c.args.formula.now ≡ precedents c.get.result.now ++ precedents c.in-Binary.right = ap precedents c.in-Binary.is ∙ binary_reads c.in-Binary.field-0 c.in-Binary.left c.in-Binary.right ∙ ap (λ f. precedents f ++ precedents c.in-Binary.right) (sym c.get.ensures) in
    (search (rules, the_lemmas), (c.requires.cells, (c.requires.known, first c.args.cells.model.now.space c.args.cells.cube (is_earlier c.args.cells.model.now c.args.cells.cube c.args.cells.area.now c.args.kind) c.args.seen.count (precedents c.args.formula.now) (precedents c.get.result.now) (precedents c.in-Binary.right) e c.requires.reads)))

pub walk-walk-requires : goal.walk-walk-requires
walk-walk-requires t c =
    let e : precedents c.args.formula.now ≡ precedents c.get.result.now ++ precedents c.get-in-Binary.result.now = ap precedents c.in-Binary.is ∙ binary_reads c.in-Binary.field-0 c.in-Binary.left c.in-Binary.right ∙ ap (λ f. precedents f ++ precedents c.in-Binary.right) (sym c.get.ensures) ∙ ap (λ f. precedents c.get.result.now ++ precedents f) (sym c.get-in-Binary.ensures) in
    (search (rules, the_lemmas), (c.requires.cells, (c.walk-after.ensures.known, second c.args.cells.model.now.space c.args.cells.cube (is_earlier c.args.cells.model.now c.args.cells.cube c.args.cells.area.now c.args.kind) c.args.seen c.walk-after.result (precedents c.args.formula.now) (precedents c.get.result.now) (precedents c.get-in-Binary.result.now) e c.walk-after.ensures.seen c.requires.reads)))

pub walk-returns-in-Binary-clause-seen : goal.walk-returns-in-Binary-clause-seen
walk-returns-in-Binary-clause-seen t c =
    let e : precedents c.args.formula.now ≡ precedents c.get.result.now ++ precedents c.get-in-Binary.result.now = ap precedents c.in-Binary.is ∙ binary_reads c.in-Binary.field-0 c.in-Binary.left c.in-Binary.right ∙ ap (λ f. precedents f ++ precedents c.in-Binary.right) (sym c.get.ensures) ∙ ap (λ f. precedents c.get.result.now ++ precedents f) (sym c.get-in-Binary.ensures) in
    both c.args.cells.model.now.space c.args.cells.cube (is_earlier c.args.cells.model.now c.args.cells.cube c.args.cells.area.now c.args.kind) c.args.seen c.walk-after.result c.walk.result (precedents c.args.formula.now) (precedents c.get.result.now) (precedents c.get-in-Binary.result.now) e c.walk-after.ensures.seen c.walk.ensures.seen

pub walk_truth-walk-after-requires : goal.walk_truth-walk-after-requires
walk_truth-walk-after-requires t c =
    let e : truth_precedents c.args.truth.now ≡ precedents c.in-Compare.left ++ precedents c.in-Compare.right = ap truth_precedents c.in-Compare.is ∙ compare_reads c.in-Compare.field-0 c.in-Compare.left c.in-Compare.right in
    (search (rules, the_lemmas), (c.requires.cells, (c.requires.known, first c.args.cells.model.now.space c.args.cells.cube (is_earlier c.args.cells.model.now c.args.cells.cube c.args.cells.area.now c.args.kind) c.args.seen.count (truth_precedents c.args.truth.now) (precedents c.in-Compare.left) (precedents c.in-Compare.right) e c.requires.reads)))

pub walk_truth-walk-requires : goal.walk_truth-walk-requires
walk_truth-walk-requires t c =
    let e : truth_precedents c.args.truth.now ≡ precedents c.in-Compare.left ++ precedents c.in-Compare.right = ap truth_precedents c.in-Compare.is ∙ compare_reads c.in-Compare.field-0 c.in-Compare.left c.in-Compare.right in
    (search (rules, the_lemmas), (c.requires.cells, (c.walk-after.ensures.known, second c.args.cells.model.now.space c.args.cells.cube (is_earlier c.args.cells.model.now c.args.cells.cube c.args.cells.area.now c.args.kind) c.args.seen c.walk-after.result (truth_precedents c.args.truth.now) (precedents c.in-Compare.left) (precedents c.in-Compare.right) e c.walk-after.ensures.seen c.requires.reads)))

pub walk_truth-returns-in-Compare-clause-seen : goal.walk_truth-returns-in-Compare-clause-seen
walk_truth-returns-in-Compare-clause-seen t c =
    let e : truth_precedents c.args.truth.now ≡ precedents c.in-Compare.left ++ precedents c.in-Compare.right = ap truth_precedents c.in-Compare.is ∙ compare_reads c.in-Compare.field-0 c.in-Compare.left c.in-Compare.right in
    both c.args.cells.model.now.space c.args.cells.cube (is_earlier c.args.cells.model.now c.args.cells.cube c.args.cells.area.now c.args.kind) c.args.seen c.walk-after.result c.walk.result (truth_precedents c.args.truth.now) (precedents c.in-Compare.left) (precedents c.in-Compare.right) e c.walk-after.ensures.seen c.walk.ensures.seen

pub walk_truth-walk_truth-after-requires : goal.walk_truth-walk_truth-after-requires
walk_truth-walk_truth-after-requires t c =
    let e : truth_precedents c.args.truth.now ≡ truth_precedents c.get.result.now ++ truth_precedents c.in-And.right = ap truth_precedents c.in-And.is ∙ and_reads c.in-And.left c.in-And.right ∙ ap (λ f. truth_precedents f ++ truth_precedents c.in-And.right) (sym c.get.ensures) in
    (search (rules, the_lemmas), (c.requires.cells, (c.requires.known, first c.args.cells.model.now.space c.args.cells.cube (is_earlier c.args.cells.model.now c.args.cells.cube c.args.cells.area.now c.args.kind) c.args.seen.count (truth_precedents c.args.truth.now) (truth_precedents c.get.result.now) (truth_precedents c.in-And.right) e c.requires.reads)))

pub walk_truth-walk_truth-requires : goal.walk_truth-walk_truth-requires
walk_truth-walk_truth-requires t c =
    let e : truth_precedents c.args.truth.now ≡ truth_precedents c.get.result.now ++ truth_precedents c.get-in-And.result.now = ap truth_precedents c.in-And.is ∙ and_reads c.in-And.left c.in-And.right ∙ ap (λ f. truth_precedents f ++ truth_precedents c.in-And.right) (sym c.get.ensures) ∙ ap (λ f. truth_precedents c.get.result.now ++ truth_precedents f) (sym c.get-in-And.ensures) in
    (search (rules, the_lemmas), (c.requires.cells, (c.walk_truth-after.ensures.known, second c.args.cells.model.now.space c.args.cells.cube (is_earlier c.args.cells.model.now c.args.cells.cube c.args.cells.area.now c.args.kind) c.args.seen c.walk_truth-after.result (truth_precedents c.args.truth.now) (truth_precedents c.get.result.now) (truth_precedents c.get-in-And.result.now) e c.walk_truth-after.ensures.seen c.requires.reads)))

pub walk_truth-returns-in-And-clause-seen : goal.walk_truth-returns-in-And-clause-seen
walk_truth-returns-in-And-clause-seen t c =
    let e : truth_precedents c.args.truth.now ≡ truth_precedents c.get.result.now ++ truth_precedents c.get-in-And.result.now = ap truth_precedents c.in-And.is ∙ and_reads c.in-And.left c.in-And.right ∙ ap (λ f. truth_precedents f ++ truth_precedents c.in-And.right) (sym c.get.ensures) ∙ ap (λ f. truth_precedents c.get.result.now ++ truth_precedents f) (sym c.get-in-And.ensures) in
    both c.args.cells.model.now.space c.args.cells.cube (is_earlier c.args.cells.model.now c.args.cells.cube c.args.cells.area.now c.args.kind) c.args.seen c.walk_truth-after.result c.walk_truth.result (truth_precedents c.args.truth.now) (truth_precedents c.get.result.now) (truth_precedents c.get-in-And.result.now) e c.walk_truth-after.ensures.seen c.walk_truth.ensures.seen

pub walk_truth-walk_truth-after-requires-in-Or : goal.walk_truth-walk_truth-after-requires-in-Or
walk_truth-walk_truth-after-requires-in-Or t c =
    let e : truth_precedents c.args.truth.now ≡ truth_precedents c.get-in-Or.result.now ++ truth_precedents c.in-Or.right = ap truth_precedents c.in-Or.is ∙ or_reads c.in-Or.left c.in-Or.right ∙ ap (λ f. truth_precedents f ++ truth_precedents c.in-Or.right) (sym c.get-in-Or.ensures) in
    (search (rules, the_lemmas), (c.requires.cells, (c.requires.known, first c.args.cells.model.now.space c.args.cells.cube (is_earlier c.args.cells.model.now c.args.cells.cube c.args.cells.area.now c.args.kind) c.args.seen.count (truth_precedents c.args.truth.now) (truth_precedents c.get-in-Or.result.now) (truth_precedents c.in-Or.right) e c.requires.reads)))

pub walk_truth-walk_truth-requires-in-Or : goal.walk_truth-walk_truth-requires-in-Or
walk_truth-walk_truth-requires-in-Or t c =
    let e : truth_precedents c.args.truth.now ≡ truth_precedents c.get-in-Or.result.now ++ truth_precedents c.get-in-Or-2.result.now = ap truth_precedents c.in-Or.is ∙ or_reads c.in-Or.left c.in-Or.right ∙ ap (λ f. truth_precedents f ++ truth_precedents c.in-Or.right) (sym c.get-in-Or.ensures) ∙ ap (λ f. truth_precedents c.get-in-Or.result.now ++ truth_precedents f) (sym c.get-in-Or-2.ensures) in
    (search (rules, the_lemmas), (c.requires.cells, (c.walk_truth-after-in-Or.ensures.known, second c.args.cells.model.now.space c.args.cells.cube (is_earlier c.args.cells.model.now c.args.cells.cube c.args.cells.area.now c.args.kind) c.args.seen c.walk_truth-after-in-Or.result (truth_precedents c.args.truth.now) (truth_precedents c.get-in-Or.result.now) (truth_precedents c.get-in-Or-2.result.now) e c.walk_truth-after-in-Or.ensures.seen c.requires.reads)))

pub walk_truth-returns-in-Or-clause-seen : goal.walk_truth-returns-in-Or-clause-seen
walk_truth-returns-in-Or-clause-seen t c =
    let e : truth_precedents c.args.truth.now ≡ truth_precedents c.get-in-Or.result.now ++ truth_precedents c.get-in-Or-2.result.now = ap truth_precedents c.in-Or.is ∙ or_reads c.in-Or.left c.in-Or.right ∙ ap (λ f. truth_precedents f ++ truth_precedents c.in-Or.right) (sym c.get-in-Or.ensures) ∙ ap (λ f. truth_precedents c.get-in-Or.result.now ++ truth_precedents f) (sym c.get-in-Or-2.ensures) in
    both c.args.cells.model.now.space c.args.cells.cube (is_earlier c.args.cells.model.now c.args.cells.cube c.args.cells.area.now c.args.kind) c.args.seen c.walk_truth-after-in-Or.result c.walk_truth-in-Or.result (truth_precedents c.args.truth.now) (truth_precedents c.get-in-Or.result.now) (truth_precedents c.get-in-Or-2.result.now) e c.walk_truth-after-in-Or.ensures.seen c.walk_truth-in-Or.ensures.seen

pub walk-walk_truth-after-requires : goal.walk-walk_truth-after-requires
walk-walk_truth-after-requires t c =
    let e : precedents c.args.formula.now ≡ (truth_precedents c.get-in-If.result.now ++ precedents c.in-If.left) ++ precedents c.in-If.right = ap precedents c.in-If.is ∙ if_reads c.in-If.truth c.in-If.left c.in-If.right ∙ ap (λ f. (truth_precedents f ++ precedents c.in-If.left) ++ precedents c.in-If.right) (sym c.get-in-If.ensures) in
    let begin = first c.args.cells.model.now.space c.args.cells.cube (is_earlier c.args.cells.model.now c.args.cells.cube c.args.cells.area.now c.args.kind) c.args.seen.count (precedents c.args.formula.now) (truth_precedents c.get-in-If.result.now ++ precedents c.in-If.left) (precedents c.in-If.right) e c.requires.reads in
    (search (rules, the_lemmas), (c.requires.cells, (c.requires.known, first c.args.cells.model.now.space c.args.cells.cube (is_earlier c.args.cells.model.now c.args.cells.cube c.args.cells.area.now c.args.kind) c.args.seen.count (truth_precedents c.get-in-If.result.now ++ precedents c.in-If.left) (truth_precedents c.get-in-If.result.now) (precedents c.in-If.left) refl begin)))

pub walk-walk-after-requires-in-If : goal.walk-walk-after-requires-in-If
walk-walk-after-requires-in-If t c =
    let e : precedents c.args.formula.now ≡ (truth_precedents c.get-in-If.result.now ++ precedents c.get-in-If-2.result.now) ++ precedents c.in-If.right = ap precedents c.in-If.is ∙ if_reads c.in-If.truth c.in-If.left c.in-If.right ∙ ap (λ f. (truth_precedents f ++ precedents c.in-If.left) ++ precedents c.in-If.right) (sym c.get-in-If.ensures) ∙ ap (λ f. (truth_precedents c.get-in-If.result.now ++ precedents f) ++ precedents c.in-If.right) (sym c.get-in-If-2.ensures) in
    let begin = first c.args.cells.model.now.space c.args.cells.cube (is_earlier c.args.cells.model.now c.args.cells.cube c.args.cells.area.now c.args.kind) c.args.seen.count (precedents c.args.formula.now) (truth_precedents c.get-in-If.result.now ++ precedents c.get-in-If-2.result.now) (precedents c.in-If.right) e c.requires.reads in
    (search (rules, the_lemmas), (c.requires.cells, (c.walk_truth-after.ensures.known, second c.args.cells.model.now.space c.args.cells.cube (is_earlier c.args.cells.model.now c.args.cells.cube c.args.cells.area.now c.args.kind) c.args.seen c.walk_truth-after.result (truth_precedents c.get-in-If.result.now ++ precedents c.get-in-If-2.result.now) (truth_precedents c.get-in-If.result.now) (precedents c.get-in-If-2.result.now) refl c.walk_truth-after.ensures.seen begin)))

pub walk-walk-requires-in-If : goal.walk-walk-requires-in-If
walk-walk-requires-in-If t c =
    let e : precedents c.args.formula.now ≡ (truth_precedents c.get-in-If.result.now ++ precedents c.get-in-If-2.result.now) ++ precedents c.get-in-If-3.result.now = ap precedents c.in-If.is ∙ if_reads c.in-If.truth c.in-If.left c.in-If.right ∙ ap (λ f. (truth_precedents f ++ precedents c.in-If.left) ++ precedents c.in-If.right) (sym c.get-in-If.ensures) ∙ ap (λ f. (truth_precedents c.get-in-If.result.now ++ precedents f) ++ precedents c.in-If.right) (sym c.get-in-If-2.ensures) ∙ ap (λ f. (truth_precedents c.get-in-If.result.now ++ precedents c.get-in-If-2.result.now) ++ precedents f) (sym c.get-in-If-3.ensures) in
    let walked = both c.args.cells.model.now.space c.args.cells.cube (is_earlier c.args.cells.model.now c.args.cells.cube c.args.cells.area.now c.args.kind) c.args.seen c.walk_truth-after.result c.walk-after-in-If.result (truth_precedents c.get-in-If.result.now ++ precedents c.get-in-If-2.result.now) (truth_precedents c.get-in-If.result.now) (precedents c.get-in-If-2.result.now) refl c.walk_truth-after.ensures.seen c.walk-after-in-If.ensures.seen in
    (search (rules, the_lemmas), (c.requires.cells, (c.walk-after-in-If.ensures.known, second c.args.cells.model.now.space c.args.cells.cube (is_earlier c.args.cells.model.now c.args.cells.cube c.args.cells.area.now c.args.kind) c.args.seen c.walk-after-in-If.result (precedents c.args.formula.now) (truth_precedents c.get-in-If.result.now ++ precedents c.get-in-If-2.result.now) (precedents c.get-in-If-3.result.now) e walked c.requires.reads)))

pub walk-returns-in-If-clause-seen : goal.walk-returns-in-If-clause-seen
walk-returns-in-If-clause-seen t c =
    let e : precedents c.args.formula.now ≡ (truth_precedents c.get-in-If.result.now ++ precedents c.get-in-If-2.result.now) ++ precedents c.get-in-If-3.result.now = ap precedents c.in-If.is ∙ if_reads c.in-If.truth c.in-If.left c.in-If.right ∙ ap (λ f. (truth_precedents f ++ precedents c.in-If.left) ++ precedents c.in-If.right) (sym c.get-in-If.ensures) ∙ ap (λ f. (truth_precedents c.get-in-If.result.now ++ precedents f) ++ precedents c.in-If.right) (sym c.get-in-If-2.ensures) ∙ ap (λ f. (truth_precedents c.get-in-If.result.now ++ precedents c.get-in-If-2.result.now) ++ precedents f) (sym c.get-in-If-3.ensures) in
    let walked = both c.args.cells.model.now.space c.args.cells.cube (is_earlier c.args.cells.model.now c.args.cells.cube c.args.cells.area.now c.args.kind) c.args.seen c.walk_truth-after.result c.walk-after-in-If.result (truth_precedents c.get-in-If.result.now ++ precedents c.get-in-If-2.result.now) (truth_precedents c.get-in-If.result.now) (precedents c.get-in-If-2.result.now) refl c.walk_truth-after.ensures.seen c.walk-after-in-If.ensures.seen in
    both c.args.cells.model.now.space c.args.cells.cube (is_earlier c.args.cells.model.now c.args.cells.cube c.args.cells.area.now c.args.kind) c.args.seen c.walk-after-in-If.result c.walk-in-If.result (precedents c.args.formula.now) (truth_precedents c.get-in-If.result.now ++ precedents c.get-in-If-2.result.now) (precedents c.get-in-If-3.result.now) e walked c.walk-in-If.ensures.seen
