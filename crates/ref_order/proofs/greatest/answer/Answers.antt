use Rattle.std.proofs.Common.{sym, ap}
use Rattle.std.specs.Prelude.{slice_index_or}
use Rattle.cube_space.specs.Layout.{axes, sizes}
use Rattle.order_laws.specs.Scales.{greatest_in, is_leaf_element}
use Rattle.order_laws.specs.Earlier.{is_same}
use Rattle.ref_order.specs.Kinds.{AreByKinds}
use Rattle.rule_model.specs.Conditions.{IsPrecedent}
use Rattle.ref_order.specs.declared.question.Answer.{Answer}
use Rattle.ref_order.specs.Reads.{precedent_of}
use Rattle.ref_order.specs.Known.{number_asked, answer_of, IsRight}
use Rattle.ref_order.proofs.KindFacts.{kinds-same}
use Rattle.ref_order.proofs.Likeness.{more-kept}
use Rattle.ref_order.proofs.greatest.answer.Goals as goal

pub returns-clause-numbers : goal.returns-clause-numbers
returns-clause-numbers c =
    λ area same right.
    let model = c.args.cells.model.now in
    let cube = c.args.cells.cube in
    let asked = c.args.asked in
    let numbers : AreByKinds c.greatest_of-numbers.result (answer_of model cube area asked) =
    kinds-same c.greatest_of-numbers.result (answer_of model cube c.args.cells.area.now asked) (answer_of model cube area asked) c.greatest_of-numbers.ensures.numbers
    (λ here. ap (greatest_in (λ element. number_asked model cube asked element here.its) (λ element. is_same here.own (is_leaf_element (axes model.space cube) asked.dim element)) (slice_index_or (sizes model.space cube) asked.dim 0)) (sym same)) in (
      numbers,
      c.greatest_of-numbers.ensures.size,
      more-kept (IsRight model cube area) c.args.kept.now.answers.items c.remember.new.kept.answers.items (record { asked = asked; numbers = c.greatest_of-numbers.result }) c.remember.ensures right (record { numbers = numbers; size = c.greatest_of-numbers.ensures.size }),
    )

pub returns-clause-reads : goal.returns-clause-reads
returns-clause-reads c =
    let asked = c.args.asked in
    let model = c.args.cells.model.now in
    more-kept (λ (answer : Answer). IsPrecedent model.space c.args.cells.cube (precedent_of answer.asked.read)) c.args.kept.now.answers.items c.remember.new.kept.answers.items (record { asked = asked; numbers = c.greatest_of-numbers.result })
    c.remember.ensures c.requires.reads c.requires.read
