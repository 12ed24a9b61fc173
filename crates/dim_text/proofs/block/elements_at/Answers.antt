use Rattle.std.proofs.Common.{[], ◌∷◌, ◌++◌, refl, sym, ap, arith}
use Rattle.std.proofs.lemmas.Result.{err_from_is_err_and}
use Rattle.grammar.specs.Reading.{gives, bound}
use Rattle.grammar.proofs.Loops.{begun_all, goes_further, is_done}
use Rattle.dim_text.specs.Readers.Views.{element_view}
use Rattle.dim_text.specs.Readers.Reading.{built, read_element, read_elements, is_element_word}
use Rattle.dim_text.proofs.BlockExact.{element_shortens}
use Rattle.grammar.specs.declared.cursor.Unwatched.{Unwatched}
use Rattle.dim_text.specs.Building.{add}
use Rattle.grammar.proofs.Checked.{checked_ok}
use Rattle.dim_text.proofs.ElementLoop.{element_halts, add_halts}
use Rattle.dim_text.proofs.block.elements_at.Goals as goal

pub element-init : goal.element-init
element-init c = ([], begun_all is_element_word (built read_element) _ _)

pub element-smaller : goal.element-smaller
element-smaller c =
    let fewer = element_shortens _ _ _ _ _ c.in_ok-element.ensures in
    omega (arith, fewer)

pub element-preserved : goal.element-preserved
element-preserved c =
    let (front, going) = c.element.invariant in
    (front ++ element_view c.in_ok-element.element ∷ [], goes_further going c.element-test.ensures (checked_ok {U = Unwatched} (record {}) add read_element c.element.block c.in_ok-element.ensures c.in_ok-add.ensures) (element_shortens _ _ _ _ _ c.in_ok-element.ensures) refl)

pub returns-in_err-element : goal.returns-in_err-element
returns-in_err-element c =
    let (front, going) = c.element.invariant in
    let p = err_from_is_err_and c.from_residual.result c.from_residual.ensures.1 in
    rw (p.1, p.2) (element_halts _ _ _ c.in_err-element.field-0.0 going c.element-test.ensures c.in_err-element.ensures)

pub returns-in_err-add : goal.returns-in_err-add
returns-in_err-add c =
    let (front, going) = c.element.invariant in
    let p = err_from_is_err_and c.from_residual-in_err-add.result c.from_residual-in_err-add.ensures.1 in
    rw (p.1, p.2) (add_halts _ _ _ c.in_err-add.field-0.0 going c.element-test.ensures c.in_ok-element.ensures c.in_err-add.ensures)

pub returns : goal.returns
unfolding read_elements
returns c =
    let (front, going) = c.element.invariant in
    ap (λ r. bound r (λ _. gives tt)) (is_done going (sym c.element-test.ensures))
