use Rattle.std.proofs.Common.{◌≡◌, ℕ, List, [], sym, ap, subst, ◌∙◌, option_map, unwrap_or, position, Some, Option}
use Rattle.dim_core.specs.declared.attribute.Attribute.{Attribute}
use Rattle.dim_core.specs.Outline.{is_attribute, text_among}
use Rattle.dim_core.proofs.Keys.{find-position, find-none}
use Rattle.dim_core.proofs.attributes.Attributes.text_of.Goals as goal

pub returns-in-Some : goal.returns-in-Some
returns-in-Some c =
    let list = c.self.inside.list.items in
    let test = is_attribute c.args.element c.args.name.now in
    let place : position test list ≡ Some c.in-Some.place = ap (position test) c.self.view_is ∙ sym c.in-Some.ensures in
    let at = find-position test list c.in-Some.place c.index.result.now place in
    let text : Option Attribute → List ℕ = λ o. unwrap_or (option_map (λ a. a.text) o) [] in
    let read : c.as_slice.result.now ≡ text (Some c.index.result.now) = c.as_slice.ensures in
    let P : List Attribute → Type 0 = λ l. c.as_slice.result.now ≡ text_among l c.args.element c.args.name.now in
    subst P c.self.view_is (read ∙ ap (λ a. text (Some a)) c.index.ensures ∙ ap text (sym at))

pub returns-in-None : goal.returns-in-None
returns-in-None c = sym (ap (λ (o : Option Attribute). unwrap_or (option_map (λ a. a.text) o) []) (find-none (is_attribute c.args.element c.args.name.now) c.args.self.now (sym c.in-None.ensures)))
