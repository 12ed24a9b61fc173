use Rattle.std.proofs.Common.{◌∙◌, ap, sym}
use Rattle.bind_arguments.specs.Numbers.{numbers_over}
use Rattle.bind_arguments.proofs.NumbersMade.{same_attributes, same_comparisons}
use Rattle.bind_arguments.proofs.bound_tables.is_same.Goals as goal

pub returns-in-Attribute-Attribute : goal.returns-in-Attribute-Attribute
returns-in-Attribute-Attribute c equal d =
    let at = c.in-Attribute-Attribute in
    ap (numbers_over d) at.is-0 ∙ same_attributes d at.name at.other (c.is_same_attribute.ensures equal) ∙ sym (ap (numbers_over d) at.is-1)

pub returns-then-is_same_text : goal.returns-then-is_same_text
returns-then-is_same_text c equal d =
    let at = c.in-Same-Same in
    ap (numbers_over d) at.is-0
    ∙ same_comparisons d at.one at.two at.other_one at.other_two (λ e. c.is_same_text.ensures c.if-is_same_text.true d e) (λ e. c.is_same_text-then-is_same_text.ensures equal d e)
    ∙ sym (ap (numbers_over d) at.is-1)
