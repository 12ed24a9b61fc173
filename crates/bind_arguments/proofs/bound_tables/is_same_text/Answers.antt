use Rattle.std.proofs.Common.{◌∙◌, ap, sym}
use Rattle.bind_arguments.specs.Numbers.{text_for}
use Rattle.bind_arguments.proofs.NumbersMade.{same_attribute_texts}
use Rattle.bind_arguments.proofs.bound_tables.is_same_text.Goals as goal

pub returns-in-Attribute-Attribute : goal.returns-in-Attribute-Attribute
returns-in-Attribute-Attribute c equal d e =
    let at = c.in-Attribute-Attribute in
    ap (λ text. text_for d text e) at.is-0 ∙ same_attribute_texts d e at.name at.other (c.is_same_attribute.ensures equal) ∙ sym (ap (λ text. text_for d text e) at.is-1)
