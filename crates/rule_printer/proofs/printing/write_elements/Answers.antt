use Rattle.std.proofs.Common.{◌≤◌, [], ◌∷◌, ◌++◌, length, codes, sym, subst, OnOk, arith}
use Rattle.cube_lex.specs.Written.{Spaces, sign_token}
use Rattle.rule_printer.proofs.WrittenParts.{then_adds, adds_same, one_element, several_elements}
use Rattle.rule_printer.specs.Spelled.{listed_spelled, name_spelled, elements_spelled}
use Rattle.rule_printer.proofs.printing.write_elements.Goals as goal

pub returns-in-len1 : goal.returns-in-len1
returns-in-len1 c =
    let some : 1 ≤ length c.args.elements.now = omega arith in
    let few : length c.args.elements.now ≤ 1 = omega arith in
    adds_same c.write_text.result c.args.out.now.items c.write_text.new.out.items (name_spelled c.element-item.result) (elements_spelled c.args.elements.now)
    (sym (one_element c.args.elements.now c.element-item.result some few c.element-item.is))
    (subst (λ n. OnOk c.write_text.result (Spaces c.args.out.now.items c.write_text.new.out.items (name_spelled n))) c.shown.ensures.value c.write_text.ensures)

pub returns-in_ok-write_names-in_default : goal.returns-in_ok-write_names-in_default
returns-in_ok-write_names-in_default c =
    let many : 2 ≤ length c.args.elements.now = omega arith in
    adds_same c.write_sign-in_default.result c.args.out.now.items c.write_sign-in_default.new.out.items (sign_token (codes "{") ∷ (listed_spelled name_spelled c.args.elements.now ++ sign_token (codes "}") ∷ [])) (elements_spelled c.args.elements.now)
    (several_elements c.args.elements.now many)
    (then_adds c.write_sign-in_default.result c.args.out.now.items c.write_sign.new.out.items c.write_sign-in_default.new.out.items (sign_token (codes "{") ∷ []) (listed_spelled name_spelled c.args.elements.now ++ sign_token (codes "}") ∷ []) c.in_ok-write_sign-in_default.ensures.spaced
    (then_adds c.write_sign-in_default.result c.write_sign.new.out.items c.write_names.new.out.items c.write_sign-in_default.new.out.items (listed_spelled name_spelled c.args.elements.now) (sign_token (codes "}") ∷ []) c.in_ok-write_names-in_default.ensures c.write_sign-in_default.ensures.spaced))
