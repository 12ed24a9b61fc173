use Rattle.std.proofs.Common.{[], ◌∷◌, codes, sym, ap, subst}
use Rattle.cube_lex.specs.Written.{Spaces, sign_token, text_token}
use Rattle.rule_printer.proofs.WrittenParts.{then_adds, adds_same}
use Rattle.rule_printer.specs.Spelled.{dimension_spelled}
use Rattle.rule_printer.proofs.parts.write_dimension.Goals as goal

pub returns-in_ok-write_text-in-Some : goal.returns-in_ok-write_text-in-Some
returns-in_ok-write_text-in-Some c =
    let name : Spaces c.args.out.now.items c.write_text.new.out.items (text_token c.in-Some.name ∷ []) =
    subst (λ n. Spaces c.args.out.now.items c.write_text.new.out.items (text_token n ∷ [])) c.shown.ensures.value c.in_ok-write_text-in-Some.ensures in
    adds_same c.write_sign.result c.args.out.now.items c.write_sign.new.out.items (text_token c.in-Some.name ∷ sign_token (codes ":") ∷ []) (dimension_spelled c.args.dim.now) (ap dimension_spelled (sym c.in-Some.is))
    (then_adds c.write_sign.result c.args.out.now.items c.write_text.new.out.items c.write_sign.new.out.items (text_token c.in-Some.name ∷ []) (sign_token (codes ":") ∷ []) name c.write_sign.ensures.spaced)
