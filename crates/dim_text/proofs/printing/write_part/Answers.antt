use Rattle.std.proofs.Common.{◌≡◌, ◌<ℤ◌, ◌≤ℤ◌, pos, unsigned_abs, ◌∷◌, ap, ◌∙◌, arith, rules, w64}
use Rattle.std.proofs.lemmas.Int.{ints, to_z-of_z}
use Rattle.cube_lex.proofs.Adding.{spaces_same}
use Rattle.dim_text.proofs.PrintedParts.{part_negative, part_one, part_more}
use Rattle.cube_lex.specs.Written.{sign_token}
use Rattle.dim_text.specs.Spelled.{part_spelled}
use Rattle.dim_text.proofs.printing.write_part.Goals as goal
use mir.Val.{SFits}

pub returns-then-weight-lt0 : goal.returns-then-weight-lt0
returns-then-weight-lt0 c =
    let fits : SFits w64 c.args.part.now.1 = search rules in
    let size : c.unsigned_abs-size.result ≡ unsigned_abs c.args.part.now.1 = c.unsigned_abs-size.ensures.value ∙ ap unsigned_abs (to_z-of_z w64 c.args.part.now.1 fits) in
    let below : c.args.part.now.1 <ℤ pos 0 = omega (arith, ints, c.if-weight-lt0.true) in
    spaces_same c.write_pieces.result c.args.out.now.items c.write_pieces.new.out.items _ _
    (part_negative c.args.sign.now c.shown_of-name.result.now c.args.part.now.1 c.unsigned_abs-size.result size below ∙ ap (λ n. sign_token c.args.sign.now ∷ part_spelled (n, c.args.part.now.1)) c.shown_of-name.ensures.shown)
    c.write_pieces.ensures.ok

pub returns-then-size-eq1 : goal.returns-then-size-eq1
returns-then-size-eq1 c =
    let fits : SFits w64 c.args.part.now.1 = search rules in
    let size : c.unsigned_abs-size.result ≡ unsigned_abs c.args.part.now.1 = c.unsigned_abs-size.ensures.value ∙ ap unsigned_abs (to_z-of_z w64 c.args.part.now.1 fits) in
    let above : pos 0 ≤ℤ c.args.part.now.1 = omega (arith, ints, c.if-weight-lt0.false) in
    spaces_same c.write_pieces-then-size-eq1.result c.args.out.now.items c.write_pieces-then-size-eq1.new.out.items _ _
    (part_one c.args.sign.now c.shown_of-name.result.now c.args.part.now.1 c.unsigned_abs-size.result size above c.if-size-eq1.true ∙ ap (λ n. sign_token c.args.sign.now ∷ part_spelled (n, c.args.part.now.1)) c.shown_of-name.ensures.shown)
    c.write_pieces-then-size-eq1.ensures.ok

pub returns-else-size-eq1 : goal.returns-else-size-eq1
returns-else-size-eq1 c =
    let fits : SFits w64 c.args.part.now.1 = search rules in
    let size : c.unsigned_abs-size.result ≡ unsigned_abs c.args.part.now.1 = c.unsigned_abs-size.ensures.value ∙ ap unsigned_abs (to_z-of_z w64 c.args.part.now.1 fits) in
    let above : pos 0 ≤ℤ c.args.part.now.1 = omega (arith, ints, c.if-weight-lt0.false) in
    spaces_same c.write_pieces-else-size-eq1.result c.args.out.now.items c.write_pieces-else-size-eq1.new.out.items _ _
    (part_more c.args.sign.now c.shown_of-name.result.now c.args.part.now.1 c.unsigned_abs-size.result size above c.if-size-eq1.false ∙ ap (λ n. sign_token c.args.sign.now ∷ part_spelled (n, c.args.part.now.1)) c.shown_of-name.ensures.shown)
    c.write_pieces-else-size-eq1.ensures.ok
