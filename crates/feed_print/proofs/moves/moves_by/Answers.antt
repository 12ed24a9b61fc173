use Rattle.std.proofs.Common.{rules, ◌≡◌, ◌∙◌, true, false, sym, ap, refl, arith}
use Rattle.feed_print.specs.FeederTexts.{shift}
use Rattle.feed_print.proofs.Maps.{same_map, alike_at, maps_alike, alike_next, unlike_next, alike_end, shift_long}
use Rattle.feed_print.proofs.moves.moves_by.Goals as goal

pub returns-then-is_same : goal.returns-then-is_same
returns-then-is_same c =
    let to = c.args.to.now in
    sym (ap (λ n. same_map (shift n c.args.from c.args.target) to) c.requires
    ∙ maps_alike (shift c.args.size c.args.from c.args.target) to (sym c.shift-moved.ensures ∙ c.if-is_same.ensures refl))

pub returns-then-not-sends_alike : goal.returns-then-not-sends_alike
returns-then-not-sends_alike c =
    let to = c.args.to.now in
    let moved = shift c.args.size c.args.from c.args.target in
    let off : c.sends_alike.result ≡ false = search rules in
    let unlike : alike_at moved to c.each.element ≡ false = ap (λ m. alike_at m to c.each.element) (sym c.shift-moved.ensures) ∙ sym c.sends_alike.ensures ∙ off in
    sym (ap (λ n. same_map (shift n c.args.from c.args.target) to) c.requires ∙ unlike_next moved to c.each.element unlike)

pub each-preserved : goal.each-preserved
each-preserved c =
    let to = c.args.to.now in
    let moved = shift c.args.size c.args.from c.args.target in
    let on : c.sends_alike.result ≡ true = search rules in
    let alike : alike_at moved to c.each.element ≡ true = ap (λ m. alike_at m to c.each.element) (sym c.shift-moved.ensures) ∙ sym c.sends_alike.ensures ∙ on in
    let long = shift_long c.args.size c.args.from c.args.target in
    c.each.invariant ∙ alike_next moved to c.each.element (omega (arith, c.each-test.true, long)) (long ∙ sym c.requires) alike

pub returns : goal.returns
returns c =
    let to = c.args.to.now in
    let moved = shift c.args.size c.args.from c.args.target in
    let long = shift_long c.args.size c.args.from c.args.target in
    sym (ap (λ n. same_map (shift n c.args.from c.args.target) to) c.requires ∙ c.each.invariant
    ∙ alike_end moved to c.each.element (omega (arith, c.each-test.false, long)) (long ∙ sym c.requires))
