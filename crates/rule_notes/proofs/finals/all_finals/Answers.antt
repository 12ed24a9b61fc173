use Rattle.std.proofs.Common.{◌∙◌, ◌++◌, ◌∷◌, [], ap, sym, map, take}
use Rattle.std.proofs.lemmas.List.{map_more}
use Rattle.rule_notes.specs.Inside.Finals.{finals_of}
use Rattle.rule_notes.proofs.finals.all_finals.Goals as goal

pub each-preserved : goal.each-preserved
each-preserved c =
    let statements = c.args.statements.now in
    let it = c.index-statements-place.result in
    let before = map finals_of (take c.each.place statements) in
    c.in_ok-push.ensures.items
    ∙ ap (λ own. own ++ c.finals_of.result ∷ []) c.each.invariant
    ∙ ap (λ one. before ++ one ∷ []) c.finals_of.ensures
    ∙ ap (λ x. before ++ finals_of x ∷ []) c.index-statements-place.is
    ∙ sym (map_more finals_of statements c.each.place it c.each-test.true)
