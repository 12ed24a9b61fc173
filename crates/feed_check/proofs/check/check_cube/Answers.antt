use Rattle.std.proofs.Common.{rules, ◌≡◌, ◌<◌, ◌≤◌, ◌∙◌, ap, sym, refl, arith, length, true, false, All}
use Rattle.std.proofs.lemmas.Bool.{eqb-false}
use Rattle.std.proofs.lemmas.Bool.Decides.{Decides-eqb}
use Rattle.rule_laws.specs.Cover.{IsCoveredRule}
use Rattle.rule_model.specs.BoundModel.{rules_of}
use Rattle.rule_model.specs.System.{system_of, cube_rules}
use Rattle.rule_model.specs.declared.rules.CubeRules.{CubeRules}
use Rattle.feed_check.specs.Sizes.{most_dense}
use Rattle.feed_check.specs.Verdict.{IsSound}
use Rattle.feed_check.proofs.Verdicts.{sound-skips, sound-empty, sound-small, dense-some, ok-holds}
use Rattle.feed_check.proofs.check.check_cube.Goals as goal

pub returns-then-rules-clause-sound : goal.returns-then-rules-clause-sound
returns-then-rules-clause-sound c =
    let skips = ap (λ (r : CubeRules). r.skipcheck) (sym c.rules-rules.ensures) ∙ c.if-rules.true in
    ok-holds c.check_statements.result (All (IsCoveredRule (system_of c.args.model.now)) (cube_rules c.args.model.now c.args.cube)) (IsSound c.args.model.now c.args.cube) c.check_statements.ensures.sound (sound-skips c.args.model.now c.args.cube skips)

pub returns-then-is_empty-clause-sound : goal.returns-then-is_empty-clause-sound
returns-then-is_empty-clause-sound c =
    let same = c.as_slice.ensures ∙ ap (λ (r : CubeRules). r.statements) c.rules-rules.ensures in
    let empty : c.is_empty.result ≡ true = search rules in
    let none = (Decides-eqb (length c.as_slice.result.now) 0).0 (sym c.is_empty.ensures ∙ empty) in
    sound-empty c.args.model.now c.args.cube (sym (ap length same) ∙ none)

pub returns-then-count-gt-MAX_DENSE-clause-fault : goal.returns-then-count-gt-MAX_DENSE-clause-fault
returns-then-count-gt-MAX_DENSE-clause-fault c =
    let same = c.as_slice.ensures ∙ ap (λ (r : CubeRules). r.statements) c.rules-rules.ensures in
    let off : c.rules-rules.result.now.skipcheck ≡ false = search rules in
    let skips = ap (λ (r : CubeRules). r.skipcheck) (sym c.rules-rules.ensures) ∙ off in
    let full : c.is_empty.result ≡ false = search rules in
    let some = eqb-false (length c.as_slice.result.now) 0 (sym c.is_empty.ensures ∙ full) in
    let more : most_dense < c.leaf_count-count.result = search rules in
    let there : 0 < length (rules_of c.args.model.now c.args.cube).statements = omega (arith, some, ap length same) in
    (refl, dense-some c.args.model.now c.args.cube skips there c.requires, c.leaf_count-count.ensures, more)

pub returns-clause-sound : goal.returns-clause-sound
returns-clause-sound c =
    let off : c.rules-rules.result.now.skipcheck ≡ false = search rules in
    let skips = ap (λ (r : CubeRules). r.skipcheck) (sym c.rules-rules.ensures) ∙ off in
    let low : c.leaf_count-count.result ≤ most_dense = search rules in
    sound-small c.args.model.now c.args.cube skips (omega (arith, c.leaf_count-count.ensures, low))
