use Rattle.std.proofs.Common.{◌≡◌, ◌+◌, ◌<◌, ◌≤◌, take, drop, length, sym, subst, arith}
use Rattle.std.proofs.lemmas.Option.{get_or_from_slice_get}
use Rattle.rule_tree.specs.Sizes.{IsWithinLimits}
use Rattle.model_bind.specs.Rules.{meaning_stage}
use Rattle.model_bind.proofs.CubeRules.{one_more}
use Rattle.model_bind.proofs.Stages.{comes-refused, one-more, parts-at, place-at, taken-more, whole-found}
use Rattle.model_bind.proofs.binding.meanings_of.Goals as goal

pub returns-in_err-rules-clause-comes : goal.returns-in_err-rules-clause-comes
returns-in_err-rules-clause-comes c =
    let texts = c.args.texts.now in
    let i = c.loop-cube.cube in
    let text = c.of_cube-text.result.now in
    let low : i < length texts = omega (arith, c.loop-cube-test.true, c.cubes-cube-end.ensures, c.requires.one_each) in
    comes-refused (meaning_stage c.args.space.now c.args.files.now) texts (take i texts) (drop (i + 1) texts) c.loop-cube.all.items text i c.in_err-rules.field-0.0 c.from_residual-in_err-rules.result
    (parts-at texts i text low (sym (get_or_from_slice_get texts i text text c.of_cube-text.ensures))) (place-at texts i low) c.loop-cube.invariant.meant c.in_err-rules.ensures.comes c.from_residual-in_err-rules.ensures.1

pub loop-cube-preserved : goal.loop-cube-preserved
loop-cube-preserved c =
    let space = c.args.space.now in
    let texts = c.args.texts.now in
    let i = c.loop-cube.cube in
    let text = c.of_cube-text.result.now in
    let low : i < length texts = omega (arith, c.loop-cube-test.true, c.cubes-cube-end.ensures, c.requires.one_each) in
    let more = taken-more texts i text low (sym (get_or_from_slice_get texts i text text c.of_cube-text.ensures)) in
    let start : i ≡ 0 + length (take i texts) = omega (arith, place-at texts i low) in
    let here = subst (λ n. (meaning_stage space c.args.files.now n text).finds c.in_ok-rules.rules) start c.in_ok-rules.ensures.comes in
    record {
      meant = rw (more, c.in_ok-push.ensures.items) (one-more (meaning_stage space c.args.files.now) 0 (take i texts) c.loop-cube.all.items text c.in_ok-rules.rules c.loop-cube.invariant.meant here);
      rules = one_more space c.loop-cube.all.items c.push.new.self.items c.in_ok-rules.rules i c.loop-cube.invariant.rules c.in_ok-rules.ensures.rules c.in_ok-push.ensures.items;
      maps = c.in_ok-rules.ensures.maps;
    }

pub returns-clause-comes : goal.returns-clause-comes
returns-clause-comes c =
    let texts = c.args.texts.now in
    let end : length texts ≤ c.loop-cube.cube = omega (arith, c.loop-cube-test.false, c.cubes-cube-end.ensures, c.requires.one_each) in
    rw c.new.ensures (whole-found (meaning_stage c.args.space.now c.args.files.now) texts c.loop-cube.all.items c.loop-cube.cube end c.loop-cube.invariant.meant)

pub meaning_of-requires-clause-within : goal.meaning_of-requires-clause-within
meaning_of-requires-clause-within c =
    let texts = c.args.texts.now in
    let i = c.loop-cube.cube in
    let text = c.of_cube-text.result.now in
    let low : i < length texts = omega (arith, c.loop-cube-test.true, c.cubes-cube-end.ensures, c.requires.one_each) in
    subst IsWithinLimits (get_or_from_slice_get texts i text text c.of_cube-text.ensures) (c.requires.within i text low)
