use Rattle.std.proofs.Common.{◌<◌, length, arith}
use Rattle.model_bind.specs.Rules.{text_stage}
use Rattle.model_bind.proofs.Stages.{whole-found}
use Rattle.model_bind.proofs.RuleTexts.{as-many-texts, text-more, text-shared, text-refused}
use Rattle.model_bind.proofs.texts.texts_of.Goals.{in-Some+in_ok-push_shared-in-Some, in-None+in_ok-text_of-in-None+in_ok-push-in-None}
use Rattle.model_bind.proofs.texts.texts_of.Goals as goal

pub push_shared-requires : goal.push_shared-requires
push_shared-requires c =
    let low : c.loop-cube.cube < length c.args.files.now = omega (arith, c.loop-cube-test.true, c.len-cube-end.ensures) in
    let before = c.in-Some.ensures.before in
    omega (arith, before, as-many-texts c.args.files.now c.loop-cube.cube c.loop-cube.texts low c.loop-cube.invariant)

pub returns-in_err-text_of-in-None-clause-comes : goal.returns-in_err-text_of-in-None-clause-comes
returns-in_err-text_of-in-None-clause-comes c =
    let low : c.loop-cube.cube < length c.args.files.now = omega (arith, c.loop-cube-test.true, c.len-cube-end.ensures) in
    text-refused c.args.files.now c.loop-cube.cube c.loop-cube.texts low c.loop-cube.invariant c.in_err-text_of-in-None.field-0.0 c.from_residual-in_err-text_of-in-None.result
    c.in_err-text_of-in-None.ensures.comes c.from_residual-in_err-text_of-in-None.ensures.1

pub loop-cube-preserved : goal.loop-cube-preserved
loop-cube-preserved c =
    let files = c.args.files.now in
    let texts = c.loop-cube.texts in
    let cube = c.loop-cube.cube in
    let low : cube < length files = omega (arith, c.loop-cube-test.true, c.len-cube-end.ensures) in
    elim c.match-same_as.branch [
      | in-Some+in_ok-push_shared-in-Some w ↦
          rw w.texts-is (text-shared files cube texts low c.loop-cube.invariant w.in-Some.earlier w.push_shared.new.self w.in-Some.ensures w.in_ok-push_shared-in-Some.ensures)
      | in-None+in_ok-text_of-in-None+in_ok-push-in-None w ↦
          rw w.texts-is (text-more files cube texts low c.loop-cube.invariant w.in_ok-text_of-in-None.field-0 w.push.new.self w.in_ok-text_of-in-None.ensures.comes w.in_ok-text_of-in-None.ensures.within w.in_ok-push-in-None.ensures)
    ]

pub returns-clause-comes : goal.returns-clause-comes
returns-clause-comes c =
    whole-found (λ _. text_stage) c.args.files.now c.loop-cube.texts c.loop-cube.cube (omega (arith, c.loop-cube-test.false, c.len-cube-end.ensures)) c.loop-cube.invariant.found
