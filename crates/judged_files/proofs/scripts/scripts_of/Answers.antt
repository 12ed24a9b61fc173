use Rattle.std.proofs.Common.{rules, ◌≡◌, ◌+◌, ◌∷◌, ◌++◌, [], Ok, Err, drop, subst}
use Rattle.script_reader.specs.Answers.{Answers}
use Rattle.judged_files.specs.Refusals.{script_refusal}
use Rattle.judged_files.specs.Inside.Judging.{IsHaltFor}
use Rattle.file_passes.proofs.WordFacts.{drop-item, drop-end}
use Rattle.judged_files.proofs.ScriptFacts.{AreParsed, parsed-next, parsed-all, parsed-fault}
use Rattle.judged_files.proofs.scripts.scripts_of.Goals as goal

pub returns-in-Err : goal.returns-in-Err
returns-in-Err c =
    let item = c.source-item.result in
    let rest = drop (c.loop-source.source-index + 1) c.args.sources.now in
    let next : drop c.loop-source.source-index c.args.sources.now ≡ item ∷ rest =
    drop-item c.args.sources.now c.loop-source.source-index item c.loop-source-test.true c.source-item.is in
    let parsed = subst (λ l. AreParsed c.args.sources.now l c.loop-source.all.items) next c.loop-source.invariant in
    let here = subst (λ bytes. Answers bytes (Err c.in-Err.fault)) c.bytes.ensures c.in-Err.ensures in
    let halted = subst (λ name. IsHaltFor (script_refusal name c.in-Err.fault) c.script_halt.result) c.name.ensures c.script_halt.ensures in
    parsed-fault c.args.sources.now rest item c.loop-source.all.items c.in-Err.fault c.script_halt.result parsed here halted

pub loop-source-preserved : goal.loop-source-preserved
loop-source-preserved c =
    let item = c.source-item.result in
    let rest = drop (c.loop-source.source-index + 1) c.args.sources.now in
    let next : drop c.loop-source.source-index c.args.sources.now ≡ item ∷ rest =
    drop-item c.args.sources.now c.loop-source.source-index item c.loop-source-test.true c.source-item.is in
    let parsed = subst (λ l. AreParsed c.args.sources.now l c.loop-source.all.items) next c.loop-source.invariant in
    let is = subst (λ bytes. Answers bytes (Ok c.in-Ok.script)) c.bytes.ensures c.in-Ok.ensures in
    let pushed : c.push.new.self.items ≡ c.loop-source.all.items ++ c.in_ok-bound.bound ∷ [] = search rules in
    rw pushed (parsed-next c.args.sources.now rest item c.loop-source.all.items c.in-Ok.script c.in_ok-bound.bound parsed is c.in_ok-bound.ensures)

pub returns : goal.returns
returns c =
    let none : drop c.loop-source.source-index c.args.sources.now ≡ [] = drop-end c.loop-source.source-index c.args.sources.now c.loop-source-test.false in
    let parsed = subst (λ l. AreParsed c.args.sources.now l c.loop-source.all.items) none c.loop-source.invariant in
    let all = parsed-all c.args.sources.now c.loop-source.all.items parsed in
    rw c.new-scripts.ensures all
