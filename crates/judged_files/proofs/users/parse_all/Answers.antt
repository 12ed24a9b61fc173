use Rattle.std.proofs.Common.{rules, ◌≡◌, ◌+◌, ◌∷◌, ◌++◌, [], Err, length, drop, subst, List, Vec}
use Rattle.std.specs.declared.alloc.Global.{Global}
use Rattle.user_text.specs.Answers.{Answers}
use Rattle.user_text.specs.declared.command.UserCommand.{UserCommand}
use Rattle.judged_files.specs.Refusals.{user_refusal}
use Rattle.judged_files.specs.Users.{IsUserText}
use Rattle.judged_files.specs.Inside.Judging.{IsHaltFor}
use Rattle.file_passes.proofs.WordFacts.{drop-item, drop-end}
use Rattle.judged_files.proofs.UserFacts.{AreRead, any_view, read-next, read-all, read-fault}
use Rattle.judged_files.proofs.users.parse_all.Goals as goal

pub returns-in-Err : goal.returns-in-Err
returns-in-Err c =
    let item = c.source-item.result in
    let rest = drop (c.loop-source.source-index + 1) c.args.sources.now in
    let next : drop c.loop-source.source-index c.args.sources.now ≡ item ∷ rest =
    drop-item c.args.sources.now c.loop-source.source-index item c.loop-source-test.true c.source-item.is in
    let read = subst (λ l. AreRead c.args.sources.now l c.loop-source.before c.loop-source.all.items) next c.loop-source.invariant.read in
    let first = any_view {X = Vec UserCommand Global} (λ commands. commands.items) c.bytes.result.now c.loop-source.before c.in-Err.fault c.in-Err.ensures in
    let here = subst (λ bytes. Answers {X = List UserCommand} (λ x. x) bytes c.loop-source.before (Err c.in-Err.fault)) c.bytes.ensures first in
    let halted = subst (λ name. IsHaltFor (user_refusal name c.in-Err.fault) c.user_halt.result) c.name.ensures c.user_halt.ensures in
    read-fault c.args.sources.now rest item c.loop-source.before c.loop-source.all.items c.in-Err.fault c.user_halt.result read here halted

pub loop-source-preserved : goal.loop-source-preserved
loop-source-preserved c =
    let item = c.source-item.result in
    let rest = drop (c.loop-source.source-index + 1) c.args.sources.now in
    let next : drop c.loop-source.source-index c.args.sources.now ≡ item ∷ rest =
    drop-item c.args.sources.now c.loop-source.source-index item c.loop-source-test.true c.source-item.is in
    let read = subst (λ l. AreRead c.args.sources.now l c.loop-source.before c.loop-source.all.items) next c.loop-source.invariant.read in
    let is = subst (λ bytes. IsUserText c.loop-source.before bytes c.in-Ok.commands.items) c.bytes.ensures c.in-Ok.ensures in
    let count : c.in_ok-after.after ≡ c.loop-source.before + length c.in-Ok.commands.items = search rules in
    let pushed : c.push.new.self.items ≡ c.loop-source.all.items ++ c.in-Ok.commands.items ∷ [] = search rules in
    record {
      read = rw pushed (read-next c.args.sources.now rest item c.loop-source.before c.in_ok-after.after c.loop-source.all.items c.in-Ok.commands.items read is count);
      few = c.in_ok-after.ensures.few;
    }

pub returns : goal.returns
returns c =
    let none : drop c.loop-source.source-index c.args.sources.now ≡ [] = drop-end c.loop-source.source-index c.args.sources.now c.loop-source-test.false in
    let read = subst (λ l. AreRead c.args.sources.now l c.loop-source.before c.loop-source.all.items) none c.loop-source.invariant.read in
    let all = read-all c.args.sources.now c.loop-source.before c.loop-source.all.items read in
    rw c.new-texts.ensures all
