use Rattle.std.proofs.Common.{◌≡◌, List, ◌++◌}
use Rattle.sandbox.specs.declared.act.Act.{Act}
use Rattle.user_session.specs.declared.command.PlanCommand.{PlanCommand}
use Rattle.judged_files.specs.Loads.{AreCommands}
use Rattle.judged_files.proofs.loads.user_commands.Given as goal

-- whatever the rest comes to comes behind the commands so far
abbrev pub invariant-loop-text : goal.invariant-loop-text
invariant-loop-text l = (l.sources ≡ l.fn.sources)
    × ((more : List (Act PlanCommand)) → AreCommands l.files l.fn.sources l.text-iterator.rest.items more
    → AreCommands l.files l.fn.sources l.fn.texts (l.commands.items ++ more))
