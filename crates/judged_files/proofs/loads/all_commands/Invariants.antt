use Rattle.std.proofs.Common.{◌≡◌, List, ◌++◌}
use Rattle.std.specs.List.{AllZip}
use Rattle.sandbox.specs.declared.act.Act.{Act}
use Rattle.user_session.specs.declared.command.PlanCommand.{PlanCommand}
use Rattle.judged_files.specs.Loads.{AreCommands}
use Rattle.judged_files.proofs.loads.all_commands.Given as goal

-- whatever the rest comes to comes behind the users so far
abbrev pub invariant-loop-texts : goal.invariant-loop-texts
invariant-loop-texts l = (l.sources ≡ l.fn.sources)
    × ((more : List (List (Act PlanCommand)))
    → AllZip (AreCommands l.files l.fn.sources) l.texts-iterator.rest.items more
    → AllZip (AreCommands l.files l.fn.sources) l.fn.users (l.all.items ++ more))
