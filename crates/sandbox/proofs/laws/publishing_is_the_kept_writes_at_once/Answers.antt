use Rattle.sandbox.proofs.Published.{published, sandboxed}
use Rattle.sandbox.proofs.laws.publishing_is_the_kept_writes_at_once.Goals as goal

pub returns-clause-publish : goal.returns-clause-publish
returns-clause-publish g c = λ lawful. published g.W.World.effect g.W.World.after g.W.Layered.sandbox lawful

pub returns-clause-kept : goal.returns-clause-kept
returns-clause-kept g c = λ lawful. sandboxed g.W.World.effect g.W.World.after g.W.Layered.sandbox lawful
