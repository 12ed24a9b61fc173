use Rattle.std.proofs.Common.{rules, ◌≡◌, ◌∷◌, ◌++◌, [], sym, subst}
use Rattle.model_bind.specs.declared.rule_files.CubeFile.{CubeFile}
use Rattle.model_bind.specs.Inside.Shared.{AreShared}
use Rattle.model_bind.proofs.SharedFiles.{shared-push}
use Rattle.model_bind.proofs.rule_files.RuleFiles.push.Goals as goal

pub invariant_of-self : goal.invariant_of-self
invariant_of-self c =
    let old : c.push.new.self.items ≡ c.self.inside.cubes.items = search rules in
    subst AreShared (sym old) c.self.invariant

pub invariant_of-self-2 : goal.invariant_of-self-2
invariant_of-self-2 c =
    let cubes = c.self.inside.cubes.items in
    let cube : CubeFile = record { file = c.args.file; same_as = c.args.same_as } in
    let pushed : c.push.new.self.items ≡ cubes ++ cube ∷ [] = search rules in
    let own = rw (← c.self.view_is) at c.requires in
    subst AreShared (sym pushed) (shared-push cubes cube c.self.invariant own)
