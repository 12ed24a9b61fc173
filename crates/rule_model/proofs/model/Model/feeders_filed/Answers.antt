use Rattle.std.proofs.Common.{◌<◌, ◌∙◌, sym, ap, subst, arith, map, length, get_or}
use Rattle.rule_model.specs.declared.filed.FiledFeeder.{FiledFeeder}
use Rattle.rule_model.specs.BoundModel.{BoundModel, no_rules, rules_of}
use Rattle.rule_model.specs.Filed.{filed_places}
use Rattle.rule_model.specs.Inside.Files.{IsFile, of_number}
use Rattle.rule_model.proofs.Filing.{own_file, found_places}
use Rattle.rule_model.proofs.model.Model.feeders_filed.Goals as goal

pub of_number-requires : goal.of_number-requires
of_number-requires c =
    let there : c.args.own < length c.self.inside.space.cubes = subst (λ (m : BoundModel). c.args.own < length m.space.cubes) (sym c.self.view_is) c.requires in
    let low : c.args.own < length c.self.inside.rules.items = omega (arith, there, c.self.invariant.ruled.each_cube) in
    let file = own_file c.self.inside.space c.self.inside.rules.items c.self.inside.files.items c.args.own c.index.result.now c.self.invariant.filed low c.index.ensures in
    (subst (λ fs. IsFile c.self.inside.space (get_or c.self.inside.rules.items c.args.own no_rules).feeders fs) (sym c.as_slice.ensures) file).rising

pub returns : goal.returns
returns c =
    let there : c.args.own < length c.self.inside.space.cubes = subst (λ (m : BoundModel). c.args.own < length m.space.cubes) (sym c.self.view_is) c.requires in
    let low : c.args.own < length c.self.inside.rules.items = omega (arith, there, c.self.invariant.ruled.each_cube) in
    let file = own_file c.self.inside.space c.self.inside.rules.items c.self.inside.files.items c.args.own c.index.result.now c.self.invariant.filed low c.index.ensures in
    ap (map (λ (f : FiledFeeder). f.place)) (c.of_number.ensures ∙ ap (λ fs. of_number fs c.file_number.result) c.as_slice.ensures ∙ ap (of_number c.index.result.now) c.file_number.ensures.number)
    ∙ found_places c.self.inside.space c.args.own (get_or c.self.inside.rules.items c.args.own no_rules).feeders c.index.result.now c.args.cube c.args.leaf c.self.invariant.valid (c.self.invariant.ruled.cube c.args.own there).feeders file c.file_number.ensures.low
    ∙ ap (λ (m : BoundModel). filed_places m.space (rules_of m c.args.own).feeders c.args.cube c.args.leaf) c.self.view_is
