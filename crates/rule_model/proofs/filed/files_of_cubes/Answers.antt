use Rattle.std.proofs.Common.{List, ◌∙◌, sym, ap, subst, All, get_or, length, [], ◌+◌}
use Rattle.std.proofs.lemmas.List.{length_push}
use Rattle.rule_model.specs.declared.filed.FiledFeeder.{FiledFeeder}
use Rattle.rule_model.specs.declared.rules.Feeder.{Feeder}
use Rattle.rule_model.specs.declared.rules.CubeRules.{CubeRules}
use Rattle.rule_model.specs.BoundModel.{no_rules}
use Rattle.rule_model.specs.Inside.Files.{NamesElements, IsFile}
use Rattle.rule_model.proofs.Filing.{names_all, files_next}
use Rattle.rule_model.proofs.filed.files_of_cubes.Goals as goal

pub file_of-requires-clause-targets : goal.file_of-requires-clause-targets
file_of-requires-clause-targets c =
    subst (λ (fs : List Feeder). All (λ (f : Feeder). NamesElements c.args.space.now f.target) fs) (sym (c.as_slice.ensures ∙ ap (λ (r : CubeRules). r.feeders) (sym c.index-cubes-cube.is)))
    (names_all c.args.space.now c.args.cubes.now c.each.cube c.index-cubes-cube.result c.size-cells.ensures.valid c.requires c.each-test.true c.index-cubes-cube.is)

pub each-preserved : goal.each-preserved
each-preserved c =
    let own : IsFile c.args.space.now c.index-cubes-cube.result.feeders c.in_ok-file.file = subst (λ (fs : List Feeder). IsFile c.args.space.now fs c.in_ok-file.file) (c.as_slice.ensures ∙ ap (λ (r : CubeRules). r.feeders) (sym c.index-cubes-cube.is)) c.in_ok-file.ensures in
    record {
      each = ap length c.in_ok-push.ensures.items ∙ length_push c.each.files.items c.in_ok-file.file ∙ ap (λ n. n + 1) c.each.invariant.each;
      file = λ k low.
          subst (λ (files : List (List FiledFeeder)). IsFile c.args.space.now (get_or c.args.cubes.now k no_rules).feeders (get_or files k [])) (sym c.in_ok-push.ensures.items)
          (files_next c.args.space.now c.args.cubes.now c.each.cube c.index-cubes-cube.result c.each.files.items c.in_ok-file.file c.each.invariant.each c.each-test.true c.index-cubes-cube.is own c.each.invariant.file k low);
    }
