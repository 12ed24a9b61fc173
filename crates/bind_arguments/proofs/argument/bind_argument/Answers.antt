use Rattle.std.proofs.Common.{◌<◌, sym, subst}
use Rattle.std.proofs.lemmas.Result.{err_from_is_err_and}
use Rattle.std.specs.Option.{option_map, option_and_then, ok_or}
use Rattle.dim_core.specs.Outline.{index_of}
use Rattle.rule_laws.specs.declared.reference.Arg.TheVariants.{Fixed}
use Rattle.bind_arguments.specs.Bound.{name_in, dimension_at}
use Rattle.bind_arguments.specs.Argument.{IsAnsweredBy}
use Rattle.bind_arguments.specs.declared.fault.ArgumentFault.TheVariants.{UnknownName}
use Rattle.bind_arguments.proofs.Parts.{part_text, not_text}
use Rattle.bind_arguments.proofs.Tables.{argument_answered, argument_refused, argument_text, text_arg, bound_arg, followed_low, cube_dims}
use Rattle.bind_arguments.proofs.argument.bind_argument.Goals as goal

pub returns-in_err-argument-in_default : goal.returns-in_err-argument-in_default
returns-in_err-argument-in_default c =
    let p = err_from_is_err_and c.from_residual.result c.from_residual.ensures.1 in
    rw (p.1, p.2) (record {
      answered = argument_refused c.args.space.now c.args.cube c.args.dim c.args.tree.now c.in_err-argument-in_default.field-0.0 (not_text c.args.tree.now c.in_default.not-Text) c.in_err-argument-in_default.ensures.answered;
      arg = tt;
      maps = c.requires.maps;
    })

pub returns-in-Text-clause-answered : goal.returns-in-Text-clause-answered
returns-in-Text-clause-answered c =
    argument_text c.args.space.now c.args.cube c.args.dim c.args.tree.now c.in-Text.text c.bind_text.result (part_text c.args.tree.now c.in-Text.text c.in-Text.is)
    (subst (λ t. IsAnsweredBy (ok_or (option_map Fixed (option_and_then (index_of (dimension_at c.args.space.now c.args.dim)) (name_in t))) UnknownName) c.bind_text.result) c.as_slice.ensures c.bind_text.ensures)

pub returns-in_ok-arg-in_default : goal.returns-in_ok-arg-in_default
returns-in_ok-arg-in_default c =
    let known = cube_dims c.args.space.now c.args.cube c.size-cells.ensures.valid c.requires.cube in
    record {
      answered = argument_answered c.args.space.now c.args.cube c.args.dim c.args.tree.now c.in_ok-argument-in_default.argument c.in_ok-arg-in_default.arg (not_text c.args.tree.now c.in_default.not-Text) c.in_ok-argument-in_default.ensures.answered c.in_ok-arg-in_default.ensures.arg;
      arg = bound_arg c.args.space.now c.args.cube c.args.dim (subst (λ n. 0 < n) (sym known.sized) known.some) c.in_ok-argument-in_default.argument c.in_ok-arg-in_default.arg c.in_ok-arg-in_default.ensures.arg
          (λ place is. subst (λ n. place < n) (sym known.sized) (followed_low c.args.space.now c.args.cube c.in_ok-argument-in_default.argument place is c.in_ok-argument-in_default.ensures.within));
      maps = c.arg_of.ensures.maps;
    }

pub returns-in-Text-clause-arg : goal.returns-in-Text-clause-arg
returns-in-Text-clause-arg c =
    let known = cube_dims c.args.space.now c.args.cube c.size-cells.ensures.valid c.requires.cube in
    text_arg c.args.space.now c.args.cube c.args.dim (subst (λ n. 0 < n) (sym known.sized) known.some) (name_in c.as_slice.result.now) c.bind_text.result c.bind_text.ensures
