use Rattle.std.proofs.Common.{◌≡◌, ◌∙◌, ◌<◌, length, true, sym, ap, arith}
use Rattle.cube_space.specs.Layout.{dims_of}
use Rattle.rule_printer.specs.Writable.{is_writable}
use Rattle.feed_print.proofs.Lists.{arg_fits, args_long, argument_gap, argument_more, arguments_end, item_there, more_pass, some_has}
use Rattle.feed_print.proofs.arguments.argument_texts.Goals as goal

pub number_at-dim-requires-clause-place : goal.number_at-dim-requires-clause-place
number_at-dim-requires-clause-place c =
    let long = args_long c.args.space.now c.args.cube c.args.target.now c.size-cells.ensures.valid c.requires.target in
    let same = ap length c.as_slice-args.ensures in
    omega (arith, c.each-test.true, long, same)

pub argument_text-requires-clause-arg : goal.argument_text-requires-clause-arg
argument_text-requires-clause-arg c =
    let low : c.each.place < length c.args.target.now.args = (let same = ap length c.as_slice-args.ensures in omega (arith, c.each-test.true, same)) in
    let is = item_there c.as_slice-args.result.now c.args.target.now.args c.each.place c.index-args-place.result c.as_slice-args.ensures low c.index-args-place.is in
    arg_fits c.args.space.now c.args.cube c.args.target.now c.each.place c.number_at-dim.result c.index-args-place.result c.size-cells.ensures.valid c.requires.target c.number_at-dim.ensures.number is

pub returns-in-None-clause-text : goal.returns-in-None-clause-text
returns-in-None-clause-text c =
    let low : c.each.place < length c.args.target.now.args = (let same = ap length c.as_slice-args.ensures in omega (arith, c.each-test.true, same)) in
    let is = item_there c.as_slice-args.result.now c.args.target.now.args c.each.place c.index-args-place.result c.as_slice-args.ensures low c.index-args-place.is in
    sym (sym c.each.invariant.text
    ∙ argument_gap c.args.space.now c.args.cube (dims_of c.args.space.now c.args.target.now.cube) c.args.target.now.args c.each.place c.number_at-dim.result c.index-args-place.result c.number_at-dim.ensures.number is
    c.each.arguments.items (sym c.in_ok-argument.ensures.text ∙ c.in-None.is))

pub each-preserved : goal.each-preserved
each-preserved c =
    let low : c.each.place < length c.args.target.now.args = (let same = ap length c.as_slice-args.ensures in omega (arith, c.each-test.true, same)) in
    let is = item_there c.as_slice-args.result.now c.args.target.now.args c.each.place c.index-args-place.result c.as_slice-args.ensures low c.index-args-place.is in
    record {
      text = sym (argument_more c.args.space.now c.args.cube (dims_of c.args.space.now c.args.target.now.cube) c.args.target.now.args c.each.place c.number_at-dim.result c.index-args-place.result c.number_at-dim.ensures.number is
          c.in-Some.argument c.each.arguments.items c.push.new.self.items (sym c.in_ok-argument.ensures.text ∙ c.in-Some.is) c.in_ok-push-in-Some.ensures.items)
          ∙ c.each.invariant.text;
      writable = more_pass is_writable c.each.arguments.items c.push.new.self.items c.in-Some.argument c.in_ok-push-in-Some.ensures.items c.each.invariant.writable
          (some_has (λ tree. is_writable tree ≡ true) c.in_ok-argument.field-0 c.in-Some.argument c.in-Some.is c.in_ok-argument.ensures.writable);
    }

pub returns-clause-text : goal.returns-clause-text
returns-clause-text c =
    let long = args_long c.args.space.now c.args.cube c.args.target.now c.size-cells.ensures.valid c.requires.target in
    let same = ap length c.as_slice-args.ensures in
    sym (arguments_end c.args.space.now c.args.cube (dims_of c.args.space.now c.args.target.now.cube) c.args.target.now.args c.each.place c.each.arguments.items (omega (arith, c.each-test.false, long, same)))
    ∙ c.each.invariant.text
