use Rattle.std.proofs.Common.{◌≡◌, ◌++◌, drop, true, option_map}
use Rattle.std.specs.List.{list_all}
use Rattle.cube_space.specs.Layout.{dims_of}
use Rattle.rule_printer.specs.Writable.{is_writable}
use Rattle.feed_print.specs.FeederTexts.{argument_texts}
use Rattle.feed_print.proofs.arguments.argument_texts.Given as goal

-- the arguments so far, and those that are left
abbrev pub invariant-each : goal.invariant-each
invariant-each l = record {
  text : option_map (λ more. l.arguments.items ++ more)
      (argument_texts l.space l.cube (drop l.place (dims_of l.space l.target.cube)) (drop l.place l.target.args))
      ≡ argument_texts l.space l.cube (dims_of l.space l.target.cube) l.target.args;
  writable : list_all is_writable l.arguments.items ≡ true;
}
