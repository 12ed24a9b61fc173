use Rattle.std.proofs.Common.{List, ◌++◌, subst, OnOk}
use Rattle.std.specs.List.{flat_map}
use Rattle.cube_lex.specs.Written.{Spelling, Writes}
use Rattle.rule_printer.proofs.WrittenParts.{then_writes}
use Rattle.rule_printer.specs.Spelled.{skipcheck_spelled, statement_spelled, feeders_spelled}
use Rattle.rule_printer.proofs.printing.write_rules.Goals as goal

pub returns : goal.returns
returns c =
    let head : List Spelling = skipcheck_spelled c.args.text.now.skipcheck in
    let statements : List Spelling = flat_map statement_spelled c.args.text.now.statements in
    let feeders : List Spelling = feeders_spelled c.args.text.now.finds_feeders c.args.text.now.feeders in
    let each : Writes c.write_skipcheck.new.out.items c.write_statements.new.out.items statements =
    subst (λ l. Writes c.write_skipcheck.new.out.items c.write_statements.new.out.items (flat_map statement_spelled l)) c.as_slice.ensures c.in_ok-write_statements.ensures in
    then_writes c.write_feeders.result c.args.out.now.items c.write_skipcheck.new.out.items c.write_feeders.new.out.items head (statements ++ feeders) c.in_ok-write_skipcheck.ensures
    (then_writes c.write_feeders.result c.write_skipcheck.new.out.items c.write_statements.new.out.items c.write_feeders.new.out.items statements feeders each
    (subst (λ l. OnOk c.write_feeders.result (Writes c.write_statements.new.out.items c.write_feeders.new.out.items (feeders_spelled c.args.text.now.finds_feeders l))) c.as_slice-2.ensures c.write_feeders.ensures))
