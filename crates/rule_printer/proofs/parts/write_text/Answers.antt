use Rattle.rule_printer.proofs.WrittenParts.{quotable_plain, quotable_short}
use Rattle.rule_printer.proofs.parts.write_text.Goals as goal

pub write_quoted-requires-clause-plain : goal.write_quoted-requires-clause-plain
write_quoted-requires-clause-plain c = quotable_plain c.args.bytes.now c.requires

pub write_quoted-requires-clause-short : goal.write_quoted-requires-clause-short
write_quoted-requires-clause-short c = quotable_short c.args.bytes.now c.requires
