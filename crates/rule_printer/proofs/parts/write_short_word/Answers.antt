use Rattle.rule_printer.proofs.WrittenParts.{short_word, short_length}
use Rattle.rule_printer.proofs.parts.write_short_word.Goals as goal

pub write_word-requires-clause-word : goal.write_word-requires-clause-word
write_word-requires-clause-word c = short_word c.args.word.now c.requires

pub write_word-requires-clause-short : goal.write_word-requires-clause-short
write_word-requires-clause-short c = short_length c.args.word.now c.requires
