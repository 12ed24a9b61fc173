use Rattle.std.proofs.Common.{ap, ◌∙◌, ◌+◌, Some}
use Rattle.std.specs.List.{count_by}
use Rattle.cube_lex.specs.Bytes.{is_line_end}
use Rattle.cube_lex.specs.Reading.{IsReading}
use Rattle.cube_lex.specs.declared.fault.LexFault.TheVariants.{TooLong}
use Rattle.cube_lex.proofs.Readings.{reading-oversize}
use Rattle.cube_lex.proofs.Unique.{answer-only, reading-only}
use Rattle.cube_lex.proofs.WellFormed.{answer_formed, well_formed}
use Rattle.cube_lex.proofs.reading.tokens_until.Goals as goal

pub returns-then-text-gt-MAX_TEXT_BYTES : goal.returns-then-text-gt-MAX_TEXT_BYTES
returns-then-text-gt-MAX_TEXT_BYTES c =
    let found : IsReading c.args.text.now c.new-then-text-gt-MAX_TEXT_BYTES.result (Some (TooLong 1073741824)) =
    rw (c.new-then-text-gt-MAX_TEXT_BYTES.ensures, c.new.ensures.items)
    (reading-oversize c.args.text.now _ c.if-text-gt-MAX_TEXT_BYTES.true
    (ap (λ n. 1 + n) (c.line_ends.ensures ∙ ap (count_by is_line_end) c.split_at.ensures.front))) in
    record { found = found; well_formed = well_formed c.args.text.now _ _ found; only = λ lexed fault is. reading-only c.args.text.now _ lexed _ fault found is }

pub returns : goal.returns
returns c = record { found = c.read.ensures; well_formed = answer_formed c.args.text.now c.read.result c.read.ensures; only = answer-only c.args.text.now c.read.result c.read.ensures }
