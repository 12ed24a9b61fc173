use Rattle.std.proofs.Common.{◌≡◌, ◌≤◌, ◌^◌, arith, length, ap, ◌∙◌, ◌+◌, Some}
use Rattle.std.specs.List.{count_by}
use Rattle.cube_lex.specs.Ahead.{IsAhead}
use Rattle.cube_lex.specs.Bytes.{is_line_end}
use Rattle.cube_lex.specs.Reading.{IsReading, mark_len}
use Rattle.cube_lex.specs.declared.fault.LexFault.TheVariants.{TooLong}
use Rattle.cube_lex.proofs.Aheads.{the_ahead}
use Rattle.cube_lex.proofs.Counting.{reading-ahead}
use Rattle.cube_lex.proofs.Readings.{reading-oversize}
use Rattle.cube_lex.proofs.Unique.{reading-only}
use Rattle.cube_lex.proofs.WellFormed.{well_formed}
use Rattle.cube_lex.proofs.text.text_tokens.Goals as goal

pub returns-then-text-gt-MAX_TEXT_BYTES : goal.returns-then-text-gt-MAX_TEXT_BYTES
returns-then-text-gt-MAX_TEXT_BYTES c =
    let found : IsReading c.args.text.now (record { lexemes = c.new.result; end = record { offset = 1073741824; line = 1 + c.line_ends.result } }) (Some (TooLong 1073741824)) =
    rw (c.new.ensures, c.end.ensures)
    (reading-oversize c.args.text.now _ c.if-text-gt-MAX_TEXT_BYTES.true
    (ap (λ n. 1 + n) (c.line_ends.ensures ∙ ap (count_by is_line_end) c.split_at.ensures.front))) in
    record { found = found; well_formed = well_formed c.args.text.now _ _ found; only = λ lexed fault is. reading-only c.args.text.now _ lexed _ fault found is }

pub new-place-requires : goal.new-place-requires
new-place-requires c =
    let small : length c.args.text.now ≤ 2 ^ 30 = omega (arith, c.if-text-gt-MAX_TEXT_BYTES.false) in
    rw c.mark_len.ensures
    (the_ahead c.args.text.now (mark_len c.args.text.now) 1 c.counted-counted.result.tokens c.counted-counted.ensures.0
    (∣ reading-ahead c.args.text.now _ _ c.counted-counted.ensures.0 _ small c.counted-counted.ensures.1 c.counted-counted.ensures.2 ∣₁))

pub returns : goal.returns
returns c =
    let small : length c.args.text.now ≤ 2 ^ 30 = omega (arith, c.if-text-gt-MAX_TEXT_BYTES.false) in
    let ahead : IsAhead c.args.text.now c.mark_len.result 1 c.counted-counted.result.tokens c.counted-counted.ensures.0 =
    rw c.mark_len.ensures (∣ reading-ahead c.args.text.now _ _ c.counted-counted.ensures.0 _ small c.counted-counted.ensures.1 c.counted-counted.ensures.2 ∣₁) in
    let same : c.new-2.result ≡ c.counted-counted.ensures.0 = c.new-2.ensures ∙ c.new-place.ensures c.counted-counted.ensures.0 ahead in
    let found : IsReading c.args.text.now (record { lexemes = c.new-2.result; end = c.counted-counted.result.end }) c.counted-counted.result.fault = rw same c.counted-counted.ensures.1 in
    record { found = found; well_formed = well_formed c.args.text.now _ _ found; only = λ lexed fault is. reading-only c.args.text.now _ lexed _ fault found is }
