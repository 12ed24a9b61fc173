use Rattle.std.proofs.Common.{◌≡◌, ◌∙◌, ◌+◌, length, nat_le, ap, sym, arith}
use Rattle.std.specs.Prelude.{count_by}
use Rattle.cube_lex.specs.Bytes.{is_quote}
use Rattle.cube_lex.specs.Quoted.{quoted}
use Rattle.feed_print.proofs.QuotedNames.{name_quotable, quoted_size, too_long}
use Rattle.feed_print.proofs.names.fits.Goals as goal

pub returns-then-bytes-gt-MAX_TOKEN_BYTES-clause-fits : goal.returns-then-bytes-gt-MAX_TOKEN_BYTES-clause-fits
returns-then-bytes-gt-MAX_TOKEN_BYTES-clause-fits c =
    too_long c.args.name.now (let long = ap length c.shown-bytes.ensures.value in omega (arith, long, c.if-bytes-gt-MAX_TOKEN_BYTES.true))

pub returns-clause-fits : goal.returns-clause-fits
returns-clause-fits c =
    let same : length c.shown-bytes.result.now + c.count_quotes.result + 2 ≡ length (quoted c.args.name.now) =
    ap (λ n. length c.shown-bytes.result.now + n + 2) c.count_quotes.ensures
    ∙ ap (λ bytes. length bytes + count_by is_quote bytes + 2) c.shown-bytes.ensures.value ∙ sym (quoted_size c.args.name.now) in
    ap (λ n. nat_le n 1024) same

pub returns-clause-quotable : goal.returns-clause-quotable
returns-clause-quotable c = λ yes.
    let same : length c.shown-bytes.result.now + c.count_quotes.result + 2 ≡ length (quoted c.args.name.now) =
    ap (λ n. length c.shown-bytes.result.now + n + 2) c.count_quotes.ensures
    ∙ ap (λ bytes. length bytes + count_by is_quote bytes + 2) c.shown-bytes.ensures.value ∙ sym (quoted_size c.args.name.now) in
    name_quotable c.args.name.now c.shown-bytes.ensures.is_name (sym (ap (λ n. nat_le n 1024) same) ∙ yes)
