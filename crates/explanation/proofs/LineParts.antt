-- A cursor one byte further, and at the end of its text.
use Rattle.std.proofs.Common.{◌≡◌, ◌≢◌, ◌∙◌, ap, sym, subst, refl, arith, true, false, Bool, not, inl, inr, ◌⊎◌, if◌then◌else◌, ℕ, suc, ◌+◌, ◌<◌, ◌≤◌, List, [], ◌∷◌, ◌++◌, length, length-take, take, drop, get_or, reverse}
use Rattle.std.proofs.lemmas.Bool.{cases_lt}
use Rattle.std.specs.Prelude.{take_while, count_by, cond}
use Rattle.std.specs.List.{prefix_len}
use Rattle.std.proofs.lemmas.List.{take_more, drop-append-le, take_all, reverse-append}
use Rattle.std.proofs.lemmas.List.Sums.{count_by_more_yes, count_by_more_no}
use Rattle.cube_lex.specs.Bytes.{is_line_end, line_at}
use Rattle.cube_lex.specs.Reading.{mark_len}
use Rattle.explanation.specs.Cursor.{IsAt}
use Rattle.explanation.specs.Places.{front, is_within_line, line_part}
use Rattle.explanation.specs.declared.cursor.TextCursor.{TextCursor}

-- one byte more
front-more : (text : List ℕ) (n : ℕ) → mark_len text ≤ n → n < length text → front text (n + 1) ≡ front text n ++ get_or text n 0 ∷ []
front-more text n marked inside =
    let long : length (take n text) ≡ n = length-take n text ∙ omega (arith, inside) in
    ap (drop (mark_len text)) (take_more text n 0 inside)
    ∙ drop-append-le (mark_len text) (take n text) (get_or text n 0 ∷ []) (omega (arith, long, marked))

part-more : (bytes : List ℕ) (byte : ℕ) → line_part (bytes ++ byte ∷ []) ≡ (if is_line_end byte then 0 else line_part bytes + 1)
part-more bytes byte = ap (λ l. length (take_while is_within_line l)) (reverse-append bytes (byte ∷ [])) ∙ by (is_line_end byte) refl
  where
    back : List ℕ
    back = reverse bytes

    long : Bool → ℕ
    long b = length (take (cond (not b) (1 + prefix_len is_within_line back) 0) (byte ∷ back))

    by : (b : Bool) → is_line_end byte ≡ b → length (take_while is_within_line (byte ∷ back)) ≡ (if is_line_end byte then 0 else line_part bytes + 1)
    by true is = ap long is ∙ sym (ap (λ b. if b then 0 else line_part bytes + 1) is)
    by false is =
        let more : 1 + prefix_len is_within_line back ≡ suc (prefix_len is_within_line back) = omega arith in
        let one : suc (line_part bytes) ≡ line_part bytes + 1 = omega arith in
        ap long is ∙ ap (λ n. length (take n (byte ∷ back))) more ∙ one ∙ sym (ap (λ b. if b then 0 else line_part bytes + 1) is)

module _ (text : List ℕ) (cursor : TextCursor) (is : IsAt text cursor) (inside : cursor.at < length text) where
  abbrev byte : ℕ
  byte = get_or text cursor.at 0

  part-here : line_part (front text (cursor.at + 1)) ≡ (if is_line_end byte then 0 else line_part (front text cursor.at) + 1)
  part-here = ap line_part (front-more text cursor.at is.behind_mark inside) ∙ part-more (front text cursor.at) byte

  pub line-ended : is_line_end byte ≡ true → IsAt text (record { at = cursor.at + 1; line = cursor.line + 1; part = 0 })
  line-ended end = record {
    behind_mark = omega (arith, is.behind_mark);
    line = ap (λ n. n + 1) is.line ∙ sym (ap (λ n. 1 + n) (count_by_more_yes is_line_end text cursor.at 0 inside end) ∙ omega arith);
    few_lines = omega (arith, is.few_lines);
    part = sym (part-here ∙ ap (λ b. if b then 0 else line_part (front text cursor.at) + 1) end);
    few_bytes = omega arith;
    within = omega arith;
  }

  pub line-goes-on : is_line_end byte ≡ false → IsAt text (record { at = cursor.at + 1; line = cursor.line; part = cursor.part + 1 })
  line-goes-on within = record {
    behind_mark = omega (arith, is.behind_mark);
    line = is.line ∙ sym (ap (λ n. 1 + n) (count_by_more_no is_line_end text cursor.at 0 inside within));
    few_lines = omega (arith, is.few_lines);
    part = ap (λ n. n + 1) is.part ∙ sym (part-here ∙ ap (λ b. if b then 0 else line_part (front text cursor.at) + 1) within);
    few_bytes = omega (arith, is.few_bytes);
    within = omega (arith, is.few_bytes, inside);
  }

-- behind the last byte nothing comes
pub at-end : (text : List ℕ) (cursor : TextCursor) (to : ℕ) → IsAt text cursor → cursor.at ≤ to → (cursor.at < to → length text ≤ cursor.at) → IsAt text (record { at = to; line = cursor.line; part = cursor.part })
at-end text cursor to is later ended = record {
  behind_mark = omega (arith, is.behind_mark, later);
  line = is.line ∙ ap (λ l. 1 + count_by is_line_end l) same;
  few_lines = omega (arith, is.few_lines, later);
  part = is.part ∙ ap (λ l. line_part (drop (mark_len text) l)) same;
  few_bytes = omega (arith, is.few_bytes, later);
  within = is.within;
}
  where
    same : take cursor.at text ≡ take to text
    same = by (cases_lt cursor.at to) where
      by : (cursor.at < to) ⊎ (to ≤ cursor.at) → take cursor.at text ≡ take to text
      by (inl before) = take_all cursor.at text (ended before) ∙ sym (take_all to text (omega (arith, ended before, later)))
      by (inr past) = ap (λ n. take n text) (omega (arith, past, later))
