-- A text and its front, up to the first byte that is one too many, are read alike.
use Rattle.std.proofs.Common.{◌≡◌, ℕ, zero, suc, ◌+◌, ◌<◌, ◌≤◌, List, [], ◌∷◌, length, take, Option, Some, ◌⊎◌, inl, inr, refl, sym, ap, ◌∙◌, subst, arith}
use Rattle.std.specs.Prelude.{count_by}
use Rattle.std.proofs.lemmas.Bool.{cases_lt}
use Rattle.std.proofs.lemmas.List.{take_all, length-take-le}
use Rattle.cube_lex.specs.Bytes.{is_line_end}
use Rattle.cube_lex.specs.Fault.{place_of}
use Rattle.cube_lex.specs.Lexed.{Lexed}
use Rattle.cube_lex.specs.Positions.{position_at}
use Rattle.cube_lex.specs.Reading.{IsReading, most_text_bytes}
use Rattle.cube_lex.specs.declared.fault.LexFault.{LexFault}
use Rattle.cube_lex.specs.declared.fault.LexFault.TheVariants.{TooLong}
use Rattle.run_passes.specs.Laws.{FrontsReadAlike}

take-front : {A : Type 0} (n m : ℕ) (l : List A) → n ≤ m → take n (take m l) ≡ take n l
take-front zero m l low = refl
take-front (suc n) zero l low = absurd (omega (arith, low))
take-front (suc n) (suc m) [] low = refl
take-front (suc n) (suc m) (x ∷ l) low = ap (λ r. x ∷ r) (take-front n m l (omega (arith, low)))

module _ (text : List ℕ) (lexed : Lexed) (fault : Option LexFault) where
  abbrev front : List ℕ
  front = take (most_text_bytes + 1) text

  -- a text that is short enough is its own front
  whole : length text ≤ most_text_bytes → front ≡ text
  whole small = take_all (most_text_bytes + 1) text (omega (arith, small))

  long : most_text_bytes < length text → length front ≡ most_text_bytes + 1
  long large = length-take-le (most_text_bytes + 1) text (omega (arith, large))

  -- the fault of a text that is too long is at the same place of both
  same-place : fault ≡ Some (TooLong most_text_bytes) → position_at front (place_of front fault) ≡ position_at text (place_of text fault)
  same-place is =
      ap (λ f. position_at front (place_of front f)) is
      ∙ ap (λ l. record { offset = most_text_bytes; line = 1 + count_by is_line_end l }) (take-front most_text_bytes (most_text_bytes + 1) text (omega arith))
      ∙ sym (ap (λ f. position_at text (place_of text f)) is)

  front-reads : (most_text_bytes < length text) ⊎ (length text ≤ most_text_bytes) → IsReading text lexed fault → IsReading front lexed fault
  front-reads (inr small) is = subst (λ l. IsReading l lexed fault) (sym (whole small)) is
  front-reads (inl large) is = record {
    oversize = λ _. is.oversize large;
    within = λ low. absurd (omega (arith, low, long large));
    end = is.end ∙ sym (same-place (is.oversize large).1);
  }

  text-reads : (most_text_bytes < length text) ⊎ (length text ≤ most_text_bytes) → IsReading front lexed fault → IsReading text lexed fault
  text-reads (inr small) is = subst (λ l. IsReading l lexed fault) (whole small) is
  text-reads (inl large) is =
      let over : most_text_bytes < length front = omega (arith, long large) in
      record {
        oversize = λ _. is.oversize over;
        within = λ low. absurd (omega (arith, low, large));
        end = is.end ∙ same-place (is.oversize over).1;
      }

pub fronts-alike : FrontsReadAlike
unfolding most_text_bytes
fronts-alike text lexed fault =
    let size = cases_lt most_text_bytes (length text) in
    (front-reads text lexed fault size, text-reads text lexed fault size)
