-- How far a quoted text goes, byte by byte.
use Rattle.std.proofs.Common.{◌≡◌, ℕ, zero, suc, ◌+◌, ◌<◌, ◌≤◌, Bool, true, false, not, List, [], ◌∷◌, ◌++◌, length, take, drop, get_or, refl, sym, ap, ◌∙◌, inr, add-one, arith, length-append, length-take, append_assoc, take-append-drop, Some, min, eqb-true}
use Rattle.std.proofs.Math.Seq.{take-append_seam, drop-append_seam, drop-length}
use Rattle.std.proofs.lemmas.Grind.{flat_map-append}
use Rattle.std.proofs.lemmas.List.{take_more}
use Rattle.std.specs.List.{list_all}
use Rattle.cube_lex.specs.Bytes.{Begins, is_quote, is_plain}
use Rattle.cube_lex.specs.Fault.{Stops}
use Rattle.cube_lex.specs.Inside.Front.{IsInside, EndsQuote}
use Rattle.cube_lex.specs.Parts.{Stands}
use Rattle.cube_lex.specs.Quoted.{doubled, quoted}
use Rattle.cube_lex.specs.declared.token.Kind.TheVariants.{Text}
use Rattle.cube_lex.specs.declared.fault.LexFault.TheVariants.{BadByte, OpenQuote}
use Rattle.cube_lex.specs.declared.quoted.QuoteEnd.TheVariants.{Closed, Forbidden, Open}
use Rattle.cube_lex.proofs.Runs.{list_all-append}
use Rattle.cube_lex.proofs.Quotes.{doubled-other}
use Rattle.std.proofs.lemmas.Bool.{not-true}

doubled-append : (xs ys : List ℕ) → doubled (xs ++ ys) ≡ doubled xs ++ doubled ys
doubled-append xs ys = flat_map-append _ xs ys

-- one byte more that isn't a quote
pub inside-other : (bytes : List ℕ) (at : ℕ) → at < length bytes → is_quote (get_or bytes at 0) ≡ false → is_plain (get_or bytes at 0) ≡ true → IsInside bytes at → IsInside bytes (at + 1)
inside-other bytes at more other plain inside =
    let b : ℕ = get_or bytes at 0 in
    let passes : list_all is_plain (b ∷ []) ≡ true = rw plain refl in
    let form : doubled (b ∷ []) ≡ b ∷ [] = doubled-other b [] other in (
      inside.0 ++ b ∷ [],
      list_all-append is_plain inside.0 (b ∷ []) inside.1 passes,
      take_more bytes at 0 more ∙ ap (λ front. front ++ b ∷ []) inside.2 ∙ ap (λ end. doubled inside.0 ++ end) (sym form) ∙ sym (doubled-append inside.0 (b ∷ [])),
      omega arith,
    )

-- two quotes more
pub inside-quotes : (bytes : List ℕ) (at : ℕ) → at + 1 < length bytes → get_or bytes at 0 ≡ 39 → get_or bytes (at + 1) 0 ≡ 39 → IsInside bytes at → IsInside bytes (at + 2)
inside-quotes bytes at more first second inside =
    let before : at < length bytes = omega arith in
    let regrouped : at + 2 ≡ (at + 1) + 1 = omega arith in
    let two : take (at + 2) bytes ≡ doubled inside.0 ++ 39 ∷ 39 ∷ [] =
    ap (λ n. take n bytes) regrouped ∙ take_more bytes (at + 1) 0 more ∙ ap (λ front. front ++ get_or bytes (at + 1) 0 ∷ []) (take_more bytes at 0 before)
    ∙ ap (λ q. (take at bytes ++ get_or bytes at 0 ∷ []) ++ q ∷ []) second ∙ ap (λ q. (take at bytes ++ q ∷ []) ++ 39 ∷ []) first
    ∙ append_assoc (take at bytes) (39 ∷ []) (39 ∷ []) ∙ ap (λ front. front ++ 39 ∷ 39 ∷ []) inside.2 in
    (inside.0 ++ 39 ∷ [], list_all-append is_plain inside.0 (39 ∷ []) inside.1 refl, two ∙ sym (doubled-append inside.0 (39 ∷ [])), omega arith)

-- the bytes are those inside and what is behind them
pub inside-split : (bytes : List ℕ) (place : ℕ) → (inside : IsInside bytes place) → (bytes ≡ doubled inside.0 ++ drop place bytes) × (length (doubled inside.0) ≡ place)
inside-split bytes place inside = (
  sym (take-append-drop place bytes) ∙ ap (λ front. front ++ drop place bytes) inside.2,
  ap length (sym inside.2) ∙ length-take place bytes ∙ fits,
) where
  fits : min place (length bytes) ≡ place
  fits = omega arith

pub begins-cons : (p : ℕ → Bool) (bytes : List ℕ) → Begins p bytes → (b : ℕ) × (bs : List ℕ) × (bytes ≡ b ∷ bs) × (p b ≡ true)
begins-cons p [] starts = absurd starts
begins-cons p (b ∷ bs) starts = (b, bs, refl, starts)

drop-tail : (n : ℕ) (bytes : List ℕ) (b : ℕ) (bs : List ℕ) → drop n bytes ≡ b ∷ bs → drop (n + 1) bytes ≡ bs
drop-tail n bytes b bs e = rw add-one (by_suc n bytes e) where
  by_suc : (n : ℕ) (bytes : List ℕ) → drop n bytes ≡ b ∷ bs → drop (suc n) bytes ≡ bs
  by_suc zero [] e = absurd (cc)
  by_suc zero (x ∷ xs) e = cc
  by_suc (suc n) [] e = absurd (cc)
  by_suc (suc n) (x ∷ xs) e = by_suc n xs e

pub closed-stands : (rest : List ℕ) (place : ℕ) → Begins is_quote rest → EndsQuote (drop 1 rest) (Closed place)
    → (place + 2 ≤ length rest) × Stands Text (take (place + 2) rest) (drop (place + 2) rest)
closed-stands [] place starts ends = absurd starts
closed-stands (q ∷ bytes) place starts ends =
    let last : (b : ℕ) × (bs : List ℕ) × (drop place bytes ≡ b ∷ bs) × (is_quote b ≡ true) = begins-cons is_quote (drop place bytes) ends.1 in
    let behind : drop (place + 1) bytes ≡ last.1 = drop-tail place bytes last.0 last.1 last.2 in
    let split : (bytes ≡ doubled ends.0.0 ++ drop place bytes) × (length (doubled ends.0.0) ≡ place) = inside-split bytes place ends.0 in
    let whole : q ∷ bytes ≡ quoted ends.0.0 ++ last.1 =
    ap (λ b. b ∷ bytes) (eqb-true q 39 starts) ∙ ap (λ bs. 39 ∷ bs) (split.0 ∙ ap (λ tail. doubled ends.0.0 ++ tail) (last.2 ∙ ap (λ b. b ∷ last.1) (eqb-true last.0 39 last.3)))
    ∙ ap (λ bs. 39 ∷ bs) (sym (append_assoc (doubled ends.0.0) (39 ∷ []) last.1)) in
    let len : place + 2 ≡ length (quoted ends.0.0) = simp length-append (omega (arith, split.1)) in
    let no_quote : Begins is_quote last.1 → ⊥ = rw behind at ends.2 in
    let within : place + 2 ≤ length (q ∷ bytes) = omega (arith, len, ap length whole, length-append (quoted ends.0.0) last.1) in
    (within, rw (whole, len, take-append_seam (quoted ends.0.0) last.1, drop-append_seam (quoted ends.0.0) last.1) ((ends.0.0, ends.0.1, refl), no_quote))

pub open-stops : (rest : List ℕ) (at : ℕ) → Begins is_quote rest → EndsQuote (drop 1 rest) Open → Stops at rest (Some (OpenQuote at))
open-stops [] at starts ends = absurd starts
open-stops (q ∷ bytes) at starts ends =
    let split : (bytes ≡ doubled ends.0 ++ drop (length bytes) bytes) × (length (doubled ends.0) ≡ length bytes) = inside-split bytes (length bytes) ends in (
      record {
        inside = ends.0;
        opens = record {
          plain = ends.1;
          is = ap (λ b. b ∷ bytes) (eqb-true q 39 starts) ∙ ap (λ bs. 39 ∷ bs) (split.0 ∙ ap (λ tail. doubled ends.0 ++ tail) (drop-length bytes));
        };
      },
      refl,
    )

pub forbidden-stops : (rest : List ℕ) (at place : ℕ) → Begins is_quote rest → EndsQuote (drop 1 rest) (Forbidden place) → Stops at rest (Some (BadByte (at + 1 + place)))
forbidden-stops [] at place starts ends = absurd starts
forbidden-stops (q ∷ bytes) at place starts ends =
    let bad : (b : ℕ) × (bs : List ℕ) × (drop place bytes ≡ b ∷ bs) × (not (is_plain b) ≡ true) = begins-cons (λ b. not (is_plain b)) (drop place bytes) ends.1 in
    let split : (bytes ≡ doubled ends.0.0 ++ drop place bytes) × (length (doubled ends.0.0) ≡ place) = inside-split bytes place ends.0 in
    inr (
      1 + place,
      record {
        inside = ends.0.0;
        bad = bad.0;
        after = bad.1;
        opens = record { plain = ends.0.1; is = ap (λ b. b ∷ bytes) (eqb-true q 39 starts) ∙ ap (λ bs. 39 ∷ bs) (split.0 ∙ ap (λ tail. doubled ends.0.0 ++ tail) bad.2) };
        forbidden = not-true (is_plain bad.0) bad.3;
        before = ap (λ n. 1 + n) (sym split.1);
      },
      omega arith,
    )
