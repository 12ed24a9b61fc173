-- Quoted texts: each has one reading.
use Rattle.std.proofs.Common.{◌≡◌, ℕ, ◌+◌, ◌≤◌, ◌-◌, ◌*◌, true, false, cond, List, [], ◌∷◌, ◌++◌, length, take, drop, refl, sym, ap, ◌∙◌, inl, inr, ◌⊎◌, subst, arith, length-append, append_assoc}
use Rattle.std.proofs.Math.Seq.{take-append_seam}
use Rattle.std.specs.List.{list_all}
use Rattle.cube_lex.specs.Bytes.{Begins, is_quote, is_plain}
use Rattle.cube_lex.specs.Quoted.{doubled, undoubled, quoted, unquoted}
use Rattle.cube_lex.proofs.Runs.{both}

-- the two forms of a doubled byte
pub doubled-quote : (b : ℕ) (bs : List ℕ) → is_quote b ≡ true → doubled (b ∷ bs) ≡ b ∷ b ∷ doubled bs
doubled-quote b bs quote = rw quote refl

pub doubled-other : (b : ℕ) (bs : List ℕ) → is_quote b ≡ false → doubled (b ∷ bs) ≡ b ∷ doubled bs
doubled-other b bs other = rw other refl

-- what doubled bytes don't go on with: the end, a forbidden byte or a lone quote
abbrev pub EndsInside : List ℕ → Type 0
EndsInside [] = Unit {0}
EndsInside (b ∷ bs) = (is_plain b ≡ false) ⊎ ((b ≡ 39) × (Begins is_quote bs → ⊥))

-- a byte that may stand inside doesn't end it
goes-on : (x : ℕ) (xs rest : List ℕ) → is_plain x ≡ true → EndsInside rest → doubled (x ∷ []) ++ xs ≡ rest → ⊥
goes-on x xs [] plain ends = elim (is_quote x) as (λ q. ((cond q (x ∷ x ∷ []) (x ∷ [])) ++ []) ++ xs ≡ [] → ⊥) [ true ↦ λ e. cc | false ↦ λ e. cc ]
goes-on x xs (b ∷ bs) plain ends =
    elim (is_quote x) as (λ q. is_quote x ≡ q → ((cond q (x ∷ x ∷ []) (x ∷ [])) ++ []) ++ xs ≡ b ∷ bs → ⊥) [
      | true ↦ λ quote e.
          let same : x ≡ b = cc in
          let second : x ∷ xs ≡ bs = cc in
          elim ends [ inl bad ↦ cc (ap is_plain same) | inr lone ↦ lone.1 (subst (λ tail. Begins is_quote tail) second quote) ]
      | false ↦ λ other e.
          let same : x ≡ b = cc in
          elim ends [ inl bad ↦ cc (ap is_plain same) | inr lone ↦ cc (ap is_quote (same ∙ lone.0)) ]
    ] refl

doubled-cons : (x : ℕ) (xs : List ℕ) → doubled (x ∷ xs) ≡ doubled (x ∷ []) ++ doubled xs
doubled-cons x xs = elim (is_quote x) as (λ q. (cond q (x ∷ x ∷ []) (x ∷ [])) ++ doubled xs ≡ ((cond q (x ∷ x ∷ []) (x ∷ [])) ++ []) ++ doubled xs) [ true ↦ refl | false ↦ refl ]

-- one byte doubled, and what follows
doubled-head : (x y : ℕ) (xs ys : List ℕ) → doubled (x ∷ []) ++ xs ≡ doubled (y ∷ []) ++ ys → (x ≡ y) × (xs ≡ ys)
doubled-head x y xs ys =
    elim (is_quote x) as (λ q. is_quote x ≡ q → ((cond q (x ∷ x ∷ []) (x ∷ [])) ++ []) ++ xs ≡ ((cond (is_quote y) (y ∷ y ∷ []) (y ∷ [])) ++ []) ++ ys → (x ≡ y) × (xs ≡ ys)) [
      | true ↦ λ x-is. elim (is_quote y) as (λ r. is_quote y ≡ r → x ∷ x ∷ xs ≡ ((cond r (y ∷ y ∷ []) (y ∷ [])) ++ []) ++ ys → (x ≡ y) × (xs ≡ ys)) [
        | true ↦ λ y-is e. (cc, cc)
        | false ↦ λ y-is e. let same : x ≡ y = cc in absurd (cc (ap is_quote same))
      ] refl
      | false ↦ λ x-is. elim (is_quote y) as (λ r. is_quote y ≡ r → x ∷ xs ≡ ((cond r (y ∷ y ∷ []) (y ∷ [])) ++ []) ++ ys → (x ≡ y) × (xs ≡ ys)) [
        | true ↦ λ y-is e. let same : x ≡ y = cc in absurd (cc (ap is_quote same))
        | false ↦ λ y-is e. (cc, cc)
      ] refl
    ] refl

-- two readings of the same bytes behind a quote are one
pub inside-only : (xs ys more rest : List ℕ) → list_all is_plain xs ≡ true → list_all is_plain ys ≡ true → EndsInside more → EndsInside rest
    → doubled xs ++ more ≡ doubled ys ++ rest → (xs ≡ ys) × (more ≡ rest)
inside-only [] [] more rest xs-plain ys-plain more-ends rest-ends e = (refl, e)
inside-only [] (y ∷ ys) more rest xs-plain ys-plain more-ends rest-ends e =
    absurd (goes-on y (doubled ys ++ rest) more (both _ _ ys-plain).0 more-ends
    (sym (append_assoc (doubled (y ∷ [])) (doubled ys) rest) ∙ ap (λ bytes. bytes ++ rest) (sym (doubled-cons y ys)) ∙ sym e))
inside-only (x ∷ xs) [] more rest xs-plain ys-plain more-ends rest-ends e =
    absurd (goes-on x (doubled xs ++ more) rest (both _ _ xs-plain).0 rest-ends
    (sym (append_assoc (doubled (x ∷ [])) (doubled xs) more) ∙ ap (λ bytes. bytes ++ more) (sym (doubled-cons x xs)) ∙ e))
inside-only (x ∷ xs) (y ∷ ys) more rest xs-plain ys-plain more-ends rest-ends e =
    let regrouped : doubled (x ∷ []) ++ (doubled xs ++ more) ≡ doubled (y ∷ []) ++ (doubled ys ++ rest) =
    sym (append_assoc (doubled (x ∷ [])) (doubled xs) more) ∙ ap (λ bytes. bytes ++ more) (sym (doubled-cons x xs)) ∙ e
    ∙ ap (λ bytes. bytes ++ rest) (doubled-cons y ys) ∙ append_assoc (doubled (y ∷ [])) (doubled ys) rest in
    let heads : (x ≡ y) × (doubled xs ++ more ≡ doubled ys ++ rest) = doubled-head x y _ _ regrouped in
    let tails : (xs ≡ ys) × (more ≡ rest) = inside-only xs ys more rest (both _ _ xs-plain).1 (both _ _ ys-plain).1 more-ends rest-ends heads.1 in
    let heads_same : x ≡ y = heads.0 in
    (ap (λ b. b ∷ xs) heads_same ∙ ap (λ bs. y ∷ bs) tails.0, tails.1)

undoubled-other : (b : ℕ) (bs : List ℕ) → is_quote b ≡ false → undoubled (b ∷ bs) ≡ b ∷ undoubled bs
undoubled-other b [] other = refl
undoubled-other b (c ∷ cs) other = rw other refl

undoubled-quote : (b c : ℕ) (bs : List ℕ) → is_quote b ≡ true → undoubled (b ∷ c ∷ bs) ≡ b ∷ undoubled bs
undoubled-quote b c bs quote = rw quote refl

pub undoubled-doubled : (bytes : List ℕ) → undoubled (doubled bytes) ≡ bytes
undoubled-doubled [] = refl
undoubled-doubled (b ∷ bs) =
    elim (is_quote b) as (λ q. is_quote b ≡ q → undoubled ((cond q (b ∷ b ∷ []) (b ∷ [])) ++ doubled bs) ≡ b ∷ bs) [
      | true ↦ λ quote. undoubled-quote b b (doubled bs) quote ∙ ap (λ rest. b ∷ rest) (undoubled-doubled bs)
      | false ↦ λ other. undoubled-other b (doubled bs) other ∙ ap (λ rest. b ∷ rest) (undoubled-doubled bs)
    ] refl

-- the inner bytes of a quoted text
pub inner-quoted : (bytes : List ℕ) → take (length (quoted bytes) - 2) (drop 1 (quoted bytes)) ≡ doubled bytes
inner-quoted bytes =
    let len : length (quoted bytes) - 2 ≡ length (doubled bytes) = simp length-append (omega arith) in
    rw (len, take-append_seam (doubled bytes) (39 ∷ []))

pub unquoted-quoted : (bytes : List ℕ) → unquoted (quoted bytes) ≡ bytes
unquoted-quoted bytes = rw (inner-quoted bytes) (undoubled-doubled bytes)

-- a quoted text is at most twice as long as what it stands for, and its two quotes
pub length-quoted-le : (bytes : List ℕ) → length (quoted bytes) ≤ 2 * length bytes + 2
length-quoted-le bytes = simp length-append (omega (arith, each bytes)) where
  each : (bytes : List ℕ) → length (doubled bytes) ≤ 2 * length bytes
  each [] = omega arith
  each (b ∷ bs) = elim (is_quote b) as (λ q. length (cond q (b ∷ b ∷ []) (b ∷ []) ++ doubled bs) ≤ 2 * length (b ∷ bs)) [
    | true ↦ omega (arith, each bs)
    | false ↦ omega (arith, each bs)
  ]
