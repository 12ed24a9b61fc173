-- The longest sign that a text begins with is the first that fits of a table with longer ones first.
use Rattle.std.proofs.Common.{◌≡◌, ℕ, zero, suc, ◌≤◌, Bool, true, false, cond, ◌&&◌, List, [], ◌∷◌, ◌++◌, length, map, take, drop, refl, sym, ap, ◌∙◌, nat_le, nat_eq, Some, None, arith, length-append, inl, inr, ◌⊎◌, Bor}
use Rattle.std.proofs.Math.Seq.{take-append_seam}
use Rattle.std.proofs.lemmas.Bool.{leb-true}
use Rattle.std.proofs.lemmas.Bool.Decides.{Decides-eqb}
use Rattle.std.proofs.lemmas.List.Sums.{AllPass-from_list_all}
use Rattle.std.proofs.lemmas.Slice.Eq.{starts_is}
use Rattle.std.specs.List.{list_all, find, starts_with, Contains}
use Rattle.std.specs.Option.{option_map}
use Rattle.cube_lex.specs.Inside.Front.{IsSignLen}
use Rattle.cube_lex.specs.Parts.{signs}
use Rattle.cube_lex.proofs.Runs.{both}

-- longer ones come first
abbrev pub falls : List (List ℕ) → Bool
falls [] = true
falls (x ∷ xs) = list_all (λ y. nat_le (length y) (length x)) xs && falls xs

-- what all of a table pass
pub contains-passes : (test : List ℕ → Bool) (table : List (List ℕ)) (x : List ℕ) → list_all test table ≡ true → Contains table x → test x ≡ true
contains-passes test table x all is_in = rw is_in.2 at (AllPass-from_list_all test table all is_in.0 x is_in.1)

contains-cases : (x y : List ℕ) (xs : List (List ℕ)) → Contains (x ∷ xs) y → (x ≡ y) ⊎ Contains xs y
contains-cases x y xs (zero, within, is) = inl is
contains-cases x y xs (suc k, within, is) = inr (k, omega arith, is)

fits-front : (bytes sign : List ℕ) → starts_with nat_eq bytes sign ≡ true → bytes ≡ sign ++ drop (length sign) bytes
fits-front bytes sign = (starts_is Decides-eqb bytes sign (starts_with nat_eq bytes sign) refl).0

front-fits : (bytes sign rest : List ℕ) → bytes ≡ sign ++ rest → starts_with nat_eq bytes sign ≡ true
front-fits bytes sign = (starts_is Decides-eqb bytes sign (starts_with nat_eq bytes sign) refl).1

-- the first that fits is in the table, and no longer one of it fits
first-longest : (bytes : List ℕ) (table : List (List ℕ)) (sign : List ℕ) → falls table ≡ true → find (λ s. starts_with nat_eq bytes s) table ≡ Some sign
    → (bytes ≡ sign ++ drop (length sign) bytes) × Contains table sign
    × ((longer more : List ℕ) → Contains table longer → longer ++ more ≡ bytes → length longer ≤ length sign)
first-longest bytes [] sign sorted = λ found. absurd (cc)
first-longest bytes (x ∷ xs) sign sorted =
    elim (starts_with nat_eq bytes x) as (λ b. starts_with nat_eq bytes x ≡ b → cond b (Some x) (find (λ s. starts_with nat_eq bytes s) xs) ≡ Some sign
    → (bytes ≡ sign ++ drop (length sign) bytes) × Contains (x ∷ xs) sign
    × ((longer more : List ℕ) → Contains (x ∷ xs) longer → longer ++ more ≡ bytes → length longer ≤ length sign)) [
      | true ↦ λ fits found.
          let same : x ≡ sign = cc in (
            rw same at (fits-front bytes x fits),
            (0, omega arith, same),
            λ longer more is_in e. elim (contains-cases x longer xs is_in) [
              | inl itself ↦ omega (arith, ap length itself, ap length same)
              | inr later ↦
                  let shorter : length longer ≤ length x = leb-true _ _ (contains-passes (λ y. nat_le (length y) (length x)) xs longer (both _ _ sorted).0 later) in
                  omega (arith, shorter, ap length same)
            ],
          )
      | false ↦ λ fails found.
          let below = first-longest bytes xs sign (both (list_all (λ y. nat_le (length y) (length x)) xs) (falls xs) sorted).1 found in (
            below.0,
            (suc below.1.0, omega (arith, below.1.1), below.1.2),
            λ longer more is_in e. elim (contains-cases x longer xs is_in) [
              | inl itself ↦ cc (front-fits bytes x more (sym e ∙ ap (λ l. l ++ more) (sym itself)))
              | inr later ↦ below.2 longer more later e
            ],
          )
    ] refl

-- where none fits, the bytes begin with none
first-none : (bytes : List ℕ) (table : List (List ℕ)) → find (λ s. starts_with nat_eq bytes s) table ≡ None → (sign after : List ℕ) → Contains table sign → bytes ≡ sign ++ after → ⊥
first-none bytes [] = λ found sign after is_in e. omega (arith, is_in.1)
first-none bytes (x ∷ xs) =
    elim (starts_with nat_eq bytes x) as (λ b. starts_with nat_eq bytes x ≡ b → cond b (Some x) (find (λ s. starts_with nat_eq bytes s) xs) ≡ None
    → (sign after : List ℕ) → Contains (x ∷ xs) sign → bytes ≡ sign ++ after → ⊥) [
      | true ↦ λ fits found. absurd (cc)
      | false ↦ λ fails found sign after is_in e. elim (contains-cases x sign xs is_in) [
        | inl itself ↦ cc (front-fits bytes x after (e ∙ ap (λ s. s ++ after) (sym itself)))
        | inr later ↦ first-none bytes xs found sign after later e
      ]
    ] refl

-- a table of references, as the list of what they point to
find-now : (test : List ℕ → Bool) (table : List (Bor (List ℕ))) → option_map (λ (s : Bor (List ℕ)). s.now) (find (λ (s : Bor (List ℕ)). test s.now) table) ≡ find test (map (λ (s : Bor (List ℕ)). s.now) table)
find-now test [] = refl
find-now test (x ∷ xs) =
    elim (test x.now) as (λ b. option_map (λ (s : Bor (List ℕ)). s.now) (cond b (Some x) (find (λ (s : Bor (List ℕ)). test s.now) xs)) ≡ cond b (Some x.now) (find test (map (λ (s : Bor (List ℕ)). s.now) xs))) [
      | true ↦ refl
      | false ↦ find-now test xs
    ]

pub sign-found : (bytes : List ℕ) (table : List (Bor (List ℕ))) (sign : Bor (List ℕ)) → map (λ (s : Bor (List ℕ)). s.now) table ≡ signs
    → Some sign ≡ find (λ (s : Bor (List ℕ)). starts_with nat_eq bytes s.now) table → IsSignLen bytes (Some (length sign.now))
sign-found bytes table sign table-is found =
    let there : find (λ s. starts_with nat_eq bytes s) signs ≡ Some sign.now =
    ap (find (λ s. starts_with nat_eq bytes s)) (sym table-is) ∙ sym (find-now (λ s. starts_with nat_eq bytes s) table) ∙ ap (option_map (λ (s : Bor (List ℕ)). s.now)) (sym found) in
    let first = first-longest bytes signs sign.now refl there in
    let within : length sign.now ≤ length bytes = omega (arith, ap length first.0, length-append sign.now (drop (length sign.now) bytes)) in
    let front : take (length sign.now) bytes ≡ sign.now = ap (λ bs. take (length sign.now) bs) first.0 ∙ take-append_seam sign.now (drop (length sign.now) bytes) in
    (within, rw front (first.1, λ longer more is_in e. first.2 longer more is_in (e ∙ sym first.0)))

pub sign-none : (bytes : List ℕ) (table : List (Bor (List ℕ))) → map (λ (s : Bor (List ℕ)). s.now) table ≡ signs
    → None ≡ find (λ (s : Bor (List ℕ)). starts_with nat_eq bytes s.now) table → IsSignLen bytes None
sign-none bytes table table-is found =
    first-none bytes signs (ap (find (λ s. starts_with nat_eq bytes s)) (sym table-is) ∙ sym (find-now (λ s. starts_with nat_eq bytes s) table) ∙ ap (option_map (λ (s : Bor (List ℕ)). s.now)) (sym found))
