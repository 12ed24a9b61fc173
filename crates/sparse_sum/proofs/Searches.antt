-- The search for the first number that counts, at the first of some dimensions.
use Rattle.std.proofs.Common.{◌≡◌, ◌≢◌, ◌∙◌, refl, sym, ap, subst, arith, ℕ, zero, suc, ◌+◌, ◌*◌, ◌/◌, ◌%◌, ◌<◌, ◌≤◌, true, ℤ, pos, ◌*ℤ◌, unsigned_abs, List, ◌∷◌, length, map, get_or, Option, Some, None, MatchOption, IfSome, is_some, false}
use Rattle.std.specs.Option.{option_map}
use Rattle.std.proofs.Math.Nat.{mul-le-mul}
use Rattle.std.proofs.lemmas.Nat.{mul-add-lt, div_below, mod_below, div-add-mod'}
use Rattle.dim_core.specs.Outline.{Outline}
use Rattle.dim_weights.specs.Coefficients.{coef}
use Rattle.cube_space.specs.Layout.{axes_of, sizes_of}
use Rattle.cube_space.specs.Radix.{product}
use Rattle.rule_model.specs.Weights.{greatest_coef}
use Rattle.sparse_sum.specs.Inside.First.{IsClear, IsFirst}
use Rattle.sparse_sum.specs.Inside.Numbers.{weight_at}
use Rattle.sparse_sum.proofs.Firsts.{by_rows, IsRowClear, row-none, row-past, rows-clear, all-clear, first-in, size_positive}
use Rattle.sparse_sum.proofs.Heads.{IsHead, both-size}

-- the same of another function with the same values
clear-like : (f g : ℕ → ℤ) (from end : ℕ) → ((n : ℕ) → g n ≡ f n) → IsClear f from end → IsClear g from end
clear-like f g from end same clear n low less = same n ∙ clear n low less

first-like : (f g : ℕ → ℤ) (end from : ℕ) (found : ℕ × ℤ) → ((n : ℕ) → g n ≡ f n) → IsFirst f end from found → IsFirst g end from found
first-like f g end from found same first =
    record {
      least = first.least;
      within = first.within;
      own = same found.0 ∙ first.own;
      counts = first.counts;
      clear = λ n low less. same n ∙ first.clear n low less;
    }

pub positive-right : (size worth n : ℕ) → n < size * worth → 0 < worth
positive-right size zero n less = absurd (omega (arith, less))
positive-right size (suc worth) n less = omega arith

pub positive-left : (size worth n : ℕ) → n < size * worth → 0 < size
positive-left zero worth n less = absurd (omega (arith, less))
positive-left (suc size) worth n less = omega arith

-- what is found in a row, as a whole
abbrev pub join : ℕ × ℤ → ℕ → Option (ℕ × ℤ) → Option (ℕ × ℤ)
join row worth found = option_map (λ one. (row.0 * worth + one.0, row.1 *ℤ one.1)) found

-- what is known where the first of some dimensions is searched
pub record IsNode (D : List Outline) (W : List (List (List (ℕ × ℤ)))) (dims at ks es : List ℕ) (cells from worth : ℕ) : Type 0 where
  pub h : IsHead D W dims at ks es
  pub worth_is : worth ≡ product (sizes_of (axes_of D ks))
  pub whole : cells ≡ product (sizes_of (axes_of D dims))
  pub low : from < cells

module _ {D : List Outline} {W : List (List (List (ℕ × ℤ)))} {dims at ks es : List ℕ} {cells from worth : ℕ} (node : IsNode D W dims at ks es cells from worth) where
  abbrev h : IsHead D W dims at ks es
  h = node.h

  abbrev pub size : ℕ
  size = length h.d.elements

  abbrev c : ℕ → ℤ
  c = coef h.d (get_or at 0 0)

  abbrev v : ℕ → ℤ
  v = weight_at (axes_of D ks) es

  abbrev w : ℕ → ℤ
  w = weight_at (axes_of D dims) at

  pub cells-are : cells ≡ size * worth
  cells-are = node.whole ∙ ap (λ (ds : List Outline). product (sizes_of ds)) h.axes ∙ ap (λ (n : ℕ). size * n) (sym node.worth_is)

  w-is : (n : ℕ) → w n ≡ by_rows c v worth n
  w-is n = ap (λ (ds : List Outline). weight_at ds at n) h.axes ∙ ap (λ (xs : List ℕ). weight_at (h.d ∷ axes_of D ks) xs n) h.split ∙ ap (λ (m : ℕ). by_rows c v m n) (sym node.worth_is)

  pub some : 0 < worth
  some = positive-right size worth from (omega (arith, node.low, cells-are))

  pub filled : 0 < size
  filled = positive-left size worth from (omega (arith, node.low, cells-are))

  pub digit-low : from / worth < size
  digit-low = div_below from worth size some (omega (arith, node.low, cells-are))

  pub rest-low : from % worth < worth
  rest-low = mod_below from worth some

  clear-all : (p : ℕ) → p ≡ size → IsClear (by_rows c v worth) from (p * worth) → IsClear w from cells
  clear-all p is clear n begin less = w-is n ∙ clear n begin (let e : p * worth ≡ size * worth = ap (λ k. k * worth) is in omega (arith, less, cells-are, e))

  -- no row is left
  pub no-row : IsClear c (from / worth) size → IsClear w from cells
  no-row clear =
      clear-all size refl (rows-clear c v size worth some from size (row-none c v size worth some from (clear (from / worth) (omega arith) digit-low)) (λ n begin less. clear n (omega (arith, begin)) less))

  pub no-later-row : IsClear v (from % worth) worth → IsClear c (from / worth + 1) size → IsClear w from cells
  no-later-row past clear =
      clear-all size refl (rows-clear c v size worth some from size (row-past c v size worth some from past) clear)

  -- no row has anything
  pub nothing : IsClear v 0 worth → IsClear w from cells
  nothing clear n begin less = w-is n ∙ all-clear c v size worth some clear from (suc n) n begin (omega arith)

  -- the first of a row
  in-row : (row : ℕ × ℤ) (s : ℕ) (found : ℕ × ℤ) → c row.0 ≡ row.1 → row.1 ≢ pos 0 → row.0 < size → from ≤ row.0 * worth + s → IsClear (by_rows c v worth) from (row.0 * worth + s)
      → IsFirst v worth s found → IsFirst w cells from (row.0 * worth + found.0, row.1 *ℤ found.1)
  in-row row s found own counts within begin clear first =
      subst (λ (n : ℕ). IsFirst w n from (row.0 * worth + found.0, row.1 *ℤ found.1)) (sym cells-are)
      (first-like (by_rows c v worth) w (size * worth) from (row.0 * worth + found.0, row.1 *ℤ found.1) w-is
      (first-in c v size worth some from row.0 s row.1 found own counts within begin clear first))

  -- the first of a later row
  of-later : (row : ℕ × ℤ) → IsRowClear c v size worth some from → from / worth < row.0 → IsClear c (from / worth + 1) row.0 → c row.0 ≡ row.1 → row.1 ≢ pos 0 → row.0 < size
      → (found : Option (ℕ × ℤ)) → MatchOption found (IsClear v 0 worth) (λ one. IsFirst v worth 0 one) → MatchOption (join row worth found) (IsClear w from cells) (λ one. IsFirst w cells from one)
  of-later row past above clear own counts within None none = nothing none
  of-later row past above clear own counts within (Some one) first =
      let before = rows-clear c v size worth some from row.0 past clear in
      let begin = div-add-mod' from worth in
      let short = rest-low in
      let more : (from / worth + 1) * worth ≤ row.0 * worth = mul-le-mul (omega (arith, above)) (omega arith) in
      in-row row 0 one own counts within (omega (arith, begin, short, more)) (λ n low less. before n low (omega (arith, less))) first

  pub later-row : (row : ℕ × ℤ) → IsFirst c size (from / worth) row → from / worth < row.0
      → (found : Option (ℕ × ℤ)) → MatchOption found (IsClear v 0 worth) (λ one. IsFirst v worth 0 one) → MatchOption (join row worth found) (IsClear w from cells) (λ one. IsFirst w cells from one)
  later-row row first above found is =
      of-later row (row-none c v size worth some from (first.clear (from / worth) (omega arith) above)) above (λ n begin less. first.clear n (omega (arith, begin)) less) first.own first.counts first.within found is

  pub next-row : (row : ℕ × ℤ) → IsClear v (from % worth) worth → IsFirst c size (from / worth + 1) row
      → (found : Option (ℕ × ℤ)) → MatchOption found (IsClear v 0 worth) (λ one. IsFirst v worth 0 one) → MatchOption (join row worth found) (IsClear w from cells) (λ one. IsFirst w cells from one)
  next-row row past first found is =
      let least = first.least in
      of-later row (row-past c v size worth some from past) (omega (arith, least)) first.clear first.own first.counts first.within found is

  -- the first of the number's own row
  pub own-row : (row : ℕ × ℤ) → IsFirst c size (from / worth) row → row.0 ≤ from / worth → (one : ℕ × ℤ) → IsFirst v worth (from % worth) one
      → IsFirst w cells from (row.0 * worth + one.0, row.1 *ℤ one.1)
  own-row row first upto one found =
      let least = first.least in
      let same : row.0 ≡ from / worth = omega (arith, least, upto) in
      let begin = div-add-mod' from worth in
      let e : row.0 * worth + from % worth ≡ from = (let k : row.0 * worth ≡ from / worth * worth = ap (λ (n : ℕ). n * worth) same in omega (arith, k, begin)) in
      in-row row (from % worth) one first.own first.counts first.within (omega (arith, e)) (λ n low less. absurd (omega (arith, low, less, e))) found

  -- ---- sizes

  pub greatest-is : product (map greatest_coef (axes_of D dims)) ≡ greatest_coef h.d * product (map greatest_coef (axes_of D ks))
  greatest-is = ap (λ (ds : List Outline). product (map greatest_coef ds)) h.axes

  pub others-small : (row : ℕ × ℤ) (most : ℕ) → product (map greatest_coef (axes_of D dims)) ≤ most → unsigned_abs row.1 ≤ greatest_coef h.d → row.1 ≢ pos 0 → product (map greatest_coef (axes_of D ks)) ≤ most
  others-small row most small fits counts =
      let one = size_positive row.1 counts in
      let rest : ℕ = product (map greatest_coef (axes_of D ks)) in
      let k : 1 * rest ≤ greatest_coef h.d * rest = mul-le-mul (omega (arith, one, fits)) (omega arith) in
      omega (arith, small, greatest-is, k)

  pub join-size : (row : ℕ × ℤ) → unsigned_abs row.1 ≤ greatest_coef h.d → (found : Option (ℕ × ℤ)) → IfSome found (λ one. unsigned_abs one.1 ≤ product (map greatest_coef (axes_of D ks)))
      → IfSome (join row worth found) (λ one. unsigned_abs one.1 ≤ product (map greatest_coef (axes_of D dims)))
  join-size row fits None small = tt
  join-size row fits (Some one) small =
      let both = both-size row.1 one.1 (greatest_coef h.d) (product (map greatest_coef (axes_of D ks))) fits small in
      omega (arith, both, greatest-is)

  pub join-fits : (row : ℕ × ℤ) (most : ℕ) → product (map greatest_coef (axes_of D dims)) ≤ most → unsigned_abs row.1 ≤ greatest_coef h.d → (found : Option (ℕ × ℤ)) → IfSome found (λ one. unsigned_abs one.1 ≤ product (map greatest_coef (axes_of D ks)))
      → IfSome found (λ one. unsigned_abs (row.1 *ℤ one.1) ≤ most)
  join-fits row most small fits None bound = tt
  join-fits row most small fits (Some one) bound =
      let both = both-size row.1 one.1 (greatest_coef h.d) (product (map greatest_coef (axes_of D ks))) fits bound in
      omega (arith, both, greatest-is, small)

  pub join-room : (row : ℕ × ℤ) (s top : ℕ) → row.0 < size → cells < top → (found : Option (ℕ × ℤ)) → MatchOption found (IsClear v s worth) (λ one. IsFirst v worth s one) → IfSome found (λ one. row.0 * worth + one.0 < top)
  join-room row s top within under None none = tt
  join-room row s top within under (Some one) first =
      let inside = mul-add-lt row.0 worth one.0 size within first.within in
      omega (arith, inside, under, cells-are)

  -- ---- by what was found

  pub own-rows : (row : ℕ × ℤ) → IsFirst c size (from / worth) row → row.0 ≤ from / worth → (found : Option (ℕ × ℤ)) → is_some found ≡ true
      → MatchOption found (IsClear v (from % worth) worth) (λ one. IsFirst v worth (from % worth) one) → MatchOption (join row worth found) (IsClear w from cells) (λ one. IsFirst w cells from one)
  own-rows row first upto None on is = absurd (cc)
  own-rows row first upto (Some one) on is = own-row row first upto one is

  pub past-none : (found : Option (ℕ × ℤ)) → is_some found ≡ false → MatchOption found (IsClear v (from % worth) worth) (λ one. IsFirst v worth (from % worth) one) → IsClear v (from % worth) worth
  past-none None off is = is
  past-none (Some one) off is = absurd (cc)

  pub nothing-from : from % worth ≡ 0 → IsClear v (from % worth) worth → IsClear w from cells
  nothing-from none clear = nothing (λ n low less. clear n (omega (arith, none)) less)
