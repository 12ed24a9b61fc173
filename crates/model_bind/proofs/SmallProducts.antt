-- Weight products, cube by cube.
use Rattle.std.proofs.Common.{◌≡◌, ◌⊎◌, inl, inr, ℕ, ◌+◌, ◌<◌, ◌≤◌, min, Option, Some, None, Err, Ok, List, length, get_or, drop, ap, sym, ◌∙◌, subst, arith, cond}
use Rattle.std.specs.List.{range_with_len}
use Rattle.std.specs.Option.{option_or}
use Rattle.std.proofs.lemmas.Bool.{cases_lt, lt-ltb, le-ltb}
use Rattle.std.proofs.lemmas.List.FromFn.{length-range_with_len, get_or-range_with_len}
use Rattle.std.proofs.Math.Nat.{min-eq_left, min-eq_right}
use Rattle.cube_lex.specs.Positions.{nowhere}
use Rattle.cube_lex.specs.declared.position.Position.{Position}
use Rattle.cube_space.specs.Layout.{Layout}
use Rattle.rule_model.specs.Weights.{weight_product}
use Rattle.model_bind.specs.declared.fault.DeployFault.{DeployFault}
use Rattle.model_bind.specs.declared.fault.DeployCause.TheVariants as causes
use Rattle.model_bind.specs.Foundation.{refused_in_model, first_refusal, product_refusal, products_refusal, IsAnsweredBy}
use Rattle.model_bind.proofs.Firsts.{first-at, first-after, first-none}

-- what is held down below a top says which numbers below the top are passed
pub min-small : (w top m : ℕ) → m < top → min w top ≤ m → w ≤ m
min-small w top m low small = by (cases_lt top w)
  where
    by : (top < w) ⊎ (w ≤ top) → w ≤ m
    by (inl large) =
        let some : top ≤ w = omega arith in
        let e : min w top ≡ top = min-eq_right some in
        absurd (omega (arith, e, small, low))
    by (inr few) =
        let e : min w top ≡ w = min-eq_left few in
        omega (arith, e, small)

pub min-large : (w top m : ℕ) → m < min w top → m < w
min-large w top m large = by (cases_lt top w)
  where
    by : (top < w) ⊎ (w ≤ top) → m < w
    by (inl over) =
        let some : top ≤ w = omega arith in
        let e : min w top ≡ top = min-eq_right some in
        omega (arith, e, large, over)
    by (inr few) =
        let e : min w top ≡ w = min-eq_left few in
        omega (arith, e, large)

module _ (lines : List Position) (space : Layout) (cube : ℕ) where
  abbrev left : Option DeployFault
  left = first_refusal (product_refusal lines space) (drop (cube + 1) (range_with_len 0 (length space.cubes)))

  here : cube < length space.cubes → cube ≡ get_or (range_with_len 0 (length space.cubes)) cube cube
  here h = omega (arith, get_or-range_with_len 0 (length space.cubes) cube cube h)

  there : cube < length space.cubes → cube < length (range_with_len 0 (length space.cubes))
  there h = omega (arith, h, length-range_with_len 0 (length space.cubes))

  pub product-refused : (fault : DeployFault) → cube < length space.cubes → 1000000000 < weight_product space cube → fault ≡ refused_in_model (get_or lines cube nowhere) causes.WeightProduct
      → first_refusal (product_refusal lines space) (drop cube (range_with_len 0 (length space.cubes))) ≡ products_refusal lines space → IsAnsweredBy {T = Unit {0}} (products_refusal lines space) (Err fault)
  product-refused fault h big is before =
      let told : Option DeployFault = Some (refused_in_model (get_or lines cube nowhere) causes.WeightProduct) in
      let own : product_refusal lines space cube ≡ told = ap (λ b. cond b told None) (lt-ltb 1000000000 (weight_product space cube) big) in
      let whole = sym before ∙ first-at (product_refusal lines space) (range_with_len 0 (length space.cubes)) cube cube (there h) (here h) ∙ ap (λ o. option_or o left) own in
      let P : Option DeployFault → Type 0 = λ o. IsAnsweredBy {T = Unit {0}} o (Err fault) in
      subst P (sym whole) (inl is)

  pub product-passed : cube < length space.cubes → weight_product space cube ≤ 1000000000 → first_refusal (product_refusal lines space) (drop cube (range_with_len 0 (length space.cubes))) ≡ products_refusal lines space
      → first_refusal (product_refusal lines space) (drop (cube + 1) (range_with_len 0 (length space.cubes))) ≡ products_refusal lines space
  product-passed h small before =
      let told : Option DeployFault = Some (refused_in_model (get_or lines cube nowhere) causes.WeightProduct) in
      let none : product_refusal lines space cube ≡ None = ap (λ b. cond b told None) (le-ltb 1000000000 (weight_product space cube) small) in
      sym (first-after (product_refusal lines space) (range_with_len 0 (length space.cubes)) cube cube (there h) (here h) none) ∙ before

  pub products-passed : length space.cubes ≤ cube → first_refusal (product_refusal lines space) (drop cube (range_with_len 0 (length space.cubes))) ≡ products_refusal lines space
      → IsAnsweredBy {T = Unit {0}} (products_refusal lines space) (Ok tt)
  products-passed h before =
      let none = first-none (product_refusal lines space) (range_with_len 0 (length space.cubes)) cube (omega (arith, h, length-range_with_len 0 (length space.cubes))) in
      let P : Option DeployFault → Type 0 = λ o. IsAnsweredBy {T = Unit {0}} o (Ok tt) in
      subst P (sym none ∙ before) tt

  pub small-more : ((k : ℕ) → k < cube → weight_product space k ≤ 1000000000) → weight_product space cube ≤ 1000000000 → (k : ℕ) → k < cube + 1 → weight_product space k ≤ 1000000000
  small-more before last k h = by (cases_lt k cube)
    where
      by : (k < cube) ⊎ (cube ≤ k) → weight_product space k ≤ 1000000000
      by (inl low) = before k low
      by (inr high) =
          let same : cube ≡ k = omega (arith, h, high) in
          let P : ℕ → Type 0 = λ n. weight_product space n ≤ 1000000000 in
          subst P same last
