-- The least power of two that is at least a number within bounds.
use Rattle.std.proofs.Common.{◌≡◌, ℕ, suc, ◌*◌, ◌/◌, ◌<◌, ◌≤◌, ◌^◌, ◌⊎◌, inl, inr, ltb, Bool, true, false, sym, refl, subst, arith, max, min, pow-suc, pow_mono}
use Rattle.std.proofs.lemmas.Bool.{ltb-true, ltb-false}
use Rattle.cell_reader.specs.Slots.{max_slots, min_slots}

-- it is no more than a power of two that is no less than the number
no-more : (n k r w : ℕ) → r ≡ 2 ^ k → r / 2 < max 1 w → w ≤ 2 ^ n → 1 ≤ 2 ^ n → r ≤ 2 ^ n
no-more n k r w is half most one = by (ltb n k) refl
  where
    by : (b : Bool) → ltb n k ≡ b → r ≤ 2 ^ n
    by true more =
        let large : 2 ^ suc n ≤ 2 ^ k = pow_mono (ltb-true n k more) in
        let x : ℕ = 2 ^ n in
        let twice : 2 ^ suc n ≡ x * 2 = pow-suc 2 n in
        absurd (omega (arith, large, is, half, most, one, twice))
    by false other = let few : k ≤ n = ltb-false n k other in subst (λ (y : ℕ). y ≤ 2 ^ n) (sym is) (pow_mono few)

module _ (q k r w : ℕ) (is : r ≡ 2 ^ k) (least : w ≤ r) (half : r / 2 < max 1 w) (wanted : w ≡ max 4096 (min q 262144)) where
  pub most : r ≤ max_slots
  most = no-more 18 k r w is half (omega (arith, wanted)) (omega arith)

  pub enough : (q ≤ r) ⊎ (r ≡ max_slots)
  enough = by (ltb 262144 q) refl
    where
      by : (b : Bool) → ltb 262144 q ≡ b → (q ≤ r) ⊎ (r ≡ max_slots)
      by true more = let above = ltb-true 262144 q more in let below : r ≤ 262144 = most in inr (omega (arith, above, wanted, least, below))
      by false other = let few = ltb-false 262144 q other in inl (omega (arith, few, wanted, least))

  pub few : (r ≡ min_slots) ⊎ (r / 2 < q)
  few = by (ltb 4096 q) refl
    where
      by : (b : Bool) → ltb 4096 q ≡ b → (r ≡ min_slots) ⊎ (r / 2 < q)
      by true more = let above = ltb-true 4096 q more in inr (omega (arith, above, wanted, half))
      by false other =
          let small = ltb-false 4096 q other in
          let here : w ≡ 4096 = omega (arith, small, wanted) in
          let below : r ≤ 4096 = no-more 12 k r w is half (omega (arith, here)) (omega arith) in
          inl (omega (arith, here, least, below))
