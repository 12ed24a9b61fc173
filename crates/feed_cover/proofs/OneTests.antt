-- What is remembered of elements whose leaves are all sent to one.
use Rattle.std.proofs.Common.{◌≡◌, refl, ap, ◌∙◌, arith, ℕ, zero, suc, ◌<◌, Bool, true, false, ◌&&◌, Option, Some, None, ℤ, pos, List, [], ◌∷◌, length, get_or}
use Rattle.std.proofs.Math.ListN.{replicate}
use Rattle.std.proofs.Math.Bool.{and-true}
use Rattle.std.specs.Prelude.{slice_get}
use Rattle.std.specs.List.{list_all}
use Rattle.std.specs.Option.{option_map_or}
use Rattle.cover_laws.specs.Looking.{sent}
use Rattle.feed_cover.specs.declared.overs.OneOver.{OneOver}

pub nothing-kept : (n k : ℕ) (known : OneOver) → slice_get (replicate {A = Option OneOver} n None) k ≡ Some (Some known) → ⊥
nothing-kept zero k known at = cc
nothing-kept (suc n) zero known at = cc
nothing-kept (suc n) (suc k) known at = nothing-kept n k known at

-- where each leaf is sent to one element, what passes from each is what it passes
pub one-test : (to : List (Option ℕ)) (over : ℕ) (test : ℕ → Bool) (pairs : List (ℕ × ℤ)) → 0 < length pairs → ((i : ℕ) → i < length pairs → sent to (get_or {A = ℕ × ℤ} pairs i (0, pos 0)).0 ≡ Some over)
    → list_all (λ pair. option_map_or test (sent to pair.0) false) pairs ≡ test over
one-test to over test [] some h = absurd (omega (arith, some))
one-test to over test (p ∷ []) some h = ap (λ o. option_map_or test o false && true) (h 0 (omega arith)) ∙ and-true (test over)
one-test to over test (p ∷ q ∷ ps) some h =
    ap (λ o. option_map_or test o false && list_all (λ (pair : ℕ × ℤ). option_map_or test (sent to pair.0) false) (q ∷ ps)) (h 0 (omega arith))
    ∙ ap (λ t. test over && t) (one-test to over test (q ∷ ps) (omega arith) (λ i low. h (suc i) (omega (arith, low)))) ∙ both (test over)
  where
    both : (t : Bool) → t && t ≡ t
    both true = refl
    both false = refl
