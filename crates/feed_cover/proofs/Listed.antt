-- A binary search in a rising list tells whether an element is listed.
use Rattle.std.proofs.Common.{◌≡◌, arith, subst, ℕ, zero, suc, ◌+◌, ◌<◌, ◌≤◌, List, length, get_or}
use Rattle.std.specs.List.Sorted.{IsStrictlyIncreasing}
pub use Rattle.rule_model.proofs.Statements.{listed_by as found-listed}

rises : (xs : List ℕ) → IsStrictlyIncreasing xs → (i j more : ℕ) → i + more ≡ j → j < length xs → get_or xs i 0 ≤ get_or xs j 0
rises xs up i j zero e within = let same : i ≡ j = omega (arith, e) in subst (λ k. get_or xs i 0 ≤ get_or xs k 0) same (omega arith)
rises xs up i j (suc more) e within =
    let next : i + more + 1 ≡ j = omega (arith, e) in
    subst (λ k. get_or xs i 0 ≤ get_or xs k 0) next (omega (arith, rises xs up i (i + more) more (omega arith) (omega (arith, next, within)), up (i + more) (omega (arith, next, within))))
