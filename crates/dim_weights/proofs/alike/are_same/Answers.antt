use Rattle.std.proofs.Common.{◌≡◌, ◌&&◌, ap, ℕ, ℤ, eqb}
use Rattle.std.specs.Bool.{Decides}
use Rattle.std.specs.Ordering.{int_eq}
use Rattle.std.proofs.lemmas.Bool.Decides.{Decides-like, Decides-and, Decides-eqb, Decides-int_eq}
use Rattle.std.proofs.lemmas.Slice.Eq.{slice_eq-Decides}
use Rattle.dim_weights.proofs.alike.are_same.Goals as goal

parts-decide : (a b : ℕ × ℤ) → Decides (eqb a.0 b.0 && int_eq a.1 b.1) (a ≡ b)
parts-decide a b =
    Decides-like (eqb a.0 b.0 && int_eq a.1 b.1) (λ h i. (h.0 i, h.1 i)) (λ e. (ap (λ (p : ℕ × ℤ). p.0) e, ap (λ (p : ℕ × ℤ). p.1) e))
    (Decides-and (eqb a.0 b.0) (int_eq a.1 b.1) (Decides-eqb a.0 b.0) (Decides-int_eq a.1 b.1))

pub returns-then-not-is_empty-clause-same : goal.returns-then-not-is_empty-clause-same
returns-then-not-is_empty-clause-same c = (slice_eq-Decides parts-decide c.args.first.now c.args.second.now c.eq.result c.eq.ensures).0
