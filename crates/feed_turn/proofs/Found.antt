-- What is found of the arguments of a turned reference.
use Rattle.std.proofs.Common.{◌≡◌, ap, ◌∙◌, sym, arith, refl, ℕ, zero, suc, ◌+◌, Option, Some, None, option_map, List, [], ◌∷◌, length}
use Rattle.std.specs.Prelude.{slice_get}
use Rattle.std.specs.Option.{option_or}
use Rattle.rule_laws.specs.declared.reference.Arg.{Arg}
use Rattle.feed_turn.specs.Turning.{Turn, way_back, first_way, all_found}

pub found-at : (xs : List (Option Arg)) (args : List Arg) (k : ℕ) (arg : Arg) → all_found xs ≡ Some args → slice_get args k ≡ Some arg → slice_get xs k ≡ Some (Some arg)
found-at [] args k arg is at = let same : [] ≡ args = cc in absurd (let none : slice_get {X = Arg} [] k ≡ Some arg = ap (λ (list : List Arg). slice_get list k) same ∙ at in cc)
found-at (None ∷ xs) args k arg is at = absurd (cc)
found-at (Some a ∷ xs) args k arg is at = by (λ list k e at. found-at xs list k arg e at) (all_found xs) refl is k at
  where
    by : ((list : List Arg) (k : ℕ) → all_found xs ≡ Some list → slice_get list k ≡ Some arg → slice_get xs k ≡ Some (Some arg))
        → (o : Option (List Arg)) → all_found xs ≡ o → option_map (λ rest. a ∷ rest) o ≡ Some args → (k : ℕ) → slice_get args k ≡ Some arg → slice_get (Some a ∷ xs) k ≡ Some (Some arg)
    by later None e is k at = absurd (cc)
    by later (Some list) e is zero at = let same : a ∷ list ≡ args = cc in let first : Some a ≡ Some arg = ap (λ (list : List Arg). slice_get list 0) same ∙ at in ap Some first
    by later (Some list) e is (suc k) at = let same : a ∷ list ≡ args = cc in later list k e (ap (λ (list : List Arg). slice_get list (suc k)) same ∙ at)

pub found-long : (xs : List (Option Arg)) (args : List Arg) → all_found xs ≡ Some args → length args ≡ length xs
found-long [] args is = let same : [] ≡ args = cc in ap length (sym same)
found-long (None ∷ xs) args is = absurd (cc)
found-long (Some a ∷ xs) args is = by (λ list e. found-long xs list e) (all_found xs) refl is
  where
    by : ((list : List Arg) → all_found xs ≡ Some list → length list ≡ length xs) → (o : Option (List Arg)) → all_found xs ≡ o → option_map (λ rest. a ∷ rest) o ≡ Some args → length args ≡ suc (length xs)
    by later None e is = absurd (cc)
    by later (Some list) e is = let same : a ∷ list ≡ args = cc in ap length (sym same) ∙ ap suc (later list e)

-- the way back that is found is by an argument
pub first-found : (turn : Turn) (i base : ℕ) (args : List Arg) (found : Arg) → first_way turn i base args ≡ Some found → (j : ℕ) × (arg : Arg) × (slice_get args j ≡ Some arg) × (way_back turn i (base + j) arg ≡ Some found)
first-found turn i base [] found h = absurd (cc)
first-found turn i base (a ∷ args) found h = by (way_back turn i base a) refl h (first-found turn i (suc base) args found)
  where
    by : (o : Option Arg) → way_back turn i base a ≡ o → option_or o (first_way turn i (suc base) args) ≡ Some found
        → (first_way turn i (suc base) args ≡ Some found → (j : ℕ) × (arg : Arg) × (slice_get args j ≡ Some arg) × (way_back turn i (suc base + j) arg ≡ Some found))
        → (j : ℕ) × (arg : Arg) × (slice_get (a ∷ args) j ≡ Some arg) × (way_back turn i (base + j) arg ≡ Some found)
    by (Some way) e h rest = (0, a, refl, ap (λ n. way_back turn i n a) (let e : base + 0 ≡ base = omega arith in e) ∙ e ∙ h)
    by None e h rest = let (j, arg, at, is) = rest h in (suc j, arg, at, ap (λ n. way_back turn i n arg) (let e : base + suc j ≡ suc base + j = omega arith in e) ∙ is)
