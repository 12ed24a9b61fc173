-- The kind of what is read, by flags of the elements from which it is: it is a leaf cell just where the fixed arguments
-- name leaves alone and each flag is set.
use Rattle.std.proofs.Common.{◌≡◌, refl, sym, ap, ◌∙◌, arith, subst, ℕ, suc, ◌+◌, ◌<◌, Bool, true, false, not, ◌&&◌, ◌||◌, Some, None, List, [], ◌∷◌, length, get_or, if◌then◌else◌}
use Rattle.std.proofs.lemmas.Bool.{and_parts, and_from}
use Rattle.rule_model.specs.BoundModel.{BoundModel}
use Rattle.order_laws.proofs.SumFacts.{all_from}
use Rattle.cover_laws.proofs.Pairs.{all-at, all-of}
use Rattle.arrow_laws.specs.Nodes.{has_kinds, node_kind, has_nodes, kind_in}
use Rattle.arrow_laws.specs.ByDimension.{admits, asks_total}

-- one of the first elements passes
abbrev pub Has : ℕ → (ℕ → ℕ → Bool) → List ℕ → Type 0
Has count test es = (k : ℕ) × (k < count) × (test k (get_or es k 0) ≡ true)

-- where not all pass, one fails
failing-from : (test : ℕ → ℕ → Bool) (base : ℕ) (es : List ℕ) → all_from test base es ≡ false → (k : ℕ) × (k < length es) × (not (test (base + k) (get_or es k 0)) ≡ true)
failing-from test base [] h = absurd (cc)
failing-from test base (e ∷ es) h = by (test base e) refl h (failing-from test (suc base) es)
  where
    by : (t : Bool) → test base e ≡ t → t && all_from test (suc base) es ≡ false
        → (all_from test (suc base) es ≡ false → (k : ℕ) × (k < length es) × (not (test (suc base + k) (get_or es k 0)) ≡ true))
        → (k : ℕ) × (k < length (e ∷ es)) × (not (test (base + k) (get_or (e ∷ es) k 0)) ≡ true)
    by true is h rest =
        let (k, low, fails) = rest h in
        let on : (suc base + k) ≡ (base + suc k) = omega arith in
        (suc k, omega (arith, low), subst (λ n. not (test n (get_or es k 0)) ≡ true) on fails)
    by false is h rest = let own : base ≡ base + 0 = omega arith in (0, omega arith, subst (λ n. not (test n e) ≡ true) own (ap not is))

failing : (test : ℕ → ℕ → Bool) (es : List ℕ) → all_from test 0 es ≡ false → Has (length es) (λ i e. not (test i e)) es
failing test es h =
    let (k, low, fails) = failing-from test 0 es h in
    let own : 0 + k ≡ k = omega arith in
    (k, low, subst (λ n. not (test n (get_or es k 0)) ≡ true) own fails)

-- where one fails, not all pass
not-all : (test : ℕ → ℕ → Bool) (es : List ℕ) → Has (length es) (λ i e. not (test i e)) es → all_from test 0 es ≡ false
not-all test es (k, low, fails) = by (all_from test 0 es) refl
  where
    by : (t : Bool) → all_from test 0 es ≡ t → t ≡ false
    by true is = absurd (let clash : not true ≡ true = ap not (sym (all-at test es is k low)) ∙ fails in cc)
    by false is = refl

-- what is read has a node
pub node-there : (m : BoundModel) (cube : ℕ) (leaf : Bool) → has_nodes m cube (node_kind m cube leaf) ≡ true
node-there m cube leaf = by (has_kinds m cube) leaf
  where
    by : (h l : Bool) → (l || not h) || h ≡ true
    by h true = refl
    by true false = refl
    by false false = refl

module _ (m : BoundModel) (cube : ℕ) (flags : ℕ → ℕ → Bool) (es : List ℕ) (fixed leaf : Bool) (is : fixed && all_from flags 0 es ≡ leaf) where
  -- what is read is admitted with each of these
  pub fixed-admits : admits (kind_in m cube (node_kind m cube leaf)) fixed ≡ true
  fixed-admits = by (has_kinds m cube) leaf is
    where
      by : (h l : Bool) → fixed && all_from flags 0 es ≡ l → admits (if h then Some (l || not h) else None) fixed ≡ true
      by false l is = refl
      by true true is = (and_parts fixed (all_from flags 0 es) is).0
      by true false is = refl

  pub each-admits : (i : ℕ) → i < length es → admits (kind_in m cube (node_kind m cube leaf)) (flags i (get_or es i 0)) ≡ true
  each-admits i low = by (has_kinds m cube) leaf is
    where
      by : (h l : Bool) → fixed && all_from flags 0 es ≡ l → admits (if h then Some (l || not h) else None) (flags i (get_or es i 0)) ≡ true
      by false l is = refl
      by true true is = all-at flags es (and_parts fixed (all_from flags 0 es) is).1 i low
      by true false is = refl

  -- and where a total is asked, one is not a leaf
  pub one-fails : asks_total (kind_in m cube (node_kind m cube leaf)) fixed ≡ true → Has (length es) (λ i e. not (flags i e)) es
  one-fails = by (has_kinds m cube) leaf is
    where
      by : (h l : Bool) → fixed && all_from flags 0 es ≡ l → asks_total (if h then Some (l || not h) else None) fixed ≡ true → Has (length es) (λ i e. not (flags i e)) es
      by false l is asks = absurd (cc)
      by true true is asks = absurd (cc)
      by true false is asks = failing flags es (ap (λ f. f && all_from flags 0 es) (sym asks) ∙ is)

  -- and back
  pub kind-is : (k : Bool) → has_nodes m cube k ≡ true → admits (kind_in m cube k) fixed ≡ true → ((i : ℕ) → i < length es → admits (kind_in m cube k) (flags i (get_or es i 0)) ≡ true)
      → (asks_total (kind_in m cube k) fixed ≡ true → Has (length es) (λ i e. not (flags i e)) es) → node_kind m cube leaf ≡ k
  kind-is k = by (has_kinds m cube) k
    where
      always : (l : Bool) → l || true ≡ true
      always true = refl
      always false = refl

      total : (f : Bool) → fixed ≡ f → (f ≡ true → Has (length es) (λ i e. not (flags i e)) es) → leaf ≡ false
      total true at has = sym is ∙ ap (λ f. f && all_from flags 0 es) at ∙ not-all flags es (has refl)
      total false at has = sym is ∙ ap (λ f. f && all_from flags 0 es) at

      by : (h k : Bool) → k || h ≡ true → admits (if h then Some k else None) fixed ≡ true → ((i : ℕ) → i < length es → admits (if h then Some k else None) (flags i (get_or es i 0)) ≡ true)
          → (asks_total (if h then Some k else None) fixed ≡ true → Has (length es) (λ i e. not (flags i e)) es) → leaf || not h ≡ k
      by false true nodes own each has = always leaf
      by false false nodes own each has = absurd (cc)
      by true true nodes own each has = ap (λ l. l || false) (sym is ∙ and_from fixed (all_from flags 0 es) own (all-of flags es each))
      by true false nodes own each has = ap (λ l. l || false) (total fixed refl (λ f. has f))
