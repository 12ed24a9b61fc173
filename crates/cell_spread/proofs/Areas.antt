-- Areas and the leaves that count, dimension by dimension.
use Rattle.std.proofs.Common.{◌≡◌, refl, sym, ap, ◌∙◌, subst, arith, ℕ, zero, suc, ◌+◌, ◌<◌, ◌≤◌, inl, inr, Bool, true, false, not, ◌&&◌, ◌||◌, ◌==◌, ℤ, List, [], ◌∷◌, length, drop, get_or, Option, Some, All}
use Rattle.std.specs.Prelude.{slice_get, slice_index_or}
use Rattle.std.specs.List.{AllZip, list_any, range_with_len}
use Rattle.std.proofs.lemmas.Bool.{cases_eq, eq-eqb, ne_eqb}
use Rattle.dim_core.specs.Outline.{Outline}
use Rattle.dim_weights.specs.Coefficients.{coef}
use Rattle.dim_weights.specs.Table.{IsWeightsOf, is_nonzero, nonzero_among, leaves_of, share}
use Rattle.dim_weights.proofs.Pairs.{share-range}
use Rattle.cube_space.specs.Layout.{axes_of, sizes_of}
use Rattle.rule_model.specs.Conditions.{IsSet}
use Rattle.cube_space.proofs.AxisSizes.{length-axes_of}
use Rattle.cube_space.specs.Radix.{are_digits}
use Rattle.rule_model.proofs.Coefs.{axes_at, dimension_at, is_at}
use Rattle.rule_model.proofs.Named.{axes_cons}
use Rattle.cell_spread.specs.Inside.Meets.{meets_in, meets}
use Rattle.cell_spread.proofs.Governed.{any-same, any-and, any-turned}
use Rattle.cell_spread.proofs.Rounding.{drop-at}

-- ---- one dimension

any-among : (f : ℕ → ℤ) (q : ℕ → Bool) (xs : List ℕ) → list_any (λ (pair : ℕ × ℤ). q pair.0) (nonzero_among f xs) ≡ list_any (λ x. is_nonzero (f x) && q x) xs
any-among f q [] = refl
any-among f q (x ∷ xs) = by (is_nonzero (f x)) refl (any-among f q xs)
  where
    by : (b : Bool) → is_nonzero (f x) ≡ b → list_any (λ (pair : ℕ × ℤ). q pair.0) (nonzero_among f xs) ≡ list_any (λ x. is_nonzero (f x) && q x) xs
        → list_any (λ (pair : ℕ × ℤ). q pair.0) (nonzero_among f (x ∷ xs)) ≡ list_any (λ x. is_nonzero (f x) && q x) (x ∷ xs)
    by true on rest = rw on (ap (λ b. q x || b) rest)
    by false off rest = rw off rest

-- among the numbers, one is itself alone
only-before : (p : ℕ → Bool) (l a n : ℕ) → l < a → list_any (λ x. p x && (l == x)) (range_with_len a n) ≡ false
only-before p l a zero low = refl
only-before p l a (suc n) low =
    let off : (l == a) ≡ false = ne_eqb l a (λ same. omega (arith, low, same)) in
    rw off (none (p a) (list_any (λ x. p x && (l == x)) (range_with_len (a + 1) n)) (only-before p l (a + 1) n (omega (arith, low))))
  where
    none : (b c : Bool) → c ≡ false → ((b && false) || c) ≡ false
    none true c e = e
    none false c e = e

only-itself : (p : ℕ → Bool) (l a n : ℕ) → a ≤ l → l < a + n → list_any (λ x. p x && (l == x)) (range_with_len a n) ≡ p l
only-itself p l a zero low less = absurd (omega (arith, low, less))
only-itself p l a (suc n) low less = elim (cases_eq l a) [
  | inl same ↦ (let on : (l == a) ≡ true = eq-eqb l a same in
      rw on (first (p a) (list_any (λ x. p x && (l == x)) (range_with_len (a + 1) n)) (only-before p l (a + 1) n (omega (arith, same))) ∙ ap p (sym same)))
  | inr apart ↦ (let off : (l == a) ≡ false = ne_eqb l a apart in
      rw off (later (p a) (list_any (λ x. p x && (l == x)) (range_with_len (a + 1) n)) ∙ only-itself p l (a + 1) n (omega (arith, low, apart)) (omega (arith, less))))
]
  where
    first : (b c : Bool) → c ≡ false → ((b && true) || c) ≡ b
    first true c e = refl
    first false c e = e

    later : (b c : Bool) → ((b && false) || c) ≡ c
    later true c = refl
    later false c = refl

-- a listed leaf counts just where a leaf that counts is listed
pub listed-counts : (d : Outline) (e : ℕ) (listed : List ℕ) → All (λ l. l < length d.elements) listed
    → list_any (λ l. is_nonzero (share (leaves_of d e) l)) listed ≡ meets_in d e (Some listed)
listed-counts d e listed within =
    any-same (λ l. is_nonzero (share (leaves_of d e) l)) (λ l. list_any (λ x. p x && (l == x)) range) listed
    (λ k d' less. ap is_nonzero (share-range (coef d e) (length d.elements) 0 (get_or listed k d') (omega arith) (let low = within k d' less in omega (arith, low)))
    ∙ sym (only-itself p (get_or listed k d') 0 (length d.elements) (omega arith) (let low = within k d' less in omega (arith, low))))
    ∙ sym (any-turned (λ l. true) (λ l x. p x && (l == x)) range listed)
    ∙ any-each (λ x. list_any (λ l. p x && (l == x)) listed) (λ x. p x && list_any (λ l. l == x) listed) range (λ x. any-and (p x) (λ l. l == x) listed)
    ∙ sym (any-among (coef d e) (λ x. list_any (λ l. l == x) listed) range)
  where
    range : List ℕ
    range = range_with_len 0 (length d.elements)

    p : ℕ → Bool
    p x = is_nonzero (coef d e x)

    any-each : (f g : ℕ → Bool) (xs : List ℕ) → ((x : ℕ) → f x ≡ g x) → list_any f xs ≡ list_any g xs
    any-each f g xs same = any-same f g xs (λ k d less. same (get_or xs k d))

-- a set of all leaves has one that counts, where there is any
pub some-counts : (pairs : List (ℕ × ℤ)) → not (length pairs == 0) ≡ list_any (λ (pair : ℕ × ℤ). true) pairs
some-counts [] = refl
some-counts (pair ∷ pairs) = let off : (suc (length pairs) == 0) ≡ false = ne_eqb (suc (length pairs)) 0 (λ same. omega (arith, same)) in rw off refl

-- ---- one dimension after another

pub zip-at : (ns : List ℕ) (sets : List (Option (List ℕ))) (i d : ℕ) (s : Option (List ℕ)) → AllZip IsSet ns sets → i < length ns → (i < length sets) × IsSet (get_or ns i d) (get_or sets i s)
zip-at [] sets i d s all low = absurd (omega (arith, low))
zip-at (n ∷ ns) [] i d s all low = absurd all
zip-at (n ∷ ns) (set ∷ sets) zero d s all low = (omega arith, all.0)
zip-at (n ∷ ns) (set ∷ sets) (suc i) d s all low = let rest = zip-at ns sets i d s all.1 (omega (arith, low)) in ((let l = rest.0 in omega (arith, l)), rest.1)

pub zip-long : (ns : List ℕ) (sets : List (Option (List ℕ))) → AllZip IsSet ns sets → length sets ≡ length ns
zip-long [] [] all = refl
zip-long [] (set ∷ sets) all = absurd all
zip-long (n ∷ ns) [] all = absurd all
zip-long (n ∷ ns) (set ∷ sets) all = ap suc (zip-long ns sets all.1)

pub meets-at : (D : List Outline) (dims at : List ℕ) (sets : List (Option (List ℕ))) (i : ℕ) (d : Outline) (s : Option (List ℕ)) → i < length dims → i < length at → i < length sets → slice_get D (slice_index_or dims i 0) ≡ Some d
    → meets (axes_of D (drop i dims)) (drop i at) (drop i sets) ≡ (meets_in d (get_or at i 0) (get_or sets i s) && meets (axes_of D (drop (i + 1) dims)) (drop (i + 1) at) (drop (i + 1) sets))
meets-at D dims at sets i d s h k l is = rw (axes_at D dims i d h is, drop-at at i 0 k, drop-at sets i s l) refl

-- ---- at a place of the dimensions

size-at : (D : List Outline) (dims : List ℕ) (i : ℕ) (d : Outline) → All (λ dim. dim < length D) dims → i < length dims → slice_get D (get_or dims i 0) ≡ Some d → get_or (sizes_of (axes_of D dims)) i 0 ≡ length d.elements
size-at D [] i d within low own = absurd (omega (arith, low))
size-at D (k ∷ dims) i d within low own =
    let (x, at) = dimension_at D k (within 0 0 (omega arith)) in
    ap (λ ds. get_or (sizes_of ds) i 0) (axes_cons D k dims x at) ∙ by i low own x at (λ j low own. size-at D dims j d (λ n e less. within (suc n) e (omega (arith, less))) low own)
  where
    by : (i : ℕ) → i < length (k ∷ dims) → slice_get D (get_or (k ∷ dims) i 0) ≡ Some d → (x : Outline) → slice_get D k ≡ Some x
        → ((j : ℕ) → j < length dims → slice_get D (get_or dims j 0) ≡ Some d → get_or (sizes_of (axes_of D dims)) j 0 ≡ length d.elements)
        → get_or (sizes_of (x ∷ axes_of D dims)) i 0 ≡ length d.elements
    by zero low own x at later = let same : Some x ≡ Some d = sym at ∙ own in let e : x ≡ d = cc in ap (λ (o : Outline). length o.elements) e
    by (suc i) low own x at later = later i (omega (arith, low)) own

-- what is known there
pub record IsHere (D : List Outline) (dims at : List ℕ) (sets : List (Option (List ℕ))) (i : ℕ) (w : List (List (ℕ × ℤ))) (set : Option (List ℕ)) : Type 0 where
  pub d : Outline
  pub table : IsWeightsOf d w
  pub element : get_or at i 0 < length w
  pub is_set : IsSet (length d.elements) set
  pub split : meets (axes_of D (drop i dims)) (drop i at) (drop i sets)
      ≡ (meets_in d (get_or at i 0) set && meets (axes_of D (drop (i + 1) dims)) (drop (i + 1) at) (drop (i + 1) sets))

pub sets-long : (D : List Outline) (dims : List ℕ) (sets : List (Option (List ℕ))) → All (λ dim. dim < length D) dims → AllZip IsSet (sizes_of (axes_of D dims)) sets → length sets ≡ length dims
sets-long D dims sets within are = zip-long (sizes_of (axes_of D dims)) sets are ∙ length-axes_of D dims within

pub is-here : (D : List Outline) (W : List (List (List (ℕ × ℤ)))) (dims at : List ℕ) (sets : List (Option (List ℕ))) (i : ℕ) (w : List (List (ℕ × ℤ))) (set : Option (List ℕ)) → AllZip IsWeightsOf D W → All (λ dim. dim < length D) dims
    → are_digits (sizes_of (axes_of D dims)) at ≡ true → AllZip IsSet (sizes_of (axes_of D dims)) sets → i < length dims → w ≡ get_or W (get_or dims i 0) w → set ≡ get_or sets i set → IsHere D dims at sets i w set
is-here D W dims at sets i w set tables within digits are low own set_is =
    let h = is_at D W dims at at i tables within digits digits low in
    let table = h.table w own in
    let long = sets-long D dims sets within are in
    let few : i < length (sizes_of (axes_of D dims)) = (let l = length-axes_of D dims within in omega (arith, low, l)) in
    let zipped = zip-at (sizes_of (axes_of D dims)) sets i 0 set are few in
    let size = size-at D dims i h.d within low h.own in
    record {
      d = h.d;
      table = table;
      element = (let e = h.element in let l = table.whole in omega (arith, e, l));
      is_set = subst (IsSet (length h.d.elements)) (sym set_is) (subst (λ (n : ℕ). IsSet n (get_or sets i set)) size zipped.1);
      split = meets-at D dims at sets i h.d set low h.at_low (omega (arith, low, long)) h.own
          ∙ ap (λ (s : Option (List ℕ)). meets_in h.d (get_or at i 0) s && meets (axes_of D (drop (i + 1) dims)) (drop (i + 1) at) (drop (i + 1) sets)) (sym set_is);
    }
