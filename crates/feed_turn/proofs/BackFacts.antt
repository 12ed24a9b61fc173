-- The map back sends each leaf from which it is reached to the one that leads there.
use Rattle.std.proofs.Common.{◌≡◌, ap, ◌∙◌, sym, arith, refl, ℕ, zero, suc, ◌<◌, ◌≤◌, Bool, true, false, ◌==◌, Option, Some, None, List, [], ◌∷◌, length, get_or, map, filter, if◌then◌else◌, cond, nat_le, Contains}
use Rattle.std.specs.Prelude.{slice_get}
use Rattle.std.specs.List.{list_all, range_with_len}
use Rattle.std.specs.Option.{option_map_or}
use Rattle.std.proofs.lemmas.Bool.{leb-true}
use Rattle.std.proofs.lemmas.Bool.Decides.{Decides-eqb}
use Rattle.std.proofs.lemmas.List.FromFn.{get_or-map-range_with_len, length-map-range_with_len}
use Rattle.std.proofs.lemmas.List.Sums.{AllPass-from_list_all}
use Rattle.std.proofs.lemmas.Option.{unwrap_or-slice_get}
use Rattle.dim_core.specs.Outline.{Outline}
use Rattle.cover_laws.specs.Looking.{sent}
use Rattle.feed_turn.specs.Leaves.{counts}
use Rattle.feed_turn.specs.Inverse.{leads, leading_to, is_one_to_one, only_leading, inverse}
use Rattle.feed_turn.specs.Shift.{goes, sends_alike, shifted, shift_from, short_form}
use Rattle.feed_turn.proofs.Ranges.{range-at, long}

-- what passes of each number below a size passes of one
pub all-at : (p : ℕ → Bool) (n k : ℕ) → list_all p (range_with_len 0 n) ≡ true → k < n → p k ≡ true
all-at p n k all low = ap p (sym (range-at n k 0 low)) ∙ AllPass-from_list_all p (range_with_len 0 n) all k 0 (long n k low)

-- where at most one passes, one that does is the first that is kept
kept-first : (p : ℕ → Bool) (xs : List ℕ) (x : ℕ) → Contains xs x → p x ≡ true → length (filter p xs) ≤ 1 → slice_get (filter p xs) 0 ≡ Some x
kept-first p [] x has on few = absurd (let low = has.1 in omega (arith, low))
kept-first p (y ∷ xs) x (zero, low, at) on few = ap (λ b. slice_get (cond b (y ∷ filter p xs) (filter p xs)) 0) (ap p at ∙ on) ∙ ap Some at
kept-first p (y ∷ xs) x (suc k, low, at) on few = by (p y) refl (kept-first p xs x (k, omega (arith, low), at) on)
  where
    by : (b : Bool) → p y ≡ b → (length (filter p xs) ≤ 1 → slice_get (filter p xs) 0 ≡ Some x) → slice_get (cond b (y ∷ filter p xs) (filter p xs)) 0 ≡ Some x
    by false off rest = rest (let same : length (cond (p y) (y ∷ filter p xs) (filter p xs)) ≡ length (filter p xs) = ap (λ b. length (cond b (y ∷ filter p xs) (filter p xs))) off in omega (arith, few, same))
    by true here rest = absurd (full (filter p xs) (let same : length (cond (p y) (y ∷ filter p xs) (filter p xs)) ≡ suc (length (filter p xs)) = ap (λ b. length (cond b (y ∷ filter p xs) (filter p xs))) here in omega (arith, few, same)) (rest (let same : length (cond (p y) (y ∷ filter p xs) (filter p xs)) ≡ suc (length (filter p xs)) = ap (λ b. length (cond b (y ∷ filter p xs) (filter p xs))) here in omega (arith, few, same))))
      where
        full : (zs : List ℕ) → length zs ≤ 0 → slice_get zs 0 ≡ Some x → ⊥
        full [] few is = cc
        full (z ∷ zs) few is = omega (arith, few)

-- a list that is chosen
chosen : (b : Bool) (xs ys : List (Option ℕ)) → (if b then Some xs else None) ≡ Some ys → (b ≡ true) × (xs ≡ ys)
chosen true xs ys is = (refl, cc)
chosen false xs ys is = absurd (cc)

module _ (d : Outline) (to : List (Option ℕ)) (leaves : List ℕ) (back : List (Option ℕ)) (is : inverse d to leaves ≡ Some back) where
  parts : (is_one_to_one d to leaves ≡ true) × (only_leading d to leaves ≡ back)
  unfolding inverse
  parts = chosen (is_one_to_one d to leaves) (only_leading d to leaves) back is

  pub back-long : length back ≡ length d.elements
  back-long = ap length (sym parts.1) ∙ length-map-range_with_len (λ leaf. slice_get (leading_to d to leaves leaf) 0) 0 (length d.elements)

  pub back-at : (x : ℕ) → x < length d.elements → sent back x ≡ slice_get (leading_to d to leaves x) 0
  back-at x low =
      unwrap_or-slice_get back x None ∙ ap (λ (l : List (Option ℕ)). get_or l x None) (sym parts.1)
      ∙ get_or-map-range_with_len (λ leaf. slice_get (leading_to d to leaves leaf) 0) 0 (length d.elements) x x None low (omega arith)

  -- of a leaf that an element of the area leads to, back is that element
  pub back-sends : (element target leaf : ℕ) → Contains leaves element → sent to element ≡ Some target → counts d target leaf ≡ true → leaf < length d.elements → sent back leaf ≡ Some element
  back-sends element target leaf has goes on low =
      let leading : leads d to leaf element ≡ true = ap (λ (o : Option ℕ). option_map_or (λ target. counts d target leaf) o false) goes ∙ on in
      let few = leb-true (length (leading_to d to leaves leaf)) 1 (all-at (λ leaf. nat_le (length (leading_to d to leaves leaf)) 1) (length d.elements) leaf parts.0 low) in
      back-at leaf low ∙ kept-first (leads d to leaf) leaves element has leading few

-- ---- the short form sends alike what the list sends anywhere

goes-there : (map : List (Option ℕ)) (element target : ℕ) → goes map element (Some target) ≡ true → sent map element ≡ Some target
goes-there map element target h = by (sent map element) h
  where
    by : (o : Option ℕ) → option_map_or (λ other. other == target) o false ≡ true → o ≡ Some target
    by None h = absurd (cc)
    by (Some other) h = ap Some ((Decides-eqb other target).0 h)

shifted-sends : (back : List (Option ℕ)) (o : Option (List (Option ℕ))) (element target : ℕ) → element < length back → sent back element ≡ Some target → sent (shifted back o) element ≡ Some target
shifted-sends back None element target low is = is
shifted-sends back (Some map) element target low is = by (sends_alike map back) refl
  where
    by : (b : Bool) → sends_alike map back ≡ b → sent (if b then map else back) element ≡ Some target
    by true on = goes-there map element target (ap (goes map element) (sym is) ∙ all-at (λ e. goes map e (sent back e)) (length back) element on low)
    by false off = is

pub short-sends : (stays : Bool) (back : List (Option ℕ)) (element target : ℕ) → element < length back → sent back element ≡ Some target → sent (short_form stays back) element ≡ Some target
unfolding short_form
short-sends false back element target low is = is
short-sends true back element target low is = shifted-sends back (shift_from (length back) 0 back) element target low is

-- a map that keeps each element sends one where it stands
pub keeps-itself : (to : List (Option ℕ)) (element target : ℕ) → list_all (λ e. goes to e (Some e)) (range_with_len 0 (length to)) ≡ true → element < length to → sent to element ≡ Some target → element ≡ target
keeps-itself to element target keeps low is =
    let own = goes-there to element element (all-at (λ e. goes to e (Some e)) (length to) element keeps low) in
    let both : Some element ≡ Some target = sym own ∙ is in cc
