-- What is named is among the sources, and the element over leaves has them.
use Rattle.std.proofs.Common.{◌≡◌, ap, ◌∙◌, sym, arith, refl, subst, ℕ, zero, suc, ◌<◌, Bool, true, false, not, ◌||◌, ◌==◌, Option, Some, None, List, [], ◌∷◌, length, filter, filter_map, if◌then◌else◌, cond, Contains, eq-eqb}
use Rattle.std.specs.List.{list_any, list_all, find, cons_option}
use Rattle.std.proofs.lemmas.Bool.{and_parts, or_right}
use Rattle.std.proofs.lemmas.List.Folds.{list_any_at}
use Rattle.std.proofs.lemmas.List.Sums.{AllPass-from_list_all}
use Rattle.dim_core.specs.Outline.{Outline}
use Rattle.cube_space.specs.Cells.{is_leaf}
use Rattle.lists.proofs.Members.{kept_member}
use Rattle.cover_laws.specs.Looking.{sent}
use Rattle.feed_turn.specs.Leaves.{all_elements, counts, is_total_over, least_total, over}
use Rattle.feed_turn.specs.Named.{is_named, names_each_leaf, named_set}

pub any-of : {X : Type 0} (p : X → Bool) (xs : List X) (x : X) → Contains xs x → p x ≡ true → list_any p xs ≡ true
any-of p xs x has on = list_any_at p xs has.0 x has.1 (ap p has.2 ∙ on)

pub all-of : {X : Type 0} (p : X → Bool) (xs : List X) (x : X) → Contains xs x → list_all p xs ≡ true → p x ≡ true
all-of p xs x has all = ap p (sym has.2) ∙ AllPass-from_list_all p xs all has.0 x has.1

-- what a leaf of the area is sent to is named
pub sent-named : (to : List (Option ℕ)) (leaves : List ℕ) (leaf target : ℕ) → Contains leaves leaf → sent to leaf ≡ Some target → is_named to leaves target ≡ true
sent-named to [] leaf target has is = absurd (let low = has.1 in omega (arith, low))
sent-named to (x ∷ leaves) leaf target (zero, low, at) is =
    ap (λ (o : Option ℕ). list_any (λ found. found == target) (cons_option o (filter_map (sent to) leaves))) (ap (sent to) at ∙ is)
    ∙ ap (λ b. b || is_named to leaves target) (eq-eqb target target refl)
sent-named to (x ∷ leaves) leaf target (suc k, low, at) is = by (sent to x) (sent-named to leaves leaf target (k, omega (arith, low), at) is)
  where
    by : (o : Option ℕ) → is_named to leaves target ≡ true → list_any (λ found. found == target) (cons_option o (filter_map (sent to) leaves)) ≡ true
    by None rest = rest
    by (Some other) rest = or_right (other == target) (is_named to leaves target) rest

-- and so it is listed, where the set lists elements
pub named-listed : (d : Outline) (to : List (Option ℕ)) (leaves : List ℕ) (target : ℕ) (listed : List ℕ) → is_named to leaves target ≡ true → target < length d.elements → named_set d to leaves ≡ Some listed → Contains listed target
unfolding named_set
named-listed d to leaves target listed named low is = by (names_each_leaf d to leaves) is
  where
    by : (b : Bool) → (if b then None else Some (filter (is_named to leaves) (all_elements d))) ≡ Some listed → Contains listed target
    by true is = absurd (cc)
    by false is = let same : filter (is_named to leaves) (all_elements d) ≡ listed = cc in subst (λ l. Contains l target) same (kept_member (is_named to leaves) (length d.elements) target low named)

-- ---- the element over leaves

find-passes : (p : ℕ → Bool) (xs : List ℕ) (x : ℕ) → find p xs ≡ Some x → p x ≡ true
find-passes p [] x is = absurd (cc)
find-passes p (y ∷ xs) x is = by (p y) refl is (find-passes p xs x)
  where
    by : (b : Bool) → p y ≡ b → cond b (Some y) (find p xs) ≡ Some x → (find p xs ≡ Some x → p x ≡ true) → p x ≡ true
    by true on is rest = let same : y ≡ x = cc in ap p (sym same) ∙ on
    by false off is rest = rest is

total-counts : (d : Outline) (leaves : List ℕ) (element leaf : ℕ) → least_total d leaves ≡ Some element → Contains leaves leaf → counts d element leaf ≡ true
total-counts d leaves element leaf is has =
    all-of (counts d element) leaves leaf has (and_parts (not (is_leaf d element)) (list_all (counts d element) leaves) (find-passes (is_total_over d leaves) (all_elements d) element is)).1

-- each of the leaves counts in it, if a leaf counts in itself
pub over-counts : (d : Outline) (leaves : List ℕ) (element leaf : ℕ) → over d leaves ≡ Some element → Contains leaves leaf → counts d leaf leaf ≡ true → counts d element leaf ≡ true
over-counts d [] element leaf is has own = total-counts d [] element leaf is has
over-counts d (x ∷ []) element leaf is (zero, low, at) own =
    let same : x ≡ element = cc in
    subst (λ e. counts d e leaf ≡ true) (sym at ∙ same) own
over-counts d (x ∷ []) element leaf is (suc k, low, at) own = absurd (omega (arith, low))
over-counts d (x ∷ y ∷ leaves) element leaf is has own = total-counts d (x ∷ y ∷ leaves) element leaf is has
