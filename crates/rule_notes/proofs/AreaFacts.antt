-- The elements of sets of areas, and whether an area has another.
use Rattle.std.proofs.Common.{◌≡◌, refl, sym, ap, ◌∙◌, arith, subst, ℕ, suc, ◌+◌, ◌<◌, ◌≤◌, Bool, true, false, ◌&&◌, ◌||◌, ◌==◌, Option, Some, None, List, [], ◌∷◌, length, get_or, drop, drop-cons, inl, inr, eqb}
use Rattle.std.specs.Prelude.{slice_index_or}
use Rattle.std.specs.List.{list_all, list_any}
use Rattle.std.specs.List.Sorted.{IsStrictlyIncreasing}
use Rattle.std.proofs.lemmas.Bool.{and_parts, and_from}
use Rattle.std.proofs.lemmas.Bool.Decides.{eqb_tells}
use Rattle.std.proofs.lemmas.List.{drop_all}
use Rattle.std.proofs.lemmas.List.FromFn.{length-range_with_len, get_or-range_with_len}
use Rattle.lists.proofs.Rising.{among, RisesFrom, rises}
use Rattle.lists.proofs.Members.{contains_from_among}
use Rattle.cube_space.specs.Layout.{Layout, axes, sizes}
use Rattle.rule_model.specs.declared.area.Area.{Area}
use Rattle.rule_model.specs.Areas.{in_set}
use Rattle.rule_model.specs.Conditions.{IsSet, IsArea}
use Rattle.order_laws.specs.Scales.{set_count, set_element}
use Rattle.order_laws.proofs.SetFacts.{set-at}
use Rattle.rule_notes.specs.Reached.{HasSet, HasArea}
use Rattle.rule_notes.specs.Inside.Areas.{elements_in, has_set, has_set_at, has_area}
use Rattle.rule_notes.proofs.Ranges.{each-passes, passes-each}
use Rattle.rule_notes.proofs.Sizes.{no-longer, range-rises, among-first, among-others}

pub in-count : (size : ℕ) (set : Option (List ℕ)) → length (elements_in size set) ≡ set_count size set
in-count size None = length-range_with_len 0 size
in-count size (Some listed) = refl

pub in-element : (size : ℕ) (set : Option (List ℕ)) (k : ℕ) → k < set_count size set → get_or (elements_in size set) k 0 ≡ set_element set k
in-element size None k low = let e : 0 + k ≡ k = omega arith in get_or-range_with_len 0 size k 0 low ∙ e
in-element size (Some listed) k low = refl

set-rises : (size : ℕ) (set : Option (List ℕ)) → IsSet size set → RisesFrom 0 (elements_in size set)
set-rises size None is = range-rises 0 size
set-rises size (Some listed) is = rises 0 listed is.0 (λ _. omega arith)

-- ---- tests of a list, by its numbers

module _ (test : ℕ → Bool) where
  pub each-of : (xs : List ℕ) (n : ℕ) → list_all test xs ≡ true → among n xs ≡ true → test n ≡ true
  each-of [] n all has = absurd (cc)
  each-of (x ∷ xs) n all has =
      let parts = and_parts (test x) (list_all test xs) all in
      elim (eqb_tells x n) [
        | inl e ↦ subst (λ k. test k ≡ true) e.1 parts.0
        | inr e ↦ each-of xs n parts.1 (among-others x n xs e.1 has)
      ]

  pub of-each : (xs : List ℕ) → ((n : ℕ) → among n xs ≡ true → test n ≡ true) → list_all test xs ≡ true
  of-each [] each = refl
  of-each (x ∷ xs) each =
      and_from (test x) (list_all test xs) (each x (among-first x xs))
      (of-each xs (λ n has. each n (later (eqb x n) (among n xs) has)))
    where
      later : (a b : Bool) → b ≡ true → (a || b) ≡ true
      later true b is = refl
      later false b is = is

  -- one number more of a list
  pub all-drop : (xs : List ℕ) (k : ℕ) → k < length xs → list_all test (drop k xs) ≡ test (get_or xs k 0) && list_all test (drop (k + 1) xs)
  all-drop xs k low = let e : suc k ≡ k + 1 = omega arith in ap (list_all test) (drop-cons xs k 0 low ∙ ap (λ n. get_or xs k 0 ∷ drop n xs) e)

-- ---- over the elements of a set, one after the other

module _ (test : ℕ → Bool) (size : ℕ) (set : Option (List ℕ)) where
  element-here : (k e : ℕ) (t : Bool) → k < set_count size set → e ≡ set_element set k → test e ≡ t → test (get_or (elements_in size set) k 0) ≡ t
  element-here k e t low at is = ap test (in-element size set k low ∙ sym at) ∙ is

  pub lacks-here : (k e : ℕ) → k < set_count size set → e ≡ set_element set k → test e ≡ false → list_all test (drop k (elements_in size set)) ≡ list_all test (elements_in size set)
      → false ≡ list_all test (elements_in size set)
  lacks-here k e low at is so =
      sym (all-drop test (elements_in size set) k (subst (λ n. k < n) (sym (in-count size set)) low) ∙ ap (λ t. t && list_all test (drop (k + 1) (elements_in size set))) (element-here k e false low at is)) ∙ so

  pub has-here : (k e : ℕ) → k < set_count size set → e ≡ set_element set k → test e ≡ true → list_all test (drop k (elements_in size set)) ≡ list_all test (elements_in size set)
      → list_all test (drop (k + 1) (elements_in size set)) ≡ list_all test (elements_in size set)
  has-here k e low at is so =
      sym (all-drop test (elements_in size set) k (subst (λ n. k < n) (sym (in-count size set)) low) ∙ ap (λ t. t && list_all test (drop (k + 1) (elements_in size set))) (element-here k e true low at is)) ∙ so

  pub has-done : (k : ℕ) → set_count size set ≤ k → list_all test (drop k (elements_in size set)) ≡ list_all test (elements_in size set) → true ≡ list_all test (elements_in size set)
  has-done k past so = sym (ap (list_all test) (drop_all k (elements_in size set) (subst (λ n. n ≤ k) (sym (in-count size set)) past))) ∙ so

-- a rising list that is shorter than a set hasn't all elements of it
pub short-lacks : (listed : List ℕ) (size : ℕ) (inner : Option (List ℕ)) → IsStrictlyIncreasing listed → IsSet size inner → length listed < set_count size inner
    → list_all (λ element. list_any (λ e. e == element) listed) (elements_in size inner) ≡ false
short-lacks listed size inner up is short = by (list_all (λ element. list_any (λ e. e == element) listed) (elements_in size inner)) refl
  where
    by : (t : Bool) → list_all (λ element. list_any (λ e. e == element) listed) (elements_in size inner) ≡ t → t ≡ false
    by false all = refl
    by true all =
        let long = no-longer 0 (elements_in size inner) listed (set-rises size inner is) (rises 0 listed up (λ _. omega arith)) (λ n has. each-of (λ element. list_any (λ e. e == element) listed) (elements_in size inner) n all has) in
        absurd (omega (arith, long, short, in-count size inner))

-- a set that has all elements has those of each
each-in-all : (xs : List ℕ) → true ≡ list_all (in_set None) xs
each-in-all [] = refl
each-in-all (x ∷ xs) = each-in-all xs

pub all-have : (size : ℕ) (outer inner : Option (List ℕ)) → outer ≡ None → true ≡ has_set size outer inner
all-have size outer inner is = each-in-all (elements_in size inner) ∙ ap (λ o. has_set size o inner) (sym is)

-- ---- what the tests tell

pub has-set : (size : ℕ) (outer inner : Option (List ℕ)) → has_set size outer inner ≡ true → HasSet size outer inner
has-set size outer None all e low is = each-passes (in_set outer) 0 size all e (omega arith) (omega (arith, low))
has-set size outer (Some listed) all e low is = each-of (in_set outer) listed e all is

pub set-has : (size : ℕ) (outer inner : Option (List ℕ)) → IsSet size inner → HasSet size outer inner → has_set size outer inner ≡ true
set-has size outer None is has = passes-each (in_set outer) 0 size (λ k from low. has k (omega (arith, low)) refl)
set-has size outer (Some listed) is has =
    of-each (in_set outer) listed
    (λ n among_n. let at = contains_from_among listed n among_n in has n (subst (λ k. k < size) at.2 (is.1 at.0 n at.1)) among_n)

pub has-area : (space : Layout) (cube : ℕ) (outer inner : Area) → has_area space cube outer inner ≡ true → HasArea space cube outer inner
unfolding has_area
has-area space cube outer inner all dim low =
    has-set (slice_index_or (sizes space cube) dim 0) (slice_index_or outer.sets dim None) (slice_index_or inner.sets dim None)
    (each-passes (has_set_at space cube outer inner) 0 (length (axes space cube)) all dim (omega arith) (omega (arith, low)))

pub area-has : (space : Layout) (cube : ℕ) (outer inner : Area) → IsArea space cube inner → HasArea space cube outer inner → has_area space cube outer inner ≡ true
unfolding has_area
area-has space cube outer inner is has =
    passes-each (has_set_at space cube outer inner) 0 (length (axes space cube))
    (λ dim from low. set-has (slice_index_or (sizes space cube) dim 0) (slice_index_or outer.sets dim None) (slice_index_or inner.sets dim None)
    (set-at (sizes space cube) inner.sets dim is) (has dim (omega (arith, low))))
