-- The most that a cell which is read has more bounds just what each component's cell has more than its cell.
use Rattle.std.proofs.Common.{◌≡◌, refl, sym, ap, ◌∙◌, arith, subst, ℕ, zero, suc, ◌+◌, ◌<◌, Bool, true, false, ◌&&◌, ℤ, pos, ◌+ℤ◌, ◌-ℤ◌, ◌≤ℤ◌, Option, Some, None, List, [], ◌∷◌, length, get_or, set, Contains, ◌==◌, if◌then◌else◌}
use Rattle.std.specs.Prelude.{⊤, slice_set}
use Rattle.std.proofs.lemmas.Int.{ints}
use Rattle.std.proofs.lemmas.List.{length-set}
use Rattle.std.proofs.lemmas.Bool.{eq-eqb}
use Rattle.std.proofs.lemmas.Bool.Decides.{Decides-eqb}
use Rattle.dim_weights.specs.Table.{is_nonzero}
use Rattle.cube_space.specs.Radix.{are_digits}
use Rattle.cube_space.specs.Layout.{axes, sizes}
use Rattle.cube_space.specs.Cells.{IsSpace, elements_of, cell_number, is_leaf_cell}
use Rattle.rule_laws.specs.Meaning.{Components}
use Rattle.rule_laws.specs.Ordered.{HasPrecedent, Throughout}
use Rattle.rule_model.specs.declared.rules.Statement.{Statement}
use Rattle.rule_model.specs.BoundModel.{BoundModel}
use Rattle.rule_model.specs.Targets.{with_element_at, with_components, parts_at}
use Rattle.rule_model.specs.System.{system_of, rule_of}
use Rattle.rule_model.specs.Conditions.{IsArea, AreRules}
use Rattle.order_laws.specs.Greatest.{plus, IsAtMost, sum_from, only}
use Rattle.order_laws.specs.Scales.{scale_of, parts_in, is_leaf_element}
use Rattle.order_laws.specs.Earlier.{Kinds, is_same, component_number, components_number, start_by_kinds, most_excess}
use Rattle.order_laws.proofs.GreatestFacts.{IsTop, greatest-top, plus-over, plus-least}
use Rattle.order_laws.proofs.SumFacts.{all_from, sum-same, sum-only, sum-split, but_dim, other-dim, later-dim}
use Rattle.order_laws.proofs.ReferenceFacts.{added, reading}
use Rattle.order_laws.proofs.LeafFacts.{all-self, all-agree}
use Rattle.order_laws.proofs.CellFacts.{IsAt, IsOf, axes-sizes, cell-there, number-there, leaf-all, measure, measure-is}
use Rattle.order_laws.proofs.ChildFacts.{nonzero-counts, counts-nonzero, digits-set, part-found, found-part, components-some, components-of, part-below}
use Rattle.order_laws.proofs.KindFacts.{chosen, most-over, most-least, up-to, up-from}
use Rattle.order_laws.proofs.Decided.{cell-of, of-cell, IsMore}

-- elements with another one in a dimension
abbrev other_at : ℕ → ℕ → ℕ → ℕ → ℕ
other_at dim k i e = if i == dim then k else e

abbrev replaced : ℕ → ℕ → ℕ → List ℕ → List ℕ
replaced dim k i [] = []
replaced dim k i (e ∷ es) = other_at dim k i e ∷ replaced dim k (suc i) es

replaced-past : (dim k i : ℕ) (es : List ℕ) → dim < i → replaced dim k i es ≡ es
replaced-past dim k i [] low = refl
replaced-past dim k i (e ∷ es) low =
    ap (λ t. (if t then k else e) ∷ replaced dim k (suc i) es) (later-dim i dim low) ∙ ap (λ xs. e ∷ xs) (replaced-past dim k (suc i) es (omega (arith, low)))

replaced-set : (dim k i j : ℕ) (es : List ℕ) → dim ≡ i + j → j < length es → replaced dim k i es ≡ set es j k
replaced-set dim k i j [] is low = absurd (omega arith)
replaced-set dim k i zero (e ∷ es) is low =
    ap (λ t. (if t then k else e) ∷ replaced dim k (suc i) es) (eq-eqb i dim (omega arith)) ∙ ap (λ xs. k ∷ xs) (replaced-past dim k (suc i) es (omega arith))
replaced-set dim k i (suc j) (e ∷ es) is low =
    ap (λ t. (if t then k else e) ∷ replaced dim k (suc i) es) (other-dim i dim (omega arith)) ∙ ap (λ xs. e ∷ xs) (replaced-set dim k (suc i) j es (omega arith) (omega arith))

all-replaced : (test : ℕ → ℕ → Bool) (dim k i : ℕ) (es : List ℕ) → all_from (λ i e. test i (other_at dim k i e)) i es ≡ all_from test i (replaced dim k i es)
all-replaced test dim k i [] = refl
all-replaced test dim k i (e ∷ es) = ap (λ t. test i (other_at dim k i e) && t) (all-replaced test dim k (suc i) es)

gaps : (w v : ℕ → ℕ → ℕ) (dim k i : ℕ) (es : List ℕ)
    → sum_from (λ i e. Some (pos (w i (other_at dim k i e)) -ℤ pos (v i e))) i es ≡ Some (pos (added w i (replaced dim k i es)) -ℤ pos (added v i es))
gaps w v dim k i [] = refl
gaps w v dim k i (e ∷ es) =
    ap (plus (Some (pos (w i (other_at dim k i e)) -ℤ pos (v i e)))) (gaps w v dim k (suc i) es)
    ∙ ap Some (sums (w i (other_at dim k i e)) (v i e) (added w (suc i) (replaced dim k (suc i) es)) (added v (suc i) es))
  where
    sums : (a b c d : ℕ) → (pos a -ℤ pos b) +ℤ (pos c -ℤ pos d) ≡ pos (a + c) -ℤ pos (b + d)
    sums a b c d = omega (arith, ints)

-- a part of a sum is bounded where each of a family is
with-rest : {X : Type 0} (Q : X → Type 0) (f : X → Option ℤ) (a b : Option ℤ) → IsTop Q f a → IsTop Q (λ x. plus (f x) b) (plus a b)
with-rest {X} Q f a b top = record {
  over = λ z h x q. plus-over Q (λ (u : ⊤). ⊤) f (λ u. b) a b top alone z h x tt q tt;
  least = λ z h. plus-least Q (λ (u : ⊤). ⊤) f (λ u. b) a b top alone z (λ x u q known. h x q);
}
  where
    alone : IsTop (λ (u : ⊤). ⊤) (λ u. b) b
    alone = record { over = λ z h u known. h; least = λ z h. h tt tt }

module _ (m : BoundModel) (valid : IsSpace m.space) (ruled : AreRules m.space m.rules) (cube : ℕ) (there : cube < length m.space.cubes)
    (statement : Statement) (is_area : IsArea m.space cube statement.area) (dim : ℕ) (is_dim : dim < length (axes m.space cube)) where
  -- the components of these elements' element
  abbrev pub parts_by : List ℕ → List (ℕ × ℤ)
  parts_by es = parts_in (axes m.space cube) dim (get_or es dim 0)

  abbrev pub part_of : List ℕ → ℕ → ℕ × ℤ
  part_of es k = get_or (parts_by es) k (0, pos 0)

  -- the cell with another element
  abbrev other : List ℕ → ℕ → Option ℕ
  other es element = cell_number m.space cube (slice_set es dim element)

  other-is : (c element : ℕ) (es : List ℕ) → IsAt m.space cube es c → with_element_at m.space c dim element ≡ other es element
  other-is c element es at = ap (λ k. cell_number m.space k (slice_set (elements_of m.space c) dim element)) at.own ∙ ap (λ x. cell_number m.space cube (slice_set x dim element)) at.elements

  parts-at : (c : ℕ) (es : List ℕ) → IsAt m.space cube es c → parts_at m.space c dim ≡ parts_by es
  parts-at c es at = ap (λ k. parts_in (axes m.space k) dim (get_or (elements_of m.space c) dim 0)) at.own ∙ ap (λ x. parts_in (axes m.space cube) dim (get_or x dim 0)) at.elements

  -- what is read is the cell of a component of a weight other than 0, and each such component has one
  pub read-part : (es : List ℕ) (c t : ℕ) → IsAt m.space cube es c → are_digits (sizes m.space cube) es ≡ true → HasPrecedent (system_of m) (Components dim) c t
      → (k : ℕ) × (k < length (parts_by es)) × (is_nonzero (part_of es k).1 ≡ true) × IsAt m.space cube (set es dim (part_of es k).0) t
  unfolding system_of
  read-part es c t at digits (pairs, some, (weight, has, counts)) =
      let all = components-some m.space c dim pairs (parts_by es) (parts-at c es at) some in
      let (k, low, names, weighs) = part-found (with_element_at m.space c dim) (parts_by es) t weight (subst (λ ps. Contains ps (t, weight)) (sym all) has) in
      let other_digits = digits-set (sizes m.space cube) es dim (part_of es k).0 digits (omega (arith, axes-sizes m.space cube, is_dim)) (part-below m.space cube dim (get_or es dim 0) k valid low) in
      (k, low, ap is_nonzero weighs ∙ counts-nonzero weight counts, number-there m.space cube (set es dim (part_of es k).0) t there other_digits (sym (other-is c (part_of es k).0 es at) ∙ names))

  pub part-read : (es : List ℕ) (c k : ℕ) → IsAt m.space cube es c → are_digits (sizes m.space cube) es ≡ true → k < length (parts_by es) → is_nonzero (part_of es k).1 ≡ true
      → (t : ℕ) × HasPrecedent (system_of m) (Components dim) c t × IsAt m.space cube (set es dim (part_of es k).0) t
  unfolding system_of
  part-read es c k at digits low nonzero =
      let other_digits = digits-set (sizes m.space cube) es dim (part_of es k).0 digits (omega (arith, axes-sizes m.space cube, is_dim)) (part-below m.space cube dim (get_or es dim 0) k valid low) in
      let found = cell-there m.space cube (set es dim (part_of es k).0) there other_digits in
      let names = other-is c (part_of es k).0 es at ∙ found.2 in
      let pairs = components-of m.space c dim k (parts_by es) (parts-at c es at) low in
      let has = found-part (with_element_at m.space c dim) (parts_by es) k found.0 low names in
      (found.0, (with_components m.space c dim (parts_by es), pairs, ((part_of es k).1, has, nonzero-counts (part_of es k).1 nonzero)), found.1)

  -- ---- what elements add up to, component by component

  module _ (q : ℕ) (kinds : Kinds) (flags : ℕ → ℕ → Bool) where
    abbrev its_worth : ℕ → ℕ → ℕ
    its_worth = (scale_of m cube kinds.its q).worth

    abbrev own_worth : ℕ → ℕ → ℕ
    own_worth = (scale_of m cube kinds.own q).worth

    abbrev leaf : ℕ → ℕ → Bool
    leaf = is_leaf_element (axes m.space cube)

    abbrev rest_number : ℕ → ℕ → Option ℤ
    rest_number i e = only (is_same (flags i e) (leaf i e)) (Some (pos (its_worth i e) -ℤ pos (own_worth i e)))

    -- the sum over the other dimensions, and the number of a component
    abbrev rest : List ℕ → Option ℤ
    rest es = sum_from (but_dim dim rest_number) 0 es

    abbrev number_of : List ℕ → ℕ → Option ℤ
    number_of es k = component_number m cube kinds q dim (get_or es dim 0) (flags dim (get_or es dim 0)) (part_of es k)

    children-chosen : (es : List ℕ) → length es ≡ length (axes m.space cube)
        → chosen m cube q (Components dim) kinds flags es
        ≡ plus (Some (start_by_kinds m cube kinds q (Components dim))) (plus (components_number m cube kinds q dim (get_or es dim 0) (flags dim (get_or es dim 0)) (parts_by es)) (rest es))
    children-chosen es long =
        ap (plus (Some (start_by_kinds m cube kinds q (Components dim)))) (sum-same (λ i e. if i == dim then components_number m cube kinds q dim e (flags i e) (parts_in (axes m.space cube) dim e) else rest_number i e)
        (λ i e. if i == dim then components_number m cube kinds q dim e (flags dim e) (parts_in (axes m.space cube) dim e) else rest_number i e) (λ i e. by i e (i == dim) refl) 0 es
        ∙ sum-split dim (λ e. components_number m cube kinds q dim e (flags dim e) (parts_in (axes m.space cube) dim e)) rest_number es (omega (arith, long, is_dim)))
      where
        by : (i e : ℕ) (t : Bool) → (i == dim) ≡ t → (if t then components_number m cube kinds q dim e (flags i e) (parts_in (axes m.space cube) dim e) else rest_number i e)
            ≡ (if t then components_number m cube kinds q dim e (flags dim e) (parts_in (axes m.space cube) dim e) else rest_number i e)
        by i e true is = ap (λ j. components_number m cube kinds q dim e (flags j e) (parts_in (axes m.space cube) dim e)) ((Decides-eqb i dim).0 is)
        by i e false is = refl

    -- the flags are those of a cell with another element
    abbrev are_flags : ℕ → List ℕ → Bool
    are_flags k es = all_from (λ i e. is_same (flags i e) (leaf i (other_at dim k i e))) 0 es

    part-chosen : (es : List ℕ) (k : ℕ) → length es ≡ length (axes m.space cube) → is_nonzero (part_of es k).1 ≡ true
        → plus (number_of es k) (rest es) ≡ only (are_flags (part_of es k).0 es) (Some (pos (added its_worth 0 (set es dim (part_of es k).0)) -ℤ pos (added own_worth 0 es)))
    part-chosen es k long nonzero =
        let part = part_of es k in
        let low : dim < length es = omega (arith, long, is_dim) in
        let gap : ℕ → ℕ → Option ℤ = λ i e. Some (pos (its_worth i (other_at dim part.0 i e)) -ℤ pos (own_worth i e)) in
        let test : ℕ → ℕ → Bool = λ i e. is_same (flags i e) (leaf i (other_at dim part.0 i e)) in
        sym (sum-split dim (λ e. component_number m cube kinds q dim e (flags dim e) part) rest_number es low)
        ∙ sum-same (λ i e. if i == dim then component_number m cube kinds q dim e (flags dim e) part else rest_number i e) (λ i e. only (test i e) (gap i e)) (λ i e. by i e (i == dim) refl) 0 es
        ∙ sum-only test gap 0 es
        ∙ ap (only (are_flags part.0 es)) (gaps its_worth own_worth dim part.0 0 es ∙ ap (λ xs. Some (pos (added its_worth 0 xs) -ℤ pos (added own_worth 0 es))) (replaced-set dim part.0 0 dim es (omega arith) low))
      where
        by : (i e : ℕ) (t : Bool) → (i == dim) ≡ t → (if t then component_number m cube kinds q dim e (flags dim e) (part_of es k) else rest_number i e)
            ≡ only (is_same (flags i e) (leaf i (if t then (part_of es k).0 else e))) (Some (pos (its_worth i (if t then (part_of es k).0 else e)) -ℤ pos (own_worth i e)))
        by i e true is =
            subst (λ j. component_number m cube kinds q dim e (flags dim e) (part_of es k) ≡ only (is_same (flags j e) (leaf j (part_of es k).0)) (Some (pos (its_worth j (part_of es k).0) -ℤ pos (own_worth j e)))) (sym ((Decides-eqb i dim).0 is))
            (ap (λ t. only (t && is_same (flags dim e) (leaf dim (part_of es k).0)) (Some (pos (its_worth dim (part_of es k).0) -ℤ pos (own_worth dim e)))) nonzero)
        by i e false is = refl

    -- what a component's cell has more
    more-is : (c t k : ℕ) (es : List ℕ) → IsAt m.space cube es c → is_leaf_cell m.space c ≡ kinds.own → length es ≡ length (axes m.space cube) → IsAt m.space cube (set es dim k) t → is_leaf_cell m.space t ≡ kinds.its
        → pos (measure m q t) -ℤ pos (measure m q c) ≡ start_by_kinds m cube kinds q (Components dim) +ℤ (pos (added its_worth 0 (set es dim k)) -ℤ pos (added own_worth 0 es))
    more-is c t k es at own long there_t its =
        let long_t : length (set es dim k) ≡ length (axes m.space cube) = length-set es dim k ∙ long in
        ap (λ n. pos n -ℤ pos (measure m q c)) (measure-is m q cube kinds.its (set es dim k) t ruled there there_t its long_t)
        ∙ ap (λ n. pos (reading (scale_of m cube kinds.its q) (set es dim k)) -ℤ pos n) (measure-is m q cube kinds.own es c ruled there at own long)
        ∙ difference (scale_of m cube kinds.its q).base (scale_of m cube kinds.own q).base (added its_worth 0 (set es dim k)) (added own_worth 0 es)
      where
        difference : (x y a b : ℕ) → pos (x + a) -ℤ pos (y + b) ≡ (pos x -ℤ pos y) +ℤ (pos a -ℤ pos b)
        difference x y a b = omega (arith, ints)

    number-top : (es : List ℕ) → IsTop (λ k. k < length (parts_by es)) (λ k. plus (number_of es k) (rest es)) (plus (components_number m cube kinds q dim (get_or es dim 0) (flags dim (get_or es dim 0)) (parts_by es)) (rest es))
    number-top es =
        with-rest (λ k. k < length (parts_by es)) (number_of es) (components_number m cube kinds q dim (get_or es dim 0) (flags dim (get_or es dim 0)) (parts_by es)) (rest es) (greatest-top (number_of es) (length (parts_by es)))

  -- whether a component's cell is a leaf cell
  child-leaf : (es : List ℕ) (k t : ℕ) → length es ≡ length (axes m.space cube) → IsAt m.space cube (set es dim k) t
      → all_from (λ i e. is_leaf_element (axes m.space cube) i (other_at dim k i e)) 0 es ≡ is_leaf_cell m.space t
  child-leaf es k t long there_t =
      all-replaced (is_leaf_element (axes m.space cube)) dim k 0 es
      ∙ ap (all_from (is_leaf_element (axes m.space cube)) 0) (replaced-set dim k 0 dim es (omega arith) (omega (arith, long, is_dim)))
      ∙ sym (leaf-all m.space cube (set es dim k) t there_t (length-set es dim k ∙ long))

  pub children-over : (q : ℕ) (kind : Bool) (z : ℤ) → IsAtMost (most_excess m cube statement.area kind (Components dim) q) z
      → Throughout (system_of m) (rule_of m.space cube statement) kind (Components dim) (IsMore m ruled cube there statement is_area q z)
  unfolding system_of
  children-over q kind z h c t of has =
      let (at, own) = cell-of m ruled cube there statement is_area kind c of in
      let es = elements_of m.space c in
      let (k, low, nonzero, at_t) = read-part es c t at own.digits has in
      let its = is_leaf_cell m.space t in
      let kinds : Kinds = record { own = kind; its = its } in
      let flags : ℕ → ℕ → Bool = λ i e. is_leaf_element (axes m.space cube) i (other_at dim (part_of es k).0 i e) in
      let s = start_by_kinds m cube kinds q (Components dim) in
      let gap = pos (added (scale_of m cube its q).worth 0 (set es dim (part_of es k).0)) -ℤ pos (added (scale_of m cube kind q).worth 0 es) in
      let most = most-over m cube statement.area is_area q (Components dim) kind its z h es flags own (child-leaf es (part_of es k).0 t own.long at_t) in
      let sum = up-to s (plus (components_number m cube kinds q dim (get_or es dim 0) (flags dim (get_or es dim 0)) (parts_by es)) (rest q kinds flags es)) z
      (subst (λ a. IsAtMost a z) (children-chosen q kinds flags es own.long) most) in
      let here = (number-top q kinds flags es).over (z -ℤ s) sum k low in
      let same = part-chosen q kinds flags es k own.long nonzero ∙ ap (λ b. only b (Some gap)) (all-self flags 0 es) in
      let shown : (s +ℤ gap) ≤ℤ z = up-from s (Some gap) z (subst (λ a. IsAtMost a (z -ℤ s)) same here) in
      subst (λ n. n ≤ℤ z) (sym (more-is q kinds flags c t (part_of es k).0 es at of.kind_is own.long at_t refl)) shown

  pub children-least : (q : ℕ) (kind : Bool) (z : ℤ)
      → Throughout (system_of m) (rule_of m.space cube statement) kind (Components dim) (IsMore m ruled cube there statement is_area q z)
      → IsAtMost (most_excess m cube statement.area kind (Components dim) q) z
  unfolding system_of
  children-least q kind z h = most-least m cube statement.area is_area q (Components dim) kind z each-low
    where
      each-low : (its : Bool) (es : List ℕ) (flags : ℕ → ℕ → Bool) → IsOf m.space cube statement.area kind es → all_from flags 0 es ≡ its
          → IsAtMost (chosen m cube q (Components dim) (record { own = kind; its = its }) flags es) z
      each-low its es flags own ends = subst (λ a. IsAtMost a z) (sym (children-chosen q kinds flags es own.long))
          (up-from s (plus (components_number m cube kinds q dim (get_or es dim 0) (flags dim (get_or es dim 0)) (parts_by es)) (rest q kinds flags es)) z ((number-top q kinds flags es).least (z -ℤ s) at-part))
        where
          kinds : Kinds
          kinds = record { own = kind; its = its }

          s : ℤ
          s = start_by_kinds m cube kinds q (Components dim)

          gap : ℕ → ℤ
          gap k = pos (added (scale_of m cube its q).worth 0 (set es dim k)) -ℤ pos (added (scale_of m cube kind q).worth 0 es)

          none : (e : ℕ) (k : ℕ) (f : Bool) → is_nonzero (part_of es k).1 ≡ false → plus (component_number m cube kinds q dim e f (part_of es k)) (rest q kinds flags es) ≡ None
          none e k f zero_is = ap (λ t. plus (only (t && is_same f (is_leaf_element (axes m.space cube) dim (part_of es k).0)) (Some (pos ((scale_of m cube its q).worth dim (part_of es k).0) -ℤ pos ((scale_of m cube kind q).worth dim e)))) (rest q kinds flags es)) zero_is

          at-part : (k : ℕ) → k < length (parts_by es) → IsAtMost (plus (number_of q kinds flags es k) (rest q kinds flags es)) (z -ℤ s)
          at-part k low = by (is_nonzero (part_of es k).1) refl
            where
              by : (b : Bool) → is_nonzero (part_of es k).1 ≡ b → IsAtMost (plus (number_of q kinds flags es k) (rest q kinds flags es)) (z -ℤ s)
              by false is = subst (λ a. IsAtMost a (z -ℤ s)) (sym (none (get_or es dim 0) k (flags dim (get_or es dim 0)) is)) tt
              by true is = subst (λ a. IsAtMost a (z -ℤ s)) (sym (part-chosen q kinds flags es k own.long is)) (fitting (are_flags q kinds flags (part_of es k).0 es) refl)
                where
                  fitting : (b : Bool) → are_flags q kinds flags (part_of es k).0 es ≡ b → IsAtMost (only b (Some (gap (part_of es k).0))) (z -ℤ s)
                  fitting false same = tt
                  fitting true same =
                      let (c, at, of) = of-cell m ruled cube there statement is_area kind es own in
                      let (t, has, at_t) = part-read es c k at own.digits low is in
                      let other : ℕ → ℕ → Bool = λ i e. is_leaf_element (axes m.space cube) i (other_at dim (part_of es k).0 i e) in
                      let its_is = sym (child-leaf es (part_of es k).0 t own.long at_t) ∙ sym (all-agree flags other 0 es same) ∙ ends in
                      let low : (s +ℤ gap (part_of es k).0) ≤ℤ z = subst (λ n. n ≤ℤ z) (more-is q kinds flags c t (part_of es k).0 es at of.kind_is own.long at_t its_is) (h c t of has) in
                      up-to s (Some (gap (part_of es k).0)) z low
