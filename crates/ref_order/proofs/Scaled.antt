-- Kinds whose scales are the same.
use Rattle.std.proofs.Common.{◌≡◌, refl, sym, ap, ◌∙◌, arith, ℕ, zero, suc, ◌≤◌, Bool, true, false, nat_lt, ℤ, pos, Option, Some, None, List}
use Rattle.std.specs.Prelude.{◌==◌, ◌&&◌, ◌-ℤ◌, neg_ℤ, if◌then◌else◌, slice_index_or, length, unwrap_or}
use Rattle.std.proofs.lemmas.Bool.{ltb-true}
use Rattle.dim_weights.specs.Table.{is_nonzero}
use Rattle.cube_space.specs.Layout.{axes, sizes}
use Rattle.rule_laws.specs.Meaning.{Precedent, Named, Components}
use Rattle.rule_model.specs.declared.area.Area.{Area}
use Rattle.rule_model.specs.declared.order.Order.{Order}
use Rattle.rule_model.specs.declared.order.Position.{Position}
use Rattle.rule_model.specs.declared.order.Position.TheVariants.{Constant}
use Rattle.rule_model.specs.BoundModel.{BoundModel, rules_of}
use Rattle.rule_model.specs.Order.{most_positions, positions_for, position_of}
use Rattle.order_laws.specs.Greatest.{plus, larger, greatest, only}
use Rattle.order_laws.specs.Scales.{Scale, scale_of, position_scale, level_scale, moved_sum, parts_in, set_count, set_element, is_leaf_element}
use Rattle.order_laws.specs.Excess.{read_cube}
use Rattle.order_laws.specs.Earlier.{Kinds, is_same, moved_leaves, number_by_kinds, greatest_of_kinds}

-- ---- where kinds don't matter

-- as the level
pub alike_late : (m : BoundModel) (cube : ℕ) (a b : Bool) (place : ℕ) → 8 ≤ place → scale_of m cube a place ≡ scale_of m cube b place
unfolding scale_of
alike_late m cube a b place late = by (nat_lt place most_positions) refl
  where
    by : (t : Bool) → nat_lt place most_positions ≡ t → (if t then position_scale (position_of m cube a place) else level_scale (axes m.space cube)) ≡ (if t then position_scale (position_of m cube b place) else level_scale (axes m.space cube))
    by true e = absurd (omega (arith, ltb-true place most_positions e, late))
    by false e = refl

one-list : (order : Order) (kind : Bool) → order.totals ≡ None → positions_for kind order ≡ order.positions
one-list order true none = refl
one-list order false none = ap (λ (t : Option (List Position)). unwrap_or t order.positions) none

-- and where the cube has one order
pub alike_none : (m : BoundModel) (cube : ℕ) (a b : Bool) (place : ℕ) → (rules_of m cube).order.totals ≡ None → scale_of m cube a place ≡ scale_of m cube b place
unfolding scale_of
alike_none m cube a b place none =
    let order = (rules_of m cube).order in
    ap (λ (ps : List Position). if nat_lt place most_positions then position_scale (slice_index_or ps place (Constant 0)) else level_scale (axes m.space cube)) (one-list order a none ∙ sym (one-list order b none))

-- ---- numbers by scales

-- the greatest of equal numbers
pub greatest-alike : (f g : ℕ → Option ℤ) (n : ℕ) → ((k : ℕ) → f k ≡ g k) → greatest f n ≡ greatest g n
greatest-alike f g zero same = refl
greatest-alike f g (suc n) same = ap (λ x. larger x (greatest f n)) (same n) ∙ ap (larger (g n)) (greatest-alike f g n same)

module _ (m : BoundModel) (cube place i e : ℕ) (leaf : Bool) where
  abbrev by_scales : Precedent → Scale → Scale → Option ℤ
  by_scales (Named r) its own =
      only (is_same leaf (moved_leaves (axes m.space r.cube) 0 r.args i e))
      (plus (moved_sum its.worth 0 r.args i e) (Some (neg_ℤ (pos (own.worth i e)))))
  by_scales (Components dim) its own = if i == dim
      then greatest (λ k. only (is_nonzero (slice_index_or (parts_in (axes m.space cube) dim e) k (0, pos 0)).1 && is_same leaf (is_leaf_element (axes m.space cube) dim (slice_index_or (parts_in (axes m.space cube) dim e) k (0, pos 0)).0))
      (Some (pos (its.worth dim (slice_index_or (parts_in (axes m.space cube) dim e) k (0, pos 0)).0) -ℤ pos (own.worth dim e)))) (length (parts_in (axes m.space cube) dim e))
      else only (is_same leaf (is_leaf_element (axes m.space cube) i e)) (Some (pos (its.worth i e) -ℤ pos (own.worth i e)))

  scaled : (kinds : Kinds) (p : Precedent) → number_by_kinds m cube kinds place p i e leaf ≡ by_scales p (scale_of m (read_cube cube p) kinds.its place) (scale_of m cube kinds.own place)
  scaled kinds (Named r) = refl
  scaled kinds (Components dim) = refl

  numbers-scaled : (one other : Kinds) (p : Precedent) → scale_of m cube one.own place ≡ scale_of m cube other.own place → scale_of m (read_cube cube p) one.its place ≡ scale_of m (read_cube cube p) other.its place
      → number_by_kinds m cube one place p i e leaf ≡ number_by_kinds m cube other place p i e leaf
  numbers-scaled one other p own its =
      scaled one p ∙ ap (λ s. by_scales p s (scale_of m cube one.own place)) its ∙ ap (by_scales p (scale_of m (read_cube cube p) other.its place)) own ∙ sym (scaled other p)

pub answers-scaled : (m : BoundModel) (cube : ℕ) (area : Area) (one other : Kinds) (place : ℕ) (p : Precedent) (i : ℕ) → scale_of m cube one.own place ≡ scale_of m cube other.own place
    → scale_of m (read_cube cube p) one.its place ≡ scale_of m (read_cube cube p) other.its place → (here : Kinds) → greatest_of_kinds m cube area one place p i here ≡ greatest_of_kinds m cube area other place p i here
answers-scaled m cube area one other place p i own its here =
    let set : Option (List ℕ) = slice_index_or area.sets i None in
    let size = slice_index_or (sizes m.space cube) i 0 in
    let test = λ (k : ℕ). is_same here.own (is_leaf_element (axes m.space cube) i (set_element set k)) in
    greatest-alike (λ k. only (test k) (number_by_kinds m cube one place p i (set_element set k) here.its)) (λ k. only (test k) (number_by_kinds m cube other place p i (set_element set k) here.its)) (set_count size set)
    (λ k. ap (only (test k)) (numbers-scaled m cube place i (set_element set k) here.its one other p own its))
