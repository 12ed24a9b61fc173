-- The most that a cell which is read has more bounds just what each cell that a reference names has more than its cell.
use Rattle.std.proofs.Common.{◌≡◌, refl, sym, ap, ◌∙◌, arith, subst, ℕ, ◌+◌, ◌<◌, Bool, true, false, not, ◌&&◌, ℤ, pos, neg_ℤ, ◌+ℤ◌, ◌-ℤ◌, ◌≤ℤ◌, Option, Some, None, List, length, ◌==◌}
use Rattle.std.specs.Prelude.{option_map, option_and_then}
use Rattle.std.proofs.lemmas.Int.{ints}
use Rattle.std.proofs.lemmas.Bool.{eq-eqb, and_parts, and_from}
use Rattle.std.proofs.lemmas.Bool.Decides.{Decides-eqb}
use Rattle.cube_space.specs.Radix.{are_digits}
use Rattle.cube_space.specs.Layout.{axes, sizes}
use Rattle.cube_space.specs.Cells.{cube_of, elements_of, cell_number, is_leaf_cell}
use Rattle.rule_laws.specs.declared.reference.Reference.{Reference}
use Rattle.rule_laws.specs.Meaning.{Named}
use Rattle.rule_laws.specs.Ordered.{IsCellOf, Throughout}
use Rattle.rule_model.specs.declared.rules.Statement.{Statement}
use Rattle.rule_model.specs.BoundModel.{BoundModel}
use Rattle.rule_model.specs.Areas.{in_area, in_sets}
use Rattle.rule_model.specs.Targets.{elements_by, target}
use Rattle.rule_model.specs.System.{system_of, rule_of}
use Rattle.rule_model.specs.Conditions.{IsArea, IsReference, AreRules}
use Rattle.order_laws.specs.Greatest.{plus, IsAtMost, sum_from, only}
use Rattle.order_laws.specs.Scales.{Scale, scale_of, fixed_sum, moved_sum}
use Rattle.order_laws.specs.Earlier.{Kinds, is_same, fixed_leaves, moved_leaves, start_by_kinds, most_excess}
use Rattle.order_laws.proofs.SumFacts.{sum-plus, sum-only, plus-only, all_from}
use Rattle.order_laws.proofs.ReferenceFacts.{AllFollow, added, reading, taken-sum, named-sum}
use Rattle.order_laws.proofs.SetFacts.{follow-all, named-digits}
use Rattle.order_laws.proofs.LeafFacts.{all-self, all-agree, named-leaves}
use Rattle.order_laws.proofs.CellFacts.{IsAt, IsOf, not-not, axes-sizes, cell-there, number-there, cell-digits, digits-long, leaf-is, leaf-all, measure, measure-is}
use Rattle.order_laws.proofs.KindFacts.{chosen, most-over, most-least}

-- a statement of a cube, and what its formulas read
module _ (m : BoundModel) (ruled : AreRules m.space m.rules) (cube : ℕ) (there : cube < length m.space.cubes)
    (statement : Statement) (is_area : IsArea m.space cube statement.area) where
  -- the cells that the statement is for are those of such elements
  pub cell-of : (kind : Bool) (c : ℕ) → IsCellOf (system_of m) (rule_of m.space cube statement) kind c → IsAt m.space cube (elements_of m.space c) c × IsOf m.space cube statement.area kind (elements_of m.space c)
  unfolding system_of
  cell-of kind c of =
      let parts = and_parts (cube == cube_of m.space c) (in_area m.space statement.area c) of.applied in
      let own : cube ≡ cube_of m.space c = (Decides-eqb cube (cube_of m.space c)).0 parts.0 in
      let at : IsAt m.space cube (elements_of m.space c) c = record { cell = of.cell; own = sym own; elements = refl } in
      let digits = subst (λ k. are_digits (sizes m.space k) (elements_of m.space c) ≡ true) (sym own) (cell-digits m.space c of.cell) in
      let long = digits-long m.space cube (elements_of m.space c) digits in
      let leaf = leaf-is m.space cube (elements_of m.space c) c at long in
      (at, record { long = long; digits = digits; inside = parts.1; kind_is = sym (not-not _) ∙ ap not (sym leaf ∙ of.kind_is) })

  pub of-cell : (kind : Bool) (es : List ℕ) → IsOf m.space cube statement.area kind es → (c : ℕ) × IsAt m.space cube es c × IsCellOf (system_of m) (rule_of m.space cube statement) kind c
  unfolding system_of
  of-cell kind es of =
      let found = cell-there m.space cube es there of.digits in
      let at : IsAt m.space cube es found.0 = found.1 in
      let leaf = leaf-is m.space cube es found.0 at of.long in (
        found.0,
        at,
        record {
          cell = at.cell;
          kind_is = leaf ∙ ap not of.kind_is ∙ not-not kind;
          applied = and_from _ _ (eq-eqb cube (cube_of m.space found.0) (sym at.own)) (ap (in_sets statement.area.sets) at.elements ∙ of.inside);
        },
      )

  -- ---- references

  abbrev pub named_flags : Reference → ℕ → ℕ → Bool
  named_flags r = moved_leaves (axes m.space r.cube) 0 r.args

  follow-there : (r : Reference) (es : List ℕ) → IsReference m.space cube r → length es ≡ length (axes m.space cube) → AllFollow (length es) r.args
  follow-there r es is long = subst (λ n. AllFollow n r.args) (axes-sizes m.space cube ∙ sym long) (follow-all (sizes m.space cube) (sizes m.space r.cube) r.args is.1)

  -- what a named cell has more than its cell
  abbrev named_gap : ℕ → Reference → Kinds → List ℕ → Option ℤ
  named_gap q r kinds es = option_map (λ ts. pos (reading (scale_of m r.cube kinds.its q) ts) -ℤ pos (reading (scale_of m cube kinds.own q) es)) (elements_by es r.args)

  reference-gap : (q : ℕ) (r : Reference) (kinds : Kinds) (es : List ℕ) → IsReference m.space cube r → length es ≡ length (axes m.space cube)
      → plus (Some (start_by_kinds m cube kinds q (Named r))) (sum_from (λ i e. plus (moved_sum (scale_of m r.cube kinds.its q).worth 0 r.args i e) (Some (neg_ℤ (pos ((scale_of m cube kinds.own q).worth i e))))) 0 es)
      ≡ named_gap q r kinds es
  reference-gap q r kinds es is long =
      let its = scale_of m r.cube kinds.its q in
      let own = scale_of m cube kinds.own q in
      let parted = sum-plus (moved_sum its.worth 0 r.args) (λ i e. Some (neg_ℤ (pos (own.worth i e)))) 0 es in
      let taken = taken-sum own.worth 0 es in
      ap (plus (Some (start_by_kinds m cube kinds q (Named r)))) (parted ∙ ap (plus (sum_from (moved_sum its.worth 0 r.args) 0 es)) taken)
      ∙ regroup its own (fixed_sum its.worth 0 r.args) (sum_from (moved_sum its.worth 0 r.args) 0 es) (added own.worth 0 es) es (elements_by es r.args) (named-sum its.worth 0 r.args es (follow-there r es is long))
    where
      regroup : (its own : Scale) (fixed : ℕ) (moved : Option ℤ) (k : ℕ) (es : List ℕ) (named : Option (List ℕ)) → plus (Some (pos fixed)) moved ≡ option_map (λ ts. pos (added its.worth 0 ts)) named
          → plus (Some (pos (its.base + fixed) -ℤ pos own.base)) (plus moved (Some (neg_ℤ (pos k)))) ≡ option_map (λ ts. pos (its.base + added its.worth 0 ts) -ℤ pos (own.base + k)) named
      regroup its own fixed None k es None h = refl
      regroup its own fixed None k es (Some ts) h = absurd (cc)
      regroup its own fixed (Some a) k es None h = absurd (cc)
      regroup its own fixed (Some a) k es (Some ts) h =
          let same : pos fixed +ℤ a ≡ pos (added its.worth 0 ts) = cc in
          let all : (pos (its.base + fixed) -ℤ pos own.base) +ℤ (a +ℤ neg_ℤ (pos k)) ≡ pos (its.base + added its.worth 0 ts) -ℤ pos (own.base + k) = omega (arith, ints, same) in
          ap Some all

  -- what elements add up to is there where the flags are those of what they name
  reference-chosen : (q : ℕ) (r : Reference) (kinds : Kinds) (flags : ℕ → ℕ → Bool) (es : List ℕ) → IsReference m.space cube r → length es ≡ length (axes m.space cube)
      → chosen m cube q (Named r) kinds flags es ≡ only (all_from (λ i e. is_same (flags i e) (named_flags r i e)) 0 es) (named_gap q r kinds es)
  reference-chosen q r kinds flags es is long =
      let number : ℕ → ℕ → Option ℤ = λ i e. plus (moved_sum (scale_of m r.cube kinds.its q).worth 0 r.args i e) (Some (neg_ℤ (pos ((scale_of m cube kinds.own q).worth i e)))) in
      let test : ℕ → ℕ → Bool = λ i e. is_same (flags i e) (named_flags r i e) in
      ap (plus (Some (start_by_kinds m cube kinds q (Named r)))) (sum-only test number 0 es)
      ∙ plus-only (start_by_kinds m cube kinds q (Named r)) (all_from test 0 es) (sum_from number 0 es)
      ∙ ap (only (all_from test 0 es)) (reference-gap q r kinds es is long)

  -- whether the named cell is a leaf cell
  named-leaf : (r : Reference) (es ts : List ℕ) (t : ℕ) → IsReference m.space cube r → length es ≡ length (axes m.space cube) → elements_by es r.args ≡ Some ts → IsAt m.space r.cube ts t → length ts ≡ length (axes m.space r.cube)
      → fixed_leaves (axes m.space r.cube) 0 r.args && all_from (named_flags r) 0 es ≡ is_leaf_cell m.space t
  named-leaf r es ts t is long named there_t long_t =
      named-leaves (axes m.space r.cube) 0 r.args es ts (follow-there r es is long) named ∙ sym (leaf-all m.space r.cube ts t there_t long_t)

  -- at most this more is what the cells that a precedent has have
  abbrev pub IsMore : ℕ → ℤ → ℕ → ℕ → Type 0
  IsMore q z c t = (pos (measure m q t) -ℤ pos (measure m q c)) ≤ℤ z

  pub target-at : (r : Reference) (c t : ℕ) (es : List ℕ) → IsReference m.space cube r → IsAt m.space cube es c → length es ≡ length (axes m.space cube) → target m.space r c ≡ Some t
      → (ts : List ℕ) × (elements_by es r.args ≡ Some ts) × IsAt m.space r.cube ts t × (length ts ≡ length (axes m.space r.cube))
  unfolding target
  target-at r c t es is at long names = by (elements_by es r.args) refl (ap (λ x. option_and_then (cell_number m.space r.cube) (elements_by x r.args)) (sym at.elements) ∙ names)
    where
      by : (named : Option (List ℕ)) → elements_by es r.args ≡ named → option_and_then (cell_number m.space r.cube) named ≡ Some t
          → (ts : List ℕ) × (elements_by es r.args ≡ Some ts) × IsAt m.space r.cube ts t × (length ts ≡ length (axes m.space r.cube))
      by None e h = absurd (cc)
      by (Some ts) e h =
          let digits = named-digits (sizes m.space cube) (sizes m.space r.cube) r.args es ts (long ∙ sym (axes-sizes m.space cube)) is.1 e in
          (ts, e, number-there m.space r.cube ts t is.0 digits h, digits-long m.space r.cube ts digits)

  pub at-target : (r : Reference) (c : ℕ) (es ts : List ℕ) → IsReference m.space cube r → IsAt m.space cube es c → length es ≡ length (axes m.space cube) → elements_by es r.args ≡ Some ts
      → (t : ℕ) × (target m.space r c ≡ Some t) × IsAt m.space r.cube ts t × (length ts ≡ length (axes m.space r.cube))
  unfolding target
  at-target r c es ts is at long named =
      let digits = named-digits (sizes m.space cube) (sizes m.space r.cube) r.args es ts (long ∙ sym (axes-sizes m.space cube)) is.1 named in
      let found = cell-there m.space r.cube ts is.0 digits in
      (found.0, ap (λ x. option_and_then (cell_number m.space r.cube) (elements_by x r.args)) at.elements ∙ ap (option_and_then (cell_number m.space r.cube)) named ∙ found.2, found.1, digits-long m.space r.cube ts digits)

  pub reference-over : (q : ℕ) (r : Reference) (kind : Bool) (z : ℤ) → IsReference m.space cube r → IsAtMost (most_excess m cube statement.area kind (Named r) q) z
      → Throughout (system_of m) (rule_of m.space cube statement) kind (Named r) (IsMore q z)
  unfolding system_of
  reference-over q r kind z is h c t of names =
      let (at, own) = cell-of kind c of in
      let es = elements_of m.space c in
      let (ts, named, there_t, long_t) = target-at r c t es is at own.long names in
      let its = is_leaf_cell m.space t in
      let kinds : Kinds = record { own = kind; its = its } in
      let low = most-over m cube statement.area is_area q (Named r) kind its z h es (named_flags r) own (named-leaf r es ts t is own.long named there_t long_t) in
      let same = reference-chosen q r kinds (named_flags r) es is own.long ∙ ap (λ b. only b (named_gap q r kinds es)) (all-self (named_flags r) 0 es)
      ∙ ap (option_map (λ ts. pos (reading (scale_of m r.cube its q) ts) -ℤ pos (reading (scale_of m cube kind q) es))) named in
      subst (λ n. (pos n -ℤ pos (measure m q c)) ≤ℤ z) (sym (measure-is m q r.cube its ts t ruled is.0 there_t refl long_t))
      (subst (λ n. (pos (reading (scale_of m r.cube its q) ts) -ℤ pos n) ≤ℤ z) (sym (measure-is m q cube kind es c ruled there at of.kind_is own.long)) (subst (λ s. IsAtMost s z) same low))

  pub reference-least : (q : ℕ) (r : Reference) (kind : Bool) (z : ℤ) → IsReference m.space cube r
      → Throughout (system_of m) (rule_of m.space cube statement) kind (Named r) (IsMore q z) → IsAtMost (most_excess m cube statement.area kind (Named r) q) z
  unfolding system_of
  reference-least q r kind z is h = most-least m cube statement.area is_area q (Named r) kind z each-low
    where
      each-low : (its : Bool) (es : List ℕ) (flags : ℕ → ℕ → Bool) → IsOf m.space cube statement.area kind es → fixed_leaves (axes m.space r.cube) 0 r.args && all_from flags 0 es ≡ its
          → IsAtMost (chosen m cube q (Named r) (record { own = kind; its = its }) flags es) z
      each-low its es flags own ends = subst (λ s. IsAtMost s z) (sym (reference-chosen q r (record { own = kind; its = its }) flags es is own.long))
          (by (all_from (λ i e. is_same (flags i e) (named_flags r i e)) 0 es) refl (elements_by es r.args) refl)
        where
          by : (b : Bool) → all_from (λ i e. is_same (flags i e) (named_flags r i e)) 0 es ≡ b → (named : Option (List ℕ)) → elements_by es r.args ≡ named
              → IsAtMost (only b (option_map (λ ts. pos (reading (scale_of m r.cube its q) ts) -ℤ pos (reading (scale_of m cube kind q) es)) named)) z
          by false same named e = tt
          by true same None e = tt
          by true same (Some ts) e =
              let (c, at, of) = of-cell kind es own in
              let (t, names, there_t, long_t) = at-target r c es ts is at own.long e in
              let leaf = sym (named-leaf r es ts t is own.long e there_t long_t) ∙ ap (λ b. fixed_leaves (axes m.space r.cube) 0 r.args && b) (sym (all-agree flags (named_flags r) 0 es same)) ∙ ends in
              subst (λ n. (pos n -ℤ pos (reading (scale_of m cube kind q) es)) ≤ℤ z) (measure-is m q r.cube its ts t ruled is.0 there_t leaf long_t)
              (subst (λ n. (pos (measure m q t) -ℤ pos n) ≤ℤ z) (measure-is m q cube kind es c ruled there at of.kind_is own.long) (h c t of names))
