-- How sums begin, and one step of them.
use Rattle.std.proofs.Common.{unsigned_abs, get_or, w64, to_z, of_z, ◌≡◌, refl, sym, ◌∙◌, ap, subst, arith, ℕ, suc, ◌+◌, ◌<◌, ◌≤◌, leb, Bool, true, false, ℤ, pos, List, [], ◌∷◌, length, filter, Option, Some, None}
use Rattle.std.specs.Prelude.{unwrap_or}
use Rattle.std.specs.List.{All}
use Rattle.std.specs.Option.{option_map_or}
use Rattle.std.proofs.lemmas.Bool.Decides.{nat_tests}
use Rattle.std.proofs.lemmas.List.{length-map}
use Rattle.cell_store.specs.declared.entry.Entry.{Entry}
use Rattle.cell_store.specs.Entries.{cells_of, number_at}
use Rattle.cell_versions.specs.Versions.{NumberedVersion}
use Rattle.cube_fixed.specs.declared.value.Value.{Value}
use Rattle.cube_fixed.specs.declared.value.Value.TheVariants.{Num}
use Rattle.cube_fixed.specs.Arithmetic.{zero_value}
use Rattle.cube_fixed.specs.Total.{Total, no_terms, with_term, value_of as total_of}
use Rattle.cube_space.specs.Cells.{IsCell, is_leaf_cell}
use Rattle.cube_space.specs.Layout.{Layout}
use Rattle.dim_core.specs.Outline.{IsWeight, most_components}
use Rattle.dim_weights.specs.Table.{is_nonzero}
use Rattle.memo_cells.specs.Knowledge.{IsNumber}
use Rattle.rule_evaluate.specs.declared.ask.Ask.TheVariants.{Value as of_value, Base as of_base, Children as of_children}
use Rattle.rule_model.specs.Governing.{governing_from}
use Rattle.rule_model.specs.Targets.{parts_at, with_components, with_element_at}
use Rattle.rule_model.specs.Weights.{most_weight_product}
use Rattle.sparse_sum.specs.Live.{live_below}
use Rattle.sparse_sum.specs.Walking.{Progress, begun, left}
use Rattle.sparse_sum.proofs.Placed.{word-is}
use Rattle.stored_laws.specs.Stored.{stored_in}
use Rattle.stored_laws.proofs.Stored.{stored-number}
use Rattle.cell_values.specs.declared.frames.LeafSum.{LeafSum}
use Rattle.cell_values.specs.declared.frames.ComponentSum.{ComponentSum}
use Rattle.cell_values.specs.Reading.{value_on}
use Rattle.cell_values.specs.Inside.Questions.{values_of, work_on, cost_on, components_on, leaves_on, is_grounded}
use Rattle.cell_values.specs.Inside.Sums.{IsSum, Advances, Stops, sum_on}
use Rattle.cell_values.specs.Inside.Frames.{leaves_left, components_left}
use Rattle.cell_values.specs.Inside.Sound.{IsSound}
use Rattle.cell_values.proofs.Values.{ungoverned-value}
use Rattle.cell_values.proofs.SumFacts.{base-sum, children-sum, base-work, total-work, children-work, advances-same, advances-term, advances-end, component-end, component-zero, component-none, component-some}
pub use Rattle.sparse_sum.proofs.Totals.{all-left as left-all}

-- the number of a cell is small
pub small-number : (v : NumberedVersion) (c : ℕ) → IsSound v → IsCell v.model.space c → IsNumber c
small-number v c sound is_cell = let size = sound.space.size in omega (arith, size, is_cell)

-- what is stored, as a value
pub number-or : (o : Option ℤ) → Num (unwrap_or o (pos 0)) ≡ option_map_or Num o zero_value
number-or None = refl
number-or (Some z) = refl

pub stored-or : (entries : List Entry) (c : ℕ) (o : Option ℤ) → o ≡ stored_in entries c → Num (unwrap_or o (pos 0)) ≡ Num (number_at entries c)
stored-or entries c o is = number-or o ∙ ap (λ (o : Option ℤ). option_map_or Num o zero_value) is ∙ stored-number entries c

least : (n : ℕ) → leb 0 n ≡ true
least n = grind (arith, nat_tests)

-- the same walk over the parts of a version
pub left-same : (v : NumberedVersion) (space : Layout) (entries : List Entry) (fed : List ℕ) (w : Progress) → space ≡ v.model.space → entries ≡ v.stored → fed ≡ v.fed
    → left space (cells_of entries) fed w ≡ left v.model.space (cells_of v.stored) v.fed w
left-same v space entries fed w a b c =
    ap (λ (s : Layout). left s (cells_of entries) fed w) a
    ∙ ap (λ (es : List Entry). left v.model.space (cells_of es) fed w) b
    ∙ ap (λ (fs : List ℕ). left v.model.space (cells_of v.stored) fs w) c

module _ (v : NumberedVersion) (c : ℕ) where
  pub all-leaves : live_below v.model.space (cells_of v.stored) v.fed c ≡ leaves_on v c
  unfolding leaves_on
  all-leaves = refl

  pub leaves-all : (s : LeafSum) → s.walk ≡ begun c → leaves_left v s ≡ leaves_on v c
  leaves-all s is = ap (left v.model.space (cells_of v.stored) v.fed) is ∙ left-all v.model.space (cells_of v.stored) v.fed c ∙ all-leaves

  pub leaves-begin : (s : LeafSum) → IsSound v → IsCell v.model.space c → is_leaf_cell v.model.space c ≡ false
      → length (live_below v.model.space (cells_of v.stored) v.fed c) ≤ length (cells_of v.stored) + length v.fed
      → s.walk ≡ begun c → IsSum v s.walk.total (leaves_left v s) (of_base c)
  leaves-begin s sound is_cell total few is =
      let whole = leaves-all s is in
      let start : s.walk.total ≡ no_terms = ap (λ (w : Progress). w.total) is in
      let long : length (leaves_left v s) ≡ length (live_below v.model.space (cells_of v.stored) v.fed c) = ap length (whole ∙ sym all-leaves) in
      let terms : s.walk.total.terms ≡ 0 = ap (λ (t : Total). t.terms) start in
      let cells : length (cells_of v.stored) ≡ length v.stored = length-map v.stored (λ e. e.cell) in
      let most = sound.few_stored in
      let fed = sound.few_fed in
      record {
        sum = ap (λ (t : Total). sum_on v t (leaves_left v s)) start ∙ ap (sum_on v no_terms) whole ∙ base-sum v sound.space sound.rules sound.accepted sound.fed c is_cell total;
        room = omega (arith, long, terms, cells, most, fed, few);
      }

  pub base-left : (s : LeafSum) → IsSound v → IsCell v.model.space c → is_leaf_cell v.model.space c ≡ false → leaves_left v s ≡ leaves_on v c → cost_on v (values_of (leaves_left v s)) < work_on v (of_base c)
  base-left s sound is_cell total whole =
      let less = base-work v sound.space sound.rules sound.accepted c is_cell total in
      let same : cost_on v (values_of (leaves_left v s)) ≡ cost_on v (values_of (leaves_on v c)) = ap (λ (pairs : List (ℕ × ℤ)). cost_on v (values_of pairs)) whole in
      omega (arith, less, same)

  pub total-left : (s : LeafSum) → IsSound v → IsCell v.model.space c → is_leaf_cell v.model.space c ≡ false → leaves_left v s ≡ leaves_on v c → cost_on v (values_of (leaves_left v s)) < work_on v (of_value c)
  total-left s sound is_cell total whole =
      let less = total-work v sound.space sound.rules sound.accepted c is_cell total in
      let same : cost_on v (values_of (leaves_left v s)) ≡ cost_on v (values_of (leaves_on v c)) = ap (λ (pairs : List (ℕ × ℤ)). cost_on v (values_of pairs)) whole in
      omega (arith, less, same)

  -- the sum below an ungoverned cell is its value
  pub total-sum : (total : Total) (pairs : List (ℕ × ℤ)) → IsSound v → IsCell v.model.space c → governing_from v.model c 0 ≡ None → IsSum v total pairs (of_base c) → IsSum v total pairs (of_value c)
  total-sum total pairs sound is_cell none is =
      record { sum = is.sum ∙ sym (ungoverned-value v sound.space sound.rules sound.accepted c is_cell none); room = is.room }

  parts-few : (d : ℕ) (parts : List (ℕ × ℤ)) → length (filter (λ pair. is_nonzero pair.1) (with_components v.model.space c d parts)) ≤ length parts
  parts-few d [] = omega arith
  parts-few d (part ∷ parts) = by (with_element_at v.model.space c d part.0) refl (is_nonzero part.1) refl (parts-few d parts)
    where
      by : (o : Option ℕ) → with_element_at v.model.space c d part.0 ≡ o → (b : Bool) → is_nonzero part.1 ≡ b
          → length (filter (λ pair. is_nonzero pair.1) (with_components v.model.space c d parts)) ≤ length parts
          → length (filter (λ pair. is_nonzero pair.1) (with_components v.model.space c d (part ∷ parts))) ≤ length (part ∷ parts)
      by None is b test rest = rw is (omega (arith, rest))
      by (Some x) is true test rest = rw (is, test) (omega (arith, rest))
      by (Some x) is false test rest = rw (is, test) (omega (arith, rest))

  components-few : (d : ℕ) → length (components_on v c d 0) ≤ length (parts_at v.model.space c d)
  unfolding components_on
  components-few d = parts-few d (parts_at v.model.space c d)

  pub components-begin : (s : ComponentSum) (d : ℕ) → IsCell v.model.space c → 0 < length (parts_at v.model.space c d) → length (parts_at v.model.space c d) ≤ most_components
      → s.cell ≡ c → s.dim ≡ d → s.sum ≡ no_terms → s.next ≡ 0 → IsSum v s.sum (components_left v s) (of_children c d) × (components_left v s ≡ components_on v c d 0)
  components-begin s d is_cell some few cell dim start first =
      let whole : components_left v s ≡ components_on v c d 0 =
      ap (λ (x : ℕ). components_on v x s.dim s.next) cell ∙ ap (λ (k : ℕ). components_on v c k s.next) dim ∙ ap (components_on v c d) first in
      let long : length (components_left v s) ≡ length (components_on v c d 0) = ap length whole in
      let terms : s.sum.terms ≡ 0 = ap (λ (t : Total). t.terms) start in
      let fewer = components-few d in (
        record {
          sum = ap (λ (t : Total). sum_on v t (components_left v s)) start ∙ ap (sum_on v no_terms) whole ∙ children-sum v c d some;
          room = omega (arith, long, terms, fewer, few);
        },
        whole,
      )

  pub components-left_less : (s : ComponentSum) (d : ℕ) → is_grounded v c d ≡ true → components_left v s ≡ components_on v c d 0 → cost_on v (values_of (components_left v s)) < work_on v (of_children c d)
  components-left_less s d grounded whole =
      let less = children-work v c d grounded in
      let same : cost_on v (values_of (components_left v s)) ≡ cost_on v (values_of (components_on v c d 0)) = ap (λ (pairs : List (ℕ × ℤ)). cost_on v (values_of pairs)) whole in
      omega (arith, less, same)

-- ---- components

-- how a sum goes on by the parts that are read, from the next of them on
module _ (v : NumberedVersion) (begun s : ComponentSum) (space : Layout) (parts : List (ℕ × ℤ)) (on : space ≡ v.model.space) (read : parts ≡ parts_at space begun.cell begun.dim)
    (cell : s.cell ≡ begun.cell) (dim : s.dim ≡ begun.dim) (so_far : Advances v begun.sum (components_left v begun) s.sum (components_left v s)) where
  abbrev Reaches : Total → List (ℕ × ℤ) → Type 0
  Reaches = Advances v begun.sum (components_left v begun)

  abbrev rest : List (ℕ × ℤ)
  rest = components_on v s.cell s.dim (s.next + 1)

  are : parts ≡ parts_at v.model.space s.cell s.dim
  are =
      read ∙ ap (λ (l : Layout). parts_at l begun.cell begun.dim) on
      ∙ ap (λ (x : ℕ). parts_at v.model.space x begun.dim) (sym cell)
      ∙ ap (parts_at v.model.space s.cell) (sym dim)

  pub all-added : length parts ≤ s.next → total_of s.sum ≡ sum_on v begun.sum (components_left v begun)
  all-added past =
      advances-end v begun.sum (components_left v begun) s.sum (components_left v s) so_far
      (component-end v s.cell s.dim s.next (subst (λ (ps : List (ℕ × ℤ)). length ps ≤ s.next) are past))

  module _ (weights : All (λ pair. IsWeight pair.1) parts) (low : s.next < length parts) where
    abbrev part : ℕ × ℤ
    part = get_or parts s.next (0, pos 0)

    abbrev word : ℕ
    word = of_z w64 part.1

    abbrev own : ℕ × ℤ
    own = get_or (parts_at v.model.space s.cell s.dim) s.next (0, pos 0)

    within : s.next < length (parts_at v.model.space s.cell s.dim)
    within = subst (λ (ps : List (ℕ × ℤ)). s.next < length ps) are low

    same : own ≡ part
    same = ap (λ (ps : List (ℕ × ℤ)). get_or ps s.next (0, pos 0)) (sym are)

    found : with_element_at v.model.space s.cell s.dim own.0 ≡ with_element_at space s.cell s.dim part.0
    found = ap (λ (l : Layout). with_element_at l s.cell s.dim own.0) (sym on) ∙ ap (λ (p : ℕ × ℤ). with_element_at space s.cell s.dim p.0) same

    small : unsigned_abs part.1 ≤ 1000000
    small = weights s.next (0, pos 0) low

    weight : to_z w64 word ≡ part.1
    weight = word-is part.1 (omega (arith, small))

    later : components_on v s.cell s.dim (suc s.next) ≡ rest
    later = ap (components_on v s.cell s.dim) (let e : suc s.next ≡ s.next + 1 = omega arith in e)

    skip : components_left v s ≡ components_on v s.cell s.dim (suc s.next) → Reaches s.sum rest
    skip next = advances-same v begun.sum (components_left v begun) s.sum s.sum (components_left v s) rest so_far (next ∙ later) refl

    pub skip-zero : word ≡ 0 → Reaches s.sum rest
    skip-zero none = skip (component-zero v s.cell s.dim s.next within (0, pos 0) (ap (λ (p : ℕ × ℤ). p.1) same ∙ sym weight ∙ ap (to_z w64) none))

    pub skip-none : with_element_at space s.cell s.dim part.0 ≡ None → Reaches s.sum rest
    skip-none none = skip (component-none v s.cell s.dim s.next within (0, pos 0) (found ∙ none))

    module _ (x : ℕ) (is : with_element_at space s.cell s.dim part.0 ≡ Some x) (counts : word ≡ 0 → ⊥) where
      next : components_left v s ≡ (x, to_z w64 word) ∷ rest
      next =
          component-some v s.cell s.dim s.next within (0, pos 0) x (found ∙ is) (λ none. counts (ap (λ (p : ℕ × ℤ). of_z w64 p.1) (sym same) ∙ ap (of_z w64) none))
          ∙ ap (λ (z : ℤ). (x, z) ∷ components_on v s.cell s.dim (suc s.next)) (ap (λ (p : ℕ × ℤ). p.1) same ∙ sym weight)
          ∙ ap (λ (pairs : List (ℕ × ℤ)). (x, to_z w64 word) ∷ pairs) later

      pub step-some : (after : Total) (value : Value) → after ≡ with_term s.sum (to_z w64 word) value → value ≡ value_on v x → Reaches after rest
      step-some after value term known =
          advances-term v begun.sum (components_left v begun) s.sum after (components_left v s) rest x (to_z w64 word) so_far next (term ∙ ap (with_term s.sum (to_z w64 word)) known)

      pub stop-some : IsCell space x → Stops v begun.sum (components_left v begun) s.sum (to_z w64 word) rest x
      stop-some is_cell = record {
        is_cell = subst (λ (l : Layout). IsCell l x) on is_cell;
        size = subst (λ (z : ℤ). unsigned_abs z ≤ most_weight_product) (sym weight) (omega (arith, small));
        advances = advances-same v begun.sum (components_left v begun) s.sum s.sum (components_left v s) ((x, to_z w64 word) ∷ rest) so_far next refl;
      }
