-- Where an amount is spread, the cell has it.
use Rattle.std.proofs.Common.{◌≡◌, ◌≢◌, refl, sym, ap, ◌∙◌, subst, arith, ℕ, zero, suc, ◌*◌, ◌≤◌, Bool, true, false, not, ◌||◌, leb, ℤ, pos, negsuc, neg_ℤ, ◌+ℤ◌, ◌*ℤ◌, List, [], ◌∷◌, length, map, get_or, Option, Some, None, All, if◌then◌else◌}
use Rattle.std.specs.Prelude.{is_some, nat_lt}
use Rattle.std.specs.List.{AllZip, list_any}
use Rattle.std.specs.Ordering.{int_eq}
use Rattle.std.proofs.lemmas.Bool.Decides.{Decides-int_eq, not_from_Decides, nat_tests}
use Rattle.std.proofs.lemmas.Int.{ints}
use Rattle.std.proofs.lemmas.List.Elements.{All-head, All-tail, All-nil, All-cons}
use Rattle.cube_fixed.specs.Range.{IsInRange}
use Rattle.cube_fixed.specs.Arithmetic.{fit}
use Rattle.cube_fixed.specs.declared.value.Value.{Value}
use Rattle.cube_fixed.specs.declared.value.Value.TheVariants.{Num}
use Rattle.cube_space.specs.Cells.{IsSpace, is_leaf_cell}
use Rattle.cube_space.specs.Cells as cells
use Rattle.cell_store.specs.declared.entry.Entry.{Entry}
use Rattle.cell_store.specs.Entries.{number_at, after_writes}
use Rattle.dim_weights.specs.Table.{is_nonzero}
use Rattle.dim_weights.proofs.Nonzero.{zero-is}
use Rattle.rule_laws.specs.RuleSystem.{IsCell, SolvesRules, governing, weighted_sum}
use Rattle.rule_laws.proofs.StatementFacts.{value_by-ungoverned}
use Rattle.rule_model.specs.BoundModel.{BoundModel}
use Rattle.rule_model.specs.Governing.{governing_from}
use Rattle.rule_model.specs.System.{system_of}
use Rattle.rule_model.specs.Weights.{weight, leaf_cells, leaves_below}
use Rattle.model_laws.proofs.Below.{among, leaf_cells-are}
use Rattle.model_laws.proofs.Statements.{split, governing-all}
use Rattle.stored_laws.specs.Stored.{stored_in}
use Rattle.stored_laws.proofs.Stored.{value-leaf}
use Rattle.stored_laws.proofs.Sums.{sum-numbers}
use Rattle.stored_laws.proofs.Sums.{sum_of as sum_by}
use Rattle.cell_spread.specs.declared.fault.SpreadFault.{SpreadFault}
use Rattle.cell_spread.specs.declared.fault.SpreadFault.TheVariants.{IsALeaf, SpreadLimit, Weighted, RuleDerived, NothingThere, OverWrite}
use Rattle.cell_spread.specs.declared.writes.How.{How}
use Rattle.cell_spread.specs.declared.writes.How.TheVariants.{Equal, Proportional}
use Rattle.cell_spread.specs.Shares.{sum_of, shared_out}
use Rattle.cell_spread.specs.Spread.{most_spread, cells_below, part_of, parts_of, writes_of, are_in_range, is_weighted, is_governed, is_ruled, refusal_of}
use Rattle.cell_spread.proofs.Governed.{any-map}
use Rattle.cell_spread.proofs.Rounding.{IsNear, shared-sum, shared-near}
use Rattle.cell_spread.proofs.Written.{OfCells, AreZeros, total_at, total-after, below-rises}

-- ---- what is known where nothing is refused

pub record IsSpread (m : BoundModel) (entries : List Entry) (cell : ℕ) (how : How) : Type 0 where
  pub total : is_leaf_cell m.space cell ≡ false
  pub plain : is_weighted m.space cell ≡ false
  pub unruled : is_ruled m cell ≡ false
  pub some : int_eq (sum_of (parts_of m.space entries how cell)) (pos 0) ≡ false

abbrev pub cause : Bool → Bool → ℕ → Bool → Bool → Bool → Bool → Option SpreadFault
cause leaf many n weighted ruled none within =
    if leaf then Some IsALeaf
    else if many then Some (SpreadLimit n)
    else if weighted then Some Weighted
    else if ruled then Some RuleDerived
    else if none then Some NothingThere
    else if within then None
    else Some OverWrite

module _ (m : BoundModel) (entries : List Entry) (cell : ℕ) (amount : ℤ) (how : How) where
  abbrev n : ℕ
  n = length (leaves_below m.space cell)

  pub refusal-is : refusal_of m entries cell amount how ≡ cause (is_leaf_cell m.space cell) (nat_lt most_spread n) n (is_weighted m.space cell) (is_ruled m cell)
      (int_eq (sum_of (parts_of m.space entries how cell)) (pos 0)) (are_in_range (writes_of m.space entries cell amount how))
  unfolding refusal_of
  refusal-is = refl

  pub is-spread : refusal_of m entries cell amount how ≡ None → IsSpread m entries cell how
  is-spread none =
      by (is_leaf_cell m.space cell) (nat_lt most_spread n) (is_weighted m.space cell) (is_ruled m cell) (int_eq (sum_of (parts_of m.space entries how cell)) (pos 0)) refl refl refl refl
      (sym refusal-is ∙ none)
    where
      by : (leaf many weighted ruled nothing : Bool) → is_leaf_cell m.space cell ≡ leaf → is_weighted m.space cell ≡ weighted → is_ruled m cell ≡ ruled → int_eq (sum_of (parts_of m.space entries how cell)) (pos 0) ≡ nothing
          → cause leaf many n weighted ruled nothing (are_in_range (writes_of m.space entries cell amount how)) ≡ None → IsSpread m entries cell how
      by true many weighted ruled nothing a b c d is = absurd (cc)
      by false true weighted ruled nothing a b c d is = absurd (cc)
      by false false true ruled nothing a b c d is = absurd (cc)
      by false false false true nothing a b c d is = absurd (cc)
      by false false false false true a b c d is = absurd (cc)
      by false false false false false a b c d is = record { total = a; plain = b; unruled = c; some = d }

-- ---- tests that fail

or-none : (a b : Bool) → (a || b) ≡ false → (a ≡ false) × (b ≡ false)
or-none true b none = absurd (cc)
or-none false b none = (refl, none)

none-of : {X : Type 0} (p : X → Bool) (xs : List X) → list_any p xs ≡ false → All (λ x. p x ≡ false) xs
none-of p [] none = All-nil (λ x. p x ≡ false)
none-of p (x ∷ xs) none =
    let parts = or-none (p x) (list_any p xs) none in
    All-cons (λ x. p x ≡ false) x xs parts.0 (none-of p xs parts.1)

is-none : (o : Option ℕ) → is_some o ≡ false → o ≡ None
is-none None h = refl
is-none (Some k) h = absurd (cc)

ungoverned : (m : BoundModel) (x : ℕ) → IsCell (system_of m) x → is_governed m x ≡ false → governing (system_of m) x ≡ None
ungoverned m x cell none =
    let no : governing_from m x 0 ≡ None = is-none (governing_from m x 0) none in
    governing-all m x (split m x cell) ∙ rw no refl

-- ---- sums

one-times : (z : ℤ) → pos 1 *ℤ z ≡ z
one-times (pos n) = let e : 1 * n ≡ n = omega arith in ap pos e
one-times (negsuc n) = let e : 1 * suc n ≡ suc n = omega arith in ap (λ (k : ℕ). neg_ℤ (pos k)) e

plain-weight : (w : ℤ) → not (int_eq w (pos 1)) ≡ false → w ≡ pos 1
plain-weight w none = by (int_eq w (pos 1)) refl none
  where
    by : (b : Bool) → int_eq w (pos 1) ≡ b → not b ≡ false → w ≡ pos 1
    by true is none = (Decides-int_eq w (pos 1)).0 is
    by false is none = absurd (cc)

plain-sum : (es : List Entry) (pairs : List (ℕ × ℤ)) → All (λ (pair : ℕ × ℤ). not (int_eq pair.1 (pos 1)) ≡ false) pairs
    → sum_by (λ (pair : ℕ × ℤ). pair.1 *ℤ number_at es pair.0) pairs ≡ total_at es (map (λ (pair : ℕ × ℤ). pair.0) pairs)
plain-sum es [] plain = refl
plain-sum es (pair ∷ pairs) plain =
    let own = plain-weight pair.1 (All-head (λ (pair : ℕ × ℤ). not (int_eq pair.1 (pos 1)) ≡ false) pair pairs plain) in
    let here : pair.1 *ℤ number_at es pair.0 ≡ number_at es pair.0 = ap (λ (w : ℤ). w *ℤ number_at es pair.0) own ∙ one-times (number_at es pair.0) in
    let rest = plain-sum es pairs (All-tail (λ (pair : ℕ × ℤ). not (int_eq pair.1 (pos 1)) ≡ false) pair pairs plain) in
    omega (arith, ints, here, rest)

-- a cell without a part has 0
no-part : (how : How) (entries : List Entry) (x : ℕ) → is_nonzero (part_of how entries x) ≡ false → number_at entries x ≡ pos 0
no-part Equal entries x off = absurd (cc)
no-part Proportional entries x off = zero-is (number_at entries x) off

zeros : (how : How) (entries : List Entry) (xs : List ℕ) → AreZeros (part_of how entries) entries xs
zeros how entries [] = tt
zeros how entries (x ∷ xs) = (no-part how entries x, zeros how entries xs)

near-cells : (a t : ℤ) (some : t ≢ pos 0) (parts ws : List (ℕ × ℤ)) → AllZip (IsNear a t some) parts ws → OfCells parts ws
near-cells a t some [] [] near = tt
near-cells a t some [] (w ∷ ws) near = absurd near
near-cells a t some (part ∷ parts) [] near = absurd near
near-cells a t some (part ∷ parts) (w ∷ ws) near = (near.0.0, near-cells a t some parts ws near.1)

fits : (z : ℤ) → IsInRange z → fit z ≡ Num z
fits z small = let on = within (Rattle.std.proofs.Common.unsigned_abs z) 9000000000000000000 small in rw on refl
  where
    within : (k most : ℕ) → k ≤ most → leb k most ≡ true
    within k most low = grind (arith, nat_tests, low)

-- ---- the value

module _ (m : BoundModel) (entries : List Entry) (cell : ℕ) (amount : ℤ) (how : How) (here : IsCell (system_of m) cell) (small : IsInRange amount) (is : IsSpread m entries cell how) where
  abbrev ws : List (ℕ × ℤ)
  ws = writes_of m.space entries cell amount how

  abbrev after : List Entry
  after = after_writes entries ws

  abbrev parts : List (ℕ × ℤ)
  parts = parts_of m.space entries how cell

  some-sum : sum_of parts ≢ pos 0
  some-sum = not_from_Decides (int_eq (sum_of parts) (pos 0)) (Decides-int_eq (sum_of parts) (pos 0)) is.some

  of-cells : OfCells parts ws
  unfolding writes_of
  of-cells = near-cells amount (sum_of parts) some-sum parts (shared_out amount parts) (shared-near amount parts some-sum)

  sum-is : sum_of ws ≡ amount
  unfolding writes_of
  sum-is = shared-sum amount parts some-sum

  total-is : total_at after (cells_below m.space cell) ≡ amount
  total-is =
      total-after (part_of how entries) (cells_below m.space cell) entries ws (below-rises m.space cell) of-cells (zeros how entries (cells_below m.space cell)) ∙ sum-is

  leaves : All (λ (pair : ℕ × ℤ). cells.IsCell m.space pair.0 × (is_leaf_cell m.space pair.0 ≡ true)) (leaves_below m.space cell)
  leaves = among (weight m.space cell) (λ (pair : ℕ × ℤ). cells.IsCell m.space pair.0 × (is_leaf_cell m.space pair.0 ≡ true)) (leaf_cells m.space) (λ k d less on. leaf_cells-are m.space k d less)

  free : All (λ (pair : ℕ × ℤ). is_governed m pair.0 ≡ false) (leaves_below m.space cell)
  free =
      none-of (λ (pair : ℕ × ℤ). is_governed m pair.0) (leaves_below m.space cell)
      (sym (any-map (is_governed m) (λ (pair : ℕ × ℤ). pair.0) (leaves_below m.space cell)) ∙ (or-none (is_governed m cell) (list_any (is_governed m) (cells_below m.space cell)) is.unruled).1)

  module _ (table : ℕ → Value) (solves : SolvesRules (system_of m) (stored_in after) table) where
    numbers : All (λ (pair : ℕ × ℤ). table pair.0 ≡ Num (number_at after pair.0)) (leaves_below m.space cell)
    unfolding system_of
    numbers k d less =
        let leaf = leaves k d less in
        value-leaf m after table solves (get_or (leaves_below m.space cell) k d).0 leaf.0 (ungoverned m (get_or (leaves_below m.space cell) k d).0 leaf.0 (free k d less)) leaf.1

    summed : weighted_sum table (leaves_below m.space cell) ≡ Num amount
    summed =
        sum-numbers table (number_at after) (leaves_below m.space cell) numbers
        ∙ ap fit (plain-sum after (leaves_below m.space cell) (none-of (λ (pair : ℕ × ℤ). not (int_eq pair.1 (pos 1))) (leaves_below m.space cell) is.plain) ∙ total-is)
        ∙ fits amount small

    pub value-is : table cell ≡ Num amount
    unfolding system_of
    value-is =
        let none = ungoverned m cell here (or-none (is_governed m cell) (list_any (is_governed m) (cells_below m.space cell)) is.unruled).0 in
        let off = is.total in
        solves cell here ∙ value_by-ungoverned (system_of m) (stored_in after) table cell none ∙ rw off summed
