-- A trace has few lines: at most 1,002 for each reference of a statement that is entered.
use Rattle.std.proofs.Common.{◌≡◌, ◌+◌, ◌*◌, ◌^◌, ◌<◌, ◌≤◌, ◌-◌, ℕ, zero, suc, Bool, true, false, not, List, [], ◌∷◌, ◌++◌, Option, Some, None, ℤ, length, take, map, filter, refl, ap, All, if◌then◌else◌, nat_lt, arith, length-append}
use Rattle.std.specs.Prelude.{◌==◌, is_some}
use Rattle.std.specs.List.{list_any}
use Rattle.std.specs.Option.{option_map_or}
use Rattle.std.proofs.Math.Nat.{mul-le-mul_right}
use Rattle.std.proofs.lemmas.List.{length-map}
use Rattle.std.proofs.lemmas.List.Elements.{All-nil, All-cons, All-head, All-tail}
use Rattle.cell_store.specs.declared.entry.Entry.{Entry}
use Rattle.cube_fixed.specs.declared.value.Value.{Value}
use Rattle.cube_fixed.specs.Arithmetic.{is_zero}
use Rattle.cube_space.specs.Cells.{IsCell, cube_of}
use Rattle.cube_space.proofs.Places.{cell-place}
use Rattle.rule_laws.specs.declared.formula.Formula.{Formula}
use Rattle.rule_laws.specs.declared.formula.Formula.TheOpen.{Formula-F, Truth-F}
use Rattle.rule_laws.specs.Meaning.{Precedent, precedents, precedents_step, truth_precedents_step}
use Rattle.rule_laws.specs.RuleSystem.{applies, part_of}
use Rattle.rule_laws.proofs.Folds.{Layers, TruthLayers, by_layers}
use Rattle.rule_model.specs.BoundModel.{BoundModel}
use Rattle.rule_model.specs.Conditions.{AreRules, read_count}
use Rattle.rule_model.specs.System.{rule_of}
use Rattle.rule_model.specs.declared.rules.Statement.{Statement}
use Rattle.cell_trace.specs.declared.entered.Entered.{Entered}
use Rattle.cell_trace.specs.declared.item.Item.{Item}
use Rattle.cell_trace.specs.declared.item.Item.TheVariants as items
use Rattle.cell_trace.specs.declared.line.Line.TheVariants as lines
use Rattle.cell_trace.specs.Trace.{Scene, children_lines, reaches_rest, dimensions_in, formula_of, given, item_lines, items_of, lines_from, most_parts, own_lines, part_lines, scene_of, statements, system, takes_own, trace_lines, value_of}
use Rattle.cell_trace.specs.Visits.{Given, Test, Visit, passed, test_step, visit, visit_step}
use Rattle.cell_trace.specs.Inside.Entering.{entered, entered_lines, entry}
use Rattle.cell_trace.proofs.EnteringFacts.{lines_are_entered}

-- ---- what is read

-- how many of these have lines
abbrev read_in : List (Option Item) → ℕ
read_in [] = 0
read_in (None ∷ rest) = read_in rest
read_in (Some (items.Read target) ∷ rest) = suc (read_in rest)
read_in (Some (items.Children dim) ∷ rest) = suc (read_in rest)
read_in (Some items.Own ∷ rest) = read_in rest
read_in (Some items.Rest ∷ rest) = read_in rest

read_in-append : (xs ys : List (Option Item)) → read_in (xs ++ ys) ≡ read_in xs + read_in ys
read_in-append [] ys = omega arith
read_in-append (None ∷ xs) ys = read_in-append xs ys
read_in-append (Some (items.Read target) ∷ xs) ys = omega (arith, read_in-append xs ys)
read_in-append (Some (items.Children dim) ∷ xs) ys = omega (arith, read_in-append xs ys)
read_in-append (Some items.Own ∷ xs) ys = read_in-append xs ys
read_in-append (Some items.Rest ∷ xs) ys = read_in-append xs ys

read_in-passed : (n : ℕ) → read_in (passed n) ≡ 0
read_in-passed zero = refl
read_in-passed (suc n) = read_in-passed n

module _ (g : Given) where
  abbrev nothing : Formula-F (Unit {0}) (Unit {0}) → Unit {0}
  nothing l = tt

  abbrev nothing_of : Truth-F (Unit {0}) (Unit {0}) → Unit {0}
  nothing_of l = tt

  pub record IsFew (items : List (Option Item)) (references : ℕ) (reads : List Precedent) : Type 0 where
    pub counted : references ≡ length reads
    pub few : read_in items ≤ references

  abbrev Of : Visit → List Precedent → Unit {0} → Type 0
  Of v reads x = IsFew v.items v.references reads

  abbrev OfTest : Test → List Precedent → Unit {0} → Type 0
  OfTest t reads x = IsFew t.items t.references reads

  both : (xs ys : List (Option Item)) (m n : ℕ) (p q : List Precedent) → IsFew xs m p → IsFew ys n q → IsFew (xs ++ ys) (m + n) (p ++ q)
  both xs ys m n p q a b = record {
    counted = omega (arith, length-append p q, a.counted, b.counted);
    few = omega (arith, read_in-append xs ys, a.few, b.few);
  }

  over : (n : ℕ) (p : List Precedent) → n ≡ length p → IsFew (passed n) n p
  over n p is = record { counted = is; few = omega (arith, read_in-passed n) }

  either : (b : Bool) (xs ys : List (Option Item)) (n : ℕ) (p : List Precedent) → IsFew xs n p → IsFew ys n p → IsFew (if b then xs else ys) n p
  either true xs ys n p a b = a
  either false xs ys n p a b = b

  children : (dim : ℕ) (b : Bool) → read_in (if b then Some (items.Children dim) ∷ [] else None ∷ Some items.Own ∷ []) ≤ 1
  children dim true = omega arith
  children dim false = omega arith

  regroup : (xs : List (Option Item)) (k m n : ℕ) (p q r : List Precedent) → IsFew xs (k + (m + n)) (p ++ (q ++ r)) → IsFew xs (k + (m + n)) ((p ++ q) ++ r)
  regroup xs k m n p q r a = record {
    counted = omega (arith, a.counted, length-append p (q ++ r), length-append q r, length-append (p ++ q) r, length-append p q);
    few = a.few;
  }

  layers : Layers (visit_step g) test_step precedents_step truth_precedents_step nothing nothing_of Of OfTest
  layers (Formula-F.Number k) = record { counted = refl; few = omega arith }
  layers Formula-F.Stet = record { counted = refl; few = omega arith }
  layers Formula-F.Continue = record { counted = refl; few = omega arith }
  layers (Formula-F.Children dim) = record { counted = refl; few = children dim (g.has_components dim) }
  layers (Formula-F.Ref r) = record { counted = refl; few = omega arith }
  layers (Formula-F.Table dim table) = record { counted = refl; few = omega arith }
  layers (Formula-F.Binary op a b) = both a.x.items b.x.items a.x.references b.x.references a.y b.y a.holds b.holds
  layers (Formula-F.Unary function a) = a.holds
  layers (Formula-F.If t a b) =
      let m = a.x.references in
      let n = b.x.references in
      let taken = if t.x.holds then a.x.items ++ passed n else passed m ++ b.x.items in
      regroup (t.x.items ++ taken) t.x.references m n t.y a.y b.y
      (both t.x.items taken t.x.references (m + n) t.y (a.y ++ b.y) t.holds
      (either t.x.holds (a.x.items ++ passed n) (passed m ++ b.x.items) (m + n) (a.y ++ b.y)
      (both a.x.items (passed n) m n a.y b.y a.holds (over n b.y b.holds.counted))
      (both (passed m) b.x.items m n a.y b.y (over m a.y a.holds.counted) b.holds)))

  truths : TruthLayers (visit_step g) test_step precedents_step truth_precedents_step nothing nothing_of Of OfTest
  truths (Truth-F.Compare rel a b) = both a.x.items b.x.items a.x.references b.x.references a.y b.y a.holds b.holds
  truths (Truth-F.And a b) =
      let n = b.x.references in
      both a.x.items (if a.x.holds then b.x.items else passed n) a.x.references n a.y b.y a.holds (either a.x.holds b.x.items (passed n) n b.y b.holds (over n b.y b.holds.counted))
  truths (Truth-F.Or a b) =
      let n = b.x.references in
      both a.x.items (if a.x.holds then passed n else b.x.items) a.x.references n a.y b.y a.holds (either a.x.holds (passed n) b.x.items n b.y (over n b.y b.holds.counted) b.holds)
  truths (Truth-F.Not a) = a.holds

  read_few : (f : Formula) → read_in (visit g f).items ≤ length (precedents f)
  read_few f =
      let all = by_layers (visit_step g) test_step precedents_step truth_precedents_step nothing nothing_of Of OfTest layers truths f in
      omega (arith, all.few, all.counted)

-- ---- lines

taken : {A : Type 0} (n : ℕ) (xs : List A) → length (take n xs) ≤ n
taken zero xs = omega arith
taken (suc n) [] = omega arith
taken (suc n) (x ∷ xs) = omega (arith, taken n xs)

parts_few : (values : ℕ → Value) (cells : List (ℕ × ℤ)) → length (part_lines values cells) ≤ 1001
parts_few values cells =
    let line = λ (pair : ℕ × ℤ). lines.Part (record { cell = pair.0; weight = pair.1; value = values pair.0 }) in
    let more = if nat_lt most_parts (length cells) then lines.More (length cells - most_parts) ∷ [] else [] in
    let first = length-map (take most_parts cells) line in
    omega (arith, length-append (map line (take most_parts cells)) more, first, taken most_parts cells, by (nat_lt most_parts (length cells)))
  where
    by : (b : Bool) → length (if b then lines.More (length cells - most_parts) ∷ [] else []) ≤ 1
    by true = omega arith
    by false = omega arith

module _ (s : Scene) where
  children_few : (seen : List ℕ) (dim : ℕ) → length (children_lines s seen dim) ≤ 1002
  children_few seen dim = omega (arith, by (list_any (λ d. d == dim) seen) ((system s).components s.cell dim))
    where
      by : (b : Bool) (o : Option (List (ℕ × ℤ))) → length (if b then [] else option_map_or (part_lines s.values) o []) ≤ 1001
      by true o = omega arith
      by false None = omega arith
      by false (Some pairs) = parts_few s.values pairs

  own_few : length (own_lines s) ≤ 1002
  own_few = by ((system s).is_leaf s.cell)
    where
      by : (leaf : Bool) → length (if leaf then lines.Input (is_some (s.stored s.cell)) ∷ [] else lines.Sum ∷ part_lines s.values (filter (λ (pair : ℕ × ℤ). not (is_zero (s.values pair.0))) ((system s).below s.cell))) ≤ 1002
      by true = omega arith
      by false = omega (arith, parts_few s.values (filter (λ (pair : ℕ × ℤ). not (is_zero (s.values pair.0))) ((system s).below s.cell)))

  items_few : (seen : List ℕ) (number : ℕ) (visited : List (Option Item)) → length (item_lines s seen number visited) ≤ 1002 * read_in visited
  items_few seen number [] = omega arith
  items_few seen number (None ∷ rest) = items_few seen (suc number) rest
  items_few seen number (Some (items.Read o) ∷ rest) = omega (arith, items_few seen (suc number) rest)
  items_few seen number (Some (items.Children dim) ∷ rest) =
      omega (arith, length-append (children_lines s seen dim) (item_lines s (dim ∷ seen) (suc number) rest), children_few seen dim, items_few (dim ∷ seen) (suc number) rest)
  items_few seen number (Some items.Own ∷ rest) = items_few seen number rest
  items_few seen number (Some items.Rest ∷ rest) = items_few seen number rest

  -- ---- statements

  module _ (most : ℕ) where
    -- a statement that reads at most so much
    abbrev ReadsFew : Statement → Type 0
    ReadsFew statement = read_count statement.leaf + read_count statement.cons ≤ most

    abbrev IsShort : Entered → Type 0
    IsShort one = read_in one.visited ≤ most

    formula_few : (statement : Statement) (f : Formula) → ReadsFew statement → formula_of s statement ≡ Some f → length (precedents f) ≤ most
    formula_few statement f few is =
        by (applies (system s) s.cell (rule_of s.model.space (cube_of s.model.space s.cell) statement)) ((system s).is_leaf s.cell) is
      where
        by : (b leaf : Bool) → (if b then part_of (rule_of s.model.space (cube_of s.model.space s.cell) statement) leaf else None) ≡ Some f → length (precedents f) ≤ most
        by true true is = let own = ap read_count is in omega (arith, own, few)
        by true false is = let own = ap read_count is in omega (arith, own, few)
        by false leaf is = absurd (cc)

    entered_short : (place : ℕ) (rules : List Statement) → All ReadsFew rules → All IsShort (entered s place rules)
    entered_short place [] all = All-nil IsShort
    entered_short place (statement ∷ later) all = by (formula_of s statement) refl (entered_short (suc place) later (All-tail ReadsFew statement later all))
      where
        go : (b : Bool) → All IsShort (entered s (suc place) later) → All IsShort (if b then entered s (suc place) later else [])
        go true rest = rest
        go false rest = All-nil IsShort

        by : (o : Option Formula) → formula_of s statement ≡ o → All IsShort (entered s (suc place) later)
            → All IsShort (option_map_or (λ f. entry s place statement later f ∷ (if reaches_rest (items_of s later f) then entered s (suc place) later else [])) o (entered s (suc place) later))
        by None is rest = rest
        by (Some f) is rest =
            All-cons IsShort (entry s place statement later f) (if reaches_rest (items_of s later f) then entered s (suc place) later else [])
            (let own = formula_few statement f (All-head ReadsFew statement later all) is in omega (arith, read_few (given s (value_of s later)) f, own)) (go (reaches_rest (items_of s later f)) rest)

    entered_few : (place : ℕ) (rules : List Statement) → length (entered s place rules) ≤ length rules
    entered_few place [] = omega arith
    entered_few place (statement ∷ later) = by (formula_of s statement) (entered_few (suc place) later)
      where
        go : (b : Bool) → length (entered s (suc place) later) ≤ length later → length (if b then entered s (suc place) later else []) ≤ length later
        go true rest = rest
        go false rest = omega arith

        by : (o : Option Formula) → length (entered s (suc place) later) ≤ length later
            → length (option_map_or (λ f. entry s place statement later f ∷ (if reaches_rest (items_of s later f) then entered s (suc place) later else [])) o (entered s (suc place) later)) ≤ suc (length later)
        by None rest = omega arith
        by (Some f) rest = let after = go (reaches_rest (items_of s later f)) rest in omega (arith, after)

    lines_few : (seen : List ℕ) (these : List Entered) → All IsShort these → length (entered_lines s seen these) ≤ length these * (1 + 1002 * most)
    lines_few seen [] all = omega arith
    lines_few seen (one ∷ rest) all =
        let number = one.first in
        let own = item_lines s seen number one.visited in
        let more = entered_lines s (dimensions_in one.visited ++ seen) rest in
        omega (arith, length-append own more, items_few seen number one.visited, All-head IsShort one rest all, lines_few (dimensions_in one.visited ++ seen) rest (All-tail IsShort one rest all))

    trace_few : All ReadsFew (statements s) → length (trace_lines s) ≤ length (statements s) * (1 + 1002 * most) + 1002
    trace_few all =
        let these = entered s 0 (statements s) in
        let last = if takes_own s (statements s) then own_lines s else [] in
        let own = lines_from s [] 0 (statements s) in
        let same = ap (λ ls. length ls) (lines_are_entered s [] 0 (statements s)) in
        let wide = mul-le-mul_right (1 + 1002 * most) (entered_few 0 (statements s)) in
        omega (arith, length-append own last, same, lines_few [] these (entered_short 0 (statements s) all), wide, by (takes_own s (statements s)))
      where
        by : (b : Bool) → length (if b then own_lines s else []) ≤ 1002
        by true = own_few
        by false = omega arith

-- the lines of a trace are so few that their number in digits tells them
pub few_lines : (m : BoundModel) (stored : List Entry) (cell : ℕ) → AreRules m.space m.rules → IsCell m.space cell → length (trace_lines (scene_of m stored cell)) < 10 ^ 60
few_lines m stored cell rules is_cell =
    let own = rules.cube (cube_of m.space cell) (cell-place m.space cell is_cell).place.there in
    let s = scene_of m stored cell in
    let few = trace_few s (2 ^ 32) (λ k d low. let reads = (own.statements k d low).few_read in omega (arith, reads)) in
    let wide = mul-le-mul_right {m = length (statements s)} {n = 2 ^ 32} (1 + 1002 * 2 ^ 32) (omega (arith, own.few_statements)) in
    omega (arith, few, wide)
