-- The lines of a trace name what is there.
use Rattle.std.proofs.Common.{◌≡◌, ◌++◌, ◌∷◌, ◌-◌, ℕ, suc, Bool, true, false, not, List, [], Option, Some, None, ℤ, length, take, map, filter, refl, sym, subst, All, if◌then◌else◌, nat_lt}
use Rattle.std.specs.Prelude.{◌==◌, is_some}
use Rattle.std.specs.List.{list_any}
use Rattle.std.specs.Option.{option_map_or}
use Rattle.std.proofs.lemmas.List.Elements.{All-nil, All-cons, All-head, All-tail, All-append, All-map, All-take, All-filter}
use Rattle.cell_store.specs.declared.entry.Entry.{Entry}
use Rattle.cube_fixed.specs.Arithmetic.{is_zero}
use Rattle.cube_space.specs.Cells.{IsCell, IsSpace}
use Rattle.rule_laws.specs.declared.formula.Formula.{Formula}
use Rattle.rule_model.specs.BoundModel.{BoundModel}
use Rattle.rule_model.specs.Conditions.{AreRules}
use Rattle.rule_model.specs.System.{system_of}
use Rattle.rule_model.specs.declared.rules.Statement.{Statement}
use Rattle.cell_trace.specs.declared.entered.Entered.{Entered}
use Rattle.cell_trace.specs.declared.item.Item.{Item}
use Rattle.cell_trace.specs.declared.item.Item.TheVariants as items
use Rattle.cell_trace.specs.declared.line.Line.{Line}
use Rattle.cell_trace.specs.declared.line.Line.TheVariants as lines
use Rattle.cell_trace.specs.Lines.{IsLineOf}
use Rattle.cell_trace.specs.Trace.{Scene, children_lines, reaches_rest, dimensions_in, formula_of, item_lines, items_of, lines_from, most_parts, own_lines, part_lines, read_line, scene_of, statements, system, takes_own, trace_lines}
use Rattle.cell_trace.specs.Inside.Entering.{entered, entered_lines, entry}
use Rattle.cell_trace.proofs.EnteringFacts.{lines_are_entered}
use Rattle.cell_trace.proofs.ItemFacts.{Names, IsItem, items_are, names}

module _ (s : Scene) (n : Names (system_of s.model) s.model.space s.cell) where
  abbrev Is : Line → Type 0
  Is line = IsLineOf s.model.space s.cell line

  abbrev Of : Option Item → Type 0
  Of item = IsItem s.model.space s.cell item

  abbrev AreCells : List (ℕ × ℤ) → Type 0
  AreCells pairs = All (λ pair. IsCell s.model.space pair.0) pairs

  none : All Is []
  none = All-nil Is

  front : (line : Line) (rest : List Line) → Is line → All Is rest → All Is (line ∷ rest)
  front line rest = All-cons Is line rest

  rest_of : (b : Bool) (count : ℕ) → All Is (if b then lines.More count ∷ [] else [])
  rest_of true count = front (lines.More count) [] tt none
  rest_of false count = none

  parts : (pairs : List (ℕ × ℤ)) → AreCells pairs → All Is (part_lines s.values pairs)
  parts pairs cells =
      All-append Is (map (λ pair. lines.Part (record { cell = pair.0; weight = pair.1; value = s.values pair.0 })) (take most_parts pairs))
      (if nat_lt most_parts (length pairs) then lines.More (length pairs - most_parts) ∷ [] else [])
      (All-map Is (λ pair. lines.Part (record { cell = pair.0; weight = pair.1; value = s.values pair.0 })) (take most_parts pairs) (All-take (λ pair. IsCell s.model.space pair.0) most_parts pairs cells))
      (rest_of (nat_lt most_parts (length pairs)) (length pairs - most_parts))

  -- the leaf cells below that aren't 0
  abbrev sum : List (ℕ × ℤ)
  sum = filter (λ (pair : ℕ × ℤ). not (is_zero (s.values pair.0))) ((system s).below s.cell)

  own : All Is (own_lines s)
  own = by ((system s).is_leaf s.cell)
    where
      by : (leaf : Bool) → All Is (if leaf then lines.Input (is_some (s.stored s.cell)) ∷ [] else lines.Sum ∷ part_lines s.values sum)
      by true = front (lines.Input (is_some (s.stored s.cell))) [] tt none
      by false =
          front lines.Sum (part_lines s.values sum) tt
          (parts sum (All-filter (λ (pair : ℕ × ℤ). not (is_zero (s.values pair.0))) (λ pair. IsCell s.model.space pair.0) ((system s).below s.cell) n.below))

  children : (seen : List ℕ) (dim : ℕ) → Of (Some (items.Children dim)) → All Is (children_lines s seen dim)
  children seen dim is = front (lines.Children dim) (if list_any (λ d. d == dim) seen then [] else option_map_or (part_lines s.values) ((system s).components s.cell dim) []) is
      (by (list_any (λ d. d == dim) seen) ((system s).components s.cell dim) refl)
    where
      by : (b : Bool) (o : Option (List (ℕ × ℤ))) → (system s).components s.cell dim ≡ o → All Is (if b then [] else option_map_or (part_lines s.values) o [])
      by true o is = none
      by false None is = none
      by false (Some pairs) is = parts pairs (n.components dim pairs is)

  read : (number : ℕ) (o : Option ℕ) → Of (Some (items.Read o)) → Is (read_line s number o)
  read number None is = tt
  read number (Some x) is = is

  of_items : (seen : List ℕ) (number : ℕ) (visited : List (Option Item)) → All Of visited → All Is (item_lines s seen number visited)
  of_items seen number [] all = none
  of_items seen number (None ∷ rest) all = of_items seen (suc number) rest (All-tail Of None rest all)
  of_items seen number (Some (items.Read o) ∷ rest) all =
      front (read_line s number o) (item_lines s seen (suc number) rest) (read number o (All-head Of (Some (items.Read o)) rest all))
      (of_items seen (suc number) rest (All-tail Of (Some (items.Read o)) rest all))
  of_items seen number (Some (items.Children dim) ∷ rest) all =
      All-append Is (children_lines s seen dim) (item_lines s (dim ∷ seen) (suc number) rest) (children seen dim (All-head Of (Some (items.Children dim)) rest all))
      (of_items (dim ∷ seen) (suc number) rest (All-tail Of (Some (items.Children dim)) rest all))
  of_items seen number (Some items.Own ∷ rest) all = of_items seen number rest (All-tail Of (Some items.Own) rest all)
  of_items seen number (Some items.Rest ∷ rest) all = of_items seen number rest (All-tail Of (Some items.Rest) rest all)

  abbrev Visits : Entered → Type 0
  Visits one = All Of one.visited

  all_visits : (place : ℕ) (rules : List Statement) → All Visits (entered s place rules)
  all_visits place [] = All-nil Visits
  all_visits place (statement ∷ later) = by (formula_of s statement) (all_visits (suc place) later)
    where
      go : (b : Bool) → All Visits (entered s (suc place) later) → All Visits (if b then entered s (suc place) later else [])
      go true all = all
      go false all = All-nil Visits

      by : (o : Option Formula) → All Visits (entered s (suc place) later)
          → All Visits (option_map_or (λ f. entry s place statement later f ∷ (if reaches_rest (items_of s later f) then entered s (suc place) later else [])) o (entered s (suc place) later))
      by None all = all
      by (Some f) all =
          All-cons Visits (entry s place statement later f) (if reaches_rest (items_of s later f) then entered s (suc place) later else [])
          (items_are s later f n) (go (reaches_rest (items_of s later f)) all)

  of_entered : (seen : List ℕ) (these : List Entered) → All Visits these → All Is (entered_lines s seen these)
  of_entered seen [] all = none
  of_entered seen (one ∷ rest) all =
      let own = item_lines s seen one.first one.visited in
      let more = entered_lines s (dimensions_in one.visited ++ seen) rest in
      front (lines.Rule (suc one.place)) (own ++ more) tt
      (All-append Is own more (of_items seen one.first one.visited (All-head Visits one rest all))
      (of_entered (dimensions_in one.visited ++ seen) rest (All-tail Visits one rest all)))

  last : (b : Bool) → All Is (if b then own_lines s else [])
  last true = own
  last false = none

  of_statements : All Is (lines_from s [] 0 (statements s))
  of_statements =
      subst (All Is) (sym (lines_are_entered s [] 0 (statements s))) (of_entered [] (entered s 0 (statements s)) (all_visits 0 (statements s)))

  of_scene : All Is (trace_lines s)
  of_scene =
      All-append Is (lines_from s [] 0 (statements s)) (if takes_own s (statements s) then own_lines s else []) of_statements (last (takes_own s (statements s)))

pub lines_are : (m : BoundModel) (stored : List Entry) (cell : ℕ) → IsSpace m.space → AreRules m.space m.rules → IsCell m.space cell
    → All (IsLineOf m.space cell) (trace_lines (scene_of m stored cell))
lines_are m stored cell valid rules is_cell = of_scene (scene_of m stored cell) (names m cell valid rules is_cell)
