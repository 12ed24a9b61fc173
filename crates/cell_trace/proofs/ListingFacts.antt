-- The lines of what evaluation reaches, one item after another, and of statements, one after another.
use Rattle.std.proofs.Common.{◌≡◌, refl, sym, ap, ◌∙◌, arith, ℕ, suc, ◌+◌, Bool, true, false, ◌||◌, eqb, List, [], ◌∷◌, ◌++◌, append_assoc, Option, Some, None}
use Rattle.std.specs.Prelude.{if◌then◌else◌, reverse}
use Rattle.std.specs.List.{list_any}
use Rattle.std.proofs.lemmas.List.{reverse-append}
use Rattle.cell_values.specs.Reading.{value_on}
use Rattle.rule_model.specs.System.{system_of}
use Rattle.cell_trace.specs.declared.entered.Entered.{Entered}
use Rattle.cell_trace.specs.declared.item.Item.{Item}
use Rattle.cell_trace.specs.declared.item.Item.TheVariants.{Read, Children, Own, Rest}
use Rattle.cell_trace.specs.declared.line.Line.{Line}
use Rattle.cell_trace.specs.declared.line.Line.TheVariants as lines
use Rattle.cell_trace.specs.Trace.{dimensions_in, statements, trace_lines}
use Rattle.cell_trace.specs.Inside.Chain.{entered_from, takes_from}
use Rattle.cell_trace.specs.Inside.Items.{AreSameDimensions, entered_lines_at, item_lines_at, lines_of, number_after, numbered, seen_after}
use Rattle.cell_trace.specs.Inside.Parts.{own_lines_at, part_lines_at}
use Rattle.cell_trace.specs.Inside.Place.{Place, scene_at}
use Rattle.cell_trace.proofs.EnteringFacts.{lines_are_entered}

-- ---- the dimensions that are seen

same_behind : (front one two : List ℕ) → AreSameDimensions one two → AreSameDimensions (front ++ one) (front ++ two)
same_behind [] one two same dim = same dim
same_behind (d ∷ front) one two same dim = ap (λ b. eqb d dim || b) (same_behind front one two same dim)

swapped : (a b c : Bool) → (a || (b || c)) ≡ (b || (a || c))
swapped true true c = refl
swapped true false c = refl
swapped false b c = refl

-- a dimension may stand behind others
moved : (d : ℕ) (front seen : List ℕ) → AreSameDimensions (front ++ d ∷ seen) (d ∷ (front ++ seen))
moved d [] seen dim = refl
moved d (e ∷ front) seen dim = ap (λ b. eqb e dim || b) (moved d front seen dim) ∙ swapped (eqb e dim) (eqb d dim) (list_any (λ x. eqb x dim) (front ++ seen))

seen_moved : (x : Option Item) (rest : List (Option Item)) (seen : List ℕ) → AreSameDimensions (dimensions_in rest ++ seen_after seen x) (dimensions_in (x ∷ rest) ++ seen)
seen_moved None rest seen dim = refl
seen_moved (Some (Read target)) rest seen dim = refl
seen_moved (Some (Children d)) rest seen dim = moved d (dimensions_in rest) seen dim
seen_moved (Some Own) rest seen dim = refl
seen_moved (Some Rest) rest seen dim = refl

pub after_seen : (x : Option Item) (rest : List (Option Item)) (seen seen' whole : List ℕ) → AreSameDimensions (dimensions_in (x ∷ rest) ++ seen) whole
    → AreSameDimensions seen' (seen_after seen x) → AreSameDimensions (dimensions_in rest ++ seen') whole
after_seen x rest seen seen' whole before same dim =
    same_behind (dimensions_in rest) seen' (seen_after seen x) same dim ∙ seen_moved x rest seen dim ∙ before dim

-- ---- the numbers of references

pub after_number : (n : ℕ) (x : Option Item) (rest : List (Option Item)) → number_after n x + numbered rest ≡ n + numbered (x ∷ rest)
after_number n None rest = omega arith
after_number n (Some (Read target)) rest = omega arith
after_number n (Some (Children dim)) rest = omega arith
after_number n (Some Own) rest = refl
after_number n (Some Rest) rest = refl

module _ (p : Place) where
  -- ---- the lines of items

  first_item : (seen : List ℕ) (n : ℕ) (x : Option Item) (rest : List (Option Item))
      → item_lines_at p seen n (x ∷ rest) ≡ lines_of p seen n x ++ item_lines_at p (seen_after seen x) (number_after n x) rest
  unfolding item_lines_at part_lines_at value_on system_of
  first_item seen n None rest = refl
  first_item seen n (Some (Read None)) rest = refl
  first_item seen n (Some (Read (Some x))) rest = refl
  first_item seen n (Some (Children dim)) rest = refl
  first_item seen n (Some Own) rest = refl
  first_item seen n (Some Rest) rest = refl

  lines_same : (one two : List ℕ) → AreSameDimensions one two → (n : ℕ) (x : Option Item) → lines_of p one n x ≡ lines_of p two n x
  lines_same one two same n None = refl
  lines_same one two same n (Some (Read target)) = refl
  lines_same one two same n (Some (Children dim)) = ap (λ b. lines.Children dim ∷ (if b then [] else part_lines_at p dim)) (same dim)
  lines_same one two same n (Some Own) = refl
  lines_same one two same n (Some Rest) = refl

  seen_same : (one two : List ℕ) → AreSameDimensions one two → (x : Option Item) → AreSameDimensions (seen_after one x) (seen_after two x)
  seen_same one two same None dim = same dim
  seen_same one two same (Some (Read target)) dim = same dim
  seen_same one two same (Some (Children d)) dim = ap (λ b. eqb d dim || b) (same dim)
  seen_same one two same (Some Own) dim = same dim
  seen_same one two same (Some Rest) dim = same dim

  none : (one two : List ℕ) (n : ℕ) → item_lines_at p one n [] ≡ item_lines_at p two n []
  unfolding item_lines_at
  none one two n = refl

  items_same : (one two : List ℕ) → AreSameDimensions one two → (n : ℕ) (xs : List (Option Item)) → item_lines_at p one n xs ≡ item_lines_at p two n xs
  items_same one two same n [] = none one two n
  items_same one two same n (x ∷ rest) =
      let later = items_same (seen_after one x) (seen_after two x) (seen_same one two same x) (number_after n x) rest in
      first_item one n x rest ∙ ap (λ ls. ls ++ item_lines_at p (seen_after one x) (number_after n x) rest) (lines_same one two same n x)
      ∙ ap (λ ls. lines_of p two n x ++ ls) later ∙ sym (first_item two n x rest)

  pub after_item : (x : Option Item) (rest : List (Option Item)) (n : ℕ) (seen seen' : List ℕ) (before after whole : List Line)
      → before ++ item_lines_at p seen n (x ∷ rest) ≡ whole → after ≡ before ++ lines_of p seen n x → AreSameDimensions seen' (seen_after seen x)
      → after ++ item_lines_at p seen' (number_after n x) rest ≡ whole
  after_item x rest n seen seen' before after whole ahead is same =
      let later = items_same seen' (seen_after seen x) same (number_after n x) rest in
      ap (λ ls. ls ++ item_lines_at p seen' (number_after n x) rest) is
      ∙ append_assoc before (lines_of p seen n x) (item_lines_at p seen' (number_after n x) rest)
      ∙ ap (λ ls. before ++ (lines_of p seen n x ++ ls)) later
      ∙ ap (λ ls. before ++ ls) (sym (first_item seen n x rest)) ∙ ahead

  pub no_items : (seen : List ℕ) (n : ℕ) → item_lines_at p seen n [] ≡ []
  unfolding item_lines_at
  no_items seen n = refl

  -- ---- the lines of statements

  first_entered : (seen : List ℕ) (one : Entered) (rest : List Entered)
      → entered_lines_at p seen (one ∷ rest) ≡ lines.Rule (suc one.place) ∷ (item_lines_at p seen one.first one.visited ++ entered_lines_at p (dimensions_in one.visited ++ seen) rest)
  unfolding entered_lines_at item_lines_at
  first_entered seen one rest = refl

  pub no_entered : (seen : List ℕ) → entered_lines_at p seen [] ≡ []
  unfolding entered_lines_at
  no_entered seen = refl

  entered_same : (one two : List ℕ) → AreSameDimensions one two → (es : List Entered) → entered_lines_at p one es ≡ entered_lines_at p two es
  entered_same one two same [] = no_entered one ∙ sym (no_entered two)
  entered_same one two same (e ∷ rest) =
      let own = items_same one two same e.first e.visited in
      let later = entered_same (dimensions_in e.visited ++ one) (dimensions_in e.visited ++ two) (same_behind (dimensions_in e.visited) one two same) rest in
      first_entered one e rest ∙ ap (λ ls. lines.Rule (suc e.place) ∷ (ls ++ entered_lines_at p (dimensions_in e.visited ++ one) rest)) own
      ∙ ap (λ ls. lines.Rule (suc e.place) ∷ (item_lines_at p two e.first e.visited ++ ls)) later ∙ sym (first_entered two e rest)

  pub after_entered : (one : Entered) (rest : List Entered) (seen seen' : List ℕ) (before headed after whole : List Line)
      → before ++ entered_lines_at p seen (one ∷ rest) ≡ whole → headed ≡ before ++ lines.Rule (one.place + 1) ∷ []
      → after ≡ headed ++ item_lines_at p seen one.first one.visited → AreSameDimensions seen' (dimensions_in one.visited ++ seen)
      → after ++ entered_lines_at p seen' rest ≡ whole
  after_entered one rest seen seen' before headed after whole ahead head is same =
      let own = item_lines_at p seen one.first one.visited in
      let later = entered_same seen' (dimensions_in one.visited ++ seen) same rest in
      let next : one.place + 1 ≡ suc one.place = omega arith in
      ap (λ ls. ls ++ entered_lines_at p seen' rest) (is ∙ ap (λ ls. ls ++ own) head)
      ∙ append_assoc (before ++ lines.Rule (one.place + 1) ∷ []) own (entered_lines_at p seen' rest)
      ∙ append_assoc before (lines.Rule (one.place + 1) ∷ []) (own ++ entered_lines_at p seen' rest)
      ∙ ap (λ n. before ++ lines.Rule n ∷ (own ++ entered_lines_at p seen' rest)) next
      ∙ ap (λ ls. before ++ lines.Rule (suc one.place) ∷ (own ++ ls)) later
      ∙ ap (λ ls. before ++ ls) (sym (first_entered seen one rest)) ∙ ahead

-- all lines
pub trace_is : (p : Place) (on : Bool) (entered : List Entered) → on ≡ takes_from p 0 → entered ≡ entered_from p 0
    → entered_lines_at p [] entered ++ (if on then own_lines_at p else []) ≡ trace_lines (scene_at p)
unfolding takes_from entered_from own_lines_at entered_lines_at
trace_is p on entered takes is =
    ap (λ es. entered_lines_at p [] es ++ (if on then own_lines_at p else [])) is
    ∙ ap (λ b. entered_lines_at p [] (entered_from p 0) ++ (if b then own_lines_at p else [])) takes
    ∙ ap (λ ls. ls ++ (if takes_from p 0 then own_lines_at p else [])) (sym (lines_are_entered (scene_at p) [] 0 (statements (scene_at p))))

-- what is popped comes first
pub reverse-popped : {X : Type 0} (all rest : List X) (x : X) → all ≡ rest ++ x ∷ [] → reverse all ≡ x ∷ reverse rest
reverse-popped all rest x is = ap reverse is ∙ reverse-append rest (x ∷ [])
