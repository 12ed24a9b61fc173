-- The numbers that binding gives are one behind the other.
use Rattle.std.proofs.Common.{◌≡◌, ℕ, ◌+◌, List, [], ◌∷◌, ◌++◌, map, refl, sym, ap, ◌∙◌, subst}
use Rattle.script_tree.specs.declared.line.Arm.{Arm}
use Rattle.script_tree.specs.declared.line.Arm.TheFolds.{fold-roll-Arm, fold-roll-Line, ind-Line, map-Arm, map-Line}
use Rattle.script_tree.specs.declared.line.Arm.TheOpen.{Arm-F, Line-F}
use Rattle.script_tree.specs.declared.line.Arm.TheViews.{roll-Arm, roll-Line}
use Rattle.script_tree.specs.declared.line.Line.{Line}
use Rattle.script_bound.specs.declared.term.Term.{Term}
use Rattle.script_bound.specs.declared.statement.Case.{Case}
use Rattle.script_bound.specs.declared.statement.Case.TheFolds.{fold-roll-Case, fold-roll-Statement}
use Rattle.script_bound.specs.declared.statement.Case.TheOpen.{Case-F, Statement-F}
use Rattle.script_bound.specs.declared.statement.Case.TheVariants.{rolls-When, rolls-Otherwise}
use Rattle.script_bound.specs.declared.statement.Case.TheVariants as cases
use Rattle.script_bound.specs.declared.statement.Statement.{Statement}
use Rattle.script_bound.specs.declared.statement.Statement.TheVariants as statements
use Rattle.script_bound.specs.declared.statement.Statement.TheVariants.{rolls-Assign, rolls-Put, rolls-Increment, rolls-ZeroOut, rolls-Skip, rolls-Break, rolls-Error, rolls-If, rolls-While}
use Rattle.script_bind.specs.Variables.{Words}
use Rattle.script_bind.specs.Binding.{Numbered, in_order, number_of, term_of, written, arm_step, line_step, statement_of, case_of, statements_of, section_of}
use Rattle.script_bind.specs.Numbers.{together, case_numbers, statement_numbers, numbers_at, numbers_of_case, numbers_of, AreFrom}

-- each number is one more than the one before it, from the first up to the last, which isn't among them
abbrev Counts : List ℕ → ℕ → ℕ → Type 0
Counts [] first last = first ≡ last
Counts (number ∷ numbers) first last = (number ≡ first) × Counts numbers (first + 1) last

appended : (xs ys : List ℕ) (a b c : ℕ) → Counts xs a b → Counts ys b c → Counts (xs ++ ys) a c
appended [] ys a b c front back = subst (λ n. Counts ys n c) (sym front) back
appended (x ∷ xs) ys a b c front back = (front.0, appended xs ys (a + 1) b c front.1 back)

from_first : (xs : List ℕ) (a b : ℕ) → Counts xs a b → AreFrom a xs
from_first [] a b h = tt
from_first (x ∷ xs) a b h = (h.0, from_first xs (a + 1) b h.1)

module _ (words : Words) where
  abbrev Right : Line → Type 0
  Right line = (next : ℕ) → Counts (numbers_at (statement_of words line next).0) next (statement_of words line next).1

  abbrev RightArm : Arm → Type 0
  RightArm arm = (next : ℕ) → Counts (numbers_of_case (case_of words arm next).0) next (case_of words arm next).1

  abbrev HeldLine : Type 0
  HeldLine = (line : Line) × Right line

  abbrev HeldArm : Type 0
  HeldArm = (arm : Arm) × RightArm arm

  lines_right : (held : List HeldLine) (next : ℕ)
      → Counts (together (map numbers_at (in_order (map (statement_of words) (map (λ e. e.0) held)) next).0)) next (in_order (map (statement_of words) (map (λ e. e.0) held)) next).1
  lines_right [] next = refl
  lines_right (e ∷ held) next =
      let mid = (statement_of words e.0 next).1 in
      let rest = in_order (map (statement_of words) (map (λ e. e.0) held)) mid in
      appended (numbers_at (statement_of words e.0 next).0) (together (map numbers_at rest.0)) next mid rest.1 (e.1 next) (lines_right held mid)

  arms_right : (held : List HeldArm) (next : ℕ)
      → Counts (together (map numbers_of_case (in_order (map (case_of words) (map (λ e. e.0) held)) next).0)) next (in_order (map (case_of words) (map (λ e. e.0) held)) next).1
  arms_right [] next = refl
  arms_right (e ∷ held) next =
      let mid = (case_of words e.0 next).1 in
      let rest = in_order (map (case_of words) (map (λ e. e.0) held)) mid in
      appended (numbers_of_case (case_of words e.0 next).0) (together (map numbers_of_case rest.0)) next mid rest.1 (e.1 next) (arms_right held mid)

  by_number : (s : Statement) (ns : List ℕ) (first last : ℕ) → numbers_at s ≡ ns → Counts ns first last → Counts (numbers_at s) first last
  by_number s ns first last is h = subst (λ l. Counts l first last) (sym is) h

  by_case : (c : Case) (ns : List ℕ) (first last : ℕ) → numbers_of_case c ≡ ns → Counts ns first last → Counts (numbers_of_case c) first last
  by_case c ns first last is h = subst (λ l. Counts l first last) (sym is) h

  rolled : (x : Line-F Arm Line) → ((next : ℕ) → Counts (numbers_at (line_step words (map-Line Arm Line (Numbered Case) (Numbered Statement) (case_of words) (statement_of words) x) next).0)
      next (line_step words (map-Line Arm Line (Numbered Case) (Numbered Statement) (case_of words) (statement_of words) x) next).1) → Right (roll-Line x)
  rolled x h next =
      subst (λ (bound : Numbered Statement). Counts (numbers_at (bound next).0) next (bound next).1)
      (sym (fold-roll-Line (Numbered Case) (Numbered Statement) (arm_step words) (line_step words) x)) (h next)

  rolled_arm : (x : Arm-F Arm Line) → ((next : ℕ) → Counts (numbers_of_case (arm_step words (map-Arm Arm Line (Numbered Case) (Numbered Statement) (case_of words) (statement_of words) x) next).0)
      next (arm_step words (map-Arm Arm Line (Numbered Case) (Numbered Statement) (case_of words) (statement_of words) x) next).1) → RightArm (roll-Arm x)
  rolled_arm x h next =
      subst (λ (bound : Numbered Case). Counts (numbers_of_case (bound next).0) next (bound next).1)
      (sym (fold-roll-Arm (Numbered Case) (Numbered Statement) (arm_step words) (line_step words) x)) (h next)

  -- the numbers of a statement and of a case, by their parts
  at_assign : (n place : ℕ) (t : Term) → numbers_at (statements.Assign n place t) ≡ n ∷ []
  at_assign n place t = ap numbers_at (sym (rolls-Assign n place t)) ∙ fold-roll-Statement (List ℕ) (List ℕ) case_numbers statement_numbers (Statement-F.Assign n place t)

  at_put : (n : ℕ) (t : Term) (ts : List Term) → numbers_at (statements.Put n t ts) ≡ n ∷ []
  at_put n t ts = ap numbers_at (sym (rolls-Put n t ts)) ∙ fold-roll-Statement (List ℕ) (List ℕ) case_numbers statement_numbers (Statement-F.Put n t ts)

  at_increment : (n : ℕ) (t : Term) (ts : List Term) → numbers_at (statements.Increment n t ts) ≡ n ∷ []
  at_increment n t ts = ap numbers_at (sym (rolls-Increment n t ts)) ∙ fold-roll-Statement (List ℕ) (List ℕ) case_numbers statement_numbers (Statement-F.Increment n t ts)

  at_zero_out : (n : ℕ) (ts : List Term) → numbers_at (statements.ZeroOut n ts) ≡ n ∷ []
  at_zero_out n ts = ap numbers_at (sym (rolls-ZeroOut n ts)) ∙ fold-roll-Statement (List ℕ) (List ℕ) case_numbers statement_numbers (Statement-F.ZeroOut n ts)

  at_skip : (n : ℕ) → numbers_at (statements.Skip n) ≡ n ∷ []
  at_skip n = ap numbers_at (sym (rolls-Skip n)) ∙ fold-roll-Statement (List ℕ) (List ℕ) case_numbers statement_numbers (Statement-F.Skip n)

  at_break : (n : ℕ) → numbers_at (statements.Break n) ≡ n ∷ []
  at_break n = ap numbers_at (sym (rolls-Break n)) ∙ fold-roll-Statement (List ℕ) (List ℕ) case_numbers statement_numbers (Statement-F.Break n)

  at_error : (n : ℕ) → numbers_at (statements.Error n) ≡ n ∷ []
  at_error n = ap numbers_at (sym (rolls-Error n)) ∙ fold-roll-Statement (List ℕ) (List ℕ) case_numbers statement_numbers (Statement-F.Error n)

  at_if : (n : ℕ) (cs : List Case) → numbers_at (statements.If n cs) ≡ n ∷ together (map numbers_of_case cs)
  at_if n cs = ap numbers_at (sym (rolls-If n cs)) ∙ fold-roll-Statement (List ℕ) (List ℕ) case_numbers statement_numbers (Statement-F.If n cs)

  at_while : (n : ℕ) (t : Term) (ss : List Statement) → numbers_at (statements.While n t ss) ≡ n ∷ together (map numbers_at ss)
  at_while n t ss = ap numbers_at (sym (rolls-While n t ss)) ∙ fold-roll-Statement (List ℕ) (List ℕ) case_numbers statement_numbers (Statement-F.While n t ss)

  at_when : (t : Term) (ss : List Statement) → numbers_of_case (cases.When t ss) ≡ together (map numbers_at ss)
  at_when t ss = ap numbers_of_case (sym (rolls-When t ss)) ∙ fold-roll-Case (List ℕ) (List ℕ) case_numbers statement_numbers (Case-F.When t ss)

  at_otherwise : (ss : List Statement) → numbers_of_case (cases.Otherwise ss) ≡ together (map numbers_at ss)
  at_otherwise ss = ap numbers_of_case (sym (rolls-Otherwise ss)) ∙ fold-roll-Case (List ℕ) (List ℕ) case_numbers statement_numbers (Case-F.Otherwise ss)

  alone : (s : Statement) (n : ℕ) → numbers_at s ≡ n ∷ [] → Counts (numbers_at s) n (n + 1)
  alone s n is = by_number s (n ∷ []) n (n + 1) is (refl, refl)

  layer : (l : Line-F HeldArm HeldLine) → Right (roll-Line (map-Line HeldArm HeldLine Arm Line (λ e. e.0) (λ e. e.0) l))
  layer (Line-F.Assign word given) =
      rolled (Line-F.Assign word given) (λ n. alone (statements.Assign n (number_of words word) (term_of words given)) n (at_assign n (number_of words word) (term_of words given)))
  layer (Line-F.Put given) =
      let w = written (map (term_of words) given) in
      rolled (Line-F.Put given) (λ n. alone (statements.Put n w.0 w.1) n (at_put n w.0 w.1))
  layer (Line-F.Increment given) =
      let w = written (map (term_of words) given) in
      rolled (Line-F.Increment given) (λ n. alone (statements.Increment n w.0 w.1) n (at_increment n w.0 w.1))
  layer (Line-F.ZeroOut given) =
      rolled (Line-F.ZeroOut given) (λ n. alone (statements.ZeroOut n (map (term_of words) given)) n (at_zero_out n (map (term_of words) given)))
  layer Line-F.Skip = rolled Line-F.Skip (λ n. alone (statements.Skip n) n (at_skip n))
  layer Line-F.Break = rolled Line-F.Break (λ n. alone (statements.Break n) n (at_break n))
  layer Line-F.Error = rolled Line-F.Error (λ n. alone (statements.Error n) n (at_error n))
  layer (Line-F.If held) =
      rolled (Line-F.If (map (λ e. e.0) held))
      (λ n. let cs = in_order (map (case_of words) (map (λ e. e.0) held)) (n + 1) in
      by_number (statements.If n cs.0) (n ∷ together (map numbers_of_case cs.0)) n cs.1 (at_if n cs.0) (refl, arms_right held (n + 1)))
  layer (Line-F.While test held) =
      rolled (Line-F.While test (map (λ e. e.0) held))
      (λ n. let ss = in_order (map (statement_of words) (map (λ e. e.0) held)) (n + 1) in
      by_number (statements.While n (term_of words test) ss.0) (n ∷ together (map numbers_at ss.0)) n ss.1 (at_while n (term_of words test) ss.0) (refl, lines_right held (n + 1)))

  arm_layer : (l : Arm-F HeldArm HeldLine) → RightArm (roll-Arm (map-Arm HeldArm HeldLine Arm Line (λ e. e.0) (λ e. e.0) l))
  arm_layer (Arm-F.When test held) =
      rolled_arm (Arm-F.When test (map (λ e. e.0) held))
      (λ n. let ss = in_order (map (statement_of words) (map (λ e. e.0) held)) n in
      by_case (cases.When (term_of words test) ss.0) (together (map numbers_at ss.0)) n ss.1 (at_when (term_of words test) ss.0) (lines_right held n))
  arm_layer (Arm-F.Otherwise held) =
      rolled_arm (Arm-F.Otherwise (map (λ e. e.0) held))
      (λ n. let ss = in_order (map (statement_of words) (map (λ e. e.0) held)) n in
      by_case (cases.Otherwise ss.0) (together (map numbers_at ss.0)) n ss.1 (at_otherwise ss.0) (lines_right held n))

  right : (line : Line) → Right line
  right = ind-Line RightArm Right (λ x l is. subst (λ z. RightArm (roll-Arm z)) is (arm_layer l)) (λ x l is. subst (λ z. Right (roll-Line z)) is (layer l))

  all_right : (lines : List Line) (next : ℕ) → Counts (numbers_of (statements_of words lines next).0) next (statements_of words lines next).1
  all_right [] next = refl
  all_right (line ∷ lines) next =
      let mid = (statement_of words line next).1 in
      let rest = statements_of words lines mid in
      appended (numbers_at (statement_of words line next).0) (numbers_of rest.0) next mid rest.1 (right line next) (all_right lines mid)

  pub section_counts : (lines : List Line) → AreFrom 1 (numbers_of (section_of words lines))
  unfolding section_of
  section_counts lines = from_first (numbers_of (section_of words lines)) 1 (statements_of words lines 1).1 (all_right lines 1)
