-- Whole statements have one tree, with whatever blocks inside them.
use Rattle.std.proofs.Common.{◌≡◌, ℕ, ◌+◌, ◌≤◌, zero, suc, List, [], ◌∷◌, ◌++◌, true, codes, inl, inr, arith}
use Rattle.cube_lex.specs.Lexeme.{Lexeme}
use Rattle.grammar.specs.Grammar.{Grammar, done, both, either, many}
use Rattle.grammar.specs.Watch.{Passes, each_token}
use Rattle.grammar.proofs.Begins.{Begins}
use Rattle.grammar.proofs.Exact.{Always, Not}
use Rattle.rule_text_laws.proofs.OneTree.{OneTree, once_many}
use Rattle.script_tree.specs.Counting.{count}
use Rattle.script_tree.specs.Statement.{arm, conditional, otherwise, branching, looping, statement_of, statement_within, statement}
use Rattle.script_tree.specs.declared.counted.Counted.{Counted}
use Rattle.script_tree.specs.declared.line.Arm.{Arm}
use Rattle.script_tree.specs.declared.line.Line.{Line}
use Rattle.script_tree.specs.declared.script.Section.{Section}
use Rattle.script_reader.specs.Readers.StatementReading.{begins_statement}
use Rattle.script_reader.proofs.StatementExact.{statement_opens}
use Rattle.script_text_laws.proofs.StatementsOnce.{statement_of_once}

-- Texts of G are texts of H.
record Within {A : Type 0} (G H : Grammar Lexeme A) : Type 0 where
  at : (u : List Lexeme) (a : A) → G u a → H u a

same : {A : Type 0} (G : Grammar Lexeme A) → Within G G
same G = record { at = λ u a h. h }

both_within : {A B : Type 0} {G H : Grammar Lexeme A} {K L : A → Grammar Lexeme B} → Within G H → ((a : A) → Within (K a) (L a)) → Within (both G K) (both H L)
both_within g k = record { at = λ u b (v, w, a, parts, h, l). (v, w, a, parts, g.at v a h, (k a).at w b l) }

then_within : {A B : Type 0} {G : Grammar Lexeme A} {K L : A → Grammar Lexeme B} → ((a : A) → Within (K a) (L a)) → Within (both G K) (both G L)
then_within {G = G} k = both_within (same G) k

first_within : {A B : Type 0} {G H : Grammar Lexeme A} {K : A → Grammar Lexeme B} → Within G H → Within (both G K) (both H K)
first_within {K = K} g = both_within g (λ a. same (K a))

either_at : {A : Type 0} {G H G' H' : Grammar Lexeme A} → Within G H → Within G' H' → (u : List Lexeme) (a : A) → either G G' u a → either H H' u a
either_at g h u a (inl k) = inl (g.at u a k)
either_at g h u a (inr k) = inr (h.at u a k)

either_within : {A : Type 0} {G H G' H' : Grammar Lexeme A} → Within G H → Within G' H' → Within (either G G') (either H H')
either_within g h = record { at = either_at g h }

many_at : {A : Type 0} {G H : Grammar Lexeme A} → Within G H → (u : List Lexeme) (list : List A) → many G u list → many H u list
many_at g u [] h = h
many_at g u (a ∷ list) (v, w, parts, h, more) = (v, w, parts, g.at v a h, many_at g w list more)

many_within : {A : Type 0} {G H : Grammar Lexeme A} → Within G H → Within (many G) (many H)
many_within g = record { at = many_at g }

-- where blocks of G are blocks of H
module _ {G H : Grammar Lexeme (List Line)} (block : Within G H) where
  arm_within : (mark : List ℕ) → Within (arm mark G) (arm mark H)
  arm_within mark = then_within (λ _. then_within (λ test. first_within block))

  conditional_within : Within (conditional G) (conditional H)
  conditional_within = both_within (arm_within (codes "IF")) (λ first. first_within (many_within (arm_within (codes "ELSEIF"))))

  otherwise_within : (before : List Arm) → Within (otherwise G before) (otherwise H before)
  otherwise_within before = either_within (then_within (λ _. then_within (λ _. first_within block))) (same (done before))

  branching_within : Within (branching G) (branching H)
  branching_within = both_within conditional_within (λ before. first_within (otherwise_within before))

  looping_within : Within (looping G) (looping H)
  looping_within = then_within (λ _. then_within (λ test. first_within block))

  statement_of_within : (section : Section) → Within (statement_of section G) (statement_of section H)
  statement_of_within section = either_within branching_within (either_within looping_within (same _))

module _ (section : Section) where
  -- what has fewer than h blocks one inside the other has fewer than any greater number
  fewer_within : (h k : ℕ) → h ≤ k → Within (statement_within section h) (statement_within section k)
  fewer_within zero k most = record { at = λ u l h. absurd h }
  fewer_within (suc h) zero most = absurd (omega (arith, most))
  fewer_within (suc h) (suc k) most = statement_of_within (many_within (fewer_within h k (omega (arith, most)))) section

  within_opens : (h : ℕ) → Begins (statement_within section h) begins_statement true
  within_opens zero = record { at = λ u l h. absurd h }
  within_opens (suc h) = statement_opens section (many (statement_within section h))

  within_once : (h : ℕ) → OneTree count (statement_within section h) Always
  within_once zero = record { at = λ n m u r v s x y passes e h g stops ends. absurd h }
  within_once (suc h) = statement_of_once (once_many {S = Always} {S' = Not begins_statement} begins_statement (within_opens h) (λ rest stops. stops) (λ list v rest k stops. tt) (within_once h)) section

  statement_at : (n m : Counted) (u r v s : List Lexeme) (x y : Line) → Passes (each_token count) n (u ++ r) m → u ++ r ≡ v ++ s → statement section u x → statement section v y → (x ≡ y) × (r ≡ s)
  statement_at n m u r v s x y passes e (h, i) (k, j) =
      (within_once (h + k)).at n m u r v s x y passes e ((fewer_within h (h + k) (omega arith)).at u x i) ((fewer_within k (h + k) (omega arith)).at v y j) tt tt

  pub statement_once : OneTree count (statement section) Always
  statement_once = record { at = λ n m u r v s x y passes e h g _ _. statement_at n m u r v s x y passes e h g }
