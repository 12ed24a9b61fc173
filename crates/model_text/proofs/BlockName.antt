-- A block keeps the name of its head.
use Rattle.std.proofs.Common.{◌≡◌, ℕ, zero, suc, List, [], Bool, true, false, length, Option, Some, None, Ok, Err, refl, sym, ◌∙◌, subst, inl, inr, if◌then◌else◌}
use Rattle.cube_lex.specs.Lexeme.{Lexeme}
use Rattle.cube_lex.specs.declared.position.Position.{Position}
use Rattle.grammar.specs.Grammar.{Grammar}
use Rattle.grammar.specs.Reading.{Read, Reader, bound, let_through, checked_result, repeat, starts}
use Rattle.grammar.specs.declared.cursor.Unwatched.{Unwatched}
use Rattle.grammar.proofs.Exact.{Exact, Always, Outcome}
use Rattle.dim_core.specs.Refusal.{refusal_of, finish_refusal_of}
use Rattle.dim_core.specs.declared.fault.DimFault.{DimFault}
use Rattle.dim_text.specs.Progress.{Progress}
use Rattle.dim_text.specs.Building.{add, element_added, finished, opened}
use Rattle.dim_text.specs.Statement.{Statement, Head, Leaf, Consolidated, Attribute, End, Close, element, ending, closing}
use Rattle.dim_text.specs.Readers.Reading.{Plain, built, read_element, read_end, read_close, read_elements, read_ending, read_closing, read_body, is_element_word}
use Rattle.dim_text.specs.declared.fault.Refusal.{Refusal}
use Rattle.dim_text.proofs.ElementExact.{free, element_exact, end_exact, close_exact}

-- the name is the same behind what was read
abbrev Keeps : {A : Type 0} → Progress → Read Lexeme Progress Refusal A → Type 0
Keeps p (Ok x) = x.1.draft.name ≡ p.draft.name
Keeps p (Err halt) = Unit {0}

keeps_from : {A : Type 0} (p q : Progress) (r : Read Lexeme Progress Refusal A) → q.draft.name ≡ p.draft.name → Keeps q r → Keeps p r
keeps_from p q (Ok x) same h = h ∙ same
keeps_from p q (Err halt) same h = tt

bound_keeps : {A B : Type 0} (p : Progress) (r : Read Lexeme Progress Refusal A) (K : A → Reader Lexeme Progress Refusal B) → Keeps p r → ((a : A) (q : Progress) (ts : List Lexeme) → Keeps q (K a q ts)) → Keeps p (bound r K)
bound_keeps p (Ok x) K h k = keeps_from p x.1 (K x.0 x.1 x.2) h (k x.0 x.1 x.2)
bound_keeps p (Err halt) K h k = tt

choice_keeps : {A : Type 0} (p : Progress) (b : Bool) (x y : Read Lexeme Progress Refusal A) → Keeps p x → Keeps p y → Keeps p (if b then x else y)
choice_keeps p true x y h k = h
choice_keeps p false x y h k = k

-- a statement other than a head
abbrev IsWithin : Statement → Type 0
IsWithin (Head place shown) = ⊥
IsWithin other = Unit {0}

element_keeps : (p : Progress) (x : Statement) (rest : List Lexeme) (place : Position) (shown : List ℕ) (components : List _) (o : Option DimFault) → Keeps {A = Statement} p (let_through x rest (element_added p place shown components o))
element_keeps p x rest place shown components None = refl
element_keeps p x rest place shown components (Some fault) = tt

end_keeps : (p : Progress) (x : Statement) (rest : List Lexeme) (o : Option DimFault) → Keeps {A = Statement} p (let_through x rest (finished p o))
end_keeps p x rest None = refl
end_keeps p x rest (Some fault) = tt

added_keeps : (p : Progress) (x y : Statement) (rest : List Lexeme) → IsWithin y → Keeps {A = Statement} p (let_through x rest (add p y))
added_keeps p x (Head place shown) rest h = absurd h
added_keeps p x (Leaf place shown) rest h = element_keeps p x rest place shown [] (refusal_of p.draft shown [])
added_keeps p x (Consolidated place shown components) rest h = element_keeps p x rest place shown components (refusal_of p.draft shown components)
added_keeps p x (Attribute place shown called value) rest h = refl
added_keeps p x (End place) rest h = end_keeps p x rest (finish_refusal_of p.draft)
added_keeps p x Close rest h = refl

-- each statement that G reads is no head
record Within (G : Grammar Lexeme Statement) : Type 0 where
  at : (u : List Lexeme) (x : Statement) → G u x → IsWithin x

built_by : (G : Grammar Lexeme Statement) (P : Plain Statement) → Within G → (p : Progress) (ts : List Lexeme) (r : Read Lexeme Unwatched Refusal Statement) → Outcome G free P (record {}) ts r → Keeps p (checked_result (add p) r)
unfolding Outcome
built_by G P within p ts (Ok x) f = added_keeps p x.0 x.0 x.2 (within.at f.text x.0 f.reads)
built_by G P within p ts (Err halt) f = tt

built_keeps : {G : Grammar Lexeme Statement} {P : Plain Statement} → Exact free G G P Always → Within G → (p : Progress) (ts : List Lexeme) → Keeps p (built P p ts)
built_keeps {G = G} {P = P} e within p ts = built_by G P within p ts (P (record {}) ts) (e.sound (record {}) ts)

element_within_at : (u : List Lexeme) (x : Statement) → element u x → IsWithin x
element_within_at u x (inl (_, _, _, _, _, (_, _, _, _, _, (_, _, _, _, _, (_, same))))) = subst IsWithin (sym same) tt
element_within_at u x (inr (inl (_, _, _, _, _, (_, _, _, _, _, (_, _, _, _, _, (_, _, _, _, _, (_, same))))))) = subst IsWithin (sym same) tt
element_within_at u x (inr (inr (_, _, _, _, _, (_, _, _, _, _, (_, _, _, _, _, (_, _, _, _, _, (_, _, _, _, _, (_, _, _, _, _, (_, same))))))))) = subst IsWithin (sym same) tt

element_within : Within element
element_within = record { at = element_within_at }

ending_within : Within ending
ending_within = record { at = λ u x (_, _, _, _, _, (_, same)). subst IsWithin (sym same) tt }

closing_within : Within closing
closing_within = record { at = λ u x (_, _, _, _, _, (_, same)). subst IsWithin (sym same) tt }

repeat_keeps : (k : ℕ) (p : Progress) (ts : List Lexeme) → Keeps p (repeat is_element_word (built read_element) k p ts)
repeat_keeps zero p ts = refl
repeat_keeps (suc k) p ts = choice_keeps p (starts is_element_word ts) _ _ (bound_keeps p (built read_element p ts) _ (built_keeps element_exact element_within p ts) (λ a q rest. bound_keeps q (repeat is_element_word (built read_element) k q rest) _ (repeat_keeps k q rest) (λ list m left. refl))) refl

elements_keeps : (p : Progress) (ts : List Lexeme) → Keeps p (read_elements p ts)
unfolding read_elements
elements_keeps p ts = bound_keeps p (repeat is_element_word (built read_element) (length ts) p ts) _ (repeat_keeps (length ts) p ts) (λ a q rest. refl)

ending_keeps : (p : Progress) (ts : List Lexeme) → Keeps p (read_ending p ts)
unfolding read_ending
ending_keeps p ts = bound_keeps p (built read_end p ts) _ (built_keeps end_exact ending_within p ts) (λ a q rest. refl)

closing_keeps : (p : Progress) (ts : List Lexeme) → Keeps p (read_closing p ts)
unfolding read_closing
closing_keeps p ts = bound_keeps p (built read_close p ts) _ (built_keeps close_exact closing_within p ts) (λ a q rest. refl)

body_keeps : (p : Progress) (ts : List Lexeme) → Keeps p (read_body p ts)
unfolding read_body
body_keeps p ts = bound_keeps p (read_elements p ts) _ (elements_keeps p ts) (λ a q rest. bound_keeps q (read_ending q rest) _ (ending_keeps q rest) (λ b m left. closing_keeps m left))

pub name_kept : (place : Position) (name : List ℕ) (ts rest : List Lexeme) (block : Progress) → read_body (opened place name) ts ≡ Ok (tt, block, rest) → block.draft.name ≡ name
name_kept place name ts rest block read = subst (Keeps (opened place name)) read (body_keeps (opened place name) ts)
