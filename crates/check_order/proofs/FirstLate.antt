-- The first reference that a walk finds late is the first of the marks that fails.
use Rattle.std.proofs.Common.{inl, inr, nat_lt, ◌≡◌, refl, sym, ap, ◌∙◌, arith, ℕ, suc, ◌+◌, min, Bool, true, false, not, Option, Some, None, option_map, if◌then◌else◌, List, [], ◌∷◌, ◌++◌, length, map}
use Rattle.std.specs.List.{position, position_or_len}
use Rattle.std.proofs.lemmas.Bool.{cases_lt, lt-ltb, le-ltb}
use Rattle.std.proofs.lemmas.List.Sums.{fold-append}
use Rattle.rule_model.specs.declared.rules.Form.{Form}
use Rattle.rule_model.specs.declared.rules.Statement.{Statement}
use Rattle.rule_model.specs.BoundModel.{BoundModel}
use Rattle.rule_model.specs.Conditions.{read_count}
use Rattle.order_laws.specs.Earlier.{is_earlier}
use Rattle.rule_laws.specs.declared.formula.Formula.{Formula}
use Rattle.rule_laws.specs.Meaning.{precedents}
use Rattle.std.proofs.lemmas.List.{length-map}
use Rattle.check_order.proofs.Walks.{seen-count}
use Rattle.check_order.specs.declared.walk.Seen.{Seen}
use Rattle.check_order.specs.References.{both_marks, marks_by, marks_of, part_marks, first_late}
use Rattle.check_order.specs.Inside.Walk.{seen_next, seen_after, none_seen, earliest}

-- the first mark that fails is the first one, where that does
pub fails-first : (marks : List Bool) → position not (false ∷ marks) ≡ Some 0
fails-first marks = ap (λ t. if t then Some 0 else None) (lt-ltb 0 (suc (length marks)) (omega arith))

-- else the first one of the marks after it
pub passes-first : (marks : List Bool) → position not (true ∷ marks) ≡ option_map suc (position not marks)
passes-first marks = by (position_or_len not marks) (length marks)
  where
    by : (k n : ℕ) → (if nat_lt (1 + k) (suc n) then Some (1 + k) else None) ≡ option_map suc (if nat_lt k n then Some k else None)
    by k n = elim (cases_lt k n) [
      | inl low ↦ ap (λ t. if t then Some (1 + k) else None) (lt-ltb (1 + k) (suc n) (omega (arith, low))) ∙ ap Some (let e : 1 + k ≡ suc k = omega arith in e) ∙ sym (ap (λ t. option_map suc (if t then Some k else None)) (lt-ltb k n low))
      | inr high ↦ ap (λ t. if t then Some (1 + k) else None) (le-ltb (1 + k) (suc n) (omega (arith, high))) ∙ sym (ap (λ t. option_map suc (if t then Some k else None)) (le-ltb k n high))
    ]

kept : (n late : ℕ) (marks : List Bool) → (seen_after (record { count = n; late = Some late }) marks).late ≡ Some late
kept n late [] = refl
kept n late (mark ∷ marks) = kept (suc n) late marks

found : (n : ℕ) (marks : List Bool) → (seen_after (record { count = n; late = None }) marks).late ≡ option_map (λ k. suc (n + k)) (position not marks)
found n [] = refl
found n (false ∷ marks) =
    kept (suc n) (suc n) marks ∙ ap (λ k. Some (suc k)) (let e : n ≡ n + 0 = omega arith in e) ∙ sym (ap (option_map (λ k. suc (n + k))) (fails-first marks))
found n (true ∷ marks) = found (suc n) marks ∙ by (position not marks) ∙ sym (ap (option_map (λ k. suc (n + k))) (passes-first marks))
  where
    by : (p : Option ℕ) → option_map (λ k. suc (suc n + k)) p ≡ option_map (λ k. suc (n + k)) (option_map suc p)
    by None = refl
    by (Some k) = ap Some (let e : suc (suc n + k) ≡ suc (n + suc k) = omega arith in e)

none-found : (marks : List Bool) → (seen_after none_seen marks).late ≡ first_late marks
none-found marks = found 0 marks ∙ by (position not marks)
  where
    by : (p : Option ℕ) → option_map (λ k. suc (0 + k)) p ≡ option_map suc p
    by None = refl
    by (Some k) = ap Some (let e : suc (0 + k) ≡ suc k = omega arith in e)

-- one list of marks after the other
pub late_in_turn : (l c : List Bool) (u v : Seen) → u ≡ seen_after none_seen l → v ≡ seen_after u c → v.late ≡ first_late (l ++ c)
late_in_turn l c u v first second =
    ap (λ (s : Seen). s.late) (second ∙ ap (λ s. seen_after s c) first ∙ sym (fold-append seen_next none_seen l c)) ∙ none-found (l ++ c)

-- the marks of both kinds together
earliest-suc : (a b : Option ℕ) → earliest (option_map suc a) (option_map suc b) ≡ option_map suc (earliest a b)
earliest-suc None b = refl
earliest-suc (Some a) None = refl
earliest-suc (Some a) (Some b) = ap Some (let e : min (suc a) (suc b) ≡ suc (min a b) = omega arith in e)

earliest-none : (a : Option ℕ) → a ≡ earliest a None
earliest-none None = refl
earliest-none (Some a) = refl

zero-first : (a : Option ℕ) → Some 0 ≡ earliest (Some 0) (option_map suc a)
zero-first None = refl
zero-first (Some a) = ap Some (let e : 0 ≡ min 0 (suc a) = omega arith in e)

zero-second : (a : Option ℕ) → Some 0 ≡ earliest (option_map suc a) (Some 0)
zero-second None = refl
zero-second (Some a) = ap Some (let e : 0 ≡ min (suc a) 0 = omega arith in e)

pub both-first : (l c : List Bool) → position not (both_marks l c) ≡ earliest (position not l) (position not c)
both-first [] c = refl
both-first (a ∷ l) [] = earliest-none (position not (a ∷ l))
both-first (true ∷ l) (true ∷ c) =
    passes-first (both_marks l c) ∙ ap (option_map suc) (both-first l c) ∙ sym (earliest-suc (position not l) (position not c))
    ∙ sym (ap (λ a. earliest a (position not (true ∷ c))) (passes-first l) ∙ ap (earliest (option_map suc (position not l))) (passes-first c))
both-first (true ∷ l) (false ∷ c) = fails-first (both_marks l c) ∙ zero-second (position not l)
    ∙ sym (ap (λ a. earliest a (position not (false ∷ c))) (passes-first l) ∙ ap (earliest (option_map suc (position not l))) (fails-first c))
both-first (false ∷ l) (true ∷ c) = fails-first (both_marks l c) ∙ zero-first (position not c)
    ∙ sym (ap (λ a. earliest a (position not (true ∷ c))) (fails-first l) ∙ ap (earliest (Some 0)) (passes-first c))
both-first (false ∷ l) (false ∷ c) = fails-first (both_marks l c) ∙ sym (ap (λ a. earliest a (position not (false ∷ c))) (fails-first l) ∙ ap (earliest (Some 0)) (fails-first c))

pub late_of_both : (l c : List Bool) (u v : Seen) → u ≡ seen_after none_seen l → v ≡ seen_after none_seen c → earliest u.late v.late ≡ first_late (both_marks l c)
late_of_both l c u v first second =
    ap (λ (s : Seen). earliest s.late v.late) first ∙ ap (λ (s : Seen). earliest (seen_after none_seen l).late s.late) second
    ∙ ap (λ a. earliest a (seen_after none_seen c).late) (none-found l) ∙ ap (earliest (first_late l)) (none-found c)
    ∙ earliest-suc (position not l) (position not c) ∙ ap (option_map suc) (sym (both-first l c))

-- the marks of a statement of each form
module _ (m : BoundModel) (cube : ℕ) (s : Statement) where
  abbrev leaf : List Bool
  leaf = part_marks m cube s.area true s.leaf

  abbrev cons : List Bool
  cons = part_marks m cube s.area false s.cons

  -- a walk over a part has seen as much as the part reads
  pub part_seen : (kind : Bool) (part : Option Formula) (u : Seen) → u ≡ seen_after none_seen (part_marks m cube s.area kind part) → u.count ≡ read_count part
  part_seen kind part u walked = ap (λ (u : Seen). u.count) walked ∙ seen-count none_seen (part_marks m cube s.area kind part) ∙ by part
    where
      by : (part : Option Formula) → 0 + length (part_marks m cube s.area kind part) ≡ read_count part
      by None = refl
      by (Some f) = let e : 0 + length (map (is_earlier m cube s.area kind) (precedents f)) ≡ length (precedents f) = omega (arith, length-map (precedents f) (is_earlier m cube s.area kind)) in e

  pub marks_are : (form : Form) → s.form ≡ form → first_late (marks_by form leaf cons) ≡ first_late (marks_of m cube s)
  unfolding marks_of
  marks_are form e = ap (λ f. first_late (marks_by f leaf cons)) (sym e)
