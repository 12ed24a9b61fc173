-- A model is ordered just where no reference is late.
use Rattle.std.proofs.Common.{ap, ◌≡◌, refl, sym, ◌∙◌, subst, arith, ℕ, zero, suc, ◌<◌, Bool, true, false, not, IsTrue, Option, Some, None, option_map, List, [], ◌∷◌, ◌++◌, length, map, get_or, All}
use Rattle.std.specs.Prelude.{slice_get}
use Rattle.std.specs.List.{position}
use Rattle.std.proofs.lemmas.List.Elements.{All-append, All-map, All-nil, All-tail}
use Rattle.cube_space.specs.Cells.{IsSpace}
use Rattle.rule_laws.specs.declared.formula.Formula.{Formula}
use Rattle.rule_laws.specs.Meaning.{precedents}
use Rattle.rule_laws.specs.OrderByPlace.{IsOrderedByPlace}
use Rattle.rule_model.specs.declared.rules.Form.{Form}
use Rattle.rule_model.specs.declared.rules.Form.TheVariants.{Both, LeafFirst, ConsFirst}
use Rattle.rule_model.specs.declared.rules.Statement.{Statement}
use Rattle.rule_model.specs.BoundModel.{BoundModel, rules_of}
use Rattle.rule_model.specs.Conditions.{AreRules}
use Rattle.rule_model.specs.System.{system_of, positions_of}
use Rattle.order_laws.specs.Earlier.{is_earlier, IsEarlierStatement, IsOrderedByDimension}
use Rattle.order_laws.proofs.Ordered.{dimension-place, place-dimension}
use Rattle.check_order.specs.References.{marks_by, marks_of, part_marks, first_late, late_in, late_of, late_references}
use Rattle.check_order.specs.Inside.Walk.{earliest}
use Rattle.check_order.proofs.Walks.{all-first, all-second}
use Rattle.check_order.proofs.FirstLate.{fails-first, passes-first, both-first}
use Rattle.check_order.proofs.Firsts.{no-options, no-lists, no_fault, none_there, options-none, lists-none}

-- no mark fails just where all pass
unmapped : (a : Option ℕ) → option_map suc a ≡ None → a ≡ None
unmapped None e = refl
unmapped (Some a) e = absurd (cc)

pub all-pass : (marks : List Bool) → position not marks ≡ None → All IsTrue marks
all-pass [] none k d low = absurd (omega arith)
all-pass (false ∷ marks) none k d low = absurd (let wrong : Some 0 ≡ None = sym (fails-first marks) ∙ none in cc)
all-pass (true ∷ marks) none zero d low = refl
all-pass (true ∷ marks) none (suc k) d low = all-pass marks (unmapped (position not marks) (sym (passes-first marks) ∙ none)) k d (omega arith)

-- both lists of marks pass where they do together
earliest-first : (a b : Option ℕ) → earliest a b ≡ None → a ≡ None
earliest-first None b e = refl
earliest-first (Some a) None e = absurd (cc)
earliest-first (Some a) (Some b) e = absurd (cc)

earliest-second : (a b : Option ℕ) → earliest a b ≡ None → b ≡ None
earliest-second None b e = e
earliest-second (Some a) None e = refl
earliest-second (Some a) (Some b) e = absurd (cc)

record BothPass (l c : List Bool) : Type 0 where
  leaf : All IsTrue l
  cons : All IsTrue c

form-passes : (form : Form) (l c : List Bool) → position not (marks_by form l c) ≡ None → BothPass l c
form-passes Both l c none =
    let joined = sym (both-first l c) ∙ none in
    record {
      leaf = all-pass l (earliest-first (position not l) (position not c) joined);
      cons = all-pass c (earliest-second (position not l) (position not c) joined);
    }
form-passes LeafFirst l c none =
    let all = all-pass (l ++ c) none in
    record { leaf = all-first IsTrue l c all; cons = all-second IsTrue l c all }
form-passes ConsFirst l c none =
    let all = all-pass (c ++ l) none in
    record { leaf = all-second IsTrue c l all; cons = all-first IsTrue c l all }

pub unmap : {X : Type 0} (test : X → Bool) (xs : List X) → All IsTrue (map test xs) → All (λ x. IsTrue (test x)) xs
unmap test [] all k d low = absurd (omega arith)
unmap test (x ∷ xs) all zero d low = all 0 true (omega arith)
unmap test (x ∷ xs) all (suc k) d low = unmap test xs (λ j e l. all (suc j) e (omega arith)) k d (omega arith)

module _ (m : BoundModel) where
  statement-ordered : (cube : ℕ) (s : Statement) → first_late (marks_of m cube s) ≡ None → IsEarlierStatement m cube s
  unfolding marks_of
  statement-ordered cube s none = by
    where
      parts : BothPass (part_marks m cube s.area true s.leaf) (part_marks m cube s.area false s.cons)
      parts =
          form-passes s.form (part_marks m cube s.area true s.leaf) (part_marks m cube s.area false s.cons)
          (unmapped (position not (marks_by s.form (part_marks m cube s.area true s.leaf) (part_marks m cube s.area false s.cons))) none)

      by : IsEarlierStatement m cube s
      by true f e = unmap (is_earlier m cube s.area true) (precedents f) (subst (λ part. All IsTrue (part_marks m cube s.area true part)) e parts.leaf)
      by false f e = unmap (is_earlier m cube s.area false) (precedents f) (subst (λ part. All IsTrue (part_marks m cube s.area false part)) e parts.cons)

  pub own-default : (ss : List Statement) (n : ℕ) (d : Statement) → n < length ss → get_or ss n d ≡ get_or ss n (get_or ss n d)
  own-default [] n d low = absurd (omega arith)
  own-default (s ∷ ss) zero d low = refl
  own-default (s ∷ ss) (suc n) d low = own-default ss n d (omega arith)

  cube-ordered : (cube : ℕ) → slice_get (late_of m cube) 0 ≡ None → All (IsEarlierStatement m cube) (rules_of m cube).statements
  unfolding late_of
  cube-ordered cube none n d low =
      let ss : List Statement = (rules_of m cube).statements in
      let s : Statement = get_or ss n d in
      let nothing : late_in m cube ss n ≡ None = no-options (late_in m cube ss) 0 (length ss) none n (omega arith) (omega (arith, low)) in
      statement-ordered cube s (no_fault m cube ss n s low (own-default ss n d low) nothing)

  pub none-ordered : slice_get (late_references m) 0 ≡ None → IsOrderedByDimension m
  unfolding late_references
  none-ordered none cube there = cube-ordered cube (no-lists (late_of m) 0 (length m.space.cubes) none cube (omega arith) (omega (arith, there)))

  pub none-ordered_by_place : IsSpace m.space → AreRules m.space m.rules → slice_get (late_references m) 0 ≡ None → IsOrderedByPlace (system_of m) (positions_of m)
  none-ordered_by_place valid ruled none = dimension-place m valid ruled (none-ordered none)

-- where each statement is ordered, nothing is late
pub no_statement : Statement
no_statement = record { area = record { sets = [] }; leaf = None; cons = None; form = Both }

none-fails : (marks : List Bool) → All IsTrue marks → position not marks ≡ None
none-fails [] all = refl
none-fails (true ∷ marks) all = passes-first marks ∙ ap (option_map suc) (none-fails marks (All-tail IsTrue true marks all))
none-fails (false ∷ marks) all = absurd (let wrong : false ≡ true = all 0 false (omega arith) in cc)

form-none : (form : Form) (l c : List Bool) → All IsTrue l → All IsTrue c → position not (marks_by form l c) ≡ None
form-none Both l c leaf cons = both-first l c ∙ ap (λ a. earliest a (position not c)) (none-fails l leaf) ∙ none-fails c cons
form-none LeafFirst l c leaf cons = none-fails (l ++ c) (All-append IsTrue l c leaf cons)
form-none ConsFirst l c leaf cons = none-fails (c ++ l) (All-append IsTrue c l cons leaf)

module _ (m : BoundModel) where
  part-passes : (cube : ℕ) (s : Statement) (kind : Bool) (part : Option Formula) → ((f : Formula) → part ≡ Some f → All (λ p. IsTrue (is_earlier m cube s.area kind p)) (precedents f)) → All IsTrue (part_marks m cube s.area kind part)
  part-passes cube s kind None each = All-nil IsTrue
  part-passes cube s kind (Some f) each = All-map IsTrue (is_earlier m cube s.area kind) (precedents f) (each f refl)

  statement-none : (cube : ℕ) (s : Statement) → IsEarlierStatement m cube s → first_late (marks_of m cube s) ≡ None
  unfolding marks_of
  statement-none cube s h =
      ap (option_map suc) (form-none s.form (part_marks m cube s.area true s.leaf) (part_marks m cube s.area false s.cons)
      (part-passes cube s true s.leaf (h true)) (part-passes cube s false s.cons (h false)))

  cube-none : (cube : ℕ) → All (IsEarlierStatement m cube) (rules_of m cube).statements → slice_get (late_of m cube) 0 ≡ None
  unfolding late_of
  cube-none cube all =
      let ss : List Statement = (rules_of m cube).statements in
      options-none (late_in m cube ss) 0 (length ss) (λ n from low.
      let there : n < length ss = omega (arith, low) in
      let s : Statement = get_or ss n no_statement in
      none_there m cube ss n s there (own-default m ss n no_statement there) (statement-none cube s (all n no_statement there)))

  pub ordered-none : IsOrderedByDimension m → slice_get (late_references m) 0 ≡ None
  unfolding late_references
  ordered-none h = lists-none (late_of m) 0 (length m.space.cubes) (λ cube from low. let there : cube < length m.space.cubes = omega (arith, low) in cube-none cube (h cube there))

  pub place-none : IsSpace m.space → AreRules m.space m.rules → IsOrderedByPlace (system_of m) (positions_of m) → slice_get (late_references m) 0 ≡ None
  place-none valid ruled h = ordered-none (place-dimension m valid ruled h)
