-- A formula that passes the zero test is 0 where its covered references, STET and CONTINUE are.
use Rattle.std.proofs.Common.{◌≡◌, ◌≢◌, refl, sym, ◌∙◌, ap, Bool, true, false, not, ◌&&◌, ◌||◌, cond, List, [], ◌++◌, Option, None, Some, pos, ℤ}
use Rattle.std.specs.Ordering.{int_eq}
use Rattle.std.specs.Option.{option_map}
use Rattle.std.specs.List.{Contains}
use Rattle.std.proofs.lemmas.Bool.Decides.{Decides-int_eq}
use Rattle.std.proofs.lemmas.List.Elements.{Contains-append_left, Contains-append_right, Contains-push}
use Rattle.cube_fixed.specs.declared.value.Value.{Value}
use Rattle.cube_fixed.specs.declared.value.Value.TheVariants.{Num, Over}
use Rattle.cube_fixed.specs.Arithmetic.{zero_value}
use Rattle.cube_fixed.proofs.Zero.{sum_of-zeros, difference_of-zeros, greater_of-zeros, lesser_of-zeros, rounded-zero, floor_of-zero, size_of-zero, sign_of-zero, product_of-zero_left, product_of-zero_right, safe_quotient_of-zero_left, safe_quotient_of-zero_right, quotient_of-zero_left, remainder_of-zero_left, rounded_to-zero, truncated-zero}
use Rattle.rule_laws.specs.declared.finding.Finding.{Finding}
use Rattle.rule_laws.specs.declared.finding.TruthFinding.{TruthFinding}
use Rattle.rule_laws.specs.declared.reference.Reference.{Reference}
use Rattle.rule_laws.specs.declared.formula.Formula.{Formula}
use Rattle.rule_laws.specs.declared.formula.Formula.TheOpen.{Formula-F, Truth-F}
use Rattle.rule_laws.specs.declared.operation.Op.{Op}
use Rattle.rule_laws.specs.declared.operation.Op.TheVariants.{Add, Sub, Mul, DivSafe, Div, Max, Min, Mod, RoundTo}
use Rattle.rule_laws.specs.declared.operation.Fun.{Fun}
use Rattle.rule_laws.specs.declared.operation.Fun.TheVariants.{Minus, Abs, Sign, Int, Round, Trunc}
use Rattle.rule_laws.specs.declared.operation.Rel.{Rel}
use Rattle.cube_fixed.specs.Places.{rounded_to}
use Rattle.rule_laws.specs.Tables.{number_of}
use Rattle.rule_laws.specs.Operation.{operation_of, function_of, comparison_of}
use Rattle.rule_laws.specs.Meaning.{Others, value_step, truth_step, formula_value, Precedent, Named, precedents_step, truth_precedents_step, precedents}
use Rattle.rule_laws.specs.ZeroTest.{written_as, is_other_than_zero, is_divisor, is_sure_number, is_decimals, known_value, sure_comparison, sure_and, sure_or, zero_operation, zero_choice, finding_step, truth_finding_step, zero_test}
use Rattle.rule_laws.proofs.Folds.{Layers, TruthLayers, by_layers}
use Rattle.rule_laws.proofs.SystemFacts.{both}

-- each of the references that is covered is 0
abbrev pub CoveredAreZero : (Reference → Bool) → (Reference → Value) → List Precedent → Type 0
CoveredAreZero covers named ps = (r : Reference) → Contains ps (Named r) → covers r ≡ true → named r ≡ zero_value

left-zero : (covers : Reference → Bool) (named : Reference → Value) (ps qs : List Precedent) → CoveredAreZero covers named (ps ++ qs) → CoveredAreZero covers named ps
left-zero covers named ps qs zeros r has = zeros r (Contains-append_left ps qs (Named r) has)

right-zero : (covers : Reference → Bool) (named : Reference → Value) (ps qs : List Precedent) → CoveredAreZero covers named (ps ++ qs) → CoveredAreZero covers named qs
right-zero covers named ps qs zeros r has = zeros r (Contains-append_right ps qs (Named r) has)

function_of-zero : (f : Fun) → function_of f zero_value ≡ zero_value
function_of-zero Minus = difference_of-zeros
function_of-zero Abs = size_of-zero
function_of-zero Sign = sign_of-zero
function_of-zero Int = floor_of-zero
function_of-zero Round = rounded-zero
function_of-zero Trunc = truncated-zero

-- what is found of a formula with this value: a number that it is written as is its value, so is the value that it is
-- written as, it is 0 if the test says so, and a table has a number
pub record IsTrueOf (a : Finding) (v : Value) : Type 0 where
  pub number : (k : ℤ) → a.number ≡ Some k → v ≡ Num k
  pub written : (u : Value) → a.written ≡ Some u → v ≡ u
  pub zero : a.is_zero ≡ true → v ≡ zero_value
  pub table : a.is_table ≡ true → (k : ℤ) × (v ≡ Num k)

-- a test that is sure of a truth has it
abbrev pub Tells : Option Bool → Bool → Type 0
Tells o b = (t : Bool) → o ≡ Some t → b ≡ t

written_as-is : (f : Fun) (number : Option ℤ) (v u : Value) → ((k : ℤ) → number ≡ Some k → v ≡ Num k) → written_as f number ≡ Some u → function_of f v ≡ u
written_as-is Minus (Some k) v u is e = rw (is k refl) (cc)
written_as-is Minus None v u is e = cc
written_as-is Abs number v u is e = cc
written_as-is Sign number v u is e = cc
written_as-is Int number v u is e = cc
written_as-is Round number v u is e = cc
written_as-is Trunc number v u is e = cc

known_value-is : (a : Finding) (v u : Value) → IsTrueOf a v → known_value a ≡ Some u → v ≡ u
known_value-is a v u true_of e = by_written a.written refl
  where
    by_test : (t : Bool) → a.is_zero ≡ t → a.written ≡ None → v ≡ u
    by_test true t none = let known : Some zero_value ≡ Some u = rw (none, t) at e in true_of.zero t ∙ (cc)
    by_test false t none = let known : None ≡ Some u = rw (none, t) at e in cc

    by_written : (o : Option Value) → a.written ≡ o → v ≡ u
    by_written None none = by_test a.is_zero refl none
    by_written (Some w) some = let known : Some w ≡ Some u = rw some at e in true_of.written w some ∙ (cc)

-- by a number other than 0 the quotient of 0 is 0
-- of 0 this operation gives 0, where its other side is a number other than 0
abbrev KeepsZero : Op → Type 0
KeepsZero op = (k : ℤ) → k ≢ pos 0 → operation_of op zero_value (Num k) ≡ zero_value

divided-zero : (op : Op) (v u : Value) (b : Finding) → KeepsZero op → v ≡ zero_value → IsTrueOf b u → is_divisor b ≡ true → operation_of op v u ≡ zero_value
divided-zero op v u b keeps zero true_of divisor = by_written b.written refl
  where
    by_value : (x : Value) → is_other_than_zero x ≡ true → operation_of op zero_value x ≡ zero_value
    by_value (Num k) other = keeps k (λ e. let yes' : int_eq k (pos 0) ≡ true = (Decides-int_eq k (pos 0)).1 e in let no' : not true ≡ true = ap not (sym yes') ∙ other in cc)
    by_value Over other = cc

    by_written : (o : Option Value) → b.written ≡ o → operation_of op v u ≡ zero_value
    by_written None none = let no : false ≡ true = rw none at divisor in cc
    by_written (Some x) some = let other : is_other_than_zero x ≡ true = rw some at divisor in rw (zero, true_of.written x some) (by_value x other)

-- 0 is 0, rounded to whatever number of decimals
rounded-number : (u : Value) → (k : ℤ) × (u ≡ Num k) → rounded_to zero_value u ≡ zero_value
rounded-number u (k, is) = rw is (rounded_to-zero k)

sure-number : (u : Value) (b : Finding) → IsTrueOf b u → is_sure_number b ≡ true → (k : ℤ) × (u ≡ Num k)
sure-number u b true_of sure = by_table b.is_table refl
  where
    by_written : (o : Option Value) → b.written ≡ o → b.is_table ≡ false → (k : ℤ) × (u ≡ Num k)
    by_written None none isnt = let off : false ≡ true = rw (none, isnt) at sure in cc
    by_written (Some (Num k)) some isnt = (k, true_of.written (Num k) some)
    by_written (Some Over) some isnt = let off : false ≡ true = rw (some, isnt) at sure in cc

    by_table : (t : Bool) → b.is_table ≡ t → (k : ℤ) × (u ≡ Num k)
    by_table true is = true_of.table is
    by_table false isnt = by_written b.written refl isnt

rounded-zero_by : (u : Value) (b : Finding) → IsTrueOf b u → is_decimals b ≡ true → rounded_to zero_value u ≡ zero_value
rounded-zero_by u b true_of decimals = by_zero b.is_zero refl
  where
    by_zero : (t : Bool) → b.is_zero ≡ t → rounded_to zero_value u ≡ zero_value
    by_zero true is = rounded-number u (pos 0, true_of.zero is)
    by_zero false isnt = let sure : is_sure_number b ≡ true = rw isnt at decimals in rounded-number u (sure-number u b true_of sure)

zero_operation-is : (op : Op) (v u : Value) (za : Bool) (b : Finding) → (za ≡ true → v ≡ zero_value) → IsTrueOf b u
    → zero_operation op za b ≡ true → operation_of op v u ≡ zero_value
zero_operation-is Add v u za b left right e = let h = both za b.is_zero e in rw (left h.0, right.zero h.1) sum_of-zeros
zero_operation-is Sub v u za b left right e = let h = both za b.is_zero e in rw (left h.0, right.zero h.1) difference_of-zeros
zero_operation-is Max v u za b left right e = let h = both za b.is_zero e in rw (left h.0, right.zero h.1) greater_of-zeros
zero_operation-is Min v u za b left right e = let h = both za b.is_zero e in rw (left h.0, right.zero h.1) lesser_of-zeros
zero_operation-is Mul v u true b left right e = rw (left refl) (product_of-zero_left u)
zero_operation-is Mul v u false b left right e = rw (right.zero e) (product_of-zero_right v)
zero_operation-is DivSafe v u true b left right e = rw (left refl) (safe_quotient_of-zero_left u)
zero_operation-is DivSafe v u false b left right e = rw (right.zero e) (safe_quotient_of-zero_right v)
zero_operation-is Div v u za b left right e = let h = both za (is_divisor b) e in divided-zero Div v u b quotient_of-zero_left (left h.0) right h.1
zero_operation-is Mod v u za b left right e = let h = both za (is_divisor b) e in divided-zero Mod v u b remainder_of-zero_left (left h.0) right h.1
zero_operation-is RoundTo v u za b left right e = let h = both za (is_decimals b) e in rw (left h.0) (rounded-zero_by u b right h.1)

sure_comparison-is : (rel : Rel) (x y : Option Value) (a b : Value) (t : Bool)
    → ((v : Value) → x ≡ Some v → a ≡ v) → ((v : Value) → y ≡ Some v → b ≡ v) → sure_comparison rel x y ≡ Some t → comparison_of rel a b ≡ t
sure_comparison-is rel (Some v) (Some w) a b t left right e = rw (left v refl, right w refl) (cc)
sure_comparison-is rel (Some v) None a b t left right e = cc
sure_comparison-is rel None y a b t left right e = cc

sure_and-is : (x y : Option Bool) (a b t : Bool) → Tells x a → Tells y b → sure_and x y ≡ Some t → (a && b) ≡ t
sure_and-is (Some false) y a b t left right e = rw (left false refl) (cc)
sure_and-is (Some true) y a b t left right e = rw (left true refl) (right t e)
sure_and-is None (Some false) true b t left right e = right false refl ∙ (cc)
sure_and-is None (Some false) false b t left right e = cc
sure_and-is None (Some true) a b t left right e = cc
sure_and-is None None a b t left right e = cc

sure_or-is : (x y : Option Bool) (a b t : Bool) → Tells x a → Tells y b → sure_or x y ≡ Some t → (a || b) ≡ t
sure_or-is (Some true) y a b t left right e = rw (left true refl) (cc)
sure_or-is (Some false) y a b t left right e = rw (left false refl) (right t e)
sure_or-is None (Some true) true b t left right e = cc
sure_or-is None (Some true) false b t left right e = right true refl ∙ (cc)
sure_or-is None (Some false) a b t left right e = cc
sure_or-is None None a b t left right e = cc

sure_not-is : (x : Option Bool) (a t : Bool) → Tells x a → option_map not x ≡ Some t → not a ≡ t
sure_not-is (Some b) a t tells e = rw (tells b refl) (cc)
sure_not-is None a t tells e = cc

zero_choice-is : (x : Option Bool) (q za zb : Bool) (a b : Value) → Tells x q → (za ≡ true → a ≡ zero_value) → (zb ≡ true → b ≡ zero_value)
    → zero_choice x za zb ≡ true → cond q a b ≡ zero_value
zero_choice-is (Some true) q za zb a b tells left right e = rw (tells true refl) (left e)
zero_choice-is (Some false) q za zb a b tells left right e = rw (tells false refl) (right e)
zero_choice-is None true za zb a b tells left right e = left (both za zb e).0
zero_choice-is None false za zb a b tells left right e = right (both za zb e).1

module _ (covers : Reference → Bool) (named : Reference → Value) (others : Others) (stet : others.stet ≡ zero_value) (rest : others.rest ≡ zero_value) where
  abbrev Found : List Precedent → Finding → Value → Type 0
  Found ps a v = CoveredAreZero covers named ps → IsTrueOf a v

  abbrev FoundTruth : List Precedent → TruthFinding → Bool → Type 0
  FoundTruth ps a b = CoveredAreZero covers named ps → Tells a.sure b

  -- what is written as no number, and is 0 if the test says so
  unwritten : (zero : Bool) (n m : _) (v : Value) → (zero ≡ true → v ≡ zero_value)
      → IsTrueOf (record { number = None; written = None; is_zero = zero; is_table = false; operands = n; blamed = m }) v
  unwritten zero n m v is = record { number = λ k e. (cc); written = λ u e. (cc); zero = is; table = λ e. (cc) }

  layers : Layers precedents_step truth_precedents_step (finding_step covers) truth_finding_step (value_step named others) truth_step Found FoundTruth
  layers (Formula-F.Number k) zeros = record { number = λ n e. (cc); written = λ u e. (cc); zero = λ e. ap Num ((Decides-int_eq k (pos 0)).0 e); table = λ e. (cc) }
  layers Formula-F.Stet zeros = unwritten true _ _ others.stet (λ e. stet)
  layers Formula-F.Continue zeros = unwritten true _ _ others.rest (λ e. rest)
  layers (Formula-F.Children dim) zeros = unwritten false _ _ (others.children dim) (λ e. cc)
  layers (Formula-F.Ref r) zeros = unwritten (covers r) _ _ (named r) (λ e. zeros r (Contains-push [] (Named r)) e)
  layers (Formula-F.Table dim table) zeros =
      record { number = λ k e. (cc); written = λ u e. (cc); zero = λ e. (cc); table = λ e. (number_of table (others.own dim), refl) }
  layers (Formula-F.Binary op a b) zeros =
      let left = a.holds (left-zero covers named a.x b.x zeros) in
      let right = b.holds (right-zero covers named a.x b.x zeros) in
      unwritten (zero_operation op a.y.is_zero b.y) _ _ (operation_of op a.z b.z)
      (zero_operation-is op a.z b.z a.y.is_zero b.y left.zero right)
  layers (Formula-F.Unary function a) zeros =
      let inner = a.holds zeros in
      record {
        number = λ k e. (cc);
        written = λ u e. written_as-is function a.y.number a.z u inner.number e;
        zero = λ e. ap (function_of function) (inner.zero e) ∙ function_of-zero function;
        table = λ e. (cc);
      }
  layers (Formula-F.If t a b) zeros =
      let front = left-zero covers named (t.x ++ a.x) b.x zeros in
      let left = a.holds (right-zero covers named t.x a.x front) in
      let right = b.holds (right-zero covers named (t.x ++ a.x) b.x zeros) in
      unwritten (zero_choice t.y.sure a.y.is_zero b.y.is_zero) _ _ (cond t.z a.z b.z)
      (zero_choice-is t.y.sure t.z a.y.is_zero b.y.is_zero a.z b.z (t.holds (left-zero covers named t.x a.x front)) left.zero right.zero)

  truths : TruthLayers precedents_step truth_precedents_step (finding_step covers) truth_finding_step (value_step named others) truth_step Found FoundTruth
  truths (Truth-F.Compare rel a b) zeros t e =
      let left = a.holds (left-zero covers named a.x b.x zeros) in
      let right = b.holds (right-zero covers named a.x b.x zeros) in
      sure_comparison-is rel (known_value a.y) (known_value b.y) a.z b.z t
      (λ u. known_value-is a.y a.z u left) (λ u. known_value-is b.y b.z u right) e
  truths (Truth-F.And a b) zeros t e =
      sure_and-is a.y.sure b.y.sure a.z b.z t (a.holds (left-zero covers named a.x b.x zeros)) (b.holds (right-zero covers named a.x b.x zeros)) e
  truths (Truth-F.Or a b) zeros t e =
      sure_or-is a.y.sure b.y.sure a.z b.z t (a.holds (left-zero covers named a.x b.x zeros)) (b.holds (right-zero covers named a.x b.x zeros)) e
  truths (Truth-F.Not a) zeros t e = sure_not-is a.y.sure a.z t (a.holds zeros) e

  pub zero_test-is : (f : Formula) → CoveredAreZero covers named (precedents f) → zero_test covers f ≡ true → formula_value named others f ≡ zero_value
  zero_test-is f zeros e =
      (by_layers precedents_step truth_precedents_step (finding_step covers) truth_finding_step (value_step named others) truth_step Found FoundTruth layers truths f zeros).zero e
