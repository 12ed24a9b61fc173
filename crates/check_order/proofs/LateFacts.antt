-- The first reference that the walk finds late is the first that isn't earlier, cell by cell.
use Rattle.std.proofs.Common.{◌≡◌, refl, sym, ap, ◌∙◌, subst, arith, ℕ, zero, suc, ◌+◌, ◌<◌, ◌≤◌, Bool, true, false, not, ◌&&◌, IsTrue, Option, Some, None, IfSome, option_map, List, [], ◌∷◌, ◌++◌, length, map, take, get_or, All, inl, inr}
use Rattle.std.specs.Prelude.{slice_get}
use Rattle.std.specs.List.{flat_map, filter_map, range_with_len, position}
use Rattle.std.specs.Option.{option_map_or}
use Rattle.std.proofs.lemmas.Bool.{and_parts, cases_lt}
use Rattle.std.proofs.lemmas.List.{map-append}
use Rattle.std.proofs.lemmas.Option.{slice_get-get_or}
use Rattle.std.proofs.lemmas.List.Elements.{All-append}
use Rattle.cube_space.specs.Cells.{IsSpace}
use Rattle.rule_laws.specs.declared.formula.Formula.{Formula}
use Rattle.rule_laws.specs.Meaning.{Precedent}
use Rattle.rule_model.specs.declared.rules.Form.{Form}
use Rattle.rule_model.specs.declared.rules.Form.TheVariants.{Both, LeafFirst, ConsFirst}
use Rattle.rule_model.specs.declared.rules.Statement.{Statement}
use Rattle.rule_model.specs.BoundModel.{BoundModel, rules_of}
use Rattle.rule_model.specs.Conditions.{IsPrecedent, IsStatement, IsLeafPart, IsConsolidatedPart, AreRules}
use Rattle.order_laws.specs.Earlier.{is_earlier}
use Rattle.order_laws.proofs.Earlier.{earlier-decided, decided-earlier}
use Rattle.check_order.specs.declared.fault.OrderFault.{OrderFault}
use Rattle.check_order.specs.declared.fault.OrderFault.TheVariants.{NotEarlier}
use Rattle.check_order.specs.References.{both_marks, marks_by, marks_of, part_marks, first_late, late_in, late_of, late_references}
use Rattle.ref_order.specs.Counted.{Counted, for_leaf, for_cons, for_both, counted_by, counted_of, reads}
use Rattle.check_order.specs.FirstLate.{IsEarlierFor, IsEarlier, AreEarlier, IsFirstLateOf, IsFirstLate}
use Rattle.check_order.proofs.FirstLate.{fails-first, passes-first}
use Rattle.check_order.proofs.OrderedFacts.{all-pass, unmap, own-default, no_statement}
use Rattle.check_order.proofs.Firsts.{option-first, option-past, no-options, list-first, list-past, no_fault, here}

-- ---- lists

pub all-nothing : {X : Type 0} (P : X → Type 0) → All P []
all-nothing P k d low = absurd (omega (arith, low))

pub all-front : {X : Type 0} (P : X → Type 0) (x : X) (xs : List X) → P x → All P xs → All P (x ∷ xs)
all-front P x xs here all zero d low = here
all-front P x xs here all (suc k) d low = all k d (omega (arith, low))

pub all-mapped : {X Y : Type 0} (P : Y → Type 0) (f : X → Y) (xs : List X) → All (λ x. P (f x)) xs → All P (map f xs)
all-mapped P f [] all = all-nothing P
all-mapped P f (x ∷ xs) all = all-front P (f x) (map f xs) (all 0 x (omega arith)) (all-mapped P f xs (λ k d low. all (suc k) d (omega (arith, low))))

all-taken : {X : Type 0} (P : X → Type 0) (n : ℕ) (xs : List X) → All P xs → All P (take n xs)
all-taken P zero xs all = all-nothing P
all-taken P (suc n) [] all = all-nothing P
all-taken P (suc n) (x ∷ xs) all = all-front P x (take n xs) (all 0 x (omega arith)) (all-taken P n xs (λ k d low. all (suc k) d (omega (arith, low))))

pub all-into : {X : Type 0} (P Q : X → Type 0) (xs : List X) → ((x : X) → P x → Q x) → All P xs → All Q xs
all-into P Q xs into all k d low = into (get_or xs k d) (all k d low)

all-both : {X : Type 0} (P Q : X → Type 0) (xs : List X) → All P xs → All Q xs → All (λ x. P x × Q x) xs
all-both P Q xs one two k d low = (one k d low, two k d low)

at-place : {X : Type 0} (P : X → Type 0) (xs : List X) (n : ℕ) (x : X) → All P xs → slice_get xs n ≡ Some x → P x
at-place P [] n x all at = absurd (cc at)
at-place P (y ∷ xs) zero x all at = let same : y ≡ x = cc at in subst P same (all 0 y (omega arith))
at-place P (y ∷ xs) (suc n) x all at = at-place P xs n x (λ k d low. all (suc k) d (omega (arith, low))) at

unmapped-at : {X Y : Type 0} (f : X → Y) (xs : List X) (n : ℕ) (y : Y) → slice_get (map f xs) n ≡ Some y → (x : X) × (slice_get xs n ≡ Some x) × (f x ≡ y)
unmapped-at f [] n y at = absurd (cc at)
unmapped-at f (x ∷ xs) zero y at = (x, refl, cc at)
unmapped-at f (x ∷ xs) (suc n) y at = unmapped-at f xs n y at

unmapped-all : {X : Type 0} (test : X → Bool) (n : ℕ) (xs : List X) → All IsTrue (take n (map test xs)) → All (λ x. IsTrue (test x)) (take n xs)
unmapped-all test zero xs all = all-nothing (λ x. IsTrue (test x))
unmapped-all test (suc n) [] all = all-nothing (λ x. IsTrue (test x))
unmapped-all test (suc n) (x ∷ xs) all = all-front (λ x. IsTrue (test x)) x (take n xs) (all 0 true (omega arith)) (unmapped-all test n xs (λ k d low. all (suc k) d (omega (arith, low))))

-- ---- marks

-- the first mark that fails
record IsFirstFailed (marks : List Bool) (place : ℕ) : Type 0 where
  here : slice_get marks place ≡ Some false
  before : All IsTrue (take place marks)

failed-first : (marks : List Bool) (place : ℕ) → position not marks ≡ Some place → IsFirstFailed marks place
failed-first [] place is = absurd (cc is)
failed-first (false ∷ marks) place is =
    let same : Some 0 ≡ Some place = sym (fails-first marks) ∙ is in
    let zeroth : 0 ≡ place = cc same in
    subst (IsFirstFailed (false ∷ marks)) zeroth (record { here = refl; before = all-nothing IsTrue })
failed-first (true ∷ marks) place is = by (position not marks) refl (failed-first marks)
  where
    by : (o : Option ℕ) → position not marks ≡ o → ((n : ℕ) → position not marks ≡ Some n → IsFirstFailed marks n) → IsFirstFailed (true ∷ marks) place
    by None none again = absurd (let wrong : None ≡ Some place = sym (ap (option_map suc) none) ∙ sym (passes-first marks) ∙ is in cc wrong)
    by (Some n) some again =
        let same : Some (suc n) ≡ Some place = sym (ap (option_map suc) some) ∙ sym (passes-first marks) ∙ is in
        let next : suc n ≡ place = cc same in
        let rest = again n some in
        subst (IsFirstFailed (true ∷ marks)) next (record { here = rest.here; before = all-front IsTrue true (take n marks) refl rest.before })

module _ (m : BoundModel) (cube : ℕ) (s : Statement) where
  abbrev mark : Bool → Precedent → Bool
  mark kind p = is_earlier m cube s.area kind p

  abbrev mark-in : Bool → Option Precedent → Bool
  mark-in kind o = option_map_or (mark kind) o true

  abbrev mark-of : Counted → Bool
  mark-of r = mark-in true r.leaf && mark-in false r.cons

  and-true : (b : Bool) → (b && true) ≡ b
  and-true true = refl
  and-true false = refl

  part-marked : (kind : Bool) (part : Option Formula) → part_marks m cube s.area kind part ≡ map (mark kind) (reads part)
  part-marked kind None = refl
  part-marked kind (Some f) = refl

  cons-marked : (ps : List Precedent) → map (mark false) ps ≡ map mark-of (map for_cons ps)
  cons-marked [] = refl
  cons-marked (p ∷ ps) = ap (λ bs. mark false p ∷ bs) (cons-marked ps)

  leaf-marked : (ps : List Precedent) → map (mark true) ps ≡ map mark-of (map for_leaf ps)
  leaf-marked [] = refl
  leaf-marked (p ∷ ps) = ap (λ b. b ∷ map (mark true) ps) (sym (and-true (mark true p))) ∙ ap (λ bs. mark-of (for_leaf p) ∷ bs) (leaf-marked ps)

  both-marked : (ls cs : List Precedent) → both_marks (map (mark true) ls) (map (mark false) cs) ≡ map mark-of (for_both ls cs)
  both-marked [] cs = cons-marked cs
  both-marked (p ∷ ls) [] = leaf-marked (p ∷ ls)
  both-marked (p ∷ ls) (q ∷ cs) = ap (λ bs. (mark true p && mark false q) ∷ bs) (both-marked ls cs)

  form-marked : (form : Form) (ls cs : List Precedent) → marks_by form (map (mark true) ls) (map (mark false) cs) ≡ map mark-of (counted_by form ls cs)
  form-marked Both ls cs = both-marked ls cs
  form-marked LeafFirst ls cs =
      ap (λ bs. bs ++ map (mark false) cs) (leaf-marked ls) ∙ ap (λ bs. map mark-of (map for_leaf ls) ++ bs) (cons-marked cs) ∙ sym (map-append mark-of (map for_leaf ls) (map for_cons cs))
  form-marked ConsFirst ls cs =
      ap (λ bs. bs ++ map (mark true) ls) (cons-marked cs) ∙ ap (λ bs. map mark-of (map for_cons cs) ++ bs) (leaf-marked ls) ∙ sym (map-append mark-of (map for_cons cs) (map for_leaf ls))

  -- of each counted reference whether it stands before
  marked : marks_of m cube s ≡ map mark-of (counted_of s)
  unfolding marks_of counted_of
  marked = ap (λ bs. marks_by s.form bs (part_marks m cube s.area false s.cons)) (part-marked true s.leaf)
      ∙ ap (marks_by s.form (map (mark true) (reads s.leaf))) (part-marked false s.cons) ∙ form-marked s.form (reads s.leaf) (reads s.cons)

-- ---- each counted reference reads what the statement reads

module _ (P : Bool → Precedent → Type 0) where
  abbrev pub Has : Counted → Type 0
  Has r = IfSome r.leaf (P true) × IfSome r.cons (P false)

  has-leaf : (ps : List Precedent) → All (P true) ps → All Has (map for_leaf ps)
  has-leaf ps all = all-mapped Has for_leaf ps (all-into (P true) (λ p. Has (for_leaf p)) ps (λ p is. (is, tt)) all)

  has-cons : (ps : List Precedent) → All (P false) ps → All Has (map for_cons ps)
  has-cons ps all = all-mapped Has for_cons ps (all-into (P false) (λ p. Has (for_cons p)) ps (λ p is. (tt, is)) all)

  has-both : (ls cs : List Precedent) → All (P true) ls → All (P false) cs → All Has (for_both ls cs)
  has-both [] cs one two = has-cons cs two
  has-both (p ∷ ls) [] one two = has-leaf (p ∷ ls) one
  has-both (p ∷ ls) (q ∷ cs) one two =
      all-front Has (record { leaf = Some p; cons = Some q }) (for_both ls cs) (one 0 p (omega arith), two 0 q (omega arith))
      (has-both ls cs (λ k d low. one (suc k) d (omega (arith, low))) (λ k d low. two (suc k) d (omega (arith, low))))

  has-counted : (form : Form) (ls cs : List Precedent) → All (P true) ls → All (P false) cs → All Has (counted_by form ls cs)
  has-counted Both ls cs one two = has-both ls cs one two
  has-counted LeafFirst ls cs one two = All-append Has (map for_leaf ls) (map for_cons cs) (has-leaf ls one) (has-cons cs two)
  has-counted ConsFirst ls cs one two = All-append Has (map for_cons cs) (map for_leaf ls) (has-cons cs two) (has-leaf ls one)

  pub has-parts : (s : Statement) → All (P true) (reads s.leaf) → All (P false) (reads s.cons) → All Has (counted_of s)
  unfolding counted_of
  has-parts s one two = has-counted s.form (reads s.leaf) (reads s.cons) one two

-- ---- a statement

module _ (m : BoundModel) (valid : IsSpace m.space) (ruled : AreRules m.space m.rules) (cube : ℕ) (there : cube < length m.space.cubes) (s : Statement) (is : IsStatement m.space cube s) where
  abbrev Reads : Counted → Type 0
  Reads = Has (λ kind. IsPrecedent m.space cube)

  leaf-reads : (part : Option Formula) → IfSome part (IsLeafPart m.space cube) → All (IsPrecedent m.space cube) (reads part)
  leaf-reads None own = all-nothing _
  leaf-reads (Some f) own = own.0

  cons-reads : (part : Option Formula) → IfSome part (IsConsolidatedPart m.space cube) → All (IsPrecedent m.space cube) (reads part)
  cons-reads None own = all-nothing _
  cons-reads (Some f) own = own

  all-read : All Reads (counted_of s)
  all-read = has-parts (λ kind. IsPrecedent m.space cube) s (leaf-reads s.leaf is.leaf) (cons-reads s.cons is.consolidated)

  earlier-in : (kind : Bool) (o : Option Precedent) → IfSome o (IsPrecedent m.space cube) → IsTrue (mark-in m cube s kind o) → IfSome o (IsEarlierFor m cube s kind)
  earlier-in kind None own on = tt
  earlier-in kind (Some p) own on = earlier-decided m valid ruled cube there s is.area kind p own on

  in-earlier : (kind : Bool) (o : Option Precedent) → IfSome o (IsPrecedent m.space cube) → IfSome o (IsEarlierFor m cube s kind) → mark-in m cube s kind o ≡ true
  in-earlier kind None own earlier = refl
  in-earlier kind (Some p) own earlier = decided-earlier m valid ruled cube there s is.area kind p own earlier

  marked-earlier : (r : Counted) → Reads r × IsTrue (mark-of m cube s r) → IsEarlier m cube s r
  marked-earlier r (own, on) =
      let both = and_parts (mark-in m cube s true r.leaf) (mark-in m cube s false r.cons) on in
      (earlier-in true r.leaf own.0 both.0, earlier-in false r.cons own.1 both.1)

  earlier-marked : (r : Counted) → Reads r → IsEarlier m cube s r → mark-of m cube s r ≡ true
  earlier-marked r own earlier = rw (in-earlier true r.leaf own.0 earlier.0) (in-earlier false r.cons own.1 earlier.1)

  pub late-of-statement : (reference : ℕ) → first_late (marks_of m cube s) ≡ Some reference → IsFirstLateOf m cube s reference
  late-of-statement reference late = by (position not (map (mark-of m cube s) (counted_of s))) refl
    where
      marks : List Bool
      marks = map (mark-of m cube s) (counted_of s)

      by : (o : Option ℕ) → position not marks ≡ o → IsFirstLateOf m cube s reference
      by None none = absurd (let wrong : None ≡ Some reference = sym (ap (option_map suc) none) ∙ ap first_late (sym (marked m cube s)) ∙ late in cc wrong)
      by (Some place) some =
          let same : Some (suc place) ≡ Some reference = sym (ap (option_map suc) some) ∙ ap first_late (sym (marked m cube s)) ∙ late in
          let failed = failed-first marks place some in
          let found = unmapped-at (mark-of m cube s) (counted_of s) place false failed.here in
          let own = at-place Reads (counted_of s) place found.0 all-read found.1 in
          record {
            place = place;
            number = cc same;
            it = found.0;
            here = found.1;
            fails = λ earlier. (let wrong : false ≡ true = sym found.2 ∙ earlier-marked found.0 own earlier in cc wrong);
            before =
                all-into (λ r. Reads r × IsTrue (mark-of m cube s r)) (IsEarlier m cube s) (take place (counted_of s)) marked-earlier
                (all-both Reads (λ r. IsTrue (mark-of m cube s r)) (take place (counted_of s)) (all-taken Reads place (counted_of s) all-read) (unmapped-all (mark-of m cube s) place (counted_of s) failed.before));
          }

  pub none-late : first_late (marks_of m cube s) ≡ None → AreEarlier m cube s
  none-late none = by (position not (map (mark-of m cube s) (counted_of s))) refl
    where
      by : (o : Option ℕ) → position not (map (mark-of m cube s) (counted_of s)) ≡ o → AreEarlier m cube s
      by None nowhere =
          all-into (λ r. Reads r × IsTrue (mark-of m cube s r)) (IsEarlier m cube s) (counted_of s) marked-earlier
          (all-both Reads (λ r. IsTrue (mark-of m cube s r)) (counted_of s) all-read
          (unmap (mark-of m cube s) (counted_of s) (all-pass (map (mark-of m cube s) (counted_of s)) nowhere)))
      by (Some place) some = absurd (let wrong : Some (suc place) ≡ None = sym (ap (option_map suc) some) ∙ ap first_late (sym (marked m cube s)) ∙ none in cc wrong)

-- ---- the first of a list of options, and of lists

record FirstOption {Y : Type 0} (h : ℕ → Option Y) (a k : ℕ) (y : Y) : Type 0 where
  at : ℕ
  from : a ≤ at
  low : at < a + k
  is : h at ≡ Some y
  none : (j : ℕ) → a ≤ j → j < at → h j ≡ None

first-option : {Y : Type 0} (h : ℕ → Option Y) (a k : ℕ) (y : Y) → slice_get (filter_map h (range_with_len a k)) 0 ≡ Some y → FirstOption h a k y
first-option h a zero y is = absurd (cc is)
first-option {Y} h a (suc k) y is = by (h a) refl (first-option h (a + 1) k y)
  where
    by : (o : Option Y) → h a ≡ o → (slice_get (filter_map h (range_with_len (a + 1) k)) 0 ≡ Some y → FirstOption h (a + 1) k y) → FirstOption h a (suc k) y
    by (Some x) here again =
        let same : Some x ≡ Some y = option-first h a (suc k) k x refl here ∙ is in
        record { at = a; from = omega arith; low = omega arith; is = here ∙ same; none = λ j from low. absurd (omega (arith, from, low)) }
    by None here again =
        let later = again (option-past h a (suc k) k refl here ∙ is) in
        record {
          at = later.at;
          from = omega (arith, later.from);
          low = omega (arith, later.low);
          is = later.is;
          none = λ j from low. elim (cases_lt a j) [
            | inl after ↦ later.none j (omega (arith, after)) low
            | inr before ↦ (let same : a ≡ j = omega (arith, before, from) in ap h (sym same) ∙ here)
          ];
        }

record FirstList {Y : Type 0} (h : ℕ → List Y) (a k : ℕ) (y : Y) : Type 0 where
  at : ℕ
  from : a ≤ at
  low : at < a + k
  is : slice_get (h at) 0 ≡ Some y
  none : (j : ℕ) → a ≤ j → j < at → slice_get (h j) 0 ≡ None

first-list : {Y : Type 0} (h : ℕ → List Y) (a k : ℕ) (y : Y) → slice_get (flat_map h (range_with_len a k)) 0 ≡ Some y → FirstList h a k y
first-list h a zero y is = absurd (cc is)
first-list {Y} h a (suc k) y is = by (slice_get (h a) 0) refl (first-list h (a + 1) k y)
  where
    by : (o : Option Y) → slice_get (h a) 0 ≡ o → (slice_get (flat_map h (range_with_len (a + 1) k)) 0 ≡ Some y → FirstList h (a + 1) k y) → FirstList h a (suc k) y
    by (Some x) here again =
        let same : Some x ≡ Some y = list-first h a (suc k) k x refl here ∙ is in
        record { at = a; from = omega arith; low = omega arith; is = here ∙ same; none = λ j from low. absurd (omega (arith, from, low)) }
    by None here again =
        let later = again (list-past h a (suc k) k refl here ∙ is) in
        record {
          at = later.at;
          from = omega (arith, later.from);
          low = omega (arith, later.low);
          is = later.is;
          none = λ j from low. elim (cases_lt a j) [
            | inl after ↦ later.none j (omega (arith, after)) low
            | inr before ↦ (let same : a ≡ j = omega (arith, before, from) in ap (λ n. slice_get (h n) 0) (sym same) ∙ here)
          ];
        }

-- ---- the model

-- of each of the first so many items it holds where it does at their places
taken-all : {X : Type 0} (P : X → Type 0) (xs : List X) (n : ℕ) (d : X) → n ≤ length xs → ((k : ℕ) → k < n → P (get_or xs k d)) → All P (take n xs)
taken-all P xs zero d few each = all-nothing P
taken-all P [] (suc n) d few each = absurd (omega (arith, few))
taken-all P (x ∷ xs) (suc n) d few each =
    all-front P x (take n xs) (each 0 (omega arith)) (taken-all P xs n d (omega (arith, few)) (λ k low. each (suc k) (omega (arith, low))))

-- what the first late reference of the model is
pub record FoundLate (m : BoundModel) (fault : OrderFault) : Type 0 where
  pub cube : ℕ
  pub statement : ℕ
  pub reference : ℕ
  pub is : fault ≡ NotEarlier cube statement reference
  pub first : IsFirstLate m cube statement reference

module _ (m : BoundModel) (valid : IsSpace m.space) (ruled : AreRules m.space m.rules) where
  statement-is : (cube : ℕ) → cube < length m.space.cubes → (n : ℕ) (d : Statement) → n < length (rules_of m cube).statements → IsStatement m.space cube (get_or (rules_of m cube).statements n d)
  statement-is cube there n d low = (ruled.cube cube there).statements n d low

  at-statement-earlier : (cube : ℕ) → cube < length m.space.cubes → (n : ℕ) → n < length (rules_of m cube).statements → late_in m cube (rules_of m cube).statements n ≡ None
      → AreEarlier m cube (get_or (rules_of m cube).statements n no_statement)
  at-statement-earlier cube there n low none =
      let ss = (rules_of m cube).statements in
      let s = get_or ss n no_statement in
      none-late m valid ruled cube there s (statement-is cube there n no_statement low) (no_fault m cube ss n s low (own-default m ss n no_statement low) none)

  cube-earlier : (cube : ℕ) → cube < length m.space.cubes → slice_get (late_of m cube) 0 ≡ None → All (AreEarlier m cube) (rules_of m cube).statements
  unfolding late_of
  cube-earlier cube there none n d low =
      let ss = (rules_of m cube).statements in
      let s = get_or ss n d in
      let nothing = no-options (late_in m cube ss) 0 (length ss) none n (omega arith) (omega (arith, low)) in
      none-late m valid ruled cube there s (statement-is cube there n d low) (no_fault m cube ss n s low (own-default m ss n d low) nothing)

  late-parts : (cube n : ℕ) (late : Option ℕ) (fault : OrderFault) → option_map (NotEarlier cube (n + 1)) late ≡ Some fault → (r : ℕ) × (late ≡ Some r) × (fault ≡ NotEarlier cube (n + 1) r)
  late-parts cube n None fault is = absurd (cc is)
  late-parts cube n (Some r) fault is = let same : Some (NotEarlier cube (n + 1) r) ≡ Some fault = is in (r, refl, cc same)

  pub first-late-is : (fault : OrderFault) → slice_get (late_references m) 0 ≡ Some fault → FoundLate m fault
  unfolding late_references late_of
  first-late-is fault is =
      let by-cube = first-list (late_of m) 0 (length m.space.cubes) fault is in
      let cube = by-cube.at in
      let there : cube < length m.space.cubes = omega (arith, by-cube.low) in
      let ss = (rules_of m cube).statements in
      let by-statement = first-option (late_in m cube ss) 0 (length ss) fault by-cube.is in
      let n = by-statement.at in
      let low : n < length ss = omega (arith, by-statement.low) in
      let s = get_or ss n no_statement in
      let late = late-parts cube n (first_late (marks_of m cube s)) fault (sym (here m cube ss n s low (own-default m ss n no_statement low)) ∙ by-statement.is) in
      record {
        cube = cube;
        statement = n + 1;
        reference = late.0;
        is = late.2;
        first = record {
          inside = there;
          place = n;
          number = (let e : n + 1 ≡ suc n = omega arith in e);
          it = s;
          here = slice_get-get_or ss n no_statement low;
          first = late-of-statement m valid ruled cube there s (statement-is cube there n no_statement low) late.0 late.1;
          before =
              taken-all (AreEarlier m cube) ss n no_statement (omega (arith, low)) (λ k less. (
              at-statement-earlier cube there k (omega (arith, less, low)) (by-statement.none k (omega arith) less)));
          cubes_before = λ k less. cube-earlier k (omega (arith, less, there)) (by-cube.none k (omega arith) less);
        };
      }
