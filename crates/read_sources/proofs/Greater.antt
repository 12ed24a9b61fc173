-- The first reference that may read at a greater lag.
use Rattle.std.proofs.Common.{◌≡◌, refl, sym, ap, ◌∙◌, arith, subst, ℕ, suc, ◌+◌, ◌<◌, ◌≤◌, min, inl, inr, Bool, true, false, Option, Some, None, List, length, All, Result, IsErrAnd, IfErr}
use Rattle.std.specs.Prelude.{slice_get, IsTrue, IfSome}
use Rattle.std.proofs.lemmas.Bool.{cases_lt}
use Rattle.std.proofs.lemmas.Result.{err_from_is_err_and}
use Rattle.cube_space.specs.Cells.{IsSpace}
use Rattle.rule_laws.specs.Meaning.{Precedent}
use Rattle.rule_model.specs.declared.rules.Statement.{Statement}
use Rattle.rule_model.specs.BoundModel.{BoundModel, rules_of}
use Rattle.rule_model.specs.Conditions.{AreRules}
use Rattle.ref_order.specs.Counted.{Counted, counted_of}
use Rattle.ref_order.specs.FirstReference.{HoldsOfEach, IsFirstOf}
use Rattle.arrow_laws.specs.Arrows.{Reads, IsLevel, IsLevelThroughout}
use Rattle.arrow_laws.specs.ByDimension.{is_level}
use Rattle.arrow_laws.proofs.Lag.{level-decided}
use Rattle.read_sources.specs.declared.fault.ReadFault.{ReadFault}
use Rattle.read_sources.specs.declared.fault.ReadFault.TheVariants.{Unlagged, Memory}
use Rattle.read_sources.specs.declared.part.Part.{Part}
use Rattle.read_sources.specs.declared.source.Source.{Source}
use Rattle.read_sources.specs.Sources.{read_for}
use Rattle.read_sources.specs.Sources.{AreSourcesOf}
use Rattle.read_sources.specs.Unlagged.{IsLevelReference, IsFirstUnlagged}
use Rattle.read_sources.specs.Gathering.{reads_for, counted_before, IsStatementAt, AreGathered, IsTaken, AreTaken, IsStatementTaken, IsCubeTaken, IsPartDone, earliest, IsStatementFault, IsCubeFault, IsUnlaggedFault}
use Rattle.read_sources.proofs.Lists.{at-of}
use Rattle.read_sources.proofs.Placed.{all-of, all-before}
use Rattle.read_sources.proofs.Counting.{counted-place, place-counted}
use Rattle.read_sources.proofs.Gathered.{statement-is, precedent-is, reads-placed}

-- an error that is handed on
pub handed-on : {T : Type 0} (r : Result T ReadFault) (fault : ReadFault) (Q : ReadFault → Type 0) → IsErrAnd r (λ e. e ≡ fault) → Q fault → IfErr r Q
handed-on r fault Q gives holds = let p = err_from_is_err_and r gives in rw (p.1, p.2) holds

each-there : (P : Precedent → Type 0) (o : Option Precedent) → ((p : Precedent) → o ≡ Some p → P p) → IfSome o P
each-there P None h = tt
each-there P (Some p) h = h p refl

there-each : (P : Precedent → Type 0) (o : Option Precedent) (p : Precedent) → o ≡ Some p → IfSome o P → P p
there-each P o p is h = subst (λ o. IfSome o P) is h

module _ (m : BoundModel) (cube number : ℕ) (st : Statement) (is : IsStatementAt m cube number st) where
  -- the reads of this kind whose numbers in the statement, from 1, come before this one, are level
  abbrev pub AreLevelBefore : Bool → ℕ → Type 0
  AreLevelBefore kind end =
      (k : ℕ) (p : Precedent) → suc (counted_before st kind + k) < end → slice_get (reads_for st kind) k ≡ Some p → IsTrue (is_level m cube st.area kind p)

  level-of : (kind : Bool) (k : ℕ) (p : Precedent) → slice_get (reads_for st kind) k ≡ Some p → IsTrue (is_level m cube st.area kind p) → IsLevel m cube st kind p
  level-of kind k p at = (level-decided m is.valid is.ruled cube is.within st (statement-is m cube number st is).area kind p (precedent-is m cube number st is kind k p at)).0

  of-level : (kind : Bool) (k : ℕ) (p : Precedent) → slice_get (reads_for st kind) k ≡ Some p → IsLevel m cube st kind p → IsTrue (is_level m cube st.area kind p)
  of-level kind k p at = (level-decided m is.valid is.ruled cube is.within st (statement-is m cube number st is).area kind p (precedent-is m cube number st is kind k p at)).1

  reference-level : (j : ℕ) (it : Counted) → slice_get (counted_of st) j ≡ Some it → AreLevelBefore true (suc (suc j)) → AreLevelBefore false (suc (suc j)) → IsLevelReference m cube st it
  reference-level j it at leaf cons = (by true leaf, by false cons)
    where
      by : (kind : Bool) → AreLevelBefore kind (suc (suc j)) → IfSome (read_for kind it) (IsLevel m cube st kind)
      by kind level = each-there (IsLevel m cube st kind) (read_for kind it) (λ p own.
          (let (k, from, there) = place-counted st kind j it p at own in level-of kind k p there (level k p (omega (arith, from)) there)))

  fewer : (kind : Bool) (less end : ℕ) → less ≤ end → AreLevelBefore kind end → AreLevelBefore kind less
  fewer kind less end below h k p low at = h k p (omega (arith, below, low)) at

  -- all references are level, where all that is read is
  pub holds-each : (xs : List Source) → IsStatementTaken m xs cube st → HoldsOfEach (IsLevelReference m cube st) st
  holds-each xs (leaf, cons) = all-of (IsLevelReference m cube st) (counted_of st) (λ j it at. reference-level j it at (λ k p low at. (leaf k p at).level) (λ k p low at. (cons k p at).level))

  -- the first of a part that isn't is the first of the statement, where those of both parts that come before are level
  first-by : (kind : Bool) (reference at : ℕ) (p : Precedent) → reference ≡ suc (counted_before st kind + at) → slice_get (reads_for st kind) at ≡ Some p → is_level m cube st.area kind p ≡ false
      → AreLevelBefore true reference → AreLevelBefore false reference → IsFirstOf (IsLevelReference m cube st) st reference
  first-by kind reference at p is_number there greater leaf cons =
      let place = counted_before st kind + at in
      let (it, here, own) = counted-place st kind place at p refl there in
      record {
        place = place;
        number = is_number;
        it = it;
        here = here;
        fails = λ level. fails kind it own there greater level;
        before = all-before (IsLevelReference m cube st) place (counted_of st) (λ j other low at. reference-level j other at (fewer true (suc (suc j)) reference (omega (arith, low, is_number)) leaf) (fewer false (suc (suc j)) reference (omega (arith, low, is_number)) cons));
      }
    where
      fails : (kind : Bool) (it : Counted) → read_for kind it ≡ Some p → slice_get (reads_for st kind) at ≡ Some p → is_level m cube st.area kind p ≡ false → IsLevelReference m cube st it → ⊥
      fails true it own there greater (leaf, cons) =
          let wrong : true ≡ false = sym (of-level true at p there (there-each (IsLevel m cube st true) it.leaf p own leaf)) ∙ greater in cc
      fails false it own there greater (leaf, cons) =
          let wrong : true ≡ false = sym (of-level false at p there (there-each (IsLevel m cube st false) it.cons p own cons)) ∙ greater in cc

-- ---- the parts of a statement

-- what was said of a part, as its statement says it
abbrev pub IsKindDone : BoundModel → ℕ → Statement → Bool → List Source → Option ℕ → Type 0
IsKindDone m cube st kind xs None = AreTaken m xs cube st kind
IsKindDone m cube st kind xs (Some reference) =
    (at : ℕ) × (p : Precedent) × (reference ≡ suc (counted_before st kind + at)) × (slice_get (reads_for st kind) at ≡ Some p) × (is_level m cube st.area kind p ≡ false)
    × ((k : ℕ) (q : Precedent) → k < at → slice_get (reads_for st kind) k ≡ Some q → IsTrue (is_level m cube st.area kind q))

pub kind-done : (part : Part) (xs : List Source) (o : Option ℕ) → part.before ≡ counted_before part.statement.now part.kind → IsPartDone part xs o → IsKindDone part.model.now part.cube part.statement.now part.kind xs o
kind-done part xs None is done = done
kind-done part xs (Some reference) is done =
    (done.at, done.read, done.number ∙ ap (λ n. suc (n + done.at)) is, done.here, done.greater, done.before)

module _ (m : BoundModel) (cube number : ℕ) (st : Statement) (is : IsStatementAt m cube number st) where
  abbrev Before : Bool → ℕ → Type 0
  Before kind end = AreLevelBefore m cube number st is kind end

  -- what comes before the first is level
  before-done : (kind : Bool) (xs : List Source) (reference end : ℕ) → end ≤ reference → IsKindDone m cube st kind xs (Some reference) → Before kind end
  before-done kind xs reference end below (at, p, is_number, there, greater, before) k q low here = before k q (omega (arith, below, low, is_number)) here

  none-done : (kind : Bool) (xs : List Source) (end : ℕ) → IsKindDone m cube st kind xs None → Before kind end
  none-done kind xs end done k q low here = (done k q here).level

  first-of-kind : (kind : Bool) (xs : List Source) (reference : ℕ) → IsKindDone m cube st kind xs (Some reference) → Before true reference → Before false reference
      → IsFirstOf (IsLevelReference m cube st) st reference
  first-of-kind kind xs reference (at, p, is_number, there, greater, before) leaf cons = first-by m cube number st is kind reference at p is_number there greater leaf cons

  pub first-of-both : (xs ys : List Source) (a b : Option ℕ) (reference : ℕ) → IsKindDone m cube st true xs a → IsKindDone m cube st false ys b → earliest a b ≡ Some reference
      → IsFirstOf (IsLevelReference m cube st) st reference
  first-of-both xs ys None None reference one two is_first = absurd (cc)
  first-of-both xs ys None (Some b) reference one two is_first =
      let same : b ≡ reference = cc in
      subst (IsFirstOf (IsLevelReference m cube st) st) same (first-of-kind false ys b two (none-done true xs b one) (before-done false ys b b (omega arith) two))
  first-of-both xs ys (Some a) None reference one two is_first =
      let same : a ≡ reference = cc in
      subst (IsFirstOf (IsLevelReference m cube st) st) same (first-of-kind true xs a one (before-done true xs a a (omega arith) one) (none-done false ys a two))
  first-of-both xs ys (Some a) (Some b) reference one two is_first =
      let same : min a b ≡ reference = cc in
      subst (IsFirstOf (IsLevelReference m cube st) st) same (elim (cases_lt b a) [
        | inl less ↦ let e : b ≡ min a b = omega (arith, less) in
            subst (IsFirstOf (IsLevelReference m cube st) st) e (first-of-kind false ys b two (before-done true xs a b (omega (arith, less)) one) (before-done false ys b b (omega arith) two))
        | inr more ↦ let e : a ≡ min a b = omega (arith, more) in
            subst (IsFirstOf (IsLevelReference m cube st) st) e (first-of-kind true xs a one (before-done true xs a a (omega arith) one) (before-done false ys b a (omega (arith, more)) two))
      ])

pub none-first : (a b : Option ℕ) → earliest a b ≡ None → (a ≡ None) × (b ≡ None)
none-first None b is = (refl, is)
none-first (Some a) None is = absurd (cc)
none-first (Some a) (Some b) is = absurd (cc)

pub taken-both : (m : BoundModel) (cube : ℕ) (st : Statement) (kind : Bool) (xs : List Source) (a : Option ℕ) → IsKindDone m cube st kind xs a → a ≡ None → AreTaken m xs cube st kind
taken-both m cube st kind xs a done none = subst (IsKindDone m cube st kind xs) none done

-- ---- a cube, and the model

module _ (m : BoundModel) (cube : ℕ) (xs : List Source) where
  -- the statements before this one are taken
  abbrev pub AreTakenBefore : ℕ → Type 0
  AreTakenBefore end = (place : ℕ) (st : Statement) → place < end → slice_get (rules_of m cube).statements place ≡ Some st → IsStatementTaken m xs cube st

pub pick : (m : BoundModel) (xs : List Source) (cube : ℕ) (st : Statement) (kind : Bool) → IsStatementTaken m xs cube st → AreTaken m xs cube st kind
pick m xs cube st true taken = taken.0
pick m xs cube st false taken = taken.1

module _ (m : BoundModel) (valid : IsSpace m.space) (ruled : AreRules m.space m.rules) where
  module _ (cube : ℕ) (there : cube < length m.space.cubes) where
    pub at-place : (place : ℕ) (st : Statement) → slice_get (rules_of m cube).statements place ≡ Some st → IsStatementAt m cube (suc place) st
    at-place place st here = record { valid = valid; ruled = ruled; within = there; place = place; number_is = refl; here = here }

    holds-at : (xs : List Source) (place : ℕ) (st : Statement) → slice_get (rules_of m cube).statements place ≡ Some st → IsStatementTaken m xs cube st → HoldsOfEach (IsLevelReference m cube st) st
    holds-at xs place st here taken = holds-each m cube (suc place) st (at-place place st here) xs taken

    pub cube-fault : (xs : List Source) (place number : ℕ) (st : Statement) (fault : ReadFault) → number ≡ suc place → slice_get (rules_of m cube).statements place ≡ Some st → AreTakenBefore m cube xs place
        → IsStatementFault m cube number st fault → IsCubeFault m cube fault
    cube-fault xs place number st (Unlagged c n r) is here before (own, same, first) = (
      own,
      record {
        place = place;
        number_is = same ∙ is;
        it = st;
        here = here;
        first = first;
        before = all-before (λ s. HoldsOfEach (IsLevelReference m cube s) s) place (rules_of m cube).statements (λ k other low at. holds-at xs k other at (before k other low at));
      },
    )
    cube-fault xs place number st Memory is here before h = h

    pub cube-holds : (xs : List Source) → IsCubeTaken m xs cube → All (λ s. HoldsOfEach (IsLevelReference m cube s) s) (rules_of m cube).statements
    cube-holds xs taken = all-of (λ s. HoldsOfEach (IsLevelReference m cube s) s) (rules_of m cube).statements (λ k other at. holds-at xs k other at (taken k other at))

    -- what a statement of the cube reads
    pub taken-of : (xs : List Source) (place : ℕ) (st : Statement) (kind : Bool) (p : Precedent) → IsCubeTaken m xs cube → slice_get (rules_of m cube).statements place ≡ Some st → Reads m cube st kind p → IsTaken m xs cube st kind p
    taken-of xs place st kind p taken at reading =
        let (k, here) = reads-placed m cube (suc place) st (at-place place st at) kind p reading in
        pick m xs cube st kind (taken place st at) k p here

    pub cube-level : (xs : List Source) → IsCubeTaken m xs cube → All (λ s. (kind : Bool) (p : Precedent) → Reads m cube s kind p → IsLevel m cube s kind p) (rules_of m cube).statements
    cube-level xs taken = all-of (λ s. (kind : Bool) (p : Precedent) → Reads m cube s kind p → IsLevel m cube s kind p) (rules_of m cube).statements (λ place st at kind p reading.
        (let is = at-place place st at in
        let (k, here) = reads-placed m cube (suc place) st is kind p reading in
        (level-decided m valid ruled cube there st (statement-is m cube (suc place) st is).area kind p (precedent-is m cube (suc place) st is kind k p here)).0
        (taken-of xs place st kind p taken at reading).level))

  abbrev pub AreCubesTaken : List Source → ℕ → Type 0
  AreCubesTaken xs end = (cube : ℕ) → cube < end → IsCubeTaken m xs cube

  pub model-fault : (xs : List Source) (cube : ℕ) (fault : ReadFault) → cube < length m.space.cubes → AreCubesTaken xs cube → IsCubeFault m cube fault → IsUnlaggedFault m fault
  model-fault xs cube (Unlagged c n r) there before (own, first) = subst (λ c. IsFirstUnlagged m c n r) (sym own) (record {
    inside = there;
    place = first.place;
    number = first.number_is;
    it = first.it;
    here = first.here;
    first = first.first;
    before = first.before;
    cubes_before = λ k low. cube-holds k (omega (arith, low, there)) xs (before k low);
  })
  model-fault xs cube Memory there before h = h

  pub model-sources : (xs : List Source) (end : ℕ) → AreGathered m end xs → AreCubesTaken xs (length m.space.cubes) → AreSourcesOf m xs
  model-sources xs end gathered taken = record {
    read = gathered.read;
    all = λ cube st kind p there has reading level no. (let (place, at) = at-of (rules_of m cube).statements st has in (taken-of cube there xs place st kind p (taken cube there) at reading).source no);
    rising = gathered.rising;
    few = gathered.few;
  }

  pub model-level : (xs : List Source) → AreCubesTaken xs (length m.space.cubes) → IsLevelThroughout m
  model-level xs taken cube there = cube-level cube there xs (taken cube there)
