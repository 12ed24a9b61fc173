-- The sources so far.
use Rattle.std.proofs.Common.{◌≡◌, refl, sym, ap, ◌∙◌, arith, subst, ℕ, zero, suc, ◌+◌, ◌-◌, ◌<◌, ◌≤◌, inl, inr, Bool, true, false, Option, Some, None, List, [], ◌∷◌, ◌++◌, length, map, get_or, All, Contains}
use Rattle.std.specs.Prelude.{slice_get, is_some, if◌then◌else◌, IsTrue, IfSome}
use Rattle.std.proofs.lemmas.List.{length-map}
use Rattle.std.proofs.lemmas.List.Elements.{All-contains}
use Rattle.std.proofs.lemmas.List.Sorted.{IsNonDecreasingBy-push, IsNonDecreasingBy-short}
use Rattle.std.proofs.lemmas.Option.{slice_get-get_or}
use Rattle.cube_space.specs.Layout.{axes}
use Rattle.rule_laws.specs.declared.formula.Formula.{Formula}
use Rattle.rule_laws.specs.Meaning.{Precedent, precedents}
use Rattle.rule_model.specs.declared.rules.Form.{Form}
use Rattle.rule_model.specs.declared.rules.Form.TheVariants.{Both, LeafFirst, ConsFirst}
use Rattle.rule_model.specs.declared.rules.Statement.{Statement}
use Rattle.rule_model.specs.BoundModel.{BoundModel, rules_of}
use Rattle.rule_model.specs.Conditions.{IsArea, IsPrecedent, IsStatement, IsLeafPart, IsConsolidatedPart, read_count}
use Rattle.ref_order.specs.declared.reads.Read.{Read}
use Rattle.ref_order.specs.Counted.{reads}
use Rattle.ref_order.specs.Reads.{precedent_of}
use Rattle.order_laws.specs.Earlier.{kinds_before}
use Rattle.arrow_laws.specs.Nodes.{last_of, has_kinds, kind_in}
use Rattle.arrow_laws.specs.Arrows.{Reads}
use Rattle.arrow_laws.specs.ByDimension.{is_lagged, is_level, is_weak, admits, asks_total, read_cube, HasEach}
use Rattle.read_sources.specs.declared.seek.Reading.{Reading}
use Rattle.read_sources.specs.declared.source.Source.{Source}
use Rattle.read_sources.specs.Ways.{IsSource, precedent, way_of, cube_read, reads_from, choice, asked}
use Rattle.read_sources.specs.Sources.{found_in, IsGiven, IsRead, IsReadBy, most_sources}
use Rattle.read_sources.specs.Gathering.{reads_for, counted_before, before_by, IsStatementAt, IsSourceOf, IsTakenFor, IsTakenWhole, AreGathered, Stay, IsTaken, AreTaken, IsStatementTaken, IsCubeTaken}
use Rattle.read_sources.proofs.Lists.{has-at, at-of}
use Rattle.read_sources.proofs.Placed.{get-first, get-second, get-either}
use Rattle.read_sources.proofs.Counting.{counted-place}
use Rattle.read_sources.proofs.Weak.{parts-weak}

-- ---- a statement of a model

module _ (m : BoundModel) (cube number : ℕ) (st : Statement) (is : IsStatementAt m cube number st) where
  pub statement-is : IsStatement m.space cube st
  statement-is =
      All-contains (IsStatement m.space cube) (rules_of m cube).statements st (is.ruled.cube cube is.within).statements
      (has-at (rules_of m cube).statements is.place st is.here)

  reads-of : (kind : Bool) → All (IsPrecedent m.space cube) (reads_for st kind)
  reads-of true = leaf st.leaf statement-is.leaf
    where
      leaf : (part : Option Formula) → IfSome part (IsLeafPart m.space cube) → All (IsPrecedent m.space cube) (reads part)
      leaf None own = λ k d low. absurd (omega (arith, low))
      leaf (Some f) own = own.0
  reads-of false = cons st.cons statement-is.consolidated
    where
      cons : (part : Option Formula) → IfSome part (IsConsolidatedPart m.space cube) → All (IsPrecedent m.space cube) (reads part)
      cons None own = λ k d low. absurd (omega (arith, low))
      cons (Some f) own = own

  pub precedent-is : (kind : Bool) (k : ℕ) (p : Precedent) → slice_get (reads_for st kind) k ≡ Some p → IsPrecedent m.space cube p
  precedent-is kind k p at = All-contains (IsPrecedent m.space cube) (reads_for st kind) p (reads-of kind) (has-at (reads_for st kind) k p at)

  -- what it reads stands in one of its parts
  reads-part : (part : Option Formula) (k : ℕ) (p : Precedent) → slice_get (reads part) k ≡ Some p → (f : Formula) × (part ≡ Some f) × Contains (precedents f) p
  reads-part None k p at = absurd (cc)
  reads-part (Some f) k p at = (f, refl, has-at (precedents f) k p at)

  part-reads : (part : Option Formula) (f : Formula) (p : Precedent) → part ≡ Some f → Contains (precedents f) p → (k : ℕ) × (slice_get (reads part) k ≡ Some p)
  part-reads part f p own has = let (k, at) = at-of (precedents f) p has in (k, ap (λ o. slice_get (reads o) k) own ∙ at)

  pub placed-reads : (kind : Bool) (k : ℕ) (p : Precedent) → slice_get (reads_for st kind) k ≡ Some p → Reads m cube st kind p
  placed-reads true k p at = reads-part st.leaf k p at
  placed-reads false k p at = reads-part st.cons k p at

  pub reads-placed : (kind : Bool) (p : Precedent) → Reads m cube st kind p → (k : ℕ) × (slice_get (reads_for st kind) k ≡ Some p)
  reads-placed true p (f, own, has) = part-reads st.leaf f p own has
  reads-placed false p (f, own, has) = part-reads st.cons f p own has

  -- its references have numbers
  length-count : (part : Option Formula) → length (reads part) ≡ read_count part
  length-count None = refl
  length-count (Some f) = refl

  pub few-read : length (reads st.leaf) + length (reads st.cons) < 4294967296
  few-read = omega (arith, length-count st.leaf, length-count st.cons, statement-is.few_read)

  few-by : (form : Form) (kind : Bool) (l c k : ℕ) (n : ℕ) → n ≡ length (reads_for st kind) → l ≡ length (reads st.leaf) → c ≡ length (reads st.cons) → k < n → before_by form kind l c + k < l + c
  few-by Both true l c k n is l_is c_is low = omega (arith, is, l_is, c_is, low)
  few-by Both false l c k n is l_is c_is low = omega (arith, is, l_is, c_is, low)
  few-by LeafFirst true l c k n is l_is c_is low = omega (arith, is, l_is, c_is, low)
  few-by LeafFirst false l c k n is l_is c_is low = omega (arith, is, l_is, c_is, low)
  few-by ConsFirst true l c k n is l_is c_is low = omega (arith, is, l_is, c_is, low)
  few-by ConsFirst false l c k n is l_is c_is low = omega (arith, is, l_is, c_is, low)

  pub few-numbered : (kind : Bool) (k : ℕ) → k < length (reads_for st kind) → suc (counted_before st kind + k) < 4294967296
  few-numbered kind k low =
      let less = few-by st.form kind (length (reads st.leaf)) (length (reads st.cons)) k (length (reads_for st kind)) refl refl refl low in
      omega (arith, less, few-read)

-- as many are read as the statement's part has, and those before a part are counted by them
pub read-long : (found : List Read) (part : Option Formula) → map precedent_of found ≡ reads part → length found ≡ length (reads part)
read-long found part is = sym (length-map found precedent_of) ∙ ap (λ (ps : List Precedent). length ps) is

pub before-parts : (st : Statement) (leaf cons : ℕ) (before : ℕ × ℕ) → before ≡ (before_by st.form true leaf cons, before_by st.form false leaf cons) → leaf ≡ length (reads st.leaf) → cons ≡ length (reads st.cons)
    → (before.0 ≡ counted_before st true) × (before.1 ≡ counted_before st false)
before-parts st leaf cons before is l c =
    let same : (kind : Bool) → before_by st.form kind leaf cons ≡ counted_before st kind = λ kind. ap (λ n. before_by st.form kind n cons) l ∙ ap (before_by st.form kind (length (reads st.leaf))) c in
    (ap (λ (p : ℕ × ℕ). p.0) is ∙ same true, ap (λ (p : ℕ × ℕ). p.1) is ∙ same false)

-- ---- a source of a statement

-- what is said of a source so that it is read
pub record IsOfStatement (m : BoundModel) (s : Source) (st : Statement) (at : ℕ) : Type 0 where
  pub of : IsStatementAt m s.cube s.statement st
  pub area : s.area.now ≡ st.area
  pub counted : s.reference ≡ suc (counted_before st s.kind + at)
  pub here : slice_get (reads_for st s.kind) at ≡ Some (precedent s)

module _ (m : BoundModel) (s : Source) (st : Statement) (at : ℕ) (is : IsOfStatement m s st at) where
  area-is : IsArea m.space s.cube s.area.now
  area-is = subst (IsArea m.space s.cube) (sym is.area) (statement-is m s.cube s.statement st is.of).area

  pub source-is : s.asks ≡ asks_total s.its (kinds_before m (precedent s)).its → IsSource m s
  source-is asks = record { cube = is.of.within; area = area-is; reads = precedent-is m s.cube s.statement st is.of s.kind at (precedent s) is.here; asks = asks }

  -- what is said of the cells that it means
  pub record IsMeant : Type 0 where
    pub level : IsTrue (is_level m s.cube s.area.now s.kind (precedent s))
    pub not_lagged : is_lagged m s.cube s.area.now s.kind (precedent s) ≡ false
    pub weak : s.weak ≡ is_weak m s.cube s.area.now s.kind (precedent s)
    pub has_kind : is_some s.its ≡ has_kinds m (cube_read s)
    pub fixed : IsTrue (admits s.its (kinds_before m (precedent s)).its)
    pub asks : s.asks ≡ asks_total s.its (kinds_before m (precedent s)).its
    pub each : HasEach (reads_from m s) (length (axes m.space s.cube))
    pub elsewhere : IsGiven (choice m s) (last_of m.space s.cube) (found_in (last_of m.space s.cube) (way_of m s)) (asked s) s.elsewhere

  pub source-read : IsMeant → IsRead m s
  source-read meant =
      let (it, there, own) = counted-place st s.kind (counted_before st s.kind + at) at (precedent s) refl is.here in
      record {
        statement = st;
        stands = has-at (rules_of m s.cube).statements is.of.place st is.of.here;
        area = is.area;
        place = is.of.place;
        number = is.of.number_is;
        here = is.of.here;
        at = counted_before st s.kind + at;
        counted = is.counted;
        it = it;
        there = there;
        own = own;
        reads = placed-reads m s.cube s.statement st is.of s.kind at (precedent s) is.here;
        level = meant.level;
        not_lagged = meant.not_lagged;
        weak = meant.weak;
        parts = λ way. meant.weak ∙ ap (λ a. is_weak m s.cube a s.kind (precedent s)) is.area
            ∙ parts-weak m is.of.valid is.of.ruled s.cube is.of.within st (statement-is m s.cube s.statement st is.of).area s.kind (precedent s) (source-is meant.asks).reads way;
        has_kind = meant.has_kind;
        fixed = meant.fixed;
        asks = meant.asks;
        each = meant.each;
        elsewhere = meant.elsewhere;
      }

-- ---- lists of sources

pub stay-same : (xs : List Source) → Stay xs xs
stay-same xs k s is = is

pub stay-then : (xs ys zs : List Source) → Stay xs ys → Stay ys zs → Stay xs zs
stay-then xs ys zs one two k s is = two k s (one k s is)

pub stay-added : (xs ys : List Source) (y : Source) → ys ≡ xs ++ y ∷ [] → Stay xs ys
stay-added xs ys y is k s at = ap (λ l. slice_get l k) is ∙ get-first xs (y ∷ []) k s at

module _ (m : BoundModel) (cube : ℕ) where
  pub gathered-none : AreGathered m cube []
  gathered-none = record {
    read = λ k s at. absurd (cc);
    within = λ k s at. absurd (cc);
    rising = IsNonDecreasingBy-short (λ (s : Source). s.cube) [] (omega arith);
    few = omega arith;
  }

  pub gathered-up : (more : ℕ) (xs : List Source) → cube ≤ more → AreGathered m cube xs → AreGathered m more xs
  gathered-up more xs up h = record { read = h.read; within = λ k s at. omega (arith, up, h.within k s at); rising = h.rising; few = h.few }

  pub gathered-added : (xs ys : List Source) (y : Source) → ys ≡ xs ++ y ∷ [] → length ys ≤ most_sources → IsRead m y → y.cube ≡ cube → AreGathered m cube xs → AreGathered m cube ys
  gathered-added xs ys y is few read own h = subst (AreGathered m cube) (sym is) (record {
    read = λ k s at. elim (get-either xs (y ∷ []) k s at) [
      | inl old ↦ h.read k s old
      | inr (j, from, new) ↦ subst (IsRead m) (last-one j s new) read
    ];
    within = λ k s at. elim (get-either xs (y ∷ []) k s at) [
      | inl old ↦ h.within k s old
      | inr (j, from, new) ↦ omega (arith, own, ap (λ (s : Source). s.cube) (last-one j s new))
    ];
    rising = IsNonDecreasingBy-push (λ (s : Source). s.cube) xs y h.rising (λ d some. omega (arith, own, h.within (length xs - 1) (get_or xs (length xs - 1) d) (slice_get-get_or xs (length xs - 1) d (omega (arith, some)))));
    few = subst (λ l. length l ≤ most_sources) is few;
  })
    where
      last-one : (j : ℕ) (s : Source) → slice_get (y ∷ []) j ≡ Some s → y ≡ s
      last-one zero s at = cc
      last-one (suc j) s at = absurd (cc)

-- ---- what is taken stays so

module _ (m : BoundModel) (cube : ℕ) (st : Statement) where
  pub by-stays : (xs ys : List Source) (kind : Bool) (p : Precedent) (its : Option Bool) → Stay xs ys → IsReadBy xs cube st kind p its → IsReadBy ys cube st kind p its
  by-stays xs ys kind p its stay by = record {
    k = by.k;
    source = by.source;
    here = stay by.k by.source by.here;
    own = by.own;
    area = by.area;
    same_kind = by.same_kind;
    same_read = by.same_read;
    same_its = by.same_its;
  }

  pub taken-stays : (xs ys : List Source) (kind : Bool) (p : Precedent) → Stay xs ys → IsTaken m xs cube st kind p → IsTaken m ys cube st kind p
  taken-stays xs ys kind p stay h = record {
    level = h.level;
    source = λ no from to joined. by-stays xs ys kind p (kind_in m to.cube to.kind) stay (h.source no from to joined);
  }

  pub all-stay : (xs ys : List Source) (kind : Bool) → Stay xs ys → AreTaken m xs cube st kind → AreTaken m ys cube st kind
  all-stay xs ys kind stay h k p at = taken-stays xs ys kind p stay (h k p at)

  pub statement-stays : (xs ys : List Source) → Stay xs ys → IsStatementTaken m xs cube st → IsStatementTaken m ys cube st
  statement-stays xs ys stay (leaf, cons) = (all-stay xs ys true stay leaf, all-stay xs ys false stay cons)

pub cube-stays : (m : BoundModel) (cube : ℕ) (xs ys : List Source) → Stay xs ys → IsCubeTaken m xs cube → IsCubeTaken m ys cube
cube-stays m cube xs ys stay h place st at = statement-stays m cube st xs ys stay (h place st at)

-- a source that is added has what it reads
pub taken-added : (reading : Reading) (its : Option Bool) (xs ys : List Source) (y : Source) → ys ≡ xs ++ y ∷ [] → IsSourceOf reading.part (precedent_of reading.read) its y → IsTakenFor reading ys its
taken-added reading its xs ys y is of from to joined same = record {
  k = length xs;
  source = y;
  here = ap (λ l. slice_get l (length xs)) is ∙ get-second xs (y ∷ []) (length xs) 0 y (omega arith) refl;
  own = of.own;
  area = of.area;
  same_kind = of.same_kind;
  same_read = of.same_read;
  same_its = of.same_its;
}

-- where the cells that are read have no kinds, all are meant; else leaf cells, and consolidated cells
pub taken-plain : (reading : Reading) (xs : List Source) → has_kinds reading.part.model.now (read_cube reading.part.cube (precedent_of reading.read)) ≡ false → IsTakenFor reading xs None
    → IsTakenWhole reading xs
taken-plain reading xs none taken from to joined =
    let m = reading.part.model.now in
    let same : kind_in m to.cube to.kind ≡ None = ap (λ c. kind_in m c to.kind) joined.target ∙ ap (λ b. if b then Some to.kind else None) none in
    subst (IsReadBy xs reading.part.cube reading.part.statement.now reading.part.kind (precedent_of reading.read)) (sym same) (taken from to joined same)

pub taken-kinds : (reading : Reading) (xs ys : List Source) → has_kinds reading.part.model.now (read_cube reading.part.cube (precedent_of reading.read)) ≡ true → Stay xs ys
    → IsTakenFor reading xs (Some true) → IsTakenFor reading ys (Some false) → IsTakenWhole reading ys
taken-kinds reading xs ys kinds stay leaves totals from to joined = by to.kind refl
  where
    m : BoundModel
    m = reading.part.model.now

    same : kind_in m to.cube to.kind ≡ Some to.kind
    same = ap (λ c. kind_in m c to.kind) joined.target ∙ ap (λ b. if b then Some to.kind else None) kinds

    Has : Option Bool → Type 0
    Has = IsReadBy ys reading.part.cube reading.part.statement.now reading.part.kind (precedent_of reading.read)

    by : (t : Bool) → to.kind ≡ t → Has (kind_in m to.cube to.kind)
    by true is =
        let at : kind_in m to.cube to.kind ≡ Some true = same ∙ ap Some is in
        subst Has (sym at) (by-stays m reading.part.cube reading.part.statement.now xs ys reading.part.kind (precedent_of reading.read) (Some true) stay (leaves from to joined at))
    by false is = let at : kind_in m to.cube to.kind ≡ Some false = same ∙ ap Some is in subst Has (sym at) (totals from to joined at)

-- and what is of a smaller lag alone needs none
pub taken-lagged : (m : BoundModel) (xs : List Source) (cube : ℕ) (st : Statement) (kind : Bool) (p : Precedent) → IsTrue (is_level m cube st.area kind p) → IsTrue (is_lagged m cube st.area kind p)
    → IsTaken m xs cube st kind p
taken-lagged m xs cube st kind p level lagged = record {
  level = level;
  source = λ no. absurd (let wrong : true ≡ false = sym lagged ∙ no in cc);
}
