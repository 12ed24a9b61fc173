-- The answer is put together.
use Rattle.std.proofs.Common.{◌≡◌, refl, sym, ap, ◌∙◌, arith, subst, ℕ, zero, suc, ◌<◌, ◌≤◌, Bool, true, false, not, ℤ, Option, Some, None, IfSome, List, length, map, if◌then◌else◌, inl, inr, All, Result, Ok, Err}
use Rattle.std.specs.Prelude.{option_and_then, IfOk}
use Rattle.std.proofs.lemmas.Bool.{cases_lt, lt-ltb, le-ltb}
use Rattle.std.proofs.lemmas.Option.{slice_get_within, get_or_from_slice_get}
use Rattle.cube_space.specs.Layout.{axes}
use Rattle.cube_space.specs.Cells.{IsSpace, IsCell, cube_of, cell_number}
use Rattle.rule_laws.specs.Meaning.{Precedent}
use Rattle.rule_laws.specs.Ordered.{IsCellOf}
use Rattle.rule_laws.specs.OrderByPlace.{IsNoneGreaterBefore}
use Rattle.rule_model.specs.declared.area.Area.{Area}
use Rattle.rule_model.specs.declared.rules.Statement.{Statement}
use Rattle.rule_model.specs.BoundModel.{BoundModel, rules_of}
use Rattle.rule_model.specs.Order.{most_positions}
use Rattle.rule_model.specs.System.{system_of, positions_of, rule_of}
use Rattle.rule_model.specs.Conditions.{IsArea, IsPrecedent, IsStatement, IsLeafPart, IsConsolidatedPart, AreRules}
use Rattle.order_laws.specs.Earlier.{most_excess, is_below, is_within, is_earlier}
use Rattle.order_laws.proofs.Earlier.{earlier-decided, decided-earlier, at_most-at, within-at_most}
use Rattle.ref_order.specs.Counted.{Counted, counted_of}
use Rattle.ref_order.specs.Reads.{precedent_of}
use Rattle.check_order.specs.FirstLate.{IsEarlierFor, IsEarlier}
use Rattle.check_order.proofs.LateFacts.{Has}
use Rattle.check_order.proofs.Counted.{counted-hold}
use Rattle.late_example.specs.declared.example.LateExample.{LateExample}
use Rattle.late_example.specs.declared.search.Sought.{Sought}
use Rattle.late_example.specs.Example.{at_number, read_for, rank_at, ReadsLate, IsAnswer}
use Rattle.late_example.specs.Inside.Narrowing.{late_from, comes_late, area_rule, IsNarrowed, first_of}
use Rattle.late_example.specs.Inside.Answers.{IsAnswerOf, IsAnswerFor, read_at, IsShown, IsShownBy}
use Rattle.late_example.proofs.Inside.{as-cell}
use Rattle.late_example.proofs.Places.{not-both}
use Rattle.late_example.proofs.Positions.{IsLateAt, none-late, some-late}
use Rattle.late_example.proofs.Narrowed.{IsOnly, only-cell, not-none, kind-is, no-number}

module _ (m : BoundModel) (valid : IsSpace m.space) (ruled : AreRules m.space m.rules) (cube : ℕ) (there : cube < length m.space.cubes) (s : Statement) (is_area : IsArea m.space cube s.area) where
  module _ (kind : Bool) (p : Precedent) (is : IsPrecedent m.space cube p) where
    abbrev pub most : ℕ → Option ℤ
    most = most_excess m cube s.area kind p

    -- where no position is the first, what is read is earlier
    pub no-position : None ≡ late_from most 0 most_positions → IsEarlierFor m cube s kind p
    unfolding is_earlier
    no-position h = earlier-decided m valid ruled cube there s is_area kind p is (none-late most 0 most_positions most_positions (omega arith) (sym h))

    pub late-at : (q : ℕ) → Some q ≡ late_from most 0 most_positions → IsLateAt most 0 most_positions q
    late-at q h = (some-late most 0 most_positions most_positions q (omega arith) (sym h)).0

    pub not-earlier : (q : ℕ) → Some q ≡ late_from most 0 most_positions → ¬ IsEarlierFor m cube s kind p
    unfolding is_earlier
    not-earlier q h earlier = not-both (is_earlier m cube s.area kind p) (decided-earlier m valid ruled cube there s is_area kind p is earlier) (some-late most 0 most_positions most_positions q (omega arith) (sym h)).1

    pub late-there : (q : ℕ) → Some q ≡ late_from most 0 most_positions → comes_late m cube s.area kind p q ≡ true
    late-there q h = elim (cases_lt q most_positions) [
      | inl low ↦ ap (λ b. if b then not (is_within (most q)) else not (is_below (most q))) (lt-ltb q most_positions low) ∙ ap not ((late-at q h).inner low)
      | inr high ↦ ap (λ b. if b then not (is_within (most q)) else not (is_below (most q))) (le-ltb q most_positions high) ∙ ap not ((late-at q h).last (omega (arith, high, (late-at q h).within)))
    ]

    pub none-before : (q : ℕ) → Some q ≡ late_from most 0 most_positions → IsNoneGreaterBefore (system_of m) (positions_of m) (rule_of m.space cube s) kind p q
    unfolding positions_of
    none-before q h k low = at_most-at m valid ruled cube there s is_area kind p is k (omega (arith, low, (late-at q h).within)) (within-at_most (most k) ((late-at q h).before k (omega arith) low))

  -- cells of the statement are those of its area
  pub to-area : (kind : Bool) (c : ℕ) → IsCellOf (system_of m) (rule_of m.space cube s) kind c → IsCellOf (system_of m) (area_rule m cube s.area) kind c
  to-area kind c of = record { cell = of.cell; kind_is = of.kind_is; applied = of.applied }

  pub from-area : (kind : Bool) (c : ℕ) → IsCellOf (system_of m) (area_rule m cube s.area) kind c → IsCellOf (system_of m) (rule_of m.space cube s) kind c
  from-area kind c of = record { cell = of.cell; kind_is = of.kind_is; applied = of.applied }

  -- the one cell of the narrowed area is the example
  module _ (sought : Sought) (is : IsPrecedent m.space cube (precedent_of sought.read)) (position : Some sought.position ≡ late_from (most_excess m cube s.area sought.kind (precedent_of sought.read)) 0 most_positions)
      (n : Area) (so : IsNarrowed m cube s.area sought (length (axes m.space cube)) n) where
    le : sought.position ≤ most_positions
    le = (late-at sought.kind (precedent_of sought.read) is sought.position position).within

    pub no-cell : cell_number m.space cube (map first_of n.sets) ≡ None → ⊥
    no-cell none = no-number m valid ruled cube there sought is le s.area n so none

    abbrev Only : ℕ → Type 0
    Only = IsOnly m valid ruled cube there sought is le s.area n so

    pub only-is : (c : ℕ) → Some c ≡ cell_number m.space cube (map first_of n.sets) → IsCell m.space c × (cube_of m.space c ≡ cube)
    only-is c number = let it = only-cell m valid ruled cube there sought is le s.area n so c (sym number) in (it.cell, it.own)

    -- the cell that is found is an example, and there is one
    pub example-of : (c : ℕ) → cell_number m.space cube (map first_of n.sets) ≡ Some c → (found : Option LateExample) → IsShown m c sought found → IsAnswerOf m cube s sought.kind (precedent_of sought.read) found
    example-of c number None shown = absurd (not-none m valid ruled cube there sought is le s.area n so c (only-cell m valid ruled cube there sought is le s.area n so c number) shown)
    example-of c number (Some e) shown =
        let q = sought.position in
        let it : Only c = only-cell m valid ruled cube there sought is le s.area n so c number in (
          not-earlier sought.kind (precedent_of sought.read) is q position,
          record {
            position = subst (λ x. x ≤ most_positions) (sym shown.position) le;
            none_before = subst (IsNoneGreaterBefore (system_of m) (positions_of m) (rule_of m.space cube s) sought.kind (precedent_of sought.read)) (sym shown.position) (none-before sought.kind (precedent_of sought.read) is q position);
            reads = subst (λ x. ReadsLate m (rule_of m.space cube s) sought.kind (precedent_of sought.read) x e.from e.to) (sym shown.position)
                (subst (λ x. ReadsLate m (rule_of m.space cube s) sought.kind (precedent_of sought.read) q x e.to) (sym shown.from) (own c it e shown));
            least = λ from to late. subst (λ x. x ≤ from) (sym shown.from) (first c it from to (subst (λ x. ReadsLate m (rule_of m.space cube s) sought.kind (precedent_of sought.read) x from to) shown.position late));
            from_rank = shown.from_rank ∙ ap (λ x. rank_at m x c) (sym shown.position) ∙ ap (rank_at m e.position) (sym shown.from);
            to_rank = shown.to_rank ∙ ap (λ x. rank_at m x e.to) (sym shown.position);
            to_cube = shown.to_cube;
            from_cell = subst (IsCell m.space) (sym shown.from) it.cell;
            to_cell = shown.found.2;
          },
        )
      where
        own : (c : ℕ) → Only c → (e : LateExample) → IsShownBy m c sought e → ReadsLate m (rule_of m.space cube s) sought.kind (precedent_of sought.read) sought.position c e.to
        own c it e shown = record {
          cell = from-area sought.kind c (as-cell m ruled cube there s.area sought.kind c (kind-is m valid ruled cube there sought is le s.area n so c it) (so.inside c it.inside));
          reads = shown.found.0;
          late = shown.found.1;
        }

        first : (c : ℕ) → Only c → (from to : ℕ) → ReadsLate m (rule_of m.space cube s) sought.kind (precedent_of sought.read) sought.position from to → c ≤ from
        first c it from to late =
            elim (so.least from to (record { cell = to-area sought.kind from late.cell; reads = late.reads; late = late.late })) [
              | inl in_from ↦ let same = it.only from in_from in omega (arith, same)
              | inr before ↦ let less = before c it.inside in omega (arith, less)
            ]

-- ---- as the code has it

pub ok-map : {X E : Type 0} (r : Result X E) (P Q : X → Type 0) → IfOk r P → ((x : X) → P x → Q x) → IfOk r Q
ok-map (Ok x) P Q h into = into x h
ok-map (Err e) P Q h into = tt

pub answer-for : (m : BoundModel) (cube : ℕ) (s : Statement) (reference : ℕ) (kind : Bool) (p : Precedent) → read_at s reference kind ≡ Some p → (found : Option LateExample) → IsAnswerOf m cube s kind p found → IsAnswerFor m cube s reference kind found
answer-for m cube s reference kind p reads None h = λ q also. let e : Some p ≡ Some q = sym reads ∙ also in let same : p ≡ q = cc in subst (IsEarlierFor m cube s kind) same h
answer-for m cube s reference kind p reads (Some e) h = (p, reads, h)

pub at-list : {X : Type 0} (P : X → Type 0) (list : List X) (n : ℕ) (it : X) → All P list → at_number list n ≡ Some it → P it
at-list P list zero it all h = absurd (cc)
at-list P list (suc n) it all h = subst P (get_or_from_slice_get list n it it h) (all n it (slice_get_within list n it h))

-- ---- both kinds together

chosen : (s : Statement) (reference : ℕ) (kind : Bool) (p : Precedent) → read_at s reference kind ≡ Some p → (it : Counted) × (at_number (counted_of s) reference ≡ Some it) × (read_for it kind ≡ Some p)
chosen s reference kind p h = by (at_number (counted_of s) reference) refl h
  where
    by : (found : Option Counted) → at_number (counted_of s) reference ≡ found → option_and_then (λ it. read_for it kind) found ≡ Some p → (it : Counted) × (at_number (counted_of s) reference ≡ Some it) × (read_for it kind ≡ Some p)
    by None e h = absurd (cc)
    by (Some it) e h = (it, e, h)

read-of : (s : Statement) (reference : ℕ) (kind : Bool) (it : Counted) → at_number (counted_of s) reference ≡ Some it → read_at s reference kind ≡ read_for it kind
read-of s reference kind it h = ap (option_and_then (λ it. read_for it kind)) h

module _ (m : BoundModel) (cube number reference : ℕ) (s : Statement) (here : at_number (rules_of m cube).statements number ≡ Some s) where
  earlier-for : (kind : Bool) (it : Counted) → at_number (counted_of s) reference ≡ Some it → IsAnswerFor m cube s reference kind None → IfSome (read_for it kind) (IsEarlierFor m cube s kind)
  earlier-for kind it at none = by (read_for it kind) refl
    where
      by : (read : Option Precedent) → read_for it kind ≡ read → IfSome read (IsEarlierFor m cube s kind)
      by None e = tt
      by (Some p) e = none p (read-of s reference kind it at ∙ e)

  pub answer-leaf : (e : LateExample) → IsAnswerFor m cube s reference true (Some e) → IsAnswer m cube number reference (Some e)
  answer-leaf e (p, reads, (late, example)) =
      let (it, at, own) = chosen s reference true p reads in
      (s, it, record { statement = here; reference = at }, (true, p, record { reads = own; late = late; first = λ wrong. absurd (cc) }, example))

  pub answer-both : (found : Option LateExample) → IsAnswerFor m cube s reference true None → IsAnswerFor m cube s reference false found → IsAnswer m cube number reference found
  answer-both None leaf cons = λ u it numbered.
      let e : Some u ≡ Some s = sym numbered.statement ∙ here in
      let same : s ≡ u = cc in
      subst (λ x. at_number (counted_of x) reference ≡ Some it → IsEarlier m cube x it) same
      (λ at. (earlier-for true it at leaf, earlier-for false it at cons)) numbered.reference
  answer-both (Some e) leaf (p, reads, (late, example)) =
      let (it, at, own) = chosen s reference false p reads in
      (s, it, record { statement = here; reference = at }, (false, p, record { reads = own; late = late; first = λ same. earlier-for true it at leaf }, example))

pub answer-none : (m : BoundModel) (cube number reference : ℕ) → at_number (rules_of m cube).statements number ≡ None → IsAnswer m cube number reference None
answer-none m cube number reference none s it numbered = absurd (let wrong : Some s ≡ None = sym numbered.statement ∙ none in cc)

-- ---- what a reference reads is a precedent of the cube

pub read-precedent : (m : BoundModel) (cube : ℕ) (s : Statement) (reference : ℕ) (kind : Bool) (p : Precedent) → IsStatement m.space cube s → read_at s reference kind ≡ Some p → IsPrecedent m.space cube p
read-precedent m cube s reference kind p is h =
    let (it, at, own) = chosen s reference kind p h in
    of-kind kind it own (at-list (Has P) (counted_of s) reference it all at)
  where
    P : Bool → Precedent → Type 0
    P kind = IsPrecedent m.space cube

    all : All (Has P) (counted_of s)
    all = counted-hold P s (λ f e. (subst (λ part. IfSome part (IsLeafPart m.space cube)) e is.leaf).0) (λ f e. subst (λ part. IfSome part (IsConsolidatedPart m.space cube)) e is.consolidated)

    of-kind : (kind : Bool) (it : Counted) → read_for it kind ≡ Some p → Has P it → IsPrecedent m.space cube p
    of-kind true it e has = subst (λ x. IfSome x (P true)) e has.0
    of-kind false it e has = subst (λ x. IfSome x (P false)) e has.1
