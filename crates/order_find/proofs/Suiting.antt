-- Which cells serve a kind, leaves that count, and small steps.
use Rattle.std.proofs.Common.{◌≡◌, refl, sym, ap, ◌∙◌, arith, subst, ℕ, zero, suc, ◌<◌, Bool, true, false, true≢false, not, ◌&&◌, ◌||◌, Option, Some, None, List, [], ◌∷◌, length, Contains, ℤ, if◌then◌else◌}
use Rattle.std.specs.Prelude.{is_some, slice_index_or, unwrap_or}
use Rattle.std.proofs.lemmas.Bool.{and_parts, and_from, eq-eqb, eqb-true}
use Rattle.std.proofs.lemmas.List.Folds.{Any-from_list_any, list_any_at}
use Rattle.dim_core.specs.Outline.{Outline}
use Rattle.dim_weights.specs.Table.{is_nonzero, nonzero_among}
use Rattle.rule_model.specs.BoundModel.{BoundModel}
use Rattle.order_laws.specs.Scales.{parts_in}
use Rattle.order_laws.specs.Earlier.{is_same}
use Rattle.arrow_laws.specs.Nodes.{has_kinds, has_nodes, kind_in}
use Rattle.arrow_laws.specs.ByDimension.{is_part}
use Rattle.read_sources.specs.declared.source.Source.{Source}
use Rattle.read_sources.specs.declared.source.Given.{Given}
use Rattle.read_sources.specs.Ways.{cube_read, meets, suits}
use Rattle.order_find.specs.Slots.{MeansByKind}

-- ---- the kinds of what is read

meant-kind : (its : Option Bool) (h : Bool) → is_some its ≡ h → (if h then Some (unwrap_or its true) else None) ≡ its
meant-kind None true is = absurd (cc is)
meant-kind None false is = refl
meant-kind (Some kind) true is = refl
meant-kind (Some kind) false is = absurd (cc is)

nodes-kind : (its : Option Bool) (h : Bool) → is_some its ≡ h → unwrap_or its true || h ≡ true
nodes-kind None h is = refl
nodes-kind (Some true) h is = refl
nodes-kind (Some false) true is = refl
nodes-kind (Some false) false is = absurd (cc is)

kind-meant : (its : Option Bool) (h kind : Bool) → (if h then Some kind else None) ≡ its → kind || h ≡ true → kind ≡ unwrap_or its true
kind-meant its true kind is has = ap (λ (o : Option Bool). unwrap_or o true) is
kind-meant its false true is has = ap (λ (o : Option Bool). unwrap_or o true) is
kind-meant its false false is has = absurd (cc has)

module _ (m : BoundModel) (s : Source) (means : MeansByKind m s) where
  -- the nodes that a source reads are those of the cells that it means
  pub target-meant : kind_in m (cube_read s) (unwrap_or s.its true) ≡ s.its
  target-meant = meant-kind s.its (has_kinds m (cube_read s)) means

  pub target-nodes : has_nodes m (cube_read s) (unwrap_or s.its true) ≡ true
  target-nodes = nodes-kind s.its (has_kinds m (cube_read s)) means

pub meant-target : (m : BoundModel) (s : Source) (kind : Bool) → kind_in m (cube_read s) kind ≡ s.its → has_nodes m (cube_read s) kind ≡ true → kind ≡ unwrap_or s.its true
meant-target m s kind is has = kind-meant s.its (has_kinds m (cube_read s)) kind is has

pub same-kind : (a b : Bool) → is_same a b ≡ true → a ≡ b
same-kind true true is = refl
same-kind true false is = absurd (cc is)
same-kind false true is = absurd (cc is)
same-kind false false is = refl

pub kind-same : (a b : Bool) → a ≡ b → is_same a b ≡ true
kind-same true true is = refl
kind-same true false is = absurd (cc is)
kind-same false true is = absurd (cc is)
kind-same false false is = refl

-- ---- what is given

-- where all is given, all suits
all-given : (kind asks : Bool) (given : Given) → meets given (record { own = not kind && not true; its = asks && not true }) ≡ true
all-given true true given = refl
all-given true false given = refl
all-given false true given = refl
all-given false false given = refl

pub suits-total : (s : Source) → suits s true true ≡ true
suits-total s = all-given s.kind s.asks s.elsewhere

pub suits-more : (s : Source) (x : Bool) → suits s true false ≡ true → suits s true x ≡ true
suits-more s true h = suits-total s
suits-more s false h = h

-- a component suits that is consolidated, or where any does
pub suits-part : (s : Source) (total t : Bool) → suits s true false ≡ t → not (not t) || total ≡ true → suits s true total ≡ true
suits-part s total true is h = suits-more s total is
suits-part s true false is h = suits-total s
suits-part s false false is h = absurd (cc h)

pub part-suits : (s : Source) (total t : Bool) → suits s true false ≡ t → suits s true total ≡ true → not (not t) || total ≡ true
part-suits s total true is h = refl
part-suits s true false is h = refl
part-suits s false false is h = absurd (true≢false (sym h ∙ is))

-- what isn't asked isn't given
pub not-given : (asks x : Bool) → (asks && x) && not asks ≡ false
not-given true true = refl
not-given true false = refl
not-given false x = refl

-- a component of a weight other than 0
pub part-is : (dims : List Outline) (last from : ℕ) (part : ℕ × ℤ) → Contains (parts_in dims last from) part → is_nonzero part.1 ≡ true → is_part dims last from part.0 ≡ true
part-is dims last from part (k, low, is) counts =
    list_any_at (λ (x : ℕ × ℤ). (Rattle.std.specs.Prelude.nat_eq x.0 part.0) && is_nonzero x.1) (parts_in dims last from) k part low
    (subst (λ (x : ℕ × ℤ). ((Rattle.std.specs.Prelude.nat_eq x.0 part.0) && is_nonzero x.1) ≡ true) (sym is) (and_from _ _ (eq-eqb part.0 part.0 refl) counts))

pub is-part : (dims : List Outline) (last from to : ℕ) → is_part dims last from to ≡ true → (part : ℕ × ℤ) × Contains (parts_in dims last from) part × (part.0 ≡ to) × (is_nonzero part.1 ≡ true)
is-part dims last from to h =
    let (k, x, low, is, passes) = Any-from_list_any (λ (x : ℕ × ℤ). (Rattle.std.specs.Prelude.nat_eq x.0 to) && is_nonzero x.1) (parts_in dims last from) h in
    let both = and_parts _ _ passes in
    (x, (k, low, is), eqb-true x.0 to both.0, both.1)

-- what counts among leaves
among-step : (f : ℕ → ℤ) (x : ℕ) (ls : List ℕ) (rest : List (ℕ × ℤ)) (pair : ℕ × ℤ) → is_nonzero (f x) ≡ true → (k : ℕ) → k < length ((x, f x) ∷ rest) → slice_index_or ((x, f x) ∷ rest) k pair ≡ pair
    → (Contains rest pair → Contains ls pair.0 × (is_nonzero (f pair.0) ≡ true)) → Contains (x ∷ ls) pair.0 × (is_nonzero (f pair.0) ≡ true)
among-step f x ls rest pair on zero low is more =
    let same : x ≡ pair.0 = ap (λ (q : ℕ × ℤ). q.0) is in
    ((0, omega arith, same), subst (λ l. is_nonzero (f l) ≡ true) same on)
among-step f x ls rest pair on (suc k) low is more =
    let ((j, less, at), counts) = more (k, omega arith, is) in
    ((suc j, omega (arith, less), at), counts)

pub among-of : (f : ℕ → ℤ) (ls : List ℕ) (pair : ℕ × ℤ) → Contains (nonzero_among f ls) pair → Contains ls pair.0 × (is_nonzero (f pair.0) ≡ true)
among-of f [] pair (k, low, is) = absurd (omega (arith, low))
among-of f (x ∷ ls) pair has = by (is_nonzero (f x)) refl has (among-of f ls pair)
  where
    by : (t : Bool) → is_nonzero (f x) ≡ t → Contains (if t then (x, f x) ∷ nonzero_among f ls else nonzero_among f ls) pair
        → (Contains (nonzero_among f ls) pair → Contains ls pair.0 × (is_nonzero (f pair.0) ≡ true)) → Contains (x ∷ ls) pair.0 × (is_nonzero (f pair.0) ≡ true)
    by true on (k, low, is) more = among-step f x ls (nonzero_among f ls) pair on k low is more
    by false on has more = let ((j, less, at), counts) = more has in ((suc j, omega (arith, less), at), counts)

-- what is given where a test holds
pub given-where : {A : Type 0} (b : Bool) (x : Option A) (y : A) → (if b then x else None) ≡ Some y → (b ≡ true) × (x ≡ Some y)
given-where true x y is = (refl, is)
given-where false x y is = absurd (cc)

pub not-not : (b : Bool) → not (not b) ≡ b
not-not true = refl
not-not false = refl
