-- Links that lead back to where they begin, turned round.
use Rattle.std.proofs.Common.{◌≡◌, refl, sym, ap, ◌∙◌, arith, subst, ℕ, suc, ◌+◌, ◌≤◌, Bool, true, false, ◌||◌, List, [], ◌∷◌, ◌++◌, take, drop, Contains, if◌then◌else◌}
use Rattle.std.proofs.lemmas.List.{take-append-drop}
use Rattle.rule_model.specs.BoundModel.{BoundModel}
use Rattle.arrow_laws.specs.Nodes.{Node, NodeRanks, rank_of}
use Rattle.arrow_laws.specs.Arrows.{FitArrows}
use Rattle.order_find.specs.declared.link.Link.{Link}
use Rattle.order_find.specs.declared.link.LinkBy.{LinkBy}
use Rattle.order_find.specs.declared.link.LinkBy.TheVariants.{Reference, Below}
use Rattle.order_find.specs.Circles.{IsBy, IsWalk, IsCircle}
use Rattle.order_find.proofs.Through.{made-arrow}

or-both : (a b c : Bool) → ((a || b) || c) ≡ (a || (b || c))
or-both true b c = refl
or-both false b c = refl

or-turned : (a b : Bool) → (a || b) ≡ (b || a)
or-turned true true = refl
or-turned true false = refl
or-turned false true = refl
or-turned false false = refl

-- a walk in two parts
record IsParted (m : BoundModel) (xs ys : List Link) (strict : Bool) (from to : Node) : Type 0 where
  mid : Node
  one : Bool
  other : Bool
  first : IsWalk m xs one from mid
  second : IsWalk m ys other mid to
  both : strict ≡ (one || other)

parted : (m : BoundModel) (xs ys : List Link) (strict : Bool) (from to : Node) → IsWalk m (xs ++ ys) strict from to → IsParted m xs ys strict from to
parted m [] ys strict from to walk = record { mid = from; one = false; other = strict; first = (refl, refl); second = walk; both = refl }
parted m (x ∷ xs) ys strict from to walk =
    let here : Bool = walk.1.1 in
    let r = parted m xs ys walk.1.2 walk.1.0 to walk.1.4 in
    record {
      mid = r.mid;
      one = here || r.one;
      other = r.other;
      first = (walk.0, (walk.1.0, here, r.one, walk.1.3, r.first, refl));
      second = r.second;
      both = walk.1.5 ∙ ap (λ b. here || b) r.both ∙ sym (or-both here r.one r.other);
    }

joined : (m : BoundModel) (xs ys : List Link) (one other : Bool) (from mid to : Node) → IsWalk m xs one from mid → IsWalk m ys other mid to → IsWalk m (xs ++ ys) (one || other) from to
joined m [] ys one other from mid to first second =
    subst (λ b. IsWalk m ys (b || other) from to) (sym first.1) (subst (λ n. IsWalk m ys other n to) (sym first.0) second)
joined m (x ∷ xs) ys one other from mid to first second =
    let here : Bool = first.1.1 in
    let later : Bool = first.1.2 in
    (first.0, (first.1.0, here, later || other, first.1.3, joined m xs ys later other first.1.0 mid to first.1.4 second, ap (λ b. b || other) first.1.5 ∙ or-both here later other))

turned-parts : (m : BoundModel) (xs ys : List Link) → IsCircle m (xs ++ ys) → IsCircle m (ys ++ xs)
turned-parts m xs ys (start, walk) =
    let r = parted m xs ys true start start walk in
    let back = joined m ys xs r.other r.one r.mid start r.mid r.second r.first in
    (r.mid, subst (λ b. IsWalk m (ys ++ xs) b r.mid r.mid) (or-turned r.other r.one ∙ sym r.both) back)

pub turned : (m : BoundModel) (k : ℕ) (links : List Link) → IsCircle m links → IsCircle m (drop k links ++ take k links)
turned m k links circle = turned-parts m (take k links) (drop k links) (subst (IsCircle m) (sym (take-append-drop k links)) circle)

-- one of the links is a reference
pub record HasReference (links : List Link) : Type 0 where
  pub link : Link
  pub there : Contains links link
  pub statement : ℕ
  pub reference : ℕ
  pub is : link.by ≡ Reference statement reference

with-first : (first : Link) (links : List Link) → HasReference links → HasReference (first ∷ links)
with-first first links r = record { link = r.link; there = (suc r.there.0, omega (arith, r.there.1), r.there.2); statement = r.statement; reference = r.reference; is = r.is }

in-first : (m : BoundModel) (first : Link) (links : List Link) (by : LinkBy) (from next : Node) (strict here later : Bool) → first.by ≡ by → IsBy m from by next here → strict ≡ (here || later) → strict ≡ true
    → (later ≡ true → HasReference links) → HasReference (first ∷ links)
in-first m first links (Reference statement reference) from next strict here later is made both on rest = record { link = first; there = (0, omega arith, refl); statement = statement; reference = reference; is = is }
in-first m first links Below from next strict here later is made both on rest = with-first first links (rest (ap (λ b. b || later) (sym made.weak) ∙ sym both ∙ on))

has-reference : (m : BoundModel) (links : List Link) (strict : Bool) (from to : Node) → IsWalk m links strict from to → strict ≡ true → HasReference links
has-reference m [] strict from to walk on = let off = walk.1 in absurd (cc)
has-reference m (first ∷ links) strict from to walk on =
    in-first m first links first.by from walk.1.0 strict walk.1.1 walk.1.2 refl walk.1.3 walk.1.5 on (λ later. has-reference m links walk.1.2 walk.1.0 to walk.1.4 later)

pub circle-reference : (m : BoundModel) (links : List Link) → IsCircle m links → HasReference links
circle-reference m links (start, walk) = has-reference m links true start start walk refl

-- along a walk ranks that fit don't rise, and they fall where it is strict
walk-falls : (m : BoundModel) (ranks : NodeRanks) → FitArrows m ranks → (links : List Link) (strict : Bool) (from to : Node) → IsWalk m links strict from to
    → rank_of ranks to + (if strict then 1 else 0) ≤ rank_of ranks from
walk-falls m ranks fits [] strict from to walk = omega (arith, ap (rank_of ranks) walk.0, ap {B = ℕ} (λ b. if b then 1 else 0) walk.1)
walk-falls m ranks fits (first ∷ links) strict from to walk =
    let next : Node = walk.1.0 in
    let here = fits from next walk.1.1 (made-arrow m from first.by next walk.1.1 walk.1.3) in
    let later = walk-falls m ranks fits links walk.1.2 next to walk.1.4 in
    omega (arith, here, later, ap {B = ℕ} (λ b. if b then 1 else 0) walk.1.5, at-most walk.1.1 walk.1.2)
  where
    at-most : (a b : Bool) → (if a || b then 1 else 0) ≤ (if a then 1 else 0) + (if b then 1 else 0)
    at-most true true = omega arith
    at-most true false = omega arith
    at-most false true = omega arith
    at-most false false = omega arith

pub circle-fits-none : (m : BoundModel) (links : List Link) (ranks : NodeRanks) → IsCircle m links → FitArrows m ranks → ⊥
circle-fits-none m links ranks (start, walk) fits = let falls = walk-falls m ranks fits links true start start walk in omega (arith, falls)
