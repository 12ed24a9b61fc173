-- The reference that comes first.
use Rattle.std.proofs.Common.{◌≡◌, refl, sym, ap, arith, subst, ℕ, suc, ◌<◌, ◌≤◌, ◌⊎◌, inl, inr, Bool, true, false, ◌&&◌, ◌||◌, ◌==◌, nat_lt, List, ◌∷◌, ◌++◌, length, take, drop, drop-cons, All}
use Rattle.std.specs.Cmp.{IsStrictWeakOrder}
use Rattle.std.specs.List.{IsFirstBest}
use Rattle.std.specs.Prelude.{slice_index_or}
use Rattle.std.proofs.lemmas.Bool.{cases_lt, and_parts, and_from, or_cases, or_parts, or_left, or_right, ltb-true, ltb-false, lt-ltb, eqb-true, eq-eqb, false_from_ne_true}
use Rattle.std.proofs.lemmas.List.Elements.{All-append, All-take, All-drop}
use Rattle.rule_model.specs.BoundModel.{BoundModel}
use Rattle.order_find.specs.declared.link.Link.{Link}
use Rattle.order_find.specs.declared.link.LinkBy.{LinkBy}
use Rattle.order_find.specs.declared.link.LinkBy.TheVariants.{Reference, Below}
use Rattle.order_find.specs.Circles.{IsNoLater, IsCircle, BeginsLeast}
use Rattle.order_find.specs.Links.{is_before_by, is_before}
use Rattle.order_find.proofs.Turned.{HasReference, circle-reference}

-- one number comes before another, or is the same and a further test passes
lex-true : (a b : ℕ) (x : Bool) → (nat_lt a b || ((a == b) && x)) ≡ true → (a < b) ⊎ ((a ≡ b) × (x ≡ true))
lex-true a b x h = by (or_cases (nat_lt a b) ((a == b) && x) h)
  where
    by : (nat_lt a b ≡ true) ⊎ (((a == b) && x) ≡ true) → (a < b) ⊎ ((a ≡ b) × (x ≡ true))
    by (inl less) = inl (ltb-true a b less)
    by (inr rest) = let both = and_parts (a == b) x rest in inr (eqb-true a b both.0, both.1)

true-lex : (a b : ℕ) (x : Bool) → (a < b) ⊎ ((a ≡ b) × (x ≡ true)) → (nat_lt a b || ((a == b) && x)) ≡ true
true-lex a b x (inl less) = or_left (nat_lt a b) ((a == b) && x) (lt-ltb a b less)
true-lex a b x (inr (same, on)) = or_right (nat_lt a b) ((a == b) && x) (and_from (a == b) x (eq-eqb a b same) on)

lex-false : (a b : ℕ) (x : Bool) → (nat_lt a b || ((a == b) && x)) ≡ false → (b < a) ⊎ ((b ≡ a) × (x ≡ false))
lex-false a b x h = by (cases_lt b a)
  where
    by : (b < a) ⊎ (a ≤ b) → (b < a) ⊎ ((b ≡ a) × (x ≡ false))
    by (inl less) = inl less
    by (inr most) =
        let parts = or_parts (nat_lt a b) ((a == b) && x) h in
        let least = ltb-false a b parts.0 in
        let same : b ≡ a = omega (arith, most, least) in
        inr (same, false_from_ne_true x (λ on. let no = and_from (a == b) x (eq-eqb a b (sym same)) on in let off = parts.1 in absurd (cc)))

-- of two references, by cube, statement and number
abbrev AreBefore : ℕ → ℕ → ℕ → ℕ → ℕ → ℕ → Type 0
AreBefore c s r d t q = (c < d) ⊎ ((c ≡ d) × ((s < t) ⊎ ((s ≡ t) × (r < q))))

abbrev AreNoLater : ℕ → ℕ → ℕ → ℕ → ℕ → ℕ → Type 0
AreNoLater c s r d t q = (c < d) ⊎ ((c ≡ d) × ((s < t) ⊎ ((s ≡ t) × (r ≤ q))))

before-of : (c s r d t q : ℕ) → is_before_by c (Reference s r) d (Reference t q) ≡ true → AreBefore c s r d t q
before-of c s r d t q h = by (lex-true c d (nat_lt s t || ((s == t) && nat_lt r q)) h)
  where
    inner : (s < t) ⊎ ((s ≡ t) × (nat_lt r q ≡ true)) → (s < t) ⊎ ((s ≡ t) × (r < q))
    inner (inl less) = inl less
    inner (inr (same, on)) = inr (same, ltb-true r q on)

    by : (c < d) ⊎ ((c ≡ d) × ((nat_lt s t || ((s == t) && nat_lt r q)) ≡ true)) → AreBefore c s r d t q
    by (inl less) = inl less
    by (inr (same, on)) = inr (same, inner (lex-true s t (nat_lt r q) on))

no-later-of : (c s r d t q : ℕ) → is_before_by c (Reference s r) d (Reference t q) ≡ false → AreNoLater d t q c s r
no-later-of c s r d t q h = by (lex-false c d (nat_lt s t || ((s == t) && nat_lt r q)) h)
  where
    inner : (t < s) ⊎ ((t ≡ s) × (nat_lt r q ≡ false)) → (t < s) ⊎ ((t ≡ s) × (q ≤ r))
    inner (inl less) = inl less
    inner (inr (same, off)) = inr (same, ltb-false r q off)

    by : (d < c) ⊎ ((d ≡ c) × ((nat_lt s t || ((s == t) && nat_lt r q)) ≡ false)) → AreNoLater d t q c s r
    by (inl less) = inl less
    by (inr (same, off)) = inr (same, inner (lex-false s t (nat_lt r q) off))

not-both : (c s r d t q : ℕ) → AreBefore c s r d t q → AreNoLater d t q c s r → ⊥
not-both c s r d t q (inl a) (inl b) = omega (arith, a, b)
not-both c s r d t q (inl a) (inr b) = omega (arith, a, b.0)
not-both c s r d t q (inr a) (inl b) = omega (arith, a.0, b)
not-both c s r d t q (inr (a, inl x)) (inr (b, inl y)) = omega (arith, x, y)
not-both c s r d t q (inr (a, inl x)) (inr (b, inr y)) = omega (arith, x, y.0)
not-both c s r d t q (inr (a, inr x)) (inr (b, inl y)) = omega (arith, x.0, y)
not-both c s r d t q (inr (a, inr x)) (inr (b, inr y)) = omega (arith, x.1, y.1)

before-later : (c s r d t q : ℕ) → AreBefore c s r d t q → AreNoLater c s r d t q
before-later c s r d t q (inl a) = inl a
before-later c s r d t q (inr (a, inl x)) = inr (a, inl x)
before-later c s r d t q (inr (a, inr x)) = inr (a, inr (x.0, omega (arith, x.1)))

chained : (a b c d e f g h i : ℕ) → AreNoLater a b c d e f → AreNoLater d e f g h i → AreNoLater a b c g h i
chained a b c d e f g h i (inl x) (inl y) = inl (omega (arith, x, y))
chained a b c d e f g h i (inl x) (inr y) = inl (omega (arith, x, y.0))
chained a b c d e f g h i (inr x) (inl y) = inl (omega (arith, x.0, y))
chained a b c d e f g h i (inr (x, inl l)) (inr (y, inl k)) = inr (omega (arith, x, y), inl (omega (arith, l, k)))
chained a b c d e f g h i (inr (x, inl l)) (inr (y, inr k)) = inr (omega (arith, x, y), inl (omega (arith, l, k.0)))
chained a b c d e f g h i (inr (x, inr l)) (inr (y, inl k)) = inr (omega (arith, x, y), inl (omega (arith, l.0, k)))
chained a b c d e f g h i (inr (x, inr l)) (inr (y, inr k)) = inr (omega (arith, x, y), inr (omega (arith, l.0, k.0), omega (arith, l.1, k.1)))

one-way : (c : ℕ) (by : LinkBy) (d : ℕ) (other : LinkBy) → is_before_by c by d other ≡ true → is_before_by d other c by ≡ false
one-way c (Reference s r) d (Reference t q) h =
    false_from_ne_true (is_before_by d (Reference t q) c (Reference s r)) (λ back.
    not-both c s r d t q (before-of c s r d t q h) (before-later d t q c s r (before-of d t q c s r back)))
one-way c (Reference s r) d Below h = refl
one-way c Below d other h = absurd (cc)

chain : (c : ℕ) (by : LinkBy) (d : ℕ) (mid : LinkBy) (e : ℕ) (other : LinkBy) → is_before_by c by d mid ≡ false → is_before_by d mid e other ≡ false → is_before_by c by e other ≡ false
chain c (Reference s r) d (Reference t q) e (Reference u p) one two =
    false_from_ne_true (is_before_by c (Reference s r) e (Reference u p)) (λ h.
    not-both c s r e u p (before-of c s r e u p h) (chained e u p d t q c s r (no-later-of d t q e u p two) (no-later-of c s r d t q one)))
chain c (Reference s r) d (Reference t q) e Below one two = absurd (cc)
chain c (Reference s r) d Below e other one two = absurd (cc)
chain c Below d mid e other one two = refl

pub before-order : IsStrictWeakOrder is_before
before-order = record {
  one_way = λ x y h. one-way x.cube x.by y.cube y.by h;
  chain = λ x y z one two. chain x.cube x.by y.cube y.by z.cube z.by one two;
}

-- the best of links with a reference comes no later than any
no-later : (first : Link) (by : LinkBy) (link : Link) (other : LinkBy) (s r : ℕ) → by ≡ Reference s r → is_before_by link.cube other first.cube by ≡ false → IsNoLater first by link other
no-later first (Reference a b) link (Reference t q) s r is h = no-later-of link.cube t q first.cube a b h
no-later first (Reference a b) link Below s r is h = tt
no-later first Below link other s r is h = absurd (cc is)

is-reference : (first : Link) (by : LinkBy) (link : Link) (s r : ℕ) → link.by ≡ Reference s r → is_before_by link.cube link.by first.cube by ≡ false → (a : ℕ) × (b : ℕ) × (by ≡ Reference a b)
is-reference first (Reference a b) link s r is h = (a, b, refl)
is-reference first Below link s r is h =
    let on : is_before_by link.cube link.by first.cube Below ≡ true = ap (λ by. is_before_by link.cube by first.cube Below) is in absurd (cc)

pub first-no-later : (links : List Link) (best : ℕ) (d : Link) → HasReference links → IsFirstBest is_before links (length links) best
    → All (λ link. IsNoLater (slice_index_or links best d) (slice_index_or links best d).by link link.by) links
first-no-later links best d has is k e low =
    let first : Link = slice_index_or links best d in
    let (j, inside, there) = has.there in
    let not : is_before (slice_index_or links j has.link) (slice_index_or links best has.link) ≡ false = is.1 j has.link inside in
    let same : slice_index_or links best has.link ≡ first = Rattle.std.proofs.lemmas.List.get_or_default links best has.link d is.0 in
    let than : is_before has.link first ≡ false = subst (λ x. is_before x first ≡ false) there (subst (λ x. is_before (slice_index_or links j has.link) x ≡ false) same not) in
    let (s, r, by) = is-reference first first.by has.link has.statement has.reference has.is than in
    let link : Link = slice_index_or links k e in
    let here : is_before link (slice_index_or links best e) ≡ false = is.1 k e low in
    let same_e : slice_index_or links best e ≡ first = Rattle.std.proofs.lemmas.List.get_or_default links best e d is.0 in
    no-later first first.by link link.by s r by (subst (λ x. is_before link x ≡ false) same_e here)

-- turned round so that it begins there
pub begins-least : (m : BoundModel) (links : List Link) (best : ℕ) → IsCircle m links → IsFirstBest is_before links (length links) best → BeginsLeast (drop best links ++ take best links)
begins-least m links best circle is =
    let has = circle-reference m links circle in
    let first : Link = slice_index_or links best has.link in
    let cut : drop best links ≡ first ∷ drop (suc best) links = drop-cons links best has.link is.0 in
    let P : Link → Type 0 = λ link. IsNoLater first first.by link link.by in
    let all = first-no-later links best has.link has is in
    let turned : All P (drop best links ++ take best links) = All-append P (drop best links) (take best links) (All-drop P best links all) (All-take P best links all) in
    subst (λ xs. BeginsLeast (xs ++ take best links)) (sym cut) (subst (λ xs. All P (xs ++ take best links)) cut turned)

pub circle-some : (m : BoundModel) (links : List Link) → IsCircle m links → 0 < length links
circle-some m links circle = let has = circle-reference m links circle in omega (arith, has.there.1)
