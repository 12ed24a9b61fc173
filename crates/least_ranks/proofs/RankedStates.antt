-- What states become when nodes get their rank.
use Rattle.std.proofs.Common.{◌≡◌, ◌⊎◌, inl, inr, ℕ, ◌<◌, ◌≤◌, Bool, true, false, cond, leb, List}
use Rattle.std.proofs.Common.{[], ◌∷◌, All, Contains, length, get_or, set, refl, sym, ◌∙◌, ap}
use Rattle.std.proofs.Common.{arith, count_by, zero, suc}
use Rattle.std.proofs.Math.ListN.{length-set}
use Rattle.std.proofs.lemmas.Bool.{cases_lt, cases_eq}
use Rattle.std.proofs.lemmas.Bool.Decides.{nat_tests}
use Rattle.std.proofs.lemmas.List.{get_or-set_same, get_or-set_other}
use Rattle.std.proofs.lemmas.List.Elements.{All-head, All-tail}
use Rattle.std.proofs.lemmas.List.Sums.{sum_by-set}
use Rattle.least_ranks.specs.declared.state.State.{State}
use Rattle.least_ranks.specs.declared.state.State.TheVariants.{New, Waiting, Ranked}
use Rattle.least_ranks.specs.Inside.States.{is_new}
use Rattle.least_ranks.specs.Inside.Trails.{state_in, rank_all}
use Rattle.least_ranks.specs.Inside.Sound.{LetsHave}

-- the states with a rank for some nodes
pub length-rank_all : (rank : ℕ) (nodes : List ℕ) (states : List State)
    → length (rank_all rank nodes states) ≡ length states
length-rank_all rank [] states = refl
length-rank_all rank (node ∷ nodes) states = length-rank_all rank nodes (set states node (Ranked rank))
    ∙ length-set states node (Ranked rank)

-- a node among them or not among them
pub member-cases : (x : ℕ) (xs : List ℕ) (k : ℕ) → Contains (x ∷ xs) k → (x ≡ k) ⊎ Contains xs k
member-cases x xs k (zero, within, is) = inl is
member-cases x xs k (suc i, within, is) = inr (i, omega (arith, within), is)

member-tail : (x : ℕ) (xs : List ℕ) (k : ℕ) → Contains xs k → Contains (x ∷ xs) k
member-tail x xs k has = (suc has.0, omega (arith, has.1), has.2)

pub rank_all-out : (rank : ℕ) (nodes : List ℕ) (states : List State) (k : ℕ) → (Contains nodes k → ⊥)
    → state_in (rank_all rank nodes states) k ≡ state_in states k
rank_all-out rank [] states k out = refl
rank_all-out rank (node ∷ nodes) states k out =
    rank_all-out rank nodes (set states node (Ranked rank)) k (λ has. out (member-tail node nodes k has))
    ∙ get_or-set_other states node k (Ranked rank) New (λ same. out (0, omega arith, sym same))

pub rank_all-ranked : (rank : ℕ) (nodes : List ℕ) (states : List State) (k : ℕ) → state_in states k ≡ Ranked rank
    → state_in (rank_all rank nodes states) k ≡ Ranked rank
rank_all-ranked rank [] states k is = is
rank_all-ranked rank (node ∷ nodes) states k is =
    rank_all-ranked rank nodes (set states node (Ranked rank)) k (by (cases_eq k node) (cases_lt node (length states)))
  where
    by : (k ≡ node) ⊎ (k ≡ node → ⊥) → (node < length states) ⊎ (length states ≤ node)
        → state_in (set states node (Ranked rank)) k ≡ Ranked rank
    by (inl same) (inl within) = ap (state_in (set states node (Ranked rank))) same
        ∙ get_or-set_same states node (Ranked rank) New within
    by (inl same) (inr past) = absurd (no (state_in states k) refl is)
      where
        no : (s : State) → state_in states k ≡ s → s ≡ Ranked rank → ⊥
        no s e f = let g : New ≡ Ranked rank = sym (past_end states k (omega (arith, same, past))) ∙ e ∙ f in cc
          where
            past_end : (xs : List State) (i : ℕ) → length xs ≤ i → state_in xs i ≡ New
            past_end [] i past = refl
            past_end (x ∷ xs) zero past = absurd (omega arith)
            past_end (x ∷ xs) (suc i) past = past_end xs i (omega arith)
    by (inr other) there = get_or-set_other states node k (Ranked rank) New other ∙ is

pub rank_all-in : (rank : ℕ) (nodes : List ℕ) (states : List State) (k : ℕ) → k < length states → Contains nodes k
    → state_in (rank_all rank nodes states) k ≡ Ranked rank
rank_all-in rank [] states k within has = absurd (omega (arith, has.1))
rank_all-in rank (node ∷ nodes) states k within has =
    by (member-cases node nodes k has)
    (rank_all-in rank nodes (set states node (Ranked rank)) k
    (omega (arith, within, length-set states node (Ranked rank))))
  where
    by : (node ≡ k) ⊎ Contains nodes k
        → (Contains nodes k → state_in (rank_all rank nodes (set states node (Ranked rank))) k ≡ Ranked rank)
        → state_in (rank_all rank nodes (set states node (Ranked rank))) k ≡ Ranked rank
    by (inl same) rest =
        rank_all-ranked rank nodes (set states node (Ranked rank)) k
        (ap (state_in (set states node (Ranked rank))) (sym same) ∙ get_or-set_same states node (Ranked rank) New
        (omega (arith, same, within)))
    by (inr later) rest = rest later

-- ranks change nothing of what is new, where the nodes aren't
pub new-rank_all : (rank : ℕ) (nodes : List ℕ) (states : List State)
    → All (λ node. (node < length states) × (is_new (state_in states node) ≡ false)) nodes
    → count_by is_new (rank_all rank nodes states) ≡ count_by is_new states
new-rank_all rank [] states known = refl
new-rank_all rank (node ∷ nodes) states known =
    let here = All-head (λ node. (node < length states) × (is_new (state_in states node) ≡ false)) node nodes known in
    let rest = All-tail (λ node. (node < length states) × (is_new (state_in states node) ≡ false)) node nodes known in
    let step = sum_by-set (λ s. cond (is_new s) 1 0) states node (Ranked rank) New here.0 in
    let was : ◌≡◌ {A = ℕ} (cond (is_new (state_in states node)) 1 0) 0 = rw here.1 refl in
    new-rank_all rank nodes (set states node (Ranked rank))
    (λ k d within. still (get_or nodes k d) (rest k d within) (cases_eq (get_or nodes k d) node))
    ∙ omega (arith, step, was)
  where
    still : (k : ℕ) → (k < length states) × (is_new (state_in states k) ≡ false) → (k ≡ node) ⊎ (k ≡ node → ⊥)
        → (k < length (set states node (Ranked rank))) × (is_new (state_in (set states node (Ranked rank)) k) ≡ false)
    still k old (inl same) = (
      omega (arith, old.0, length-set states node (Ranked rank)),
      ap is_new
          (ap (state_in (set states node (Ranked rank))) same ∙ get_or-set_same states node (Ranked rank) New
          (omega (arith, same, old.0))),
    )
    still k old (inr other) = (
      omega (arith, old.0, length-set states node (Ranked rank)),
      ap is_new
          (get_or-set_other states node k (Ranked rank) New other) ∙ old.1,
    )

-- what a state becomes: nodes of the last part have the rank, the others stay
abbrev pub state_after : ℕ → ℕ → State → State
state_after start rank New = New
state_after start rank (Waiting place) = cond (leb start place) (Ranked rank) (Waiting place)
state_after start rank (Ranked other) = Ranked other

-- whether a place is in the last part
abbrev pub IsSide : ℕ → ℕ → Type 0
IsSide start place = ((leb start place ≡ true) × (start ≤ place)) ⊎ ((leb start place ≡ false) × (place < start))

pub leb-cases : (start place : ℕ) → IsSide start place
leb-cases start place = by (leb start place) refl
  where
    by : (b : Bool) → leb start place ≡ b → IsSide start place
    by true e = inl (e, grind (arith, nat_tests))
    by false e = inr (e, grind (arith, nat_tests))

pub waits-before : (start rank place : ℕ) (s : State) → state_after start rank s ≡ Waiting place
    → (s ≡ Waiting place) × (place < start)
waits-before start rank place New e = absurd (cc)
waits-before start rank place (Ranked other) e = absurd (cc)
waits-before start rank place (Waiting at) e = by (leb-cases start at)
  where
    by : IsSide start at → (Waiting at ≡ Waiting place) × (place < start)
    by (inl (t, late)) = let no : Ranked rank ≡ Waiting place = rw t at e in absurd (cc)
    by (inr (f, early)) =
        let same : Waiting at ≡ Waiting place = rw f at e in
        let n : at ≡ place = cc in
        (same, omega (arith, n, early))

-- a node with this rank had it, or was in the last part
abbrev pub WasRanked : ℕ → ℕ → ℕ → State → Type 0
WasRanked start rank r s = (s ≡ Ranked r) ⊎ ((place : ℕ) × (s ≡ Waiting place) × (start ≤ place) × (r ≡ rank))

pub ranked-before : (start rank r : ℕ) (s : State) → state_after start rank s ≡ Ranked r → WasRanked start rank r s
ranked-before start rank r New e = absurd (cc)
ranked-before start rank r (Ranked other) e = inl e
ranked-before start rank r (Waiting at) e = by (leb-cases start at)
  where
    by : IsSide start at → WasRanked start rank r (Waiting at)
    by (inl (t, late)) =
        let same : Ranked rank ≡ Ranked r = rw t at e in
        let n : r ≡ rank = cc in
        inr (at, refl, late, n)
    by (inr (f, early)) = let no : Waiting at ≡ Ranked r = rw f at e in absurd (cc)

pub waits-after : (start rank place : ℕ) → place < start → state_after start rank (Waiting place) ≡ Waiting place
waits-after start rank place early = by (leb-cases start place)
  where
    by : IsSide start place → cond (leb start place) (Ranked rank) (Waiting place) ≡ Waiting place
    by (inl (t, late)) = absurd (omega (arith, late, early))
    by (inr (f, less)) = rw f refl

pub ranked-after : (start rank place : ℕ) → start ≤ place → state_after start rank (Waiting place) ≡ Ranked rank
ranked-after start rank place late = by (leb-cases start place)
  where
    by : IsSide start place → cond (leb start place) (Ranked rank) (Waiting place) ≡ Ranked rank
    by (inl (t, less)) = rw t refl
    by (inr (f, early)) = absurd (omega (arith, late, early))

pub is_new-after : (start rank : ℕ) (s : State) → is_new s ≡ false → is_new (state_after start rank s) ≡ false
is_new-after start rank New e = e
is_new-after start rank (Waiting place) e = elim (leb-cases start place) [ inl t ↦ rw t.0 refl | inr f ↦ rw f.0 refl ]
is_new-after start rank (Ranked other) e = e

pub lets-after : (start rank r fall : ℕ) (s : State) → LetsHave r fall s → LetsHave r fall (state_after start rank s)
lets-after start rank r fall New lets = lets
lets-after start rank r fall (Waiting place) lets = absurd lets
lets-after start rank r fall (Ranked other) lets = lets
