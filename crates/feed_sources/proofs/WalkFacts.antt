-- A walk through the cells of a set, in the run of a cube.
use Rattle.std.proofs.Common.{suc, cond, ◌≡◌, ap, subst, arith, ℕ, ◌+◌, ◌-◌, ◌<◌, ◌≤◌, inl, inr, true, List, [], ◌∷◌, length, Some, None, leb}
use Rattle.std.specs.List.{Contains}
use Rattle.std.proofs.lemmas.Bool.Decides.{leb_tells}
use Rattle.cell_store.specs.Cells.{next_from}
use Rattle.cell_store.proofs.Rising.{AllAbove, Rises}
use Rattle.cube_space.specs.Radix.{are_digits, number_of}
use Rattle.cube_space.specs.Layout.{Layout, sizes}
use Rattle.cube_space.specs.Cells.{IsCell, cube_of, elements_of, cell_count, first_cell}
use Rattle.cube_space.proofs.Places.{cell-place, cell_at-place, place-within, IsPlace}
use Rattle.cube_space.proofs.Radix.{number-below, number-digits}
use Rattle.feed_sources.proofs.Members.{none-there, at-front, behind, front-or-behind}

-- ---- the next cell of a set

above-least : (a : ℕ) (cells : List ℕ) (x : ℕ) → AllAbove a cells → Contains cells x → a < x
above-least a [] x above has = absurd (none-there x has)
above-least a (y ∷ cells) x above has =
    elim (front-or-behind y cells x has) [
      | inl is ↦ subst (λ (n : ℕ). a < n) is above.0
      | inr more ↦ above-least a cells x above.1 more
    ]

pub next-none : (cells : List ℕ) (k : ℕ) → next_from cells k ≡ None → (x : ℕ) → Contains cells x → k ≤ x → ⊥
next-none [] k none x has low = none-there x has
next-none (y ∷ cells) k none x has low = elim (leb_tells k y) [
  | inl t ↦ (let found : Some y ≡ None = rw t.0 at none in cc)
  | inr t ↦ (let rest : next_from cells k ≡ None = rw t.0 at none in
      elim (front-or-behind y cells x has) [
        | inl is ↦ omega (arith, is, low, t.1)
        | inr more ↦ next-none cells k rest x more low
      ])
]

-- the next cell is the least of those from there on
pub record IsLeast (cells : List ℕ) (k next : ℕ) : Type 0 where
  pub has : Contains cells next
  pub from : k ≤ next
  pub least : (x : ℕ) → Contains cells x → k ≤ x → next ≤ x

pub next-least : (cells : List ℕ) (k next : ℕ) → Rises cells → next_from cells k ≡ Some next → IsLeast cells k next
next-least [] k next rises is = absurd (cc)
next-least (y ∷ cells) k next rises is = elim (leb_tells k y) [
  | inl t ↦ (let found : Some y ≡ Some next = rw t.0 at is in let same : y ≡ next = cc in subst (IsLeast (y ∷ cells) k) same (here t.1))
  | inr t ↦ (let rest : next_from cells k ≡ Some next = rw t.0 at is in
      let later = next-least cells k next rises.1 rest in
      record {
        has = behind y cells next later.has;
        from = later.from;
        least = λ x has low. elim (front-or-behind y cells x has) [
          | inl own ↦ absurd (omega (arith, own, low, t.1))
          | inr more ↦ later.least x more low
        ];
      })
]
  where
    here : k ≤ y → IsLeast (y ∷ cells) k y
    here low = record {
      has = at-front y cells;
      from = low;
      least = λ x has from. elim (front-or-behind y cells x has) [
        | inl own ↦ omega (arith, own)
        | inr more ↦ (let less = above-least y cells x rises.0 more in omega (arith, less))
      ];
    }

-- ---- how many cells were passed

abbrev pub count_below : ℕ → List ℕ → ℕ
count_below from [] = 0
count_below from (x ∷ cells) = cond (leb from x) (count_below from cells) (suc (count_below from cells))

pub few-below : (from : ℕ) (cells : List ℕ) → count_below from cells ≤ length cells
few-below from [] = omega arith
few-below from (x ∷ cells) =
    let rest = few-below from cells in
    elim (leb_tells from x) [
      | inl t ↦ rw t.0 (omega (arith, rest))
      | inr t ↦ rw t.0 (omega (arith, rest))
    ]

more-below : (from after : ℕ) (cells : List ℕ) → from ≤ after → count_below from cells ≤ count_below after cells
more-below from after [] upto = omega arith
more-below from after (x ∷ cells) upto =
    let rest = more-below from after cells upto in
    elim (leb_tells from x) [
      | inl t ↦ elim (leb_tells after x) [
        | inl u ↦ rw (t.0, u.0) rest
        | inr u ↦ rw (t.0, u.0) (omega (arith, rest))
      ]
      | inr t ↦ elim (leb_tells after x) [
        | inl u ↦ absurd (omega (arith, upto, t.1, u.1))
        | inr u ↦ rw (t.0, u.0) (omega (arith, rest))
      ]
    ]

-- a cell that is passed counts
pub next-below : (from after next : ℕ) (cells : List ℕ) → Contains cells next → from ≤ next → next < after → count_below from cells + 1 ≤ count_below after cells
next-below from after next [] has low less = absurd (none-there next has)
next-below from after next (x ∷ cells) has low less =
    elim (front-or-behind x cells next has) [
      | inl is ↦ (let rest = more-below from after cells (omega (arith, low, less)) in
          elim (leb_tells from x) [
            | inl t ↦ elim (leb_tells after x) [
              | inl u ↦ absurd (omega (arith, is, less, u.1))
              | inr u ↦ rw (t.0, u.0) (omega (arith, rest))
            ]
            | inr t ↦ absurd (omega (arith, is, low, t.1))
          ])
      | inr more ↦ (let rest = next-below from after next cells more low less in
          elim (leb_tells from x) [
            | inl t ↦ elim (leb_tells after x) [
              | inl u ↦ rw (t.0, u.0) rest
              | inr u ↦ rw (t.0, u.0) (omega (arith, rest))
            ]
            | inr t ↦ elim (leb_tells after x) [
              | inl u ↦ absurd (omega (arith, low, less, t.1, u.1))
              | inr u ↦ rw (t.0, u.0) (omega (arith, rest))
            ]
          ])
    ]

pub last-below : (from next : ℕ) (cells : List ℕ) → Contains cells next → from ≤ next → count_below from cells + 1 ≤ length cells
last-below from next cells has low =
    let one = next-below from (next + 1) next cells has low (omega arith) in
    let few = few-below (next + 1) cells in
    omega (arith, one, few)

-- ---- the run of a cube

-- a number in the run is a cell of the cube
pub record IsOf (space : Layout) (cube n : ℕ) : Type 0 where
  pub cell : IsCell space n
  pub own : cube_of space n ≡ cube

pub run-cell : (space : Layout) (cube n : ℕ) → cube < length space.cubes → n < cell_count space cube → IsOf space cube (first_cell space cube + n)
run-cell space cube n there low =
    let found = number-digits (sizes space cube) n low in
    let place : IsPlace space cube found.0 = record { there = there; digits = found.1 } in
    let same = cell_at-place space cube found.0 place in
    subst (λ (k : ℕ). IsOf space cube (first_cell space cube + k)) found.2 (record { cell = place-within space cube found.0 place; own = ap (λ at. at.cube) same })

pub run-at : (space : Layout) (cube first cells n : ℕ) → cube < length space.cubes → first ≡ first_cell space cube → cells ≡ cell_count space cube → first ≤ n → n - first < cells → IsOf space cube n
run-at space cube first cells n there own count low less =
    let here : first_cell space cube + (n - first) ≡ n = omega (arith, own, low) in
    subst (IsOf space cube) here (run-cell space cube (n - first) there (omega (arith, less, count)))

-- a cell of the cube has a number in the run
pub record IsNumbered (space : Layout) (cube cell : ℕ) : Type 0 where
  pub digits : are_digits (sizes space cube) (elements_of space cell) ≡ true
  pub number : first_cell space cube + number_of (sizes space cube) (elements_of space cell) ≡ cell
  pub within : number_of (sizes space cube) (elements_of space cell) < cell_count space cube

pub cell-run : (space : Layout) (cube cell : ℕ) → IsCell space cell → cube_of space cell ≡ cube → IsNumbered space cube cell
cell-run space cube cell is own =
    let at = cell-place space cell is in
    subst (λ (k : ℕ). IsNumbered space k cell) own
    (record { digits = at.place.digits; number = at.number; within = number-below (sizes space (cube_of space cell)) (elements_of space cell) at.place.digits })
