-- Feeders in a row with the same area.
use Rattle.std.proofs.Common.{◌≡◌, refl, sym, ap, ◌∙◌, subst, ℕ, zero, suc, ◌+◌, ◌-◌, ◌<◌, ◌≤◌, ◌⊎◌, inl, inr, Bool, true, false, ◌&&◌, eqb, ltb, Option, Some, List, [], ◌∷◌, ◌++◌, length, length-take, length-drop, take, drop, get_or, arith}
use Rattle.std.specs.Prelude.{option_map, slice_get, slice_range}
use Rattle.std.specs.List.{Any}
use Rattle.std.proofs.lemmas.Bool.{ltb-true, ltb-false}
use Rattle.std.proofs.lemmas.List.{take-append-drop, take-take, drop-take}
use Rattle.std.proofs.lemmas.Option.{slice_get-get_or}
use Rattle.cube_space.specs.Layout.{axes}
use Rattle.cube_space.specs.Cells.{cube_of, elements_of, is_leaf_cell}
use Rattle.rule_laws.proofs.StatementFacts.{slice_get-drop_at}
use Rattle.rule_model.specs.declared.rules.Feeder.{Feeder}
use Rattle.rule_model.specs.Areas.{in_source_sets}
use Rattle.rule_model.specs.BoundModel.{BoundModel}
use Rattle.rule_model.specs.System.{feed_of}
use Rattle.feed_sources.specs.Spans.{AreAlike, IsSpan, sets_at}
use Rattle.feed_sources.proofs.FeederFacts.{Has, HasOne}
use Rattle.feed_sources.proofs.Members.{some-left, some-right, some-parts}

-- ---- a span and what stands before it

module _ {X : Type 0} (xs : List X) (n end : ℕ) (low : n ≤ end) where
  pub taken-span : take end xs ≡ take n xs ++ slice_range xs n end
  taken-span =
      let sum : n + (end - n) ≡ end = omega (arith, low) in
      let rest : drop n (take end xs) ≡ slice_range xs n end = subst (λ (k : ℕ). drop n (take k xs) ≡ slice_range xs n end) sum (drop-take n (end - n) xs) in
      sym (take-append-drop n (take end xs)) ∙ ap (λ (f : List X). f ++ drop n (take end xs)) (take-take n end xs low) ∙ ap (λ (r : List X). take n xs ++ r) rest

  module _ (P : X → Type 0) where
    pub span-parts : Any P (take end xs) → Any P (take n xs) ⊎ Any P (slice_range xs n end)
    span-parts some = some-parts P (take n xs) (slice_range xs n end) (subst (Any P) taken-span some)

    pub span-first : Any P (take n xs) → Any P (take end xs)
    span-first some = subst (Any P) (sym taken-span) (some-left P (take n xs) (slice_range xs n end) some)

    pub span-last : Any P (slice_range xs n end) → Any P (take end xs)
    span-last some = subst (Any P) (sym taken-span) (some-right P (take n xs) (slice_range xs n end) some)

-- ---- how long a span is

pub span-one : (feeders : List Feeder) (place : ℕ) → place < length feeders → IsSpan feeders place (place + 1)
span-one feeders place low = record {
  some = omega arith;
  within = omega (arith, low);
  alike = λ other from to. let same : other ≡ place = omega (arith, from, to) in ap (sets_at feeders) same;
}

pub span-more : (feeders : List Feeder) (place end : ℕ) → sets_at feeders place ≡ sets_at feeders (place + 1)
    → IsSpan feeders (place + 1) end → IsSpan feeders place end
span-more feeders place end same later = record {
  some = omega (arith, later.some);
  within = later.within;
  alike = λ other from to. by other from to (ltb place other) refl;
}
  where
    by : (other : ℕ) → place ≤ other → other < end → (b : Bool) → ltb place other ≡ b → sets_at feeders other ≡ sets_at feeders place
    by other from to true more = later.alike other (omega (arith, ltb-true place other more)) to ∙ sym same
    by other from to false none = let here : other ≡ place = omega (arith, from, ltb-false place other none) in ap (sets_at feeders) here

-- ---- what a feeder of a span has

got-take : {X : Type 0} (n : ℕ) (xs : List X) (k : ℕ) → k < n → slice_get (take n xs) k ≡ slice_get xs k
got-take zero xs k low = absurd (omega (arith, low))
got-take (suc n) [] k low = refl
got-take (suc n) (x ∷ xs) zero low = refl
got-take (suc n) (x ∷ xs) (suc k) low = got-take n xs k (omega (arith, low))

pub sets-there : (feeders : List Feeder) (place : ℕ) (feeder : Feeder) → place < length feeders → feeder ≡ get_or feeders place feeder
    → sets_at feeders place ≡ Some feeder.area.sets
sets-there feeders place feeder low is =
    let found : slice_get feeders place ≡ Some feeder = slice_get-get_or feeders place feeder low ∙ ap Some (sym is) in
    rw found

pub same-sets : (feeders : List Feeder) (one other : ℕ) (f g : Feeder) → AreAlike feeders → one < length feeders → other < length feeders
    → f ≡ get_or feeders one f → g ≡ get_or feeders other g → f.area.sets ≡ g.area.sets
same-sets feeders one other f g alike low high is there =
    let same : Some f.area.sets ≡ Some g.area.sets = sym (sets-there feeders one f low is) ∙ alike one other low high ∙ sets-there feeders other g high there in
    cc

module _ (feeders : List Feeder) (place end : ℕ) (span : IsSpan feeders place end) where
  pub span-length : length (slice_range feeders place end) ≡ end - place
  span-length = omega (arith, length-take (end - place) (drop place feeders), length-drop place feeders, span.some, span.within)

  sets-within : (k : ℕ) → k < end - place → sets_at (slice_range feeders place end) k ≡ sets_at feeders place
  sets-within k low =
      ap (option_map (λ (f : Feeder). f.area.sets)) (got-take (end - place) (drop place feeders) k low ∙ slice_get-drop_at feeders place k)
      ∙ span.alike (place + k) (omega arith) (omega (arith, low))

  -- a feeder of the span has the area of the first
  pub span-same : (k : ℕ) (f g : Feeder) → f ≡ get_or feeders place f → k < length (slice_range feeders place end) → g ≡ get_or (slice_range feeders place end) k g
      → g.area.sets ≡ f.area.sets
  span-same k f g is low there =
      let here : place < length feeders = omega (arith, span.some, span.within) in
      let same : Some g.area.sets ≡ Some f.area.sets =
      sym (sets-there (slice_range feeders place end) k g low there) ∙ sets-within k (omega (arith, low, span-length)) ∙ sets-there feeders place f here is in
      cc

  pub span-alike : AreAlike (slice_range feeders place end)
  span-alike one other low high =
      sets-within one (omega (arith, low, span-length)) ∙ sym (sets-within other (omega (arith, high, span-length)))

-- ---- cells in the areas of a span

module _ (m : BoundModel) (x cube : ℕ) where
  same-has : (f g : Feeder) → g.area.sets ≡ f.area.sets → Has m x (feed_of m.space cube g) → Has m x (feed_of m.space cube f)
  same-has f g same has =
      subst (λ (sets : List (Option (List ℕ))). (eqb (cube_of m.space x) cube && is_leaf_cell m.space x && in_source_sets (axes m.space cube) sets (elements_of m.space x)) ≡ true) same has

  -- a cell that isn't in the area of the first is in none
  pub has-past : (feeders : List Feeder) (n end : ℕ) (f : Feeder) → IsSpan feeders n end → f ≡ get_or feeders n f
      → (HasOne m x cube (take n feeders) → ⊥) → (Has m x (feed_of m.space cube f) → ⊥) → HasOne m x cube (take end feeders) → ⊥
  has-past feeders n end f span is before not more =
      let P : Feeder → Type 0 = λ g. Has m x (feed_of m.space cube g) in
      elim (span-parts feeders n end (omega (arith, span.some)) P more) [
        | inl one ↦ before one
        | inr (k, g, low, there, has) ↦ not (same-has f g (span-same feeders n end span k f g is low (sym there)) has)
      ]
