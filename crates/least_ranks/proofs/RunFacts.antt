-- A walk that hasn't begun is sound, and one that is over has the least ranks.
use Rattle.std.proofs.Common.{◌≡◌, inl, inr, ℕ, ◌+◌, ◌^◌, ◌<◌, ◌≤◌, false, List, [], ◌∷◌}
use Rattle.std.proofs.Common.{length, map, replicate, slice_index, zero, suc, refl, sym}
use Rattle.std.proofs.Common.{◌∙◌, arith}
use Rattle.std.proofs.lemmas.Bool.{cases_lt}
use Rattle.std.proofs.lemmas.List.{get_or-replicate, get_or_past, length-replicate, length-map}
use Rattle.std.proofs.lemmas.List.Elements.{All-nil}
use Rattle.std.proofs.lemmas.List.Sums.{count_by-le-length}
use Rattle.least_ranks.specs.declared.state.State.{State}
use Rattle.least_ranks.specs.declared.state.State.TheVariants.{New, Waiting, Ranked}
use Rattle.least_ranks.specs.Graph.{Arrows, Fits, IsLeast, fall_of}
use Rattle.least_ranks.specs.Inside.States.{is_new, rank_of}
use Rattle.least_ranks.specs.Inside.Trails.{Trail, state_of, state_in, fresh}
use Rattle.least_ranks.specs.Inside.Sound.{LetsHave, IsSound}
use Rattle.least_ranks.proofs.Rises.{IsRising-none}

new-at-first : (n k : ℕ) → state_in (replicate n New) k ≡ New
new-at-first n k =
    elim
    (cases_lt k n) [
      | inl there ↦ get_or-replicate n k New New there
      | inr past ↦ get_or_past (replicate n New) k New
          (omega (arith, past, length-replicate n New))
    ]

pub IsSound-fresh : (graph : Arrows) → graph.nodes < 2 ^ 32 → IsSound graph (fresh graph.nodes)
IsSound-fresh graph few = record {
  placed = record {
    whole = length-replicate graph.nodes New;
    within = λ place there. absurd (omega (arith, there));
    waits = λ place there. absurd (omega (arith, there));
    at = λ node place is. absurd (never (Waiting place) (sym is ∙ new-at-first graph.nodes node) refl);
  };
  parts = record { rise = IsRising-none; within = All-nil (λ s. s < 0); first = λ some. absurd (omega (arith, some)) };
  busy =
      record
      { rise = IsRising-none; within = All-nil (λ s. s < 0); done = λ place there out. absurd (omega (arith, there)) };
  passed = record { long = refl; met = λ place there slot arrow less is. absurd (omega (arith, there)) };
  joined = λ low high there also together. absurd (omega (arith, there));
  ranked = record {
    fits = λ node rank is slot arrow there. absurd (never (Ranked rank) (sym is ∙ new-at-first graph.nodes node) refl);
    least = λ node rank is others fit. absurd (never (Ranked rank) (sym is ∙ new-at-first graph.nodes node) refl);
  };
  small = record {
    few = few;
    room = omega (arith, count_by-le-length is_new (replicate graph.nodes New), length-replicate graph.nodes New);
    small = λ node rank is. absurd (never (Ranked rank) (sym is ∙ new-at-first graph.nodes node) refl);
  };
}
  where
    never : (s : State) → s ≡ New → is_new s ≡ false → ⊥
    never s same not_new = let no : is_new New ≡ false = rw same at not_new in cc

-- the ranks, node by node
rank-at : (states : List State) (k : ℕ) → slice_index (map rank_of states) k ≡ rank_of (state_in states k)
rank-at [] k = refl
rank-at (s ∷ states) zero = refl
rank-at (s ∷ states) (suc k) = rank-at states k

module _ (graph : Arrows) (trail : Trail) (sound : IsSound graph trail) (over : length trail.path ≡ 0)
    (begun : (k : ℕ) → k < graph.nodes → is_new (state_of trail k) ≡ false) where
  ranked : (k : ℕ) → k < graph.nodes → state_of trail k ≡ Ranked (rank_of (state_of trail k))
  ranked k there = by (state_of trail k) refl (begun k there)
    where
      by : (s : State) → state_of trail k ≡ s → is_new s ≡ false → s ≡ Ranked (rank_of s)
      by New is not_new = absurd (cc)
      by (Waiting place) is not_new = let at = sound.placed.at k place is in absurd (omega (arith, at.0, over))
      by (Ranked rank) is not_new = refl

  lets : (rank fall : ℕ) (s : State) → LetsHave rank fall s → rank_of s + fall ≤ rank
  lets rank fall New l = absurd l
  lets rank fall (Waiting place) l = absurd l
  lets rank fall (Ranked target) l = l

  pub ranks-fit : Fits graph (map rank_of trail.states)
  ranks-fit = record {
    whole = length-map trail.states rank_of ∙ sound.placed.whole;
    falls = λ node slot arrow there.
        let low =
        lets (rank_of (state_of trail node)) (fall_of arrow) (state_of trail arrow.to)
        (sound.ranked.fits node (rank_of (state_of trail node)) (ranked node there.node_within) slot arrow there) in
        omega (arith, low, rank-at trail.states node, rank-at trail.states arrow.to);
  }

  pub ranks-least : IsLeast graph (map rank_of trail.states)
  ranks-least others fit node there =
      let least = sound.ranked.least node (rank_of (state_of trail node)) (ranked node there) others fit in
      omega (arith, least, rank-at trail.states node)
