use Rattle.std.proofs.Common.{◌≡◌, ◌<◌, ℕ, List, ◌++◌, All, vec_len}
use Rattle.least_ranks.proofs.walk.cut.Given as goal

abbrev pub invariant-parts : goal.invariant-parts
invariant-parts l = record {
  rest : List ℕ;
  is : l.initial.parts.items ≡ l.parts.items ++ rest;
  above : All (λ n. l.place < n) rest;
}

abbrev pub decreases-parts : goal.decreases-parts
decreases-parts l = vec_len l.parts
