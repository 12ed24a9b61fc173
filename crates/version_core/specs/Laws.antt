-- What the law of this crate says, of any world: `effect` is what a command does on a content, `after` what writes make
-- of it, and `value` the value of a cell on it.
use Rattle.std.specs.Prelude.{ℕ, List}
use Rattle.history.specs.declared.effect.Effect.{Effect}
use Rattle.version_core.specs.CoreState.{start}
use Rattle.version_core.specs.Acts.{Act, acts_after, TellsAtLastPin}
use Rattle.version_core.specs.OneHistory.{IsOneHistory}

-- whatever acts come, the core has one history
abbrev pub EveryRunIsOneHistory : {C K T R V : Type 0} → (C → K → Effect T R) → (C → T → C) → (C → ℕ → V) → Type 0
EveryRunIsOneHistory {C} {K} effect after value =
    (first : C) (count : ℕ) (acts : List (Act K))
    → IsOneHistory effect after value (acts_after effect after value (start first count) acts)

-- whatever acts come, a reply has the length as its place that the history had at the user's last Pin
abbrev pub EveryReplyIsAtLastPin : {C K T R V : Type 0} → (C → K → Effect T R) → (C → T → C) → (C → ℕ → V) → Type 0
EveryReplyIsAtLastPin {C} {K} effect after value =
    (first : C) (count : ℕ) (acts : List (Act K)) (act : Act K) (number : ℕ)
    → TellsAtLastPin effect after value (start first count) acts act number
