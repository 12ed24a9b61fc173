-- What the laws of the printed bytes and of sandboxes say.
use Rattle.std.specs.Prelude.{◌≡◌, ℕ, ℤ, ◌+◌, ◌<◌, ◌^◌, List, length, take, slice_get, All, Some, None}
use Rattle.history.specs.declared.entry.Entry.{Entry}
use Rattle.history.specs.declared.told.Told.{Told}
use Rattle.history.specs.UserRun.{reply_of}
use Rattle.history.specs.Version.{version}
use Rattle.layers.specs.Layered.{IsLayeredHistoryOf, layer_after, places_in, writes_in}
use Rattle.cube_server.specs.Output.{output}
use Rattle.cube_space.specs.Cells.{IsSpace}
use Rattle.rule_model.specs.BoundModel.{BoundModel}
use Rattle.rule_model.specs.Conditions.{AreRules}
use Rattle.user_session.specs.Content.{opening, after}
use Rattle.sandbox.specs.declared.act.Act.{Act}
use Rattle.sandbox.specs.declared.act.Act.TheVariants.{Publish, Do}
use Rattle.user_session.specs.Layers.{answer}
use Rattle.user_session.specs.Planning.{effect}
use Rattle.user_session.specs.declared.command.PlanCommand.{PlanCommand}
use Rattle.user_session.specs.declared.command.PlanCommand.TheVariants.{Put, Get, Load, View, Spread, Trace, Fixed}

-- users, the commands of each user and entries are few enough to be counted in 64 bits
pub record AreFew (users : List (List (Act PlanCommand))) (log : List (Entry (List (ℕ × ℤ)))) : Type 0 where
  pub few_users : length users < 2 ^ 64
  pub few_commands : All (λ commands. length commands < 2 ^ 64) users
  pub few_entries : length log < 2 ^ 64

-- of the same users' commands on a model, the text of a history tells what each user was told, and the
-- entries with their writes
abbrev pub TheBytesTellTheHistory : Type 0
TheBytesTellTheHistory =
    (model : BoundModel) (users : List (List (Act PlanCommand))) (told replies : List (List (Told (List ℕ))))
    (log other : List (Entry (List (ℕ × ℤ))))
    → IsSpace model.space → AreRules model.space model.rules → AreFew users log → AreFew users other
    → IsLayeredHistoryOf answer after (opening model) None users told log
    → IsLayeredHistoryOf answer after (opening model) None users replies other
    → output told log ≡ output replies other → (told ≡ replies) × (log ≡ other)

-- In two runs on one model, whose users differ but for one of them: where the same writes were committed, and that
-- user's commands had the same places, the user got the same replies. So what another user keeps in a sandbox and
-- doesn't publish changes no reply to a user.
abbrev pub SandboxIsSeenByItsUserAlone : Type 0
SandboxIsSeenByItsUserAlone =
    (model : BoundModel) (users others : List (List (Act PlanCommand))) (told replies : List (List (Told (List ℕ))))
    (log other : List (Entry (List (ℕ × ℤ)))) (index : ℕ) (commands : List (Act PlanCommand))
    (own again : List (Told (List ℕ)))
    → IsLayeredHistoryOf answer after (opening model) None users told log
    → IsLayeredHistoryOf answer after (opening model) None others replies other
    → slice_get users index ≡ Some commands → slice_get others index ≡ Some commands
    → slice_get told index ≡ Some own → slice_get replies index ≡ Some again
    → writes_in log ≡ writes_in other → places_in own ≡ places_in again → own ≡ again

-- the command asks, and writes nothing
abbrev pub IsQuestion : PlanCommand → Type 0
IsQuestion (Put cell number) = ⊥
IsQuestion (Get cell) = Unit {0}
IsQuestion (Load job script) = ⊥
IsQuestion (View view) = Unit {0}
IsQuestion (Spread cell amount how) = ⊥
IsQuestion (Trace cell files) = Unit {0}
IsQuestion (Fixed writes) = ⊥

-- Where a user's PUBLISH at a place has an entry, the entry has just the writes that the sandbox kept; and each
-- question has on the next version the reply that it had in the sandbox on the version of that place.
abbrev pub PublishShowsWhatTheSandboxShowed : Type 0
PublishShowsWhatTheSandboxShowed =
    (model : BoundModel) (users : List (List (Act PlanCommand))) (told : List (List (Told (List ℕ))))
    (log : List (Entry (List (ℕ × ℤ)))) (index : ℕ) (commands : List (Act PlanCommand))
    (own : List (Told (List ℕ))) (number : ℕ) (one : Told (List ℕ)) (layer : List (ℕ × ℤ))
    (entry : Entry (List (ℕ × ℤ)))
    → let before = version after (opening model) log one.place in
    IsLayeredHistoryOf answer after (opening model) None users told log
    → slice_get users index ≡ Some commands → slice_get told index ≡ Some own
    → slice_get commands number ≡ Some Publish → slice_get own number ≡ Some one
    → layer_after answer after (opening model) log None (take number own) commands ≡ Some layer
    → slice_get log one.place ≡ Some entry → entry.user ≡ index + 1 → entry.command ≡ number + 1
    → (entry.writes ≡ layer)
    × (version after (opening model) log (one.place + 1) ≡ after before layer)
    × ((question : PlanCommand) → IsQuestion question
    → reply_of (effect (version after (opening model) log (one.place + 1)) question)
    ≡ reply_of (answer before (Some layer) (Do question)).0)
