-- What the law of this crate says, of any world whose sandboxes keep what IsSandboxing promises.
use Rattle.std.specs.Prelude.{ℕ, ◌≡◌, ◌+◌, fold, List, Option, None, Some, slice_get}
use Rattle.history.specs.declared.entry.Entry.{Entry}
use Rattle.history.specs.declared.told.Told.{Told}
use Rattle.history.specs.declared.effect.Effect.{Effect}
use Rattle.history.specs.declared.effect.Effect.TheVariants.{Commit}
use Rattle.history.specs.Version.{version}
use Rattle.layers.specs.Layered.{effect_of, layer_after}
use Rattle.sandbox.specs.declared.act.Act.{Act}
use Rattle.sandbox.specs.declared.act.Act.TheVariants.{Publish}
use Rattle.sandbox.specs.Sandboxes.{Sandboxing, IsSandboxing, answer}
use Rattle.sandbox.specs.InTurn.{joined, layer_of, answer_in_turn}

-- The entry of a PUBLISH has just the writes of the sandbox. No sandbox is open after it, and the next version is the
-- content that its user saw in the sandbox on this one.
abbrev pub PublishCommitsTheLayer : {C K T R : Type 0} → (C → K → Effect T R) → (C → T → C) → Sandboxing C K T R
    → Type 0
PublishCommitsTheLayer {C} {K} {T} {R} effect after s =
    (first : C) (log : List (Entry T)) (place : ℕ) (entry : Entry T) (layer : T) (reply : R)
    → slice_get log place ≡ Some entry
    → effect_of (answer effect after s) (version after first log place) (Some layer, Publish)
    ≡ Commit entry.writes reply
    → (entry.writes ≡ layer)
    × ((answer effect after s (version after first log place) (Some layer) Publish).1 ≡ None)
    × (version after first log (place + 1) ≡ after (version after first log place) layer)

-- A user's layer is the joined writes of what the commands in the sandbox wrote, one after another; the content with it
-- is the content after these writes in turn; and each act is answered as it is with the list of them.
abbrev pub SandboxIsItsKeptWrites : {C K T R : Type 0} → (C → K → Effect T R) → (C → T → C) → Sandboxing C K T R
    → Type 0
SandboxIsItsKeptWrites {C} {K} {T} {R} effect after s =
    ((first : C) (log : List (Entry T)) (told : List (Told R)) (acts : List (Act K))
    → layer_after (answer effect after s) after first log None told acts
    ≡ layer_of s (layer_after (answer_in_turn effect after s) after first log None told acts))
    × ((content : C) (kept : List T) → after content (joined s kept) ≡ fold after content kept)
    × ((content : C) (kept : Option (List T)) (act : Act K)
    → (answer effect after s content (layer_of s kept) act).0 ≡ (answer_in_turn effect after s content kept act).0)

abbrev pub PublishingIsAtOnce : {C K T R : Type 0} → (C → K → Effect T R) → (C → T → C) → Sandboxing C K T R → Type 0
PublishingIsAtOnce effect after s = IsSandboxing effect after s → PublishCommitsTheLayer effect after s

abbrev pub SandboxIsInTurn : {C K T R : Type 0} → (C → K → Effect T R) → (C → T → C) → Sandboxing C K T R → Type 0
SandboxIsInTurn effect after s = IsSandboxing effect after s → SandboxIsItsKeptWrites effect after s
