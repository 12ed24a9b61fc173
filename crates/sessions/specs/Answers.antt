-- What a step of a session answers. Everywhere `answer` is what a command does on a content and on its user's layer,
-- with the next layer; `after` is what writes make of a content, and `first` is the opening content.
use Rattle.std.specs.Prelude.{◌≡◌, ℕ, ◌+◌, ◌<◌, ◌≤◌, ◌++◌, Bool, List, [], ◌∷◌, Option, None, Some}
use Rattle.std.specs.Prelude.{length, drop, slice_get}
use Rattle.std.specs.declared.snapshot.Snapshot.{Snapshot}
use Rattle.history.specs.declared.entry.Entry.{Entry}
use Rattle.history.specs.declared.told.Told.{Told}
use Rattle.history.specs.declared.effect.Effect.{Effect}
use Rattle.history.specs.Version.{content_after}
use Rattle.layers.specs.Layered.{effect_of, layer_after}
use Rattle.version_book.specs.declared.book.PassOf.{PassOf}
use Rattle.version_book.specs.Commits.{Settles}
use Rattle.version_book.specs.Lists.{GoesOn}
use Rattle.version_book.specs.Passes.{looks, seen}
use Rattle.sandbox.specs.Sandboxes.{layer_in}
use Rattle.sessions.specs.declared.session.SessionOf.{SessionOf}

-- the beginning of the history that a pass has seen, and how often it has looked
pub record Sight (T : Type 0) : Type 0 where
  pub seen : List (Entry T)
  pub looks : ℕ

abbrev pub sight : {L C T : Type 0} → PassOf L C T → Sight T
sight pass = record { seen = seen pass; looks = looks pass }

-- The user's command of this number was answered, with this layer: the pass looked at the history, and the answer on
-- the newest version that it then saw decided. So the place is the length of what was seen before the command's own
-- entry, if it has one, and the user's next layer is the one that this answer gives.
pub record IsAnswered {C L K T R : Type 0} (answer : C → L → K → Effect T R × L) (after : C → T → C) (first : C)
    (before later : Sight T) (user number : ℕ) (layer : L) (command : K) (told : Told R) (next : L) : Type 0 where
  pub accepted : Bool
  pub settles : Settles (effect_of answer) after first before.seen later.seen (user ∷ []) user number (layer, command)
      (record { place = told.place; accepted = accepted; reply = told.reply })
  pub is_next : next ≡ (answer (content_after after first settles.log) layer command).1
  pub looked : before.looks < later.looks

-- the layer of the session's user, where what the code keeps of it means these writes
abbrev pub layer_of : {H S T K R Y : Type 0} → (Y → T) → SessionOf H S T K R Y → Option T
layer_of kept session = layer_in kept session.own.sandbox

-- the next command of the session was answered
pub record HasAnsweredNext {H S C K T R Y : Type 0} (answer : C → Option T → K → Effect T R × Option T)
    (after : C → T → C) (kept : Y → T) (first : C) (before later : SessionOf H S T K R Y) : Type 0 where
  pub command : K
  pub told : Told R
  pub is_next : slice_get before.commands (length before.told.items) ≡ Some command
  pub is_told : later.told.items ≡ before.told.items ++ told ∷ []
  pub is_answered : IsAnswered answer after first (sight before.pass) (sight later.pass) before.user
      (length before.told.items + 1) (layer_of kept before) command told (layer_of kept later)

-- the first of these commands were answered one after another, from this number and this layer on
abbrev pub AreAnswered : {C L K T R : Type 0} → (C → L → K → Effect T R × L) → (C → T → C) → C → Sight T → Sight T
    → ℕ → ℕ → L → List (Told R) → List K → L → Type 0
AreAnswered answer after first before later user number layer [] commands next = (later ≡ before) × (next ≡ layer)
AreAnswered answer after first before later user number layer (told ∷ more) [] next = ⊥
AreAnswered {L = L} {T = T} answer after first before later user number layer (told ∷ more) (command ∷ commands) next =
    (between : Sight T) × (left : L) × IsAnswered answer after first before between user number layer command told left
    × AreAnswered answer after first between later user (number + 1) left more commands next

-- the next commands of the session were answered one after another
pub record HasAnsweredMore {H S C K T R Y : Type 0} (answer : C → Option T → K → Effect T R × Option T)
    (after : C → T → C) (kept : Y → T) (first : C) (before later : SessionOf H S T K R Y) : Type 0 where
  pub told : List (Told R)
  pub is_told : later.told.items ≡ before.told.items ++ told
  pub are_answered : AreAnswered answer after first (sight before.pass) (sight later.pass) before.user
      (length before.told.items + 1) (layer_of kept before) told (drop (length before.told.items) before.commands)
      (layer_of kept later)

-- no reply of the session was taken away, its pass has seen what it had seen and maybe more, and no look is forgotten
pub record HasGoneOn {L S T K R Y : Type 0} (before later : SessionOf L S T K R Y) : Type 0 where
  pub told : (more : List (Told R)) × (later.told.items ≡ before.told.items ++ more)
  pub seen : (more : List (Entry T)) × (seen later.pass ≡ seen before.pass ++ more)
  pub looks : looks before.pass ≤ looks later.pass

-- The replies to the user's first commands were decided one after another, each by a look of its own or two: from a
-- pass that had seen nothing and never looked, and from no layer, up to a sight that now goes on by entries of others
-- and to this layer.
pub record HasLooked {C K T R : Type 0} (answer : C → Option T → K → Effect T R × Option T) (after : C → T → C)
    (first : C) (user : ℕ) (told : List (Told R)) (commands : List K) (now : Sight T) (layer : Option T) : Type 0 where
  pub last : Sight T
  pub answered : AreAnswered answer after first (record { seen = []; looks = 0 }) last user 1 None told commands layer
  pub others : GoesOn last.seen now.seen (user ∷ [])
  pub looks : last.looks ≤ now.looks

-- the replies to the commands of each user were decided so, by the pass at the user's place; the pass is of a book that
-- was begun with this state
abbrev pub EachHasLooked : {H S C K T R : Type 0} → (C → Option T → K → Effect T R × Option T) → (C → T → C) → (S → C)
    → S → List (List K) → List (List (Told R)) → List (Snapshot (PassOf H S T)) → Type 0
EachHasLooked {H} {S} {C} {K} {T} {R} answer after content state users told passes =
    (index : ℕ) (commands : List K) (replies : List (Told R)) (pass : Snapshot (PassOf H S T))
    → slice_get users index ≡ Some commands → slice_get told index ≡ Some replies → slice_get passes index ≡ Some pass
    → HasLooked answer after (content state) (index + 1) replies commands (sight pass.value)
    (layer_after answer after (content state) (seen pass.value) None replies commands)
    × (pass.value.place.me.0.opening ≡ Some state)
