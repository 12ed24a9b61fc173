-- Sandboxes once more, as lists: a sandbox is the list of what each command wrote in it, and the content in it is the
-- content after these writes, one after another. The laws compare with this.
use Rattle.std.specs.Prelude.{◌++◌, fold, List, [], ◌∷◌, Option, None, Some}
use Rattle.history.specs.declared.effect.Effect.{Effect}
use Rattle.history.specs.declared.effect.Effect.TheVariants.{Commit, Rejected, Read}
use Rattle.sandbox.specs.declared.act.Act.{Act}
use Rattle.sandbox.specs.declared.act.Act.TheVariants.{Open, Publish, Discard, Do}
use Rattle.sandbox.specs.declared.act.Note.TheVariants.{Opened, AlreadyOpen, NoSandbox, Discarded}
use Rattle.sandbox.specs.Sandboxes.{Sandboxing, left_of}

-- all writes of the list as one
abbrev pub joined : {C K T R : Type 0} → Sandboxing C K T R → List T → T
joined s kept = fold s.join s.none kept

-- the layer that keeps the writes of the list
abbrev pub layer_of : {C K T R : Type 0} → Sandboxing C K T R → Option (List T) → Option T
layer_of s None = None
layer_of s (Some kept) = Some (joined s kept)

-- a command that would commit writes adds them at the end of the list
abbrev pub added_in : {C K T R : Type 0} → Sandboxing C K T R → List T → Effect T R → Effect T R × Option (List T)
added_in s kept (Commit writes reply) = (Read (s.kept reply), Some (kept ++ writes ∷ []))
added_in s kept (Rejected reply) = (Read reply, Some kept)
added_in s kept (Read reply) = (Read reply, Some kept)

abbrev pub added_where_fit : {C K T R : Type 0} → Sandboxing C K T R → List T → Option R → Effect T R
    → Effect T R × Option (List T)
added_where_fit s kept None found = added_in s kept found
added_where_fit s kept (Some reason) found = (Read reason, Some kept)

-- what an act does on this content for a user whose sandbox has this list, or who has none, and the next list
abbrev pub answer_in_turn : {C K T R : Type 0} → (C → K → Effect T R) → (C → T → C) → Sandboxing C K T R
    → C → Option (List T) → Act K → Effect T R × Option (List T)
answer_in_turn effect after s content None Open = (Read (s.note Opened), Some [])
answer_in_turn effect after s content None Publish = (Read (s.note NoSandbox), None)
answer_in_turn effect after s content None Discard = (Read (s.note NoSandbox), None)
answer_in_turn effect after s content None (Do command) = (effect content command, None)
answer_in_turn effect after s content (Some kept) Open = (Read (s.note AlreadyOpen), Some kept)
answer_in_turn effect after s content (Some kept) Publish =
    (effect content (s.fixed (joined s kept)), left_of kept (effect content (s.fixed (joined s kept))))
answer_in_turn effect after s content (Some kept) Discard = (Read (s.note Discarded), None)
answer_in_turn effect after s content (Some kept) (Do command) =
    added_where_fit s kept (s.unfit content (joined s kept)) (effect (fold after content kept) command)
