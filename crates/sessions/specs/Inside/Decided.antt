-- A command that the book decides.
use Rattle.std.specs.Prelude.{ℕ, ◌<◌, Bool, true, false, [], ◌∷◌, Option, None, Some}
use Rattle.history.specs.declared.effect.Effect.{Effect}
use Rattle.sandbox.specs.declared.open.SandboxOf.{SandboxOf}
use Rattle.version_book.specs.declared.book.Settled.{Settled}
use Rattle.version_book.specs.Commits.{Settles}
use Rattle.sessions.specs.Answers.{Sight}

-- the pass looked, and the command's effect on the newest version that it then saw was settled
pub record IsDecided {C K T R : Type 0} (effect : C → K → Effect T R) (after : C → T → C) (first : C)
    (before later : Sight T) (user number : ℕ) (command : K) (settled : Settled R) : Type 0 where
  pub settles : Settles effect after first before.seen later.seen (user ∷ []) user number command settled
  pub looked : before.looks < later.looks

-- nothing is left of what was published
abbrev pub layer_left : {T : Type 0} → Bool → Option T → Option T
layer_left true layer = None
layer_left false layer = layer

-- the sandbox, if one is open, without its private state
abbrev pub without_private : {Y S : Type 0} → Option (SandboxOf Y S) → Option (SandboxOf Y S)
without_private None = None
without_private (Some sandbox) = Some (record { layer = sandbox.layer; private = None })
