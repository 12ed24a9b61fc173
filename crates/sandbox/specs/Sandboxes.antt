-- What a user's commands are answered while the user may have a sandbox open. The user's layer is the writes that were
-- kept in the sandbox so far, or none where no sandbox is open.
use Rattle.std.specs.Prelude.{◌≡◌, Option, None, Some, ⊤}
use Rattle.history.specs.declared.effect.Effect.{Effect}
use Rattle.history.specs.declared.effect.Effect.TheVariants.{Commit, Rejected, Read}
use Rattle.sandbox.specs.declared.act.Act.{Act}
use Rattle.sandbox.specs.declared.act.Act.TheVariants.{Open, Publish, Discard, Do}
use Rattle.sandbox.specs.declared.act.Note.{Note}
use Rattle.sandbox.specs.declared.act.Note.TheVariants.{Opened, AlreadyOpen, NoSandbox, Discarded}
use Rattle.sandbox.specs.declared.layered.Over.{Over}
use Rattle.sandbox.specs.declared.layered.Over.TheVariants.{Fits, Unfit}
use Rattle.sandbox.specs.declared.open.SandboxOf.{SandboxOf}

-- what a world says of sandboxes
pub record Sandboxing (C K T R : Type 0) : Type 0 where
  -- no writes, and these writes and then those
  pub none : T
  pub join : T → T → T
  -- the command that commits just these writes
  pub fixed : T → K
  -- the reply to every command but PUBLISH and DISCARD where the content with these writes passes a limit
  pub unfit : C → T → Option R
  -- the reply to an act that only opens or ends a sandbox
  pub note : Note → R
  -- the reply to a command whose writes were kept in it, where they would have been committed with this reply
  pub kept : R → R

-- the layer after the sandbox of these writes was published with this effect: none where they were committed
abbrev pub left_of : {L T R : Type 0} → L → Effect T R → Option L
left_of layer (Commit writes reply) = None
left_of layer (Rejected reply) = Some layer
left_of layer (Read reply) = Some layer

-- a command that would commit writes keeps them in the sandbox, and only reads
abbrev pub kept_in : {C K T R : Type 0} → Sandboxing C K T R → T → Effect T R → Effect T R × Option T
kept_in s layer (Commit writes reply) = (Read (s.kept reply), Some (s.join layer writes))
kept_in s layer (Rejected reply) = (Read reply, Some layer)
kept_in s layer (Read reply) = (Read reply, Some layer)

-- the same, unless there is a reason why the content with the layer can't be had
abbrev pub where_fit : {C K T R : Type 0} → Sandboxing C K T R → T → Option R → Effect T R → Effect T R × Option T
where_fit s layer None found = kept_in s layer found
where_fit s layer (Some reason) found = (Read reason, Some layer)

-- What an act does on this content for a user with this layer, and the user's next layer. A command in a sandbox acts
-- on the content after the kept writes, and PUBLISH is the one commit of all of them.
abbrev pub answer : {C K T R : Type 0} → (C → K → Effect T R) → (C → T → C) → Sandboxing C K T R
    → C → Option T → Act K → Effect T R × Option T
answer effect after s content None Open = (Read (s.note Opened), Some s.none)
answer effect after s content None Publish = (Read (s.note NoSandbox), None)
answer effect after s content None Discard = (Read (s.note NoSandbox), None)
answer effect after s content None (Do command) = (effect content command, None)
answer effect after s content (Some layer) Open = (Read (s.note AlreadyOpen), Some layer)
answer effect after s content (Some layer) Publish =
    (effect content (s.fixed layer), left_of layer (effect content (s.fixed layer)))
answer effect after s content (Some layer) Discard = (Read (s.note Discarded), None)
answer effect after s content (Some layer) (Do command) =
    where_fit s layer (s.unfit content layer) (effect (after content layer) command)

-- whether an act only reads: all but a command without a sandbox, and PUBLISH with one
abbrev pub Reads : {K T : Type 0} → Option T → Act K → Type 0
Reads None Open = ⊤
Reads None Publish = ⊤
Reads None Discard = ⊤
Reads None (Do command) = ⊥
Reads (Some layer) Open = ⊤
Reads (Some layer) Publish = ⊥
Reads (Some layer) Discard = ⊤
Reads (Some layer) (Do command) = ⊤

-- what a world promises of its sandboxes, besides: the laws on publishing stand on it
pub record IsSandboxing {C K T R : Type 0} (effect : C → K → Effect T R) (after : C → T → C) (s : Sandboxing C K T R)
    : Type 0 where
  -- no writes change nothing, and two joined are the first and then the second
  pub nothing : (content : C) → after content s.none ≡ content
  pub joined : (content : C) (first second : T)
      → after content (s.join first second) ≡ after (after content first) second
  -- a layer whose content can be had is committed as it is, and any other is rejected
  pub fits : (content : C) (layer : T) → s.unfit content layer ≡ None
      → (reply : R) × (effect content (s.fixed layer) ≡ Commit layer reply)
  pub unfits : (content : C) (layer : T) (reason : R) → s.unfit content layer ≡ Some reason
      → (reply : R) × (effect content (s.fixed layer) ≡ Rejected reply)

-- the state over which a layer is laid, or why that can't be had
abbrev pub IsOver : {S C R : Type 0} → (S → C) → C → Option R → Over S R → Type 0
IsOver content over unfit (Fits private) = (unfit ≡ None) × (content private ≡ over)
IsOver content over unfit (Unfit reply) = unfit ≡ Some reply

-- A state over which a layer was laid goes on by these writes: over whichever content that was, the next state is the
-- one with the layer that has these writes too.
abbrev pub GoesOnWith : {S C K T R : Type 0} → (S → C) → (C → T → C) → Sandboxing C K T R → S → T → S → Type 0
GoesOnWith {C = C} {T = T} content after s private writes next =
    (below : C) (layer : T) → content private ≡ after below layer → s.unfit below layer ≡ None
    → (s.unfit below (s.join layer writes) ≡ None) × (content next ≡ after below (s.join layer writes))

-- over whichever content the layer of such a state was laid, it no longer fits with these writes
abbrev pub FitsNoMore : {S C K T R : Type 0} → (S → C) → (C → T → C) → Sandboxing C K T R → S → T → Type 0
FitsNoMore {C = C} {T = T} content after s private writes =
    (below : C) (layer : T) → content private ≡ after below layer → s.unfit below layer ≡ None
    → s.unfit below (s.join layer writes) ≡ None → ⊥

-- the user's layer, where what the code keeps of it means these writes
abbrev pub layer_in : {Y S T : Type 0} → (Y → T) → Option (SandboxOf Y S) → Option T
layer_in kept None = None
layer_in kept (Some sandbox) = Some (kept sandbox.layer)

-- the private state, if there is one, is that of this content with the layer laid over it
abbrev pub IsPrivate : {S C T R : Type 0} → (S → C) → (C → T → C) → (C → T → Option R) → C → T → Option S → Type 0
IsPrivate content after unfit below layer None = ⊤
IsPrivate content after unfit below layer (Some private) =
    (unfit below layer ≡ None) × (content private ≡ after below layer)

-- the sandbox, if one is open, has no private state but that
abbrev pub IsLaid : {Y S C T R : Type 0} → (S → C) → (C → T → C) → (C → T → Option R) → (Y → T) → C
    → Option (SandboxOf Y S) → Type 0
IsLaid content after unfit kept below None = ⊤
IsLaid content after unfit kept below (Some sandbox) =
    IsPrivate content after unfit below (kept sandbox.layer) sandbox.private
