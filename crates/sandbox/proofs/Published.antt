-- What publishing a sandbox commits, and that a layer is its kept writes in turn.
use Rattle.std.proofs.Common.{◌≡◌, ℕ, ◌+◌, zero, suc, List, [], ◌∷◌, Option, None, Some, refl, ap, sym, ◌∙◌, arith}
use Rattle.std.specs.Prelude.{fold}
use Rattle.std.specs.List.{slice_get}
use Rattle.std.proofs.lemmas.List.Sums.{fold_push}
use Rattle.history.specs.declared.entry.Entry.{Entry}
use Rattle.history.specs.declared.told.Told.{Told}
use Rattle.history.specs.declared.effect.Effect.{Effect}
use Rattle.history.specs.declared.effect.Effect.TheVariants.{Commit, Rejected, Read}
use Rattle.history.specs.Version.{version}
use Rattle.layers.specs.Layered.{layer_after}
use Rattle.lists.proofs.Found.{none_some, some_same}
use Rattle.sandbox.specs.declared.act.Act.{Act}
use Rattle.sandbox.specs.declared.act.Act.TheVariants.{Open, Publish, Discard, Do}
use Rattle.sandbox.specs.Sandboxes.{Sandboxing, IsSandboxing, answer, left_of, kept_in, where_fit}
use Rattle.sandbox.specs.InTurn.{joined, layer_of, added_in, added_where_fit, answer_in_turn}
use Rattle.sandbox.specs.Laws.{PublishCommitsTheLayer, SandboxIsItsKeptWrites}

-- the version after an entry is the content after its writes
version_next : {C T : Type 0} (after : C → T → C) (first : C) (log : List (Entry T)) (place : ℕ) (entry : Entry T) → slice_get log place ≡ Some entry
    → version after first log (suc place) ≡ after (version after first log place) entry.writes
version_next after first [] place entry is = absurd (none_some is)
version_next after first (one ∷ log) zero entry is = ap (λ e. after first e.writes) (some_same is)
version_next after first (one ∷ log) (suc place) entry is = version_next after (after first one.writes) log place entry is

module _ {C K T R : Type 0} (effect : C → K → Effect T R) (after : C → T → C) (s : Sandboxing C K T R) (lawful : IsSandboxing effect after s) where
  -- what is committed of a layer is the layer
  committed : (content : C) (layer writes : T) (reply : R) → effect content (s.fixed layer) ≡ Commit writes reply
      → (unfit : Option R) → s.unfit content layer ≡ unfit → writes ≡ layer
  committed content layer writes reply is None unfit =
      let fits = lawful.fits content layer unfit in
      let both : Commit writes reply ≡ Commit layer fits.0 = sym is ∙ fits.1 in
      cc
  committed content layer writes reply is (Some reason) unfit =
      let never = lawful.unfits content layer reason unfit in
      let both : Commit writes reply ≡ Rejected never.0 = sym is ∙ never.1 in
      cc

  pub published : PublishCommitsTheLayer effect after s
  published first log place entry layer reply at is =
      let content = version after first log place in
      let same : entry.writes ≡ layer = committed content layer entry.writes reply is (s.unfit content layer) refl in
      let next : place + 1 ≡ suc place = omega arith in (
        same,
        ap (left_of layer) is,
        ap (version after first log) next ∙ version_next after first log place entry at ∙ ap (after content) same,
      )

  -- the writes of a list in turn are what they are as one
  from_joined : (content : C) (before : T) (kept : List T) → after content (fold s.join before kept) ≡ fold after (after content before) kept
  from_joined content before [] = refl
  from_joined content before (writes ∷ kept) =
      from_joined content (s.join before writes) kept ∙ ap (λ c. fold after c kept) (lawful.joined content before writes)

  in_turn : (content : C) (kept : List T) → after content (joined s kept) ≡ fold after content kept
  in_turn content kept = from_joined content s.none kept ∙ ap (λ c. fold after c kept) (lawful.nothing content)

  -- the same reply, and lists that mean the same layers
  kept_alike : (kept : List T) (found : Effect T R)
      → ((kept_in s (joined s kept) found).0 ≡ (added_in s kept found).0) × ((kept_in s (joined s kept) found).1 ≡ layer_of s (added_in s kept found).1)
  kept_alike kept (Commit writes reply) = (refl, ap Some (sym (fold_push s.join s.none kept writes)))
  kept_alike kept (Rejected reply) = (refl, refl)
  kept_alike kept (Read reply) = (refl, refl)

  fit_alike : (kept : List T) (unfit : Option R) (found : Effect T R)
      → ((where_fit s (joined s kept) unfit found).0 ≡ (added_where_fit s kept unfit found).0)
      × ((where_fit s (joined s kept) unfit found).1 ≡ layer_of s (added_where_fit s kept unfit found).1)
  fit_alike kept None found = kept_alike kept found
  fit_alike kept (Some reason) found = (refl, refl)

  left_alike : (kept : List T) (found : Effect T R) → left_of (joined s kept) found ≡ layer_of s (left_of kept found)
  left_alike kept (Commit writes reply) = refl
  left_alike kept (Rejected reply) = refl
  left_alike kept (Read reply) = refl

  alike : (content : C) (kept : Option (List T)) (act : Act K)
      → ((answer effect after s content (layer_of s kept) act).0 ≡ (answer_in_turn effect after s content kept act).0)
      × ((answer effect after s content (layer_of s kept) act).1 ≡ layer_of s (answer_in_turn effect after s content kept act).1)
  alike content None Open = (refl, refl)
  alike content None Publish = (refl, refl)
  alike content None Discard = (refl, refl)
  alike content None (Do command) = (refl, refl)
  alike content (Some kept) Open = (refl, refl)
  alike content (Some kept) Publish = (refl, left_alike kept (effect content (s.fixed (joined s kept))))
  alike content (Some kept) Discard = (refl, refl)
  alike content (Some kept) (Do command) =
      rw (in_turn content kept) (fit_alike kept (s.unfit content (joined s kept)) (effect (fold after content kept) command))

  layers_alike : (first : C) (log : List (Entry T)) (kept : Option (List T)) (told : List (Told R)) (acts : List (Act K))
      → layer_after (answer effect after s) after first log (layer_of s kept) told acts
      ≡ layer_of s (layer_after (answer_in_turn effect after s) after first log kept told acts)
  layers_alike first log kept [] acts = refl
  layers_alike first log kept (one ∷ told) [] = refl
  layers_alike first log kept (one ∷ told) (act ∷ acts) =
      let content = version after first log one.place in
      ap (λ (l : Option T). layer_after (answer effect after s) after first log l told acts) (alike content kept act).1
      ∙ layers_alike first log (answer_in_turn effect after s content kept act).1 told acts

  pub sandboxed : SandboxIsItsKeptWrites effect after s
  sandboxed = (λ first log told acts. layers_alike first log None told acts, in_turn, λ content kept act. (alike content kept act).0)
