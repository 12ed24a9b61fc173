-- What a sandbox keeps is writes in turn, and what PUBLISH does with them.
use Rattle.std.proofs.Common.{◌≡◌, ◌∙◌, refl, ap, sym, subst, true, ℕ, ℤ, List, ◌++◌, Option, Some, None}
use Rattle.std.specs.Option.{option_map}
use Rattle.std.proofs.lemmas.List.Elements.{All-append}
use Rattle.std.proofs.lemmas.List.Sums.{fold-append}
use Rattle.cell_reader.specs.Limits.{IsWithinLimits}
use Rattle.cell_store.specs.declared.entry.Entry.{Entry}
use Rattle.cell_store.specs.Entries.{after_writes, with_write}
use Rattle.cell_versions.specs.Versions.{AreLeafWrites}
use Rattle.cell_writes.specs.Writes.{last_writes}
use Rattle.cube_space.specs.Cells.{IsCell, is_leaf_cell}
use Rattle.history.specs.declared.effect.Effect.TheVariants.{Commit, Rejected}
use Rattle.sandbox.specs.Sandboxes.{IsSandboxing}
use Rattle.user_session.specs.Content.{after}
use Rattle.user_session.specs.Layers.{sandbox, unfit}
use Rattle.user_session.specs.Planning.{effect, misfit, unless_reason}
use Rattle.user_session.specs.Replies.{reply_text}
use Rattle.user_session.specs.declared.content.Content.{Content}
use Rattle.user_session.specs.declared.reply.CommandReason.{CommandReason}
use Rattle.user_session.specs.declared.reply.Reply.TheVariants as replies
use Rattle.user_session.proofs.LastWrites.{each_last, leave_the_same}
use Rattle.user_session.proofs.Limits.{fits-both, fits-leaves, fits-limits}
use Rattle.user_session.proofs.Within.{AreWithin}

in_turn : (stored : List Entry) (first second : List (ℕ × ℤ)) → after_writes stored (last_writes (first ++ second)) ≡ after_writes (after_writes stored first) second
in_turn stored first second =
    leave_the_same stored (first ++ second)
    ∙ fold-append (λ (before : List Entry) (write : ℕ × ℤ). with_write before write.0 write.1) stored first second

kept_joined : (content : Content) (first second : List (ℕ × ℤ)) → after content (last_writes (first ++ second)) ≡ after (after content first) second
kept_joined content first second =
    let of_stored : List Entry → Content = λ stored. record { model = content.model; stored = stored } in
    ap of_stored (in_turn content.stored first second)

-- a reply is had from a reason, and from none
replied : (reason : Option CommandReason) → option_map (λ reason. reply_text (replies.Refused reason)) reason ≡ None → reason ≡ None
replied None is = refl
replied (Some reason) is = absurd (cc)

published : (reason : Option CommandReason) (layer : List (ℕ × ℤ)) → reason ≡ None → (reply : List ℕ) × (unless_reason reason layer ≡ Commit layer reply)
published None layer is = (_, refl)
published (Some reason) layer is = absurd (cc)

refused : (found : Option CommandReason) (layer : List (ℕ × ℤ)) (reason : List ℕ) → option_map (λ reason. reply_text (replies.Refused reason)) found ≡ Some reason
    → (reply : List ℕ) × (unless_reason found layer ≡ Rejected reply)
refused None layer reason is = absurd (cc)
refused (Some found) layer reason is = (_, refl)

pub sandbox_is : IsSandboxing effect after sandbox
sandbox_is = record {
  nothing = λ content. refl;
  joined = kept_joined;
  fits = λ content layer is. published (misfit content layer) layer (replied (misfit content layer) is);
  unfits = λ content layer reason is. refused (misfit content layer) layer reason is;
}

-- a version with a layer over it, after writes that are accepted there, is one with the layer that has these writes too
pub goes_on : (private next below : Content) (layer writes : List (ℕ × ℤ)) → AreWithin private writes → next ≡ after private writes → private ≡ after below layer → unfit below layer ≡ None
    → (unfit below (last_writes (layer ++ writes)) ≡ None) × (next ≡ after below (last_writes (layer ++ writes)))
goes_on private next below layer writes accepted is same fitted =
    let fits : misfit below layer ≡ None = replied (misfit below layer) fitted in
    let within : AreWithin (after below layer) writes = subst (λ c. AreWithin c writes) same accepted in
    let leaves : AreLeafWrites below.model.space (last_writes (layer ++ writes)) =
    each_last (IsLeaf below) (layer ++ writes) (All-append (λ write. IsLeaf below write.0) layer writes (fits-leaves below layer fits) within.leaves) in
    let limits : IsWithinLimits below.model (after_writes below.stored (last_writes (layer ++ writes))) =
    subst (IsWithinLimits below.model) (sym (in_turn below.stored layer writes)) (within.within (fits-limits below layer fits)) in (
      ap (option_map (λ reason. reply_text (replies.Refused reason))) (fits-both below (last_writes (layer ++ writes)) leaves limits),
      is ∙ ap (λ c. after c writes) same ∙ sym (kept_joined below layer writes),
    )
  where
    IsLeaf : Content → ℕ → Type 0
    IsLeaf content cell = IsCell content.model.space cell × (is_leaf_cell content.model.space cell ≡ true)
