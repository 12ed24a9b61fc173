-- An act of a user is answered: by the book, or by reading alone.
use Rattle.std.proofs.Common.{◌≡◌, ℕ, ◌<◌, Bool, false, List, [], ◌∷◌, length, Option, None, Some, refl, ap, sym, ◌∙◌, subst}
use Rattle.history.specs.declared.entry.Entry.{Entry}
use Rattle.history.specs.declared.told.Told.{Told}
use Rattle.history.specs.declared.effect.Effect.{Effect}
use Rattle.history.specs.declared.effect.Effect.TheVariants.{Commit, Rejected, Read}
use Rattle.history.specs.Version.{content_after}
use Rattle.history.specs.UserRun.{reply_of}
use Rattle.layers.specs.Layered.{effect_of}
use Rattle.sandbox.specs.declared.act.Act.{Act}
use Rattle.sandbox.specs.declared.act.Act.TheVariants.{Publish, Do}
use Rattle.sandbox.specs.Sandboxes.{Sandboxing, answer, left_of}
use Rattle.version_book.specs.declared.book.Settled.{Settled}
use Rattle.version_book.specs.Commits.{Decides}
use Rattle.version_book.specs.Lists.{GoesOn}
use Rattle.sessions.specs.Answers.{Sight, IsAnswered}
use Rattle.sessions.specs.Inside.Decided.{IsDecided, layer_left}

abbrev told_of : {R : Type 0} → Settled R → Told R
told_of settled = record { place = settled.place; reply = settled.reply }

-- the layer goes where it was committed
left_by : {L T R : Type 0} (layer : L) (found : Effect T R) (accepted : Bool) (log later : List (Entry T)) (user number : ℕ) → Decides found accepted log later user number
    → layer_left accepted (Some layer) ≡ left_of layer found
left_by layer (Commit writes reply) accepted log later user number decides = ap (λ b. layer_left b (Some layer)) decides.0
left_by layer (Rejected reply) accepted log later user number decides = ap (λ b. layer_left b (Some layer)) decides.0
left_by layer (Read reply) accepted log later user number decides = ap (λ b. layer_left b (Some layer)) decides.0

read_decides : {T R : Type 0} (found : Effect T R) (reply : R) (log : List (Entry T)) (user number : ℕ) → found ≡ Read reply → Decides found false log log user number
read_decides found reply log user number is = subst (λ f. Decides f false log log user number) (sym is) (refl, refl)

module _ {C K T R : Type 0} (effect : C → K → Effect T R) (after : C → T → C) (s : Sandboxing C K T R) (first : C) (before later : Sight T) (user number : ℕ) where
  -- a command without a sandbox
  pub answered_alone : (command : K) (settled : Settled R) → IsDecided effect after first before later user number command settled
      → IsAnswered (answer effect after s) after first before later user number None (Do command) (told_of settled) None
  answered_alone command settled decided = record {
    accepted = settled.accepted;
    settles = record {
      log = decided.settles.log;
      others = decided.settles.others;
      settles = record { place = decided.settles.settles.place; reply = decided.settles.settles.reply; decides = decided.settles.settles.decides };
    };
    is_next = refl;
    looked = decided.looked;
  }

  pub alone_answered : (layer : Option T) (command : K) (act : Act K) (settled : Settled R) (told : Told R) → layer ≡ None → act ≡ Do command → told ≡ told_of settled
      → IsDecided effect after first before later user number command settled → IsAnswered (answer effect after s) after first before later user number layer act told layer
  alone_answered layer command act settled told layer_is act_is told_is decided =
      subst (λ (l : Option T). IsAnswered (answer effect after s) after first before later user number l act told l) (sym layer_is)
      (subst (λ (k : Act K). IsAnswered (answer effect after s) after first before later user number None k told None) (sym act_is)
      (subst (λ (t : Told R). IsAnswered (answer effect after s) after first before later user number None (Do command) t None) (sym told_is) (answered_alone command settled decided)))

  -- PUBLISH with one
  pub answered_published : (layer : T) (command : K) (settled : Settled R) → command ≡ s.fixed layer → IsDecided effect after first before later user number command settled
      → IsAnswered (answer effect after s) after first before later user number (Some layer) Publish (told_of settled) (layer_left settled.accepted (Some layer))
  answered_published layer command settled same other =
      let decided = subst (λ (k : K). IsDecided effect after first before later user number k settled) same other in
      record {
        accepted = settled.accepted;
        settles = record {
          log = decided.settles.log;
          others = decided.settles.others;
          settles = record { place = decided.settles.settles.place; reply = decided.settles.settles.reply; decides = decided.settles.settles.decides };
        };
        is_next =
            left_by layer (effect (content_after after first decided.settles.log) (s.fixed layer)) settled.accepted decided.settles.log later.seen user number decided.settles.settles.decides;
        looked = decided.looked;
      }

  pub publish_answered : (layer : Option T) (kept : T) (act : Act K) (command : K) (settled : Settled R) (told : Told R) (next : Option T)
      → layer ≡ Some kept → act ≡ Publish → told ≡ told_of settled → next ≡ layer_left settled.accepted layer → command ≡ s.fixed kept
      → IsDecided effect after first before later user number command settled → IsAnswered (answer effect after s) after first before later user number layer act told next
  publish_answered layer kept act command settled told next layer_is act_is told_is next_is same decided =
      subst (λ (l : Option T). IsAnswered (answer effect after s) after first before later user number l act told next) (sym layer_is)
      (subst (λ (k : Act K). IsAnswered (answer effect after s) after first before later user number (Some kept) k told next) (sym act_is)
      (subst (λ (t : Told R). IsAnswered (answer effect after s) after first before later user number (Some kept) Publish t next) (sym told_is)
      (subst (λ (n : Option T). IsAnswered (answer effect after s) after first before later user number (Some kept) Publish (told_of settled) n)
      (sym (next_is ∙ ap (layer_left settled.accepted) layer_is)) (answered_published kept command settled same decided))))

  -- an act that only reads
  pub answered_read : (layer next : Option T) (act : Act K) (told : Told R) → GoesOn before.seen later.seen (user ∷ []) → before.looks < later.looks → told.place ≡ length later.seen
      → answer effect after s (content_after after first later.seen) layer act ≡ (Read told.reply, next)
      → IsAnswered (answer effect after s) after first before later user number layer act told next
  answered_read layer next act told goes looked place is =
      let found : effect_of (answer effect after s) (content_after after first later.seen) (layer, act) ≡ Read told.reply = ap (λ (p : Effect T R × Option T). p.0) is in
      record {
        accepted = false;
        settles = record {
          log = later.seen;
          others = goes;
          settles = record {
            place = place;
            reply = sym (ap reply_of found);
            decides = read_decides (effect_of (answer effect after s) (content_after after first later.seen) (layer, act)) told.reply later.seen user number found;
          };
        };
        is_next = sym (ap (λ (p : Effect T R × Option T). p.1) is);
        looked = looked;
      }
