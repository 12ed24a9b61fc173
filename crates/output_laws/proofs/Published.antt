-- What a user sees in a sandbox is what everyone sees after its PUBLISH.
use Rattle.std.proofs.Common.{◌≡◌, ◌∙◌, refl, sym, ap, subst, ℕ, ◌+◌, ℤ, List, take, Option, Some, None, Result, Ok, Err, arith}
use Rattle.std.specs.Arc.{arc_value}
use Rattle.std.specs.List.{slice_get}
use Rattle.history.specs.declared.entry.Entry.{Entry}
use Rattle.history.specs.declared.told.Told.{Told}
use Rattle.history.specs.declared.effect.Effect.TheVariants.{Commit, Rejected}
use Rattle.history.specs.Version.{version}
use Rattle.history.specs.UserRun.{reply_of}
use Rattle.history.proofs.Histories.{told_entry}
use Rattle.layers.specs.Layered.{effect_of, layered, layer_after, IsLayeredHistoryOf}
use Rattle.layers.proofs.Histories.{layered_runs}
use Rattle.layers.proofs.Runs.{layer_before}
use Rattle.lists.proofs.Found.{some_same}
use Rattle.rule_model.specs.BoundModel.{BoundModel}
use Rattle.sandbox.specs.Laws.{PublishCommitsTheLayer}
use Rattle.sandbox.specs.Sandboxes.{IsSandboxing, kept_in, where_fit}
use Rattle.sandbox.specs.declared.act.Act.{Act}
use Rattle.sandbox.specs.declared.act.Act.TheVariants.{Publish, Do}
use Rattle.user_session.specs.Content.{opening, after}
use Rattle.user_session.specs.Layers.{answer, sandbox, unfit}
use Rattle.user_session.specs.Planning.{effect, fixed_effect, get_effect, named_cell, table_effect, trace_effect}
use Rattle.user_session.specs.declared.command.PlanCommand.{PlanCommand}
use Rattle.user_session.specs.declared.command.PlanCommand.TheVariants.{Put, Get, Load, View, Spread, Trace, Fixed}
use Rattle.user_session.specs.declared.content.Content.{Content}
use Rattle.view_query.specs.Binding.{bound}
use Rattle.view_query.specs.declared.fault.ViewFault.{ViewFault}
use Rattle.view_query.specs.declared.shape.View as views
use Rattle.output_laws.specs.Laws.{IsQuestion, PublishShowsWhatTheSandboxShowed}

-- ---- a question has the same reply where a sandbox is open

get_reply : (layer : List (ℕ × ℤ)) (content : Content) (named : Option ℕ) → reply_of (kept_in sandbox layer (get_effect content named)).0 ≡ reply_of (get_effect content named)
get_reply layer content None = refl
get_reply layer content (Some cell) = refl

table_reply : (layer : List (ℕ × ℤ)) (content : Content) (meant : Result views.View ViewFault)
    → reply_of (kept_in sandbox layer (table_effect content meant)).0 ≡ reply_of (table_effect content meant)
table_reply layer content (Ok view) = refl
table_reply layer content (Err fault) = refl

trace_reply : (layer : List (ℕ × ℤ)) (content : Content) (files : List (List ℕ)) (named : Option ℕ)
    → reply_of (kept_in sandbox layer (trace_effect content files named)).0 ≡ reply_of (trace_effect content files named)
trace_reply layer content files None = refl
trace_reply layer content files (Some cell) = refl

pub question_reply : (layer : List (ℕ × ℤ)) (content : Content) (question : PlanCommand) → IsQuestion question
    → reply_of (kept_in sandbox layer (effect content question)).0 ≡ reply_of (effect content question)
question_reply layer content (Put text number) is = absurd is
question_reply layer content (Get text) is = get_reply layer content (named_cell content.model text)
question_reply layer content (Load job script) is = absurd is
question_reply layer content (View text) is = table_reply layer content (bound content.model.space text)
question_reply layer content (Spread text amount how) is = absurd is
question_reply layer content (Trace text files) is = trace_reply layer content (arc_value files) (named_cell content.model text)
question_reply layer content (Fixed writes) is = absurd is

-- ---- what was committed could be had

not_both : (content : Content) (layer writes : List (ℕ × ℤ)) (reply other : List ℕ) → fixed_effect content layer ≡ Commit writes reply → fixed_effect content layer ≡ Rejected other → ⊥
not_both content layer writes reply other is was = absurd (let clash = sym is ∙ was in cc)

was_fit : IsSandboxing effect after sandbox → (content : Content) (layer writes : List (ℕ × ℤ)) (reply : List ℕ) → fixed_effect content layer ≡ Commit writes reply → unfit content layer ≡ None
was_fit sandboxing content layer writes reply is = by (unfit content layer) refl
  where
    by : (reason : Option (List ℕ)) → unfit content layer ≡ reason → reason ≡ None
    by None found = refl
    by (Some reason) found =
        let rejected = sandboxing.unfits content layer reason found in
        absurd (not_both content layer writes reply rejected.0 is rejected.1)

pub shown : IsSandboxing effect after sandbox → PublishCommitsTheLayer effect after sandbox → PublishShowsWhatTheSandboxShowed
shown sandboxing commits model users told log index commands own number one layer entry history are are_told is_publish is_one is_kept is_entry is_user is_number =
    let first = opening model in
    let run = (layered_runs answer after first log None users told history).1 index commands own are are_told in
    let pairs = layered answer after first log None own commands in
    let answered = told_entry (effect_of answer) after first log (index + 1) one.place entry is_entry is_user 1 0 own pairs run.1 (omega arith) in
    let same : answered.by.index ≡ number = omega (arith, answered.is_number, is_number) in
    let here = (layer_before answer after first log None own commands number one Publish is_one is_publish).0 in
    let pair : answered.by.command ≡ (Some layer, Publish) =
    some_same (sym answered.by.is_command ∙ ap (slice_get pairs) same ∙ here) ∙ ap (λ (l : Option (List (ℕ × ℤ))). (l, Publish)) is_kept in
    let before = version after first log one.place in
    let accepted : fixed_effect before layer ≡ Commit entry.writes answered.by.reply =
    ap (effect_of answer before) (sym pair) ∙ answered.by.is_accepted in
    let published = commits first log one.place entry layer answered.by.reply is_entry accepted in (
      published.0,
      published.2,
      λ question asks.
          ap (λ (content : Content). reply_of (effect content question)) published.2
          ∙ sym (question_reply layer (after before layer) question asks)
          ∙ ap (λ (reason : Option (List ℕ)). reply_of (where_fit sandbox layer reason (effect (after before layer) question)).0) (sym (was_fit sandboxing before layer entry.writes answered.by.reply accepted)),
    )
