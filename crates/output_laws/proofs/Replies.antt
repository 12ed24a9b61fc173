-- The replies to one act on any two versions of a model, whatever its user's sandbox keeps, end alike.
use Rattle.std.proofs.Common.{◌≡◌, ℕ, zero, suc, ◌==◌, ℤ, true, not, List, [], ◌∷◌, ◌++◌, length, take, drop, codes, decimal, get_or, Option, Some, None, unwrap_or, Result, Ok, Err, ◌⊎◌, inl, inr, refl, sym, ap, ◌∙◌, subst, arith}
use Rattle.std.specs.Arc.{arc_value}
use Rattle.std.specs.Option.{option_map}
use Rattle.std.specs.declared.alloc.Global.{Global}
use Rattle.std.specs.declared.sync.Arc.{Arc}
use Rattle.std.proofs.lemmas.Bool.{and_parts}
use Rattle.history.specs.declared.entry.Entry.{Entry}
use Rattle.history.specs.declared.effect.Effect.TheVariants.{Commit, Rejected, Read}
use Rattle.history.specs.Version.{content_after, version}
use Rattle.history.specs.UserRun.{reply_of}
use Rattle.cell_reader.specs.WritePermission.{why_closed}
use Rattle.cell_reader.specs.declared.write_permission.Closed.{Closed}
use Rattle.cell_reader.specs.declared.write_permission.Closed.TheVariants as closed
use Rattle.cell_spread.specs.Spread.{refusal_of, writes_of as shares_of}
use Rattle.cell_spread.specs.declared.fault.SpreadFault.{SpreadFault}
use Rattle.cell_spread.specs.declared.fault.SpreadFault.TheVariants as spreads
use Rattle.cell_store.specs.declared.entry.Entry as stored
use Rattle.cell_store.specs.Entries.{after_writes}
use Rattle.cell_writes.specs.Writes.{last_writes}
use Rattle.cube_space.specs.Cells.{IsSpace}
use Rattle.dim_name.specs.Bytes.{newline}
use Rattle.layers.specs.Layered.{effect_of}
use Rattle.load_cells.specs.Loads.{store_of}
use Rattle.rule_model.specs.BoundModel.{BoundModel}
use Rattle.rule_model.specs.Conditions.{AreRules}
use Rattle.sandbox.specs.Sandboxes.{kept_in, where_fit}
use Rattle.sandbox.specs.declared.act.Act.{Act}
use Rattle.sandbox.specs.declared.act.Act.TheVariants as acts
use Rattle.script_bound.specs.declared.script.BoundScript.{BoundScript}
use Rattle.script_run.specs.Load.{load, ran_of, writes_of}
use Rattle.script_run.specs.declared.ran.Ran.{Ran}
use Rattle.script_run.specs.declared.ran.Ran.TheVariants.{Done, Rejected as Stopped}
use Rattle.trace_text.specs.TraceText.{reply_text as traced_text}
use Rattle.trace_text.proofs.Ends.{replies_end as traced_end}
use Rattle.user_session.specs.Content.{opening, after}
use Rattle.user_session.specs.Layers.{answer, sandbox, unfit}
use Rattle.user_session.specs.Planning.{effect, fixed_effect, misfit, named_cell, passed_limit, put_effect, get_effect, load_effect, spread_effect, how_of, table_effect, trace_effect, view_effect, ended_effect, unless_closed, unless_fault, unless_reason, write_effect, committed, value_at, PlanEffect}
use Rattle.user_session.specs.Replies.{reason_text, reply_text, fault_text, spread_fault_text}
use Rattle.user_session.specs.declared.command.PlanCommand.{PlanCommand}
use Rattle.user_session.specs.declared.command.PlanCommand.TheVariants.{Put, Get, Load, View, Spread, Trace, Fixed}
use Rattle.user_session.specs.declared.content.Content.{Content}
use Rattle.user_session.specs.declared.reply.CommandReason.{CommandReason}
use Rattle.user_session.specs.declared.reply.CommandReason.TheVariants as reasons
use Rattle.user_session.specs.declared.reply.Reply.TheVariants as replies
use Rattle.user_text.specs.Jobs.{rows_in}
use Rattle.user_session.proofs.Within.{named-cell}
use Rattle.user_text.specs.declared.command.CellText.{CellText}
use Rattle.user_text.specs.declared.command.SpreadWord.{SpreadWord}
use Rattle.user_text.specs.declared.command.ViewText.{ViewText}
use Rattle.user_text.specs.declared.load_job.LoadJob.{LoadJob}
use Rattle.view_query.specs.Binding.{bound}
use Rattle.view_query.specs.declared.fault.ViewFault.{ViewFault}
use Rattle.view_query.specs.declared.fault.ViewFault.TheVariants as faults
use Rattle.view_query.specs.declared.shape.View as views
use Rattle.view_query.proofs.BoundFacts.{answers_view}
use Rattle.output_laws.specs.Laws.{IsQuestion}
use Rattle.output_laws.proofs.Lines.{lacks, EndAlike, plain_ends, same_ends}
use Rattle.cell_names.proofs.Plain.{lacks-append}
use Rattle.trace_text.proofs.Plain.{decimal_lacks, printed_plain}
use Rattle.output_laws.proofs.LoadReplies.{loads_end, stopped_plain}
use Rattle.output_laws.proofs.Published.{question_reply}
use Rattle.output_laws.proofs.Tables.{table_apart, tables_end}

-- ---- replies in one line

abbrev IsPlain : PlanEffect → Type 0
IsPlain found = lacks newline (reply_of found) ≡ true

reason_plain : (reason : CommandReason) → lacks newline (codes "rejected " ++ reason_text reason) ≡ true
reason_plain reasons.UnknownName = refl
reason_plain reasons.NotALeaf = refl
reason_plain reasons.RuleDerived = refl
reason_plain reasons.StoreLimit = refl
reason_plain reasons.FedLimit = refl
reason_plain reasons.NoSandbox = refl
reason_plain reasons.SandboxOpen = refl

refused_plain : (reason : CommandReason) → lacks newline (codes "refused " ++ reason_text reason) ≡ true
refused_plain reasons.UnknownName = refl
refused_plain reasons.NotALeaf = refl
refused_plain reasons.RuleDerived = refl
refused_plain reasons.StoreLimit = refl
refused_plain reasons.FedLimit = refl
refused_plain reasons.NoSandbox = refl
refused_plain reasons.SandboxOpen = refl

committed_plain : (writes : List (ℕ × ℤ)) → IsPlain (committed writes)
committed_plain writes = lacks-append newline (codes "committed ") (decimal (length writes)) refl (decimal_lacks newline (length writes) (omega arith))

unless_plain : (reason : Option CommandReason) (writes : List (ℕ × ℤ)) → IsPlain (unless_reason reason writes)
unless_plain None writes = committed_plain writes
unless_plain (Some reason) writes = reason_plain reason

write_plain : (content : Content) (writes : List (ℕ × ℤ)) → IsPlain (write_effect content writes)
write_plain content writes = unless_plain (passed_limit content.model (after_writes content.stored writes)) writes

fixed_plain : (content : Content) (writes : List (ℕ × ℤ)) → IsPlain (fixed_effect content writes)
fixed_plain content writes = unless_plain (misfit content writes) writes

closed_plain : (o : Option Closed) (found : PlanEffect) → IsPlain found → IsPlain (unless_closed o found)
closed_plain None found plain = plain
closed_plain (Some closed.NotALeaf) found plain = refl
closed_plain (Some closed.RuleDerived) found plain = refl

put_plain : (content : Content) (o : Option ℕ) (number : ℤ) → IsPlain (put_effect content o number)
put_plain content None number = refl
put_plain content (Some cell) number =
    closed_plain (why_closed content.model cell) (write_effect content ((cell, number) ∷ [])) (write_plain content ((cell, number) ∷ []))

spread_fault_plain : (fault : SpreadFault) → lacks newline (codes "rejected " ++ spread_fault_text fault) ≡ true
spread_fault_plain spreads.IsALeaf = refl
spread_fault_plain (spreads.SpreadLimit count) = refl
spread_fault_plain spreads.Weighted = refl
spread_fault_plain spreads.RuleDerived = refl
spread_fault_plain spreads.NothingThere = refl
spread_fault_plain spreads.OverWrite = refl
spread_fault_plain spreads.Memory = refl

unspread_plain : (o : Option SpreadFault) (found : PlanEffect) → IsPlain found → IsPlain (unless_fault o found)
unspread_plain None found plain = plain
unspread_plain (Some fault) found plain = spread_fault_plain fault

spread_plain : (content : Content) (o : Option ℕ) (amount : ℤ) (how : SpreadWord) → IsPlain (spread_effect content o amount how)
spread_plain content None amount how = refl
spread_plain content (Some cell) amount how =
    let shares = shares_of content.model.space content.stored cell amount (how_of how) in
    unspread_plain (refusal_of content.model content.stored cell amount (how_of how)) (write_effect content shares) (write_plain content shares)

get_plain : (content : Content) (o : Option ℕ) → IsPlain (get_effect content o)
get_plain content None = refl
get_plain content (Some cell) = printed_plain (value_at content cell)

-- a load that passes over no records
load_plain : (content : Content) (job : LoadJob) (script : BoundScript) → job.rejects ≡ None → IsPlain (load_effect content job script)
load_plain content job script says =
    let outcome = load script job.params job.decimal (unwrap_or job.rejects 0) (rows_in job) (store_of content.model content.stored) [] in
    subst (λ most. IsPlain (ended_effect most (ran_of outcome) (writes_of outcome))) (sym says) (ended (ran_of outcome) (writes_of outcome))
  where
    ended : (ran : Ran) (writes : List (ℕ × ℤ)) → IsPlain (ended_effect None ran writes)
    ended (Done rejects) writes = lacks-append newline (reply_text (replies.Committed (length (last_writes writes)))) [] (committed_plain (last_writes writes)) refl
    ended (Stopped section row statement reason) writes = stopped_plain section row statement reason

-- ---- replies in a sandbox

lacks_drop : (n : ℕ) (text : List ℕ) → lacks newline text ≡ true → lacks newline (drop n text) ≡ true
lacks_drop zero text plain = plain
lacks_drop (suc n) [] plain = refl
lacks_drop (suc n) (byte ∷ text) plain = lacks_drop n text (and_parts (not (byte == newline)) (lacks newline text) plain).1

-- a command's reply in one line is in one line in a sandbox too
kept_in_plain : (layer : List (ℕ × ℤ)) (found : PlanEffect) → IsPlain found → IsPlain (kept_in sandbox layer found).0
kept_in_plain layer (Commit writes reply) plain = lacks-append newline (codes "kept") (drop (length (codes "committed")) reply) refl (lacks_drop (length (codes "committed")) reply plain)
kept_in_plain layer (Rejected reply) plain = plain
kept_in_plain layer (Read reply) plain = plain

fit_plain : (layer : List (ℕ × ℤ)) (reason : Option CommandReason) (found : PlanEffect) → IsPlain found
    → IsPlain (where_fit sandbox layer (option_map (λ reason. reply_text (replies.Refused reason)) reason) found).0
fit_plain layer None found plain = kept_in_plain layer found plain
fit_plain layer (Some reason) found plain = refused_plain reason

do_plain : (command : PlanCommand) → ((content : Content) → IsPlain (effect content command)) → (content : Content) (layer : Option (List (ℕ × ℤ)))
    → IsPlain (answer content layer (acts.Do command)).0
do_plain command plain content None = plain content
do_plain command plain content (Some layer) = fit_plain layer (misfit content layer) (effect (after content layer) command) (plain (after content layer))

-- ---- questions

content_of : BoundModel → List stored.Entry → Content
content_of model cells = record { model = model; stored = cells }

-- the reply to a question on some content of the model, or why the sandbox isn't to be had
abbrev IsToldOn : BoundModel → PlanCommand → List ℕ → Type 0
IsToldOn model question reply =
    ((cells : List stored.Entry) × (reply ≡ reply_of (effect (content_of model cells) question)))
    ⊎ ((reason : CommandReason) × (reply ≡ codes "refused " ++ reason_text reason))

-- a question only reads, so its reply in a sandbox is that on the content with the layer
fit_told : (model : BoundModel) (cells : List stored.Entry) (layer : List (ℕ × ℤ)) (question : PlanCommand) → IsQuestion question → (reason : Option CommandReason)
    → IsToldOn model question (reply_of (where_fit sandbox layer (option_map (λ reason. reply_text (replies.Refused reason)) reason) (effect (content_of model cells) question)).0)
fit_told model cells layer question asks None = inl (cells, question_reply layer (content_of model cells) question asks)
fit_told model cells layer question asks (Some reason) = inr (reason, refl)

told_on : (model : BoundModel) (cells : List stored.Entry) (layer : Option (List (ℕ × ℤ))) (question : PlanCommand) → IsQuestion question
    → IsToldOn model question (reply_of (answer (content_of model cells) layer (acts.Do question)).0)
unfolding content_of
told_on model cells None question asks = inl (cells, refl)
told_on model cells (Some layer) question asks = fit_told model (after_writes cells layer) layer question asks (misfit (content_of model cells) layer)

turned : (a b : List ℕ) → EndAlike a b → EndAlike b a
turned a b alike x y e = let ends = alike y x (sym e) in (sym ends.0, sym ends.1)

-- a question whose replies on contents of one model end alike, also where one is a refusal
record RepliesEndAlike (model : BoundModel) (question : PlanCommand) : Type 0 where
  told : (cells others : List stored.Entry) → EndAlike (reply_of (effect (content_of model cells) question)) (reply_of (effect (content_of model others) question))
  refused : (cells : List stored.Entry) (reason : CommandReason) → EndAlike (reply_of (effect (content_of model cells) question)) (codes "refused " ++ reason_text reason)

questions_end : (model : BoundModel) (question : PlanCommand) → RepliesEndAlike model question → (a b : List ℕ) → IsToldOn model question a → IsToldOn model question b → EndAlike a b
questions_end model question ends a b (inl one) (inl two) =
    subst (λ l. EndAlike l b) (sym one.1) (subst (λ l. EndAlike (reply_of (effect (content_of model one.0) question)) l) (sym two.1) (ends.told one.0 two.0))
questions_end model question ends a b (inl one) (inr two) =
    subst (λ l. EndAlike l b) (sym one.1) (subst (λ l. EndAlike (reply_of (effect (content_of model one.0) question)) l) (sym two.1) (ends.refused one.0 two.0))
questions_end model question ends a b (inr one) (inl two) =
    turned b a (subst (λ l. EndAlike l a) (sym two.1) (subst (λ l. EndAlike (reply_of (effect (content_of model two.0) question)) l) (sym one.1) (ends.refused two.0 one.0)))
questions_end model question ends a b (inr one) (inr two) =
    plain_ends a b (rw one.1 (refused_plain one.0)) (rw two.1 (refused_plain two.0))

question_ends : (model : BoundModel) (question : PlanCommand) → IsQuestion question → RepliesEndAlike model question → (cells others : List stored.Entry) (layer more : Option (List (ℕ × ℤ)))
    → EndAlike (reply_of (answer (content_of model cells) layer (acts.Do question)).0) (reply_of (answer (content_of model others) more (acts.Do question)).0)
question_ends model question asks ends cells others layer more =
    questions_end model question ends (reply_of (answer (content_of model cells) layer (acts.Do question)).0) (reply_of (answer (content_of model others) more (acts.Do question)).0)
    (told_on model cells layer question asks) (told_on model others more question asks)

-- ---- tables

-- on contents of one model a view has tables that end alike, or is refused for one cause
views_end : (model : BoundModel) → IsSpace model.space → (text : ViewText) (cells others : List stored.Entry)
    → EndAlike (reply_of (view_effect (content_of model cells) text)) (reply_of (view_effect (content_of model others) text))
unfolding content_of
views_end model is text cells others = by (bound model.space text) refl
  where
    by : (meant : Result views.View ViewFault) → bound model.space text ≡ meant
        → EndAlike (reply_of (table_effect (record { model = model; stored = cells }) meant)) (reply_of (table_effect (record { model = model; stored = others }) meant))
    by (Ok view) found =
        tables_end model.space is view (answers_view model.space text (Ok view) found).few
        (value_at (record { model = model; stored = cells })) (value_at (record { model = model; stored = others }))
    by (Err fault) found = same_ends (codes "refused " ++ fault_text fault) (codes "refused " ++ fault_text fault) refl

fault_plain : (fault : ViewFault) → lacks newline (codes "refused " ++ fault_text fault) ≡ true
fault_plain faults.UnknownName = refl
fault_plain faults.WrongCount = refl
fault_plain (faults.ViewLimit count) = refl
fault_plain faults.Memory = refl

-- no table begins as a refusal does
view_refusal : (model : BoundModel) (text : ViewText) (cells : List stored.Entry) (reason : CommandReason)
    → EndAlike (reply_of (view_effect (content_of model cells) text)) (codes "refused " ++ reason_text reason)
unfolding content_of
view_refusal model text cells reason = by (bound model.space text)
  where
    by : (meant : Result views.View ViewFault) → EndAlike (reply_of (table_effect (record { model = model; stored = cells }) meant)) (codes "refused " ++ reason_text reason)
    by (Ok view) = table_apart model.space view (value_at (record { model = model; stored = cells })) (reason_text reason)
    by (Err fault) = plain_ends (codes "refused " ++ fault_text fault) (codes "refused " ++ reason_text reason) (fault_plain fault) (refused_plain reason)

view_ends : (model : BoundModel) → IsSpace model.space → (text : ViewText) → RepliesEndAlike model (View text)
view_ends model is text = record { told = views_end model is text; refused = view_refusal model text }

-- ---- traces

-- on contents of one model a cell has traces that end alike, or there is no such cell
traces_end : (model : BoundModel) → AreRules model.space model.rules → (text : CellText) (names : List (List ℕ)) (cells others : List stored.Entry)
    → EndAlike (reply_of (trace_effect (content_of model cells) names (named_cell model text))) (reply_of (trace_effect (content_of model others) names (named_cell model text)))
unfolding content_of
traces_end model rules text names cells others = by (named_cell model text) refl
  where
    by : (named : Option ℕ) → named_cell model text ≡ named
        → EndAlike (reply_of (trace_effect (record { model = model; stored = cells }) names named)) (reply_of (trace_effect (record { model = model; stored = others }) names named))
    by None found = same_ends (codes "refused " ++ reason_text reasons.UnknownName) (codes "refused " ++ reason_text reasons.UnknownName) refl
    by (Some cell) found = traced_end model names cell rules (named-cell model.space text.cube text.elements cell found) cells others

-- no trace begins as a refusal does: a trace begins with a `t`, and a refusal with an `r`
trace_apart : (model : BoundModel) (cells : List stored.Entry) (names : List (List ℕ)) (cell : ℕ) (reason : List ℕ) → EndAlike (traced_text model cells names cell) (codes "refused " ++ reason)
unfolding traced_text
trace_apart model cells names cell reason x y e =
    let first_byte : 116 ≡ 114 = ap (λ (text : List ℕ). get_or text 0 0) e in
    absurd (omega (arith, first_byte))

trace_refusal : (model : BoundModel) (text : CellText) (names : List (List ℕ)) (cells : List stored.Entry) (reason : CommandReason)
    → EndAlike (reply_of (trace_effect (content_of model cells) names (named_cell model text))) (codes "refused " ++ reason_text reason)
unfolding content_of
trace_refusal model text names cells reason = by (named_cell model text)
  where
    by : (named : Option ℕ) → EndAlike (reply_of (trace_effect (record { model = model; stored = cells }) names named)) (codes "refused " ++ reason_text reason)
    by None = plain_ends (codes "refused " ++ reason_text reasons.UnknownName) (codes "refused " ++ reason_text reason) (refused_plain reasons.UnknownName) (refused_plain reason)
    by (Some cell) = trace_apart model cells names cell (reason_text reason)

trace_ends : (model : BoundModel) → AreRules model.space model.rules → (text : CellText) (files : Arc (List (List ℕ)) Global) → RepliesEndAlike model (Trace text files)
unfolding content_of
trace_ends model rules text files = record { told = traces_end model rules text (arc_value files); refused = trace_refusal model text (arc_value files) }

-- ---- versions

-- no writes change the model
model_kept : (content : Content) (log : List (Entry (List (ℕ × ℤ)))) → (content_after after content log).model ≡ content.model
model_kept content [] = refl
model_kept content (entry ∷ log) = model_kept (after content entry.writes) log

of_model : (model : BoundModel) (content : Content) → content.model ≡ model → content ≡ content_of model content.stored
unfolding content_of
of_model model content same = ap (λ m. content_of m content.stored) same

-- commands whose replies are in one line
in_one_line : (command : PlanCommand) → ((content : Content) → IsPlain (effect content command)) → (one two : Content) (layer more : Option (List (ℕ × ℤ)))
    → EndAlike (reply_of (answer one layer (acts.Do command)).0) (reply_of (answer two more (acts.Do command)).0)
in_one_line command plain one two layer more =
    plain_ends (reply_of (answer one layer (acts.Do command)).0) (reply_of (answer two more (acts.Do command)).0) (do_plain command plain one layer) (do_plain command plain two more)

open_plain : (content : Content) (layer : Option (List (ℕ × ℤ))) → IsPlain (answer content layer acts.Open).0
open_plain content None = refl
open_plain content (Some layer) = refl

publish_plain : (content : Content) (layer : Option (List (ℕ × ℤ))) → IsPlain (answer content layer acts.Publish).0
publish_plain content None = refl
publish_plain content (Some layer) = fixed_plain content layer

discard_plain : (content : Content) (layer : Option (List (ℕ × ℤ))) → IsPlain (answer content layer acts.Discard).0
discard_plain content None = refl
discard_plain content (Some layer) = refl

on_one_model : (model : BoundModel) → IsSpace model.space → AreRules model.space model.rules → (act : Act PlanCommand) (cells others : List stored.Entry) (layer more : Option (List (ℕ × ℤ)))
    → EndAlike (reply_of (answer (content_of model cells) layer act).0) (reply_of (answer (content_of model others) more act).0)
on_one_model model is rules acts.Open cells others layer more =
    plain_ends (reply_of (answer (content_of model cells) layer acts.Open).0) (reply_of (answer (content_of model others) more acts.Open).0)
    (open_plain (content_of model cells) layer) (open_plain (content_of model others) more)
on_one_model model is rules acts.Publish cells others layer more =
    plain_ends (reply_of (answer (content_of model cells) layer acts.Publish).0) (reply_of (answer (content_of model others) more acts.Publish).0)
    (publish_plain (content_of model cells) layer) (publish_plain (content_of model others) more)
on_one_model model is rules acts.Discard cells others layer more =
    plain_ends (reply_of (answer (content_of model cells) layer acts.Discard).0) (reply_of (answer (content_of model others) more acts.Discard).0)
    (discard_plain (content_of model cells) layer) (discard_plain (content_of model others) more)
on_one_model model is rules (acts.Do (Put text number)) cells others layer more =
    in_one_line (Put text number) (λ content. put_plain content (named_cell content.model text) number) (content_of model cells) (content_of model others) layer more
on_one_model model is rules (acts.Do (Get text)) cells others layer more =
    in_one_line (Get text) (λ content. get_plain content (named_cell content.model text)) (content_of model cells) (content_of model others) layer more
on_one_model model is rules (acts.Do (Load job script)) cells others layer more =
    by job.rejects refl
  where
    by : (most : Option ℕ) → job.rejects ≡ most → EndAlike (reply_of (answer (content_of model cells) layer (acts.Do (Load job script))).0) (reply_of (answer (content_of model others) more (acts.Do (Load job script))).0)
    by None says = in_one_line (Load job script) (λ content. load_plain content job (arc_value script) says) (content_of model cells) (content_of model others) layer more
    by (Some most) says = loads_end job script most says (content_of model cells) (content_of model others) layer more
on_one_model model is rules (acts.Do (View text)) cells others layer more =
    question_ends model (View text) tt (view_ends model is text) cells others layer more
on_one_model model is rules (acts.Do (Spread text amount how)) cells others layer more =
    in_one_line (Spread text amount how) (λ content. spread_plain content (named_cell content.model text) amount how) (content_of model cells) (content_of model others) layer more
on_one_model model is rules (acts.Do (Trace text files)) cells others layer more =
    question_ends model (Trace text files) tt (trace_ends model rules text files) cells others layer more
on_one_model model is rules (acts.Do (Fixed writes)) cells others layer more =
    in_one_line (Fixed writes) (λ content. fixed_plain content writes) (content_of model cells) (content_of model others) layer more

pub replies_end : (model : BoundModel) → IsSpace model.space → AreRules model.space model.rules → (log other : List (Entry (List (ℕ × ℤ)))) (act : Act PlanCommand) (layer more : Option (List (ℕ × ℤ))) (p q : ℕ)
    → EndAlike (reply_of (effect_of answer (version after (opening model) log p) (layer, act))) (reply_of (effect_of answer (version after (opening model) other q) (more, act)))
replies_end model is rules log other act layer more p q =
    let one = version after (opening model) log p in
    let two = version after (opening model) other q in
    let one_is = of_model model one (model_kept (opening model) (take p log)) in
    let two_is = of_model model two (model_kept (opening model) (take q other)) in
    subst (λ c. EndAlike (reply_of (answer c layer act).0) (reply_of (answer two more act).0)) (sym one_is)
    (subst (λ c. EndAlike (reply_of (answer (content_of model one.stored) layer act).0) (reply_of (answer c more act).0)) (sym two_is)
    (on_one_model model is rules act one.stored two.stored layer more))
