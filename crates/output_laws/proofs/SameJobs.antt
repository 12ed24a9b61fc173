-- Commands that are one but for pointers do the same, so jobs of them have the same texts.
use Rattle.std.proofs.Common.{◌≡◌, ℕ, ℤ, List, [], ◌∷◌, Option, Some, None, unwrap_or, ap, sym, ◌∙◌, subst, arith}
use Rattle.std.specs.Arc.{arc_value}
use Rattle.std.specs.List.{AllZip}
use Rattle.cube_server.specs.Answer.{IsServed}
use Rattle.cube_server.specs.Laws.{OneUserHasOneOutput}
use Rattle.load_cells.specs.Loads.{store_of}
use Rattle.rule_model.specs.BoundModel.{BoundModel}
use Rattle.run_passes.specs.declared.run_job.RunJob.TheVariants.{Serve, Check, Explain, Feeders, Sample}
use Rattle.sandbox.specs.Sandboxes.{where_fit}
use Rattle.sandbox.specs.declared.act.Act.{Act}
use Rattle.sandbox.specs.declared.act.Act.TheVariants.{Open, Publish, Discard, Do}
use Rattle.script_bound.specs.declared.script.BoundScript.{BoundScript}
use Rattle.script_run.specs.Load.{load, ran_of, writes_of}
use Rattle.user_session.specs.Content.{opening, after}
use Rattle.user_session.specs.Layers.{answer, sandbox, unfit}
use Rattle.user_session.specs.Planning.{effect, ended_effect, named_cell, trace_effect, PlanEffect}
use Rattle.user_session.specs.declared.command.PlanCommand.{PlanCommand}
use Rattle.user_session.specs.declared.command.PlanCommand.TheVariants.{Put, Get, Load, View, Spread, Trace, Fixed}
use Rattle.user_session.specs.declared.content.Content.{Content}
use Rattle.user_text.specs.Jobs.{rows_in}
use Rattle.user_text.specs.declared.command.ParamText.{ParamText}
use Rattle.output_laws.specs.SameJob.{IsSameCommand, IsSameAct}
use Rattle.output_laws.specs.Same.{SameJobsPrintTheSame}
use Rattle.output_laws.proofs.Alike.{AreAnsweredTheSame, zip_map, history_of_alike}

same_effect : (a b : PlanCommand) → IsSameCommand a b → (content : Content) → effect content a ≡ effect content b
same_effect (Put text number) b same content = ap (λ command. effect content command) (sym same)
same_effect (Get text) b same content = ap (λ command. effect content command) (sym same)
same_effect (View text) b same content = ap (λ command. effect content command) (sym same)
same_effect (Spread text amount how) b same content = ap (λ command. effect content command) (sym same)
same_effect (Trace text files) (Put other number) same content = absurd same
same_effect (Trace text files) (Get other) same content = absurd same
same_effect (Trace text files) (Load job script) same content = absurd same
same_effect (Trace text files) (View other) same content = absurd same
same_effect (Trace text files) (Spread other amount how) same content = absurd same
same_effect (Trace text files) (Fixed writes) same content = absurd same
same_effect (Trace text files) (Trace other again) same content =
    ap (λ cell. trace_effect content (arc_value files) (named_cell content.model cell)) same.0
    ∙ ap (λ names. trace_effect content names (named_cell content.model other)) same.1
same_effect (Fixed writes) b same content = ap (λ command. effect content command) (sym same)
same_effect (Load job script) (Put text number) same content = absurd same
same_effect (Load job script) (Get text) same content = absurd same
same_effect (Load job script) (View text) same content = absurd same
same_effect (Load job script) (Spread text amount how) same content = absurd same
same_effect (Load job script) (Trace text files) same content = absurd same
same_effect (Load job script) (Fixed writes) same content = absurd same
same_effect (Load job script) (Load other again) same content =
    let done : BoundScript → List (List ℕ × ParamText) → ℕ → Option ℕ → List (List (List ℕ)) → PlanEffect = λ bound params byte most rows.
    let outcome = load bound params byte (unwrap_or most 0) rows (store_of content.model content.stored) [] in
    ended_effect most (ran_of outcome) (writes_of outcome) in
    ap (λ rows. done (arc_value script) job.params job.decimal job.rejects rows) same.records
    ∙ ap (λ byte. done (arc_value script) job.params byte job.rejects (rows_in other)) same.decimal
    ∙ ap (λ most. done (arc_value script) job.params other.decimal most (rows_in other)) same.rejects
    ∙ ap (λ params. done (arc_value script) params other.decimal other.rejects (rows_in other)) same.params
    ∙ ap (λ bound. done bound other.params other.decimal other.rejects (rows_in other)) same.script

same_answer : (a b : Act PlanCommand) → IsSameAct a b → (content : Content) (layer : Option (List (ℕ × ℤ))) → answer content layer a ≡ answer content layer b
same_answer Open b same content layer = ap (λ act. answer content layer act) (sym same)
same_answer Publish b same content layer = ap (λ act. answer content layer act) (sym same)
same_answer Discard b same content layer = ap (λ act. answer content layer act) (sym same)
same_answer (Do command) Open same content layer = absurd same
same_answer (Do command) Publish same content layer = absurd same
same_answer (Do command) Discard same content layer = absurd same
same_answer (Do command) (Do other) same content None = ap (λ found. (found, None)) (same_effect command other same content)
same_answer (Do command) (Do other) same content (Some layer) =
    ap (λ found. where_fit sandbox layer (unfit content layer) found) (same_effect command other same (after content layer))

same_users : (users others : List (List (Act PlanCommand))) → AllZip (AllZip IsSameAct) users others
    → AllZip (AllZip (AreAnsweredTheSame answer)) users others
same_users users others same =
    zip_map (AllZip IsSameAct) (AllZip (AreAnsweredTheSame answer))
    (λ acts more alike. zip_map IsSameAct (AreAnsweredTheSame answer) same_answer acts more alike) users others same

served_alike : (model : BoundModel) (users others : List (List (Act PlanCommand))) (text : List ℕ) → AllZip (AllZip IsSameAct) users others
    → IsServed model users text → IsServed model others text
served_alike model users others text same served = record {
  accepted = served.accepted;
  told = served.told;
  log = served.log;
  history = history_of_alike answer after (opening model) served.log None users others served.told (same_users users others same) served.history;
  is_text = served.is_text;
}

pub same_text : OneUserHasOneOutput → SameJobsPrintTheSame
same_text one readings others (Check model) b text other few same p q = absurd few
same_text one readings others (Explain model file files) b text other few same p q = absurd few
same_text one readings others (Feeders bound) b text other few same p q = absurd few
same_text one readings others (Sample size) b text other few same p q = absurd few
same_text one readings others (Serve model users) (Check again) text other few same p q = absurd same
same_text one readings others (Serve model users) (Explain again file files) text other few same p q = absurd same
same_text one readings others (Serve model users) (Feeders bound) text other few same p q = absurd same
same_text one readings others (Serve model users) (Sample size) text other few same p q = absurd same
same_text one readings others (Serve model []) (Serve again more) text other few same p q = absurd (omega (arith, few))
same_text one readings others (Serve model (commands ∷ next ∷ users)) (Serve again more) text other few same p q = absurd (omega (arith, few))
same_text one readings others (Serve model (commands ∷ [])) (Serve again []) text other few same p q = absurd same.1
same_text one readings others (Serve model (commands ∷ [])) (Serve again (more ∷ next ∷ rest)) text other few same p q = absurd same.1.1
same_text one readings others (Serve model (commands ∷ [])) (Serve again (more ∷ [])) text other few same p q =
    let alike = served_alike model (commands ∷ []) (more ∷ []) text same.1 p in
    one again more text other (subst (λ m. IsServed m (more ∷ []) text) same.0 alike) q
