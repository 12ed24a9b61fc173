use Rattle.std.proofs.Common.{◌≡◌, ◌∙◌, ap, sym, subst, false, Ok, Err}
use Rattle.late_example.proofs.Examples.{ok-map}
use Rattle.cube_words.specs.Words.{texts_of}
use Rattle.file_passes.specs.Pass.{files}
use Rattle.judged_files.specs.Rules.{binding_judgement, rule_names}
use Rattle.run_passes.specs.RefusalOrder.{as_text, bind_pass}
use Rattle.explained_model.specs.Files.{Ends}
use Rattle.explained_model.specs.Inside.Reads.{AreRead}
use Rattle.explained_model.proofs.Binding.{is-bound, refused, rules-unread, unbound}
use Rattle.explained_model.proofs.files.bound_behind.Goals as goal

pub returns-then-not-branch : goal.returns-then-not-branch
returns-then-not-branch c =
    let names : texts_of c.deref.result.now ≡ rule_names c.args.text.cubes = ap texts_of c.deref.ensures.value ∙ c.in_ok-names.ensures ∙ ap rule_names c.cubes.ensures.cubes in
    let unread : AreRead c.args.readings.now (texts_of c.deref.result.now) false = subst (AreRead c.args.readings.now (texts_of c.deref.result.now)) c.if-not-branch.true c.in_ok-are_read.ensures in
    rules-unread c.args.readings.now c.args.name.now c.args.text (subst (λ l. AreRead c.args.readings.now l false) names unread)

pub sources-requires : goal.sources-requires
sources-requires c =
    let are = subst (AreRead c.args.readings.now (texts_of c.deref.result.now)) c.if-not-branch.false c.in_ok-are_read.ensures in
    let it = are as_text in
    (as_text, it.0, subst (λ names. (files as_text (texts_of names)).finds c.args.readings.now it.0) (c.deref.ensures.value ∙ sym c.deref-2.ensures.value) it.1)

pub returns-in-Ok : goal.returns-in-Ok
returns-in-Ok c =
    let names : texts_of c.deref-2.result.now ≡ rule_names c.args.text.cubes = ap texts_of c.deref-2.ensures.value ∙ c.in_ok-names.ensures ∙ ap rule_names c.cubes.ensures.cubes in
    let sources = c.in_ok-sources.sources.items in
    is-bound c.args.readings.now c.args.name.now c.args.text sources
    (subst (λ l. (files as_text l).finds c.args.readings.now sources) names (c.in_ok-sources.ensures as_text))
    c.in-Ok.bound
    (subst (λ all. (binding_judgement c.args.name.now c.args.text all).stands_for c.in-Ok.bound) c.deref-3.ensures.value c.in-Ok.ensures)

pub returns : goal.returns
returns c =
    let names : texts_of c.deref-2.result.now ≡ rule_names c.args.text.cubes = ap texts_of c.deref-2.ensures.value ∙ c.in_ok-names.ensures ∙ ap rule_names c.cubes.ensures.cubes in
    let sources = c.in_ok-sources.sources.items in
    ok-map c.unfound.result _ _ c.unfound.ensures
    (λ found is.
    let stopped = refused (binding_judgement c.args.name.now c.args.text c.deref-3.result.now) c.in-Err.halt c.in-Err.ensures is.1 in
    subst (Ends (bind_pass c.args.name.now c.args.text) c.args.readings.now) (sym is.0)
    (unbound c.args.readings.now c.args.name.now c.args.text sources
    (subst (λ l. (files as_text l).finds c.args.readings.now sources) names (c.in_ok-sources.ensures as_text))
    stopped.0
    (subst (λ all. (binding_judgement c.args.name.now c.args.text all).refused_for stopped.0) c.deref-3.ensures.value stopped.1)))
