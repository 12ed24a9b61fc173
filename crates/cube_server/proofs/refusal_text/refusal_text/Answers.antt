use Rattle.std.proofs.Common.{◌≡◌, subst}
use Rattle.std.specs.Option.{option_map}
use Rattle.cube_words.specs.Words.{asked, texts_of}
use Rattle.cube_server.specs.Inside.Explaining.{IsTextFor}
use Rattle.cube_server.specs.Output.{refused_text}
use Rattle.cube_server.proofs.Explained.{if-made, planned, unplanned}
use Rattle.cube_server.proofs.refusal_text.refusal_text.Goals as goal

pub returns-in-Ok : goal.returns-in-Ok
returns-in-Ok c =
    let words = texts_of c.args.words.now in
    let readings = c.args.readings.now in
    let refusal = c.args.refusal.now in
    if-made c.text_for.result (λ text. text.items)
    (IsTextFor readings refusal (option_map (λ name. name.now) c.explained.result)) words readings refusal
    (λ text told. planned words readings refusal text (asked c.in-Ok.plan) c.in-Ok.ensures
    (subst (λ model. IsTextFor readings refusal model text) c.explained.ensures told))
    c.text_for.ensures

pub returns-in-Err-Usage : goal.returns-in-Err-Usage
returns-in-Err-Usage c =
    let words = texts_of c.args.words.now in
    let readings = c.args.readings.now in
    let refusal = c.args.refusal.now in
    if-made c.print_refusal.result (λ text. text.items) (λ text. text ≡ refused_text refusal) words readings refusal
    (λ text told. unplanned words readings refusal text (c.in-Err-Usage.ensures c.in-Err-Usage.field-0-is) told)
    c.print_refusal.ensures
