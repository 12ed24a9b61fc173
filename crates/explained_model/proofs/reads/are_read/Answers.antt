use Rattle.std.proofs.Common.{◌≡◌, ◌∙◌, ◌+◌, ◌<◌, ◌++◌, ◌∷◌, [], None, append_assoc, string_bytes, ap, sym, subst, arith, List, take, drop, length, take-append-drop}
use Rattle.std.proofs.lemmas.List.{map-append, take_all, take_more}
use Rattle.cube_words.specs.Words.{texts_of}
use Rattle.file_passes.specs.Pass.{bytes_of, files, Obstacle, Source}
use Rattle.explained_model.proofs.ReadFiles.{all-read, one-unread}
use Rattle.explained_model.proofs.reads.are_read.Goals as goal

pub returns-then-not-branch : goal.returns-then-not-branch
returns-then-not-branch c = λ extent.
    let names = c.args.names.now in
    let at = c.loop-name.name-index in
    let item = c.name-item.result in
    let inside : at < length names = omega (arith, c.loop-name-test.true) in
    let parts : names ≡ take at names ++ item ∷ drop (at + 1) names =
    sym (take-append-drop (at + 1) names)
    ∙ ap (λ l. l ++ drop (at + 1) names) (take_more names at item inside ∙ ap (λ n. take at names ++ n ∷ []) (sym c.name-item.is))
    ∙ append_assoc (take at names) (item ∷ []) (drop (at + 1) names) in
    let split : texts_of names ≡ texts_of (take at names) ++ string_bytes item ∷ texts_of (drop (at + 1) names) =
    ap texts_of parts ∙ map-append string_bytes (take at names) (item ∷ drop (at + 1) names) in
    let unread : bytes_of c.args.readings.now (string_bytes item) ≡ None = ap (bytes_of c.args.readings.now) (sym c.deref.ensures) ∙ c.in_ok-is_read.ensures.1 c.if-not-branch.true in
    subst (λ l. (stop : Obstacle) × (files extent l).stops c.args.readings.now stop) (sym split)
    (one-unread extent c.args.readings.now (texts_of (take at names)) (string_bytes item) (texts_of (drop (at + 1) names)) c.loop-name.invariant unread)

pub returns : goal.returns
returns c = λ extent.
    let whole : texts_of (take c.loop-name.name-index c.args.names.now) ≡ texts_of c.args.names.now = ap texts_of (take_all c.loop-name.name-index c.args.names.now c.loop-name-test.false) in
    subst (λ names. (all : List Source) × (files extent names).finds c.args.readings.now all) whole
    (all-read extent c.args.readings.now (texts_of (take c.loop-name.name-index c.args.names.now)) c.loop-name.invariant)
