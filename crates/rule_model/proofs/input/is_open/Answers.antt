use Rattle.std.proofs.Common.{rules, ◌≡◌, ◌∙◌, ◌+◌, Bool, refl, sym, true, false, not, drop}
use Rattle.std.specs.Prelude.{is_some}
use Rattle.rule_model.specs.Inside.Parts.{is_open_by, part_for}
use Rattle.rule_model.proofs.OpenFacts.{decided, passed, ends_by_stet, ends_closed, goes_on}
use Rattle.rule_model.proofs.input.is_open.Goals.{then-words-via-then-words, then-words-via-else-words+then-not-words, then-is_some+else-words+else-not-words, else-is_some}
use Rattle.rule_model.proofs.input.is_open.Goals as goal

negated : (b c : Bool) → not b ≡ c → b ≡ not c
negated true c is = rw (← is) refl
negated false c is = rw (← is) refl

pub returns-then-words : goal.returns-then-words
returns-then-words c =
    let rest = is_open_by (drop (c.each.place + 1) c.args.statements.now) c.args.elements.now in
    let some : is_some (part_for c.index-statements-place.result c.args.elements.now true) ≡ true = search rules in
    let told = c.each.invariant ∙ decided c.args.statements.now c.args.elements.now c.each.place c.index-statements-place.result c.each-test.true c.index-statements-place.is c.args.words.now c.requires.words some in
    sym (told ∙ elim c.then-words.branch [
      | then-words-via-then-words w ↦ ends_by_stet _ rest w.if-words.true
      | then-words-via-else-words+then-not-words w ↦ ends_closed _ rest (negated _ true w.if-not-words.true)
    ])

pub each-preserved : goal.each-preserved
each-preserved c =
    elim c.if-is_some.branch [
      | then-is_some+else-words+else-not-words w ↦
          let some : is_some (part_for c.index-statements-place.result c.args.elements.now true) ≡ true = search rules in
          c.each.invariant ∙ decided c.args.statements.now c.args.elements.now c.each.place c.index-statements-place.result c.each-test.true c.index-statements-place.is c.args.words.now c.requires.words some
          ∙ goes_on _ _ w.if-words.false (negated _ false w.if-not-words.false)
      | else-is_some w ↦
          let none : is_some (part_for c.index-statements-place.result c.args.elements.now true) ≡ false = search rules in
          c.each.invariant ∙ passed c.args.statements.now c.args.elements.now c.each.place c.index-statements-place.result c.each-test.true c.index-statements-place.is none
    ]
