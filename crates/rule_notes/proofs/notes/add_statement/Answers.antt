use Rattle.std.proofs.Common.{◌≡◌, ◌<◌, ◌∙◌, ◌++◌, ◌^◌, arith, ap, sym, subst, length, map, List, All}
use Rattle.std.proofs.lemmas.List.{append_assoc, length-map}
use Rattle.ref_order.specs.Counted.{Counted, counted_of}
use Rattle.rule_model.specs.declared.rules.Statement.{Statement}
use Rattle.rule_notes.specs.declared.counted.CountedRead.{CountedRead}
use Rattle.rule_notes.specs.declared.note.Note.{Note}
use Rattle.rule_notes.specs.Inside.Named.{counted_view, nameless_among, IsReadOf}
use Rattle.rule_notes.proofs.ReadFacts.{reads-are, counted-few}
use Rattle.rule_notes.proofs.notes.add_statement.Goals as goal

-- three lists, one behind the other
in-turn : (old one two three leaf cons names its : List Note) → one ≡ old ++ leaf → two ≡ one ++ cons → three ≡ two ++ names → names ≡ its → three ≡ old ++ ((leaf ++ cons) ++ its)
in-turn old one two three leaf cons names its a b c d =
    c ∙ ap (λ l. l ++ names) (b ∙ ap (λ l. l ++ cons) a ∙ append_assoc old leaf cons) ∙ append_assoc old (leaf ++ cons) names ∙ ap (λ l. old ++ ((leaf ++ cons) ++ l)) d

few-of : (reads : List CountedRead) (s : Statement) → map counted_view reads ≡ counted_of s → length (counted_of s) < 2 ^ 32 → length reads < 2 ^ 32
few-of reads s is few = omega (arith, few, ap (λ (l : List Counted). length l) is, length-map reads counted_view)

pub add_nameless-requires-clause-reads : goal.add_nameless-requires-clause-reads
add_nameless-requires-clause-reads c =
    subst (All (IsReadOf c.args.view.model.now.space c.args.view.cube)) (sym (ap (map counted_view) c.deref.ensures.value ∙ c.in_ok-reads.ensures)) (reads-are c.args.view.model.now.space c.args.view.cube c.args.it.now c.requires.it)

pub add_nameless-requires-clause-few : goal.add_nameless-requires-clause-few
add_nameless-requires-clause-few c =
    let few = counted-few c.args.view.model.now.space c.args.view.cube c.args.it.now c.requires.it in
    few-of c.deref.result.now c.args.it.now (ap (map counted_view) c.deref.ensures.value ∙ c.in_ok-reads.ensures) few

pub add_nameless-requires-clause-known : goal.add_nameless-requires-clause-known
add_nameless-requires-clause-known c = c.begin.ensures c.args.view.model.now c.args.view.cube c.args.it.now.area c.requires.known

pub returns-clause-notes : goal.returns-clause-notes
returns-clause-notes c =
    in-turn _ _ _ _ _ _ _ _ c.in_ok-add_reach.ensures c.in_ok-add_reach-2.ensures c.in_ok-add_nameless.ensures.notes
    (ap (nameless_among c.args.view.model.now c.args.view.cube c.args.place c.args.it.now.area) (ap (map counted_view) c.deref.ensures.value ∙ c.in_ok-reads.ensures))
