use Rattle.std.proofs.Common.{◌≡◌, refl, sym, ap, ◌∙◌, arith, subst, inl, inr, Some, List, length}
use Rattle.std.specs.Prelude.{slice_get}
use Rattle.std.proofs.lemmas.Bool.{cases_lt}
use Rattle.std.proofs.lemmas.List.{length-map}
use Rattle.std.proofs.lemmas.Option.{slice_get_within, slice_get_read}
use Rattle.rule_laws.specs.Meaning.{Precedent}
use Rattle.ref_order.specs.Reads.{precedent_of}
use Rattle.read_sources.specs.Gathering.{reads_for, IsTaken, IsTakenIf}
use Rattle.read_sources.proofs.Placed.{get-mapped}
use Rattle.read_sources.proofs.Gathered.{stay-then, taken-stays}
use Rattle.read_sources.proofs.sources.take_part.Goals as goal

pub each-preserved : goal.each-preserved
each-preserved c =
    let m = c.args.part.model.now in
    let st = c.args.part.statement.now in
    let own = get-mapped precedent_of c.args.reads.now c.each.at c.index-reads-at.result (slice_get_read c.args.reads.now _ c.each.at c.index-reads-at.result refl c.each-test.true c.index-reads-at.is) in
    let here : slice_get (reads_for st c.args.part.kind) c.each.at ≡ Some (precedent_of c.index-reads-at.result) = ap (λ ps. slice_get ps c.each.at) (sym c.requires.reads) ∙ own in
    let now : IsTaken m c.take.new.sources.items c.args.part.cube st c.args.part.kind (precedent_of c.index-reads-at.result) =
    subst (IsTakenIf c.args.part c.take.new.sources.items (precedent_of c.index-reads-at.result)) c.if-not-branch.false c.in_ok-take.ensures.taken in
    record {
      gathered = c.in_ok-take.ensures.gathered;
      stay = stay-then c.args.sources.now.items c.each.sources.items c.take.new.sources.items c.each.invariant.stay c.in_ok-take.ensures.stay;
      taken = λ k p low at. elim (cases_lt k c.each.at) [
        | inl less ↦ taken-stays m c.args.part.cube st c.each.sources.items c.take.new.sources.items c.args.part.kind p c.in_ok-take.ensures.stay (c.each.invariant.taken k p less at)
        | inr more ↦
            let same : c.each.at ≡ k = omega (arith, low, more) in
            let both : Some (precedent_of c.index-reads-at.result) ≡ Some p = sym here ∙ ap (slice_get (reads_for st c.args.part.kind)) same ∙ at in
            let one : precedent_of c.index-reads-at.result ≡ p = cc in
            subst (IsTaken m c.take.new.sources.items c.args.part.cube st c.args.part.kind) one now
      ];
      known = c.in_ok-take.ensures.known;
    }

pub returns-clause-done : goal.returns-clause-done
returns-clause-done c k p at =
    let few = ap (λ (ps : List Precedent). length ps) c.requires.reads in
    let low = slice_get_within (reads_for c.args.part.statement.now c.args.part.kind) k p at in
    c.each.invariant.taken k p (omega (arith, low, few, length-map c.args.reads.now precedent_of, c.each-test.false)) at
