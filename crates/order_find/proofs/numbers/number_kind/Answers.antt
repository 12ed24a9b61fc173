use Rattle.std.proofs.Common.{◌≡◌, ◌+◌, ◌++◌, ◌∷◌, [], sym, ap, subst, arith, length}
use Rattle.order_find.specs.Numbers.{AreNumbered, places_of}
use Rattle.order_find.proofs.Numbered.{none-numbered, numbered-next}
use Rattle.order_find.proofs.numbers.number_kind.Goals as goal

pub each-init : goal.each-init
each-init c =
    let m = c.args.model.now in
    let old = c.args.places.now.items in
    record {
      numbered = subst (λ firsts. AreNumbered m c.args.kind old 0 firsts old) (sym c.in_ok-firsts.ensures.items) (none-numbered m c.args.kind old);
      few = c.requires.few;
    }

pub each-preserved : goal.each-preserved
each-preserved c =
    let m = c.args.model.now in
    let kind = c.args.kind in
    let old = c.args.places.now.items in
    let begins : c.len.result ≡ length c.each.places.items = omega (arith, c.len.ensures, c.each.places.ok) in
    let next = numbered-next m kind old c.each.cube c.len.result c.width_of.result c.each.firsts.items c.each.places.items c.width_of.ensures begins c.each.invariant.numbered in
    let more : c.push.new.self.items ≡ c.each.firsts.items ++ c.len.result ∷ [] = c.in_ok-push.ensures.items in
    let added : c.add_places.new.places.items ≡ c.each.places.items ++ places_of c.each.cube kind c.width_of.result = c.in_ok-add_places.ensures.places in
    record {
      numbered = subst (λ firsts. AreNumbered m kind old (c.each.cube + 1) firsts c.add_places.new.places.items) (sym more)
          (subst (λ places. AreNumbered m kind old (c.each.cube + 1) (c.each.firsts.items ++ c.len.result ∷ []) places) (sym added) next);
      few = c.in_ok-add_places.ensures.few;
    }

pub returns-clause-numbered : goal.returns-clause-numbered
returns-clause-numbered c =
    let m = c.args.model.now in
    let all : c.each.cube ≡ length m.space.cubes = omega (arith, c.each-test.false, c.each.auto.cube-end, c.cubes-cubes.ensures, ap (λ s. length s.cubes) c.space.ensures.space) in
    subst (λ n. AreNumbered m c.args.kind c.args.places.now.items n c.each.firsts.items c.each.places.items) all c.each.invariant.numbered
