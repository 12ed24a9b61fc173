use Rattle.std.proofs.Common.{rules, length, ◌≡◌, ◌∷◌, ◌++◌, [], false, refl, ap, ◌∙◌, sym, subst, position}
use Rattle.std.specs.List.{IsDistinct, list_any}
use Rattle.std.proofs.lemmas.Map.Keys.{IsDistinct-push}
use Rattle.lists.proofs.NumberedFacts.{place_after}
use Rattle.lists.proofs.numbered.Numbered.insert.Goals.{After-push_reserved}
use Rattle.lists.proofs.numbered.Numbered.insert.Given.{Over}
use Rattle.lists.proofs.numbered.Numbered.insert.Goals as goal

module _ (g : Over) (c : After-push_reserved g) where
  absent : list_any (g.K.PartialEq.eq c.args.key) c.self.inside.keys.items ≡ false
  absent = ap (list_any (g.K.PartialEq.eq c.args.key)) c.self.view_is ∙ sym c.contains.ensures ∙ c.if-contains.false

  -- the key goes last
  whole : c.push_reserved.new.self.items ≡ c.self.inside.keys.items ++ c.args.key ∷ []
  whole = c.push_reserved.ensures.items ∙ ap (λ keys. keys ++ c.args.key ∷ []) c.in_ok-reserve.ensures.items

  distinct : IsDistinct g.K.PartialEq.eq c.push_reserved.new.self.items
  distinct = subst (IsDistinct g.K.PartialEq.eq) (sym whole) (IsDistinct-push g.met.K.Eq.laws c.self.inside.keys.items c.args.key c.self.invariant.distinct absent)

pub invariant_of-self-2 : goal.invariant_of-self-2
invariant_of-self-2 g c =
    let eq = g.K.PartialEq.eq in
    let keys = c.self.inside.keys.items in
    let number : c.len-number.result ≡ length keys = search rules in
    record {
      distinct = distinct g c;
      found = λ q.
          c.in_ok-insert.ensures.updates.0 q ∙ rw (c.requires, number, c.self.invariant.found q) refl
          ∙ sym (place_after g.met.K.Eq.laws keys c.args.key q (absent g c)) ∙ ap (position (eq q)) (sym (whole g c));
    }

pub returns-clause-unique : goal.returns-clause-unique
returns-clause-unique g c = distinct g (goal.at.returns-clause-unique g c).After-push_reserved
