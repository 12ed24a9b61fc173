-- Sources that make each arrow that another one makes.
use Rattle.std.proofs.Common.{◌≡◌, refl, sym, ap, ◌∙◌, subst, ℕ, Bool, true, ◌||◌}
use Rattle.std.specs.Prelude.{IsTrue}
use Rattle.cube_space.specs.Layout.{axes}
use Rattle.cube_space.specs.Cells.{IsSpace}
use Rattle.rule_model.specs.BoundModel.{BoundModel}
use Rattle.order_laws.specs.Scales.{is_total, is_leaf_element}
use Rattle.arrow_laws.specs.Nodes.{Node, last_of, node_kind}
use Rattle.arrow_laws.specs.ByDimension.{admits, is_part}
use Rattle.read_sources.specs.declared.source.Source.{Source}
use Rattle.read_sources.specs.Ways.{Follows, Same, Component, Always, Sent, SentOver, IsSource, way_of, reads_from, gives_total, suits, serves_with, cube_read, IsNamedAs}
use Rattle.read_sources.specs.Sources.{IsRead, found_in}
use Rattle.read_sources.specs.Parts.{IsAlike, AreSetsSame, Joins, MakesArrowsOf}
use Rattle.read_sources.proofs.Likeness.{suits-alike}
use Rattle.read_sources.proofs.Named.{joins-as, as-joins}

module _ (m : BoundModel) (valid : IsSpace m.space) (one other : Source) (is : IsSource m one) (read : IsRead m one) (its : IsRead m other) (alike : IsAlike m one other)
    (way : way_of m one ≡ way_of m other) (sets : AreSetsSame (found_in (last_of m.space one.cube) (way_of m one)) one other) where
  -- what the elements give
  suited : (own names : Bool) → suits one own names ≡ suits other own names
  suited = suits-alike one other alike.kind alike.asks alike.elsewhere

  total : (e : ℕ) → is_total (axes m.space one.cube) (last_of m.space one.cube) e ≡ is_total (axes m.space other.cube) (last_of m.space other.cube) e
  total e = ap (λ c. is_total (axes m.space c) (last_of m.space c) e) alike.cube

  by-total : (e : ℕ) → IsTrue (suits other true (is_total (axes m.space other.cube) (last_of m.space other.cube) e)) → IsTrue (suits one true (is_total (axes m.space one.cube) (last_of m.space one.cube) e))
  by-total e h = suited true (is_total (axes m.space one.cube) (last_of m.space one.cube) e) ∙ ap (suits other true) (total e) ∙ h

  with-other : (e i u : ℕ) → serves_with m one e i u ≡ serves_with m other e i u
  with-other e i u =
      let own : ℕ → Bool = λ c. is_total (axes m.space c) (last_of m.space c) e || is_total (axes m.space c) i u in
      let names = gives_total m one (last_of m.space one.cube) e || gives_total m one i u in
      let same : names ≡ gives_total m other (last_of m.space other.cube) e || gives_total m other i u =
      ap (λ b. b || gives_total m one i u) (alike.gives (last_of m.space one.cube) e ∙ ap (λ c. gives_total m other (last_of m.space c) e) alike.cube)
      ∙ ap (λ b. gives_total m other (last_of m.space other.cube) e || b) (alike.gives i u) in
      suited (own one.cube) names ∙ ap (λ b. suits other b names) (ap own alike.cube) ∙ ap (suits other (own other.cube)) same

  named : (w : Follows) → way_of m one ≡ w → (from to : ℕ) → IsNamedAs m other w from to → IsNamedAs m one w from to
  named Same is from to (same, h) = (same, by-total from h)
  named Component is from to (has, admitted, h) = (
    subst (λ c. IsTrue (is_part (axes m.space c) (last_of m.space c) from to)) (sym alike.cube) has,
    ap (λ o. admits o (is_leaf_element (axes m.space one.cube) (last_of m.space one.cube) to)) alike.its
        ∙ ap (λ c. admits other.its (is_leaf_element (axes m.space c) (last_of m.space c) to)) alike.cube ∙ admitted,
    by-total to h,
  )
  named (Always target) is from to (same, h) = (same, alike.serves from ∙ h)
  named (Sent map) is from to (sends, h) = (sends, alike.serves from ∙ h)
  named (SentOver i map) is from to (element, passes, sends, h) = (
    element,
    alike.reads_in i element (subst (λ w. AreSetsSame (found_in (last_of m.space one.cube) w) one other) is sets) ∙ passes,
    sends,
    with-other from i element ∙ h,
  )

  pub makes-arrows-of : one.weak ≡ other.weak → cube_read one ≡ cube_read other → MakesArrowsOf m one other
  makes-arrows-of weak target = record { weak = weak; joins = joins }
    where
      joins : (from to : Node) → Joins m other from to → Joins m one from to
      joins from to joined =
          let j = joins-as m other its from to joined in
          let at_way = subst (λ w. IsNamedAs m other w from.element to.element) (sym way) j.named in
          as-joins m one read from to valid is.reads (record {
            source = j.source ∙ sym alike.cube;
            source_kind = j.source_kind ∙ sym (ap (λ c. node_kind m c other.kind) alike.cube) ∙ sym (ap (node_kind m one.cube) alike.kind);
            target = j.target ∙ sym target;
            target_kind = j.target_kind;
            meant = j.meant ∙ sym alike.its;
            own = alike.reads from.element ∙ subst (λ c. reads_from m other (last_of m.space c) from.element ≡ true) (sym alike.cube) j.own;
            named = named (way_of m one) refl from.element to.element at_way;
          })

pub makes-own : (m : BoundModel) (s : Source) → MakesArrowsOf m s s
makes-own m s = record { weak = refl; joins = λ from to j. j }
