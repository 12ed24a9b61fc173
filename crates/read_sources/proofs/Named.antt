-- Which node a source reads, by how it follows from its node.
use Rattle.std.proofs.Common.{◌≡◌, refl, sym, ap, ◌∙◌, arith, subst, ℕ, ◌==◌, Bool, true, false, not, ◌&&◌, ◌||◌, Some, length, if◌then◌else◌}
use Rattle.std.specs.Prelude.{IsTrue, ◌↔◌, slice_get, slice_index_or}
use Rattle.std.proofs.lemmas.Bool.{and_parts, eqb-true, eqb-false}
use Rattle.std.proofs.lemmas.Option.{slice_get-get_or, get_or_from_slice_get}
use Rattle.cube_space.specs.Layout.{axes}
use Rattle.cube_space.specs.Cells.{IsSpace}
use Rattle.rule_laws.specs.declared.reference.Reference.{Reference}
use Rattle.rule_laws.specs.declared.reference.Arg.{Arg}
use Rattle.rule_laws.specs.declared.reference.Arg.TheVariants.{Fixed, Moved}
use Rattle.rule_laws.specs.Meaning.{Precedent, Named, Components}
use Rattle.rule_model.specs.BoundModel.{BoundModel}
use Rattle.rule_model.specs.Conditions.{IsPrecedent}
use Rattle.order_laws.specs.Earlier.{kinds_before}
use Rattle.cover_laws.specs.Looking.{sent}
use Rattle.ref_order.proofs.Args.{args-long}
use Rattle.arrow_laws.specs.Nodes.{Node, last_of}
use Rattle.arrow_laws.specs.ByDimension.{Asked, choice_of, HasEach, HasElsewhere, Suits, left, admits, asks_total, asked_of, names_total, is_from, IsNamedBy, IsPartFrom, IsNamedFrom}
use Rattle.arrow_laws.proofs.Made.{last-there}
use Rattle.read_sources.specs.declared.source.Source.{Source}
use Rattle.read_sources.specs.Ways.{Follows, Same, Component, Always, Sent, SentOver, follows_by, follows, precedent, way_of, reads_from, is_consolidated, gives_total, choice, asked, suits, serves_any, serves_with, IsNamedAs}
use Rattle.read_sources.specs.Sources.{found_in, IsWithin, IsGiven, IsRead}
use Rattle.read_sources.specs.Parts.{Joins, JoinsAs}

-- ---- what is left of what is asked

left-own : (a x y : Bool) → a && not (x || y) ≡ true → a ≡ true
left-own a x y h = (and_parts a (not (x || y)) h).0

left-two : (asks x y : Bool) → asks && not (x || y) ≡ asks && not ((asks && x) || (asks && y))
left-two false x y = refl
left-two true x y = refl

left-one : (asks x : Bool) → asks && not (x || x) ≡ asks && not (asks && x)
left-one false x = refl
left-one true true = refl
left-one true false = refl

twice : (x : Bool) → x || x ≡ x
twice true = refl
twice false = refl

pub left-within : (want : Asked) (own its : Bool) → IsWithin (left want own its) want
left-within want own its = record { own = λ h. (and_parts want.own (not own) h).0; its = λ h. (and_parts want.its (not its) h).0 }

module _ (m : BoundModel) (s : Source) (asks : s.asks ≡ asks_total s.its (kinds_before m (precedent s)).its) where
  abbrev last : ℕ
  last = last_of m.space s.cube

  abbrev last_names : ℕ → Bool
  last_names e = names_total m.space s.cube (precedent s) last e

  pub asked-is : asked_of m s.kind (precedent s) s.its ≡ asked s
  asked-is = ap (λ b. asked_with b) (sym asks)
    where
      asked_with : Bool → Asked
      asked_with b = record { own = not s.kind; its = b }

  module _ (found : ℕ) (given : IsGiven (choice m s) last found (asked s) s.elsewhere) where
    abbrev Has : Asked → Type 0
    Has = HasElsewhere (choice m s) last found

    suits-has : (own its : Bool) (want : Asked) → left (asked s) own its ≡ want → IsTrue (suits s own its) ↔ Has want
    suits-has own its want is =
        let so = given (left (asked s) own its) (left-within (asked s) own its) in
        (λ h. subst Has is (so.0 h), λ has. so.1 (subst Has (sym is) has))

    left-is : (own mine its ours : Bool) → own ≡ mine → s.asks && not its ≡ s.asks && not ours → left (asked s) own its ≡ left (asked_of m s.kind (precedent s) s.its) mine ours
    left-is own mine its ours one other = ap (λ b. made b (s.asks && not its)) one ∙ ap (made mine) other ∙ ap (λ (w : Asked). left w mine ours) (sym asked-is)
      where
        made : Bool → Bool → Asked
        made a b = record { own = not s.kind && not a; its = b }

    -- with an element in the last dimension
    pub any-suits : (e : ℕ) → IsTrue (serves_any m s e) ↔ Has (left (asked_of m s.kind (precedent s) s.its) (is_consolidated m s last e || is_consolidated m s last e) (last_names e || last_names e))
    any-suits e =
        suits-has (is_consolidated m s last e) (gives_total m s last e) (left (asked_of m s.kind (precedent s) s.its) (is_consolidated m s last e || is_consolidated m s last e) (last_names e || last_names e))
        (left-is (is_consolidated m s last e) (is_consolidated m s last e || is_consolidated m s last e) (gives_total m s last e) (last_names e || last_names e) (sym (twice (is_consolidated m s last e))) (sym (left-one s.asks (last_names e))))

    -- and one in another
    pub with-suits : (e i u : ℕ) → IsTrue (serves_with m s e i u)
        ↔ Has (left (asked_of m s.kind (precedent s) s.its) (is_consolidated m s last e || is_consolidated m s i u) (last_names e || names_total m.space s.cube (precedent s) i u))
    with-suits e i u =
        let own = is_consolidated m s last e || is_consolidated m s i u in
        let its = last_names e || names_total m.space s.cube (precedent s) i u in
        let ours = gives_total m s last e || gives_total m s i u in
        suits-has own ours (left (asked_of m s.kind (precedent s) s.its) own its)
        (left-is own own ours its refl (sym (left-two s.asks (last_names e) (names_total m.space s.cube (precedent s) i u))))

    -- where components are read
    pub part-suits : (total : Bool) → IsTrue (suits s true total) ↔ Has (left (asked_of m s.kind (precedent s) s.its) true total)
    part-suits total = suits-has true total (left (asked_of m s.kind (precedent s) s.its) true total) (left-is true true total total refl refl)

module _ (m : BoundModel) (s : Source) (read : IsRead m s) where
  abbrev edge : ℕ
  edge = last_of m.space s.cube

  abbrev want : Asked
  want = asked_of m s.kind (precedent s) s.its

  abbrev IsBy : Arg → ℕ → ℕ → Type 0
  IsBy arg from to = IsNamedBy (choice m s) want edge arg from to

  -- what other dimensions give, where the node follows so
  given-as : (w : Follows) → way_of m s ≡ w → IsGiven (choice m s) edge (found_in edge w) (asked s) s.elsewhere
  given-as w is = subst (λ w. IsGiven (choice m s) edge (found_in edge w) (asked s) s.elsewhere) is read.elsewhere

  as-by : (arg : Arg) (from to : ℕ) → way_of m s ≡ follows_by edge arg → IsBy arg from to → IsNamedAs m s (follows_by edge arg) from to
  as-by (Fixed target) from to is (same, suited) = (same, (any-suits m s read.asks edge (given-as (Always target) is) from).1 suited)
  as-by (Moved i map) from to is (element, passes, own, sends, suited) = by (i == edge) refl is
    where
      by : (t : Bool) → (i == edge) ≡ t → way_of m s ≡ (if t then Sent map else SentOver i map) → IsNamedAs m s (if t then Sent map else SentOver i map) from to
      by true e is =
          let here = eqb-true i edge e in
          let same : element ≡ from = own here in
          let at_last = subst (λ x. Suits (choice m s) want edge from edge x) same (subst (λ d. Suits (choice m s) want edge from d element) here suited) in
          (ap (sent map) (sym same) ∙ sends, (any-suits m s read.asks edge (given-as (Sent map) is) from).1 at_last)
      by false e is = (element, passes, sends, (with-suits m s read.asks i (given-as (SentOver i map) is) from i element).1 suited)

  by-as : (arg : Arg) (from to : ℕ) → IsTrue (reads_from m s edge from) → way_of m s ≡ follows_by edge arg → IsNamedAs m s (follows_by edge arg) from to → IsBy arg from to
  by-as (Fixed target) from to own is (same, suited) = (same, (any-suits m s read.asks edge (given-as (Always target) is) from).0 suited)
  by-as (Moved i map) from to own is h = by (i == edge) refl is h
    where
      by : (t : Bool) → (i == edge) ≡ t → way_of m s ≡ (if t then Sent map else SentOver i map) → IsNamedAs m s (if t then Sent map else SentOver i map) from to → IsBy (Moved i map) from to
      by true e is (sends, suited) =
          let here = eqb-true i edge e in
          let at_last = (any-suits m s read.asks edge (given-as (Sent map) is) from).0 suited in
          (from, subst (λ d. IsTrue (reads_from m s d from)) (sym here) own, (λ _. refl), sends, subst (λ d. Suits (choice m s) want edge from d from) (sym here) at_last)
      by false e is (element, passes, sends, suited) =
          (element, passes, (λ here. absurd (eqb-false i edge e here)), sends, (with-suits m s read.asks i (given-as (SentOver i map) is) from i element).0 suited)

  -- components, in the last dimension or in another
  abbrev IsPart : Bool → ℕ → ℕ → Type 0
  IsPart t from to = IsPartFrom (choice m s) want s.its (axes m.space s.cube) edge t from to

  as-part : (t : Bool) (from to : ℕ) → way_of m s ≡ (if t then Component else Same) → IsPart t from to → IsNamedAs m s (if t then Component else Same) from to
  as-part true from to is (has, admitted, suited) = (has, admitted, (part-suits m s read.asks edge (given-as Component is) (is_consolidated m s edge to)).1 suited)
  as-part false from to is (same, suited) = (same, (part-suits m s read.asks edge (given-as Same is) (is_consolidated m s edge from)).1 suited)

  part-as : (t : Bool) (from to : ℕ) → way_of m s ≡ (if t then Component else Same) → IsNamedAs m s (if t then Component else Same) from to → IsPart t from to
  part-as true from to is (has, admitted, suited) = (has, admitted, (part-suits m s read.asks edge (given-as Component is) (is_consolidated m s edge to)).0 suited)
  part-as false from to is (same, suited) = (same, (part-suits m s read.asks edge (given-as Same is) (is_consolidated m s edge from)).0 suited)

-- the argument for the last dimension
pub last-arg : (m : BoundModel) (cube : ℕ) (r : Reference) → IsSpace m.space → IsPrecedent m.space cube (Named r)
    → slice_get r.args (last_of m.space r.cube) ≡ Some (slice_index_or r.args (last_of m.space r.cube) (Fixed 0))
last-arg m cube r valid reads =
    slice_get-get_or r.args (last_of m.space r.cube) (Fixed 0) (omega (arith, args-long m.space cube r reads, last-there m.space r.cube valid reads.0))

module _ (m : BoundModel) (s : Source) (read : IsRead m s) where
  abbrev NamedFrom : Precedent → ℕ → ℕ → Type 0
  NamedFrom p = IsNamedFrom m s.cube s.area.now s.kind p s.its

  pub named-as : (from to : ℕ) → NamedFrom (precedent s) from to → IsNamedAs m s (way_of m s) from to
  named-as from to h = by (precedent s) refl h
    where
      by : (p : Precedent) → precedent s ≡ p → NamedFrom p from to → IsNamedAs m s (follows m s.cube p) from to
      by (Named r) is (arg, at, named) =
          let last = last_of m.space s.cube in
          let own : slice_index_or r.args (last_of m.space r.cube) (Fixed 0) ≡ arg = get_or_from_slice_get r.args (last_of m.space r.cube) arg (Fixed 0) at in
          let way : way_of m s ≡ follows_by last arg = ap (follows m s.cube) is ∙ ap (follows_by last) own in
          let back : IsNamedBy (choice m s) (asked_of m s.kind (precedent s) s.its) last arg from to = subst (λ p. IsNamedBy (choice_of m s.cube s.area.now s.kind p s.its) (asked_of m s.kind p s.its) last arg from to) (sym is) named in
          subst (λ a. IsNamedAs m s (follows_by last a) from to) (sym own) (as-by m s read arg from to way back)
      by (Components dim) is named =
          let back = subst (λ p. IsPartFrom (choice_of m s.cube s.area.now s.kind p s.its) (asked_of m s.kind p s.its) s.its (axes m.space s.cube) (last_of m.space s.cube) (dim == last_of m.space s.cube) from to) (sym is) named in
          as-part m s read (dim == last_of m.space s.cube) from to (ap (follows m s.cube) is) back

  pub as-named : (from to : ℕ) → IsSpace m.space → IsPrecedent m.space s.cube (precedent s) → IsTrue (reads_from m s (last_of m.space s.cube) from) → IsNamedAs m s (way_of m s) from to → NamedFrom (precedent s) from to
  as-named from to valid reads own h = by (precedent s) refl reads h
    where
      by : (p : Precedent) → precedent s ≡ p → IsPrecedent m.space s.cube p → IsNamedAs m s (follows m s.cube p) from to → NamedFrom p from to
      by (Named r) is reads named =
          let last = last_of m.space s.cube in
          let arg = slice_index_or r.args (last_of m.space r.cube) (Fixed 0) in
          let back = by-as m s read arg from to own (ap (follows m s.cube) is) named in
          (arg, last-arg m s.cube r valid reads, subst (λ p. IsNamedBy (choice_of m s.cube s.area.now s.kind p s.its) (asked_of m s.kind p s.its) last arg from to) is back)
      by (Components dim) is reads named =
          let back = part-as m s read (dim == last_of m.space s.cube) from to (ap (follows m s.cube) is) named in
          subst (λ p. IsPartFrom (choice_of m s.cube s.area.now s.kind p s.its) (asked_of m s.kind p s.its) s.its (axes m.space s.cube) (last_of m.space s.cube) (dim == last_of m.space s.cube) from to) is back

  -- the arrows of a source, by single dimensions
  pub joins-as : (from to : Node) → Joins m s from to → JoinsAs m s from to
  joins-as from to j =
      let joined = j.joined in
      record {
        source = joined.source;
        source_kind = joined.source_kind;
        target = joined.target;
        target_kind = joined.target_kind;
        meant = j.meant;
        own = subst (λ its. IsTrue (is_from m s.cube s.area.now s.kind (precedent s) its (last_of m.space s.cube) from.element)) j.meant joined.own;
        named = named-as from.element to.element (subst (λ its. IsNamedFrom m s.cube s.area.now s.kind (precedent s) its from.element to.element) j.meant joined.named);
      }

  pub as-joins : (from to : Node) → IsSpace m.space → IsPrecedent m.space s.cube (precedent s) → JoinsAs m s from to → Joins m s from to
  as-joins from to valid reads j = record {
    meant = j.meant;
    joined = record {
      source = j.source;
      source_kind = j.source_kind;
      target = j.target;
      target_kind = j.target_kind;
      fixed = subst (λ its. IsTrue (admits its (kinds_before m (precedent s)).its)) (sym j.meant) read.fixed;
      each = subst (λ its. HasEach (is_from m s.cube s.area.now s.kind (precedent s) its) (length (axes m.space s.cube))) (sym j.meant) read.each;
      own = subst (λ its. IsTrue (is_from m s.cube s.area.now s.kind (precedent s) its (last_of m.space s.cube) from.element)) (sym j.meant) j.own;
      named = subst (λ its. IsNamedFrom m s.cube s.area.now s.kind (precedent s) its from.element to.element) (sym j.meant) (as-named from.element to.element valid reads j.own j.named);
    };
  }
