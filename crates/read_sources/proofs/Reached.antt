-- Where some cell that is meant is read, dimensions give what is asked.
use Rattle.std.proofs.Common.{◌≡◌, refl, sym, ap, ◌∙◌, arith, subst, ℕ, ◌<◌, ◌==◌, ◌⊎◌, inl, inr, Bool, true, false, not, ◌&&◌, ◌||◌, ℤ, Option, Some, None, if◌then◌else◌, List, [], length}
use Rattle.std.specs.Prelude.{IsTrue, slice_get}
use Rattle.std.specs.Option.{option_map_or}
use Rattle.std.proofs.lemmas.Bool.{and_parts, and_from, and_cases, or_parts, not-false, eqb-true, eqb-false, eq-eqb, ne_eqb}
use Rattle.std.proofs.lemmas.List.Folds.{Any-from_list_any, list_any-from_Any}
use Rattle.dim_core.specs.Outline.{Outline, components_of}
use Rattle.dim_weights.specs.Table.{is_nonzero}
use Rattle.cube_space.specs.Layout.{axes, sizes}
use Rattle.cube_space.specs.Cells.{IsSpace, is_leaf}
use Rattle.rule_laws.specs.declared.reference.Reference.{Reference}
use Rattle.rule_laws.specs.declared.reference.Arg.{Arg}
use Rattle.rule_laws.specs.declared.reference.Arg.TheVariants.{Fixed, Moved}
use Rattle.rule_laws.specs.Meaning.{Precedent, Named, Components}
use Rattle.rule_model.specs.declared.area.Area.{Area}
use Rattle.rule_model.specs.BoundModel.{BoundModel}
use Rattle.rule_model.specs.Conditions.{IsPrecedent}
use Rattle.order_laws.specs.Scales.{parts_in, is_total, is_leaf_element}
use Rattle.order_laws.specs.Earlier.{kinds_before}
use Rattle.order_laws.proofs.ReferenceFacts.{AllFollow}
use Rattle.order_laws.proofs.CellFacts.{axes-sizes}
use Rattle.order_laws.proofs.SetFacts.{follow-all}
use Rattle.cover_laws.proofs.Pairs.{follows-at}
use Rattle.arrow_laws.specs.Nodes.{Node, last_of, kind_in}
use Rattle.arrow_laws.specs.ByDimension.{Asked, Choice, IsElsewhere, HasElsewhere, Suits, left, asked_of, choice_of, admits, serves, has_element, has_part, is_part, is_from, HasEach, IsNamedBy, IsPartFrom, IsNamedFrom, IsJoinedByDimension}
use Rattle.arrow_laws.proofs.Made.{last-there}
use Rattle.read_sources.specs.declared.source.Source.{Source}
use Rattle.read_sources.specs.declared.source.Given.{Given}
use Rattle.read_sources.specs.Ways.{IsSource, precedent, choice, asked}
use Rattle.read_sources.specs.Sources.{IsGiven}
use Rattle.read_sources.specs.Gathering.{IsUnread}
use Rattle.read_sources.proofs.Beside.{only_own, only_its, own-there, its-there}

-- an element that a cell may have in any dimension
abbrev pub HasAny : Choice → (ℕ → ℕ → Bool) → Type 0
HasAny c test = (d : ℕ) × (x : ℕ) × (d < c.count) × IsTrue (c.may_have d x) × IsTrue (test d x)

-- other dimensions than none
anywhere : (c : Choice) (d x : ℕ) → d < c.count → IsTrue (c.may_have d x) → IsElsewhere c c.count c.count d x
anywhere c d x low passes = record { within = low; not_first = λ e. omega (arith, e, low); not_second = λ e. omega (arith, e, low); passes = passes }

pub any-own : (c : Choice) (want : Asked) → want.its ≡ false → HasAny c c.own → HasElsewhere c c.count c.count want
any-own c want none (d, x, low, passes, total) = own-there c c.count c.count want d x none (anywhere c d x low passes) total

pub any-its : (c : Choice) (want : Asked) → want.own ≡ false → HasAny c c.its → HasElsewhere c c.count c.count want
any-its c want none (d, x, low, passes, total) = its-there c c.count c.count want d x none (anywhere c d x low passes) total

-- what is left is elsewhere, and the rest here
of-left : (c : Choice) (i k : ℕ) (want : Asked) → HasElsewhere c i k want → IsTrue want.own → HasAny c c.own
of-left c i k want has own = let (there, total) = has.own own in (has.d, has.element, there.within, there.passes, total)

its-left : (c : Choice) (i k : ℕ) (want : Asked) → HasElsewhere c i k want → IsTrue want.its → HasAny c c.its
its-left c i k want has its = let (there, total) = has.its its in (has.e, has.other, there.within, there.passes, total)

module _ (c : Choice) (want : Asked) (i e k u : ℕ) (low : i < c.count) (other : k < c.count) (passes : IsTrue (c.may_have i e)) (with : IsTrue (c.may_have k u)) (suited : Suits c want i e k u) where
  suits-own : IsTrue want.own → HasAny c c.own
  suits-own own = by (c.own i e) refl (c.own k u) refl
    where
      by : (a : Bool) → c.own i e ≡ a → (b : Bool) → c.own k u ≡ b → HasAny c c.own
      by true is b at = (i, e, low, passes, is)
      by false is true at = (k, u, other, with, at)
      by false is false at = of-left c i k (left want (c.own i e || c.own k u) (c.its i e || c.its k u)) suited (and_from want.own (not (c.own i e || c.own k u)) own (ap (λ x. not (x || c.own k u)) is ∙ ap not at))

  suits-its : IsTrue want.its → HasAny c c.its
  suits-its its = by (c.its i e) refl (c.its k u) refl
    where
      by : (a : Bool) → c.its i e ≡ a → (b : Bool) → c.its k u ≡ b → HasAny c c.its
      by true is b at = (i, e, low, passes, is)
      by false is true at = (k, u, other, with, at)
      by false is false at = its-left c i k (left want (c.own i e || c.own k u) (c.its i e || c.its k u)) suited (and_from want.its (not (c.its i e || c.its k u)) its (ap (λ x. not (x || c.its k u)) is ∙ ap not at))

-- an element with a component is consolidated
part-total : (dims : List Outline) (i e : ℕ) (test : ℕ → Bool) → has_part dims test i e ≡ true → is_total dims i e ≡ true
part-total dims i e test h =
    let (k, part, low, is, both) = Any-from_list_any (λ (part : ℕ × ℤ). test part.0 && is_nonzero part.1) (parts_in dims i e) h in
    by (slice_get dims i) low
  where
    many : (n k : ℕ) → k < n → not (n == 0) ≡ true
    many n k low = ap not (ne_eqb n 0 (λ e. omega (arith, e, low)))

    by : {k : ℕ} (o : Option Outline) → k < length (option_map_or (λ d. components_of d e) o []) → option_map_or (λ d. not (is_leaf d e)) o false ≡ true
    by None low = absurd (omega arith)
    by {k = k} (Some d) low = many (length (components_of d e)) k low

part-some : (dims : List Outline) (i e to : ℕ) (test : ℕ → Bool) → is_part dims i e to ≡ true → test to ≡ true → has_part dims test i e ≡ true
part-some dims i e to test h passes =
    let (k, part, low, is, both) = Any-from_list_any (λ (part : ℕ × ℤ). (part.0 == to) && is_nonzero part.1) (parts_in dims i e) h in
    let (same, counts) = and_parts (part.0 == to) (is_nonzero part.1) both in
    list_any-from_Any (λ (part : ℕ × ℤ). test part.0 && is_nonzero part.1) (parts_in dims i e) (k, part, low, is, and_from (test part.0) (is_nonzero part.1) (ap test (eqb-true part.0 to same) ∙ passes) counts)

module _ (m : BoundModel) (valid : IsSpace m.space) (cube : ℕ) (there : cube < length m.space.cubes) (area : Area) (kind : Bool) (its : Option Bool) where
  abbrev width : ℕ
  width = length (axes m.space cube)

  abbrev last : ℕ
  last = last_of m.space cube

  low_last : last < width
  low_last = last-there m.space cube valid there

  abbrev Of : Precedent → Choice
  Of p = choice_of m cube area kind p its

  abbrev Wants : Precedent → Asked
  Wants p = asked_of m kind p its

  serves-of : (p : Precedent) (i e : ℕ) → IsTrue ((Of p).may_have i e) → serves m.space cube p its i e ≡ true
  unfolding is_from
  serves-of p i e h =
      (and_parts (admits (Some kind) (is_leaf_element (axes m.space cube) i e)) (serves m.space cube p its i e) (and_parts (has_element m.space cube area i e) _ h).1).1

  -- an element of the dimension from which components are read has one
  has-part : (dim e : ℕ) → IsTrue ((Of (Components dim)).may_have dim e) → is_total (axes m.space cube) dim e ≡ true
  has-part dim e h =
      let admitted : ℕ → Bool = λ part. admits its (is_leaf_element (axes m.space cube) dim part) in
      let chosen : Bool → Bool = λ t. if t then has_part (axes m.space cube) admitted dim e else admits its (is_leaf_element (axes m.space cube) dim e) in
      part-total (axes m.space cube) dim e admitted (ap chosen (sym (eq-eqb dim dim refl)) ∙ serves-of (Components dim) dim e h)

  abbrev Both : Precedent → Type 0
  Both p = (IsTrue (Wants p).own → HasAny (Of p) (Of p).own) × (IsTrue (Wants p).its → HasAny (Of p) (Of p).its)

  by-arg : (r : Reference) (arg : Arg) (from to : ℕ) → IsPrecedent m.space cube (Named r) → IsTrue ((Of (Named r)).may_have last from) → slice_get r.args (last_of m.space r.cube) ≡ Some arg
      → IsNamedBy (Of (Named r)) (Wants (Named r)) last arg from to → Both (Named r)
  by-arg r (Fixed target) from to is own here (same, suited) = (
    suits-own (Of (Named r)) (Wants (Named r)) last from last from low_last low_last own own suited,
    suits-its (Of (Named r)) (Wants (Named r)) last from last from low_last low_last own own suited,
  )
  by-arg r (Moved i map) from to is own here (element, passes, agree, sends, suited) =
      let follow = subst (λ n. AllFollow n r.args) (axes-sizes m.space cube) (follow-all (sizes m.space cube) (sizes m.space r.cube) r.args is.1) in
      let low = follows-at width r.args follow (last_of m.space r.cube) i map here in (
        suits-own (Of (Named r)) (Wants (Named r)) last from i element low_last low own passes suited,
        suits-its (Of (Named r)) (Wants (Named r)) last from i element low_last low own passes suited,
      )

  by-part : (dim : ℕ) (t : Bool) → (dim == last) ≡ t → (from to : ℕ) → dim < width → HasEach (Of (Components dim)).may_have width → IsTrue ((Of (Components dim)).may_have last from)
      → IsPartFrom (Of (Components dim)) (Wants (Components dim)) its (axes m.space cube) last t from to → Both (Components dim)
  by-part dim true e from to low each own (has, admitted, rest) = (
    λ _. (last, from, low_last, own, part-total (axes m.space cube) last from (λ part. part == to) has),
    λ asked. by_its asked (is_total (axes m.space cube) last to) refl,
  )
    where
      named : (t : Bool) → (last == dim) ≡ t → is_total (axes m.space cube) last to ≡ true
          → (if t then has_part (axes m.space cube) (λ part. not (is_leaf_element (axes m.space cube) last part)) last from else is_total (axes m.space cube) last from) ≡ true
      named true e total = part-some (axes m.space cube) last from to (λ part. not (is_leaf_element (axes m.space cube) last part)) has (ap (λ x. not (not x)) total)
      named false is total = absurd (eqb-false last dim is (sym (eqb-true dim last e)))

      by_its : IsTrue (Wants (Components dim)).its → (b : Bool) → is_total (axes m.space cube) last to ≡ b → HasAny (Of (Components dim)) (Of (Components dim)).its
      by_its asked true is = (last, from, low_last, own, named (last == dim) refl is)
      by_its asked false is =
          its-left (Of (Components dim)) last last (left (Wants (Components dim)) true (is_total (axes m.space cube) last to)) rest
          (and_from (Wants (Components dim)).its (not (is_total (axes m.space cube) last to)) asked (ap not is))
  by-part dim false e from to low each own (same, rest) = (
    λ _. (let (v, from_v) = each dim low in (dim, v, low, from_v, has-part dim v from_v)),
    λ asked. by_its asked (is_total (axes m.space cube) last from) refl,
  )
    where
      named : (t : Bool) → (last == dim) ≡ t → is_total (axes m.space cube) last from ≡ true
          → (if t then has_part (axes m.space cube) (λ part. not (is_leaf_element (axes m.space cube) last part)) last from else is_total (axes m.space cube) last from) ≡ true
      named true is total = absurd (eqb-false dim last e (sym (eqb-true last dim is)))
      named false is total = total

      by_its : IsTrue (Wants (Components dim)).its → (b : Bool) → is_total (axes m.space cube) last from ≡ b → HasAny (Of (Components dim)) (Of (Components dim)).its
      by_its asked true is = (last, from, low_last, own, named (last == dim) refl is)
      by_its asked false is =
          its-left (Of (Components dim)) last last (left (Wants (Components dim)) true (is_total (axes m.space cube) last from)) rest
          (and_from (Wants (Components dim)).its (not (is_total (axes m.space cube) last from)) asked (ap not is))

  named-both : (p : Precedent) (from to : ℕ) → IsPrecedent m.space cube p → HasEach (Of p).may_have width → IsTrue ((Of p).may_have last from) → IsNamedFrom m cube area kind p its from to → Both p
  named-both (Named r) from to is each own (arg, here, named) = by-arg r arg from to is own here named
  named-both (Components dim) from to is each own named = by-part dim (dim == last) refl from to (omega (arith, is, axes-sizes m.space cube)) each own named

  -- what a joined pair of nodes shows
  pub joined-both : (p : Precedent) (from to : Node) → IsPrecedent m.space cube p → IsJoinedByDimension m cube area kind p from to → kind_in m to.cube to.kind ≡ its → Both p
  joined-both p from to is j same =
      named-both p from.element to.element is (subst (λ its. HasEach (is_from m cube area kind p its) width) same j.each)
      (subst (λ its. IsTrue (is_from m cube area kind p its last from.element)) same j.own)
      (subst (λ its. IsNamedFrom m cube area kind p its from.element to.element) same j.named)

  pub unread-fixed : (p : Precedent) → admits its (kinds_before m p).its ≡ false → IsUnread m cube area kind p its
  unread-fixed p off from to j same = let clash : true ≡ false = sym (subst (λ its. IsTrue (admits its (kinds_before m p).its)) same j.fixed) ∙ off in cc

  pub unread-each : (p : Precedent) → (HasEach (is_from m cube area kind p its) width → ⊥) → IsUnread m cube area kind p its
  unread-each p off from to j same = off (subst (λ its. HasEach (is_from m cube area kind p its) width) same j.each)

  pub unread-own : (p : Precedent) → IsPrecedent m.space cube p → IsTrue (Wants p).own → (HasAny (Of p) (Of p).own → ⊥) → IsUnread m cube area kind p its
  unread-own p is asked off from to j same = off ((joined-both p from to is j same).0 asked)

  pub unread-its : (p : Precedent) → IsPrecedent m.space cube p → IsTrue (Wants p).its → (HasAny (Of p) (Of p).its → ⊥) → IsUnread m cube area kind p its
  unread-its p is asked off from to j same = off ((joined-both p from to is j same).1 asked)

-- where dimensions don't give what a source asks
pub unread-given : (m : BoundModel) → IsSpace m.space → (s : Source) → IsSource m s → (given : Given) → IsGiven (choice m s) (length (axes m.space s.cube)) (length (axes m.space s.cube)) (asked s) given
    → (s.kind || given.own) && (not s.asks || given.its) ≡ false → IsUnread m s.cube s.area.now s.kind (precedent s) s.its
unread-given m valid s is given so off = by (and_cases (s.kind || given.own) (not s.asks || given.its) off)
  where
    by : (s.kind || given.own ≡ false) ⊎ (not s.asks || given.its ≡ false) → IsUnread m s.cube s.area.now s.kind (precedent s) s.its
    by (inl none) =
        let (kind, own) = or_parts s.kind given.own none in
        let asks : not s.kind ≡ true = ap not kind in
        unread-own m valid s.cube is.cube s.area.now s.kind s.its (precedent s) is.reads asks
        (λ any. (let clash : true ≡ false = sym ((so only_own (record { own = λ _. asks; its = λ h. absurd (cc) })).1 (any-own (choice m s) only_own refl any)) ∙ own in cc))
    by (inr none) =
        let (not_asks, its) = or_parts (not s.asks) given.its none in
        let asks : s.asks ≡ true = not-false s.asks not_asks in
        unread-its m valid s.cube is.cube s.area.now s.kind s.its (precedent s) is.reads (sym is.asks ∙ asks)
        (λ any. (let clash : true ≡ false = sym ((so only_its (record { own = λ h. absurd (cc); its = λ _. asks })).1 (any-its (choice m s) only_its refl any)) ∙ its in cc))
