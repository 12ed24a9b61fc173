-- The statements of the cell's cube, one after another.
use Rattle.std.proofs.Common.{inl, inr, All, ◌++◌, ◌≡◌, refl, sym, ap, ◌∙◌, subst, ℕ, zero, suc, ◌+◌, ◌<◌, ◌≤◌, arith, Bool, true, false, ◌&&◌, ◌||◌, List, [], ◌∷◌, length, map, drop, get_or, Option, Some, None, Result, Ok, Err, IfOk}
use Rattle.std.specs.declared.alloc.AllocError.{AllocError}
use Rattle.std.specs.Prelude.{is_some, option_map, option_and_then, slice_get, if◌then◌else◌}
use Rattle.std.specs.List.{position}
use Rattle.std.specs.Option.{option_map_or}
use Rattle.std.proofs.Math.ListN.{drop_of_length-le}
use Rattle.std.proofs.Math.Seq.{drop-cons}
use Rattle.std.specs.Prelude.{reverse}
use Rattle.std.proofs.lemmas.List.{drop-drop, drop-map, length-map, reverse-append}
use Rattle.std.proofs.lemmas.List.Elements.{All-cons, All-nil, All-push}
use Rattle.std.proofs.lemmas.List.Quantifiers.{position-Some}
use Rattle.std.proofs.lemmas.Option.{get_or_from_slice_get, same_Some as some-same, slice_get_cases, slice_get-map}
use Rattle.cube_fixed.specs.declared.value.Value.{Value}
use Rattle.cube_space.specs.Cells.{cube_of, is_leaf_cell}
use Rattle.cell_values.specs.Reading.{value_on}
use Rattle.lists.proofs.Places.{none_passes}
use Rattle.rule_laws.specs.declared.formula.Formula.{Formula}
use Rattle.rule_laws.specs.RuleSystem.{Rule, base, part_at, value_at}
use Rattle.rule_laws.proofs.StatementRuns.{some-none}
use Rattle.rule_model.specs.declared.rules.Statement.{Statement}
use Rattle.rule_model.specs.Governing.{governing_from, has_part}
use Rattle.rule_model.specs.System.{rule_of, system_of}
use Rattle.cell_trace.specs.declared.chain.Chain.{Chain}
use Rattle.cell_trace.specs.declared.chain.Found.{Found}
use Rattle.cell_trace.specs.declared.entered.Entered.{Entered}
use Rattle.cell_trace.specs.declared.item.Item.{Item}
use Rattle.cell_trace.specs.declared.next.Next.{Next}
use Rattle.cell_trace.specs.Visits.{Visit, visit}
use Rattle.cell_trace.specs.Trace.{Scene, reaches_own, reaches_rest, first_number, formula_of, given, items_of, statements, system, takes_own, value_of}
use Rattle.cell_trace.specs.Inside.Chain.{IsChain, IsFound, IsNext, IsPart, entered_from, entered_with, takes_from, takes_with, value_from, visit_at}
use Rattle.cell_trace.specs.Inside.Entering.{entered, entry}
use Rattle.cell_trace.specs.Inside.Items.{IsItem, IsListable, numbered}
use Rattle.cell_trace.specs.Inside.Place.{Place, children_at, given_at, has_components_at, named_at, scene_at, stet_at, target_at}
use Rattle.cell_trace.proofs.VisitFacts.{visit_items, visit_numbered}
use Rattle.cell_trace.proofs.RestFacts.{without_rest}
use Rattle.cell_trace.proofs.VisitLaws.{meaning}

off-none : {X : Type 0} (o : Option X) → is_some o ≡ false → o ≡ None
off-none None is = refl
off-none (Some x) is = cc

pub given_is : (p : Place) (rest : Value) → given (scene_at p) rest ≡ given_at p rest
unfolding system_of value_on target_at named_at has_components_at stet_at children_at
given_is p rest = refl

module _ (p : Place) where
  abbrev s : Scene
  s = scene_at p

  abbrev rule : Statement → Rule
  rule statement = rule_of p.version.model.space (cube_of p.version.model.space p.cell) statement

  abbrev all : List Statement
  all = statements s

  abbrev has : Rule → Bool
  has r = has_part p.version.model p.cell r

  -- the first of these have no part for the cell
  abbrev NonesFirst : List Statement → ℕ → Type 0
  NonesFirst sts k = (j : ℕ) (d : Rule) → j < k → has (get_or (map rule sts) j d) ≡ false

  module _ {X : Type 0} (none : X) (step : ℕ → Statement → List Statement → X → Formula → X) where
    -- what is made of statements in turn
    abbrev turns : ℕ → List Statement → X
    turns place [] = none
    turns place (st ∷ later) = option_map_or (step place st later (turns (suc place) later)) (formula_of s st) (turns (suc place) later)

    skip : (sts : List Statement) (place k : ℕ) → NonesFirst sts k → turns place sts ≡ turns (place + k) (drop k sts)
    skip sts place zero nones = ap (λ n. turns n sts) (omega arith)
    skip [] place (suc k) nones = refl
    skip (st ∷ sts) place (suc k) nones =
        let off : formula_of s st ≡ None = off-none (formula_of s st) (nones 0 (rule st) (omega arith)) in
        let later = skip sts (suc place) k (λ j d low. nones (suc j) d (omega arith)) in
        let more : suc place + k ≡ place + suc k = omega arith in
        rw off (later ∙ ap (λ n. turns n (drop k sts)) more)

    abbrev first : ℕ → Option ℕ
    first from = position has (drop from (map rule all))

    dropped : (from : ℕ) → drop from (map rule all) ≡ map rule (drop from all)
    dropped from = drop-map rule from all

    pub skip-none : (from : ℕ) → governing_from p.version.model p.cell from ≡ None → turns from (drop from all) ≡ none
    unfolding governing_from
    skip-none from is = by (first from) refl
      where
        by : (o : Option ℕ) → first from ≡ o → turns from (drop from all) ≡ none
        by (Some k) e = absurd (some-none (from + k) (rw e at is))
        by None e =
            let sts = drop from all in
            let nones = none_passes has (map rule sts) (ap (position has) (sym (dropped from)) ∙ e) in
            let end : drop (length sts) sts ≡ [] = drop_of_length-le sts (omega arith) in
            skip sts from (length sts) (λ j d low. nones j d (rw length-map low))
            ∙ ap (turns (from + length sts)) end

    pub skip-some : (from place : ℕ) → governing_from p.version.model p.cell from ≡ Some place → turns from (drop from all) ≡ turns place (drop place all)
    unfolding governing_from
    skip-some from place is = by (first from) refl
      where
        by : (o : Option ℕ) → first from ≡ o → turns from (drop from all) ≡ turns place (drop place all)
        by None e = absurd (some-none place (sym (rw e at is)))
        by (Some k) e =
            let sts = drop from all in
            let same : from + k ≡ place = some-same (from + k) place (rw e at is) in
            let here = ap (position has) (sym (dropped from)) ∙ e in
            skip sts from k (λ j d low. (position-Some has (map rule sts) k d here).2 j low)
            ∙ ap (turns (from + k)) (drop-drop k from all)
            ∙ ap (λ n. turns n (drop n all)) same

    -- what is made at a statement with a part
    abbrev pub AtPart : Next → Type 0
    AtPart next =
        (st : Statement) × (slice_get all next.place ≡ Some st) × (formula_of s st ≡ Some next.formula.now)
        × (turns next.place (drop next.place all)
        ≡ step next.place st (drop (suc next.place) all) (turns (suc next.place) (drop (suc next.place) all)) next.formula.now)

    pub at-part : (next : Next) → IsPart p next → AtPart next
    at-part next part = elim ((slice_get_cases all next.place).1) [ inl there ↦ at there.0 there.2 | inr past ↦ absurd (omega (arith, past.0, part.within)) ]
      where
        at : (st : Statement) → slice_get all next.place ≡ Some st → AtPart next
        at st there =
            let from : drop next.place all ≡ st ∷ drop (suc next.place) all =
            drop-cons all next.place st part.within ∙ ap (λ x. x ∷ drop (suc next.place) all) (get_or_from_slice_get all next.place st st there) in
            let own : option_and_then (part_at (system s) s.cell) (slice_get (map rule all) next.place) ≡ Some next.formula.now = part.formula in
            let formula : formula_of s st ≡ Some next.formula.now =
            sym (ap (option_and_then (part_at (system s) s.cell)) (slice_get-map rule all next.place ∙ ap (option_map rule) there)) ∙ own in
            (st, there, formula, ap (turns next.place) from ∙ rw formula refl)

  pub from-least : (from place : ℕ) → governing_from p.version.model p.cell from ≡ Some place → from ≤ place
  unfolding governing_from
  from-least from place is = by (position has (drop from (map rule all))) refl
    where
      by : (o : Option ℕ) → position has (drop from (map rule all)) ≡ o → from ≤ place
      by None e = absurd (some-none place (sym (rw e at is)))
      by (Some k) e = let same : from + k ≡ place = some-same (from + k) place (rw e at is) in omega arith

  base_value : Value
  base_value = base (system s) s.stored s.values s.cell

  value_step : ℕ → Statement → List Statement → Value → Formula → Value
  value_step place st later x f = value_at (system s) s.stored s.values s.cell x f

  value-turns : (place : ℕ) (sts : List Statement) → value_of s sts ≡ turns base_value value_step place sts
  unfolding base_value value_step
  value-turns place [] = refl
  value-turns place (st ∷ sts) = ap (λ x. option_map_or (value_at (system s) s.stored s.values s.cell x) (formula_of s st) x) (value-turns (suc place) sts)

  entered_step : ℕ → Statement → List Statement → List Entered → Formula → List Entered
  entered_step place st later x f =
      entry s place st later f
      ∷ (if reaches_rest (items_of s later f) then x else [])

  entered-turns : (place : ℕ) (sts : List Statement) → entered s place sts ≡ turns [] entered_step place sts
  unfolding entered_step
  entered-turns place [] = refl
  entered-turns place (st ∷ sts) = ap (λ x. option_map_or (λ f. entered_step place st sts x f) (formula_of s st) x) (entered-turns (suc place) sts)

  takes_step : ℕ → Statement → List Statement → Bool → Formula → Bool
  takes_step place st later x f = reaches_own (items_of s later f) || (reaches_rest (items_of s later f) && x)

  takes-turns : (place : ℕ) (sts : List Statement) → takes_own s sts ≡ turns true takes_step place sts
  unfolding takes_step
  takes-turns place [] = refl
  takes-turns place (st ∷ sts) = ap (λ x. option_map_or (takes_step place st sts x) (formula_of s st) x) (takes-turns (suc place) sts)

  pub chain-none : (from : ℕ) → governing_from p.version.model p.cell from ≡ None
      → (value_from p from ≡ stet_at p) × (entered_from p from ≡ []) × (takes_from p from ≡ true)
  unfolding value_from entered_from takes_from stet_at system_of value_on base_value
  chain-none from none = (
    value-turns from (drop from all) ∙ skip-none base_value value_step from none,
    entered-turns from (drop from all) ∙ skip-none [] entered_step from none,
    takes-turns from (drop from all) ∙ skip-none true takes_step from none,
  )

  pub chain-same : (from place : ℕ) → governing_from p.version.model p.cell from ≡ Some place
      → (value_from p from ≡ value_from p place) × (entered_from p from ≡ entered_from p place) × (takes_from p from ≡ takes_from p place)
  unfolding value_from entered_from takes_from
  chain-same from place is = (
    value-turns from (drop from all) ∙ skip-some base_value value_step from place is ∙ sym (value-turns place (drop place all)),
    entered-turns from (drop from all) ∙ skip-some [] entered_step from place is ∙ sym (entered-turns place (drop place all)),
    takes-turns from (drop from all) ∙ skip-some true takes_step from place is ∙ sym (takes-turns place (drop place all)),
  )

  -- what evaluation reaches in the formula
  visit_is : (next : Next) → visit (given s (value_of s (drop (suc next.place) all))) next.formula.now ≡ visit_at p next
  unfolding value_from
  visit_is next = ap (λ g. visit g next.formula.now) (given_is p (value_of s (drop (suc next.place) all)))

  -- what the statement at a place gives, before those after it
  pub value-at : (next : Next) → IsPart p next → value_from p next.place ≡ (visit_at p next).value
  unfolding value_from value_step
  value-at next part =
      let later = drop (suc next.place) all in
      let at = at-part base_value value_step next part in
      value-turns next.place (drop next.place all) ∙ at.3
      ∙ ap (λ x. value_at (system s) s.stored s.values s.cell x next.formula.now) (sym (value-turns (suc next.place) later))
      ∙ sym (meaning (given s (value_of s later)) next.formula.now)
      ∙ ap (λ v. v.value) (visit_is next)

  pub entered-at : (next : Next) → IsPart p next
      → entered_from p next.place ≡ record { place = next.place; first = next.first; visited = (visit_at p next).items }
      ∷ (if reaches_rest (visit_at p next).items then entered_from p (suc next.place) else [])
  unfolding entered_from entered_step system_of
  entered-at next part =
      let later = drop (suc next.place) all in
      let at = at-part [] entered_step next part in
      let visited = items_of s later next.formula.now in
      let more = λ (xs : List Entered). if reaches_rest visited then xs else [] in
      entered-turns next.place (drop next.place all) ∙ at.3
      ∙ ap (λ xs. record { place = next.place; first = first_number (is_leaf_cell p.version.model.space p.cell) at.0; visited = visited } ∷ more xs)
      (sym (entered-turns (suc next.place) later))
      ∙ ap (λ n. record { place = next.place; first = n; visited = visited } ∷ more (entered s (suc next.place) later)) (sym (part.first at.0 at.1))
      ∙ ap (λ (v : Visit). record { place = next.place; first = next.first; visited = v.items } ∷ (if reaches_rest v.items then entered s (suc next.place) later else []))
      (visit_is next)

  pub takes-at : (next : Next) → IsPart p next
      → takes_from p next.place ≡ (reaches_own (visit_at p next).items || (reaches_rest (visit_at p next).items && takes_from p (suc next.place)))
  unfolding takes_from takes_step
  takes-at next part =
      let later = drop (suc next.place) all in
      let at = at-part true takes_step next part in
      let visited = items_of s later next.formula.now in
      takes-turns next.place (drop next.place all) ∙ at.3
      ∙ ap (λ b. reaches_own visited || (reaches_rest visited && b)) (sym (takes-turns (suc next.place) later))
      ∙ ap (λ (v : Visit). reaches_own v.items || (reaches_rest v.items && takes_own s later)) (visit_is next)

  -- what is found at a statement is found from the place where it was looked for
  pub from-next : (from : ℕ) (next : Next) (chain : Chain) → IsNext p from next → IsChain p next.place chain → IsChain p from chain
  from-next from next chain is at =
      let same = chain-same from next.place is.governs in
      record {
        value = at.value ∙ sym same.0;
        entered = at.entered ∙ sym same.1;
        takes_own = at.takes_own ∙ sym same.2;
        listable = at.listable;
      }

  -- where no statement is left
  pub at-end : (from : ℕ) (chain : Chain) → governing_from p.version.model p.cell from ≡ None
      → chain.value ≡ stet_at p → chain.takes_own ≡ true → chain.entered.items ≡ [] → IsChain p from chain
  at-end from chain none value own entered =
      let end = chain-none from none in
      record {
        value = value ∙ sym end.0;
        takes_own = own ∙ sym end.2;
        entered = ap reverse entered ∙ sym end.1;
        listable = subst (All (IsListable p)) (sym entered) (All-nil (IsListable p));
      }

  -- what is found in the formula before any value, where evaluation doesn't reach CONTINUE
  pub found-alone : (next : Next) (rest : Value) (found : Found) → IsFound (visit (given_at p rest) next.formula.now) found
      → reaches_rest found.visited ≡ false → IsFound (visit_at p next) found
  found-alone next rest found is off =
      let same = without_rest p rest (value_from p (suc next.place)) next.formula.now (ap reaches_rest (sym is.visited) ∙ off) in
      subst (λ v. IsFound v found) (sym same) is

  -- and before what those after it give
  pub found-before : (next : Next) (later : Chain) (found : Found) → IsChain p (next.place + 1) later
      → IsFound (visit (given_at p later.value) next.formula.now) found → IsFound (visit_at p next) found
  found-before next later found after is =
      let next_place : next.place + 1 ≡ suc next.place = omega arith in
      subst (λ v. IsFound v found) (ap (λ x. visit (given_at p x) next.formula.now) (after.value ∙ ap (value_from p) next_place)) is

  -- a statement with a part, of which this is found, and that of those after it, which don't matter where evaluation
  -- doesn't reach CONTINUE
  module _ (next : Next) (part : IsPart p next) (found : Found) (is : IsFound (visit_at p next) found) (later : Chain)
      (after : reaches_rest found.visited ≡ true → IsChain p (next.place + 1) later) where
    abbrev items : List (Option Item)
    items = found.visited

    after_this : reaches_rest items ≡ true → IsChain p (suc next.place) later
    after_this on = let next_place : next.place + 1 ≡ suc next.place = omega arith in subst (λ n. IsChain p n later) next_place (after on)

    abbrev one : Entered
    one = record { place = next.place; first = next.first; visited = items }

    one-listable : IsListable p one
    one-listable =
        let rest = value_from p (suc next.place) in
        let own = ap numbered is.visited ∙ visit_numbered (given_at p rest) next.formula.now in
        record {
          place = omega (arith, part.within, part.few_statements);
          references = omega (arith, own, part.few_references);
          cells = subst (All (IsItem p)) (sym is.visited) (visit_items p rest next.formula.now);
        }

    value-found : found.value ≡ value_from p next.place
    value-found = is.value ∙ sym (value-at next part)

    takes-found : (reaches_own items || (reaches_rest items && takes_from p (suc next.place))) ≡ takes_from p next.place
    takes-found = ap (λ xs. reaches_own xs || (reaches_rest xs && takes_from p (suc next.place))) is.visited ∙ sym (takes-at next part)

    entered-found : one ∷ (if reaches_rest items then entered_from p (suc next.place) else []) ≡ entered_from p next.place
    entered-found =
        ap (λ xs. record { place = next.place; first = next.first; visited = xs } ∷ (if reaches_rest xs then entered_from p (suc next.place) else []))
        is.visited
        ∙ sym (entered-at next part)

    takes-by : (rests : Bool) → reaches_rest items ≡ rests → (rests && later.takes_own) ≡ (rests && takes_from p (suc next.place))
    takes-by true e = (after_this e).takes_own
    takes-by false e = refl

    entered-by : (rests : Bool) → reaches_rest items ≡ rests
        → reverse ((if rests then later.entered.items else []) ++ one ∷ []) ≡ one ∷ (if rests then entered_from p (suc next.place) else [])
    entered-by true e = reverse-append later.entered.items (one ∷ []) ∙ ap (λ es. one ∷ es) (after_this e).entered
    entered-by false e = refl

    listable-by : (rests : Bool) → reaches_rest items ≡ rests → All (IsListable p) ((if rests then later.entered.items else []) ++ one ∷ [])
    listable-by true e = All-push (IsListable p) later.entered.items one (after_this e).listable one-listable
    listable-by false e = All-cons (IsListable p) one [] one-listable (All-nil (IsListable p))

    at-entry : (chain : Chain) → chain.value ≡ found.value → chain.takes_own ≡ takes_with found later → chain.entered.items ≡ entered_with next found later
        → IsChain p next.place chain
    at-entry chain value own entered =
        record {
          value = value ∙ value-found;
          takes_own = own ∙ ap (λ b. reaches_own items || b) (takes-by (reaches_rest items) refl) ∙ takes-found;
          entered = ap reverse entered ∙ entered-by (reaches_rest items) refl ∙ entered-found;
          listable = subst (All (IsListable p)) (sym entered) (listable-by (reaches_rest items) refl);
        }

    pub at-next : (r : Result Chain AllocError) → IfOk r (λ chain. chain.value ≡ found.value) → IfOk r (λ chain. chain.takes_own ≡ takes_with found later)
        → IfOk r (λ chain. chain.entered.items ≡ entered_with next found later) → IfOk r (IsChain p next.place)
    at-next (Ok chain) value own entered = at-entry chain value own entered
    at-next (Err e) value own entered = tt
