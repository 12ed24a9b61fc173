-- One turn of the work on a question, and how it begins.
use Rattle.std.proofs.Common.{◌≡◌, refl, sym, ◌∙◌, ap, subst, arith, ℕ, suc, ◌+◌, ◌<◌, ◌≤◌, ◌^◌, ℤ, List, [], ◌∷◌, ◌++◌, Option, Some, None}
use Rattle.std.specs.Prelude.{unsigned_abs}
use Rattle.std.specs.List.{All}
use Rattle.std.proofs.lemmas.List.Elements.{All-nil, All-push}
use Rattle.cell_store.specs.Entries.{cells_of}
use Rattle.cell_versions.specs.Versions.{NumberedVersion}
use Rattle.cube_fixed.specs.declared.value.Value.{Value}
use Rattle.cube_fixed.specs.Total.{Total, with_term, value_of}
use Rattle.cube_space.specs.Cells.{IsCell}
use Rattle.rule_evaluate.specs.declared.ask.Ask.{Ask}
use Rattle.rule_evaluate.specs.declared.ask.Ask.TheVariants.{Value as of_value}
use Rattle.rule_evaluate.specs.Known.{Known}
use Rattle.rule_model.specs.Governing.{governing_from}
use Rattle.rule_model.specs.Weights.{most_weight_product}
use Rattle.sparse_sum.specs.Live.{live_from}
use Rattle.cell_values.specs.declared.frames.Evaluation.{Evaluation}
use Rattle.cell_values.specs.declared.frames.LeafSum.{LeafSum}
use Rattle.cell_values.specs.declared.frames.ComponentSum.{ComponentSum}
use Rattle.cell_values.specs.declared.frames.Frame.{Frame}
use Rattle.cell_values.specs.declared.frames.Frame.TheVariants as frame
use Rattle.cell_values.specs.Reading.{value_on}
use Rattle.cell_values.specs.Inside.Questions.{IsAsked, LeadsTo, answer_on, values_of, work_on, cost_on, components_on}
use Rattle.cell_values.specs.Inside.Sums.{sum_on, IsSum, Stops}
use Rattle.cell_values.specs.Inside.Frames.{AreRight, open_asks, leaves_left, components_left, IsEvaluating, IsWork, IsSumBut, IsWaiting, work_left}
use Rattle.cell_values.specs.Inside.Answers.{IsMissing}
use Rattle.cell_values.proofs.Work.{cost-more, evaluation-begins, evaluation-asks, evaluation-goes_on}

module _ (v : NumberedVersion) where
  -- ---- evaluations

  pub own-work : (e : Evaluation) (q : Ask) → IsEvaluating v e q → IsEvaluating v e (of_value e.cell)
  own-work e q is = record { asked = refl; is_cell = is.is_cell; governs = is.governs; right = is.right; pending = is.pending }

  pub evaluated : (e : Evaluation) (q : Ask) (a : Value) → IsEvaluating v e q → a ≡ value_on v e.cell → a ≡ answer_on v q
  evaluated e q a is value = value ∙ ap (answer_on v) (sym is.asked)

  abbrev Turns : Frame → Frame → Ask → Ask → Type 0
  Turns before after q next = IsAsked v next × IsWaiting v after q next × (work_left v after + work_on v next < work_left v before)

  pub evaluation-waits : (e after : Evaluation) (q next : Ask) → IsEvaluating v e q × (e.asked ≡ None) → IsMissing (record { version = v; known = e.known.items; cell = e.cell }) next
      → IsEvaluating v after (of_value after.cell) → after.known ≡ e.known → after.cell ≡ e.cell
      → Turns (frame.Evaluation e) (frame.Evaluation (record after { asked = Some next })) q next
  evaluation-waits e after q next (is, none) missing own known cell =
      let less = evaluation-asks v e.known.items e.cell next missing.leads.leads missing.unlisted in
      let now : cost_on v (open_asks v e.known.items e.asked e.cell) ≡ cost_on v (open_asks v e.known.items None e.cell) = ap (λ (o : Option Ask). cost_on v (open_asks v e.known.items o e.cell)) none in
      let then : cost_on v (open_asks v after.known.items (Some next) after.cell) ≡ cost_on v (open_asks v e.known.items (Some next) e.cell) =
      ap (λ k. cost_on v (open_asks v k.items (Some next) after.cell)) known ∙ ap (λ (c : ℕ). cost_on v (open_asks v e.known.items (Some next) c)) cell in (
        missing.leads.is_asked,
        (record { asked = is.asked ∙ ap of_value (sym cell); is_cell = own.is_cell; governs = own.governs; right = own.right; pending = own.pending }, refl),
        omega (arith, less, now, then),
      )

  pub evaluation-answered : (e after : Evaluation) (q next : Ask) (a : Value) → IsEvaluating v e q × (e.asked ≡ Some next) → a ≡ answer_on v next
      → after.cell ≡ e.cell → after.statement ≡ e.statement → after.known.items ≡ e.known.items ++ (next, a) ∷ [] → after.asked ≡ None → after.pending ≡ e.pending
      → IsWork v (frame.Evaluation after) q × (work_left v (frame.Evaluation after) ≤ work_left v (frame.Evaluation e))
  evaluation-answered e after q next a (is, asked) value cell statement known none pending =
      let less = evaluation-goes_on v e.known.items e.cell next a in
      let before : cost_on v (open_asks v e.known.items e.asked e.cell) ≡ cost_on v (open_asks v e.known.items (Some next) e.cell) = ap (λ (o : Option Ask). cost_on v (open_asks v e.known.items o e.cell)) asked in
      let one : cost_on v (open_asks v after.known.items after.asked after.cell) ≡ cost_on v (open_asks v after.known.items None after.cell) = ap (λ (o : Option Ask). cost_on v (open_asks v after.known.items o after.cell)) none in
      let two : cost_on v (open_asks v after.known.items None after.cell) ≡ cost_on v (open_asks v after.known.items None e.cell) = ap (λ (c : ℕ). cost_on v (open_asks v after.known.items None c)) cell in
      let three : cost_on v (open_asks v after.known.items None e.cell) ≡ cost_on v (open_asks v (e.known.items ++ (next, a) ∷ []) None e.cell) = ap (λ (k : Known). cost_on v (open_asks v k None e.cell)) known in (
        (
          record {
            asked = is.asked ∙ ap of_value (sym cell);
            is_cell = subst (IsCell v.model.space) (sym cell) is.is_cell;
            governs = ap (λ (c : ℕ). governing_from v.model c 0) cell ∙ is.governs ∙ ap Some (sym statement);
            right = subst (AreRight v) (sym known) (All-push (λ entry. entry.1 ≡ answer_on v entry.0) e.known.items (next, a) is.right value);
            pending = subst (λ (c : ℕ). All (LeadsTo v c) after.pending.items) (sym cell) (subst (λ asks. All (LeadsTo v e.cell) asks.items) (sym pending) is.pending);
          },
          none,
        ),
        omega (arith, less, before, one, two, three),
      )

  pub evaluation-opens : (e : Evaluation) (c k : ℕ) → IsCell v.model.space c → governing_from v.model c 0 ≡ Some k → e.cell ≡ c → e.statement ≡ k → e.known.items ≡ [] → e.asked ≡ None → e.pending.items ≡ []
      → IsWork v (frame.Evaluation e) (of_value c) × (work_left v (frame.Evaluation e) < work_on v (of_value c))
  evaluation-opens e c k is_cell governs cell statement known none pending =
      let less = evaluation-begins v c in
      let one : cost_on v (open_asks v e.known.items e.asked e.cell) ≡ cost_on v (open_asks v e.known.items None e.cell) = ap (λ (o : Option Ask). cost_on v (open_asks v e.known.items o e.cell)) none in
      let two : cost_on v (open_asks v e.known.items None e.cell) ≡ cost_on v (open_asks v e.known.items None c) = ap (λ (c : ℕ). cost_on v (open_asks v e.known.items None c)) cell in
      let three : cost_on v (open_asks v e.known.items None c) ≡ cost_on v (open_asks v [] None c) = ap (λ (k : Known). cost_on v (open_asks v k None c)) known in (
        (
          record {
            asked = ap of_value (sym cell);
            is_cell = subst (IsCell v.model.space) (sym cell) is_cell;
            governs = ap (λ (c : ℕ). governing_from v.model c 0) cell ∙ governs ∙ ap Some (sym statement);
            right = subst (AreRight v) (sym known) (All-nil (λ entry. entry.1 ≡ answer_on v entry.0));
            pending = subst (All (LeadsTo v e.cell)) (sym pending) (All-nil (LeadsTo v e.cell));
          },
          none,
        ),
        omega (arith, less, one, two, three),
      )

  -- ---- sums

  pub sum-done : (total after : Total) (pairs : List (ℕ × ℤ)) (q : Ask) (a : Value) → IsSum v total pairs q → value_of after ≡ sum_on v total pairs → a ≡ value_of after → a ≡ answer_on v q
  sum-done total after pairs q a is whole value = value ∙ whole ∙ is.sum

  stops-cost : (total after : Total) (pairs rest : List (ℕ × ℤ)) (weight : ℤ) (x : ℕ) → Stops v total pairs after weight rest x
      → cost_on v (values_of rest) + work_on v (of_value x) < cost_on v (values_of pairs)
  stops-cost total after pairs rest weight x stops =
      let cost = stops.advances.cost in
      let more : cost_on v (values_of ((x, weight) ∷ rest)) ≡ suc (work_on v (of_value x) + cost_on v (values_of rest)) = cost-more v (of_value x) (values_of rest) in
      omega (arith, cost, more)

  stops-sum : (total after : Total) (pairs rest : List (ℕ × ℤ)) (weight : ℤ) (x : ℕ) (q : Ask) → Stops v total pairs after weight rest x → IsSum v total pairs q
      → IsSumBut v after weight rest q (of_value x)
  stops-sum total after pairs rest weight x q stops is =
      let terms = stops.advances.terms in
      let room = is.room in
      (stops.size, (x, refl, record { sum = stops.advances.sum ∙ is.sum; room = omega (arith, terms, room) }))

  pub leaves-wait : (s after : LeafSum) (q : Ask) (x : ℕ) → IsWork v (frame.Leaves s) q → after.walk.cell ≡ s.walk.cell
      → Stops v s.walk.total (leaves_left v s) after.walk.total after.weight (leaves_left v after) x → Turns (frame.Leaves s) (frame.Leaves after) q (of_value x)
  leaves-wait s after q x (is_cell, is) cell stops = (
    stops.is_cell,
    (subst (IsCell v.model.space) (sym cell) is_cell, stops-sum s.walk.total after.walk.total (leaves_left v s) (leaves_left v after) after.weight x q stops is),
    stops-cost s.walk.total after.walk.total (leaves_left v s) (leaves_left v after) after.weight x stops,
  )

  pub components-wait : (s after : ComponentSum) (q : Ask) (x : ℕ) → IsWork v (frame.Components s) q → after.cell ≡ s.cell
      → Stops v s.sum (components_left v s) after.sum after.weight (components_left v after) x → Turns (frame.Components s) (frame.Components after) q (of_value x)
  components-wait s after q x (is_cell, is) cell stops = (
    stops.is_cell,
    (subst (IsCell v.model.space) (sym cell) is_cell, stops-sum s.sum after.sum (components_left v s) (components_left v after) after.weight x q stops is),
    stops-cost s.sum after.sum (components_left v s) (components_left v after) after.weight x stops,
  )

  -- a value more
  sum-given : (total after : Total) (weight : ℤ) (pairs : List (ℕ × ℤ)) (q next : Ask) (a : Value) → IsSumBut v total weight pairs q next → a ≡ answer_on v next → after ≡ with_term total weight a → IsSum v after pairs q
  unfolding sum_on
  sum-given total after weight pairs q next a (size, (x, same, is)) value term =
      let room = is.room in
      let whole : after ≡ with_term total weight (value_on v x) = term ∙ ap (with_term total weight) (value ∙ ap (answer_on v) same) in
      let more : after.terms ≡ total.terms + 1 = ap (λ (t : Total). t.terms) term in
      record { sum = ap (λ (t : Total). sum_on v t pairs) whole ∙ is.sum; room = omega (arith, room, more) }

  pub given-room : (total : Total) (weight : ℤ) (pairs : List (ℕ × ℤ)) (q next : Ask) → IsSumBut v total weight pairs q next → total.terms < 2 ^ 32
  given-room total weight pairs q next (size, (x, same, is)) = let room = is.room in omega (arith, room)

  pub leaves-given : (s after : LeafSum) (q next : Ask) (a : Value) → IsWaiting v (frame.Leaves s) q next → a ≡ answer_on v next
      → after.walk.total ≡ with_term s.walk.total s.weight a → after.walk.cell ≡ s.walk.cell → after.walk.from ≡ s.walk.from
      → IsWork v (frame.Leaves after) q × (work_left v (frame.Leaves after) ≤ work_left v (frame.Leaves s))
  leaves-given s after q next a (is_cell, but) value term cell from =
      let rest : leaves_left v after ≡ leaves_left v s =
      ap (λ (c : ℕ). live_from v.model.space (cells_of v.stored) v.fed c after.walk.from) cell ∙ ap (live_from v.model.space (cells_of v.stored) v.fed s.walk.cell) from in
      let cost : cost_on v (values_of (leaves_left v after)) ≡ cost_on v (values_of (leaves_left v s)) = ap (λ (pairs : List (ℕ × ℤ)). cost_on v (values_of pairs)) rest in (
        (
          subst (IsCell v.model.space) (sym cell) is_cell,
          subst (λ (pairs : List (ℕ × ℤ)). IsSum v after.walk.total pairs q) (sym rest) (sum-given s.walk.total after.walk.total s.weight (leaves_left v s) q next a but value term),
        ),
        omega (arith, cost),
      )

  pub components-given : (s after : ComponentSum) (q next : Ask) (a : Value) → IsWaiting v (frame.Components s) q next → a ≡ answer_on v next
      → after.sum ≡ with_term s.sum s.weight a → after.cell ≡ s.cell → after.dim ≡ s.dim → after.next ≡ s.next
      → IsWork v (frame.Components after) q × (work_left v (frame.Components after) ≤ work_left v (frame.Components s))
  components-given s after q next a (is_cell, but) value term cell dim place =
      let rest : components_left v after ≡ components_left v s =
      ap (λ (c : ℕ). components_on v c after.dim after.next) cell ∙ ap (λ (d : ℕ). components_on v s.cell d after.next) dim ∙ ap (components_on v s.cell s.dim) place in
      let cost : cost_on v (values_of (components_left v after)) ≡ cost_on v (values_of (components_left v s)) = ap (λ (pairs : List (ℕ × ℤ)). cost_on v (values_of pairs)) rest in (
        (
          subst (IsCell v.model.space) (sym cell) is_cell,
          subst (λ (pairs : List (ℕ × ℤ)). IsSum v after.sum pairs q) (sym rest) (sum-given s.sum after.sum s.weight (components_left v s) q next a but value term),
        ),
        omega (arith, cost),
      )

  -- how large the weights are that frames wait with
  pub leaves-size : (s : LeafSum) (q next : Ask) → IsWaiting v (frame.Leaves s) q next → unsigned_abs s.weight ≤ most_weight_product
  leaves-size s q next (is_cell, (size, rest)) = size

  pub components-size : (s : ComponentSum) (q next : Ask) → IsWaiting v (frame.Components s) q next → unsigned_abs s.weight ≤ most_weight_product
  components-size s q next (is_cell, (size, rest)) = size

  -- the first turn of a sum, and the answer to its question
  pub leaves-first : (s after : LeafSum) (q : Ask) (x : ℕ) → IsWork v (frame.Leaves s) q → after.walk.cell ≡ s.walk.cell
      → Stops v s.walk.total (leaves_left v s) after.walk.total after.weight (leaves_left v after) x → IsWaiting v (frame.Leaves after) q (of_value x)
  leaves-first s after q x work cell stops = let (asked, waiting, less) = leaves-wait s after q x work cell stops in waiting
