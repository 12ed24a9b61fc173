-- Where evaluation doesn't reach CONTINUE, what comes after a statement makes no difference.
use Rattle.std.proofs.Common.{◌≡◌, refl, sym, ◌∙◌, arith, ℕ, zero, suc, ◌<◌, true, false, List, [], ◌∷◌, length, get_or, Option, Some, None}
use Rattle.std.specs.List.{Contains}
use Rattle.cube_fixed.specs.declared.value.Value.{Value}
use Rattle.rule_laws.specs.declared.formula.Formula.{Formula}
use Rattle.cell_trace.specs.declared.item.Item.{Item}
use Rattle.cell_trace.specs.declared.item.Item.TheVariants.{Read, Children, Own, Rest}
use Rattle.cell_trace.specs.Inside.Place.{Place, given_at}
use Rattle.cell_trace.specs.Laws.{AreOfOneCell}
use Rattle.cell_trace.specs.Trace.{reaches_rest}
use Rattle.cell_trace.specs.Visits.{Visit, visit}
use Rattle.cell_trace.proofs.PlaceFacts.{no_components}
use Rattle.cell_trace.proofs.VisitLaws.{alike}

rest_at : (items : List (Option Item)) (k : ℕ) → k < length items → get_or items k (Some Rest) ≡ Some Rest → reaches_rest items ≡ true
rest_at [] k low is = absurd (omega arith)
rest_at (item ∷ items) zero low is = let here : item ≡ Some Rest = is in rw here refl
rest_at (item ∷ items) (suc k) low is = by item (rest_at items k (omega arith) is)
  where
    by : (item : Option Item) → reaches_rest items ≡ true → reaches_rest (item ∷ items) ≡ true
    by None more = more
    by (Some (Read target)) more = more
    by (Some (Children dim)) more = more
    by (Some Own) more = more
    by (Some Rest) more = refl

module _ (p : Place) (rest other : Value) where
  of_one_cell : AreOfOneCell (given_at p rest) (given_at p other)
  of_one_cell = record {
    own = λ dim none. (no_components p dim none).0;
    other_own = λ dim none. (no_components p dim none).0;
    target = λ r. refl;
    components = λ dim. refl;
    elements = λ dim. refl;
  }

  pub without_rest : (f : Formula) → reaches_rest (visit (given_at p rest) f).items ≡ false → visit (given_at p other) f ≡ visit (given_at p rest) f
  without_rest f off =
      alike (given_at p rest) (given_at p other) of_one_cell f
      (record { reads = λ r has. refl; sums = λ dim has. refl; own = λ has. refl; rest = λ has. none has })
    where
      none : {A : Type 0} → Contains (visit (given_at p rest) f).items (Some Rest) → A
      none has =
          let clash : false ≡ true = sym off ∙ rest_at (visit (given_at p rest) f).items has.0 has.1 has.2 in
          absurd (cc clash)
