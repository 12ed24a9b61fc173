-- What an operation gives is a number, which a variable keeps.
use Rattle.std.proofs.Common.{◌≡◌, ◌∙◌, refl, sym, ap, subst, List, Result, Ok, Err}
use Rattle.cube_fixed.specs.declared.value.Value.{Value}
use Rattle.rule_laws.specs.Operation.{operation_of}
use Rattle.rule_laws.specs.declared.operation.Op.{Op}
use Rattle.script_bound.specs.declared.term.Term.{Term}
use Rattle.script_bound.specs.declared.term.Term.TheFolds.{fold-roll-Term}
use Rattle.script_bound.specs.declared.term.Term.TheOpen.{Term-F}
use Rattle.script_bound.specs.declared.term.Term.TheVariants as terms
use Rattle.script_bound.specs.declared.term.Term.TheVariants.{rolls-Amounts}
use Rattle.script_values.specs.Cells.{Store, Write}
use Rattle.script_values.specs.Scene.{Scene}
use Rattle.script_values.specs.Values.{taken, done, amount, operated, one_and_other, value_of, value_step, Reading}
use Rattle.script_values.specs.declared.datum.Datum.{Datum}
use Rattle.script_values.specs.declared.datum.Datum.TheVariants as data_of
use Rattle.script_values.specs.declared.kept.Kept.TheVariants as kept
use Rattle.script_values.specs.declared.load_reason.LoadReason.{LoadReason}
use Rattle.script_run.specs.Meaning.{as_kept}

pub operated_kept : (op : Op) (x y : Result Datum LoadReason) → taken as_kept (operated op x y) ≡ done kept.Number (amount (operated op x y))
unfolding operated
operated_kept op x y = by (amount x) (amount y)
  where
    make : Value → Value → Datum
    make left right = data_of.Number (operation_of op left right)

    by : (a b : Result Value LoadReason) → taken as_kept (one_and_other make a b) ≡ done kept.Number (amount (one_and_other make a b))
    by (Ok a) (Ok b) = refl
    by (Ok a) (Err reason) = refl
    by (Err reason) b = refl

amounts_value : (op : Op) (left right : Term) → value_of (terms.Amounts op left right) ≡ value_step (Term-F.Amounts op (value_of left) (value_of right))
amounts_value op left right =
    ap value_of (sym (rolls-Amounts op left right)) ∙ fold-roll-Term Reading value_step (Term-F.Amounts op left right)

-- what an expression gives that is an operation
pub amounts_kept : (term : Term) (op : Op) (left right : Term) → term ≡ terms.Amounts op left right → (scene : Scene) (store : Store) (w : List Write)
    → taken as_kept (value_of term scene store w) ≡ done kept.Number (amount (value_of term scene store w))
amounts_kept term op left right is scene store w =
    let at : value_of term scene store w ≡ operated op (value_of left scene store w) (value_of right scene store w) = ap (λ t. value_of t scene store w) is ∙ ap (λ read. read scene store w) (amounts_value op left right) in
    subst (λ d. taken as_kept d ≡ done kept.Number (amount d)) (sym at) (operated_kept op (value_of left scene store w) (value_of right scene store w))
