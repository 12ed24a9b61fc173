-- The references of a statement, as they are counted.
use Rattle.std.specs.Prelude.{Option, Some, None, List, [], ◌∷◌, ◌++◌, map}
use Rattle.std.specs.Option.{option_map_or}
use Rattle.rule_laws.specs.declared.formula.Formula.{Formula}
use Rattle.rule_laws.specs.Meaning.{Precedent, precedents}
use Rattle.rule_model.specs.declared.rules.Statement.{Statement}
use Rattle.rule_model.specs.declared.rules.Form.{Form}
use Rattle.rule_model.specs.declared.rules.Form.TheVariants.{Both, LeafFirst, ConsFirst}

-- a reference as it is counted: what it reads for leaf cells, and for consolidated cells
pub record Counted : Type 0 where
  pub leaf : Option Precedent
  pub cons : Option Precedent

abbrev pub for_leaf : Precedent → Counted
for_leaf p = record { leaf = Some p; cons = None }

abbrev pub for_cons : Precedent → Counted
for_cons p = record { leaf = None; cons = Some p }

-- a reference of a formula that is both parts is counted once
abbrev pub for_both : List Precedent → List Precedent → List Counted
for_both [] cons = map for_cons cons
for_both (p ∷ leaf) [] = map for_leaf (p ∷ leaf)
for_both (p ∷ leaf) (q ∷ cons) = record { leaf = Some p; cons = Some q } ∷ for_both leaf cons

-- else the references of the part that stands first come first
abbrev pub counted_by : Form → List Precedent → List Precedent → List Counted
counted_by Both leaf cons = for_both leaf cons
counted_by LeafFirst leaf cons = map for_leaf leaf ++ map for_cons cons
counted_by ConsFirst leaf cons = map for_cons cons ++ map for_leaf leaf

-- what a part reads, in reading order
abbrev pub reads : Option Formula → List Precedent
reads part = option_map_or precedents part []

-- the references of a statement, in the order in which they are counted
unfoldable pub counted_of : Statement → List Counted
counted_of s = counted_by s.form (reads s.leaf) (reads s.cons)
