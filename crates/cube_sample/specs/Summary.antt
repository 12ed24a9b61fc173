-- The summary of a sample's run.
use Rattle.std.specs.Prelude.{ℕ, List, ◌++◌, codes, decimal}
use Rattle.cube_fixed.specs.Text.{printed}
use Rattle.cube_fixed.specs.declared.value.Value.{Value}

-- the size, the numbers of stored and of fed cells, and the totals of units and of sales
abbrev pub summary_text : ℕ → ℕ → ℕ → Value → Value → List ℕ
summary_text size stored fed units sales =
    codes "sample " ++ decimal size ++ codes "\nstored " ++ decimal stored ++ codes "\nfed " ++ decimal fed
    ++ codes "\nUnits " ++ printed units ++ codes "\nSales " ++ printed sales ++ codes "\n"
