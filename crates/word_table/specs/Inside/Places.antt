-- What the table keeps beside the words.
use Rattle.std.specs.Prelude.{◌≡◌, ℕ, List, Vec, position, bytes_eq}
use Rattle.std.specs.BTreeMap.{BTreeMap, get_by}
use Rattle.std.specs.Cmp.Lexicographic.{slice_cmp}
use Rattle.std.specs.Ordering.{nat_cmp}
use Rattle.std.specs.declared.alloc.Global.{Global}

-- the first place of each word
pub record ArePlaces (words : List (List ℕ)) (places : BTreeMap (Vec ℕ Global) ℕ) : Type 0 where
  pub found : (word : List ℕ) → get_by (λ key. slice_cmp nat_cmp word key.items) places
      ≡ position (λ other. bytes_eq other word) words
