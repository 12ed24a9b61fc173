-- Order lines whose order is to be found, and those that tell leaf cells and consolidated cells apart.
use Rattle.std.specs.Prelude.{Bool, true, false, List}
use Rattle.std.specs.List.{list_any}
use Rattle.model_text.specs.declared.order.OrderWord.{OrderWord}
use Rattle.model_text.specs.declared.order.OrderWord.TheVariants as words

-- whether a word is `AUTO`, with what stands behind it
abbrev pub is_auto : OrderWord → Bool
is_auto (words.Constant n) = false
is_auto (words.Index shown) = false
is_auto (words.Ranks shown list) = false
is_auto (words.RanksByKind shown leaves totals) = false
is_auto words.Totals = false
is_auto (words.Auto totals lag) = true

-- whether one of the words of an order line is
abbrev pub has_auto : List OrderWord → Bool
has_auto list = list_any is_auto list

-- whether a position has a number for leaf cells and another for consolidated cells, or those that are found may
abbrev pub is_by_kind : OrderWord → Bool
is_by_kind (words.Constant n) = false
is_by_kind (words.Index shown) = false
is_by_kind (words.Ranks shown list) = false
is_by_kind (words.RanksByKind shown leaves totals) = true
is_by_kind words.Totals = true
is_by_kind (words.Auto totals lag) = totals

-- whether one of the words of an order line has
abbrev pub has_kinds : List OrderWord → Bool
has_kinds list = list_any is_by_kind list
