-- Maps that were made already.
use Rattle.std.proofs.Common.{◌≡◌, ◌<◌, ℕ, List, [], ◌∷◌, ◌++◌, length, get_or, sym, subst, arith}
use Rattle.std.proofs.lemmas.List.Elements.{All-push}
use Rattle.cube_space.specs.Layout.{Layout}
use Rattle.bind_arguments.specs.Maps.{IsMapIn, AreOwnMapsIn}
use Rattle.bind_arguments.specs.declared.own_maps.BoundMap.{BoundMap}

module _ (space : Layout) where
  pub none_made : AreOwnMapsIn space []
  unfolding AreOwnMapsIn
  none_made k d low = absurd (omega (arith, low))

  pub one_more : (maps : List BoundMap) (made : BoundMap) → AreOwnMapsIn space maps → IsMapIn space made → AreOwnMapsIn space (maps ++ made ∷ [])
  unfolding AreOwnMapsIn
  one_more maps made are is = All-push (IsMapIn space) maps made are is

  pub one_of : (maps : List BoundMap) (place : ℕ) (made : BoundMap) → AreOwnMapsIn space maps → place < length maps → made ≡ get_or maps place made → IsMapIn space made
  unfolding AreOwnMapsIn
  one_of maps place made are low is = subst (IsMapIn space) (sym is) (are place made low)
