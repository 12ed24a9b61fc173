-- Parameters that are set, by the places of their words.
use Rattle.std.proofs.Common.{◌≡◌, true, false, Bool, ◌||◌, ℕ, List, [], ◌∷◌, cond, Option, Some, None, find, option_map, is_some, bytes_eq, refl}
use Rattle.user_text.specs.UserText.{is_set, set_to}
use Rattle.user_text.specs.declared.command.ParamText.{ParamText}

here_or_behind : (param : List ℕ × ParamText) (params : List (List ℕ × ParamText)) (word : List ℕ) (b : Bool) → is_some (set_to params word) ≡ is_set params word
    → is_some (option_map (λ param. param.1) (cond b (Some param) (find (λ param. bytes_eq param.0 word) params))) ≡ (b || is_set params word)
here_or_behind param params word true behind = refl
here_or_behind param params word false behind = behind

-- what is set has a value
pub set_or_not : (params : List (List ℕ × ParamText)) (word : List ℕ) → is_some (set_to params word) ≡ is_set params word
set_or_not [] word = refl
set_or_not (param ∷ params) word = here_or_behind param params word (bytes_eq param.0 word) (set_or_not params word)

pub some_mapped : {A B : Type 0} (f : A → B) (found : Option A) → is_some found ≡ is_some (option_map f found)
some_mapped f None = refl
some_mapped f (Some a) = refl
