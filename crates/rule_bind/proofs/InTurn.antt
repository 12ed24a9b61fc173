-- Lists that are bound item by item.
use Rattle.std.proofs.Common.{◌≡◌, List, [], ◌∷◌, ◌++◌, Result, Ok, Err, refl, sym, ap, append_assoc}
use Rattle.bind_areas.specs.Meaning.{◌>>=◌}
pub use Rattle.lists.proofs.Found.{behind}

pub behind_none : {E A : Type 0} (all : Result (List A) E) → behind [] all ≡ all
behind_none (Ok rest) = refl
behind_none (Err e) = refl

pub one_behind : {E A : Type 0} (front : List A) (a : A) (later : Result (List A) E) → behind front (later >>= (λ rest. Ok (a ∷ rest))) ≡ behind (front ++ a ∷ []) later
one_behind front a (Ok rest) = ap Ok (sym (append_assoc front (a ∷ []) rest))
one_behind front a (Err e) = refl

pub all_behind : {E A : Type 0} (front first : List A) (later : Result (List A) E) → behind front (later >>= (λ rest. Ok (first ++ rest))) ≡ behind (front ++ first) later
all_behind front first (Ok rest) = ap Ok (sym (append_assoc front first rest))
all_behind front first (Err e) = refl
