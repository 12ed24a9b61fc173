-- What an answer that is there was made of.
use Rattle.std.proofs.Common.{◌≡◌, Bool, true, false, Result, Ok, Err, refl, if◌then◌else◌}
use Rattle.bind_areas.specs.Meaning.{Meaning, ◌>>=◌}
use Rattle.rule_bind.specs.declared.fault.BindAt.{BindAt}
use Rattle.rule_bind.specs.Rules.{standing_at}

-- what is meant
abbrev pub answer : {A : Type 0} → A → Meaning A
answer a = Ok a

-- the first line of a `do` block that answers, and the rest of it
pub got : {E A B : Type 0} (first : Result A E) (next : A → Result B E) (b : B) → (first >>= next) ≡ Ok b → (a : A) × (first ≡ Ok a) × (next a ≡ Ok b)
got (Ok a) next b is = (a, refl, is)
got (Err e) next b is = absurd (cc is)

-- a test that has to hold before there is an answer
pub passed : {E A : Type 0} (b : Bool) (whole : Result A E) (e : E) (a : A) → (if b then whole else Err e) ≡ Ok a → (b ≡ true) × (whole ≡ Ok a)
passed true whole e a is = (refl, is)
passed false whole e a is = absurd (cc is)

-- what means something, means it wherever it stands
pub unplaced : {A : Type 0} (at : BindAt) (m : Meaning A) (a : A) → standing_at at m ≡ Ok a → m ≡ Ok a
unplaced at (Ok b) a is = cc is
unplaced at (Err cause) a is = absurd (cc is)
