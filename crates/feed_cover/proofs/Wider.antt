-- Where more elements count, more are narrow: what holds of each of them holds where fewer count.
use Rattle.std.proofs.Common.{◌≡◌, refl, sym, ap, ◌∙◌, ℕ, suc, Bool, true, false, ◌&&◌, ◌||◌, ◌==◌, Option, Some, None, List, [], ◌∷◌, is_none}
use Rattle.std.specs.List.{list_all}
use Rattle.std.specs.Option.{option_map_or}
use Rattle.std.proofs.lemmas.Bool.{and_parts, and_from}
use Rattle.cube_space.specs.Layout.{Layout, axes}
use Rattle.rule_laws.specs.declared.reference.Arg.{Arg}
use Rattle.rule_laws.specs.declared.reference.Arg.TheVariants.{Fixed, Moved}
use Rattle.rule_laws.specs.declared.reference.Reference.{Reference}
use Rattle.rule_model.specs.declared.area.Area.{Area}
use Rattle.rule_model.specs.declared.rules.Statement.{Statement}
use Rattle.rule_model.specs.BoundModel.{BoundModel}
use Rattle.rule_model.specs.Conditions.{IsArea}
use Rattle.order_laws.specs.Scales.{is_leaf_element}
use Rattle.cover_laws.specs.Looking.{Look, sent, names_one, name_each, is_narrow, each_narrow, each_named, all_named}
use Rattle.cover_laws.specs.Covered.{look_within, names_no_total}
use Rattle.cover_laws.proofs.Looks.{not-or, or-not, each_narrow-elim, each_narrow-intro}

module _ (space : Layout) (cube : ℕ) (area : Area) (args : List Arg) (few : ℕ → ℕ → Bool) where
  abbrev narrower : Look
  narrower = record { space = space; cube = cube; area = area; args = args; counts = few }

  abbrev wider : Look
  wider = record { space = space; cube = cube; area = area; args = args; counts = λ j e. true }

  one : (j : ℕ) (arg : Arg) (i e : ℕ) → names_one (few j) arg i e ≡ true → names_one (λ e. true) arg i e ≡ true
  one j (Fixed t) i e h = refl
  one j (Moved from to) i e h = or-not (i == from) _ (λ same. sends (sent to e) (not-or (i == from) _ h same))
    where
      sends : (o : Option ℕ) → option_map_or (few j) o false ≡ true → option_map_or (λ e. true) o false ≡ true
      sends None h = h
      sends (Some t) h = refl

  names : (j : ℕ) (xs : List Arg) (i e : ℕ) → name_each few j xs i e ≡ true → name_each (λ j e. true) j xs i e ≡ true
  names j [] i e h = refl
  names j (arg ∷ xs) i e h = let parts = and_parts _ _ h in and_from _ _ (one j arg i e parts.0) (names (suc j) xs i e parts.1)

  narrow : (i e : ℕ) → is_narrow narrower i e ≡ true → is_narrow wider i e ≡ true
  unfolding is_narrow
  narrow i e h = let parts = and_parts _ _ h in and_from _ _ parts.0 (names 0 args i e parts.1)

  module _ (is_area : IsArea space cube area) where
    each : (i : ℕ) (test : ℕ → Bool) → each_narrow wider i test ≡ true → each_narrow narrower i test ≡ true
    each i test h = each_narrow-intro narrower is_area i test (λ e is. each_narrow-elim wider is_area i test h e (record { inside = is.inside; narrow = narrow i e is.narrow }))

    named : (test : ℕ → Bool) (arg : Arg) → each_named wider test arg ≡ true → each_named narrower test arg ≡ true
    named test (Fixed t) h = h
    named test (Moved from to) h = each from (λ e. option_map_or test (sent to e) true) h

    pub all-wider : (test : ℕ → ℕ → Bool) (j : ℕ) (xs : List Arg) → all_named wider test j xs ≡ true → all_named narrower test j xs ≡ true
    all-wider test j [] h = refl
    all-wider test j (arg ∷ xs) h = let parts = and_parts _ _ h in and_from _ _ (named (test j) arg parts.0) (all-wider test (suc j) xs parts.1)

true-or : (t u : Bool) → t ≡ true → t || u ≡ true
true-or true u h = refl
true-or false u h = absurd (cc)

or-true : (t u : Bool) → u ≡ true → t || u ≡ true
or-true true u h = refl
or-true false u h = h

pub no-total : (m : BoundModel) (cube : ℕ) (area : Area) (r : Reference) (governed : Area) → all_named (look_within m cube area r governed) (is_leaf_element (axes m.space r.cube)) 0 r.args ≡ true
    → names_no_total m cube area r governed ≡ true
unfolding names_no_total
no-total m cube area r governed h = true-or _ _ h

pub none-governed : (m : BoundModel) (cube : ℕ) (area : Area) (r : Reference) (statements : List Statement) → ((governed : Area) → names_no_total m cube area r governed ≡ true)
    → true ≡ list_all (λ (s : Statement). is_none s.cons || names_no_total m cube area r s.area) statements
none-governed m cube area r [] h = refl
none-governed m cube area r (s ∷ statements) h =
    none-governed m cube area r statements h ∙ ap (λ t. t && list_all (λ (s : Statement). is_none s.cons || names_no_total m cube area r s.area) statements) (sym (or-true (is_none s.cons) _ (h s.area)))
