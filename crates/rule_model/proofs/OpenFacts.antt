-- Which words the N parts of statements have, and what they decide of a cell.
use Rattle.std.proofs.Common.{◌≡◌, ℕ, ◌+◌, ◌<◌, Bool, true, false, ◌&&◌, ◌||◌, List, [], ◌∷◌, ◌++◌, length, map, take, drop, drop-cons, Option, Some, None, refl, sym, ap, ◌∙◌, add-one, take-suc}
use Rattle.std.specs.Prelude.{is_some, slice_index_or, if◌then◌else◌}
use Rattle.std.specs.Option.{option_map_or}
use Rattle.std.proofs.lemmas.List.{get_or-map, map_push}
use Rattle.rule_laws.specs.declared.formula.Formula.{Formula}
use Rattle.rule_model.specs.declared.rules.Statement.{Statement}
use Rattle.rule_model.specs.declared.words.Words.{Words}
use Rattle.rule_model.specs.Areas.{in_sets}
use Rattle.rule_model.specs.Input.{has_stet, has_continue}
use Rattle.rule_model.specs.Inside.Parts.{part_for, is_open_by}
use Rattle.rule_model.specs.Inside.Words.{words_in, leaf_words}

-- one item more of a list that is mapped
pub map_more : {X Y : Type 0} (f : X → Y) (xs : List X) (i : ℕ) (x : X) → i < length xs → x ≡ slice_index_or xs i x
    → map f (take i xs) ++ f x ∷ [] ≡ map f (take (i + 1) xs)
map_more f xs i x low is =
    let longer : take (i + 1) xs ≡ take i xs ++ x ∷ [] = rw (add-one, take-suc xs i x low, ← is) refl in
    sym (ap (map f) longer ∙ map_push f (take i xs) x)

-- what the words of a part decide, where there is one
abbrev decides : Option Formula → Bool → Bool
decides part rest = option_map_or (λ f. has_stet f || (has_continue f && rest)) part rest

abbrev no_words : Words
no_words = record { stet = false; rest = false }

abbrev words_decide : Words → Bool → Bool
words_decide words rest = words.stet || (words.rest && rest)

by_words : (b : Bool) (part : Option Formula) (rest : Bool) → is_some (if b then part else None) ≡ true
    → decides (if b then part else None) rest ≡ words_decide (option_map_or words_in part no_words) rest
by_words true (Some f) rest some = refl
by_words true None rest some = absurd (cc some)
by_words false part rest some = absurd (cc some)

by_part : (s : Statement) (elements : List ℕ) (rest : Bool) → is_some (part_for s elements true) ≡ true
    → decides (part_for s elements true) rest ≡ words_decide (leaf_words s) rest
unfolding part_for
by_part s elements rest some = by_words (in_sets s.area.sets elements) s.leaf rest some

pub ends_by_stet : (w : Words) (rest : Bool) → w.stet ≡ true → words_decide w rest ≡ w.stet
ends_by_stet w rest on = rw on refl

pub ends_closed : (w : Words) (rest : Bool) → w.rest ≡ false → words_decide w rest ≡ w.stet
ends_closed w rest off = rw off (by w.stet)
  where
    by : (b : Bool) → (b || false) ≡ b
    by true = refl
    by false = refl

pub goes_on : (w : Words) (rest : Bool) → w.stet ≡ false → w.rest ≡ true → words_decide w rest ≡ rest
goes_on w rest off on = rw (off, on) refl

by_none : (part : Option Formula) (rest : Bool) → is_some part ≡ false → decides part rest ≡ rest
by_none None rest none = refl
by_none (Some f) rest none = absurd (cc none)

module _ (statements : List Statement) (elements : List ℕ) (i : ℕ) (s : Statement) (low : i < length statements)
    (is : s ≡ slice_index_or statements i s) where
  abbrev rest : Bool
  rest = is_open_by (drop (i + 1) statements) elements

  first : is_open_by (drop i statements) elements ≡ decides (part_for s elements true) rest
  first = rw (add-one, drop-cons statements i s low, ← is) refl

  pub passed : is_some (part_for s elements true) ≡ false → is_open_by (drop i statements) elements ≡ rest
  passed none = first ∙ by_none (part_for s elements true) rest none

  pub decided : (words : List Words) → words ≡ map leaf_words statements → is_some (part_for s elements true) ≡ true
      → is_open_by (drop i statements) elements ≡ words_decide (slice_index_or words i no_words) rest
  decided words are some =
      let here : leaf_words s ≡ slice_index_or words i no_words =
      sym (ap (λ ws. slice_index_or ws i no_words) are ∙ get_or-map leaf_words statements i s no_words low ∙ ap leaf_words (sym is)) in
      first ∙ by_part s elements rest some ∙ ap (λ ws. words_decide ws rest) here
