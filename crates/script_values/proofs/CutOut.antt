-- The bytes of chosen characters, byte by byte.
use Rattle.std.proofs.Common.{◌≡◌, ℕ, suc, Bool, true, false, if◌then◌else◌, List, [], ◌∷◌, ◌++◌, refl, sym, ap, ◌∙◌}
use Rattle.script_values.specs.Characters.{begins_character, before_characters, characters, at_places}
use Rattle.script_values.specs.Inside.Bytewise.{begins_behind}
use Rattle.script_values.proofs.Counted.{first_of}

abbrev pub kept_if : Bool → ℕ → List ℕ → List ℕ
kept_if is_kept byte bytes = if is_kept then byte ∷ bytes else bytes

-- the bytes of the chosen characters, behind so many characters
abbrev pub chosen_behind : (ℕ → Bool) → ℕ → List ℕ → List ℕ
chosen_behind is_chosen count [] = []
chosen_behind is_chosen count (byte ∷ bytes) =
    if begins_behind count byte then kept_if (is_chosen (suc count)) byte (chosen_behind is_chosen (suc count) bytes)
    else kept_if (is_chosen count) byte (chosen_behind is_chosen count bytes)

own_character : (c : Bool) (byte : ℕ) (rest : List ℕ) → (if c then byte ∷ [] else []) ++ rest ≡ kept_if c byte rest
own_character true byte rest = refl
own_character false byte rest = refl

same_character : (c : Bool) (byte : ℕ) (behind rest : List ℕ) → (if c then byte ∷ behind else []) ++ rest ≡ kept_if c byte ((if c then behind else []) ++ rest)
same_character true byte behind rest = refl
same_character false byte behind rest = refl

module _ (is_chosen : ℕ → Bool) where
  one_before : (b : Bool) (place byte next : ℕ) (behind : List ℕ) (others : List (List ℕ))
      → at_places is_chosen place (if b then (byte ∷ []) ∷ (next ∷ behind) ∷ others else (byte ∷ next ∷ behind) ∷ others)
      ≡ kept_if (is_chosen place) byte (if b then at_places is_chosen (suc place) ((next ∷ behind) ∷ others) else at_places is_chosen place ((next ∷ behind) ∷ others))
  one_before true place byte next behind others = own_character (is_chosen place) byte (at_places is_chosen (suc place) ((next ∷ behind) ∷ others))
  one_before false place byte next behind others = same_character (is_chosen place) byte (next ∷ behind) (at_places is_chosen (suc place) others)

  either_way : (b : Bool) (x y u v : List ℕ) → x ≡ u → y ≡ v → (if b then x else y) ≡ (if b then u else v)
  either_way true x y u v e f = e
  either_way false x y u v e f = f

  cut_behind : (count byte : ℕ) (bytes : List ℕ) → at_places is_chosen (suc count) (characters (byte ∷ bytes)) ≡ kept_if (is_chosen (suc count)) byte (chosen_behind is_chosen (suc count) bytes)
  cut_behind count byte [] = own_character (is_chosen (suc count)) byte []
  cut_behind count byte (next ∷ bytes) =
      let start = first_of next bytes in
      let own = sym (ap (at_places is_chosen (suc (suc count))) start.parts) ∙ cut_behind (suc count) next bytes in
      let same = sym (ap (at_places is_chosen (suc count)) start.parts) ∙ cut_behind count next bytes in
      ap (λ list. at_places is_chosen (suc count) (before_characters byte list)) start.parts
      ∙ one_before (begins_character next) (suc count) byte next start.behind start.others
      ∙ ap (kept_if (is_chosen (suc count)) byte) (either_way (begins_character next) _ _ _ _ own same)

  pub cut_whole : (text : List ℕ) → chosen_behind is_chosen 0 text ≡ at_places is_chosen 1 (characters text)
  cut_whole [] = refl
  cut_whole (byte ∷ bytes) = sym (cut_behind 0 byte bytes)
