-- The place where a part stands, byte by byte, and where a search finds it.
use Rattle.std.proofs.Common.{◌≡◌, ℕ, ◌+◌, ◌<◌, ◌≤◌, zero, suc, nat_eq, Bool, true, false, cond, if◌then◌else◌, List, [], ◌∷◌, length, take, drop, slice_index, Some, None, refl, sym, ap, ◌∙◌, arith, ⊎_elim, length-take, length-drop}
use Rattle.std.proofs.lemmas.Bool.{cases_Bool, cond-true, cond-false, false≢true}
use Rattle.std.specs.List.{concat, starts_with}
use Rattle.std.proofs.lemmas.Slice.Eq.{bytes_eq-Decides}
use Rattle.memchr.specs.Find.{FindsNeedle, OccursAt}
use Rattle.memchr.proofs.lemmas.MatchLemmas.{OccursAt-part, OccursAt-from_part}
use Rattle.script_values.specs.Characters.{begins_character, before_characters, characters, character_count, first_place, place_in}
use Rattle.script_values.proofs.Counted.{first_of, whole, begun, counted}

-- the place of the first character from which on part stands, behind so many characters, of which there is one
abbrev pub place_behind : List ℕ → ℕ → List ℕ → ℕ
place_behind part count [] = 0
place_behind part count (byte ∷ bytes) =
    if begins_character byte
    then (if starts_with nat_eq (byte ∷ bytes) part then suc count else place_behind part (suc count) bytes)
    else place_behind part count bytes

module _ (part : List ℕ) where
  behind_if : (b : Bool) (byte next : ℕ) (behind : List ℕ) (others : List (List ℕ)) → drop 1 (if b then (byte ∷ []) ∷ (next ∷ behind) ∷ others else (byte ∷ next ∷ behind) ∷ others) ≡ (if b then (next ∷ behind) ∷ others else others)
  behind_if true byte next behind others = refl
  behind_if false byte next behind others = refl

  by_case : (b : Bool) (count next : ℕ) (behind : List ℕ) (others : List (List ℕ)) (bytes : List ℕ) → concat ((next ∷ behind) ∷ others) ≡ next ∷ bytes
      → first_place part (suc (suc count)) others ≡ place_behind part (suc count) bytes → first_place part (suc count) others ≡ place_behind part count bytes
      → first_place part (suc count) (if b then (next ∷ behind) ∷ others else others)
      ≡ (if b then (if starts_with nat_eq (next ∷ bytes) part then suc count else place_behind part (suc count) bytes) else place_behind part count bytes)
  by_case true count next behind others bytes is own same =
      ap (λ text. if starts_with nat_eq text part then suc count else first_place part (suc (suc count)) others) is
      ∙ ap (λ place. if starts_with nat_eq (next ∷ bytes) part then suc count else place) own
  by_case false count next behind others bytes is own same = same

  -- behind the first character of a text
  behind_first : (count byte : ℕ) (bytes behind : List ℕ) (others : List (List ℕ)) → characters (byte ∷ bytes) ≡ (byte ∷ behind) ∷ others → first_place part (suc count) others ≡ place_behind part count bytes
  behind_first count byte [] behind others e = sym (ap (λ list. first_place part (suc count) (drop 1 list)) e)
  behind_first count byte (next ∷ bytes) behind others e =
      let start = first_of next bytes in
      let two = sym (ap (before_characters byte) start.parts) ∙ e in
      let left = sym (behind_if (begins_character next) byte next start.behind start.others) ∙ ap (drop 1) two in
      sym (ap (first_place part (suc count)) left)
      ∙ by_case (begins_character next) count next start.behind start.others bytes (sym (ap concat start.parts) ∙ whole (next ∷ bytes))
      (behind_first (suc count) next bytes start.behind start.others start.parts) (behind_first count next bytes start.behind start.others start.parts)

  -- in a text
  pub place_of_whole : (byte : ℕ) (bytes : List ℕ) → first_place part 1 (characters (byte ∷ bytes)) ≡ (if starts_with nat_eq (byte ∷ bytes) part then 1 else place_behind part 1 bytes)
  place_of_whole byte bytes =
      let start = first_of byte bytes in
      ap (first_place part 1) start.parts
      ∙ ap (λ text. if starts_with nat_eq text part then 1 else first_place part 2 start.others) (sym (ap concat start.parts) ∙ whole (byte ∷ bytes))
      ∙ ap (λ place. if starts_with nat_eq (byte ∷ bytes) part then 1 else place) (behind_first 1 byte bytes start.behind start.others start.parts)

abbrev head_of : List ℕ → ℕ
head_of [] = 0
head_of (byte ∷ bytes) = byte

-- where a search for a part finds it
module _ (first : ℕ) (rest : List ℕ) where
  abbrev part : List ℕ
  part = first ∷ rest

  abbrev Stands : List ℕ → ℕ → Type 0
  Stands text at = take (length part) (drop at text) ≡ part

  begins_so : (text : List ℕ) → Stands text 0 → starts_with nat_eq text part ≡ true
  begins_so text stands = (bytes_eq-Decides part (take (length part) text)).1 (sym stands)

  stands_so : (text : List ℕ) → starts_with nat_eq text part ≡ true → Stands text 0
  stands_so text begins = sym ((bytes_eq-Decides part (take (length part) text)).0 begins)

  begins_not : (text : List ℕ) → ¬ Stands text 0 → starts_with nat_eq text part ≡ false
  begins_not text none = ⊎_elim (λ begins. absurd (none (stands_so text begins))) (λ not_so. not_so) (cases_Bool (starts_with nat_eq text part))

  first_is : (byte : ℕ) (bytes : List ℕ) → Stands (byte ∷ bytes) 0 → byte ≡ first
  first_is byte bytes stands = ap head_of stands

  not_in_nothing : (at : ℕ) → ¬ Stands [] at
  not_in_nothing zero stands = absurd (omega (arith, ap length stands))
  not_in_nothing (suc at) stands = absurd (omega (arith, ap length stands))

  fits : (text : List ℕ) (at : ℕ) → Stands text at → at + length part ≤ length text
  fits text at stands = omega (arith, ap length stands, length-take (length part) (drop at text), length-drop at text)

  stands_at : (text : List ℕ) (at : ℕ) → OccursAt text part at → Stands text at
  stands_at text at occurs = OccursAt-part text part at occurs

  occurs_at : (text : List ℕ) (at : ℕ) → Stands text at → OccursAt text part at
  occurs_at text at stands = OccursAt-from_part text part at (fits text at stands) stands

  here : (c d : Bool) (count x y : ℕ) → c ≡ true → d ≡ true → (if c then (if d then suc count else x) else y) ≡ count + 0 + 1
  here true true count x y c d = omega arith
  here true false count x y c d = cc
  here false d count x y c e = cc

  later : (c d : Bool) (count x y n : ℕ) → d ≡ false → x ≡ suc count + n + 1 → y ≡ count + n + 1 → (if c then (if d then suc count else x) else y) ≡ count + cond c (suc n) n + 1
  later true true count x y n other own same = cc
  later true false count x y n other own same = omega (arith, own)
  later false d count x y n other own same = omega (arith, same)

  none_here : (c d : Bool) (count x y : ℕ) → (c ≡ true → d ≡ true → ⊥) → x ≡ 0 → y ≡ 0 → (if c then (if d then suc count else x) else y) ≡ 0
  none_here true true count x y other own same = absurd (other refl refl)
  none_here true false count x y other own same = own
  none_here false d count x y other own same = same

  found : begins_character first ≡ true → (count : ℕ) (bytes : List ℕ) (at : ℕ) → Stands bytes at → ((k : ℕ) → k < at → ¬ Stands bytes k) → place_behind part count bytes ≡ count + begun (take at bytes) + 1
  found opens count [] at stands before = absurd (not_in_nothing at stands)
  found opens count (byte ∷ bytes) zero stands before =
      here (begins_character byte) (starts_with nat_eq (byte ∷ bytes) part) count (place_behind part (suc count) bytes) (place_behind part count bytes)
      (ap begins_character (first_is byte bytes stands) ∙ opens) (begins_so (byte ∷ bytes) stands)
  found opens count (byte ∷ bytes) (suc at) stands before =
      later (begins_character byte) (starts_with nat_eq (byte ∷ bytes) part) count (place_behind part (suc count) bytes) (place_behind part count bytes) (begun (take at bytes))
      (begins_not (byte ∷ bytes) (before 0 (omega arith)))
      (found opens (suc count) bytes at stands (λ k less. before (suc k) (omega (arith, less))))
      (found opens count bytes at stands (λ k less. before (suc k) (omega (arith, less))))

  nowhere : (count : ℕ) (bytes : List ℕ) → ((k : ℕ) → ¬ Stands bytes k) → place_behind part count bytes ≡ 0
  nowhere count [] none = refl
  nowhere count (byte ∷ bytes) none =
      none_here (begins_character byte) (starts_with nat_eq (byte ∷ bytes) part) count (place_behind part (suc count) bytes) (place_behind part count bytes)
      (λ _ begins. none 0 (stands_so (byte ∷ bytes) begins))
      (nowhere (suc count) bytes (λ k. none (suc k))) (nowhere count bytes (λ k. none (suc k)))

  -- a part that begins within a character stands at none but a text's first one
  inside : begins_character first ≡ false → (count : ℕ) (bytes : List ℕ) → place_behind part count bytes ≡ 0
  inside within count [] = refl
  inside within count (byte ∷ bytes) =
      none_here (begins_character byte) (starts_with nat_eq (byte ∷ bytes) part) count (place_behind part (suc count) bytes) (place_behind part count bytes)
      (λ opens begins. (let same : begins_character byte ≡ false = ap begins_character (first_is byte bytes (stands_so (byte ∷ bytes) begins)) ∙ within in false≢true (sym same ∙ opens)))
      (inside within (suc count) bytes) (inside within count bytes)

  -- What a search says.

  place_found : (text : List ℕ) (at : ℕ) → begins_character first ≡ true → FindsNeedle text part 0 (Some at) → place_in part text ≡ character_count (take at text) + 1
  unfolding place_in character_count
  place_found [] at opens search = absurd (not_in_nothing at (stands_at [] at search.1))
  place_found (byte ∷ bytes) zero opens search =
      place_of_whole part byte bytes ∙ cond-true _ _ _ (begins_so (byte ∷ bytes) (stands_at (byte ∷ bytes) 0 search.1))
  place_found (byte ∷ bytes) (suc at) opens search =
      let none : (k : ℕ) → k < suc at → ¬ Stands (byte ∷ bytes) k = λ k less stands. search.0.before k (omega arith) less (occurs_at (byte ∷ bytes) k stands) in
      let behind = found opens 1 bytes at (stands_at (byte ∷ bytes) (suc at) search.1) (λ k less. none (suc k) (omega (arith, less))) in
      let same : 1 + begun (take at bytes) + 1 ≡ length (characters (byte ∷ take at bytes)) + 1 = omega (arith, counted byte (take at bytes)) in
      place_of_whole part byte bytes ∙ cond-false _ _ _ (begins_not (byte ∷ bytes) (none 0 (omega arith))) ∙ behind ∙ same

  place_nowhere : (text : List ℕ) → FindsNeedle text part 0 None → place_in part text ≡ 0
  unfolding place_in
  place_nowhere [] search = refl
  place_nowhere (byte ∷ bytes) search =
      let none : (k : ℕ) → ¬ Stands (byte ∷ bytes) k = λ k stands. search k (omega arith) (omega (arith, fits (byte ∷ bytes) k stands)) (occurs_at (byte ∷ bytes) k stands) in
      place_of_whole part byte bytes ∙ cond-false _ _ _ (begins_not (byte ∷ bytes) (none 0)) ∙ nowhere 1 bytes (λ k. none (suc k))

  place_inside : (text : List ℕ) → begins_character first ≡ false → place_in part text ≡ cond (starts_with nat_eq text part) 1 0
  unfolding place_in
  place_inside [] within = sym (ap (λ b. cond b 1 0) (begins_not [] (not_in_nothing 0)))
  place_inside (byte ∷ bytes) within = place_of_whole part byte bytes ∙ ap (λ place. if starts_with nat_eq (byte ∷ bytes) part then 1 else place) (inside within 1 bytes)

-- The same of a part that isn't empty.

pub found_at : (part text : List ℕ) (at : ℕ) → 1 ≤ length part → begins_character (slice_index part 0) ≡ true → FindsNeedle text part 0 (Some at) → place_in part text ≡ character_count (take at text) + 1
found_at [] text at some opens search = absurd (omega (arith, some))
found_at (first ∷ rest) text at some opens search = place_found first rest text at opens search

pub found_nowhere : (part text : List ℕ) → 1 ≤ length part → FindsNeedle text part 0 None → place_in part text ≡ 0
found_nowhere [] text some search = absurd (omega (arith, some))
found_nowhere (first ∷ rest) text some search = place_nowhere first rest text search

pub found_inside : (part text : List ℕ) → 1 ≤ length part → begins_character (slice_index part 0) ≡ false → place_in part text ≡ cond (starts_with nat_eq text part) 1 0
found_inside [] text some within = absurd (omega (arith, some))
found_inside (first ∷ rest) text some within = place_inside first rest text within
