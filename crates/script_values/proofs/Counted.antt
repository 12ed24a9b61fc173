-- Characters byte by byte.
use Rattle.std.proofs.Common.{◌≡◌, ℕ, ◌+◌, ◌-◌, ◌≤◌, suc, Bool, true, false, if◌then◌else◌, cond, List, [], ◌∷◌, length, take, drop, refl, sym, ap, ◌∙◌, arith}
use Rattle.std.proofs.Math.Seq.{take-length}
use Rattle.std.specs.List.{concat, count_by}
use Rattle.std.proofs.lemmas.List.Recursion.{is_count_by}
use Rattle.script_values.specs.Characters.{begins_character, is_begun, before_characters, characters}

-- the characters behind a byte begin with that byte
pub record StartsWith (byte : ℕ) (list : List (List ℕ)) : Type 0 where
  pub behind : List ℕ
  pub others : List (List ℕ)
  pub parts : list ≡ (byte ∷ behind) ∷ others

chosen_start : (b : Bool) (byte : ℕ) (character : List ℕ) (others : List (List ℕ)) → StartsWith byte (if b then (byte ∷ []) ∷ character ∷ others else (byte ∷ character) ∷ others)
chosen_start true byte character others = record { behind = []; others = character ∷ others; parts = refl }
chosen_start false byte character others = record { behind = character; others = others; parts = refl }

start_of : (byte : ℕ) (list : List (List ℕ)) → StartsWith byte (before_characters byte list)
start_of byte [] = record { behind = []; others = []; parts = refl }
start_of byte (character ∷ others) = chosen_start (is_begun character) byte character others

pub first_of : (byte : ℕ) (bytes : List ℕ) → StartsWith byte (characters (byte ∷ bytes))
first_of byte bytes = start_of byte (characters bytes)

-- The text is its characters.

whole_if : (b : Bool) (byte : ℕ) (character : List ℕ) (others : List (List ℕ)) → concat (if b then (byte ∷ []) ∷ character ∷ others else (byte ∷ character) ∷ others) ≡ byte ∷ concat (character ∷ others)
whole_if true byte character others = refl
whole_if false byte character others = refl

whole_before : (byte : ℕ) (list : List (List ℕ)) → concat (before_characters byte list) ≡ byte ∷ concat list
whole_before byte [] = refl
whole_before byte (character ∷ others) = whole_if (is_begun character) byte character others

pub whole : (text : List ℕ) → concat (characters text) ≡ text
whole [] = refl
whole (byte ∷ bytes) = whole_before byte (characters bytes) ∙ ap (λ rest. byte ∷ rest) (whole bytes)

-- How many there are.

-- how many characters begin among bytes
abbrev pub begun : List ℕ → ℕ
begun [] = 0
begun (byte ∷ bytes) = cond (begins_character byte) (suc (begun bytes)) (begun bytes)

begun_one : (byte : ℕ) (bytes : List ℕ) → begun (byte ∷ bytes) ≡ cond (begins_character byte) (1 + begun bytes) (begun bytes)
begun_one byte bytes = let next : suc (begun bytes) ≡ 1 + begun bytes = omega arith in ap (λ n. cond (begins_character byte) n (begun bytes)) next

begun_count : (bytes : List ℕ) → begun bytes ≡ count_by begins_character bytes
begun_count bytes = is_count_by begun begins_character refl begun_one bytes

one_more : (b : Bool) (byte next : ℕ) (behind : List ℕ) (others : List (List ℕ)) (n : ℕ) → length others ≡ n
    → length (if b then (byte ∷ []) ∷ (next ∷ behind) ∷ others else (byte ∷ next ∷ behind) ∷ others) ≡ suc (cond b (suc n) n)
one_more true byte next behind others n e = ap (λ m. suc (suc m)) e
one_more false byte next behind others n e = ap suc e

pub counted : (byte : ℕ) (bytes : List ℕ) → length (characters (byte ∷ bytes)) ≡ suc (begun bytes)
counted byte [] = refl
counted byte (next ∷ bytes) =
    let start = first_of next bytes in
    let whole_length : suc (length start.others) ≡ suc (begun bytes) = sym (ap length start.parts) ∙ counted next bytes in
    let behind : length start.others ≡ begun bytes = omega (arith, whole_length) in
    ap (λ list. length (before_characters byte list)) start.parts ∙ one_more (begins_character next) byte next start.behind start.others (begun bytes) behind

-- the bytes behind the first one
behind_one : (byte : ℕ) (bytes : List ℕ) → take (length (byte ∷ bytes) - 1) (drop 1 (byte ∷ bytes)) ≡ bytes
behind_one byte bytes = let one_less : length (byte ∷ bytes) - 1 ≡ length bytes = omega arith in ap (λ n. take n bytes) one_less ∙ take-length bytes

pub count_of_text : (text : List ℕ) → 1 ≤ length text → length (characters text) ≡ count_by begins_character (take (length text - 1) (drop 1 text)) + 1
count_of_text [] some = absurd (omega (arith, some))
count_of_text (byte ∷ bytes) some = omega (arith, counted byte bytes, begun_count bytes, ap (λ rest. count_by begins_character rest) (behind_one byte bytes))
