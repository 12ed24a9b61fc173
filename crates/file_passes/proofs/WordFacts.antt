-- Words, read one after another.
use Rattle.std.proofs.Common.{◌≡◌, ℕ, ◌+◌, ◌<◌, ◌≤◌, zero, suc, List, [], ◌∷◌, length, get_or, drop, drop-cons, add-one, refl, ap, String, string_bytes, arith}
use Rattle.std.specs.declared.alloc.Global.{Global}
use Rattle.cube_words.specs.Words.{texts_of}

-- the elements from one on
pub drop-item : {A : Type 0} (xs : List A) (i : ℕ) (x : A) → i < length xs → x ≡ get_or xs i x → drop i xs ≡ x ∷ drop (i + 1) xs
drop-item xs i x below is = rw (add-one, drop-cons xs i x below, ← is) refl

pub drop-end : {A : Type 0} (i : ℕ) (xs : List A) → length xs ≤ i → drop i xs ≡ []
drop-end zero [] end = refl
drop-end zero (x ∷ xs) end = absurd (omega arith)
drop-end (suc i) [] end = refl
drop-end (suc i) (x ∷ xs) end = drop-end i xs (omega arith)

-- the words from one on
pub texts-drop : (words : List (String Global)) (i : ℕ) (word : String Global) → i < length words → word ≡ get_or words i word
    → texts_of (drop i words) ≡ string_bytes word ∷ texts_of (drop (i + 1) words)
texts-drop words i word below is = ap texts_of (drop-item words i word below is)
