-- The files that were read, as they are kept.
use Rattle.std.proofs.Common.{◌≡◌, ℕ, zero, suc, ◌<◌, List, [], ◌∷◌, ◌++◌, length, map, reverse, Option, Some, None, true, false, cond, String, string_bytes, slice_get, find, refl, sym, ap, ◌∙◌, ◌⊎◌, inl, inr, arith, length-append}
use Rattle.std.specs.Option.{option_and_then, option_map}
use Rattle.std.specs.Str.{bytes_eq}
use Rattle.std.specs.BTreeMap.{BTreeMap, get_by_text, is_at}
use Rattle.std.specs.Cmp.Lexicographic.{slice_cmp}
use Rattle.std.specs.Map.{lookup, update}
use Rattle.std.specs.Ordering.{nat_cmp}
use Rattle.std.specs.declared.alloc.Global.{Global}
use Rattle.std.proofs.lemmas.Bool.{cases_Bool}
use Rattle.std.proofs.lemmas.List.{map-append, reverse-append}
use Rattle.file_passes.specs.declared.reading.Reading.{Reading}
use Rattle.file_passes.specs.Inside.Kept.{viewed, bytes_at, AreFound}
use Rattle.file_passes.specs.Pass.{Source, bytes_of}

-- the pair by which contracts see a file
abbrev pair_of : Reading → Source
pair_of reading = (reading.name.items, reading.bytes.items)

-- the file that goes behind the others is seen first
pub viewed-push : (files : List Reading) (reading : Reading) → viewed (files ++ reading ∷ []) ≡ (reading.name.items, reading.bytes.items) ∷ viewed files
viewed-push files reading = ap reverse (map-append pair_of files (reading ∷ [])) ∙ reverse-append (map pair_of files) (pair_of reading ∷ [])

pub got-before : {A : Type 0} (xs : List A) (x : A) (i : ℕ) → i < length xs → slice_get (xs ++ x ∷ []) i ≡ slice_get xs i
got-before [] x i below = absurd (omega arith)
got-before (y ∷ ys) x zero below = refl
got-before (y ∷ ys) x (suc i) below = got-before ys x i (omega arith)

pub got-last : {A : Type 0} (xs : List A) (x : A) → slice_get (xs ++ x ∷ []) (length xs) ≡ Some x
got-last [] x = refl
got-last (y ∷ ys) x = got-last ys x

-- where a name leads among these entries
abbrev led : List ℕ → List (String Global × ℕ) → Option ℕ
led name entries = lookup (is_at (λ k. slice_cmp nat_cmp name (string_bytes k))) entries

-- no files, and no names
pub found-none : (places : BTreeMap (String Global) ℕ) → places.entries ≡ [] → AreFound [] places
found-none places none = record {
  within = λ name place is. (let clash : None ≡ Some place = sym (ap (led name) none) ∙ is in absurd (cc));
  bytes = λ name. ap (λ es. option_and_then (bytes_at []) (led name es)) none;
}

-- the names lead where they led, as long as there are the same entries
pub found-same : (files : List Reading) (places after : BTreeMap (String Global) ℕ) → after.entries ≡ places.entries → AreFound files places → AreFound files after
found-same files places after same found = record {
  within = λ name place is. found.within name place (sym (ap (led name) same) ∙ is);
  bytes = λ name. ap (λ es. option_and_then (bytes_at files) (led name es)) same ∙ found.bytes name;
}

-- a file that goes behind the others, under its own name
module _ (files : List Reading) (places after : BTreeMap (String Global) ℕ) (reading : Reading) (found : AreFound files places)
    (updated : (name : List ℕ) → get_by_text after name ≡ update bytes_eq (get_by_text places) reading.name.items (Some (length files)) name) where
  own : (name : List ℕ) → bytes_eq reading.name.items name ≡ true → get_by_text after name ≡ Some (length files)
  own name same = updated name ∙ ap (λ b. cond b (Some (length files)) (get_by_text places name)) same

  other : (name : List ℕ) → bytes_eq reading.name.items name ≡ false → get_by_text after name ≡ get_by_text places name
  other name apart = updated name ∙ ap (λ b. cond b (Some (length files)) (get_by_text places name)) apart

  still : (name : List ℕ) (o : Option ℕ) → get_by_text places name ≡ o → option_and_then (bytes_at (files ++ reading ∷ [])) o ≡ option_and_then (bytes_at files) o
  still name None is = refl
  still name (Some place) is = ap (option_map (λ r. r.bytes.items)) (got-before files reading place (found.within name place is))

  pub found-push : AreFound (files ++ reading ∷ []) after
  found-push = record {
    within = λ name place is. near name place is (cases_Bool (bytes_eq reading.name.items name));
    bytes = λ name. read name (cases_Bool (bytes_eq reading.name.items name));
  }
    where
      near : (name : List ℕ) (place : ℕ) → get_by_text after name ≡ Some place → (bytes_eq reading.name.items name ≡ true) ⊎ (bytes_eq reading.name.items name ≡ false) → place < length (files ++ reading ∷ [])
      near name place is (inl same) = let last : Some (length files) ≡ Some place = sym (own name same) ∙ is in let at : length files ≡ place = cc in omega (arith, length-append files (reading ∷ []))
      near name place is (inr apart) = let below = found.within name place (sym (other name apart) ∙ is) in omega (arith, length-append files (reading ∷ []))

      read : (name : List ℕ) → (bytes_eq reading.name.items name ≡ true) ⊎ (bytes_eq reading.name.items name ≡ false) → option_and_then (bytes_at (files ++ reading ∷ [])) (get_by_text after name) ≡ bytes_of (viewed (files ++ reading ∷ [])) name
      read name (inl same) =
          ap (option_and_then (bytes_at (files ++ reading ∷ []))) (own name same) ∙ ap (option_map (λ r. r.bytes.items)) (got-last files reading)
          ∙ sym (ap (λ r. bytes_of r name) (viewed-push files reading) ∙ ap (λ b. option_map (λ pair. pair.1) (cond b (Some (pair_of reading)) (find (λ pair. bytes_eq pair.0 name) (viewed files)))) same)
      read name (inr apart) =
          ap (option_and_then (bytes_at (files ++ reading ∷ []))) (other name apart) ∙ still name (get_by_text places name) refl ∙ found.bytes name
          ∙ sym (ap (λ r. bytes_of r name) (viewed-push files reading) ∙ ap (λ b. option_map (λ pair. pair.1) (cond b (Some (pair_of reading)) (find (λ pair. bytes_eq pair.0 name) (viewed files)))) apart)
