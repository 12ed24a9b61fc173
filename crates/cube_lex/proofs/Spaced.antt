-- Tokens that are written one after another, and how many bytes they take.
use Rattle.std.proofs.Common.{◌≡◌, ◌+◌, ◌<◌, ◌≤◌, ℕ, List, [], ◌∷◌, ◌++◌, length, take, get_or, map, Result, Ok, Err, OnOk, OnErr, refl, sym, ap, ◌∙◌, subst, append-nil, append_assoc, length-append, arith}
use Rattle.std.proofs.Math.Seq.{take-append_seam}
use Rattle.std.proofs.lemmas.Grind.{flat_map-append}
use Rattle.std.proofs.lemmas.List.{take_more}
use Rattle.std.proofs.lemmas.List.Concat.{flat_map_single}
use Rattle.std.specs.List.{flat_map}
use Rattle.cube_lex.specs.Parts.{IsToken, most_token_bytes}
use Rattle.cube_lex.specs.Piece.{token_of}
use Rattle.cube_lex.specs.Written.{Spelling, IsWritten, Adds, AddsWithin, Spaces, Writes, spaced_size, most_size}
use Rattle.cube_lex.specs.declared.pieces.Piece.{Piece}
use Rattle.cube_lex.specs.declared.token.Kind.{Kind}
use Rattle.cube_lex.proofs.WrittenTexts.{written-append}

-- Sizes.

pub spaced_size-append : (xs ys : List Spelling) → spaced_size (xs ++ ys) ≡ spaced_size xs + spaced_size ys
spaced_size-append [] ys = omega arith
spaced_size-append (x ∷ xs) ys = omega (arith, spaced_size-append xs ys)

pub most_size-append : (xs ys : List Spelling) → most_size (xs ++ ys) ≡ most_size xs + most_size ys
most_size-append [] ys = omega arith
most_size-append (x ∷ xs) ys = omega (arith, most_size-append xs ys)

pub spaced-most : (xs : List Spelling) → spaced_size xs ≤ most_size xs
spaced-most [] = omega arith
spaced-most (x ∷ xs) = omega (arith, spaced-most xs)

-- with a line end
line-most : (xs : List Spelling) → 0 < length xs → spaced_size xs + 1 ≤ most_size xs
line-most [] some = absurd (omega (arith, some))
line-most (x ∷ xs) some = omega (arith, spaced-most xs)

-- What is added.

within-both : (a b c : ℕ) (old between new : List ℕ) (xs ys : List Spelling) → a + b ≤ c → AddsWithin a old between xs → AddsWithin b between new ys → AddsWithin c old new (xs ++ ys)
within-both a b c old between new xs ys fits (s, between-is, first, short) (t, new-is, second, small) =
    (s ++ t, new-is ∙ ap (λ bs. bs ++ t) between-is ∙ append_assoc old s t, written-append xs ys s t first second, omega (arith, length-append s t, short, small, fits))

pub within-adds : (most : ℕ) (old new : List ℕ) (xs : List Spelling) → AddsWithin most old new xs → Adds old new xs
within-adds most old new xs (bytes, is, written, small) = (bytes, is, written)

pub within-begins : (most : ℕ) (old new : List ℕ) (xs : List Spelling) → AddsWithin most old new xs → take (length old) new ≡ old
within-begins most old new xs (bytes, is, written, small) = ap (take (length old)) is ∙ take-append_seam old bytes

pub spaces-none : (old : List ℕ) → Spaces old old []
spaces-none old = ([], sym (append-nil old), refl, omega arith)

pub spaces-both : (old between new : List ℕ) (xs ys : List Spelling) → Spaces old between xs → Spaces between new ys → Spaces old new (xs ++ ys)
spaces-both old between new xs ys first second = within-both (spaced_size xs) (spaced_size ys) (spaced_size (xs ++ ys)) old between new xs ys (omega (arith, spaced_size-append xs ys)) first second

pub writes-none : (old : List ℕ) → Writes old old []
writes-none old = ([], sym (append-nil old), refl, omega arith)

pub writes-both : (old between new : List ℕ) (xs ys : List Spelling) → Writes old between xs → Writes between new ys → Writes old new (xs ++ ys)
writes-both old between new xs ys first second = within-both (most_size xs) (most_size ys) (most_size (xs ++ ys)) old between new xs ys (omega (arith, most_size-append xs ys)) first second

pub spaces-writes : (old new : List ℕ) (xs : List Spelling) → Spaces old new xs → Writes old new xs
spaces-writes old new xs (bytes, is, written, small) = (bytes, is, written, omega (arith, small, spaced-most xs))

-- and a line end behind them
pub spaces-line : (old between new : List ℕ) (xs : List Spelling) → 0 < length xs → Spaces old between xs → new ≡ between ++ 10 ∷ [] → Writes old new xs
spaces-line old between new xs some (bytes, is, written, small) new-is = (
  bytes ++ 10 ∷ [],
  new-is ∙ ap (λ bs. bs ++ 10 ∷ []) is ∙ append_assoc old bytes (10 ∷ []),
  subst (λ zs. IsWritten zs (bytes ++ 10 ∷ [])) (append-nil xs) (written-append xs [] bytes (10 ∷ []) written refl),
  omega (arith, length-append bytes (10 ∷ []), small, line-most xs some),
)

-- a call that writes a piece and a space
pub spaced : {T E : Type 0} (answer : Result T E) (old new : List ℕ) (kind : Kind) (piece : List ℕ) → IsToken kind piece → length piece ≤ most_token_bytes
    → OnOk answer (new ≡ (old ++ piece) ++ 32 ∷ []) → OnOk answer (Spaces old new (record { kind = kind; piece = piece } ∷ []))
spaced (Ok x) old new kind piece is short is-new = (
  piece ++ 32 ∷ [],
  is-new ∙ append_assoc old piece (32 ∷ []),
  ([], [], 32, refl, refl, refl, is, short, refl),
  omega (arith, length-append piece (32 ∷ [])),
)
spaced (Err e) old new kind piece is short is-new = tt

-- as code says it, where a call succeeds
pub then_line : {T E : Type 0} (r : Result T E) (old between new : List ℕ) (xs : List Spelling) → 0 < length xs → Spaces old between xs → OnOk r (new ≡ between ++ 10 ∷ []) → OnOk r (Writes old new xs)
then_line (Ok x) old between new xs some first is = spaces-line old between new xs some first is
then_line (Err e) old between new xs some first is = tt

pub then_begins : {T E : Type 0} (r : Result T E) (old between new : List ℕ) (xs : List Spelling) → Spaces old between xs → OnOk r (new ≡ between ++ 10 ∷ []) → OnErr r (new ≡ between) → take (length old) new ≡ old
then_begins (Ok x) old between new xs (bytes, at, _, _) is same = ap (take (length old)) (is ∙ ap (λ bs. bs ++ 10 ∷ []) at ∙ append_assoc old bytes (10 ∷ [])) ∙ take-append_seam old (bytes ++ 10 ∷ [])
then_begins (Err e) old between new xs first is same = ap (take (length old)) same ∙ within-begins (spaced_size xs) old between xs first

-- Pieces of a slice.

-- a list of one token
abbrev pub single : Piece → List Spelling
single piece = token_of piece ∷ []

pub singles : (pieces : List Piece) → flat_map single pieces ≡ map token_of pieces
singles pieces = flat_map_single token_of pieces

-- the tokens of one more
pub spaces-more : {X : Type 0} (f : X → List Spelling) (old between new : List ℕ) (xs : List X) (i : ℕ) (d : X) → i < length xs → Spaces old between (flat_map f (take i xs)) → Spaces between new (f (get_or xs i d)) → Spaces old new (flat_map f (take (i + 1) xs))
spaces-more f old between new xs i d within first second =
    let same : flat_map f (take (i + 1) xs) ≡ flat_map f (take i xs) ++ f (get_or xs i d) =
    ap (flat_map f) (take_more xs i d within) ∙ flat_map-append f (take i xs) (get_or xs i d ∷ []) ∙ ap (λ l. flat_map f (take i xs) ++ l) (append-nil (f (get_or xs i d))) in
    subst (Spaces old new) (sym same) (spaces-both old between new (flat_map f (take i xs)) (f (get_or xs i d)) first second)

pub writes-more : {X : Type 0} (f : X → List Spelling) (old between new : List ℕ) (xs : List X) (i : ℕ) (d : X) → i < length xs → Writes old between (flat_map f (take i xs)) → Writes between new (f (get_or xs i d)) → Writes old new (flat_map f (take (i + 1) xs))
writes-more f old between new xs i d within first second =
    let same : flat_map f (take (i + 1) xs) ≡ flat_map f (take i xs) ++ f (get_or xs i d) =
    ap (flat_map f) (take_more xs i d within) ∙ flat_map-append f (take i xs) (get_or xs i d ∷ []) ∙ ap (λ l. flat_map f (take i xs) ++ l) (append-nil (f (get_or xs i d))) in
    subst (Writes old new) (sym same) (writes-both old between new (flat_map f (take i xs)) (f (get_or xs i d)) first second)
