-- What calls write one after another.
use Rattle.std.proofs.Common.{◌≡◌, ℕ, List, ◌++◌, Result, Ok, Err, OnOk, subst}
use Rattle.cube_lex.specs.Written.{Spelling, Spaces, Writes}
use Rattle.cube_lex.proofs.Spaced.{spaces-both, writes-both, spaces-writes}

-- what a call that succeeds writes behind what was written before it
pub then_spaces : {T E : Type 0} (r : Result T E) (old between new : List ℕ) (xs ys : List Spelling) → Spaces old between xs → OnOk r (Spaces between new ys) → OnOk r (Spaces old new (xs ++ ys))
then_spaces (Ok x) old between new xs ys first second = spaces-both old between new xs ys first second
then_spaces (Err e) old between new xs ys first second = tt

pub then_writes : {T E : Type 0} (r : Result T E) (old between new : List ℕ) (xs ys : List Spelling) → Writes old between xs → OnOk r (Writes between new ys) → OnOk r (Writes old new (xs ++ ys))
then_writes (Ok x) old between new xs ys first second = writes-both old between new xs ys first second
then_writes (Err e) old between new xs ys first second = tt

-- behind what stands on the same line
pub then_ends : {T E : Type 0} (r : Result T E) (old between new : List ℕ) (xs ys : List Spelling) → Spaces old between xs → OnOk r (Writes between new ys) → OnOk r (Writes old new (xs ++ ys))
then_ends r old between new xs ys first second = then_writes r old between new xs ys (spaces-writes old between xs first) second

-- the same tokens
pub writes_same : {T E : Type 0} (r : Result T E) (old new : List ℕ) (xs ys : List Spelling) → xs ≡ ys → OnOk r (Writes old new xs) → OnOk r (Writes old new ys)
writes_same r old new xs ys same h = subst (λ zs. OnOk r (Writes old new zs)) same h

pub spaces_same : {T E : Type 0} (r : Result T E) (old new : List ℕ) (xs ys : List Spelling) → xs ≡ ys → OnOk r (Spaces old new xs) → OnOk r (Spaces old new ys)
spaces_same r old new xs ys same h = subst (λ zs. OnOk r (Spaces old new zs)) same h
