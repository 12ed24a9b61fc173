-- Pieces of a text, written one after another.
use Rattle.std.proofs.Common.{◌≡◌, ℕ, ℤ, ◌+◌, ◌<◌, List, [], ◌∷◌, ◌++◌, length, get_or, take, drop, drop-cons, take-append-drop, add-one, append_assoc, append-nil, Option, Ok, Err, IsErrOf, ◌⊎◌, inl, inr, refl, sym, ap, ◌∙◌, subst, Vec}
use Rattle.std.proofs.lemmas.List.{take_more}
use Rattle.std.specs.Io.KnownBytes.{Appends}
use Rattle.std.proofs.KnownBytes.{Appends-trans}
use Rattle.std.specs.declared.alloc.Global.{Global}
use Rattle.cube_outside.specs.Bytes.{AppendsPart}
use Rattle.cube_outside.specs.declared.sink.SinkFault.{SinkFault}
use Rattle.cube_outside.specs.declared.sink.SinkFault.TheVariants.{Failed, Memory}
use Rattle.history.specs.declared.entry.Entry.{Entry}
use Rattle.history.specs.declared.told.Told.{Told}
use Rattle.cube_server.specs.Inside.Ending.{joined}
use Rattle.cube_server.specs.Output.{numbered, user_text, users_text, history_text, output}

joined-append : (xs ys : List (Vec ℕ Global)) → joined (xs ++ ys) ≡ joined xs ++ joined ys
joined-append [] ys = refl
joined-append (x ∷ xs) ys = ap (λ l. x.items ++ l) (joined-append xs ys) ∙ sym (append_assoc x.items (joined xs) (joined ys))

-- the pieces up to one, that one, and those after it
joined-at : (pieces : List (Vec ℕ Global)) (i : ℕ) (piece : Vec ℕ Global) → i < length pieces → piece ≡ get_or pieces i piece
    → joined pieces ≡ joined (take i pieces) ++ (piece.items ++ joined (drop (i + 1) pieces))
joined-at pieces i piece below is =
    let next : drop i pieces ≡ piece ∷ drop (i + 1) pieces = rw (add-one, drop-cons pieces i piece below, ← is) refl in
    let front = joined (take i pieces) in
    let after : List (Vec ℕ Global) → List ℕ = λ l. front ++ joined l in
    ap joined (sym (take-append-drop i pieces)) ∙ joined-append (take i pieces) (drop i pieces) ∙ ap after next

joined-take : (pieces : List (Vec ℕ Global)) (i : ℕ) (piece : Vec ℕ Global) → i < length pieces → piece ≡ get_or pieces i piece
    → joined (take (i + 1) pieces) ≡ joined (take i pieces) ++ piece.items
joined-take pieces i piece below is =
    let more : take (i + 1) pieces ≡ take i pieces ++ piece ∷ [] = rw (take_more pieces i piece below, ← is) refl in
    let one : joined (piece ∷ []) ≡ piece.items = append-nil piece.items in
    let after : List ℕ → List ℕ = λ l. joined (take i pieces) ++ l in
    ap joined more ∙ joined-append (take i pieces) (piece ∷ []) ∙ ap after one

-- one piece more was written
pub Appends-piece : (old mid new : Option (List ℕ)) (pieces : List (Vec ℕ Global)) (i : ℕ) (piece : Vec ℕ Global)
    → i < length pieces → piece ≡ get_or pieces i piece
    → Appends old mid (joined (take i pieces)) → Appends mid new piece.items → Appends old new (joined (take (i + 1) pieces))
Appends-piece old mid new pieces i piece below is so_far now =
    subst (Appends old new) (sym (joined-take pieces i piece below is)) (Appends-trans old mid new (joined (take i pieces)) piece.items so_far now)

-- a piece was not written whole
pub AppendsPart-fault : (mid new : Option (List ℕ)) (piece : List ℕ) (fault : SinkFault)
    → (IsErrOf {T = Unit {0}} (Err fault) Failed → AppendsPart mid new piece) → (IsErrOf {T = Unit {0}} (Err fault) Memory → Appends mid new []) → AppendsPart mid new piece
AppendsPart-fault mid new piece Failed part nothing = part refl
AppendsPart-fault mid new piece Memory part nothing = record { part = []; rest = piece; split = refl; appends = nothing refl }

-- so the front of the whole text was written
pub AppendsPart-piece : (old mid new : Option (List ℕ)) (pieces : List (Vec ℕ Global)) (i : ℕ) (piece : Vec ℕ Global)
    → i < length pieces → piece ≡ get_or pieces i piece
    → Appends old mid (joined (take i pieces)) → AppendsPart mid new piece.items → AppendsPart old new (joined pieces)
AppendsPart-piece old mid new pieces i piece below is so_far now =
    let front = joined (take i pieces) in
    let behind = joined (drop (i + 1) pieces) in
    let to : List ℕ → List ℕ = λ l. front ++ (l ++ behind) in
    let regroup : front ++ ((now.part ++ now.rest) ++ behind) ≡ (front ++ now.part) ++ (now.rest ++ behind) = simp append_assoc in
    record {
      part = front ++ now.part;
      rest = now.rest ++ behind;
      split = joined-at pieces i piece below is ∙ ap to now.split ∙ regroup;
      appends = Appends-trans old mid new front now.part so_far now.appends;
    }

-- a write that was taken whole counts no failure
pub still : (u : Unit {0}) (old new : ℕ) → IsErrOf {T = Unit {0}} (Ok u) Failed ⊎ (new ≡ old) → new ≡ old
still u old new (inl failed) = cc
still u old new (inr same) = same

pub joined-push : (pieces : List (Vec ℕ Global)) (piece : Vec ℕ Global) → joined (pieces ++ piece ∷ []) ≡ joined pieces ++ piece.items
joined-push pieces piece = joined-append pieces (piece ∷ []) ∙ ap (λ l. joined pieces ++ l) (append-nil piece.items)

-- the text of one user more
pub numbered-piece : (all : List ℕ) (i : ℕ) (one : List (Told (List ℕ))) (left rest : List (List (Told (List ℕ)))) (pieces later : List (Vec ℕ Global)) (piece : Vec ℕ Global)
    → left ≡ one ∷ rest → later ≡ pieces ++ piece ∷ [] → piece.items ≡ user_text (i + 1) one
    → joined pieces ++ numbered user_text (i + 1) left ≡ all → joined later ++ numbered user_text (i + 1 + 1) rest ≡ all
numbered-piece all i one left rest pieces later piece next pushed is so_far =
    let before : joined pieces ++ (user_text (i + 1) one ++ numbered user_text (i + 1 + 1) rest) ≡ all = rw next at so_far in
    rw (pushed, joined-push pieces piece, is, append_assoc (joined pieces) (user_text (i + 1) one) (numbered user_text (i + 1 + 1) rest)) before

-- the texts of all users, and the history behind them
pub output-joined : (told : List (List (Told (List ℕ)))) (log : List (Entry (List (ℕ × ℤ)))) (pieces later : List (Vec ℕ Global)) (piece : Vec ℕ Global)
    → later ≡ pieces ++ piece ∷ [] → joined pieces ≡ users_text told → piece.items ≡ history_text log → joined later ≡ output told log
output-joined told log pieces later piece pushed users is = rw (pushed, joined-push pieces piece, users, is) refl
