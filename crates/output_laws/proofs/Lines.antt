-- Texts that end at a byte which they don't hold.
use Rattle.std.proofs.Common.{◌≡◌, ℕ, Bool, true, not, ◌&&◌, ◌==◌, List, [], ◌∷◌, ◌++◌, length, refl, sym, ap, ◌∙◌, subst, arith, append_assoc}
use Rattle.std.specs.List.{list_all, flat_map}
use Rattle.std.proofs.lemmas.Bool.{and_parts, eq-eqb}
use Rattle.dim_name.specs.Bytes.{newline}

-- whether a text doesn't hold this byte
abbrev pub lacks : ℕ → List ℕ → Bool
lacks c text = list_all (λ byte. not (byte == c)) text

-- after the one text and after the other a line ends: then both are the same, and what follows too
abbrev pub EndAlike : List ℕ → List ℕ → Type 0
EndAlike a b = (x y : List ℕ) → a ++ newline ∷ x ≡ b ++ newline ∷ y → (a ≡ b) × (x ≡ y)

heads : (c d : ℕ) (x y : List ℕ) → c ∷ x ≡ d ∷ y → c ≡ d
heads c d x y e = cc

tails : (c d : ℕ) (x y : List ℕ) → c ∷ x ≡ d ∷ y → x ≡ y
tails c d x y e = cc

lacked : (c d : ℕ) (rest : Bool) → c ≡ d → (not (d == c) && rest) ≡ true → ⊥
lacked c d rest same e =
    let parts = and_parts (not (d == c)) rest e in
    let is : (d == c) ≡ true = subst (λ b. (b == c) ≡ true) same (eq-eqb c c refl) in
    cc

pub split_at : (c : ℕ) (a b x y : List ℕ) → lacks c a ≡ true → lacks c b ≡ true → a ++ c ∷ x ≡ b ++ c ∷ y → (a ≡ b) × (x ≡ y)
split_at c [] [] x y la lb e = (refl, tails c c x y e)
split_at c [] (d ∷ b) x y la lb e = absurd (lacked c d (lacks c b) (heads c d x (b ++ c ∷ y) e) lb)
split_at c (d ∷ a) [] x y la lb e = absurd (lacked c d (lacks c a) (sym (heads d c (a ++ c ∷ x) y e)) la)
split_at c (d ∷ a) (f ∷ b) x y la lb e =
    let rest = split_at c a b x y (and_parts (not (d == c)) (lacks c a) la).1 (and_parts (not (f == c)) (lacks c b) lb).1 (tails d f (a ++ c ∷ x) (b ++ c ∷ y) e) in
    let here = heads d f (a ++ c ∷ x) (b ++ c ∷ y) e in
    (ap (λ byte. byte ∷ a) here ∙ ap (λ l. f ∷ l) rest.0, rest.1)

pub same_ends : (a b : List ℕ) → a ≡ b → EndAlike a b
same_ends a b same x y e = (same, after a x y (e ∙ ap (λ l. l ++ newline ∷ y) (sym same)))
  where
    after : (l x y : List ℕ) → l ++ newline ∷ x ≡ l ++ newline ∷ y → x ≡ y
    after [] x y e = tails newline newline x y e
    after (c ∷ l) x y e = after l x y (tails c c (l ++ newline ∷ x) (l ++ newline ∷ y) e)

pub plain_ends : (a b : List ℕ) → lacks newline a ≡ true → lacks newline b ≡ true → EndAlike a b
plain_ends a b la lb x y e = split_at newline a b x y la lb e

pub empty_not : (a : List ℕ) (c : ℕ) (x : List ℕ) → [] ≡ a ++ c ∷ x → ⊥
empty_not [] c x e = cc
empty_not (d ∷ a) c x e = cc

-- ---- lines, each after a line end

abbrev pub led : List (List ℕ) → List ℕ
led lines = flat_map (λ line. newline ∷ line) lines

-- what follows the first line end of such lines, which are before a line end
after : List (List ℕ) → List ℕ → List ℕ
after [] x = x
after (line ∷ lines) x = line ++ (led lines ++ newline ∷ x)

starts : (lines : List (List ℕ)) (x : List ℕ) → led lines ++ newline ∷ x ≡ newline ∷ after lines x
unfolding after
starts [] x = refl
starts (line ∷ lines) x = ap (λ l. newline ∷ l) (append_assoc line (led lines) (newline ∷ x))

pub first_line : (a b : List ℕ) (ls ms : List (List ℕ)) (x y : List ℕ) → lacks newline a ≡ true → lacks newline b ≡ true
    → a ++ (led ls ++ newline ∷ x) ≡ b ++ (led ms ++ newline ∷ y) → (a ≡ b) × (led ls ++ newline ∷ x ≡ led ms ++ newline ∷ y)
first_line a b ls ms x y la lb e =
    let parts = split_at newline a b (after ls x) (after ms y) la lb (ap (λ l. a ++ l) (sym (starts ls x)) ∙ e ∙ ap (λ l. b ++ l) (starts ms y)) in
    (parts.0, starts ls x ∙ ap (λ l. newline ∷ l) parts.1 ∙ sym (starts ms y))

-- as many lines on both sides are the same lines
pub many_lines : (ls ms : List (List ℕ)) (x y : List ℕ) → length ls ≡ length ms → list_all (lacks newline) ls ≡ true → list_all (lacks newline) ms ≡ true
    → led ls ++ newline ∷ x ≡ led ms ++ newline ∷ y → (led ls ≡ led ms) × (x ≡ y)
unfolding after
many_lines [] [] x y long la lb e = (refl, tails newline newline x y e)
many_lines [] (m ∷ ms) x y long la lb e = absurd (omega arith)
many_lines (l ∷ ls) [] x y long la lb e = absurd (omega arith)
many_lines (l ∷ ls) (m ∷ ms) x y long la lb e =
    let plain = and_parts (lacks newline l) (list_all (lacks newline) ls) la in
    let plain_too = and_parts (lacks newline m) (list_all (lacks newline) ms) lb in
    let begun : newline ∷ after (l ∷ ls) x ≡ newline ∷ after (m ∷ ms) y = sym (starts (l ∷ ls) x) ∙ e ∙ starts (m ∷ ms) y in
    let first = first_line l m ls ms x y plain.0 plain_too.0 (tails newline newline (after (l ∷ ls) x) (after (m ∷ ms) y) begun) in
    let rest = many_lines ls ms x y (omega arith) plain.1 plain_too.1 first.1 in
    (ap (λ line. newline ∷ (line ++ led ls)) first.0 ∙ ap (λ lines. newline ∷ (m ++ lines)) rest.0, rest.1)
