-- The readers of lists are exact: an item, and then a `,` and an item as long as they come.
use Rattle.std.proofs.Common.{◌≡◌, ℕ, List, [], ◌∷◌, ◌++◌, Bool, true, false, codes, Result, ◌∙◌, ap, inl, inr}
use Rattle.std.specs.Str.{bytes_eq}
use Rattle.cube_lex.specs.Lexeme.{Lexeme}
use Rattle.grammar.specs.Grammar.{Grammar, one, both, done, either, many}
use Rattle.grammar.specs.Watch.{each_token}
use Rattle.grammar.specs.Reading.{Reader, starts, gives, choose, both_of}
use Rattle.grammar.specs.Tokens.{sign, is_sign, name}
use Rattle.grammar.specs.Lists.{next, listed, perhaps_listed, names, minus, read_minus, read_next, read_further, read_listed, read_names}
use Rattle.grammar.proofs.Exact.{Exact, Always, Not, exact_gives, exact_then, exact_both, exact_made, exact_choose, exact_by}
use Rattle.grammar.proofs.Begins.{Begins, begins_both, exact_option, starts_text, starts_many, made_is}
use Rattle.grammar.proofs.Many.{exact_all, exact_rest}
use Rattle.grammar.proofs.Settles.{Settles, settles_one, settles_gives, settles_both, settles_choose, settles_all}
use Rattle.grammar.proofs.Tokens.{exact_sign, exact_name, sign_begins}

pub next_tells : {A : Type 0} (item : Grammar Lexeme A) (p : Lexeme → Bool) (b : Bool) → Begins (one (sign (codes ","))) p b → Begins (next item) p b
next_tells item p b comma = begins_both comma

pub next_begins : {A : Type 0} (item : Grammar Lexeme A) → Begins (next item) (is_sign (codes ",")) true
next_begins item = next_tells item (is_sign (codes ",")) true (sign_begins (codes ",") (codes ","))

-- what may stand behind a list of items that may go on with one of these
pub record BehindList (p : Lexeme → Bool) (rest : List Lexeme) : Type 0 where
  pub item : Not p rest
  pub comma : Not (is_sign (codes ",")) rest

behind_items : {A : Type 0} (item : Grammar Lexeme A) (p : Lexeme → Bool) → Begins (one (sign (codes ","))) p false → (list : List A) (v rest : List Lexeme) → many (next item) v list → BehindList p rest → Not p (v ++ rest)
behind_items item p comma list v rest h stops = starts_many (next_tells item p false comma) list v rest h stops.item

next_exact : {R C A : Type 0} {scan : R → Lexeme → Result R C} {G H : Grammar Lexeme A} {P : Reader Lexeme R C A} {S : List Lexeme → Type 0} → Exact (each_token scan) G H P S → Exact (each_token scan) (next G) (next H) (read_next scan P) S
unfolding read_next
next_exact {scan = scan} e = exact_then (exact_sign scan (codes ",")) (λ _. e)

-- { "," item }
pub further_exact : {R C A : Type 0} {scan : R → Lexeme → Result R C} {G G' : Grammar Lexeme A} {Q : Reader Lexeme R C A} (p : Lexeme → Bool) → Begins (one (sign (codes ","))) p false → Exact (each_token scan) G G' Q (Not p)
    → (first : A) → Exact (each_token scan) (both (many (next G)) (λ rest. done (first ∷ rest))) (both (many (next G')) (λ rest. done (first ∷ rest))) (read_further scan Q first) (BehindList p)
unfolding read_further
further_exact {G = G} {G' = G'} p comma f first = exact_made (λ rest. first ∷ rest) (exact_all (is_sign (codes ",")) true (next_begins G) (next_begins G') (λ rest stops. stops.comma) (behind_items G' p comma) (next_exact f))

behind_first : {A : Type 0} (item : Grammar Lexeme A) (p : Lexeme → Bool) → Begins (one (sign (codes ","))) p false → (first : A) (v : List Lexeme) (list : List A) (rest : List Lexeme) → both (many (next item)) (λ others. done (first ∷ others)) v list → BehindList p rest → Not p (v ++ rest)
behind_first item p comma first v list rest h stops = let (others, more) = made_is (many (next item)) (λ others. first ∷ others) v list h in behind_items item p comma others v rest more stops

-- a first item, read by F's reader, and then further ones
pub listed_from_exact : {R C A : Type 0} {scan : R → Lexeme → Result R C} {F F' G G' : Grammar Lexeme A} {P Q : Reader Lexeme R C A} (p : Lexeme → Bool) → Begins (one (sign (codes ","))) p false → Exact (each_token scan) F F' P (Not p) → Exact (each_token scan) G G' Q (Not p) → Exact (each_token scan) (listed F G) (listed F' G') (both_of P (read_further scan Q)) (BehindList p)
listed_from_exact {G' = G'} p comma e f = exact_both e (further_exact p comma f) (λ first v list rest h stops. behind_first G' p comma first v list rest h stops)

-- item { "," item }
pub listed_exact : {R C A : Type 0} {scan : R → Lexeme → Result R C} {G G' : Grammar Lexeme A} {Q : Reader Lexeme R C A} (p : Lexeme → Bool) → Begins (one (sign (codes ","))) p false → Exact (each_token scan) G G' Q (Not p) → Exact (each_token scan) (listed G G) (listed G' G') (read_listed scan Q) (BehindList p)
unfolding read_listed
listed_exact p comma f = listed_from_exact p comma f f

-- the same, where each item ends by itself
pub further_whole_exact : {R C A : Type 0} {scan : R → Lexeme → Result R C} {G G' : Grammar Lexeme A} {Q : Reader Lexeme R C A} → Exact (each_token scan) G G' Q Always
    → (first : A) → Exact (each_token scan) (both (many (next G)) (λ rest. done (first ∷ rest))) (both (many (next G')) (λ rest. done (first ∷ rest))) (read_further scan Q first) (Not (is_sign (codes ",")))
unfolding read_further
further_whole_exact {G = G} {G' = G'} f first = exact_made (λ rest. first ∷ rest) (exact_rest (is_sign (codes ",")) (next_begins G) (next_begins G') (next_exact f))

pub listed_whole_exact : {R C A : Type 0} {scan : R → Lexeme → Result R C} {G G' : Grammar Lexeme A} {Q : Reader Lexeme R C A} → Exact (each_token scan) G G' Q Always → Exact (each_token scan) (listed G G) (listed G' G') (read_listed scan Q) (Not (is_sign (codes ",")))
unfolding read_listed
listed_whole_exact f = exact_then f (further_whole_exact f)

pub names_exact : {R C : Type 0} (scan : R → Lexeme → Result R C) → Exact (each_token scan) names names (read_names scan) (Not (is_sign (codes ",")))
unfolding read_names
names_exact scan = listed_whole_exact (exact_name scan)

pub minus_exact : {R C : Type 0} (scan : R → Lexeme → Result R C) → Exact (each_token scan) minus minus (read_minus scan) (Not (is_sign (codes "-")))
unfolding read_minus
minus_exact scan = exact_option (is_sign (codes "-")) false (begins_both (sign_begins (codes "-") (codes "-"))) (exact_then (exact_sign scan (codes "-")) (λ _. exact_gives (each_token scan) true))

-- what stands behind a list that may be empty
pub record Closes (close : List ℕ) (p : Lexeme → Bool) (rest : List Lexeme) : Type 0 where
  pub closing : starts (is_sign close) rest ≡ true
  pub behind : BehindList p rest

pub swapped : {A : Type 0} (G H : Grammar Lexeme A) (u : List Lexeme) (a : A) → either G H u a → either H G u a
swapped G H u a (inl h) = inr h
swapped G H u a (inr h) = inl h

-- [ item { "," item } ], before the sign that closes it
pub perhaps_listed_exact : {R C A : Type 0} {scan : R → Lexeme → Result R C} {F F' G G' : Grammar Lexeme A} {P Q : Reader Lexeme R C A} (close : List ℕ) (p : Lexeme → Bool) → Begins (one (sign (codes ","))) p false → Begins F' (is_sign close) false → Exact (each_token scan) F F' P (Not p) → Exact (each_token scan) G G' Q (Not p) → Exact (each_token scan) (perhaps_listed F G) (perhaps_listed F' G') (choose (is_sign close) (gives []) (both_of P (read_further scan Q))) (Closes close p)
perhaps_listed_exact {A = A} {scan = scan} {F = F} {F' = F'} {G = G} {G' = G'} close p comma opens e f =
    exact_by (swapped (done []) (listed F G)) (swapped (listed F' G') (done []))
    (exact_choose {S = Always} {S' = BehindList p} {S'' = Closes close p} (is_sign close) (exact_gives (each_token scan) []) (listed_from_exact p comma e f)
    (λ u a rest nothing stops. (ap (λ x. starts (is_sign close) (x ++ rest)) nothing.0 ∙ stops.closing, tt))
    (λ u a rest h stops. (starts_text begins u a rest h, stops.behind))) where
      begins : Begins (listed F' G') (is_sign close) false
      begins = begins_both opens

-- what stands behind the list is the sign that closes it
pub close_tells : {B : Type 0} (close : List ℕ) (K : Grammar Lexeme B) (p : Lexeme → Bool) (b : Bool) → Begins (one (sign close)) p b → Begins (both (one (sign close)) (λ _. K)) p b
close_tells close K p b tells = begins_both tells

pub behind_list : {B : Type 0} (close : List ℕ) (K : Grammar Lexeme B) (p : Lexeme → Bool) → Begins (one (sign close)) p false → bytes_eq close (codes ",") ≡ false → (v : List Lexeme) (b : B) (rest : List Lexeme) → both (one (sign close)) (λ _. K) v b → BehindList p (v ++ rest)
behind_list close K p tells other v b rest h = record {
  item = starts_text (close_tells close K p false tells) v b rest h;
  comma = starts_text (close_tells close K (is_sign (codes ",")) (bytes_eq close (codes ",")) (sign_begins close (codes ","))) v b rest h ∙ other;
}

pub closed_list : {B : Type 0} (close : List ℕ) (K : Grammar Lexeme B) (p : Lexeme → Bool) → Begins (one (sign close)) p false → bytes_eq close (codes ",") ≡ false → bytes_eq close close ≡ true → (v : List Lexeme) (b : B) (rest : List Lexeme) → both (one (sign close)) (λ _. K) v b → Closes close p (v ++ rest)
closed_list close K p tells other same v b rest h = record {
  closing = starts_text (close_tells close K (is_sign close) (bytes_eq close close) (sign_begins close close)) v b rest h ∙ same;
  behind = behind_list close K p tells other v b rest h;
}

-- They never use up their nesting.

next_settles : {R C A : Type 0} (scan : R → Lexeme → Result R C) {P : Reader Lexeme R C A} → Settles P → Settles (read_next scan P)
unfolding read_next
next_settles scan e = settles_both (settles_one scan (sign (codes ","))) (λ _. e)

pub further_settles : {R C A : Type 0} (scan : R → Lexeme → Result R C) {P : Reader Lexeme R C A} → Settles P → (first : A) → Settles (read_further scan P first)
unfolding read_further
further_settles scan e first = settles_both (settles_all (is_sign (codes ",")) (next_settles scan e)) (λ rest. settles_gives (first ∷ rest))

pub listed_settles : {R C A : Type 0} (scan : R → Lexeme → Result R C) {P : Reader Lexeme R C A} → Settles P → Settles (read_listed scan P)
unfolding read_listed
listed_settles scan e = settles_both e (further_settles scan e)

pub names_settle : {R C : Type 0} (scan : R → Lexeme → Result R C) → Settles (read_names scan)
unfolding read_names
names_settle scan = listed_settles scan (settles_one scan name)

pub minus_settles : {R C : Type 0} (scan : R → Lexeme → Result R C) → Settles (read_minus scan)
unfolding read_minus
minus_settles scan = settles_choose (is_sign (codes "-")) (settles_both (settles_one scan (sign (codes "-"))) (λ _. settles_gives true)) (settles_gives false)
