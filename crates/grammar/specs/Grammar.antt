-- The grammar of a text: which lists of tokens are texts, and which tree each has. In a `do` block a rule reads line
-- for line as it stands in a grammar on paper.
use Rattle.std.specs.Prelude.{◌≡◌, List, [], ◌∷◌, ◌++◌, Option, Some, ◌⊎◌}

-- which lists of tokens have which tree
abbrev pub Grammar : Type 0 → Type 0 → Type 1
Grammar T A = List T → A → Type 0

-- no token
abbrev pub done : {T A : Type 0} → A → Grammar T A
done a ts b = (ts ≡ []) × (b ≡ a)

-- one token, which pick takes: its kind, and whatever is asked of its value
abbrev pub one : {T A : Type 0} → (T → Option A) → Grammar T A
one pick ts a = (t : _) × (ts ≡ t ∷ []) × (pick t ≡ Some a)

-- a text of G, and then one of what its tree leads to
abbrev pub both : {T A B : Type 0} → Grammar T A → (A → Grammar T B) → Grammar T B
both G K ts b = (u v : List _) × (a : _) × (ts ≡ u ++ v) × G u a × K a v b

infixl 10 ◌>>=◌
abbrev pub ◌>>=◌ : {T A B : Type 0} → Grammar T A → (A → Grammar T B) → Grammar T B
G >>= K = both G K

infixl 10 ◌>>◌
abbrev pub ◌>>◌ : {T A B : Type 0} → Grammar T A → Grammar T B → Grammar T B
G >> H = both G (λ _. H)

-- a text of one or of the other
abbrev pub either : {T A : Type 0} → Grammar T A → Grammar T A → Grammar T A
either G H ts a = G ts a ⊎ H ts a

-- any number of texts of G, one after the other
abbrev pub many : {T A : Type 0} → Grammar T A → Grammar T (List A)
many G ts [] = ts ≡ []
many G ts (a ∷ rest) = (u v : List _) × (ts ≡ u ++ v) × G u a × many G v rest

-- some continuation of the tokens is a text
abbrev pub Alive : {T A : Type 0} → Grammar T A → List T → Type 0
Alive G ts = (more : List _) × (a : _) × G (ts ++ more) a
