-- Pieces that can be cut in one way only: then what passes isn't refused, and there is one first refusal.
use Rattle.std.proofs.Common.{◌≡◌, List, [], ◌∷◌, ◌++◌, refl, sym, ◌∙◌, ap, subst, ◌⊎◌, inl, inr, append-nil, append_assoc, Result, Ok, Err}
use Rattle.grammar.specs.Watch.{Watch, AllPass, joined, Passes, Within, Refuses, each_token}

-- in each state a piece has a token, and none is the beginning of another; a whole piece either passes or is refused, in one way
pub record Cuts {T R C : Type 0} (W : Watch T R C) : Type 0 where
  pub some_pass : (r s : R) (u : List T) → W.passes r u s → (t : T) × (v : List T) × (u ≡ t ∷ v)
  pub some_refuse : (r : R) (u : List T) (c : C) → W.refuses r u c → (t : T) × (v : List T) × (u ≡ t ∷ v)
  pub pass_pass : (r s m : R) (u v : List T) → W.passes r u s → W.passes r (u ++ v) m → (v ≡ []) × (s ≡ m)
  pub pass_refuse : (r s : R) (c : C) (u v : List T) → W.passes r u s → W.refuses r (u ++ v) c → ⊥
  pub refuse_pass : (r s : R) (c : C) (u v : List T) → W.refuses r u c → W.passes r (u ++ v) s → ⊥
  pub refuse_refuse : (r : R) (c d : C) (u v : List T) → W.refuses r u c → W.refuses r (u ++ v) d → (v ≡ []) × (c ≡ d)
  pub pass_begin : (r s : R) (u v : List T) → W.passes r u s → W.begins r (u ++ v) → ⊥
  pub refuse_begin : (r : R) (c : C) (u v : List T) → W.refuses r u c → W.begins r (u ++ v) → ⊥

-- Lists.

-- one of two fronts of a list is a front of the other
abbrev pub Longer : {T : Type 0} → List T → List T → List T → List T → Type 0
Longer {T} u x v y = (w : List T) × (v ≡ u ++ w) × (x ≡ w ++ y)

pub same_head : {T : Type 0} (a b : T) (u v : List T) → a ∷ u ≡ b ∷ v → (a ≡ b) × (u ≡ v)
same_head a b u v e = (cc, cc)

pub fronts : {T : Type 0} (u x v y : List T) → u ++ x ≡ v ++ y → Longer u x v y ⊎ Longer v y u x
fronts [] x v y e = inl (v, refl, e)
fronts (a ∷ u) x [] y e = inr (a ∷ u, refl, sym e)
fronts (a ∷ u) x (b ∷ v) y e = let (head, tail) = same_head a b (u ++ x) (v ++ y) e in longer a b head (fronts u x v y tail) where
  longer : {T : Type 0} {u x v y : List T} (a b : T) → a ≡ b → Longer u x v y ⊎ Longer v y u x → Longer (a ∷ u) x (b ∷ v) y ⊎ Longer (b ∷ v) y (a ∷ u) x
  longer {u = u} {v = v} a b head (inl (w, is, rest)) = inl (w, ap (λ z. b ∷ z) is ∙ ap (λ z. z ∷ (u ++ w)) (sym head), rest)
  longer {u = u} {v = v} a b head (inr (w, is, rest)) = inr (w, ap (λ z. a ∷ z) is ∙ ap (λ z. z ∷ (v ++ w)) head, rest)

pub no_token : {T : Type 0} (t : T) (v : List T) → [] ≡ t ∷ v → ⊥
no_token t v e = cc

-- nothing is left of nothing
pub nothing_in_front : {T : Type 0} (u v : List T) → [] ≡ u ++ v → (u ≡ []) × (v ≡ [])
nothing_in_front [] v e = (refl, sym e)
nothing_in_front (t ∷ u) v e = absurd (no_token t (u ++ v) e)

-- Pieces.

module _ {T R C : Type 0} (W : Watch T R C) (cuts : Cuts W) where
  -- two pieces that pass at the same place are one
  same_piece : (r s m : R) (u x v y : List T) → W.passes r u s → W.passes r v m → u ++ x ≡ v ++ y → (s ≡ m) × (x ≡ y)
  same_piece r s m u x v y h k e = by (fronts u x v y e) where
    by : Longer u x v y ⊎ Longer v y u x → (s ≡ m) × (x ≡ y)
    by (inl (w, is, rest)) = let (none, one) = cuts.pass_pass r s m u w h (subst (λ z. W.passes r z m) is k) in (one, rest ∙ ap (λ z. z ++ y) none)
    by (inr (w, is, rest)) = let (none, one) = cuts.pass_pass r m s v w k (subst (λ z. W.passes r z s) is h) in (sym one, sym (rest ∙ ap (λ z. z ++ x) none))

  -- a piece that passes and one that is refused don't stand at the same place
  no_both : (r s : R) (c : C) (u x v y : List T) → W.passes r u s → W.refuses r v c → u ++ x ≡ v ++ y → ⊥
  no_both r s c u x v y h k e = by (fronts u x v y e) where
    by : Longer u x v y ⊎ Longer v y u x → ⊥
    by (inl (w, is, rest)) = cuts.pass_refuse r s c u w h (subst (λ z. W.refuses r z c) is k)
    by (inr (w, is, rest)) = cuts.refuse_pass r s c v w k (subst (λ z. W.passes r z s) is h)

  -- pieces from one state to another, before what follows
  abbrev Ahead : R → R → List T → List T → Type 0
  Ahead s m x y = (ws : List (List T)) × AllPass W s ws m × (x ≡ joined ws ++ y)

  -- of two lists of pieces of one text, the one goes on where the other ends
  peel : (us vs : List (List T)) (r s m : R) (x y : List T) → AllPass W r us s → AllPass W r vs m → joined us ++ x ≡ joined vs ++ y → Ahead s m x y ⊎ Ahead m s y x
  peel [] vs r s m x y h k e = inl (vs, subst (λ z. AllPass W z vs m) (sym h) k, e)
  peel (u ∷ us) [] r s m x y h k e = inr (u ∷ us, subst (λ z. AllPass W z (u ∷ us) s) (sym k) h, sym e)
  peel (u ∷ us) (v ∷ vs) r s m x y (a, p, h) (b, q, k) e =
      let (same, rest) = same_piece r a b u (joined us ++ x) v (joined vs ++ y) p q (sym (append_assoc u (joined us) x) ∙ e ∙ append_assoc v (joined vs) y) in
      peel us vs b s m x y (subst (λ z. AllPass W z us s) same h) k rest

  nothing_joined : (us : List (List T)) (r s : R) (y : List T) → AllPass W r us s → [] ≡ joined us ++ y → (s ≡ r) × (y ≡ [])
  nothing_joined [] r s y h e = (h, sym e)
  nothing_joined (u ∷ us) r s y (m, p, h) e =
      let (t, v, is) = cuts.some_pass r m u p in
      let (none, _) = nothing_in_front u (joined us ++ y) (e ∙ append_assoc u (joined us) y) in
      absurd (no_token t v (sym none ∙ is))

  -- pieces that pass aren't a front of a text that is refused before
  refused_within : (us : List (List T)) (s m : R) (c : C) (p x y : List T) → W.refuses s p c → AllPass W s us m → p ++ x ≡ joined us ++ y → ([] ≡ y ++ []) → ⊥
  refused_within [] s m c p x y k h e none =
      let (t, v, is) = cuts.some_refuse s p c k in
      let (nothing, _) = nothing_in_front p x (none ∙ append-nil y ∙ sym e) in
      no_token t v (sym nothing ∙ is)
  refused_within (u ∷ us) s m c p x y k (n, q, h) e none = no_both s n c u (joined us ++ y) p x q k (sym (append_assoc u (joined us) y) ∙ sym e)

  -- what passes whole isn't refused within
  pub passes_not_refused : (r s : R) (c : C) (ts ps rest : List T) → Passes W r ts s → Refuses W r ps c → ts ≡ ps ++ rest → ⊥
  passes_not_refused r s c ts ps rest h k e = by (peel h.pieces k.pass.pieces r s k.state [] (k.piece ++ rest) h.pass k.pass.pass same) where
    same : joined h.pieces ++ [] ≡ joined k.pass.pieces ++ (k.piece ++ rest)
    same = append-nil (joined h.pieces) ∙ sym h.parts ∙ e ∙ ap (λ z. z ++ rest) (k.parts ∙ ap (λ z. z ++ k.piece) k.pass.parts) ∙ append_assoc (joined k.pass.pieces) k.piece rest

    by : Ahead s k.state [] (k.piece ++ rest) ⊎ Ahead k.state s (k.piece ++ rest) [] → ⊥
    by (inl (ws, p, is)) =
        let (_, none) = nothing_joined ws s k.state (k.piece ++ rest) p is in
        let (nothing, _) = nothing_in_front k.piece rest (sym none) in
        let (t, v, some) = cuts.some_refuse k.state k.piece c k.refused in
        no_token t v (sym nothing ∙ some)
    by (inr (ws, p, is)) = refused_within ws k.state s c k.piece rest [] k.refused p is refl

  -- what passes leaves one state
  pub passes_once : (r s m : R) (ts : List T) → Passes W r ts s → Passes W r ts m → s ≡ m
  passes_once r s m ts h k = by (peel h.pieces k.pieces r s m [] [] h.pass k.pass (ap (λ z. z ++ []) (sym h.parts ∙ k.parts))) where
    by : Ahead s m [] [] ⊎ Ahead m s [] [] → s ≡ m
    by (inl (ws, p, is)) = let (same, _) = nothing_joined ws s m [] p is in sym same
    by (inr (ws, p, is)) = let (same, _) = nothing_joined ws m s [] p is in same

  one_refusal : (r : R) (c d : C) (u x v y : List T) → W.refuses r u c → W.refuses r v d → u ++ x ≡ v ++ y → c ≡ d
  one_refusal r c d u x v y h k e = by (fronts u x v y e) where
    by : Longer u x v y ⊎ Longer v y u x → c ≡ d
    by (inl (w, is, rest)) = let (_, one) = cuts.refuse_refuse r c d u w h (subst (λ z. W.refuses r z d) is k) in one
    by (inr (w, is, rest)) = let (_, one) = cuts.refuse_refuse r d c v w k (subst (λ z. W.refuses r z c) is h) in sym one

  first_refusal : (ws : List (List T)) (s m : R) (c d : C) (p x q y : List T) → W.refuses s p c → AllPass W s ws m → W.refuses m q d → p ++ x ≡ joined ws ++ (q ++ y) → c ≡ d
  first_refusal [] s m c d p x q y h a k e = one_refusal s c d p x q y h (subst (λ z. W.refuses z q d) a k) e
  first_refusal (u ∷ ws) s m c d p x q y h (n, b, a) k e = absurd (no_both s n c u (joined ws ++ (q ++ y)) p x b h (sym (append_assoc u (joined ws) (q ++ y)) ∙ sym e))

  -- the fronts of a text are refused for one cause
  pub refuses_once : (r : R) (c d : C) (ps x qs y : List T) → Refuses W r ps c → Refuses W r qs d → ps ++ x ≡ qs ++ y → c ≡ d
  refuses_once r c d ps x qs y h k e = by (peel h.pass.pieces k.pass.pieces r h.state k.state (h.piece ++ x) (k.piece ++ y) h.pass.pass k.pass.pass same) where
    laid : (zs : List T) (b : C) (g : Refuses W r zs b) (w : List T) → zs ++ w ≡ joined g.pass.pieces ++ (g.piece ++ w)
    laid zs b g w = ap (λ z. z ++ w) (g.parts ∙ ap (λ z. z ++ g.piece) g.pass.parts) ∙ append_assoc (joined g.pass.pieces) g.piece w

    same : joined h.pass.pieces ++ (h.piece ++ x) ≡ joined k.pass.pieces ++ (k.piece ++ y)
    same = sym (laid ps c h x) ∙ e ∙ laid qs d k y

    by : Ahead h.state k.state (h.piece ++ x) (k.piece ++ y) ⊎ Ahead k.state h.state (k.piece ++ y) (h.piece ++ x) → c ≡ d
    by (inl (ws, p, is)) = first_refusal ws h.state k.state c d h.piece x k.piece y h.refused p k.refused is
    by (inr (ws, p, is)) = sym (first_refusal ws k.state h.state d c k.piece y h.piece x k.refused p h.refused is)

  -- what has passed so far isn't refused within
  pub within_not_refused : (r : R) (c : C) (bs ps rest : List T) → Within W r bs → Refuses W r ps c → bs ≡ ps ++ rest → ⊥
  within_not_refused r c bs ps rest h k e = by (peel h.pass.pieces k.pass.pieces r h.state k.state h.begun (k.piece ++ rest) h.pass.pass k.pass.pass same) where
    same : joined h.pass.pieces ++ h.begun ≡ joined k.pass.pieces ++ (k.piece ++ rest)
    same = ap (λ z. z ++ h.begun) (sym h.pass.parts) ∙ sym h.parts ∙ e ∙ ap (λ z. z ++ rest) (k.parts ∙ ap (λ z. z ++ k.piece) k.pass.parts) ∙ append_assoc (joined k.pass.pieces) k.piece rest

    goes_on : (ws : List (List T)) → AllPass W h.state ws k.state → h.begun ≡ joined ws ++ (k.piece ++ rest) → W.begins h.state h.begun → ⊥
    goes_on [] p is begins = cuts.refuse_begin h.state c k.piece rest (subst (λ z. W.refuses z k.piece c) p k.refused) (subst (W.begins h.state) is begins)
    goes_on (u ∷ ws) (n, q, p) is begins = cuts.pass_begin h.state n u (joined ws ++ (k.piece ++ rest)) q (subst (W.begins h.state) (is ∙ append_assoc u (joined ws) (k.piece ++ rest)) begins)

    not_first : (ws : List (List T)) → AllPass W h.state ws k.state → h.begun ≡ joined ws ++ (k.piece ++ rest) → (h.begun ≡ []) ⊎ W.begins h.state h.begun → ⊥
    not_first ws p is (inl none) =
        let (_, gone) = nothing_joined ws h.state k.state (k.piece ++ rest) p (sym none ∙ is) in
        let (nothing, _) = nothing_in_front k.piece rest (sym gone) in
        let (t, v, some) = cuts.some_refuse k.state k.piece c k.refused in
        no_token t v (sym nothing ∙ some)
    not_first ws p is (inr begins) = goes_on ws p is begins

    behind : (ws : List (List T)) → AllPass W k.state ws h.state → k.piece ++ rest ≡ joined ws ++ h.begun → ⊥
    behind [] p is = not_first [] (sym p) (sym is) h.begins
    behind (u ∷ ws) (n, q, p) is = no_both k.state n c u (joined ws ++ h.begun) k.piece rest q k.refused (sym (append_assoc u (joined ws) h.begun) ∙ sym is)

    by : Ahead h.state k.state h.begun (k.piece ++ rest) ⊎ Ahead k.state h.state (k.piece ++ rest) h.begun → ⊥
    by (inl (ws, p, is)) = not_first ws p is h.begins
    by (inr (ws, p, is)) = behind ws p is

-- A watch over tokens: each is a piece.

same_token : {T : Type 0} (t s : T) (v : List T) → t ∷ v ≡ s ∷ [] → (v ≡ []) × (t ≡ s)
same_token t s v e = (cc, cc)

same_ok : {R C : Type 0} (s m : R) (x : Result R C) → x ≡ Ok s → x ≡ Ok m → s ≡ m
same_ok s m x e f = cc

same_err : {R C : Type 0} (c d : C) (x : Result R C) → x ≡ Err c → x ≡ Err d → c ≡ d
same_err c d x e f = cc

ok_not_err : {R C : Type 0} (s : R) (c : C) (x : Result R C) → x ≡ Ok s → x ≡ Err c → ⊥
ok_not_err s c x e f = cc

module _ {T R C : Type 0} (scan : R → T → Result R C) where
  -- what scan says of two tokens, of which the one is a front of the other
  one_token : (t s : T) (u v : List T) → u ≡ t ∷ [] → u ++ v ≡ s ∷ [] → (v ≡ []) × (t ≡ s)
  one_token t s u v e f = same_token t s v (sym (ap (λ z. z ++ v) e) ∙ f)

  pub token_cuts : Cuts (each_token scan)
  token_cuts = record {
    some_pass = λ r s u (t, is, _). (t, [], is);
    some_refuse = λ r u c (t, is, _). (t, [], is);
    pass_pass = λ r s m u v (t, is, p) (b, are, q). let (none, same) = one_token t b u v is are in (none, same_ok s m (scan r t) p (ap (scan r) same ∙ q));
    pass_refuse = λ r s c u v (t, is, p) (b, are, q). let (none, same) = one_token t b u v is are in ok_not_err s c (scan r t) p (ap (scan r) same ∙ q);
    refuse_pass = λ r s c u v (t, is, p) (b, are, q). let (none, same) = one_token t b u v is are in ok_not_err s c (scan r t) (ap (scan r) same ∙ q) p;
    refuse_refuse = λ r c d u v (t, is, p) (b, are, q). let (none, same) = one_token t b u v is are in (none, same_err c d (scan r t) p (ap (scan r) same ∙ q));
    pass_begin = λ r s u v h none. none;
    refuse_begin = λ r c u v h none. none;
  }
