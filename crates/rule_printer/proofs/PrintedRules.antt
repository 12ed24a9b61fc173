-- Rules, written again, are read as the same rules, and within the same limits.
use Rattle.std.proofs.Common.{◌≡◌, ℕ, List, [], ◌∷◌, ◌++◌, map, Bool, true, false, Some, refl, sym, ap, ◌∙◌, subst, inl, inr, codes, append-nil, append_assoc}
use Rattle.std.specs.List.{flat_map}
use Rattle.std.specs.Str.{str_eq_ignore_ascii_case}
use Rattle.cube_lex.specs.Lexeme.{Lexeme}
use Rattle.cube_lex.specs.Positions.{position_of}
use Rattle.cube_lex.specs.Written.{Spelling, spelling_of, sign_token, word_token}
use Rattle.cube_lex.specs.declared.position.Position.{Position}
use Rattle.cube_lex.specs.declared.token.Kind.TheVariants as kinds
use Rattle.grammar.specs.Grammar.{Grammar, one, both, many}
use Rattle.grammar.specs.Tokens.{is_sign, is_word_kind, is_word, sign, word}
use Rattle.grammar.proofs.Tokens.{when_picks, and_is, word_is, word_tells}
use Rattle.expression_grammar.specs.Limits.{begun_within}
use Rattle.expression_grammar.proofs.PrintedLimits.{Goes, goes_on, goes_through}
use Rattle.grammar.proofs.Spells.{split_at, none_spelled}
use Rattle.rule_tree.specs.Counting.{count}
use Rattle.grammar.specs.Lists.{listed}
use Rattle.rule_tree.specs.Formula.{formula}
use Rattle.rule_tree.specs.RuleText.{ended, part, body, statement, target, feeder, skipcheck, automatic, given_feeders, feeders, rules}
use Rattle.rule_printer.specs.Spelled.{next_spelled, listed_spelled, tree_spelled, ended_spelled, part_spelled, body_spelled, statement_spelled, target_spelled, feeder_spelled, skipcheck_spelled, automatic_spelled, given_feeders_spelled, feeders_spelled, rules_spelled}
use Rattle.rule_tree.specs.declared.counted.Counted.{Counted}
use Rattle.rule_tree.specs.declared.counted.RuleTextPlace.{RuleTextPlace}
use Rattle.rule_tree.specs.declared.counted.RuleTextPlace.TheVariants as places
use Rattle.rule_tree.specs.declared.rule.BodyText.{BodyText}
use Rattle.rule_tree.specs.declared.rule.FeederText.{FeederText}
use Rattle.rule_tree.specs.declared.rule.RuleText.{RuleText}
use Rattle.rule_tree.specs.declared.rule.StatementText.{StatementText}
use Rattle.rule_tree.specs.declared.rule.TargetText.{TargetText}
use Rattle.rule_tree.specs.declared.rule.TargetText.TheVariants as targets
use Rattle.rule_tree.specs.declared.tree.Tree.{Tree}
use Rattle.rule_printer.proofs.PrintedCounting.{step, limits, literal, formula_place, argument_place, word_step}
use Rattle.rule_printer.proofs.PrintedPlaces.{Follows, follows_none, follows_both, follows_sign, follows_word, follows_area, follows_bracket, follows_formula}
use Rattle.rule_printer.proofs.PrintedPrimaries.{word_no_sign}
use Rattle.std.proofs.Math.Bool.{or-true as or_true, or-false as or_false}

-- Words and signs outside of formulas.

no_sign_word : (w s : List ℕ) (x : Lexeme) → is_word w x ≡ true → is_sign s x ≡ false
no_sign_word w s x is = let (kind, _) = and_is (is_word_kind x.kind) (str_eq_ignore_ascii_case x.piece w) is in rw (word_no_sign x.kind kind) refl

other_word : (w v : List ℕ) → str_eq_ignore_ascii_case w v ≡ false → (x : Lexeme) → is_word w x ≡ true → is_word v x ≡ false
other_word w v other x is = word_tells w v x (position_of x) (word_is w x is) ∙ other

-- between statements, a word but `FEEDERS` leads nowhere
between_word : (w : List ℕ) → str_eq_ignore_ascii_case w (codes "FEEDERS") ≡ false → (c : Counted) (x : Lexeme) → is_word w x ≡ true → step (record c { place = places.Between }) x ≡ Some (record c { place = places.Between })
unfolding count
between_word w other c x is = rw (no_sign_word w (codes "[") x is, no_sign_word w (codes ":") x is, other_word w (codes "FEEDERS") other x is, or_false c.feeding) refl

feeders_word : (c : Counted) (x : Lexeme) → is_word (codes "FEEDERS") x ≡ true → step (record c { place = places.Between }) x ≡ Some (record c { feeding = true; place = places.Between })
unfolding count
feeders_word c x is = rw (no_sign_word (codes "FEEDERS") (codes "[") x is, no_sign_word (codes "FEEDERS") (codes ":") x is, is, or_true c.feeding) refl

targets_word : (w : List ℕ) (c : Counted) (x : Lexeme) → is_word w x ≡ true → step (record c { place = places.Targets }) x ≡ Some (record c { place = places.Targets })
unfolding count
targets_word w c x is = rw (no_sign_word w (codes ";") x is, no_sign_word w (codes "(") x is) refl

between_semicolon : (c : Counted) (x : Lexeme) → step (record c { place = places.Between }) (literal kinds.Sign (codes ";") x) ≡ Some (record c { place = places.Between })
unfolding count
between_semicolon c x = ap (λ b. Some (record c { feeding = b; place = places.Between })) (or_false c.feeding)

between_colon : (c : Counted) (x : Lexeme) → step (record c { place = places.Between }) (literal kinds.Sign (codes ":") x) ≡ Some (record c { place = places.Formula (begun_within 0) })
unfolding count
between_colon c x = refl

mark_colon : (c : Counted) (x : Lexeme) → step (record c { place = places.Formula (limits 0 1 false false) }) (literal kinds.Sign (codes ":") x) ≡ Some (record c { place = places.Formula (begun_within 0) })
unfolding count
mark_colon c x = refl

formula_semicolon : (c : Counted) (n : ℕ) (x : Lexeme) → step (record c { place = places.Formula (limits 0 n false false) }) (literal kinds.Sign (codes ";") x) ≡ Some (record c { place = places.Between })
unfolding count
formula_semicolon c n x = refl

area_equal : (c : Counted) (x : Lexeme) → step (record c { place = places.Area }) (literal kinds.Sign (codes "=") x) ≡ Some (record c { place = places.Formula (begun_within 0) })
unfolding count
area_equal c x = refl

area_arrow : (c : Counted) (x : Lexeme) → step (record c { place = places.Area }) (literal kinds.Sign (codes "=>") x) ≡ Some (record c { place = places.Targets })
unfolding count
area_arrow c x = refl

targets_comma : (c : Counted) (x : Lexeme) → step (record c { place = places.Targets }) (literal kinds.Sign (codes ",") x) ≡ Some (record c { place = places.Targets })
unfolding count
targets_comma c x = refl

targets_semicolon : (c : Counted) (x : Lexeme) → step (record c { place = places.Targets }) (literal kinds.Sign (codes ";") x) ≡ Some (record c { place = places.Between })
unfolding count
targets_semicolon c x = refl

targets_opening : (c : Counted) (x : Lexeme) → step (record c { place = places.Targets }) (literal kinds.Sign (codes "(") x) ≡ Some (record c { place = places.Argument (begun_within 1) })
unfolding count
targets_opening c x = refl

argument_comma : (c : Counted) (n : ℕ) (x : Lexeme) → step (record c { place = places.Argument (limits 1 n false false) }) (literal kinds.Sign (codes ",") x) ≡ Some (record c { place = places.Argument (begun_within 1) })
unfolding count
argument_comma c n x = refl

argument_closing : (c : Counted) (n : ℕ) (x : Lexeme) → step (record c { place = places.Argument (limits 1 n false false) }) (literal kinds.Sign (codes ")") x) ≡ Some (record c { place = places.Targets })
unfolding count
argument_closing c n x = refl

-- One token of a text.

the_sign : (s : List ℕ) (p q : RuleTextPlace) → ((c : Counted) (x : Lexeme) → step (record c { place = p }) (literal kinds.Sign s x) ≡ Some (record c { place = q })) → (u : List Lexeme) (a : Unit {0}) → one (sign s) u a → Follows p q (sign_token s ∷ []) u
the_sign s p q moves u a (t, is, takes) = let (sign_is, _) = when_picks (is_sign s) (λ _. tt) t a takes in subst (Follows p q (sign_token s ∷ [])) (sym is) (follows_sign s p q t sign_is moves)

the_word : (w : List ℕ) (p q : RuleTextPlace) (f : Counted → Counted) → ((c : Counted) → (f c).place ≡ q) → ((c : Counted) (x : Lexeme) → is_word w x ≡ true → step (record c { place = p }) x ≡ Some (f c)) → (u : List Lexeme) (a : Position) → one (word w) u a → Follows p q (word_token w ∷ []) u
the_word w p q f leads moves u a (t, is, takes) = let (word_so, _) = when_picks (is_word w) position_of t a takes in subst (Follows p q (word_token w ∷ [])) (sym is) (follows_word w p q t word_so f leads moves)

-- the same, where the text is told by its parts
told : {p q : RuleTextPlace} {xs : List Spelling} {u v : List Lexeme} → u ≡ v → Follows p q xs v → Follows p q xs u
told {p = p} {q = q} {xs = xs} is f = subst (Follows p q xs) (sym is) f

follows_many : {A : Type 0} (p : RuleTextPlace) (G : Grammar Lexeme A) (f : A → List Spelling) → ((u : List Lexeme) (a : A) → G u a → Follows p p (f a) u) → (list : List A) (u : List Lexeme) → many G u list → Follows p p (flat_map f list) u
follows_many p G f each [] u h = told h follows_none
follows_many p G f each (a ∷ list) u (v, w, parts, h, more) = told parts (follows_both (each v a h) (follows_many p G f each list w more))

-- Statements.

follows_ended : (u : List Lexeme) (e : Tree) → ended u e → Follows (places.Formula (begun_within 0)) places.Between (ended_spelled e) u
follows_ended u e (v, w, tree, parts, h, (x, y, a, further, (t, is-t, takes), (nothing, is))) =
    let (semicolon, _) = when_picks (is_sign (codes ";")) (λ _. tt) t a takes in
    let whole : u ≡ v ++ t ∷ [] = parts ∙ ap (λ l. v ++ l) (further ∙ ap (λ l. x ++ l) nothing ∙ append-nil x ∙ is-t) in
    subst (λ e. Follows (places.Formula (begun_within 0)) places.Between (ended_spelled e) u) (sym is)
    (told whole (follows_formula places.Formula 0 formula_place places.Between (codes ";") formula_semicolon v tree t h semicolon))

-- a part behind `=`, and one behind another part
first_part : (mark : List ℕ) (u : List Lexeme) (e : Tree) → part mark u e → Follows (places.Formula (begun_within 0)) places.Between (part_spelled mark e) u
first_part mark u e (v, w, a, parts, h, (x, y, b, further, colon, g)) =
    let marked : Follows (places.Formula (begun_within 0)) (places.Formula (limits 0 1 false false)) (word_token mark ∷ []) v =
    the_word mark (places.Formula (begun_within 0)) (places.Formula (limits 0 1 false false)) (λ c. record c { place = places.Formula (limits 0 1 false false) }) (λ c. refl)
    (λ c x is. (let (kind, _) = and_is (is_word_kind x.kind) (str_eq_ignore_ascii_case x.piece mark) is in word_step places.Formula 0 formula_place c x 0 0 (word_no_sign x.kind kind))) v a h in
    told parts (follows_both marked (told further (follows_both (the_sign (codes ":") (places.Formula (limits 0 1 false false)) (places.Formula (begun_within 0)) mark_colon x b colon) (follows_ended y e g))))

second_part : (mark : List ℕ) → str_eq_ignore_ascii_case mark (codes "FEEDERS") ≡ false → (u : List Lexeme) (e : Tree) → part mark u e → Follows places.Between places.Between (part_spelled mark e) u
second_part mark other u e (v, w, a, parts, h, (x, y, b, further, colon, g)) =
    let marked : Follows places.Between places.Between (word_token mark ∷ []) v = the_word mark places.Between places.Between (λ c. record c { place = places.Between }) (λ c. refl) (between_word mark other) v a h in
    told parts (follows_both marked (told further (follows_both (the_sign (codes ":") places.Between (places.Formula (begun_within 0)) between_colon x b colon) (follows_ended y e g))))

follows_body : (u : List Lexeme) (b : BodyText) → body u b → Follows (places.Formula (begun_within 0)) places.Between (body_spelled b) u
follows_body u b (inl (v, w, leaf, parts, h, inl (x, y, cons, further, g, (nothing, is)))) =
    subst (λ b. Follows (places.Formula (begun_within 0)) places.Between (body_spelled b) u) (sym is)
    (told parts (follows_both (first_part (codes "N") v leaf h) (told (further ∙ ap (λ l. x ++ l) nothing ∙ append-nil x) (second_part (codes "C") refl x cons g))))
follows_body u b (inl (v, w, leaf, parts, h, inr (nothing, is))) =
    subst (λ b. Follows (places.Formula (begun_within 0)) places.Between (body_spelled b) u) (sym is) (told (parts ∙ ap (λ l. v ++ l) nothing ∙ append-nil v) (first_part (codes "N") v leaf h))
follows_body u b (inr (inl (v, w, cons, parts, h, inl (x, y, leaf, further, g, (nothing, is))))) =
    subst (λ b. Follows (places.Formula (begun_within 0)) places.Between (body_spelled b) u) (sym is)
    (told parts (follows_both (first_part (codes "C") v cons h) (told (further ∙ ap (λ l. x ++ l) nothing ∙ append-nil x) (second_part (codes "N") refl x leaf g))))
follows_body u b (inr (inl (v, w, cons, parts, h, inr (nothing, is)))) =
    subst (λ b. Follows (places.Formula (begun_within 0)) places.Between (body_spelled b) u) (sym is) (told (parts ∙ ap (λ l. v ++ l) nothing ∙ append-nil v) (first_part (codes "C") v cons h))
follows_body u b (inr (inr (v, w, tree, parts, h, (nothing, is)))) =
    subst (λ b. Follows (places.Formula (begun_within 0)) places.Between (body_spelled b) u) (sym is) (told (parts ∙ ap (λ l. v ++ l) nothing ∙ append-nil v) (follows_ended v tree h))

follows_statement : (u : List Lexeme) (s : StatementText) → statement u s → Follows places.Between places.Between (statement_spelled s) u
follows_statement u s (v, w, cells, parts, h, (x, y, b, further, equal, (f, g, given, more, k, (nothing, is)))) =
    subst (λ s. Follows places.Between places.Between (statement_spelled s) u) (sym is)
    (told parts (follows_both (follows_area v cells h) (told further (follows_both (the_sign (codes "=") places.Area (places.Formula (begun_within 0)) area_equal x b equal)
    (told (more ∙ ap (λ l. f ++ l) nothing ∙ append-nil f) (follows_body f given k))))))

-- Feeders.

regroup : {A : Type 0} (a m z : List A) (x : A) → (a ++ (x ∷ m)) ++ z ≡ (a ++ x ∷ []) ++ (m ++ z)
regroup a m z x = append_assoc a (x ∷ m) z ∙ sym (append_assoc a (x ∷ []) (m ++ z))

-- the arguments of a `DB` and its `)`
follows_arguments : (rest : List Tree) (e : Tree) (u v : List Lexeme) (t : Lexeme) → formula u e → many (both (one (sign (codes ","))) (λ _. formula)) v rest → is_sign (codes ")") t ≡ true
    → Follows (places.Argument (begun_within 1)) places.Targets ((tree_spelled e ++ flat_map (next_spelled tree_spelled) rest) ++ sign_token (codes ")") ∷ []) ((u ++ v) ++ t ∷ [])
follows_arguments [] e u v t h none closing =
    subst (λ l. Follows (places.Argument (begun_within 1)) places.Targets (l ++ sign_token (codes ")") ∷ []) ((u ++ v) ++ t ∷ [])) (sym (append-nil (tree_spelled e)))
    (told (ap (λ l. l ++ t ∷ []) (ap (λ l. u ++ l) none ∙ append-nil u)) (follows_formula places.Argument 1 argument_place places.Targets (codes ")") argument_closing u e t h closing))
follows_arguments (x ∷ rest) e u v t h (a, b, parts, (f, g, o, ends, (s, is-s, takes), k), more) closing =
    let (comma, _) = when_picks (is_sign (codes ",")) (λ _. tt) s o takes in
    let first : a ≡ s ∷ g = ends ∙ ap (λ l. l ++ g) is-s in
    let whole : (u ++ v) ++ t ∷ [] ≡ (u ++ s ∷ []) ++ ((g ++ b) ++ t ∷ []) = ap (λ l. (u ++ l) ++ t ∷ []) (parts ∙ ap (λ l. l ++ b) first) ∙ regroup u (g ++ b) (t ∷ []) s in
    subst (λ l. Follows (places.Argument (begun_within 1)) places.Targets l ((u ++ v) ++ t ∷ []))
    (sym (regroup (tree_spelled e) (tree_spelled x ++ flat_map (next_spelled tree_spelled) rest) (sign_token (codes ")") ∷ []) (sign_token (codes ","))))
    (told whole (follows_both (follows_formula places.Argument 1 argument_place (places.Argument (begun_within 1)) (codes ",") argument_comma u e s h comma) (follows_arguments rest x g b t k more closing)))

follows_target : (u : List Lexeme) (t : TargetText) → target u t → Follows places.Targets places.Targets (target_spelled t) u
follows_target u t (inl (v, w, simples, parts, h, (nothing, is))) =
    subst (λ t. Follows places.Targets places.Targets (target_spelled t) u) (sym is) (told (parts ∙ ap (λ l. v ++ l) nothing ∙ append-nil v) (follows_bracket v simples h))
follows_target u t (inr (v, w, a, parts, named, (x, y, b, further, opens, (f, g, arguments, more, (h, i, e, begun, k, (m, n, rest, on, items, (no_more, all))), (o, p, q, ends, (r, is-r, takes), (nothing, is)))))) =
    let (closing, _) = when_picks (is_sign (codes ")")) (λ _. tt) r q takes in
    let inner : y ≡ (h ++ m) ++ r ∷ [] = more ∙ ap (λ l. l ++ g) (begun ∙ ap (λ l. h ++ l) (on ∙ ap (λ l. m ++ l) no_more ∙ append-nil m)) ∙ ap (λ l. (h ++ m) ++ l) (ends ∙ ap (λ l. o ++ l) nothing ∙ append-nil o ∙ is-r) in
    subst (λ t. Follows places.Targets places.Targets (target_spelled t) u) (sym (is ∙ ap (λ l. targets.Db l) all))
    (told parts (follows_both (the_word (codes "DB") places.Targets places.Targets (λ c. record c { place = places.Targets }) (λ c. refl) (targets_word (codes "DB")) v a named)
    (told further (follows_both (the_sign (codes "(") places.Targets (places.Argument (begun_within 1)) targets_opening x b opens) (told inner (follows_arguments rest e h m r k items closing))))))

next_target : (u : List Lexeme) (t : TargetText) → both (one (sign (codes ","))) (λ _. target) u t → Follows places.Targets places.Targets (next_spelled target_spelled t) u
next_target u t (v, w, a, parts, comma, h) = told parts (follows_both (the_sign (codes ",") places.Targets places.Targets targets_comma v a comma) (follows_target w t h))

follows_targets : (u : List Lexeme) (list : List TargetText) → listed target target u list → Follows places.Targets places.Targets (listed_spelled target_spelled list) u
follows_targets u list (v, w, first, parts, h, (x, y, rest, further, more, (nothing, is))) =
    subst (λ l. Follows places.Targets places.Targets (listed_spelled target_spelled l) u) (sym is)
    (told (parts ∙ ap (λ l. v ++ l) (further ∙ ap (λ l. x ++ l) nothing ∙ append-nil x))
    (follows_both (follows_target v first h) (follows_many places.Targets (both (one (sign (codes ","))) (λ _. target)) (next_spelled target_spelled) next_target rest x more)))

follows_feeder : (u : List Lexeme) (f : FeederText) → feeder u f → Follows places.Between places.Between (feeder_spelled f) u
follows_feeder u f (v, w, cells, parts, h, (x, y, a, further, arrow, (b, c, fed, more, g, (d, e, o, ends, semicolon, (nothing, is))))) =
    subst (λ f. Follows places.Between places.Between (feeder_spelled f) u) (sym is)
    (told parts (follows_both (follows_area v cells h) (told further (follows_both (the_sign (codes "=>") places.Area places.Targets area_arrow x a arrow)
    (told more (follows_both (follows_targets b fed g) (told (ends ∙ ap (λ l. d ++ l) nothing ∙ append-nil d) (the_sign (codes ";") places.Targets places.Between targets_semicolon d o semicolon))))))))

-- Whole texts.

follows_skipcheck : (u : List Lexeme) (b : Bool) → skipcheck u b → Follows places.Between places.Between (skipcheck_spelled b) u
follows_skipcheck u b (inl (v, w, a, parts, named, (x, y, o, further, semicolon, (nothing, is)))) =
    subst (λ b. Follows places.Between places.Between (skipcheck_spelled b) u) (sym is)
    (told parts (follows_both (the_word (codes "SKIPCHECK") places.Between places.Between (λ c. record c { place = places.Between }) (λ c. refl) (between_word (codes "SKIPCHECK") refl) v a named)
    (told (further ∙ ap (λ l. x ++ l) nothing ∙ append-nil x) (the_sign (codes ";") places.Between places.Between between_semicolon x o semicolon))))
follows_skipcheck u b (inr (nothing, is)) = subst (λ b. Follows places.Between places.Between (skipcheck_spelled b) u) (sym is) (told nothing follows_none)

follows_automatic : (u : List Lexeme) (b : Bool) → automatic u b → Follows places.Between places.Between (automatic_spelled b) u
follows_automatic u b (inl (v, w, a, parts, named, (nothing, is))) =
    subst (λ b. Follows places.Between places.Between (automatic_spelled b) u) (sym is)
    (told (parts ∙ ap (λ l. v ++ l) nothing ∙ append-nil v) (the_word (codes "AUTO") places.Between places.Between (λ c. record c { place = places.Between }) (λ c. refl) (between_word (codes "AUTO") refl) v a named))
follows_automatic u b (inr (nothing, is)) = subst (λ b. Follows places.Between places.Between (automatic_spelled b) u) (sym is) (told nothing follows_none)

follows_given : (feeding : Bool × List FeederText) (u : List Lexeme) → given_feeders u feeding → Follows places.Between places.Between (given_feeders_spelled feeding.0 feeding.1) u
follows_given feeding u (v, w, a, parts, named, (x, y, finds, further, h, (b, c, o, more, semicolon, (d, e, given, last, g, (nothing, is))))) =
    subst (λ feeding. Follows places.Between places.Between (given_feeders_spelled feeding.0 feeding.1) u) (sym is)
    (told parts (follows_both (the_word (codes "FEEDERS") places.Between places.Between (λ c. record c { feeding = true; place = places.Between }) (λ c. refl) feeders_word v a named)
    (told further (follows_both (follows_automatic x finds h)
    (told more (follows_both (the_sign (codes ";") places.Between places.Between between_semicolon b o semicolon)
    (told (last ∙ ap (λ l. d ++ l) nothing ∙ append-nil d) (follows_many places.Between feeder feeder_spelled follows_feeder given d g))))))))

-- the last part of a text: from between statements the tokens lead somewhere, where u does
pub record Ends (tokens : List Spelling) (u : List Lexeme) : Type 0 where
  pub at : (ts : List Lexeme) → map spelling_of ts ≡ tokens → (c r : Counted) → c.place ≡ places.Between → Goes step c u r → (end : Counted) × Goes step c ts end

ends_of : {p : RuleTextPlace} {tokens : List Spelling} {u : List Lexeme} → Follows places.Between p tokens u → Ends tokens u
ends_of f = record { at = λ ts same c r is goes. (r, (f.at ts same c r is goes).0) }

ends_nothing : (u : List Lexeme) → Ends [] u
ends_nothing u = record { at = λ ts same c r is goes. (c, subst (λ l. Goes step c l c) (sym (none_spelled ts same)) refl) }

ends_feeders : (feeding : Bool × List FeederText) (u : List Lexeme) → feeders u feeding → Ends (feeders_spelled feeding.0 feeding.1) u
ends_feeders (false, []) u h = ends_nothing u
ends_feeders (false, first ∷ rest) u (inl h) = ends_of (follows_given (false, first ∷ rest) u h)
ends_feeders (false, first ∷ rest) u (inr (nothing, is)) = let none : first ∷ rest ≡ [] = ap (λ feeding. feeding.1) is in cc
ends_feeders (true, given) u (inl h) = ends_of (follows_given (true, given) u h)
ends_feeders (true, given) u (inr (nothing, is)) = let plain : true ≡ false = ap (λ feeding. feeding.0) is in cc

ends_behind : (xs ys : List Spelling) (u v : List Lexeme) → Follows places.Between places.Between xs u → Ends ys v → Ends (xs ++ ys) (u ++ v)
ends_behind xs ys u v f g = record {
  at = λ ts same c r is goes. (
      let (a, b, parts, front, back) = split_at ts xs ys same in
      let (n, left, right) = goes_through step u v c r goes in
      let (before, n-is) = f.at a front c n is left in
      let (end, after) = g.at b back n r n-is right in
      (end, subst (λ l. Goes step c l end) (sym parts) (goes_on step a b c n end before after)));
}

pub rules_end : (u : List Lexeme) (text : RuleText) → rules u text → Ends (rules_spelled text) u
rules_end u text (v, w, skips, parts, h, (x, y, statements, further, g, (a, b, feeding, more, k, (nothing, is)))) =
    let last : y ≡ a = more ∙ ap (λ l. a ++ l) nothing ∙ append-nil a in
    subst (λ text. Ends (rules_spelled text) u) (sym is) (subst (λ l. Ends (skipcheck_spelled skips ++ (flat_map statement_spelled statements ++ feeders_spelled feeding.0 feeding.1)) l) (sym (parts ∙ ap (λ l. v ++ l) (further ∙ ap (λ l. x ++ l) last)))
    (ends_behind (skipcheck_spelled skips) (flat_map statement_spelled statements ++ feeders_spelled feeding.0 feeding.1) v (x ++ a) (follows_skipcheck v skips h)
    (ends_behind (flat_map statement_spelled statements) (feeders_spelled feeding.0 feeding.1) x a (follows_many places.Between statement statement_spelled follows_statement statements x g) (ends_feeders feeding a k))))
