-- What is written of a text leads where each text of it leads, from place to place.
use Rattle.std.proofs.Common.{◌≡◌, ℕ, ◌+◌, List, [], ◌∷◌, ◌++◌, map, Bool, true, false, Some, Ok, Err, not, ◌&&◌, nat_lt, if◌then◌else◌, refl, sym, ap, ◌∙◌, subst, codes, arith}
use Rattle.std.specs.Result.{result_ok}
use Rattle.cube_lex.specs.Lexeme.{Lexeme}
use Rattle.cube_lex.specs.Positions.{position_of}
use Rattle.cube_lex.specs.Written.{Spelling, spelling_of, sign_token, word_token}
use Rattle.cube_lex.specs.declared.token.Kind.TheVariants as kinds
use Rattle.grammar.specs.Tokens.{is_sign, is_word}
use Rattle.expression_grammar.specs.Limits.{begun_within}
use Rattle.expression_grammar.specs.declared.limits.Limits.{Limits}
use Rattle.expression_grammar.proofs.PrintedLimits.{Goes, goes_on, goes_through, some_is}
use Rattle.grammar.proofs.Spells.{split_at, none_spelled}
use Rattle.expression_grammar.proofs.PrintedTokens.{split_next, is_written_sign}
use Rattle.rule_tree.specs.Counting.{most_statements, count}
use Rattle.rule_tree.specs.Formula.{formula, bracket}
use Rattle.rule_tree.specs.RuleText.{area}
use Rattle.rule_printer.specs.Spelled.{tree_spelled, bracket_spelled, area_spelled}
use Rattle.rule_tree.specs.declared.counted.Counted.{Counted}
use Rattle.rule_tree.specs.declared.counted.RuleTextPlace.{RuleTextPlace}
use Rattle.rule_tree.specs.declared.counted.RuleTextPlace.TheVariants as places
use Rattle.rule_tree.specs.declared.excess.Excess.{Excess}
use Rattle.rule_tree.specs.declared.excess.Excess.TheVariants as excesses
use Rattle.rule_tree.specs.declared.rule.EntryText.{EntryText}
use Rattle.rule_tree.specs.declared.tree.SimpleText.{SimpleText}
use Rattle.rule_tree.specs.declared.tree.Tree.{Tree}
use Rattle.rule_printer.proofs.PrintedBrackets.{AreContent, IsBracketed, bracket_again, bracket_is, area_again, area_is}
use Rattle.rule_printer.proofs.PrintedCalls.{formula_again}
use Rattle.rule_printer.proofs.PrintedCounting.{step, literal, sign_literal, IsPlace, behind_in}
use Rattle.rule_printer.proofs.PrintedWords.{is_written_word}

-- from the one place the tokens lead wherever u leads, and that is to the other place
pub record Follows (p q : RuleTextPlace) (tokens : List Spelling) (u : List Lexeme) : Type 0 where
  pub at : (ts : List Lexeme) → map spelling_of ts ≡ tokens → (c r : Counted) → c.place ≡ p → Goes step c u r → Goes step c ts r × (r.place ≡ q)

pub follows_none : {p : RuleTextPlace} → Follows p p [] []
follows_none = record { at = λ ts same c r is goes. (subst (λ l. Goes step c l r) (sym (none_spelled ts same)) goes, ap (λ x. x.place) goes ∙ is) }

pub follows_both : {p m q : RuleTextPlace} {xs ys : List Spelling} {u v : List Lexeme} → Follows p m xs u → Follows m q ys v → Follows p q (xs ++ ys) (u ++ v)
follows_both {xs = xs} {ys = ys} {u = u} {v = v} f g = record {
  at = λ ts same c r is goes. (
      let (a, b, parts, front, back) = split_at ts xs ys same in
      let (n, left, right) = goes_through step u v c r goes in
      let (before, n-is) = f.at a front c n is left in
      let (after, r-is) = g.at b back n r n-is right in
      (subst (λ l. Goes step c l r) (sym parts) (goes_on step a b c n r before after), r-is));
}

-- one token, which leads where it leads wherever it stands
pub follows_one : (p q : RuleTextPlace) (x : Spelling) (t : Lexeme) → ((c r : Counted) → step (record c { place = p }) t ≡ Some r → (r.place ≡ q) × ((s : Lexeme) → spelling_of s ≡ x → step (record c { place = p }) s ≡ Some r)) → Follows p q (x ∷ []) (t ∷ [])
follows_one p q x t leads = record {
  at = λ ts same c r is (m, taken, r-is). (
      let (s, none, ts-is, s-is, nothing) = split_next ts x [] same in
      let here : c ≡ record c { place = p } = ap (λ y. record c { place = y }) is in
      let (m-is, others) = leads c m (sym (ap (λ y. step y t) here) ∙ taken) in
      let next : step c s ≡ Some m = ap (λ y. step y s) here ∙ others s s-is in
      (subst (λ l. Goes step c l r) (sym (ts-is ∙ ap (λ l. s ∷ l) (none_spelled none nothing))) (m, next, r-is), ap (λ y. y.place) r-is ∙ m-is));
}

-- a sign that leads to the other place
pub follows_sign : (s : List ℕ) (p q : RuleTextPlace) (t : Lexeme) → is_sign s t ≡ true → ((c : Counted) (x : Lexeme) → step (record c { place = p }) (literal kinds.Sign s x) ≡ Some (record c { place = q })) → Follows p q (sign_token s ∷ []) (t ∷ [])
follows_sign s p q t is moves = follows_one p q (sign_token s) t (λ c r taken. (
    let m-is : r ≡ record c { place = q } = some_is r (record c { place = q }) (sym taken ∙ ap (step (record c { place = p })) (sign_literal s t is) ∙ moves c t) in
    (ap (λ x. x.place) m-is, λ x x-is. ap (step (record c { place = p })) (sign_literal s x (is_written_sign s x x-is)) ∙ moves c x ∙ ap Some (sym m-is))))

-- a word that leads to the other place
pub follows_word : (w : List ℕ) (p q : RuleTextPlace) (t : Lexeme) → is_word w t ≡ true → (f : Counted → Counted) → ((c : Counted) → (f c).place ≡ q) → ((c : Counted) (x : Lexeme) → is_word w x ≡ true → step (record c { place = p }) x ≡ Some (f c)) → Follows p q (word_token w ∷ []) (t ∷ [])
follows_word w p q t is f leads moves = follows_one p q (word_token w) t (λ c r taken. (
    let m-is : r ≡ f c = some_is r (f c) (sym taken ∙ moves c t is) in
    (ap (λ x. x.place) m-is ∙ leads c, λ x x-is. moves c x (is_written_word w x x-is) ∙ ap Some (sym m-is))))

-- Areas and brackets.

-- the places in which brackets stand: what a `[` does, and that nothing is counted up to its `]`
record Stays (p : RuleTextPlace) : Type 0 where
  content : (c : Counted) (t : Lexeme) → is_sign (codes ";") t ≡ false → is_sign (codes "=") t ≡ false → is_sign (codes "=>") t ≡ false → is_sign (codes "(") t ≡ false → step (record c { place = p }) t ≡ Some (record c { place = p })
  closes : (c : Counted) (x : Lexeme) → step (record c { place = p }) (literal kinds.Sign (codes "]") x) ≡ Some (record c { place = p })

area_stays : Stays places.Area
unfolding count
area_stays = record { content = λ c t semicolon equal arrow opening. rw (equal, arrow) refl; closes = λ c x. refl }

targets_stay : Stays places.Targets
unfolding count
targets_stay = record { content = λ c t semicolon equal arrow opening. rw (semicolon, opening) refl; closes = λ c x. refl }

content_into : (p : RuleTextPlace) → Stays p → (ts : List Lexeme) (c r : Counted) → AreContent ts → Goes step (record c { place = p }) ts r → r ≡ record c { place = p }
content_into p stays [] c r content goes = goes
content_into p stays (t ∷ ts) c r content (m, taken, goes) =
    let m-is : m ≡ record c { place = p } = some_is m (record c { place = p }) (sym taken ∙ stays.content c t content.0.semicolon content.0.equal content.0.arrow content.0.opening) in
    content_into p stays ts c r content.1 (subst (λ x. Goes step x ts r) m-is goes)

content_from : (p : RuleTextPlace) → Stays p → (ts : List Lexeme) (c : Counted) → AreContent ts → Goes step (record c { place = p }) ts (record c { place = p })
content_from p stays [] c content = refl
content_from p stays (t ∷ ts) c content = (record c { place = p }, stays.content c t content.0.semicolon content.0.equal content.0.arrow content.0.opening, content_from p stays ts c content.1)

-- behind the first token, brackets lead nowhere else
closed_into : (p : RuleTextPlace) → Stays p → (ts : List Lexeme) (t : Lexeme) (c r : Counted) → AreContent ts → is_sign (codes "]") t ≡ true → Goes step (record c { place = p }) (ts ++ t ∷ []) r → r ≡ record c { place = p }
closed_into p stays ts t c r content closing goes =
    let (m, within, (n, last, r-is)) = goes_through step ts (t ∷ []) (record c { place = p }) r goes in
    let m-is : m ≡ record c { place = p } = content_into p stays ts c m content within in
    r-is ∙ some_is n (record c { place = p }) (sym last ∙ ap (λ x. step x t) m-is ∙ ap (step (record c { place = p })) (sign_literal (codes "]") t closing) ∙ stays.closes c t)

closed_from : (p : RuleTextPlace) → Stays p → (ts : List Lexeme) (t : Lexeme) (c : Counted) → AreContent ts → is_sign (codes "]") t ≡ true → Goes step (record c { place = p }) (ts ++ t ∷ []) (record c { place = p })
closed_from p stays ts t c content closing =
    goes_on step ts (t ∷ []) (record c { place = p }) (record c { place = p }) (record c { place = p }) (content_from p stays ts c content)
    (record c { place = p }, ap (step (record c { place = p })) (sign_literal (codes "]") t closing) ∙ stays.closes c t, refl)

-- what a `[` does is the same wherever it stands
abbrev OpensAlike : RuleTextPlace → RuleTextPlace → Type 0
OpensAlike p q = (c r : Counted) (s t : Lexeme) → is_sign (codes "[") s ≡ true → is_sign (codes "[") t ≡ true → step (record c { place = p }) t ≡ Some r → (step (record c { place = p }) s ≡ Some r) × (r.place ≡ q)

targets_open : OpensAlike places.Targets places.Targets
unfolding count
targets_open c r s t s-is t-is taken =
    let r-is : r ≡ record c { place = places.Targets } = some_is r (record c { place = places.Targets }) (sym taken ∙ ap (step (record c { place = places.Targets })) (sign_literal (codes "[") t t-is)) in
    (ap (step (record c { place = places.Targets })) (sign_literal (codes "[") s s-is) ∙ ap Some (sym r-is), ap (λ x. x.place) r-is)

one_of : (a b d e : Bool) (x y r : Counted) (f g : Excess) → x.place ≡ places.Area → y.place ≡ places.Area → result_ok (if a && b then Ok x else (if d && e then Ok y else Err f)) ≡ Some r
    → (result_ok (if a && b then Ok x else (if d && e then Ok y else Err g)) ≡ Some r) × (r.place ≡ places.Area)
one_of true true d e x y r f g x-is y-is h = let same : x ≡ r = cc in (h, ap (λ c. c.place) (sym same) ∙ x-is)
one_of true false true true x y r f g x-is y-is h = let same : y ≡ r = cc in (h, ap (λ c. c.place) (sym same) ∙ y-is)
one_of true false true false x y r f g x-is y-is h = cc
one_of true false false e x y r f g x-is y-is h = cc
one_of false b true true x y r f g x-is y-is h = let same : y ≡ r = cc in (h, ap (λ c. c.place) (sym same) ∙ y-is)
one_of false b true false x y r f g x-is y-is h = cc
one_of false b false e x y r f g x-is y-is h = cc

areas_open : OpensAlike places.Between places.Area
unfolding count
areas_open c r s t s-is t-is taken =
    let here : Counted = record c { place = places.Between } in
    let (there, place) = one_of c.feeding (nat_lt c.feeders most_statements) (not c.feeding) (nat_lt c.statements most_statements)
    (record here { feeders = c.feeders + 1; place = places.Area }) (record here { statements = c.statements + 1; place = places.Area }) r (excesses.TooMany (position_of t)) (excesses.TooMany (position_of s)) refl refl
    (sym (ap (step here) (sign_literal (codes "[") t t-is)) ∙ taken) in
    (ap (step here) (sign_literal (codes "[") s s-is) ∙ there, place)

bracketed_leads : (p q : RuleTextPlace) → OpensAlike p q → Stays q → (ts u : List Lexeme) → IsBracketed ts → IsBracketed u → (c r : Counted) → c.place ≡ p → Goes step c u r → Goes step c ts r × (r.place ≡ q)
bracketed_leads p q alike stays ts u a b c r is goes =
    let here : c ≡ record c { place = p } = ap (λ y. record c { place = y }) is in
    let (m, taken, further) = subst (λ l. Goes step c l r) b.parts goes in
    let (opened, m-is) = alike c m a.first b.first a.opens b.opens (sym (ap (λ y. step y b.first) here) ∙ taken) in
    let there : m ≡ record m { place = q } = ap (λ y. record m { place = y }) m-is in
    let r-is : r ≡ record m { place = q } = closed_into q stays b.inner b.last m r b.content b.closes (subst (λ y. Goes step y (b.inner ++ b.last ∷ []) r) there further) in
    let closed : Goes step m (a.inner ++ a.last ∷ []) r = subst (λ y. Goes step y (a.inner ++ a.last ∷ []) r) (sym there) (subst (λ y. Goes step (record m { place = q }) (a.inner ++ a.last ∷ []) y) (sym r-is) (closed_from q stays a.inner a.last m a.content a.closes)) in
    (subst (λ l. Goes step c l r) (sym a.parts) (m, ap (λ y. step y a.first) here ∙ opened, closed), ap (λ y. y.place) r-is)

pub follows_area : (u : List Lexeme) (entries : List EntryText) → area u entries → Follows places.Between places.Area (area_spelled entries) u
follows_area u entries h = record {
  at = λ ts same. bracketed_leads places.Between places.Area areas_open area_stays ts u (area_is ts entries ((area_again u entries h).at ts same)) (area_is u entries h);
}

pub follows_bracket : (u : List Lexeme) (simples : List SimpleText) → bracket u simples → Follows places.Targets places.Targets (bracket_spelled simples) u
follows_bracket u simples h = record {
  at = λ ts same. bracketed_leads places.Targets places.Targets targets_open targets_stay ts u (bracket_is ts simples ((bracket_again u simples h).at ts same)) (bracket_is u simples h);
}

-- Whole formulas, each with the sign that ends it.

pub follows_formula : (place : Limits → RuleTextPlace) (base : ℕ) → IsPlace place base → (q : RuleTextPlace) (s : List ℕ) → ((c : Counted) (n : ℕ) (x : Lexeme) → step (behind_in place c base n) (literal kinds.Sign s x) ≡ Some (record c { place = q }))
    → (u : List Lexeme) (e : Tree) (t : Lexeme) → formula u e → is_sign s t ≡ true → Follows (place (begun_within base)) q (tree_spelled e ++ sign_token s ∷ []) (u ++ t ∷ [])
follows_formula place base is q s ends u e t h is-t = record {
  at = λ ts same c r here goes. (
      let (a, last, parts, front, back) = split_at ts (tree_spelled e) (sign_token s ∷ []) same in
      let (x, none, last-is, x-is, nothing) = split_next last (sign_token s) [] back in
      let at_here : c ≡ record c { place = place (begun_within base) } = ap (λ y. record c { place = y }) here in
      let (m, within, (k, ended, r-is)) = goes_through step u (t ∷ []) c r goes in
      let (i, j, m-is, before, less) = (((formula_again place base is c).short u e h).at a front).at base base 0 0 (omega arith) (omega arith) (omega arith) m (subst (λ y. Goes step y u m) at_here within) in
      let k-is : k ≡ record c { place = q } = some_is k (record c { place = q }) (sym ended ∙ ap (λ y. step y t) m-is ∙ ap (step (behind_in place c base j)) (sign_literal s t is-t) ∙ ends c j t) in
      let after : Goes step (behind_in place c base i) (x ∷ []) r = (k, ap (step (behind_in place c base i)) (sign_literal s x (is_written_sign s x x-is)) ∙ ends c i x ∙ ap Some (sym k-is), r-is) in
      let whole : ts ≡ a ++ x ∷ [] = parts ∙ ap (λ l. a ++ l) (last-is ∙ ap (λ l. x ∷ l) (none_spelled none nothing)) in (
        subst (λ l. Goes step c l r) (sym whole) (subst (λ y. Goes step y (a ++ x ∷ []) r) (sym at_here) (goes_on step a (x ∷ []) (record c { place = place (begun_within base) }) (behind_in place c base i) r before after)),
        ap (λ y. y.place) (r-is ∙ k-is),
      ));
}
