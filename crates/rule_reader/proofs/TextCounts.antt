-- The watch counts each statement and each feeder of a text that it lets through.
use Rattle.std.proofs.Common.{◌≡◌, ◌≤◌, ◌+◌, ℕ, List, [], ◌∷◌, ◌++◌, length, Result, Ok, Err, Some, Option, Bool, true, false, not, ◌&&◌, ◌||◌, if◌then◌else◌, nat_lt, codes, refl, sym, ap, ◌∙◌, subst, inl, inr, arith}
use Rattle.std.proofs.lemmas.Bool.{ltb-true}
use Rattle.std.specs.Str.{bytes_eq, str_eq_ignore_ascii_case}
use Rattle.cube_lex.specs.Lexeme.{Lexeme}
use Rattle.cube_lex.specs.Positions.{position_of}
use Rattle.grammar.specs.Grammar.{Grammar, done, one, both, either, many}
use Rattle.grammar.specs.Tokens.{sign, word, is_sign, is_word, is_sign_kind}
use Rattle.grammar.specs.Watch.{AllPass, joined, Passes}
use Rattle.grammar.proofs.Tokens.{when_picks, sign_begins, word_begins, word_no_sign, sign_no_word}
use Rattle.expression_grammar.specs.Limits.{begun_within}
use Rattle.expression_grammar.specs.declared.limits.Limits.{Limits}
use Rattle.rule_tree.specs.Counting.{most_statements, start, with_token, in_place, behind_area, behind_formula, behind_targets, behind_argument, one_more, moved, count_at, count, counting}
use Rattle.rule_tree.specs.RuleText.{area, ended, part, body, statement, feeder, skipcheck, automatic, feeders, rules}
use Rattle.rule_tree.specs.declared.counted.Counted.{Counted}
use Rattle.rule_tree.specs.declared.counted.RuleTextPlace.{RuleTextPlace}
use Rattle.rule_tree.specs.declared.counted.RuleTextPlace.TheVariants as places
use Rattle.rule_tree.specs.declared.excess.Excess.{Excess}
use Rattle.rule_tree.specs.declared.excess.Excess.TheVariants as excesses
use Rattle.rule_tree.specs.declared.rule.EntryText.{EntryText}
use Rattle.rule_tree.specs.declared.rule.RuleText.{RuleText}
use Rattle.rule_reader.proofs.Fits.{Fits, Lacks, taken}
use Rattle.rule_reader.proofs.TextSizes.{ends_area, area_fits, formula_fits, targets_fit}
use Rattle.expression_grammar.proofs.Languages.{is_sign_of}

-- The watch goes over the tokens one by one.
abbrev Runs : Counted → List Lexeme → Counted → Type 0
Runs r [] s = s ≡ r
Runs r (t ∷ ts) s = (m : Counted) × (count r t ≡ Ok m) × Runs m ts s

pieces_run : (ps : List (List Lexeme)) (r s : Counted) → AllPass counting r ps s → Runs r (joined ps) s
pieces_run [] r s h = h
pieces_run (p ∷ ps) r s (m, (t, is, scans), h) = subst (λ z. Runs r (z ++ joined ps) s) (sym is) (m, scans, pieces_run ps m s h)

passes_run : (r s : Counted) (ts : List Lexeme) → Passes counting r ts s → Runs r ts s
passes_run r s ts h = subst (λ z. Runs r z s) (sym h.parts) (pieces_run h.pieces r s h.pass)

runs_both : (u v : List Lexeme) (r s : Counted) → Runs r (u ++ v) s → (m : Counted) × Runs r u m × Runs m v s
runs_both [] v r s h = (r, refl, h)
runs_both (t ∷ u) v r s (m, scans, h) = let (k, first, rest) = runs_both u v m s h in (k, (m, scans, first), rest)

-- from a state in P each text of G with its tree leads to one in R
record Leads {A : Type 0} (P : Counted → Type 0) (G : Grammar Lexeme A) (R : A → Counted → Type 0) : Type 0 where
  at : (u : List Lexeme) (a : A) (r s : Counted) → G u a → Runs r u s → P r → R a s

leads_done : {A : Type 0} {P : Counted → Type 0} {R : A → Counted → Type 0} {a : A} → ((c : Counted) → P c → R a c) → Leads P (done a) R
leads_done {P = P} {R = R} tells = record {
  at = λ u b r s h runs p. (
      let none : s ≡ r = subst (λ z. Runs r z s) h.0 runs in
      subst (λ z. R z s) (sym h.1) (tells s (subst P (sym none) p)));
}

leads_one : {A : Type 0} {P : Counted → Type 0} {R : A → Counted → Type 0} {pick : Lexeme → Option A} → ((t : Lexeme) (a : A) (r s : Counted) → pick t ≡ Some a → count r t ≡ Ok s → P r → R a s) → Leads P (one pick) R
leads_one {P = P} {R = R} tells = record {
  at = λ u a r s (t, is, picks) runs p. (
      let (m, scans, none) = subst (λ z. Runs r z s) is runs in
      tells t a r s picks (scans ∙ ap (λ z. Ok z) (sym none)) p);
}

leads_both : {A B : Type 0} {P : Counted → Type 0} {G : Grammar Lexeme A} {K : A → Grammar Lexeme B} {R : A → Counted → Type 0} {S : B → Counted → Type 0} → Leads P G R → ((a : A) → Leads (R a) (K a) S) → Leads P (both G K) S
leads_both g k = record {
  at = λ u b r s (v, w, a, parts, h, l) runs p. (
      let (m, first, rest) = runs_both v w r s (subst (λ z. Runs r z s) parts runs) in
      (k a).at w b m s l rest (g.at v a r m h first p));
}

either_leads : {A : Type 0} (P : Counted → Type 0) {G H : Grammar Lexeme A} (R : A → Counted → Type 0) → Leads P G R → Leads P H R → (u : List Lexeme) (a : A) (r s : Counted) → either G H u a → Runs r u s → P r → R a s
either_leads P R g h u a r s (inl e) runs p = g.at u a r s e runs p
either_leads P R g h u a r s (inr e) runs p = h.at u a r s e runs p

leads_either : {A : Type 0} {P : Counted → Type 0} {G H : Grammar Lexeme A} {R : A → Counted → Type 0} → Leads P G R → Leads P H R → Leads P (either G H) R
leads_either {P = P} {R = R} g h = record { at = either_leads P R g h }

-- each text of G leads from so many to one more
many_leads : {A : Type 0} (P : ℕ → Counted → Type 0) {G : Grammar Lexeme A} → ((n : ℕ) → Leads (P n) G (λ _. P (n + 1))) → (n : ℕ) (u : List Lexeme) (list : List A) (r s : Counted) → many G u list → Runs r u s → P n r → P (n + length list) s
many_leads P g n u [] r s h runs p =
    let none : s ≡ r = subst (λ z. Runs r z s) h runs in
    subst (λ k. P k s) (omega arith) (subst (P n) (sym none) p)
many_leads P g n u (a ∷ list) r s (v, w, parts, h, l) runs p =
    let (m, first, rest) = runs_both v w r s (subst (λ z. Runs r z s) parts runs) in
    subst (λ k. P k s) (omega arith) (many_leads P g (n + 1) w list m s l rest ((g n).at v a r m h first p))

leads_many : {A : Type 0} (P : ℕ → Counted → Type 0) {G : Grammar Lexeme A} (n : ℕ) → ((n : ℕ) → Leads (P n) G (λ _. P (n + 1))) → Leads (P n) (many G) (λ list. P (n + length list))
leads_many P n g = record { at = many_leads P g n }

-- tokens that are none of these lead nowhere else
lacking_runs : (P : Counted → Type 0) (p : Lexeme → Bool) → ((t : Lexeme) (r s : Counted) → p t ≡ false → count r t ≡ Ok s → P r → P s) → (u : List Lexeme) (r s : Counted) → Lacks p u → Runs r u s → P r → P s
lacking_runs P p keeps [] r s h runs q = subst P (sym runs) q
lacking_runs P p keeps (t ∷ u) r s h (m, scans, runs) q = lacking_runs P p keeps u m s h.1 runs (keeps t r m h.0 scans q)

leads_lacking : {A : Type 0} {p : Lexeme → Bool} {n : ℕ} {G : Grammar Lexeme A} {w : A → ℕ} (P : Counted → Type 0) → Fits p n G w → ((t : Lexeme) (r s : Counted) → p t ≡ false → count r t ≡ Ok s → P r → P s) → Leads P G (λ _. P)
leads_lacking {p = p} P g keeps = record { at = λ u a r s h runs q. lacking_runs P p keeps u r s (g.at u a h).1 runs q }

-- Where the watch stands.

abbrev InBetween : RuleTextPlace → Type 0
InBetween places.Between = Unit {0}
InBetween _ = ⊥

abbrev InArea : RuleTextPlace → Type 0
InArea places.Area = Unit {0}
InArea _ = ⊥

abbrev InFormula : RuleTextPlace → Type 0
InFormula (places.Formula l) = Unit {0}
InFormula _ = ⊥

abbrev InTargets : RuleTextPlace → Type 0
InTargets places.Targets = Unit {0}
InTargets (places.Argument l) = Unit {0}
InTargets _ = ⊥

-- It stands there, among statements or among feeders, and so many of them were counted.
record Stands (Where : RuleTextPlace → Type 0) (feeding : Bool) (n : ℕ) (c : Counted) : Type 0 where
  place : Where c.place
  among : c.feeding ≡ feeding
  number : (if feeding then c.feeders else c.statements) ≡ n
  few : n ≤ most_statements
  no_feeders : feeding ≡ false → c.feeders ≡ 0

moved_is : (c s : Counted) (r : Result RuleTextPlace Excess) → moved c r ≡ Ok s → (place : RuleTextPlace) × (r ≡ Ok place) × (record c { place = place } ≡ s)
moved_is c s (Ok place) e = (place, refl, cc)
moved_is c s (Err x) e = absurd (cc e)

placed : (V W : RuleTextPlace → Type 0) (f : Bool) (n : ℕ) (c s : Counted) (r : Result RuleTextPlace Excess) → ((place : RuleTextPlace) → r ≡ Ok place → W place) → moved c r ≡ Ok s → Stands V f n c → Stands W f n s
placed V W f n c s r tells e h =
    let (place, is, same) = moved_is c s r e in
    subst (Stands W f n) same (record { place = tells place is; among = h.among; number = h.number; few = h.few; no_feeders = h.no_feeders })

this_sign : (s : List ℕ) (t : Lexeme) (a : Unit {0}) → sign s t ≡ Some a → is_sign s t ≡ true
this_sign s t a picks = (when_picks (is_sign s) (λ _. tt) t a picks).0

-- In an area.

goes_on : (k a b : Bool) (x y : RuleTextPlace) → (k && (a || b)) ≡ false → InArea (if k && a then x else (if k && b then y else places.Area))
goes_on true true b x y e = absurd (cc e)
goes_on true false true x y e = absurd (cc e)
goes_on true false false x y e = tt
goes_on false a b x y e = tt

first_of : (P : RuleTextPlace → Type 0) (a : Bool) (x y : RuleTextPlace) → a ≡ true → P x → P (if a then x else y)
first_of P true x y e h = h
first_of P false x y e h = absurd (cc e)

second_of : (P : RuleTextPlace → Type 0) (a : Bool) (x y : RuleTextPlace) → a ≡ false → P y → P (if a then x else y)
second_of P true x y e h = absurd (cc e)
second_of P false x y e h = h

-- a place that is given
abbrev at_place : RuleTextPlace → Result RuleTextPlace Excess
at_place x = Ok x

put : (P : RuleTextPlace → Type 0) (x place : RuleTextPlace) → P x → at_place x ≡ Ok place → P place
put P x place h e = let same : x ≡ place = cc e in subst P same h

area_kept : (f : Bool) (n : ℕ) (t : Lexeme) (r s : Counted) → is_sign_of ends_area t ≡ false → count r t ≡ Ok s → Stands InArea f n r → Stands InArea f n s
unfolding count
area_kept f n t r s other scans h = at r.place h.place scans where
  at : (place : RuleTextPlace) → InArea place → count_at r place t ≡ Ok s → Stands InArea f n s
  at places.Area is e = placed InArea InArea f n r s (Ok (behind_area t)) (λ place. put InArea (behind_area t) place
      (goes_on (is_sign_kind t.kind) (bytes_eq t.piece (codes "=")) (bytes_eq t.piece (codes "=>")) (places.Formula (begun_within 0)) places.Targets other)) e h
  at _ is e = absurd is

area_defines : (f : Bool) (n : ℕ) (t : Lexeme) (a : Unit {0}) (r s : Counted) → sign (codes "=") t ≡ Some a → count r t ≡ Ok s → Stands InArea f n r → Stands InFormula f n s
unfolding count
area_defines f n t a r s picks scans h = at r.place h.place scans where
  at : (place : RuleTextPlace) → InArea place → count_at r place t ≡ Ok s → Stands InFormula f n s
  at places.Area is e = placed InArea InFormula f n r s (Ok (behind_area t)) (λ place. put InFormula (behind_area t) place (first_of InFormula (is_sign (codes "=") t) (places.Formula (begun_within 0)) (if is_sign (codes "=>") t then places.Targets else places.Area) (this_sign (codes "=") t a picks) tt)) e h
  at _ is e = absurd is

area_feeds : (f : Bool) (n : ℕ) (t : Lexeme) (a : Unit {0}) (r s : Counted) → sign (codes "=>") t ≡ Some a → count r t ≡ Ok s → Stands InArea f n r → Stands InTargets f n s
unfolding count
area_feeds f n t a r s picks scans h = at r.place h.place scans where
  at : (place : RuleTextPlace) → InArea place → count_at r place t ≡ Ok s → Stands InTargets f n s
  at places.Area is e = placed InArea InTargets f n r s (Ok (behind_area t)) (λ place. put InTargets (behind_area t) place
      (second_of InTargets (is_sign (codes "=") t) (places.Formula (begun_within 0)) (if is_sign (codes "=>") t then places.Targets else places.Area) (taken (is_sign (codes "=")) (sign (codes "=>")) false t a (sign_begins (codes "=>") (codes "=")) picks)
      (first_of InTargets (is_sign (codes "=>") t) places.Targets places.Area (this_sign (codes "=>") t a picks) tt))) e h
  at _ is e = absurd is

-- In a formula, up to its `;`.

in_formula : (a b : Bool) (r : Result Limits Excess) (place : RuleTextPlace) → a ≡ false → (if a then Ok places.Between else (if b then Ok (places.Formula (begun_within 0)) else in_place places.Formula r)) ≡ Ok place → InFormula place
in_formula true b r place none e = absurd (cc none)
in_formula false true r place none e = put InFormula (places.Formula (begun_within 0)) place tt e
in_formula false false (Ok l) place none e = put InFormula (places.Formula l) place tt e
in_formula false false (Err x) place none e = absurd (cc e)

ended_by : (a : Bool) (r : Result RuleTextPlace Excess) (place : RuleTextPlace) → a ≡ true → (if a then Ok places.Between else r) ≡ Ok place → InBetween place
ended_by true r place ends e = put InBetween places.Between place tt e
ended_by false r place ends e = absurd (cc ends)

formula_kept : (f : Bool) (n : ℕ) (t : Lexeme) (r s : Counted) → is_sign (codes ";") t ≡ false → count r t ≡ Ok s → Stands InFormula f n r → Stands InFormula f n s
unfolding count
formula_kept f n t r s other scans h = at r.place h.place scans where
  at : (place : RuleTextPlace) → InFormula place → count_at r place t ≡ Ok s → Stands InFormula f n s
  at (places.Formula l) is e = placed InFormula InFormula f n r s (behind_formula l t) (λ place. in_formula (is_sign (codes ";") t) (not l.bracketed && is_sign (codes ":") t) (with_token l t) place other) e h
  at _ is e = absurd is

formula_ends : (f : Bool) (n : ℕ) (t : Lexeme) (a : Unit {0}) (r s : Counted) → sign (codes ";") t ≡ Some a → count r t ≡ Ok s → Stands InFormula f n r → Stands InBetween f n s
unfolding count
formula_ends f n t a r s picks scans h = at r.place h.place scans where
  at : (place : RuleTextPlace) → InFormula place → count_at r place t ≡ Ok s → Stands InBetween f n s
  at (places.Formula l) is e = placed InFormula InBetween f n r s (behind_formula l t) (λ place. ended_by (is_sign (codes ";") t) _ place (this_sign (codes ";") t a picks)) e h
  at _ is e = absurd is

-- Among the targets of a feeder, up to its `;`.

in_argument : (a b c : Bool) (r : Result Limits Excess) (place : RuleTextPlace) → a ≡ false → (if a then Ok places.Between else (if b then Ok (places.Argument (begun_within 1)) else (if c then Ok places.Targets else in_place places.Argument r))) ≡ Ok place → InTargets place
in_argument true b c r place none e = absurd (cc none)
in_argument false true c r place none e = put InTargets (places.Argument (begun_within 1)) place tt e
in_argument false false true r place none e = put InTargets places.Targets place tt e
in_argument false false false (Ok l) place none e = put InTargets (places.Argument l) place tt e
in_argument false false false (Err x) place none e = absurd (cc e)

in_targets : (a b : Bool) → a ≡ false → InTargets (if a then places.Between else (if b then places.Argument (begun_within 1) else places.Targets))
in_targets true b none = absurd (cc none)
in_targets false true none = tt
in_targets false false none = tt

targets_kept : (f : Bool) (n : ℕ) (t : Lexeme) (r s : Counted) → is_sign (codes ";") t ≡ false → count r t ≡ Ok s → Stands InTargets f n r → Stands InTargets f n s
unfolding count
targets_kept f n t r s other scans h = at r.place h.place scans where
  at : (place : RuleTextPlace) → InTargets place → count_at r place t ≡ Ok s → Stands InTargets f n s
  at places.Targets is e = placed InTargets InTargets f n r s (Ok (behind_targets t)) (λ place. put InTargets (behind_targets t) place (in_targets (is_sign (codes ";") t) (is_sign (codes "(") t) other)) e h
  at (places.Argument l) is e = placed InTargets InTargets f n r s (behind_argument l t) (λ place. in_argument (is_sign (codes ";") t) _ _ (with_token l t) place other) e h
  at _ is e = absurd is

targets_end : (f : Bool) (n : ℕ) (t : Lexeme) (a : Unit {0}) (r s : Counted) → sign (codes ";") t ≡ Some a → count r t ≡ Ok s → Stands InTargets f n r → Stands InBetween f n s
unfolding count
targets_end f n t a r s picks scans h = at r.place h.place scans where
  at : (place : RuleTextPlace) → InTargets place → count_at r place t ≡ Ok s → Stands InBetween f n s
  at places.Targets is e = placed InTargets InBetween f n r s (Ok (behind_targets t)) (λ place. put InBetween (behind_targets t) place (first_of InBetween (is_sign (codes ";") t) places.Between (if is_sign (codes "(") t then places.Argument (begun_within 1) else places.Targets) (this_sign (codes ";") t a picks) tt)) e h
  at (places.Argument l) is e = placed InTargets InBetween f n r s (behind_argument l t) (λ place. ended_by (is_sign (codes ";") t) _ place (this_sign (codes ";") t a picks)) e h
  at _ is e = absurd is

-- Outside of both.

statement_more : (f x y : Bool) (p q : Counted) (z : Excess) (s : Counted) → f ≡ false → (if f && x then Ok p else (if not f && y then Ok q else Err z)) ≡ Ok s → (y ≡ true) × (q ≡ s)
statement_more true x y p q z s among e = absurd (cc among)
statement_more false x true p q z s among e = (refl, cc)
statement_more false x false p q z s among e = absurd (cc e)

feeder_more : (f x y : Bool) (p q : Counted) (z : Excess) (s : Counted) → f ≡ true → (if f && x then Ok p else (if not f && y then Ok q else Err z)) ≡ Ok s → (x ≡ true) × (p ≡ s)
feeder_more false x y p q z s among e = absurd (cc among)
feeder_more true true y p q z s among e = (refl, cc)
feeder_more true false y p q z s among e = absurd (cc e)

-- one more begins
one_begins : (f : Bool) (n : ℕ) (t : Lexeme) (r s : Counted) → one_more r t ≡ Ok s → Stands InBetween f n r → Stands InArea f (n + 1) s
one_begins true n t r s e h =
    let (room, same) = feeder_more r.feeding (nat_lt r.feeders most_statements) (nat_lt r.statements most_statements) (record r { feeders = r.feeders + 1; place = places.Area }) (record r { statements = r.statements + 1; place = places.Area }) (excesses.TooMany (position_of t)) s h.among e in
    subst (Stands InArea true (n + 1)) same (record { place = tt; among = h.among; number = ap (λ k. k + 1) h.number; few = omega (arith, ltb-true r.feeders most_statements room, h.number); no_feeders = λ none. absurd (cc none) })
one_begins false n t r s e h =
    let (room, same) = statement_more r.feeding (nat_lt r.feeders most_statements) (nat_lt r.statements most_statements) (record r { feeders = r.feeders + 1; place = places.Area }) (record r { statements = r.statements + 1; place = places.Area }) (excesses.TooMany (position_of t)) s h.among e in
    subst (Stands InArea false (n + 1)) same (record { place = tt; among = h.among; number = ap (λ k. k + 1) h.number; few = omega (arith, ltb-true r.statements most_statements room, h.number); no_feeders = h.no_feeders })

chosen : {A : Type 0} (b : Bool) (x y z : A) → (if b then x else y) ≡ z → b ≡ true → x ≡ z
chosen true x y z e is = e
chosen false x y z e is = absurd (cc is)

unchosen : {A : Type 0} (b : Bool) (x y z : A) → (if b then x else y) ≡ z → b ≡ false → y ≡ z
unchosen true x y z e is = absurd (cc is)
unchosen false x y z e is = e

between_begins : (f : Bool) (n : ℕ) (t : Lexeme) (r s : Counted) → is_sign (codes "[") t ≡ true → count r t ≡ Ok s → Stands InBetween f n r → Stands InArea f (n + 1) s
unfolding count
between_begins f n t r s bracket scans h = at r.place h.place scans where
  at : (place : RuleTextPlace) → InBetween place → count_at r place t ≡ Ok s → Stands InArea f (n + 1) s
  at places.Between is e = one_begins f n t r s (chosen (is_sign (codes "[") t) _ _ (Ok s) e bracket) h
  at _ is e = absurd is

between_marks : (f : Bool) (n : ℕ) (t : Lexeme) (a : Unit {0}) (r s : Counted) → sign (codes ":") t ≡ Some a → count r t ≡ Ok s → Stands InBetween f n r → Stands InFormula f n s
unfolding count
between_marks f n t a r s picks scans h = at r.place h.place scans where
  at : (place : RuleTextPlace) → InBetween place → count_at r place t ≡ Ok s → Stands InFormula f n s
  at places.Between is e =
      let later = unchosen (is_sign (codes "[") t) _ _ (Ok s) e (taken (is_sign (codes "[")) (sign (codes ":")) false t a (sign_begins (codes ":") (codes "[")) picks) in
      let made = chosen (is_sign (codes ":") t) _ _ (Ok s) later (this_sign (codes ":") t a picks) in
      placed InBetween InFormula f n r s (Ok (places.Formula (begun_within 0))) (λ place. put InFormula (places.Formula (begun_within 0)) place tt) made h
  at _ is e = absurd is

-- any other token there, which may be the word `FEEDERS`
between_other : (f : Bool) (n : ℕ) (t : Lexeme) (r s : Counted) → is_sign (codes "[") t ≡ false → is_sign (codes ":") t ≡ false → count r t ≡ Ok s → Stands InBetween f n r → record r { feeding = r.feeding || is_word (codes "FEEDERS") t } ≡ s
unfolding count
between_other f n t r s bracket colon scans h = at r.place h.place scans where
  at : (place : RuleTextPlace) → InBetween place → count_at r place t ≡ Ok s → record r { feeding = r.feeding || is_word (codes "FEEDERS") t } ≡ s
  at places.Between is e =
      let later = unchosen (is_sign (codes "[") t) _ _ (Ok s) e bracket in
      let made = unchosen (is_sign (codes ":") t) _ _ (Ok s) later colon in
      cc made
  at _ is e = absurd is

or_none : (a b f : Bool) → a ≡ f → b ≡ false → (a || b) ≡ f
or_none true b f is none = is
or_none false b f is none = none ∙ is

between_kept : (f : Bool) (n : ℕ) (t : Lexeme) (r s : Counted) → is_sign (codes "[") t ≡ false → is_sign (codes ":") t ≡ false → is_word (codes "FEEDERS") t ≡ false → count r t ≡ Ok s → Stands InBetween f n r → Stands InBetween f n s
between_kept f n t r s bracket colon word scans h =
    subst (Stands InBetween f n) (between_other f n t r s bracket colon scans h)
    (record { place = h.place; among = or_none r.feeding (is_word (codes "FEEDERS") t) f h.among word; number = h.number; few = h.few; no_feeders = h.no_feeders })

between_feeds : (n : ℕ) (t : Lexeme) (r s : Counted) → is_sign (codes "[") t ≡ false → is_sign (codes ":") t ≡ false → is_word (codes "FEEDERS") t ≡ true → count r t ≡ Ok s → Stands InBetween false n r → Stands InBetween true 0 s
between_feeds n t r s bracket colon word scans h =
    subst (Stands InBetween true 0) (between_other false n t r s bracket colon scans h)
    (record { place = h.place; among = ap (λ b. b || is_word (codes "FEEDERS") t) h.among ∙ word; number = h.no_feeders refl; few = omega arith; no_feeders = λ none. absurd (cc none) })

-- The grammar of a text.

area_leads : (f : Bool) (n : ℕ) → Leads (Stands InBetween f n) area (λ _. Stands InArea f (n + 1))
area_leads f n = record { at = at } where
  at : (u : List Lexeme) (a : List EntryText) (r s : Counted) → area u a → Runs r u s → Stands InBetween f n r → Stands InArea f (n + 1) s
  at u a r s h runs p =
      let lacks = (area_fits.at u a h).1 in
      let (v, w, x, parts, (t, is, picks), k) = h in
      let whole : u ≡ t ∷ w = parts ∙ ap (λ z. z ++ w) is in
      let (m, scans, rest) = subst (λ z. Runs r z s) whole runs in
      lacking_runs (Stands InArea f (n + 1)) (is_sign_of ends_area) (area_kept f (n + 1)) w m s (subst (Lacks (is_sign_of ends_area)) whole lacks).1 rest (between_begins f n t r m (this_sign (codes "[") t x picks) scans p)

ended_leads : (f : Bool) (n : ℕ) → Leads (Stands InFormula f n) ended (λ _. Stands InBetween f n)
ended_leads f n = leads_both (leads_lacking (Stands InFormula f n) formula_fits (formula_kept f n)) (λ tree. leads_both (leads_one (formula_ends f n)) (λ _. leads_done (λ c h. h)))

-- a part behind the `=`, and one behind another part
first_part : (n : ℕ) (mark : List ℕ) → Leads (Stands InFormula false n) (part mark) (λ _. Stands InBetween false n)
first_part n mark = leads_both {R = λ _. Stands InFormula false n} (leads_one (λ t a r s picks. formula_kept false n t r s (taken (is_sign (codes ";")) (word mark) false t a (word_no_sign mark (codes ";")) picks)))
    (λ _. leads_both {R = λ _. Stands InFormula false n} (leads_one (λ t a r s picks. formula_kept false n t r s (taken (is_sign (codes ";")) (sign (codes ":")) false t a (sign_begins (codes ":") (codes ";")) picks))) (λ _. ended_leads false n))

word_kept : (f : Bool) (n : ℕ) (mark : List ℕ) → str_eq_ignore_ascii_case mark (codes "FEEDERS") ≡ false → Leads (Stands InBetween f n) (one (word mark)) (λ _. Stands InBetween f n)
word_kept f n mark other = leads_one (λ t a r s picks. between_kept f n t r s (taken (is_sign (codes "[")) (word mark) false t a (word_no_sign mark (codes "[")) picks) (taken (is_sign (codes ":")) (word mark) false t a (word_no_sign mark (codes ":")) picks)
    (taken (is_word (codes "FEEDERS")) (word mark) _ t a (word_begins mark (codes "FEEDERS")) picks ∙ other))

second_part : (n : ℕ) (mark : List ℕ) → str_eq_ignore_ascii_case mark (codes "FEEDERS") ≡ false → Leads (Stands InBetween false n) (part mark) (λ _. Stands InBetween false n)
second_part n mark other = leads_both {R = λ _. Stands InBetween false n} (word_kept false n mark other) (λ _. leads_both {R = λ _. Stands InFormula false n} (leads_one (between_marks false n)) (λ _. ended_leads false n))

body_leads : (n : ℕ) → Leads (Stands InFormula false n) body (λ _. Stands InBetween false n)
body_leads n = leads_either
    (leads_both {R = λ _. Stands InBetween false n} (first_part n (codes "N")) (λ leaf. leads_either (leads_both {R = λ _. Stands InBetween false n} (second_part n (codes "C") refl) (λ cons. leads_done (λ c h. h))) (leads_done (λ c h. h))))
    (leads_either
    (leads_both {R = λ _. Stands InBetween false n} (first_part n (codes "C")) (λ cons. leads_either (leads_both {R = λ _. Stands InBetween false n} (second_part n (codes "N") refl) (λ leaf. leads_done (λ c h. h))) (leads_done (λ c h. h))))
    (leads_both {R = λ _. Stands InBetween false n} (ended_leads false n) (λ tree. leads_done (λ c h. h))))

statement_leads : (n : ℕ) → Leads (Stands InBetween false n) statement (λ _. Stands InBetween false (n + 1))
statement_leads n = leads_both {R = λ _. Stands InArea false (n + 1)} (area_leads false n) (λ cells. leads_both {R = λ _. Stands InFormula false (n + 1)} (leads_one (area_defines false (n + 1))) (λ _. leads_both {R = λ _. Stands InBetween false (n + 1)} (body_leads (n + 1)) (λ given. leads_done (λ c h. h))))

feeder_leads : (n : ℕ) → Leads (Stands InBetween true n) feeder (λ _. Stands InBetween true (n + 1))
feeder_leads n = leads_both {R = λ _. Stands InArea true (n + 1)} (area_leads true n) (λ cells. leads_both {R = λ _. Stands InTargets true (n + 1)} (leads_one (area_feeds true (n + 1)))
    (λ _. leads_both {R = λ _. Stands InTargets true (n + 1)} (leads_lacking (Stands InTargets true (n + 1)) targets_fit (targets_kept true (n + 1))) (λ fed. leads_both {R = λ _. Stands InBetween true (n + 1)} (leads_one (targets_end true (n + 1))) (λ _. leads_done (λ c h. h)))))

semicolon_kept : (f : Bool) (n : ℕ) → Leads (Stands InBetween f n) (one (sign (codes ";"))) (λ _. Stands InBetween f n)
semicolon_kept f n = leads_one (λ t a r s picks. between_kept f n t r s (taken (is_sign (codes "[")) (sign (codes ";")) false t a (sign_begins (codes ";") (codes "[")) picks) (taken (is_sign (codes ":")) (sign (codes ";")) false t a (sign_begins (codes ";") (codes ":")) picks)
    (taken (is_word (codes "FEEDERS")) (sign (codes ";")) false t a (sign_no_word (codes ";") (codes "FEEDERS")) picks))

skipcheck_leads : Leads (Stands InBetween false 0) skipcheck (λ _. Stands InBetween false 0)
skipcheck_leads = leads_either (leads_both {R = λ _. Stands InBetween false 0} (word_kept false 0 (codes "SKIPCHECK") refl) (λ _. leads_both {R = λ _. Stands InBetween false 0} (semicolon_kept false 0) (λ _. leads_done (λ c h. h)))) (leads_done (λ c h. h))

feeders_begin : (n : ℕ) → Leads (Stands InBetween false n) (one (word (codes "FEEDERS"))) (λ _. Stands InBetween true 0)
feeders_begin n = leads_one (λ t a r s picks. between_feeds n t r s (taken (is_sign (codes "[")) (word (codes "FEEDERS")) false t a (word_no_sign (codes "FEEDERS") (codes "[")) picks) (taken (is_sign (codes ":")) (word (codes "FEEDERS")) false t a (word_no_sign (codes "FEEDERS") (codes ":")) picks)
    (taken (is_word (codes "FEEDERS")) (word (codes "FEEDERS")) true t a (word_begins (codes "FEEDERS") (codes "FEEDERS")) picks))

automatic_leads : Leads (Stands InBetween true 0) automatic (λ _. Stands InBetween true 0)
automatic_leads = leads_either (leads_both {R = λ _. Stands InBetween true 0} (word_kept true 0 (codes "AUTO") refl) (λ _. leads_done (λ c h. h))) (leads_done (λ c h. h))

feeders_lead : (n : ℕ) → Leads (Stands InBetween false n) feeders (λ feeding _. length feeding.1 ≤ most_statements)
feeders_lead n = leads_either (leads_both {R = λ _. Stands InBetween true 0} (feeders_begin n) (λ _. leads_both {R = λ _. Stands InBetween true 0} automatic_leads (λ finds. leads_both {R = λ _. Stands InBetween true 0} (semicolon_kept true 0)
    (λ _. leads_both {R = λ list _. length list ≤ most_statements} counted_feeders (λ given. leads_done (λ c few. few)))))) (leads_done (λ c h. omega arith)) where
      counted_feeders : Leads (Stands InBetween true 0) (many feeder) (λ list _. length list ≤ most_statements)
      counted_feeders = record { at = λ u list r s h runs p. omega (arith, (many_leads (Stands InBetween true) feeder_leads 0 u list r s h runs p).few) }

begins_between : Stands InBetween false 0 start
begins_between = record { place = tt; among = refl; number = refl; few = omega arith; no_feeders = λ _. refl }

pub text_counts : (ts : List Lexeme) (text : RuleText) (s : Counted) → rules ts text → Passes counting start ts s → (length text.statements ≤ most_statements) × (length text.feeders ≤ most_statements)
text_counts ts text s (u, v, skips, parts, h, (w, x, statements, more, k, (y, z, feeding, last, l, (nothing, made)))) passes =
    let (m, first, behind) = runs_both u v start s (subst (λ l. Runs start l s) parts (passes_run start s ts passes)) in
    let (k', second, rest) = runs_both w x m s (subst (λ l. Runs m l s) more behind) in
    let (e, third, end) = runs_both y z k' s (subst (λ l. Runs k' l s) last rest) in
    let among = many_leads (Stands InBetween false) statement_leads 0 w statements m k' k second (skipcheck_leads.at u skips start m h first begins_between) in
    (omega (arith, among.few, ap (λ (t : RuleText). length t.statements) made), omega (arith, (feeders_lead (0 + length statements)).at y feeding k' e l third among, ap (λ (t : RuleText). length t.feeders) made))
