-- What tokens give can be written as tokens again.
use Rattle.std.proofs.Common.{◌≡◌, ◌≤◌, ◌<◌, ◌+◌, ℕ, ℤ, List, [], ◌∷◌, ◌++◌, length, true, false, Ok, Err, Option, Some, None, Result, sym, ap, ◌∙◌, subst, inl, inr, ◌&&◌, arith, length-append, IfOk, OnOk}
use Rattle.std.proofs.lemmas.List.Elements.{All-nil, All-cons, All-head, All-tail, All-push, All-take, All-drop}
use Rattle.std.specs.List.{All, AllZip}
use Rattle.cube_lex.specs.Lexed.{IsWellFormed}
use Rattle.cube_lex.specs.Lexeme.{Lexeme}
use Rattle.cube_lex.specs.Parts.{IsToken, IsQuoted, most_token_bytes}
use Rattle.cube_lex.specs.Quoted.{unquoted}
use Rattle.cube_lex.specs.declared.token.Kind.{Kind}
use Rattle.cube_lex.specs.declared.token.Kind.TheVariants as kinds
use Rattle.cube_lex.proofs.Quotes.{unquoted-quoted}
use Rattle.dim_name.specs.Name.{is_name}
use Rattle.grammar.specs.Grammar.{Grammar, done, one, both, either}
use Rattle.grammar.specs.Tokens.{is_text_kind, name, text}
use Rattle.grammar.specs.Watch.{AllPass, joined, Passes}
use Rattle.grammar.proofs.Tokens.{when_picks, and_is}
use Rattle.dim_core.specs.Draft.{Draft, IsFinished, empty_draft, with_element, with_attribute}
use Rattle.dim_core.specs.Outline.{Outline}
use Rattle.dim_core.specs.declared.fault.DimFault.{DimFault}
use Rattle.dim_core.specs.Refusal.{refusal_of, finish_refusal_of}
use Rattle.grammar.specs.declared.cursor.Unwatched.{Unwatched}
use Rattle.grammar.specs.declared.stop.Stop.{Stop}
use Rattle.grammar.proofs.Kept.{AreTokens, first_tokens, last_tokens, Keeps, keeps_any, keeps_done, keeps_one, keeps_both, keeps_either}
use Rattle.grammar.proofs.Begins.{Begins, begins_both}
use Rattle.grammar.proofs.Top.{read_told}
use Rattle.dim_text.specs.Building.{add, opened, building, element_added, finished}
use Rattle.dim_text.specs.Progress.{Progress, Text}
use Rattle.dim_text.specs.Statement.{Statement, Head, Leaf, Consolidated, Attribute, End, Close, head, parts, leaf, consolidated, attribute, ending, closing, statement, unit, body}
use Rattle.dim_text.specs.Readers.Reading.{read_head, read_body, is_element_word}
use Rattle.dim_text.specs.Readers.Views.{GivesText}
use Rattle.dim_text.specs.declared.fault.Refusal.{Refusal}
use Rattle.dim_text.proofs.BlockExact.{body_exact}
use Rattle.dim_text.proofs.ElementExact.{head_exact, end_begins}
use Rattle.cube_lex.specs.Written.{IsQuotable}
use Rattle.cube_lex.specs.declared.position.Position.{Position}
use Rattle.dim_text.specs.Writable.{IsWritable}

-- Texts and names.

quoted_quotable : (piece : List ℕ) → IsQuoted piece → length piece ≤ most_token_bytes → IsQuotable (unquoted piece)
quoted_quotable piece (bytes, plain, is) short =
    let same : unquoted piece ≡ bytes = ap unquoted is ∙ unquoted-quoted bytes in
    subst IsQuotable (sym same) (plain, subst (λ x. length x ≤ most_token_bytes) is short)

kind_quotable : (kind : Kind) (piece : List ℕ) → is_text_kind kind ≡ true → IsToken kind piece × (length piece ≤ most_token_bytes) → IsQuotable (unquoted piece)
kind_quotable kinds.Word piece e h = cc
kind_quotable kinds.Number piece e h = cc
kind_quotable kinds.Text piece e h = quoted_quotable piece h.0 h.1
kind_quotable kinds.Sign piece e h = cc

pub text_quotable : Keeps (one text) IsQuotable
text_quotable = keeps_one (λ t a is picks.
    let (kind, same) = when_picks (λ (t : Lexeme). is_text_kind t.kind) (λ t. unquoted t.piece) t a picks in
    subst IsQuotable same (kind_quotable t.kind t.piece kind is))

pub name_quotable : Keeps (one name) IsQuotable
name_quotable = keeps_one (λ t a is picks.
    let (both_hold, same) = when_picks (λ (t : Lexeme). is_text_kind t.kind && is_name (unquoted t.piece)) (λ t. unquoted t.piece) t a picks in
    subst IsQuotable same (kind_quotable t.kind t.piece (and_is (is_text_kind t.kind) (is_name (unquoted t.piece)) both_hold).0 is))

-- the names and texts that a statement gives a dimension can be written
abbrev pub IsWritableStatement : Statement → Type 0
IsWritableStatement (Head at shown) = IsQuotable shown
IsWritableStatement (Leaf at shown) = IsQuotable shown
IsWritableStatement (Consolidated at shown components) = IsQuotable shown
IsWritableStatement (Attribute at shown called value) = IsQuotable called × IsQuotable value
IsWritableStatement (End at) = Unit {0}
IsWritableStatement Close = Unit {0}

pub head_keeps : Keeps head IsWritableStatement
head_keeps = keeps_both keeps_any (λ at _. keeps_both name_quotable (λ shown q. keeps_both keeps_any (λ _ _. keeps_done q)))

leaf_keeps : Keeps leaf IsWritableStatement
leaf_keeps = keeps_both keeps_any (λ at _. keeps_both name_quotable (λ shown q. keeps_both keeps_any (λ _ _. keeps_done q)))

consolidated_keeps : Keeps consolidated IsWritableStatement
consolidated_keeps = keeps_both keeps_any (λ at _. keeps_both name_quotable (λ shown q. keeps_both keeps_any (λ components _. keeps_both keeps_any (λ _ _. keeps_done q))))

attribute_keeps : Keeps attribute IsWritableStatement
attribute_keeps = keeps_both keeps_any (λ at _. keeps_both keeps_any (λ shown _. keeps_both name_quotable
    (λ called q. keeps_both keeps_any (λ _ _. keeps_both text_quotable (λ value r. keeps_both keeps_any (λ _ _. keeps_done (q, r)))))))

ending_keeps : Keeps ending IsWritableStatement
ending_keeps = keeps_both keeps_any (λ at _. keeps_done tt)

closing_keeps : Keeps closing IsWritableStatement
closing_keeps = keeps_both keeps_any (λ _ _. keeps_done tt)

statement_keeps : Keeps statement IsWritableStatement
statement_keeps = keeps_either head_keeps (keeps_either (keeps_either leaf_keeps (keeps_either consolidated_keeps attribute_keeps)) (keeps_either ending_keeps closing_keeps))

-- What statements build.

pub record IsWritableDraft (draft : Draft) : Type 0 where
  pub name : IsQuotable draft.name
  pub elements : All (λ e. IsQuotable e.name) draft.elements
  pub attributes : All (λ a. IsQuotable a.name × IsQuotable a.text) draft.attributes

ok_is : {A E : Type 0} (x y : A) → ◌≡◌ {A = Result A E} (Ok x) (Ok y) → x ≡ y
ok_is x y e = cc

pub empty_writable : (shown : List ℕ) → IsQuotable shown → IsWritableDraft (empty_draft shown)
empty_writable shown q = record { name = q; elements = All-nil (λ e. IsQuotable e.name); attributes = All-nil (λ a. IsQuotable a.name × IsQuotable a.text) }

element_keeps : (p s : Progress) (at : Position) (shown : List ℕ) (components : List (List ℕ × ℤ)) (cause : Option DimFault) → IsQuotable shown → IsWritableDraft p.draft → element_added p at shown components cause ≡ Ok s → IsWritableDraft s.draft
element_keeps p s at shown components None q w e =
    let more : IsWritableDraft (with_element p.draft shown components) = record {
      name = w.name;
      elements = All-push (λ e. IsQuotable e.name) p.draft.elements (record { name = shown; components = components }) w.elements q;
      attributes = w.attributes;
    } in
    let same : with_element p.draft shown components ≡ s.draft = cc in
    subst IsWritableDraft same more
element_keeps p s at shown components (Some fault) q w e = cc

finish_keeps : (p s : Progress) (cause : Option DimFault) → IsWritableDraft p.draft → finished p cause ≡ Ok s → IsWritableDraft s.draft
finish_keeps p s None w e = let same : p.draft ≡ s.draft = cc in subst IsWritableDraft same w
finish_keeps p s (Some fault) w e = cc

add_keeps : (p s : Progress) (x : Statement) → IsWritableStatement x → IsWritableDraft p.draft → add p x ≡ Ok s → IsWritableDraft s.draft
add_keeps p s (Head at shown) q w e = let same : empty_draft shown ≡ s.draft = cc in subst IsWritableDraft same (empty_writable shown q)
add_keeps p s (Leaf at shown) q w e = element_keeps p s at shown [] (refusal_of p.draft shown []) q w e
add_keeps p s (Consolidated at shown components) q w e = element_keeps p s at shown components (refusal_of p.draft shown components) q w e
add_keeps p s (Attribute at shown called value) q w e =
    let more : IsWritableDraft (with_attribute p.draft shown called value) = record {
      name = w.name;
      elements = w.elements;
      attributes = All-push (λ a. IsQuotable a.name × IsQuotable a.text) p.draft.attributes (record { element = shown; name = called; text = value }) w.attributes q;
    } in
    let same : with_attribute p.draft shown called value ≡ s.draft = cc in
    subst IsWritableDraft same more
add_keeps p s (End at) q w e = finish_keeps p s (finish_refusal_of p.draft) w e
add_keeps p s Close q w e = let same : p.draft ≡ s.draft = cc in subst IsWritableDraft same w

all_keep : (p s : Progress) (pieces : List (List Lexeme)) → AreTokens (joined pieces) → IsWritableDraft p.draft → AllPass building p pieces s → IsWritableDraft s.draft
all_keep p s [] tokens w e = subst (λ x. IsWritableDraft x.draft) (sym e) w
all_keep p s (u ∷ us) tokens w (m, (x, h, added), rest) =
    all_keep m s us (last_tokens u (joined us) tokens)
    (add_keeps p m x (statement_keeps.at u x (first_tokens u (joined us) tokens) h) w added) rest

-- what is built of tokens can be written
pub passes_keep : (p s : Progress) (ts : List Lexeme) → AreTokens ts → IsWritableDraft p.draft → Passes building p ts s → IsWritableDraft s.draft
passes_keep p s ts tokens w passes = all_keep p s passes.pieces (subst AreTokens passes.parts tokens) w passes.pass

zip_keeps : {X Y : Type 0} (R : X → Y → Type 0) (P : X → Type 0) (Q : Y → Type 0) → ((x : X) (y : Y) → R x y → P x → Q y) → (xs : List X) (ys : List Y) → AllZip R xs ys → All P xs → All Q ys
zip_keeps R P Q keeps [] [] zip all = All-nil Q
zip_keeps R P Q keeps [] (y ∷ ys) zip all = absurd zip
zip_keeps R P Q keeps (x ∷ xs) [] zip all = absurd zip
zip_keeps R P Q keeps (x ∷ xs) (y ∷ ys) zip all = All-cons Q y ys (keeps x y zip.0 (All-head P x xs all)) (zip_keeps R P Q keeps xs ys zip.1 (All-tail P x xs all))

-- and so can the finished dimension
pub finished_writable : (draft : Draft) (d : Outline) → IsWritableDraft draft → IsFinished draft d → IsWritable d
finished_writable draft d w h = record {
  name = subst IsQuotable (sym h.name) w.name;
  elements = zip_keeps _ (λ e. IsQuotable e.name) (λ e. IsQuotable e.name) (λ x y r q. subst IsQuotable (sym r.0) q) draft.elements d.elements h.elements w.elements;
  attributes = zip_keeps _ (λ a. IsQuotable a.name × IsQuotable a.text) (λ a. IsQuotable a.name × IsQuotable a.text)
      (λ x y r q. (subst IsQuotable (sym r.1) q.0, subst IsQuotable (sym r.2) q.1)) draft.attributes d.attributes h.attributes w.attributes;
}

-- What is read of tokens.

-- a head that was read
pub head_told : (at : Position) (shown : List ℕ) (state : Unwatched) (ts left : List Lexeme) → AreTokens ts → read_head (record {}) ts ≡ Ok (Head at shown, state, left) → IsQuotable shown × AreTokens left
head_told at shown state ts left tokens read =
    let (text, parts, is) = read_told head_exact (record {}) ts (Head at shown) state left read in
    let whole : AreTokens (text ++ left) = subst AreTokens parts tokens in
    (head_keeps.at text (Head at shown) (first_tokens text left whole) is.text, last_tokens text left whole)

-- the end of a block has a token
ending_begins : Begins (unit ending) is_element_word false
ending_begins = begins_both end_begins

body_some : (u : List Lexeme) (a : Unit {0}) → body u a → 0 < length u
body_some u a (v, w, x, parts, h, (v2, w2, y, parts2, h2, l)) =
    let (t, rest, is, _) = ending_begins.at v2 y h2 in
    omega (arith, ap length parts, length-append v w, ap length parts2, length-append v2 w2, ap length is)

-- what stands behind a head, with a name that can be written
pub body_told : (at : Position) (shown : List ℕ) (result : Result Text (Stop Refusal)) (ts left : List Lexeme) → AreTokens ts → IsQuotable shown → GivesText result left (read_body (opened at shown) ts)
    → IfOk result (λ text. IsWritable text.dimension) × OnOk result (length left < length ts) × OnOk result (AreTokens left)
body_told at shown (Ok text) ts left tokens quotable (p, read, built) =
    let (block, parts, is) = read_told body_exact (opened at shown) ts tt p left read in
    let whole : AreTokens (block ++ left) = subst AreTokens parts tokens in
    let some : 0 < length block = body_some block tt is.text in
    let size : length ts ≡ length block + length left = ap length parts ∙ length-append block left in
    let draft : IsWritableDraft p.draft = passes_keep (opened at shown) p block (first_tokens block left whole) (empty_writable shown quotable) is.passes in
    (finished_writable p.draft text.dimension draft built.dimension, omega (arith, some, size), last_tokens block left whole)
body_told at shown (Err stop) ts left tokens quotable read = (tt, tt, tt)
