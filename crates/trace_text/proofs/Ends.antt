-- Texts that say how many lines they are end where they say.
use Rattle.std.proofs.Common.{◌≡◌, ◌∙◌, ◌^◌, ◌<◌, ◌==◌, ℕ, suc, Bool, true, false, if◌then◌else◌, List, [], ◌∷◌, ◌++◌, length, codes, decimal, refl, ap, sym, arith}
use Rattle.std.specs.List.{join_with_byte, onto_first}
use Rattle.std.specs.Str.Parse.{digits_value}
use Rattle.std.proofs.lemmas.Fmt.{decimal_is_IsNumeral_wide}
use Rattle.std.proofs.lemmas.List.{append_cancel_left}
use Rattle.std.proofs.lemmas.List.Splits.{join_with_byte-slice_split, length-slice_split}
use Rattle.cell_store.specs.declared.entry.Entry.{Entry}
use Rattle.cube_space.specs.Cells.{IsCell}
use Rattle.dim_name.specs.Bytes.{newline}
use Rattle.rule_model.specs.BoundModel.{BoundModel}
use Rattle.rule_model.specs.Conditions.{AreRules}
use Rattle.trace_text.specs.TextLaws.{EndAlike, HasTheLinesItSays}
use Rattle.trace_text.specs.TraceText.{reply_text}
use Rattle.cell_trace.proofs.Counts.{few_lines}
use Rattle.trace_text.proofs.Plain.{cut}
use Rattle.trace_text.proofs.PlainLines.{reply_count, reply_counted}

decimal_tells : (m n : ℕ) → m < 10 ^ 64 → n < 10 ^ 64 → decimal m ≡ decimal n → m ≡ n
decimal_tells m n low low_too same =
    sym (decimal_is_IsNumeral_wide m low).1 ∙ ap (digits_value 10) same ∙ (decimal_is_IsNumeral_wide n low_too).1

-- ---- cutting at a line end

onto_first-append : (b : ℕ) (parts more : List (List ℕ)) → 0 < length parts → onto_first b (parts ++ more) ≡ onto_first b parts ++ more
onto_first-append b [] more some = absurd (omega arith)
onto_first-append b (part ∷ parts) more some = refl

cut-append : (a x : List ℕ) → cut (a ++ newline ∷ x) ≡ cut a ++ cut x
cut-append [] x = refl
cut-append (b ∷ a) x = by (b == newline) (cut-append a x)
  where
    by : (t : Bool) → cut (a ++ newline ∷ x) ≡ cut a ++ cut x
        → (if t then [] ∷ cut (a ++ newline ∷ x) else onto_first b (cut (a ++ newline ∷ x))) ≡ (if t then [] ∷ cut a else onto_first b (cut a)) ++ cut x
    by true later = ap (λ l. [] ∷ l) later
    by false later = ap (onto_first b) later ∙ onto_first-append b (cut a) (cut x) (omega (arith, length-slice_split (λ byte. byte == newline) a))

pub cut_tells : (a b : List ℕ) → cut a ≡ cut b → a ≡ b
cut_tells a b same = sym (join_with_byte-slice_split newline a) ∙ ap (join_with_byte newline) same ∙ join_with_byte-slice_split newline b

-- lists of one length in front
same_fronts : (xs ys more more_too : List (List ℕ)) → length xs ≡ length ys → xs ++ more ≡ ys ++ more_too → (xs ≡ ys) × (more ≡ more_too)
same_fronts [] [] more more_too long same = (refl, same)
same_fronts [] (y ∷ ys) more more_too long same = absurd (omega arith)
same_fronts (x ∷ xs) [] more more_too long same = absurd (omega arith)
same_fronts (x ∷ xs) (y ∷ ys) more more_too long same =
    let first : x ≡ y = cc in
    let behind : xs ++ more ≡ ys ++ more_too = cc in
    let rest = same_fronts xs ys more more_too (omega arith) behind in
    (ap (λ l. l ∷ xs) first ∙ ap (λ l. y ∷ l) rest.0, rest.1)

-- two texts that say how many lines they are
module _ (a b : List ℕ) (told : HasTheLinesItSays a) (told_too : HasTheLinesItSays b) where
  abbrev title : List (List ℕ) → List ℕ
  title lines = codes "trace " ++ decimal (length lines)

  titles_tell : length told.lines < 10 ^ 64 → length told_too.lines < 10 ^ 64 → title told.lines ≡ title told_too.lines → length told.lines ≡ length told_too.lines
  titles_tell few few_too same =
      decimal_tells (length told.lines) (length told_too.lines) few few_too (append_cancel_left (codes "trace ") (decimal (length told.lines)) (decimal (length told_too.lines)) same)

  pub told_end : length told.lines < 10 ^ 64 → length told_too.lines < 10 ^ 64 → EndAlike a b
  told_end few few_too x y same =
      let cuts : (title told.lines ∷ told.lines) ++ cut x ≡ (title told_too.lines ∷ told_too.lines) ++ cut y =
      ap (λ l. l ++ cut x) (sym told.between) ∙ sym (cut-append a x) ∙ ap cut same ∙ cut-append b y ∙ ap (λ l. l ++ cut y) told_too.between in
      let first : title told.lines ≡ title told_too.lines = heads cuts in
      let long = titles_tell few few_too first in
      let rest = same_fronts (title told.lines ∷ told.lines) (title told_too.lines ∷ told_too.lines) (cut x) (cut y) (ap suc long) cuts in
      (cut_tells a b (told.between ∙ rest.0 ∙ sym told_too.between), cut_tells x y rest.1)
    where
      heads : {A : Type 0} {x y : A} {xs ys : List A} → x ∷ xs ≡ y ∷ ys → x ≡ y
      heads same = cc

module _ (m : BoundModel) (files : List (List ℕ)) (cell : ℕ) (rules : AreRules m.space m.rules) (is_cell : IsCell m.space cell) where
  reply_few : (stored : List Entry) → length (reply_counted m stored files cell).lines < 10 ^ 64
  reply_few stored = omega (arith, few_lines m stored cell rules is_cell, reply_count m stored files cell)

  pub replies_end : (stored stored_too : List Entry) → EndAlike (reply_text m stored files cell) (reply_text m stored_too files cell)
  replies_end stored stored_too =
      told_end (reply_text m stored files cell) (reply_text m stored_too files cell) (reply_counted m stored files cell) (reply_counted m stored_too files cell)
      (reply_few stored) (reply_few stored_too)
