-- What may stand at the end of a cube in some version may stand there in version 2.
use Rattle.std.proofs.Common.{ℕ, List, [], ◌∷◌, Bool, true, refl, inl, inr}
use Rattle.cube_lex.specs.Lexeme.{Lexeme}
use Rattle.grammar.specs.Grammar.{Grammar, both, either, many}
use Rattle.model_text.specs.Statement.{only_if, ranks, position, position_list, auto, order, cube_end}

-- each text of G is one of H with the same tree
pub record Into {A : Type 0} (G H : Grammar Lexeme A) : Type 0 where
  pub at : (u : List Lexeme) (a : A) → G u a → H u a

same : {A : Type 0} {G : Grammar Lexeme A} → Into G G
same = record { at = λ u a h. h }

into_both : {A B : Type 0} {G H : Grammar Lexeme A} {K L : A → Grammar Lexeme B} → Into G H → ((a : A) → Into (K a) (L a)) → Into (both G K) (both H L)
into_both g k = record { at = λ u b (v, w, a, parts, h, l). (v, w, a, parts, g.at v a h, (k a).at w b l) }

into_either_at : {A : Type 0} {G G' H H' : Grammar Lexeme A} → Into G G' → Into H H' → (u : List Lexeme) (a : A) → either G H u a → either G' H' u a
into_either_at g h u a (inl x) = inl (g.at u a x)
into_either_at g h u a (inr x) = inr (h.at u a x)

into_either : {A : Type 0} {G G' H H' : Grammar Lexeme A} → Into G G' → Into H H' → Into (either G H) (either G' H')
into_either g h = record { at = into_either_at g h }

into_only : {A : Type 0} {G : Grammar Lexeme A} {allowed : Bool} → Into (only_if allowed G) (only_if true G)
into_only = record { at = λ u a h. (refl, h.1) }

into_many_at : {A : Type 0} {G H : Grammar Lexeme A} → Into G H → (u : List Lexeme) (list : List A) → many G u list → many H u list
into_many_at g u [] h = h
into_many_at g u (a ∷ rest) (v, w, parts, h, more) = (v, w, parts, g.at v a h, into_many_at g w rest more)

into_many : {A : Type 0} {G H : Grammar Lexeme A} → Into G H → Into (many G) (many H)
into_many g = record { at = into_many_at g }

-- The end of a cube.

ranks_into : (totals : Bool) (shown : List ℕ) → Into (ranks totals shown) (ranks true shown)
ranks_into totals shown = into_either (into_both same (λ leaves. into_either into_only same)) same

position_into : (totals : Bool) → Into (position totals) (position true)
position_into totals = into_either into_only (into_either same (into_both same (λ shown. ranks_into totals shown)))

list_into : (totals : Bool) → Into (position_list totals) (position_list true)
list_into totals = into_both (position_into totals) (λ first. into_both (into_many (into_both same (λ _. position_into totals))) (λ rest. same))

auto_into : (totals : Bool) → Into (auto totals) (auto true)
auto_into totals = into_both same (λ _. into_both (into_either into_only same) (λ kinds. same))

order_into : (totals : Bool) → Into (order totals) (order true)
order_into totals = into_either (into_both same (λ place. into_both (into_either (auto_into totals) (list_into totals)) (λ list. same))) same

pub cube_end_into : (totals : Bool) → Into (cube_end totals) (cube_end true)
cube_end_into totals = into_both same (λ _. into_both same (λ _. into_both same (λ r. into_both (order_into totals) (λ o. same))))
