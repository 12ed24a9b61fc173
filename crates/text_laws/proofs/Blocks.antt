-- A text is refused at one place.
use Rattle.std.proofs.Common.{◌≡◌, List, [], ◌∷◌, ◌++◌, refl, sym, ◌∙◌, ap, subst, inr, append_assoc}
use Rattle.cube_lex.specs.Lexeme.{Lexeme}
use Rattle.grammar.specs.Watch.{Within, Refuses}
use Rattle.grammar.proofs.Checked.{cut_last}
use Rattle.grammar.proofs.Cuts.{within_not_refused, same_head as same_rest}
use Rattle.dim_text.specs.Building.{building}
use Rattle.dim_text.specs.Progress.{Progress}
use Rattle.dim_text.specs.Statement.{statement}
use Rattle.dim_text.specs.declared.fault.Refusal.{Refusal}
use Rattle.dim_text.proofs.OneReading.{building_cuts}

nothing_before : {T : Type 0} (x y c : T) (b : List T) → x ∷ [] ≡ c ∷ (b ++ y ∷ []) → ⊥
nothing_before x y c [] e = cc
nothing_before x y c (d ∷ b) e = cc

same_front : {T : Type 0} (a b : List T) (x y : T) → a ++ x ∷ [] ≡ b ++ y ∷ [] → a ≡ b
same_front [] [] x y e = refl
same_front [] (c ∷ b) x y e = absurd (nothing_before x y c b e)
same_front (c ∷ a) [] x y e = absurd (nothing_before y x c a (sym e))
same_front (c ∷ a) (d ∷ b) x y e = let (one, rest) = same_rest c d (a ++ x ∷ []) (b ++ y ∷ []) e in ap (λ z. z ∷ a) one ∙ ap (λ z. d ∷ z) (same_front a b x y rest)

pub refused_at_once : (r : Progress) (c d : Refusal) (u v : List Lexeme) → Refuses building r u c → Refuses building r (u ++ v) d → v ≡ []
refused_at_once r c d u [] h k = refl
refused_at_once r c d u (t ∷ w) h k =
    let (before, last, cut) = cut_last t w in
    let (x, y, is) = building_cuts.some_refuse k.state k.piece d k.refused in
    let (front, end, cut') = cut_last x y in
    let (tree, reads, why) = k.refused in
    let piece_is : k.piece ≡ front ++ end ∷ [] = is ∙ cut' in
    let whole : (u ++ before) ++ last ∷ [] ≡ (k.whole ++ front) ++ end ∷ [] = append_assoc u before (last ∷ []) ∙ ap (λ z. u ++ z) (sym cut) ∙ k.parts ∙ ap (λ z. k.whole ++ z) piece_is ∙ sym (append_assoc k.whole front (end ∷ [])) in
    let within : Within building r (k.whole ++ front) = record { whole = k.whole; begun = front; state = k.state; parts = refl; pass = k.pass; begins = inr (end, [], tree, subst (λ z. statement z tree) piece_is reads) } in
    absurd (within_not_refused building building_cuts r c (k.whole ++ front) u before within h (sym (same_front (u ++ before) (k.whole ++ front) last end whole)))
