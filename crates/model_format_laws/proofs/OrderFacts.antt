-- An order line of version 1 that means an order means the same in version 2.
use Rattle.std.proofs.Common.{◌≡◌, ◌∙◌, refl, sym, ap, subst, ℕ, Bool, true, false, not, ◌&&◌, ◌||◌, if◌then◌else◌, List, [], ◌∷◌, ◌++◌, length, map, Option, Some, None, is_some, option_map, option_and_then, nat_lt}
use Rattle.std.proofs.lemmas.Bool.{and_parts, and_from}
use Rattle.dim_core.specs.Outline.{Outline, index_of}
use Rattle.cube_space.specs.Layout.{Layout, axes}
use Rattle.cube_space.specs.Cells.{is_leaf}
use Rattle.cube_space.specs.Axes.{axis_called}
use Rattle.model_text.specs.declared.order.OrderLine.{OrderLine}
use Rattle.model_text.specs.declared.order.OrderWord.{OrderWord}
use Rattle.model_text.specs.declared.order.OrderWord.TheVariants as words
use Rattle.model_text.specs.Orders.{has_kinds}
use Rattle.rule_model.specs.declared.order.Order.{Order}
use Rattle.rule_model.specs.declared.order.Position.{Position}
use Rattle.rule_model.specs.Order.{most_positions}
use Rattle.bind_order.specs.Ranks.{all_of, are_writable, listed_rank, listed_ranks, ranks_of, may_list, entry_element, are_listed, list_ranks}
use Rattle.bind_order.specs.ByKind.{order_by_kind}
use Rattle.bind_order.specs.Orders.{position_by, position_of, plain_order, order_by, order_of}
use Rattle.model_format_laws.specs.Versions.{line_in}

-- what may be listed where consolidated elements may not, as in version 1, may be where they may, as in version 2
may_too : (d : Outline) (before : Option ℕ) (element : ℕ) → may_list d false before element ≡ true → may_list d true before element ≡ true
may_too d before element may = by (is_some before) (is_leaf d element) may
  where
    by : (b leaf : Bool) → (not b && (leaf || false)) ≡ true → (not b && (leaf || true)) ≡ true
    by true leaf may = absurd (let e : false ≡ true = may in cc e)
    by false true may = refl
    by false false may = refl

entry_too : (d : Outline) (before : List (List ℕ × ℕ)) (name : List ℕ) → is_some (entry_element d false before name) ≡ true → is_some (entry_element d true before name) ≡ true
entry_too d before name some = by (index_of d name) some
  where
    listed : Bool → Option ℕ → Option ℕ
    listed totals at = option_and_then (λ element. if may_list d totals (listed_rank d before element) element then Some element else None) at

    kept : ℕ → Bool → Option ℕ
    kept element may = if may then Some element else None

    by : (o : Option ℕ) → is_some (listed false o) ≡ true → is_some (listed true o) ≡ true
    by None some = some
    by (Some element) some = may (may_list d false (listed_rank d before element) element) refl
      where
        may : (b : Bool) → may_list d false (listed_rank d before element) element ≡ b → is_some (listed true (Some element)) ≡ true
        may true m = ap (λ b. is_some (kept element b)) (may_too d (listed_rank d before element) element m)
        may false m = absurd (let e : false ≡ true = sym (ap (λ b. is_some (kept element b)) m) ∙ some in cc e)

listed_too : (d : Outline) (before list : List (List ℕ × ℕ)) → are_listed d false before list ≡ true → are_listed d true before list ≡ true
listed_too d before [] all = refl
listed_too d before (entry ∷ list) all =
    let both = and_parts (is_some (entry_element d false before entry.0)) (are_listed d false (before ++ entry ∷ []) list) all in
    and_from _ _ (entry_too d before entry.0 both.0) (listed_too d (before ++ entry ∷ []) list both.1)

ranks_too : (list : List (List ℕ × ℕ)) (d : Outline) (ranks : List ℕ) → list_ranks 1 list d ≡ Some ranks → list_ranks 2 list d ≡ Some ranks
unfolding list_ranks
ranks_too list d ranks is = by (are_writable list && are_listed d false [] list) refl is
  where
    given : Bool → Option (List ℕ)
    given b = if b then ranks_of d (listed_ranks d list) else None

    by : (b : Bool) → (are_writable list && are_listed d false [] list) ≡ b → given b ≡ Some ranks → given (are_writable list && are_listed d true [] list) ≡ Some ranks
    by true all is =
        let both = and_parts (are_writable list) (are_listed d false [] list) all in
        ap given (and_from (are_writable list) (are_listed d true [] list) both.0 (listed_too d [] list both.1)) ∙ is
    by false all is = absurd (let e : None ≡ Some ranks = is in cc e)

-- what is made of two answers, where the second gives what the first does
pub mapped_too : {A B : Type 0} (f : A → B) (one two : Option A) (b : B) → ((a : A) → one ≡ Some a → two ≡ Some a) → option_map f one ≡ Some b → option_map f two ≡ Some b
mapped_too f None two b same is = absurd (let e : None ≡ Some b = is in cc e)
mapped_too f (Some a) two b same is = ap (option_map f) (same a refl) ∙ is

pub then_too : {A B : Type 0} (f g : A → Option B) (o : Option A) (b : B) → ((a : A) → f a ≡ Some b → g a ≡ Some b) → option_and_then f o ≡ Some b → option_and_then g o ≡ Some b
then_too f g None b same is = absurd (let e : None ≡ Some b = is in cc e)
then_too f g (Some a) b same is = same a is

all_too : {A B : Type 0} (f g : A → Option B) (xs : List A) (bs : List B) → ((x : A) (b : B) → f x ≡ Some b → g x ≡ Some b) → all_of (map f xs) ≡ Some bs → all_of (map g xs) ≡ Some bs
all_too f g [] bs same is = is
all_too {A} {B} f g (x ∷ xs) bs same is = by (λ later rest. all_too f g xs later same rest) (f x) refl (all_of (map f xs)) refl
  where
    by : ((later : List B) → all_of (map f xs) ≡ Some later → all_of (map g xs) ≡ Some later) → (o : Option B) → f x ≡ o → (later : Option (List B)) → all_of (map f xs) ≡ later → all_of (map g (x ∷ xs)) ≡ Some bs
    by more None here later rest = absurd (let none : all_of (map f (x ∷ xs)) ≡ None = rw here refl in let e : None ≡ Some bs = sym none ∙ is in cc e)
    by more (Some b) here None rest = absurd (let none : all_of (map f (x ∷ xs)) ≡ None = rw (here, rest) refl in let e : None ≡ Some bs = sym none ∙ is in cc e)
    by more (Some b) here (Some later) rest =
        let one : all_of (map f (x ∷ xs)) ≡ Some (b ∷ later) = rw (here, rest) refl in
        let two : all_of (map g (x ∷ xs)) ≡ Some (b ∷ later) = rw (same x b here, more later rest) refl in
        two ∙ sym one ∙ is

position_too : (space : Layout) (cube : ℕ) (word : OrderWord) (p : Position) → position_of space cube 1 word ≡ Some p → position_of space cube 2 word ≡ Some p
position_too space cube (words.Constant number) p is = is
position_too space cube (words.Index name) p is = is
position_too space cube (words.RanksByKind name leaves totals) p is = is
position_too space cube words.Totals p is = is
position_too space cube (words.Auto totals lag) p is = is
position_too space cube (words.Ranks name list) p is =
    then_too (position_by (axes space cube) (list_ranks 1 list)) (position_by (axes space cube) (list_ranks 2 list)) (axis_called (axes space cube) name) p
    (λ place here. mapped_too _ _ _ p (λ ranks found. then_too (list_ranks 1 list) (list_ranks 2 list) _ ranks (λ d. ranks_too list d ranks) found) here) is

pub order_too : (space : Layout) (cube : ℕ) (line : OrderLine) (order : Order) → line.version ≡ 1 → order_of space cube line ≡ Some order → order_of space cube (line_in 2 line) ≡ Some order
order_too space cube line order first is = by (nat_lt most_positions (length line.words)) (has_kinds line.words) (subst (λ v. meant v (nat_lt most_positions (length line.words)) (has_kinds line.words) ≡ Some order) first is)
  where
    meant : ℕ → Bool → Bool → Option Order
    meant version many kinds =
        if many then None else if kinds then order_by_kind space cube line.words else order_by space cube version line.words

    by : (many kinds : Bool) → meant 1 many kinds ≡ Some order → meant 2 many kinds ≡ Some order
    by true kinds is = is
    by false true is = is
    by false false is =
        mapped_too plain_order _ _ order (λ positions all. all_too (position_of space cube 1) (position_of space cube 2) line.words positions (position_too space cube) all) is
