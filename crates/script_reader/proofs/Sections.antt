-- Pieces one behind the other, gathered, are just the sections of a script.
use Rattle.std.proofs.Common.{◌≡◌, ℕ, List, [], ◌∷◌, ◌++◌, Option, Some, None, codes, refl, sym, ◌∙◌, ap, subst, inl, inr, append-nil, append_assoc}
use Rattle.cube_lex.specs.Lexeme.{Lexeme}
use Rattle.grammar.specs.After.{many_after}
use Rattle.grammar.specs.Grammar.{Grammar, both, done, many}
use Rattle.script_tree.specs.ScriptText.{heading, block, script_of, script}
use Rattle.script_tree.specs.Statement.{statement}
use Rattle.script_reader.specs.Readers.TextReading.{behind, section_after, gathered_from, gathered}
use Rattle.script_reader.specs.declared.section.Piece.{Piece}
use Rattle.script_reader.specs.declared.section.Piece.TheVariants as pieces
use Rattle.script_tree.specs.declared.line.Line.{Line}
use Rattle.script_tree.specs.declared.script.Script.{Script}
use Rattle.script_tree.specs.declared.script.Section.{Section}
use Rattle.script_tree.specs.declared.script.Section.TheVariants as sections
use Rattle.script_reader.proofs.PiecesExact.{heading_piece, line_piece, piece, piece_behind}

-- pieces from a section on
abbrev course : Option Section → Grammar Lexeme (List Piece)
course s u [] = u ≡ []
course s u (a ∷ list) = (v w : List Lexeme) × (u ≡ v ++ w) × piece s v a × course (behind s a) w list

pub section_append : (s : Option Section) (before : List Piece) (a : Piece) → section_after s (before ++ a ∷ []) ≡ behind (section_after s before) a
section_append s [] a = refl
section_append s (b ∷ before) a = section_append (behind s b) before a

course_of : (before list : List Piece) (u : List Lexeme) → many_after piece_behind before u list → course (section_after None before) u list
course_of before [] u h = h
course_of before (a ∷ list) u (v, w, parts, h, more) = (v, w, parts, h, subst (λ s. course s w list) (section_append None before a) (course_of (before ++ a ∷ []) list w more))

pieces_of : (before list : List Piece) (u : List Lexeme) → course (section_after None before) u list → many_after piece_behind before u list
pieces_of before [] u h = h
pieces_of before (a ∷ list) u (v, w, parts, h, more) = (v, w, parts, h, pieces_of (before ++ a ∷ []) list w (subst (λ s. course s w list) (sym (section_append None before a)) more))

-- What a piece is.

line_is : (section : Section) (v : List Lexeme) (l : Line) → line_piece section v (pieces.Statement l) → statement section v l
line_is section v l (x, y, line, parts, h, (nothing, made)) =
    let same : line ≡ l = cc in
    let whole : v ≡ x = parts ∙ ap (λ z. x ++ z) nothing ∙ append-nil x in
    subst (λ z. statement section z l) (sym whole) (subst (statement section x) same h)

line_no_heading : {A : Type 0} (section next : Section) (v : List Lexeme) → line_piece section v (pieces.Heading next) → A
line_no_heading section next v (x, y, line, parts, h, (nothing, made)) = cc

heading_no_line : {A : Type 0} (mark : List ℕ) (section : Section) (v : List Lexeme) (l : Line) → heading_piece mark section v (pieces.Statement l) → A
heading_no_line mark section v l (x, y, unit, parts, h, (nothing, made)) = cc

heading_is : (mark : List ℕ) (section next : Section) (v : List Lexeme) → heading_piece mark section v (pieces.Heading next) → heading mark v tt × (next ≡ section)
heading_is mark section next v (x, y, unit, parts, h, (nothing, made)) =
    let whole : v ≡ x = parts ∙ ap (λ z. x ++ z) nothing ∙ append-nil x in
    (subst (λ z. heading mark z tt) (sym whole) h, cc)

as_heading : (mark : List ℕ) (section : Section) (v : List Lexeme) → heading mark v tt → heading_piece mark section v (pieces.Heading section)
as_heading mark section v h = (v, [], tt, sym (append-nil v), h, (refl, refl))

as_line : (section : Section) (v : List Lexeme) (l : Line) → statement section v l → line_piece section v (pieces.Statement l)
as_line section v l h = (v, [], l, sym (append-nil v), h, (refl, refl))

-- From pieces to sections.

record InEpilog (u : List Lexeme) (list : List Piece) : Type 0 where
  epilog : List Line
  are : many (statement sections.Epilog) u epilog
  told : (a b c : List Line) → gathered_from a b c (Some sections.Epilog) list ≡ script_of a b (c ++ epilog)

record InBody (u : List Lexeme) (list : List Piece) : Type 0 where
  front : List Lexeme
  rest : List Lexeme
  parts : u ≡ front ++ rest
  body : List Line
  epilog : List Line
  are : many (statement sections.Body) front body
  then_epilog : block (codes "EPILOG") sections.Epilog rest epilog
  told : (a b c : List Line) → gathered_from a b c (Some sections.Body) list ≡ script_of a (b ++ body) (c ++ epilog)

record InProlog (u : List Lexeme) (list : List Piece) : Type 0 where
  front : List Lexeme
  middle : List Lexeme
  rest : List Lexeme
  parts : u ≡ front ++ (middle ++ rest)
  prolog : List Line
  body : List Line
  epilog : List Line
  are : many (statement sections.Prolog) front prolog
  then_body : block (codes "DATA") sections.Body middle body
  then_epilog : block (codes "EPILOG") sections.Epilog rest epilog
  told : (a b c : List Line) → gathered_from a b c (Some sections.Prolog) list ≡ script_of (a ++ prolog) (b ++ body) (c ++ epilog)

added : (before : List Line) (l : Line) (more : List Line) → (before ++ l ∷ []) ++ more ≡ before ++ l ∷ more
added before l more = append_assoc before (l ∷ []) more

in_epilog : (u : List Lexeme) (list : List Piece) → course (Some sections.Epilog) u list → InEpilog u list
in_epilog u [] h = record { epilog = []; are = h; told = λ a b c. ap (script_of a b) (sym (append-nil c)) }
in_epilog u (pieces.Heading next ∷ list) (v, w, parts, h, more) = line_no_heading sections.Epilog next v h
in_epilog u (pieces.Statement l ∷ list) (v, w, parts, h, more) =
    let f = in_epilog w list more in
    record { epilog = l ∷ f.epilog; are = (v, w, parts, line_is sections.Epilog v l h, f.are); told = λ a b c. f.told a b (c ++ l ∷ []) ∙ ap (script_of a b) (added c l f.epilog) }

epilog_begins : (u v w : List Lexeme) (next : Section) (list : List Piece) → u ≡ v ++ w → heading_piece (codes "EPILOG") sections.Epilog v (pieces.Heading next) → course (Some next) w list → (epilog : List Line) × block (codes "EPILOG") sections.Epilog u epilog × ((a b c : List Line) → gathered_from a b c (Some next) list ≡ script_of a b (c ++ epilog))
epilog_begins u v w next list parts h more =
    let (marked, is) = heading_is (codes "EPILOG") sections.Epilog next v h in
    let f = in_epilog w list (subst (λ s. course (Some s) w list) is more) in
    (f.epilog, inl (v, w, tt, parts, marked, f.are), λ a b c. ap (λ s. gathered_from a b c (Some s) list) is ∙ f.told a b c)

in_body_at : (u v w : List Lexeme) (p : Piece) (list : List Piece) → u ≡ v ++ w → piece (Some sections.Body) v p → course (behind (Some sections.Body) p) w list → (course (Some sections.Body) w list → InBody w list) → InBody u (p ∷ list)
in_body_at u v w (pieces.Heading next) list parts (inr h) more later = line_no_heading sections.Body next v h
in_body_at u v w (pieces.Statement l) list parts (inl h) more later = heading_no_line (codes "EPILOG") sections.Epilog v l h
in_body_at u v w (pieces.Heading next) list parts (inl h) more later =
    let (epilog, are, told) = epilog_begins u v w next list parts h more in
    record { front = []; rest = u; parts = refl; body = []; epilog = epilog; are = refl; then_epilog = are; told = λ a b c. told a b c ∙ ap (λ x. script_of a x (c ++ epilog)) (sym (append-nil b)) }
in_body_at u v w (pieces.Statement l) list parts (inr h) more later =
    let f = later more in
    record {
      front = v ++ f.front;
      rest = f.rest;
      parts = parts ∙ ap (λ x. v ++ x) f.parts ∙ sym (append_assoc v f.front f.rest);
      body = l ∷ f.body;
      epilog = f.epilog;
      are = (v, f.front, refl, line_is sections.Body v l h, f.are);
      then_epilog = f.then_epilog;
      told = λ a b c. f.told a (b ++ l ∷ []) c ∙ ap (λ x. script_of a x (c ++ f.epilog)) (added b l f.body);
    }

in_body : (u : List Lexeme) (list : List Piece) → course (Some sections.Body) u list → InBody u list
in_body u [] h = record { front = []; rest = []; parts = h; body = []; epilog = []; are = refl; then_epilog = inr (refl, refl); told = λ a b c. ap (λ x. script_of a x c) (sym (append-nil b)) ∙ ap (script_of a (b ++ [])) (sym (append-nil c)) }
in_body u (p ∷ list) (v, w, parts, h, more) = in_body_at u v w p list parts h more (in_body w list)

body_begins : (u v w : List Lexeme) (next : Section) (list : List Piece) → u ≡ v ++ w → heading_piece (codes "DATA") sections.Body v (pieces.Heading next) → course (Some next) w list → (y z : List Lexeme) × (u ≡ y ++ z) × (body epilog : List Line) × block (codes "DATA") sections.Body y body × block (codes "EPILOG") sections.Epilog z epilog × ((a b c : List Line) → gathered_from a b c (Some next) list ≡ script_of a (b ++ body) (c ++ epilog))
body_begins u v w next list parts h more =
    let (marked, is) = heading_is (codes "DATA") sections.Body next v h in
    let f = in_body w list (subst (λ s. course (Some s) w list) is more) in
    (v ++ f.front, f.rest, parts ∙ ap (λ x. v ++ x) f.parts ∙ sym (append_assoc v f.front f.rest), f.body, f.epilog, inl (v, f.front, tt, refl, marked, f.are), f.then_epilog, λ a b c. ap (λ s. gathered_from a b c (Some s) list) is ∙ f.told a b c)

in_prolog_at : (u v w : List Lexeme) (p : Piece) (list : List Piece) → u ≡ v ++ w → piece (Some sections.Prolog) v p → course (behind (Some sections.Prolog) p) w list → (course (Some sections.Prolog) w list → InProlog w list) → InProlog u (p ∷ list)
in_prolog_at u v w (pieces.Heading next) list parts (inr (inr h)) more later = line_no_heading sections.Prolog next v h
in_prolog_at u v w (pieces.Statement l) list parts (inl h) more later = heading_no_line (codes "DATA") sections.Body v l h
in_prolog_at u v w (pieces.Statement l) list parts (inr (inl h)) more later = heading_no_line (codes "EPILOG") sections.Epilog v l h
in_prolog_at u v w (pieces.Heading next) list parts (inl h) more later =
    let (y, z, cut, body, epilog, are, and_then, told) = body_begins u v w next list parts h more in
    record { front = []; middle = y; rest = z; parts = cut; prolog = []; body = body; epilog = epilog; are = refl; then_body = are; then_epilog = and_then; told = λ a b c. told a b c ∙ ap (λ x. script_of x (b ++ body) (c ++ epilog)) (sym (append-nil a)) }
in_prolog_at u v w (pieces.Heading next) list parts (inr (inl h)) more later =
    let (epilog, are, told) = epilog_begins u v w next list parts h more in
    record { front = []; middle = []; rest = u; parts = refl; prolog = []; body = []; epilog = epilog; are = refl; then_body = inr (refl, refl); then_epilog = are; told = λ a b c. told a b c ∙ ap (λ x. script_of x b (c ++ epilog)) (sym (append-nil a)) ∙ ap (λ x. script_of (a ++ []) x (c ++ epilog)) (sym (append-nil b)) }
in_prolog_at u v w (pieces.Statement l) list parts (inr (inr h)) more later =
    let f = later more in
    record {
      front = v ++ f.front;
      middle = f.middle;
      rest = f.rest;
      parts = parts ∙ ap (λ x. v ++ x) f.parts ∙ sym (append_assoc v f.front (f.middle ++ f.rest));
      prolog = l ∷ f.prolog;
      body = f.body;
      epilog = f.epilog;
      are = (v, f.front, refl, line_is sections.Prolog v l h, f.are);
      then_body = f.then_body;
      then_epilog = f.then_epilog;
      told = λ a b c. f.told (a ++ l ∷ []) b c ∙ ap (λ x. script_of x (b ++ f.body) (c ++ f.epilog)) (added a l f.prolog);
    }

in_prolog : (u : List Lexeme) (list : List Piece) → course (Some sections.Prolog) u list → InProlog u list
in_prolog u [] h = record { front = []; middle = []; rest = []; parts = h; prolog = []; body = []; epilog = []; are = refl; then_body = inr (refl, refl); then_epilog = inr (refl, refl); told = λ a b c. ap (λ x. script_of x b c) (sym (append-nil a)) ∙ ap (λ x. script_of (a ++ []) x c) (sym (append-nil b)) ∙ ap (script_of (a ++ []) (b ++ [])) (sym (append-nil c)) }
in_prolog u (p ∷ list) (v, w, parts, h, more) = in_prolog_at u v w p list parts h more (in_prolog w list)

-- the text of these sections
text_of : (x y z : List Lexeme) (prolog body epilog : List Line) → block (codes "PROLOG") sections.Prolog x prolog → block (codes "DATA") sections.Body y body → block (codes "EPILOG") sections.Epilog z epilog → script (x ++ (y ++ z)) (script_of prolog body epilog)
text_of x y z prolog body epilog h k l = (x, y ++ z, prolog, refl, h, (y, z, body, refl, k, (z, [], epilog, sym (append-nil z), l, (refl, refl))))

script_at : (u v w : List Lexeme) (p : Piece) (list : List Piece) → u ≡ v ++ w → piece None v p → course (behind None p) w list → script u (gathered (p ∷ list))
script_at u v w (pieces.Statement l) list parts (inl h) more = heading_no_line (codes "PROLOG") sections.Prolog v l h
script_at u v w (pieces.Statement l) list parts (inr (inl h)) more = heading_no_line (codes "DATA") sections.Body v l h
script_at u v w (pieces.Statement l) list parts (inr (inr h)) more = heading_no_line (codes "EPILOG") sections.Epilog v l h
script_at u v w (pieces.Heading next) list parts (inl h) more =
    let (marked, is) = heading_is (codes "PROLOG") sections.Prolog next v h in
    let f = in_prolog w list (subst (λ s. course (Some s) w list) is more) in
    let told : gathered (pieces.Heading next ∷ list) ≡ script_of f.prolog f.body f.epilog = ap (λ s. gathered_from [] [] [] (Some s) list) is ∙ f.told [] [] [] in
    let cut : u ≡ (v ++ f.front) ++ (f.middle ++ f.rest) = parts ∙ ap (λ x. v ++ x) f.parts ∙ sym (append_assoc v f.front (f.middle ++ f.rest)) in
    subst (script u) (sym told) (subst (λ x. script x (script_of f.prolog f.body f.epilog)) (sym cut)
    (text_of (v ++ f.front) f.middle f.rest f.prolog f.body f.epilog (inl (v, f.front, tt, refl, marked, f.are)) f.then_body f.then_epilog))
script_at u v w (pieces.Heading next) list parts (inr (inl h)) more =
    let (y, z, cut, body, epilog, are, and_then, told) = body_begins u v w next list parts h more in
    subst (script u) (sym (told [] [] [])) (subst (λ x. script x (script_of [] body epilog)) (sym cut) (text_of [] y z [] body epilog (inr (refl, refl)) are and_then))
script_at u v w (pieces.Heading next) list parts (inr (inr h)) more =
    let (epilog, are, told) = epilog_begins u v w next list parts h more in
    subst (script u) (sym (told [] [] [])) (text_of [] [] u [] [] epilog (inr (refl, refl)) (inr (refl, refl)) are)

script_of_course : (u : List Lexeme) (list : List Piece) → course None u list → script u (gathered list)
script_of_course u [] h = subst (λ x. script x (gathered [])) (sym h) (text_of [] [] [] [] [] [] (inr (refl, refl)) (inr (refl, refl)) (inr (refl, refl)))
script_of_course u (p ∷ list) (v, w, parts, h, more) = script_at u v w p list parts h more

-- From sections to pieces.

record AsPieces (s : Option Section) (u : List Lexeme) (prolog body epilog : List Line) : Type 0 where
  list : List Piece
  are : course s u list
  told : (a b c : List Line) → gathered_from a b c s list ≡ script_of (a ++ prolog) (b ++ body) (c ++ epilog)

of_epilog : (u : List Lexeme) (epilog : List Line) → many (statement sections.Epilog) u epilog → AsPieces (Some sections.Epilog) u [] [] epilog
of_epilog u [] h = record { list = []; are = h; told = λ a b c. ap (λ x. script_of x b c) (sym (append-nil a)) ∙ ap (λ x. script_of (a ++ []) x c) (sym (append-nil b)) ∙ ap (script_of (a ++ []) (b ++ [])) (sym (append-nil c)) }
of_epilog u (l ∷ epilog) (v, w, parts, h, more) =
    let f = of_epilog w epilog more in
    record { list = pieces.Statement l ∷ f.list; are = (v, w, parts, as_line sections.Epilog v l h, f.are); told = λ a b c. f.told a b (c ++ l ∷ []) ∙ ap (script_of (a ++ []) (b ++ [])) (added c l epilog) }

nothing_is : (s : Option Section) (u : List Lexeme) → u ≡ [] → AsPieces s u [] [] []
nothing_is s u h = record { list = []; are = h; told = λ a b c. ap (λ x. script_of x b c) (sym (append-nil a)) ∙ ap (λ x. script_of (a ++ []) x c) (sym (append-nil b)) ∙ ap (script_of (a ++ []) (b ++ [])) (sym (append-nil c)) }

-- an Epilog, or none, behind a section in which it may begin
epilog_behind : (s : Option Section) → ((v : List Lexeme) → heading_piece (codes "EPILOG") sections.Epilog v (pieces.Heading sections.Epilog) → piece s v (pieces.Heading sections.Epilog)) → (u : List Lexeme) (epilog : List Line) → block (codes "EPILOG") sections.Epilog u epilog → AsPieces s u [] [] epilog
epilog_behind s into u epilog (inl (v, w, unit, parts, marked, h)) =
    let f = of_epilog w epilog h in
    record { list = pieces.Heading sections.Epilog ∷ f.list; are = (v, w, parts, into v (as_heading (codes "EPILOG") sections.Epilog v marked), f.are); told = f.told }
epilog_behind s into u epilog (inr (nothing, none)) = subst (AsPieces s u [] []) (sym none) (nothing_is s u nothing)

of_body : (v w : List Lexeme) (body epilog : List Line) → many (statement sections.Body) v body → block (codes "EPILOG") sections.Epilog w epilog → AsPieces (Some sections.Body) (v ++ w) [] body epilog
of_body v w [] epilog h k = subst (λ x. AsPieces (Some sections.Body) (x ++ w) [] [] epilog) (sym h) (epilog_behind (Some sections.Body) (λ x g. inl g) w epilog k)
of_body v w (l ∷ body) epilog (x, y, parts, h, more) k =
    let f = of_body y w body epilog more k in
    record {
      list = pieces.Statement l ∷ f.list;
      are = (x, y ++ w, ap (λ z. z ++ w) parts ∙ append_assoc x y w, inr (as_line sections.Body x l h), f.are);
      told = λ a b c. f.told a (b ++ l ∷ []) c ∙ ap (λ z. script_of (a ++ []) z (c ++ epilog)) (added b l body);
    }

-- Data, or none, and then an Epilog, or none, behind a section in which both may begin
body_behind : (s : Option Section) → ((v : List Lexeme) → heading_piece (codes "DATA") sections.Body v (pieces.Heading sections.Body) → piece s v (pieces.Heading sections.Body)) → ((v : List Lexeme) → heading_piece (codes "EPILOG") sections.Epilog v (pieces.Heading sections.Epilog) → piece s v (pieces.Heading sections.Epilog))
    → (y z : List Lexeme) (body epilog : List Line) → block (codes "DATA") sections.Body y body → block (codes "EPILOG") sections.Epilog z epilog → AsPieces s (y ++ z) [] body epilog
body_behind s into into' y z body epilog (inl (v, w, unit, parts, marked, h)) k =
    let f = of_body w z body epilog h k in
    record { list = pieces.Heading sections.Body ∷ f.list; are = (v, w ++ z, ap (λ x. x ++ z) parts ∙ append_assoc v w z, into v (as_heading (codes "DATA") sections.Body v marked), f.are); told = f.told }
body_behind s into into' y z body epilog (inr (nothing, none)) k =
    subst (λ x. AsPieces s (x ++ z) [] body epilog) (sym nothing) (subst (λ x. AsPieces s z [] x epilog) (sym none) (epilog_behind s into' z epilog k))

of_prolog : (x y z : List Lexeme) (prolog body epilog : List Line) → many (statement sections.Prolog) x prolog → block (codes "DATA") sections.Body y body → block (codes "EPILOG") sections.Epilog z epilog → AsPieces (Some sections.Prolog) (x ++ (y ++ z)) prolog body epilog
of_prolog x y z [] body epilog h k l = subst (λ t. AsPieces (Some sections.Prolog) (t ++ (y ++ z)) [] body epilog) (sym h) (body_behind (Some sections.Prolog) (λ t g. inl g) (λ t g. inr (inl g)) y z body epilog k l)
of_prolog x y z (line ∷ prolog) body epilog (v, w, parts, h, more) k l =
    let f = of_prolog w y z prolog body epilog more k l in
    record {
      list = pieces.Statement line ∷ f.list;
      are = (v, w ++ (y ++ z), ap (λ t. t ++ (y ++ z)) parts ∙ append_assoc v w (y ++ z), inr (inr (as_line sections.Prolog v line h)), f.are);
      told = λ a b c. f.told (a ++ line ∷ []) b c ∙ ap (λ t. script_of t (b ++ body) (c ++ epilog)) (added a line prolog);
    }

of_script : (x y z : List Lexeme) (prolog body epilog : List Line) → block (codes "PROLOG") sections.Prolog x prolog → block (codes "DATA") sections.Body y body → block (codes "EPILOG") sections.Epilog z epilog → AsPieces None (x ++ (y ++ z)) prolog body epilog
of_script x y z prolog body epilog (inl (v, w, unit, parts, marked, h)) k l =
    let f = of_prolog w y z prolog body epilog h k l in
    record { list = pieces.Heading sections.Prolog ∷ f.list; are = (v, w ++ (y ++ z), ap (λ t. t ++ (y ++ z)) parts ∙ append_assoc v w (y ++ z), inl (as_heading (codes "PROLOG") sections.Prolog v marked), f.are); told = f.told }
of_script x y z prolog body epilog (inr (nothing, none)) k l =
    subst (λ t. AsPieces None (t ++ (y ++ z)) prolog body epilog) (sym nothing) (subst (λ t. AsPieces None (y ++ z) t body epilog) (sym none) (body_behind None (λ t g. inr (inl g)) (λ t g. inr (inr g)) y z body epilog k l))

-- Both ways.

abbrev pub gathered_pieces : Grammar Lexeme Script
gathered_pieces = both (many_after piece_behind []) (λ list. done (gathered list))

pub script_of_pieces : (u : List Lexeme) (a : Script) → gathered_pieces u a → script u a
script_of_pieces u a (v, w, list, parts, h, (nothing, made)) =
    let whole : u ≡ v = parts ∙ ap (λ z. v ++ z) nothing ∙ append-nil v in
    subst (λ z. script z a) (sym whole) (subst (script v) (sym made) (script_of_course v list (course_of [] list v h)))

pub pieces_of_script : (u : List Lexeme) (a : Script) → script u a → gathered_pieces u a
pieces_of_script u a (x, r, prolog, parts, h, (y, s, body, parts', k, (z, n, epilog, parts'', l, (nothing, made)))) =
    let last : s ≡ z = parts'' ∙ ap (λ t. z ++ t) nothing ∙ append-nil z in
    let whole : u ≡ x ++ (y ++ z) = parts ∙ ap (λ t. x ++ t) (parts' ∙ ap (λ t. y ++ t) last) in
    let f = of_script x y z prolog body epilog h k l in
    subst (λ t. gathered_pieces t a) (sym whole) (x ++ (y ++ z), [], f.list, sym (append-nil (x ++ (y ++ z))), pieces_of [] f.list (x ++ (y ++ z)) f.are, (refl, made ∙ sym (f.told [] [] [])))
