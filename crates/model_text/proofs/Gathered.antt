-- What is read of a piece, and then gathered.
use Rattle.std.proofs.Common.{◌≡◌, List, Ok, Err, ap}
use Rattle.cube_lex.specs.Lexeme.{Lexeme}
use Rattle.grammar.specs.Reading.{Stop, Refused, unit_of, gives, bound}
use Rattle.grammar.specs.declared.cursor.Unwatched.{Unwatched}
use Rattle.grammar.proofs.Checked.{checked_ok, checked_refused, checked_halt}
use Rattle.model_text.specs.Statement.{Piece}
use Rattle.model_text.specs.Gathering.{Given, gathered}
use Rattle.model_text.specs.Readers.Reading.{Plain, gather}
use Rattle.model_text.specs.declared.fault.ModelTextFault.{ModelTextFault}

pub gather_ok : (P : Plain Piece) (g : Given) {h : Given} {ts rest : List Lexeme} {x : Piece} {u : Unwatched} → P (record {}) ts ≡ Ok (x, u, rest) → gathered g x ≡ Ok h → unit_of (gather P) g ts ≡ Ok (tt, h, rest)
gather_ok P g read added = ap (λ r. bound r (λ _. gives tt)) (checked_ok {U = Unwatched} (record {}) gathered P g read added)

pub gather_refused : (P : Plain Piece) (g : Given) {ts rest : List Lexeme} {x : Piece} {u : Unwatched} {fault : ModelTextFault} → P (record {}) ts ≡ Ok (x, u, rest) → gathered g x ≡ Err fault → unit_of (gather P) g ts ≡ Err (Refused fault)
gather_refused P g read refused = ap (λ r. bound r (λ _. gives tt)) (checked_refused {U = Unwatched} (record {}) gathered P g read refused)

pub gather_halt : (P : Plain Piece) (g : Given) {ts : List Lexeme} {halt : Stop ModelTextFault} → P (record {}) ts ≡ Err halt → unit_of (gather P) g ts ≡ Err halt
gather_halt P g read = ap (λ r. bound r (λ _. gives tt)) (checked_halt {U = Unwatched} (record {}) gathered P g read)
