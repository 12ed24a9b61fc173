use Rattle.std.proofs.Common.{◌≡◌, ℕ, List, ap}
use Rattle.model_text.specs.Gathering.{Parts}
use Rattle.model_text.specs.Statement.{has_totals}
use Rattle.std.proofs.lemmas.Result.{err_from_is_err_and}
use Rattle.model_text.proofs.ModelExact.{opening_exact, dimensions_exact, cubes_exact}
use Rattle.model_text.proofs.Stopping.{rests}
use Rattle.model_text.proofs.Whole.{opening_stops, dimensions_stop, cubes_stop, scripts_stop, scripts_read}
use Rattle.model_text.proofs.reading.model_at.Goals as goal

-- with other names of dimensions, the version is the same
same_version : (w v : Parts) (names : List (List ℕ)) → v ≡ record w { names = names } → v.version ≡ w.version
same_version w v names e = ap {A = Parts} {B = ℕ} (λ p. p.version) e

pub returns-in_err-partial-clause-read : goal.returns-in_err-partial-clause-read
returns-in_err-partial-clause-read c =
    let p = err_from_is_err_and c.from_residual.result c.from_residual.ensures.1 in
    rw (p.1, p.2) (opening_stops c.args.cursor.now.tokens c.in_err-partial.field-0.0 c.in_err-partial.ensures.read)

pub dimensions_at-requires-clause-tokens : goal.dimensions_at-requires-clause-tokens
dimensions_at-requires-clause-tokens c = rests opening_exact _ _ _ _ _ c.in_ok-partial.ensures.read c.requires

pub returns-in_err-dims-clause-read : goal.returns-in_err-dims-clause-read
returns-in_err-dims-clause-read c =
    let p = err_from_is_err_and c.from_residual-in_err-dims.result c.from_residual-in_err-dims.ensures.1 in
    rw (p.1, p.2) (dimensions_stop c.args.cursor.now.tokens c.opening_at.new.cursor.tokens c.in_ok-partial.partial c.in_err-dims.field-0.0 c.in_ok-partial.ensures.read c.in_err-dims.ensures.read)

pub returns-in_err-statements_at-clause-read : goal.returns-in_err-statements_at-clause-read
returns-in_err-statements_at-clause-read c =
    let (blocks, read, built) = c.in_ok-dims.ensures.read in
    let p = err_from_is_err_and c.from_residual-in_err-statements_at.result c.from_residual-in_err-statements_at.ensures.1 in
    rw (p.1, p.2) (cubes_stop c.args.cursor.now.tokens c.opening_at.new.cursor.tokens c.dimensions_at.new.cursor.tokens c.in_ok-partial.partial c.dimensions_at.new.partial blocks c.in_ok-partial.ensures.read read (same_version c.in_ok-partial.partial c.dimensions_at.new.partial _ c.in_ok-dims.ensures.names) c.in_err-statements_at.field-0.0 c.in_err-statements_at.ensures.read)

pub returns-in_err-statements_at-2-clause-read : goal.returns-in_err-statements_at-2-clause-read
returns-in_err-statements_at-2-clause-read c =
    let (blocks, read, built) = c.in_ok-dims.ensures.read in
    let p = err_from_is_err_and c.from_residual-in_err-statements_at-2.result c.from_residual-in_err-statements_at-2.ensures.1 in
    rw (p.1, p.2) (scripts_stop c.args.cursor.now.tokens c.opening_at.new.cursor.tokens c.dimensions_at.new.cursor.tokens c.in_ok-partial.partial c.dimensions_at.new.partial blocks c.in_ok-partial.ensures.read read (same_version c.in_ok-partial.partial c.dimensions_at.new.partial _ c.in_ok-dims.ensures.names) c.statements_at.new.cursor.tokens c.statements_at.new.partial c.in_err-statements_at-2.field-0.0 c.in_ok-statements_at.ensures.read c.in_err-statements_at-2.ensures.read)

pub returns-clause-read : goal.returns-clause-read
returns-clause-read c =
    let (blocks, read, built) = c.in_ok-dims.ensures.read in
    (blocks, scripts_read c.args.cursor.now.tokens c.opening_at.new.cursor.tokens c.dimensions_at.new.cursor.tokens c.in_ok-partial.partial c.dimensions_at.new.partial blocks c.in_ok-partial.ensures.read read (same_version c.in_ok-partial.partial c.dimensions_at.new.partial _ c.in_ok-dims.ensures.names) c.statements_at.new.cursor.tokens _ c.statements_at.new.partial c.statements_at-2.new.partial c.in_ok-statements_at.ensures.read c.in_ok-statements_at-2.ensures.read, built)

pub statements_at-requires : goal.statements_at-requires
statements_at-requires c =
    let (blocks, read, built) = c.in_ok-dims.ensures.read in
    rests dimensions_exact _ _ _ _ _ read (rests opening_exact _ _ _ _ _ c.in_ok-partial.ensures.read c.requires)

pub statements_at-requires-2 : goal.statements_at-requires-2
statements_at-requires-2 c =
    let (blocks, read, built) = c.in_ok-dims.ensures.read in
    rests (cubes_exact (has_totals c.dimensions_at.new.partial.version)) _ _ _ _ _ c.in_ok-statements_at.ensures.read (rests dimensions_exact _ _ _ _ _ read (rests opening_exact _ _ _ _ _ c.in_ok-partial.ensures.read c.requires))
