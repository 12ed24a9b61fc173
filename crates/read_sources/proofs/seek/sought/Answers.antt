use Rattle.std.proofs.Common.{◌≡◌, refl, sym, ap, ◌∙◌, arith, true}
use Rattle.order_laws.specs.Earlier.{Kinds}
use Rattle.arrow_laws.specs.ByDimension.{asks_total}
use Rattle.read_sources.proofs.Gathered.{source-read}
use Rattle.read_sources.proofs.seek.sought.Goals as goal

pub returns-clause-sought : goal.returns-clause-sought
returns-clause-sought c =
    let reading = c.args.reading in
    let on : c.is_reached.result ≡ true = c.if-not-is_reached.false in
    let leaves = ap (λ (k : Kinds). k.its) c.names_leaves-leaves.ensures in record {
      read =
          source-read reading.part.model.now _ reading.part.statement.now reading.at
          (record { of = c.requires.reading.part.of; area = refl; counted = omega (arith, c.requires.reading.part.before_is); here = c.requires.reading.here })
          (record {
            level = c.requires.reading.level;
            not_lagged = c.requires.reading.not_lagged;
            weak = c.requires.reading.weak;
            has_kind = c.requires.its;
            fixed = c.is_reached.ensures.fixed on;
            asks = c.asks_total.ensures ∙ ap (asks_total c.args.its) (sym leaves);
            each = c.is_reached.ensures.each on;
            elsewhere = c.given_elsewhere-elsewhere.ensures.given;
          });
      own = refl;
      area = refl;
      same_kind = refl;
      same_read = refl;
      same_its = refl;
    }
