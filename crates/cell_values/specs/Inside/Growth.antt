-- What is known only grows.
use Rattle.std.proofs.Math.Nat.{le_trans, le_refl}
use Rattle.memo_cells.specs.Knowledge.{Knowledge, Grew}

pub grew-same : (k : Knowledge) → Grew k k
grew-same k = record {
  knows = λ cell known. known;
  names = λ cell other known. known;
  zeros = λ cell. le_refl (k.zeros cell);
}

pub grew-later : (a b c : Knowledge) → Grew a b → Grew b c → Grew a c
grew-later a b c ab bc =
    record {
      knows = λ cell known. bc.knows cell (ab.knows cell known);
      names = λ cell other known. bc.names cell other (ab.names cell other known);
      zeros = λ cell. le_trans (ab.zeros cell) (bc.zeros cell);
    }
