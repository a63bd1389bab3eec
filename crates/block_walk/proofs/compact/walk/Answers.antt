-- `walk` lends the walk its columns. Assumes nothing.
use native.Mathlib.Omega.{arith}
use Rattle.block_walk.proofs.BlockWalk.{column-at}
use Rattle.block_walk.proofs.compact.walk.Goals as goal

pub raise_blocks-requires : goal.raise_blocks-requires
raise_blocks-requires c =
    let e = c.columns_of.ensures in
    let few = c.requires.0.few in (
      c.requires.0,
      c.requires.1,
      record {
        spanned = c.requires.2;
        columns =
            record {
              room =
                  record {
                    centers-long = omega (arith, c.columns_of.auto.centers, few);
                    strengths-long = omega (arith, c.columns_of.auto.strengths, few);
                    peaks-long = omega (arith, c.columns_of.auto.peaks, few);
                  };
              values = λ p h. (column-at _ c.args.count _ few e.0 p h, column-at _ c.args.count _ few e.1 p h, column-at _ c.args.count _ few e.2 p h);
            };
      },
    )
