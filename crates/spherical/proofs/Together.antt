-- Every row of document 01's table holds. Assumes nothing.
use Rattle.float.specs.Table as floats
use Rattle.roots.specs.Table as roots
use Rattle.jord.specs.Table as jords
use Rattle.vectors.specs.Table as vectors
use Rattle.arcs.specs.Table as arcs
use Rattle.means.specs.Table as means
use Rattle.walks.specs.Table as walks
use Rattle.spherical.specs.Together.{Together}
use Rattle.spherical.proofs.Fraction as rows

pub table : Together
table =
    record {
      root = roots.root-of-smallest;
      eq_zero_yes = jords.eq_zero_yes;
      eq_zero_no = jords.eq_zero_no;
      orthogonal_of_x = vectors.orthogonal_of_x;
      side_left = arcs.side_left;
      side_right = arcs.side_right;
      side_equal_ends = arcs.side_equal_ends;
      cosine = floats.cosine-of-pi;
      arc = floats.atan2-of-zero-minus-one;
      mean_of_none = means.mean_of_none;
      mean_of_opposites = means.mean_of_opposites;
      mean_of_zero = means.mean_of_zero;
      mean_of_one = means.mean_of_one;
      fraction_nan = rows.fraction_nan;
      fraction_minus_zero = rows.fraction_minus_zero;
      at_rest = walks.cpa-at-rest;
    }
