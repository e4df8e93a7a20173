-- The charted examples hold, each by evaluation of the definitions.
use mathlib.Core.Path.{refl}
use lib.Ieee.{to_bits, of_bits}
use Rattle.sqrt.specs.Sqrt.{sqrt_of}
use Rattle.geometry.specs.Vector.{vector_of, zero_vector, scale_of}
use Rattle.geometry.specs.Point.{point_of, add_vector_of}
use Rattle.geometry.specs.Frame.{point_at_of}
use Rattle.analytic.specs.Surface.{eval_point}
use Rattle.fdlibm.proofs.Examples as fdlibm
use Rattle.solve.proofs.Computing as solve
use Rattle.boxes.proofs.Computing as boxes
use Rattle.marching.specs.Leaving.{leaving_of, first_exit, consider_of, lesser_of}
use Rattle.tangent.specs.Tangent.{normal_of, unit_cross, tangent_of}
use Rattle.meeting.proofs.Evaluated as meeting
use Rattle.number.specs.Helpers.{number_fit}
use Rattle.geometry.specs.Point.{point_fit}
use Rattle.geometry.specs.Tolerance.{default_tolerance, tolerance_fit}
use Rattle.patch.specs.Patch.{vector_fit, frame_fit, numbers_fit, sizes_fit, window_fit, mark_fit, u_is_angle, v_is_angle, fitness_of}
use Rattle.patch.specs.Pair.{pair_fitness}
use Rattle.walk.specs.Trace.{guess_finite, cap_fits, call_fitness, walk_of, trace_of}
use Rattle.examples.specs.Table.{Table}

pub table : Table
unfolding eval_point point_at_of add_vector_of scale_of point_of vector_of zero_vector fdlibm.computing solve.computing boxes.computing leaving_of first_exit consider_of lesser_of meeting.computing normal_of unit_cross tangent_of fitness_of numbers_fit sizes_fit window_fit mark_fit u_is_angle v_is_angle frame_fit vector_fit point_fit number_fit default_tolerance tolerance_fit guess_finite cap_fits pair_fitness call_fitness walk_of trace_of sqrt_of to_bits of_bits
table =
    record {
      row1 = refl;
      row2 = refl;
      row3 = refl;
      row4 = refl;
      row5 = (refl, λ right. refl);
      row6 = (refl, λ right. refl);
      row7 = (λ a b. refl, λ a b. refl);
      row8 = (λ p t. refl, λ p t. refl);
      row8_explained = (λ p t. (refl, refl), λ p t. (refl, refl));
      row9 = (λ p. (refl, refl), λ p. (refl, refl, refl, refl));
    }
