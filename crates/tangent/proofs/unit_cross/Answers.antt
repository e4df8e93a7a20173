use mathlib.Core.Path.{◌≡◌, refl, sym}
use Rattle.sqrt.specs.Sqrt.{sqrt_of}
use Rattle.geometry.specs.declared.vector.Vector3D.{Vector3D}
use Rattle.geometry.specs.Vector.{dot_of, cross_of, square_magnitude_of, magnitude_of}
use Rattle.tangent.specs.Tangent.{unit_cross}
use Rattle.tangent.proofs.unit_cross.Goals as goal

-- a magnitude is the root of a vector's product with itself
root_of : (v : Vector3D) → magnitude_of v ≡ sqrt_of (dot_of v v)
unfolding dot_of square_magnitude_of magnitude_of
root_of v = refl

pub returns-then-parallel : goal.returns-then-parallel
unfolding unit_cross
returns-then-parallel c =
    let s = c.args in
    let t : cross_of s.na s.nb ≡ c.cross-t.result = sym c.cross-t.ensures in
    rw (t, ← c.magnitude-length.ensures, root_of s.na, root_of s.nb, ← c.dot.ensures, ← c.dot-2.ensures, ← c.parallel.ensures, c.if-parallel.true)

pub returns-else-parallel : goal.returns-else-parallel
unfolding unit_cross
returns-else-parallel c =
    let s = c.args in
    let t : cross_of s.na s.nb ≡ c.cross-t.result = sym c.cross-t.ensures in
    rw (t, ← c.magnitude-length.ensures, root_of s.na, root_of s.nb, ← c.dot.ensures, ← c.dot-2.ensures, ← c.parallel.ensures, c.if-parallel.false, ← c.mul.ensures)
