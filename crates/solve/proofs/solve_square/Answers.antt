-- Each column is one of the definition, which goes on or gives up.
use mathlib.Core.Path.{◌≡◌, sym, ap, ◌∙◌}
use mathlib.Core.List.{List}
use Prim.Native.Nat.{ℕ}
use lib.Ieee.{Float}
use Rattle.std.proofs.Common.{Ok, Err, rules}
use Rattle.loops.proofs.Loop.{searched_done}
use Rattle.solve.specs.declared.Singular.{Singular}
use Rattle.solve.specs.Solve.{Solved, system, solving, solve_of, SolvePromise}
use Rattle.solve.proofs.Laws.{starts}
use Rattle.solve.proofs.Columns.{promised}
use Rattle.solve.proofs.solve_square.Given.{Over}
use Rattle.solve.proofs.solve_square.Goals as goal
use Rattle.solve.proofs.solve_square.Goals.{In_ok-m, In_ok-m-2, In_ok-m-3, In_ok-m-4}

-- column col begins with these rows and this right side
abbrev Column : (n col : ℕ) → List (List Float) → List Float → Float → Float → List (List Float) → List Float → Type 0
Column n col a b tol scale m r = solving n tol scale col (system m r) ≡ solve_of n a b tol

-- the solver gives up at a column
gave_up : (n : ℕ) (a : List (List Float)) (b : List Float) (tol : Float) (e : Singular) {r s : Solved} → r ≡ Err e → s ≡ Err e → s ≡ solve_of n a b tol → SolvePromise n a b tol r
gave_up n a b tol e f k h = promised n a b tol (f ∙ sym k ∙ h)

column1 : {g : Over} (e : In_ok-m g) → Column g.row.N 1 e.args.a e.args.b e.args.tol e.sum_of_magnitudes-scale.result e.in_ok-m.m e.column.new.b
column1 {g} e = sym e.in_ok-m.ensures ∙ starts g.row.N e.args.a e.args.b e.args.tol e.sum_of_magnitudes-scale.ensures

column2 : {g : Over} (e : In_ok-m-2 g) → Column g.row.N 1 e.args.a e.args.b e.args.tol e.sum_of_magnitudes-scale.result e.in_ok-m.m e.column.new.b
    → Column g.row.N 2 e.args.a e.args.b e.args.tol e.sum_of_magnitudes-scale.result e.in_ok-m-2.m e.column-2.new.b
column2 e h = sym e.in_ok-m-2.ensures ∙ h

column3 : {g : Over} (e : In_ok-m-3 g) → Column g.row.N 2 e.args.a e.args.b e.args.tol e.sum_of_magnitudes-scale.result e.in_ok-m-2.m e.column-2.new.b
    → Column g.row.N 3 e.args.a e.args.b e.args.tol e.sum_of_magnitudes-scale.result e.in_ok-m-3.m e.column-3.new.b
column3 e h = sym e.in_ok-m-3.ensures ∙ h

column4 : {g : Over} (e : In_ok-m-4 g) → Column g.row.N 3 e.args.a e.args.b e.args.tol e.sum_of_magnitudes-scale.result e.in_ok-m-3.m e.column-3.new.b
    → Column g.row.N 4 e.args.a e.args.b e.args.tol e.sum_of_magnitudes-scale.result e.in_ok-m-4.m e.column-4.new.b
column4 e h = sym e.in_ok-m-4.ensures ∙ h

pub returns-in_err-m : goal.returns-in_err-m
returns-in_err-m g c =
    gave_up g.row.N c.args.a c.args.b c.args.tol c.in_err-m.field-0.0 (search rules) c.in_err-m.ensures (starts g.row.N c.args.a c.args.b c.args.tol c.sum_of_magnitudes-scale.ensures)

pub returns-in_err-m-2 : goal.returns-in_err-m-2
returns-in_err-m-2 g c =
    let at = goal.at.returns-in_err-m-2 g c in
    gave_up g.row.N c.args.a c.args.b c.args.tol c.in_err-m-2.field-0.0 (search rules) c.in_err-m-2.ensures (column1 at.In_ok-m)

pub returns-in_err-m-3 : goal.returns-in_err-m-3
returns-in_err-m-3 g c =
    let at = goal.at.returns-in_err-m-3 g c in
    gave_up g.row.N c.args.a c.args.b c.args.tol c.in_err-m-3.field-0.0 (search rules) c.in_err-m-3.ensures (column2 at.In_ok-m-2 (column1 at.In_ok-m))

pub returns-in_err-m-4 : goal.returns-in_err-m-4
returns-in_err-m-4 g c =
    let at = goal.at.returns-in_err-m-4 g c in
    gave_up g.row.N c.args.a c.args.b c.args.tol c.in_err-m-4.field-0.0 (search rules) c.in_err-m-4.ensures (column3 at.In_ok-m-3 (column2 at.In_ok-m-2 (column1 at.In_ok-m)))

pub loop-col-init : goal.loop-col-init
loop-col-init g c =
    let at = goal.at.loop-col-init g c in
    column4 at.In_ok-m-4 (column3 at.In_ok-m-3 (column2 at.In_ok-m-2 (column1 at.In_ok-m)))

pub returns-in_err-m-5 : goal.returns-in_err-m-5
returns-in_err-m-5 g c =
    gave_up g.row.N c.args.a c.args.b c.args.tol c.in_err-m-5.field-0.0 (search rules) c.in_err-m-5.ensures c.loop-col.invariant

pub returns : goal.returns
returns g c = promised _ _ _ _ (ap Ok c.back_substitution.ensures ∙ searched_done _ _ c.loop-col.col g.row.N c.loop-col-test.false c.loop-col.invariant)
