use mathlib.Core.Path.{sym, ap, ◌∙◌}
use Rattle.refusal.specs.Refusal.{numbers_of}
use Rattle.refusal.proofs.Refusal.numbers.Goals as goal

pub returns-in-Number : goal.returns-in-Number
returns-in-Number c = c.alone.ensures ∙ ap numbers_of (sym c.in-Number.is)

pub returns-in-Size : goal.returns-in-Size
returns-in-Size c = c.alone-in-Size.ensures ∙ ap numbers_of (sym c.in-Size.is)

pub returns-in-Window : goal.returns-in-Window
returns-in-Window c = c.alone-in-Window.ensures ∙ ap numbers_of (sym c.in-Window.is)

pub returns-in-TurnMark : goal.returns-in-TurnMark
returns-in-TurnMark c = c.alone-in-TurnMark.ensures ∙ ap numbers_of (sym c.in-TurnMark.is)

pub returns-in-Tolerance : goal.returns-in-Tolerance
returns-in-Tolerance c = c.alone-in-Tolerance.ensures ∙ ap numbers_of (sym c.in-Tolerance.is)

pub returns-in-Parameter : goal.returns-in-Parameter
returns-in-Parameter c = c.alone-in-Parameter.ensures ∙ ap numbers_of (sym c.in-Parameter.is)

pub returns-in-StepCap : goal.returns-in-StepCap
returns-in-StepCap c = c.alone-in-StepCap.ensures ∙ ap numbers_of (sym c.in-StepCap.is)

pub returns-in-Lent : goal.returns-in-Lent
returns-in-Lent c = c.alone-in-Lent.ensures ∙ ap numbers_of (sym c.in-Lent.is)

pub returns-in-NoMeeting : goal.returns-in-NoMeeting
returns-in-NoMeeting c = c.in_round.ensures ∙ ap numbers_of (sym c.in-NoMeeting.is)

pub returns-in-Singular : goal.returns-in-Singular
returns-in-Singular c = c.in_column.ensures ∙ ap numbers_of (sym c.in-Singular.is)

pub returns-in-NoDirection : goal.returns-in-NoDirection
returns-in-NoDirection c = c.alone-in-NoDirection.ensures ∙ ap numbers_of (sym c.in-NoDirection.is)

pub returns-in-TooShort : goal.returns-in-TooShort
returns-in-TooShort c = c.alone-in-TooShort.ensures ∙ ap numbers_of (sym c.in-TooShort.is)

pub returns-in-Claim : goal.returns-in-Claim
returns-in-Claim c = c.alone-in-Claim.ensures ∙ ap numbers_of (sym c.in-Claim.is)

pub returns-in-NotOwnPoint : goal.returns-in-NotOwnPoint
returns-in-NotOwnPoint c = c.of_point.ensures ∙ ap numbers_of (sym c.in-NotOwnPoint.is)

pub returns-in-OutsideWindow : goal.returns-in-OutsideWindow
returns-in-OutsideWindow c = c.of_point-in-OutsideWindow.ensures ∙ ap numbers_of (sym c.in-OutsideWindow.is)

pub returns-in-Gap : goal.returns-in-Gap
returns-in-Gap c = c.of_point-in-Gap.ensures ∙ ap numbers_of (sym c.in-Gap.is)

pub returns-in-Chord : goal.returns-in-Chord
returns-in-Chord c = c.of_point-in-Chord.ensures ∙ ap numbers_of (sym c.in-Chord.is)

pub returns-in-BoxNumber : goal.returns-in-BoxNumber
returns-in-BoxNumber c = c.alone-in-BoxNumber.ensures ∙ ap numbers_of (sym c.in-BoxNumber.is)

pub returns-in-Coordinate : goal.returns-in-Coordinate
returns-in-Coordinate c = c.alone-in-Coordinate.ensures ∙ ap numbers_of (sym c.in-Coordinate.is)

pub returns-in-JobFile : goal.returns-in-JobFile
returns-in-JobFile c = c.alone-in-JobFile.ensures ∙ ap numbers_of (sym c.in-JobFile.is)

pub returns-in-TraceFile : goal.returns-in-TraceFile
returns-in-TraceFile c = c.alone-in-TraceFile.ensures ∙ ap numbers_of (sym c.in-TraceFile.is)
