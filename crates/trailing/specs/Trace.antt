-- What finding a line leaves to be drawn.
use Rattle.std.specs.Prelude.{◌≡◌, ℕ, List, length, Result, Ok, Err}
use Rattle.bits.specs.Reads.{found, Reads}
use Rattle.outcome.specs.Outcome.{Outcome, refused, given}
use Rattle.outcome.specs.Why.{number}
use Rattle.outcome.specs.declared.refusal.Refused.{Refused}
use Rattle.format.specs.Line.{Line, line}
use Rattle.format.specs.declared.Scale.{Scale}
use Rattle.trail.specs.Trail.{trail}
use Rattle.trail_steps.specs.Elements.{elements, Ready}
use Rattle.trail_steps.specs.declared.CodeWalk.{CodeWalk}
use Rattle.trailing.specs.declared.FoundLine.{FoundLine}

-- ---- a walk draws the trail t

pub record Draws (x : CodeWalk) (t : List ℕ) : Type 0 where
  pub ready : Ready x
  pub is : elements x ≡ t

-- of the line at place p of the block s
pub record WalkFound (sc : Scale) (s : List ℕ) (p : ℕ) (x : CodeWalk) : Type 0 where
  pub is : (l : Line) (q : ℕ) → Reads (line sc.widths).dec s p (found l q) → Draws x (trail sc l)

-- ---- the line of a record, whose call has the outcome o

pub record Drawn (o : Outcome ℕ) (x : FoundLine) : Type 0 where
  pub value : List ℕ
  pub is : o ≡ given value
  pub draws : Draws x.walk value
  pub drawn : x.drawn ≡ length value

-- or it is refused
abbrev pub LineFound : Outcome ℕ → Result FoundLine Refused → Type 0
LineFound o (Ok x) = Drawn o x
LineFound o (Err r) = o ≡ refused (number r.why) r.place
