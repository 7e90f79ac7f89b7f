-- What a step of the walk along codes leaves.
use Rattle.std.specs.Prelude.{◌≡◌, ℕ, ◌*◌, ◌<◌, false, List, [], ◌∷◌, ◌++◌, Option, Some, None}
use Rattle.trail.specs.Trail.{follow}
use Rattle.trail_steps.specs.declared.Pen.{Pen}

-- "Each line starts at level 0."
abbrev pub start_at : ℕ → Pen
start_at heading = record { heading = heading; high = false }

-- what is drawn, as a part of the trail
abbrev pub drawn_by : Option ℕ → List ℕ
drawn_by None = []
drawn_by (Some x) = x ∷ []

-- The pen was p before the code, and q is it afterwards: whatever codes follow, the trail is what the step draws and the trail from there.
pub record StepDraws (half k : ℕ) (p : Pen) (code : ℕ) (q : Pen) (drawn : Option ℕ) : Type 0 where
  pub is : (codes : List ℕ) → follow half k p.high p.heading (code ∷ codes) ≡ drawn_by drawn ++ follow half k q.high q.heading codes
  pub heading : q.heading < 2 * half
