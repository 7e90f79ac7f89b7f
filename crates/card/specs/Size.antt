-- The card's sizes: "Both sizes (0 normal, 1 compact) are wanted". What clauses 8.1 and 8.2 fix for each is what a record has in its bytes 15
-- to 21; all else goes by these values, so that nothing is said for one size alone.
use Rattle.std.specs.Prelude.{ℕ, zero, suc, Bool, [], ◌∷◌, eqb}
use Rattle.std.proofs.Math.Option.{Option, none, some}
use Rattle.bits.specs.Lists.{all_true}
use Rattle.outcome.specs.Refusals.{bad_object}
use Rattle.outcome.specs.Outcome.{Outcome, refused}
use Rattle.format.specs.declared.Scale.{Scale}

-- clause 8.1
abbrev pub normal : Scale
normal = record { points = 200; widths = record { c = 11; b = 8; k = 4 }; step = 24; ratio = 60; half = 32 }

-- clause 8.2
abbrev pub compact : Scale
compact = record { points = 100; widths = record { c = 8; b = 6; k = 4 }; step = 16; ratio = 60; half = 32 }

abbrev pub scale_of : ℕ → Option Scale
scale_of zero = some normal
scale_of (suc zero) = some compact
scale_of (suc (suc n)) = none

-- "28, record points per cm, widths, steps or N not the size's" where it is not so
abbrev pub same_scale : Scale → Scale → Bool
same_scale s t =
    all_true
    (eqb s.points t.points ∷ eqb s.widths.c t.widths.c ∷ eqb s.widths.b t.widths.b ∷ eqb s.widths.k t.widths.k
    ∷ eqb s.step t.step ∷ eqb s.ratio t.ratio ∷ eqb s.half t.half ∷ [])

-- "27, size number (before all others)"
abbrev pub in_size : {A : Type 0} → Option Scale → (Scale → Outcome A) → Outcome A
in_size none f = refused bad_object 0
in_size (some scale) f = f scale
