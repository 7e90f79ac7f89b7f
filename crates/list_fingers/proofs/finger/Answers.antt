-- The code's table is the one of the definitions by computation, and one test over the whole table says that each length fits.
use borrow.Author.Rules.{rules}
use mathlib.Core.Path.{refl}
use mathlib.Core.Bool.{Bool}
use lib.Dec.{T, leb, leb→le}
use Rattle.bits.specs.ListsLaws.{yes_every, all_at}
use Rattle.list_fingers.specs.declared.Name.{Name}
use Rattle.list_fingers.specs.Fingers.{fingers, finger_of, no_name}
use Rattle.list_fingers.proofs.finger.Goals as goal

abbrev short : Name → Bool
short x = leb x.len 12

pub returns : goal.returns
returns c =
    let p = c.args.position in
    record { whole = refl; fits = leb→le (finger_of p).len 12 (all_at (λ x. T (short x)) no_name fingers p (search rules) (yes_every short fingers tt)) }
