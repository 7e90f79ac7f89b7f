-- The record that now holds, as a caller finds it from the answer, is the one that a sequence goes on with. "The second buffer's
-- first bytes if the number is 0 and the length fits it, else the whole old record": no refusal has the number 0.
use mathlib.Core.Path.{◌≡◌, ◌∙◌, subst}
use mathlib.Core.Logic.{◌≢◌}
use Prim.Native.Nat.{ℕ, ◌≤◌}
use native.Mathlib.Omega.{arith}
use mathlib.Core.List.{List, ◌++◌}
use lib.ListN.{length, drop, length-append}
use lib.Dec.{leb, le→leb}
use lib.Seq.{take-append_seam}
use Rattle.bits.specs.ChoiceLaws.{pick_yes, eqb_false}
use Rattle.outcome.specs.Outcome.{Outcome, refused, given, number_of, length_of, laid}
use Rattle.outcome.proofs.Refusing.{Refused}
use Rattle.outcome.proofs.Numbers.{RefusedBy}
use Rattle.orders.specs.Order.{Order, order, holds}
use Rattle.orders.specs.History.{now_holds}
use Rattle.orders.proofs.Laws.Numbers.{numbers_of, number_there, order_by}

-- no refusal has the number 0
pub order_told : (o : Order) (bytes : List ℕ) (e p : ℕ) → order o bytes ≡ refused e p → e ≢ 0
order_told o bytes e p q = number_there o.act e (subst (RefusedBy (numbers_of o.act)) q (order_by o bytes))

-- second: what the second buffer held before the call
pub laid_holds : (bytes second : List ℕ) (o : Outcome ℕ) → Refused (λ e p. e ≢ 0) o
    → holds bytes (laid second o) (number_of o) (length_of o) ≡ now_holds bytes o
unfolding holds
laid_holds bytes second (refused e p) h = rw (eqb_false e 0 h)
laid_holds bytes second (given xs) h =
    let l : length xs ≤ length (xs ++ drop (length xs) second) = simp length-append (omega arith) in
    pick_yes (leb (length xs) (length (xs ++ drop (length xs) second))) _ _ (le→leb (length xs) _ l)
    ∙ take-append_seam xs (drop (length xs) second)
