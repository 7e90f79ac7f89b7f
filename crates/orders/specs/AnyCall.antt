-- Sequences in which a call may be one for a list of pairs. Such a sequence says the same as the single orders in its place: an
-- accepted list is its orders, and a refused one is none.
use Rattle.std.specs.Prelude.{◌≡◌, ◌≢◌, ℕ, List, [], ◌∷◌, ◌++◌, length}
use Rattle.outcome.specs.Outcome.{Outcome, refused, given, room, number_of}
use Rattle.orders.specs.Order.{order}
use Rattle.orders.specs.History.{Call, outcome, now_holds, run}
use Rattle.orders.specs.Pairs.{PairsCall, singly, pairs}

-- a call for one order, or for a list of pairs
pub data AnyCall : Type 0 where
  one : Call → AnyCall
  list : PairsCall → AnyCall

-- what it gives where there is room enough
abbrev pub asked : AnyCall → List ℕ → Outcome ℕ
asked (one c) bytes = order c.order bytes
asked (list m) bytes = pairs m bytes

-- the length of the second buffer
abbrev pub lent_for : AnyCall → ℕ
lent_for (one c) = c.lent
lent_for (list m) = m.lent

unfoldable pub outcome_of : AnyCall → List ℕ → Outcome ℕ
outcome_of q bytes = room (lent_for q) (asked q bytes)

abbrev pub run_any : List AnyCall → List ℕ → List ℕ
run_any [] bytes = bytes
run_any (q ∷ qs) bytes = run_any qs (now_holds bytes (outcome_of q bytes))

-- ---- the same, singly

-- these orders where the list was accepted
abbrev pub if_given : Outcome ℕ → List Call → List Call
if_given (refused e p) cs = []
if_given (given new) cs = cs

abbrev pub orders_of : AnyCall → List ℕ → List Call
orders_of (one c) bytes = c ∷ []
orders_of (list m) bytes = if_given (pairs m bytes) (singly m)

abbrev pub singles : List AnyCall → List ℕ → List Call
singles [] bytes = []
singles (q ∷ qs) bytes = orders_of q bytes ++ singles qs (now_holds bytes (outcome_of q bytes))

-- ---- which of the calls are accepted

-- each is, on the record that those before it left; gives is the outcome of one
abbrev pub AllGiven : {C : Type 0} → (C → List ℕ → Outcome ℕ) → List C → List ℕ → Type 0
AllGiven gives [] bytes = Unit {0}
AllGiven gives (c ∷ cs) bytes = (number_of (gives c bytes) ≡ 0) × AllGiven gives cs (now_holds bytes (gives c bytes))

-- of single orders
abbrev pub AllTaken : List Call → List ℕ → Type 0
AllTaken cs bytes = AllGiven outcome cs bytes

-- of calls for an order or for a list of pairs
abbrev pub AllAccepted : List AnyCall → List ℕ → Type 0
AllAccepted qs bytes = AllGiven outcome_of qs bytes

-- the order at this place is the first that is not, and is refused with this number
pub record Stopped (cs : List Call) (bytes : List ℕ) (number place : ℕ) : Type 0 where
  pub front : List Call
  pub call : Call
  pub behind : List Call
  pub is : cs ≡ front ++ call ∷ behind
  pub at : place ≡ length front
  pub taken : AllTaken front bytes
  pub refuses : number_of (outcome call (run front bytes)) ≡ number
  pub some : number ≢ 0
