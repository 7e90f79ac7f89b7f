-- Orders given one after another, each to the record that the one before left: all are accepted, and what holds at the end is given;
-- or one is the first that is refused, and gives its number and its place among them. What is given fits the room that each is lent.
use mathlib.Core.Path.{◌≡◌, refl, sym, ap, ◌∙◌}
use mathlib.Core.Logic.{◌≢◌}
use Prim.Native.Nat.{ℕ, suc, ◌+◌}
use native.Mathlib.Omega.{arith}
use mathlib.Core.List.{List, [], ◌∷◌, ◌++◌, map}
use lib.ListN.{length}
use lib.Dec.{T}
use Rattle.bits.specs.Codec.{got}
use Rattle.outcome.specs.Numbers.{among}
use Rattle.outcome.specs.Outcome.{refused, given, room}
use Rattle.outcome.proofs.Laws.{room_again}
use Rattle.outcome.proofs.Refusing.{refused_case}
use Rattle.format.specs.Record.{Record, read}
use Rattle.format.specs.declared.ViewName.{ViewName}
use Rattle.orders.specs.Act.{Word}
use Rattle.orders.specs.Order.{order}
use Rattle.orders.specs.History.{Call, outcome, run}
use Rattle.orders.specs.Pairs.{word_call, in_turn}
use Rattle.orders.specs.AnyCall.{AllTaken, Stopped}
use Rattle.orders.proofs.Laws.Numbers.{numbers_of, number_there, outcome_by}
use Rattle.orders.proofs.Laws.Sequence.{outcome_split}

-- ---- one order

-- it gives something or is refused, and no refusal has the number 0
outcome_case : {X : Type 0} (c : Call) (bytes : List ℕ) → ((new : List ℕ) → outcome c bytes ≡ given new → X)
    → ((e p : ℕ) → e ≢ 0 → outcome c bytes ≡ refused e p → X) → X
outcome_case c bytes f g =
    refused_case (λ e p. T (among (numbers_of c.order.act) e)) (outcome c bytes) (outcome_by c bytes)
    (λ e p d t. g e p (number_there c.order.act e t) d) f

-- by itself, on a record, it has the outcome that it has in a list of one
pub turn_one : (c : Call) (bytes : List ℕ) (r : Record) → read bytes ≡ got r [] → in_turn 0 (c ∷ []) bytes ≡ outcome c bytes
turn_one c bytes r q = outcome_split c bytes r q (λ i a d. rw d) (λ e n d. rw d)

-- ---- one after another

-- all are accepted
pub taken_turn : (i : ℕ) (cs : List Call) (bytes : List ℕ) → AllTaken cs bytes → in_turn i cs bytes ≡ given (run cs bytes)
taken_turn i [] bytes h = refl
taken_turn i (c ∷ cs) bytes h =
    outcome_case c bytes (λ new d. rw d (taken_turn (suc i) cs new (rw d at h.1)))
    (λ e p n d. absurd (n (sym (rw d) ∙ h.0)))

-- those in front are accepted, and the next is not
pub refused_turn : (i : ℕ) (front : List Call) (c : Call) (behind : List Call) (bytes : List ℕ) (e p : ℕ) → AllTaken front bytes
    → outcome c (run front bytes) ≡ refused e p → in_turn i (front ++ c ∷ behind) bytes ≡ refused e (i + length front)
refused_turn i [] c behind bytes e p h d = let z : i ≡ i + 0 = omega arith in rw d (ap (refused e) z)
refused_turn i (f ∷ front) c behind bytes e p h d =
    outcome_case f bytes
    (λ new q. let z : suc i + length front ≡ i + suc (length front) = omega arith in
    rw (q, ← z) (refused_turn (suc i) front c behind new e p (rw q at h.1) (rw q at d)))
    (λ n m k q. absurd (k (sym (rw q) ∙ h.0)))

pub stopped_turn : (i : ℕ) (cs : List Call) (bytes : List ℕ) (e p : ℕ) → Stopped cs bytes e p → in_turn i cs bytes ≡ refused e (i + p)
stopped_turn i cs bytes e p s =
    outcome_case s.call (run s.front bytes) (λ new d. absurd (s.some (sym s.refuses ∙ rw d)))
    (λ n k j d. let y : n ≡ e = sym (rw d) ∙ s.refuses in
    rw (s.is, s.at, ← y) (refused_turn i s.front s.call s.behind bytes n k s.taken d))

-- no other way
pub turn_case : {X : Type 0} (i : ℕ) (cs : List Call) (bytes : List ℕ)
    → (AllTaken cs bytes → in_turn i cs bytes ≡ given (run cs bytes) → X)
    → ((e p : ℕ) → Stopped cs bytes e p → in_turn i cs bytes ≡ refused e (i + p) → X) → X
turn_case i [] bytes f g = f tt refl
turn_case i (c ∷ cs) bytes f g =
    outcome_case c bytes
    (λ new d. turn_case (suc i) cs new (λ h e. f (rw d, rw d h) (rw d e))
    (λ e p s k. let z : suc i + p ≡ i + suc p = omega arith in
    g e (suc p) (record {
      front = c ∷ s.front;
      call = s.call;
      behind = s.behind;
      is = ap (λ (l : List Call). c ∷ l) s.is;
      at = ap suc s.at;
      taken = (rw d, rw d s.taken);
      refuses = rw d s.refuses;
      some = s.some;
    }) (rw (d, ← z) k)))
    (λ e p n d. let z : i ≡ i + 0 = omega arith in
    g e 0 (record { front = []; call = c; behind = cs; is = refl; at = refl; taken = tt; refuses = rw d; some = n })
    (rw d (ap (refused e) z)))

-- ---- the room

-- what an order gives fits the room that it is lent
given_fits : (c : Call) (bytes new : List ℕ) → outcome c bytes ≡ given new → room c.lent (given new) ≡ given new
unfolding outcome
given_fits c bytes new d = ap (room c.lent) (sym d) ∙ room_again c.lent (order c.order bytes) ∙ d

-- so of a list that has an order
pub turn_room : (view : ViewName) (count lent i : ℕ) (w : Word) (ws : List Word) (bytes : List ℕ)
    → room lent (in_turn i (map (word_call view count lent) (w ∷ ws)) bytes) ≡ in_turn i (map (word_call view count lent) (w ∷ ws)) bytes
turn_room view count lent i w [] bytes =
    outcome_case (word_call view count lent w) bytes (λ new d. rw d (given_fits (word_call view count lent w) bytes new d))
    (λ e p n d. rw d)
turn_room view count lent i w (x ∷ ws) bytes =
    outcome_case (word_call view count lent w) bytes (λ new d. rw d (turn_room view count lent (suc i) x ws new)) (λ e p n d. rw d)
