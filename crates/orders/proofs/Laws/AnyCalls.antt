-- Sequences in which a call may be one for a list of pairs: what holds at the end is what the single orders in its place leave, so
-- that the theorem on sequences of orders covers them. And a removal that was accepted is refused when it comes again.
use mathlib.Core.Path.{◌≡◌, refl, sym, ap, ◌∙◌}
use mathlib.Core.Logic.{◌≢◌}
use Prim.Native.Nat.{ℕ}
use mathlib.Core.List.{List, [], ◌∷◌, ◌++◌}
use lib.Dec.{T}
use Rattle.bits.specs.Lists.{All}
use Rattle.bits.specs.Bytes.{Byte}
use Rattle.bits.specs.Codec.{got}
use Rattle.outcome.specs.Refusals.{other_count}
use Rattle.outcome.specs.Numbers.{among, pairs_numbers}
use Rattle.outcome.specs.Outcome.{Outcome, refused, given, number_of, length_of, laid}
use Rattle.outcome.proofs.Refusing.{Refused, refused_map}
use Rattle.outcome.proofs.Numbers.{not_zero}
use Rattle.format.specs.Record.{Record, read}
use Rattle.orders.specs.Act.{remove}
use Rattle.orders.specs.Order.{holds}
use Rattle.orders.specs.History.{Call, outcome, now_holds, run}
use Rattle.orders.specs.Pairs.{PairsCall, singly, pairs}
use Rattle.orders.specs.AnyCall.{AnyCall, one, list, outcome_of, run_any, if_given, orders_of, singles}
use Rattle.orders.specs.Kept.{Kept}
use Rattle.orders.proofs.Laws.Numbers.{numbers_of, number_there, outcome_by}
use Rattle.orders.proofs.Laws.Holds.{laid_holds}
use Rattle.orders.proofs.Laws.Sequence.{run_append, orders_follow}
use Rattle.orders.proofs.Laws.Sequence as SequenceLaws
use Rattle.orders.proofs.Laws.PairsNumbers.{pairs_room, pairs_by}
use Rattle.orders.proofs.Laws.Singly.{pairs_given}

-- ---- one call

pub one_outcome : (c : Call) (bytes : List ℕ) → outcome_of (one c) bytes ≡ outcome c bytes
unfolding outcome outcome_of
one_outcome c bytes = refl

-- a list of pairs has been held against the room
pub list_outcome : (m : PairsCall) (bytes : List ℕ) → outcome_of (list m) bytes ≡ pairs m bytes
unfolding outcome_of
list_outcome m bytes = pairs_room m bytes

-- no refusal has the number 0
pub any_told : (q : AnyCall) (bytes : List ℕ) → Refused (λ e p. e ≢ 0) (outcome_of q bytes)
any_told (one c) bytes =
    rw (one_outcome c bytes)
    (refused_map (λ e p. T (among (numbers_of c.order.act) e)) (λ e p. e ≢ 0) (λ e p. number_there c.order.act e)
    (outcome c bytes) (outcome_by c bytes))
any_told (list m) bytes =
    rw (list_outcome m bytes)
    (refused_map (λ e p. T (among pairs_numbers e)) (λ e p. e ≢ 0) (λ e p. not_zero pairs_numbers tt e)
    (pairs m bytes) (pairs_by m bytes))

-- a refused call changes nothing
pub refused_stays : (q : AnyCall) (bytes : List ℕ) → number_of (outcome_of q bytes) ≢ 0 → now_holds bytes (outcome_of q bytes) ≡ bytes
refused_stays q bytes n = go (outcome_of q bytes) n
  where
    go : (o : Outcome ℕ) → number_of o ≢ 0 → now_holds bytes o ≡ bytes
    go (refused e p) n = refl
    go (given new) n = absurd (n refl)

-- second: what the second buffer held before the call
pub holds_now : (q : AnyCall) (bytes second : List ℕ)
    → holds bytes (laid second (outcome_of q bytes)) (number_of (outcome_of q bytes)) (length_of (outcome_of q bytes))
    ≡ now_holds bytes (outcome_of q bytes)
holds_now q bytes second = laid_holds bytes second (outcome_of q bytes) (any_told q bytes)

-- ---- a sequence, and its single orders

one_run : (q : AnyCall) (bytes : List ℕ) → run (orders_of q bytes) bytes ≡ now_holds bytes (outcome_of q bytes)
one_run (one c) bytes = ap (now_holds bytes) (sym (one_outcome c bytes))
one_run (list m) bytes = go (pairs m bytes) refl ∙ ap (now_holds bytes) (sym (list_outcome m bytes))
  where
    go : (o : Outcome ℕ) → pairs m bytes ≡ o → run (if_given o (singly m)) bytes ≡ now_holds bytes o
    go (refused e p) d = refl
    go (given new) d = (pairs_given m bytes new d).2

pub any_run : (qs : List AnyCall) (bytes : List ℕ) → run_any qs bytes ≡ run (singles qs bytes) bytes
any_run [] bytes = refl
any_run (q ∷ qs) bytes =
    let now : List ℕ = now_holds bytes (outcome_of q bytes) in
    any_run qs now ∙ ap (run (singles qs now)) (sym (one_run q bytes)) ∙ sym (run_append (orders_of q bytes) (singles qs now) bytes)

pub any_follow : (qs : List AnyCall) (bytes : List ℕ) (r : Record) → All Byte bytes → read bytes ≡ got r []
    → Kept (singles qs bytes) r bytes (run_any qs bytes)
any_follow qs bytes r f e = rw (any_run qs bytes) (orders_follow (singles qs bytes) bytes r f e)

-- ---- a removal comes only once

any_append : (before after : List AnyCall) (bytes : List ℕ) → run_any (before ++ after) bytes ≡ run_any after (run_any before bytes)
any_append [] after bytes = refl
any_append (q ∷ before) after bytes = any_append before after (now_holds bytes (outcome_of q bytes))

pub removal_again : (before : List AnyCall) (c : Call) (after : List AnyCall) (rs bytes : List ℕ) (r : Record) → All Byte bytes
    → read bytes ≡ got r [] → c.order.act ≡ remove rs → number_of (outcome_of (one c) (run_any before bytes)) ≡ 0
    → (n : ℕ) → outcome_of (one (record { order = c.order; lent = n })) (run_any (before ++ one c ∷ after) bytes) ≡ refused other_count 0
removal_again before c after rs bytes r f p e z n =
    let now : List ℕ = run_any before bytes in
    let new : List ℕ = now_holds now (outcome c now) in
    let cs : List Call = singles before bytes in
    let ds : List Call = singles after new in
    let k : run_any (before ++ one c ∷ after) bytes ≡ run (cs ++ c ∷ ds) bytes =
    any_append before (one c ∷ after) bytes ∙ ap (λ (o : Outcome ℕ). run_any after (now_holds now o)) (one_outcome c now)
    ∙ any_run after new ∙ ap (run (c ∷ ds)) (any_run before bytes) ∙ sym (run_append cs (c ∷ ds) bytes) in
    let y : number_of (outcome c (run cs bytes)) ≡ 0 = rw (one_outcome c now, any_run before bytes) at z in
    one_outcome (record { order = c.order; lent = n }) (run_any (before ++ one c ∷ after) bytes)
    ∙ ap (outcome (record { order = c.order; lent = n })) k ∙ SequenceLaws.removal_again cs c ds rs bytes r f p e y n
