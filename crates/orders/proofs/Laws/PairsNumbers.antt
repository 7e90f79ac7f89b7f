-- Every refusal of a call for a list of pairs: the record's, at its place in the record; 13, 14, 17 or 25, without a place; or an
-- order's, 15, 18, 19 or 20, with its place in the list. So the call's numbers and places, and when it gives 25.
use mathlib.Core.Path.{◌≡◌, sym, ap, ◌∙◌}
use mathlib.Core.Logic.{◌≢◌}
use Prim.Native.Nat.{ℕ, suc, ◌+◌, ◌-◌, ◌*◌, ◌≤◌, ◌<◌}
use native.Mathlib.Omega.{arith}
use mathlib.Core.Bool.{Bool, true, false, not}
use mathlib.Core.List.{List, [], ◌∷◌, map}
use lib.ListN.{length, drop}
use lib.Dec.{T, ltb, eqb, eqb→eq}
use mir.Facts.{eqb_no, yes_ltb}
use Rattle.bits.specs.Choice.{within}
use Rattle.bits.specs.ChoiceLaws.{pick_case, T_true, split, within_low, within_high, within_yes}
use Rattle.bits.specs.Codec as C
use Rattle.outcome.specs.Refusals.{no_view, other_count, bad_lines, no_index, already_so, too_long, no_room, bad_pairs}
use Rattle.outcome.specs.Numbers.{among, Gives, pairs_numbers}
use Rattle.outcome.specs.Placed.{PlacedInList}
use Rattle.outcome.specs.Outcome.{given, room, number_of, Answers}
use Rattle.outcome.specs.declared.Answer.{Answer}
use Rattle.outcome.proofs.Refusing.{Refused, refused_case, refused_map, refused_shown, room_refused}
use Rattle.outcome.proofs.Numbers.{RefusedBy, among_first, answer_number}
use Rattle.format.specs.Record.{Record, read, write, Allowed}
use Rattle.format.proofs.Laws.Refuses.{read_refuses}
use Rattle.format.proofs.Laws.Finger.{Other, SaysNone, refused_unnamed}
use Rattle.format.proofs.Laws.Record.{read_there, read_is}
use Rattle.format.specs.Places.{view_at}
use Rattle.format.specs.Named.{Means}
use Rattle.format.specs.declared.ViewName.{ViewName}
use Rattle.orders.specs.Act.{Word}
use Rattle.orders.specs.Order.{Order, edited, verdict, ordered}
use Rattle.orders.specs.Listed.{words, shape_ok}
use Rattle.orders.specs.Called.{word_order}
use Rattle.orders.specs.History.{outcome}
use Rattle.orders.specs.Accept.{ReadyView, BrokenPairs}
use Rattle.orders.specs.Pairs.{PairsCall, pairs_call, word_call, singly, in_turn, pairs_tests, pairs_verdict, pairs_on, pairs}
use Rattle.orders.proofs.Laws.Numbers.{first_of}
use Rattle.orders.proofs.Laws.Keep.{order_keeps}
use Rattle.orders.proofs.Laws.Sequence.{outcome_is, outcome_split}
use Rattle.orders.proofs.Laws.Turn.{turn_room}
use Rattle.orders.proofs.Laws.Pairs.{words_some, word_tests, verdict_word, ready_next, unread, pairs_view, pairs_no_view, pairs_count, pairs_index, pairs_shape, pairs_turn, ready, given_turn, pairs_ways}

-- ---- what a refusal is of

-- of the view, before any order
pub data OfView : ℕ → Type 0 where
  of_view : OfView no_view
  of_count : OfView other_count
  of_index : OfView no_index

-- of an order, on a view that has the count and an index
pub data OfOrder : ℕ → Type 0 where
  of_lines : OfOrder bad_lines
  of_pair : OfOrder already_so
  of_size : OfOrder too_long
  of_room : OfOrder no_room

view_all : (P : ℕ → Type 0) → P no_view → P other_count → P no_index → {e : ℕ} → OfView e → P e
view_all P a b c of_view = a
view_all P a b c of_count = b
view_all P a b c of_index = c

order_all : (P : ℕ → Type 0) → P bad_lines → P already_so → P too_long → P no_room → {e : ℕ} → OfOrder e → P e
order_all P a b c d of_lines = a
order_all P a b c d of_pair = b
order_all P a b c d of_size = c
order_all P a b c d of_room = d

-- of the call
pub data PairsRefusal (m : PairsCall) (bytes : List ℕ) : ℕ → ℕ → Type 0 where
  by_record : {e left : ℕ} → read bytes ≡ C.refused e left → PairsRefusal m bytes e (8 * length bytes - left)
  by_view : {e : ℕ} → OfView e → PairsRefusal m bytes e 0
  by_list : BrokenPairs m.view m.count m.list bytes → PairsRefusal m bytes bad_pairs 0
  by_order : {e p : ℕ} → OfOrder e → p < length (words m.list) → PairsRefusal m bytes e p

-- ---- the orders in turn

module _ (view : ViewName) (n lent : ℕ) where
  -- one of them
  word_refused : (w : Word) (bytes : List ℕ) (r : Record) → read bytes ≡ C.got r [] → ReadyView view n r
      → Refused (λ e p. OfOrder e) (outcome (word_call view n lent w) bytes)
  word_refused w bytes r q y =
      let o : Order = word_order view n w in
      rw (outcome_is (word_call view n lent w) bytes r q y.means)
      (room_refused (λ e p. OfOrder e) of_room lent (ordered o y.place r)
      (pick_case (Refused (λ e p. OfOrder e)) (eqb (verdict o y.place r) 0) _ _ (λ t. tt)
      (λ t. let d = verdict_word view n w r y in
      rw d (first_of OfOrder (word_tests y.place w r) (of_lines, (of_pair, (of_size, tt))) (λ z. eqb_no t (d ∙ z))))))

  -- the first has place i, and the places end below `orders`
  pub turn_refusal : (orders i : ℕ) (ws : List Word) (bytes : List ℕ) (r : Record) → i + length ws ≤ orders → Allowed r
      → read bytes ≡ C.got r [] → ReadyView view n r
      → Refused (λ e p. OfOrder e × (p < orders)) (in_turn i (map (word_call view n lent) ws) bytes)
  turn_refusal orders i [] bytes r l a q y = tt
  turn_refusal orders i (w ∷ ws) bytes r l a q y =
      let o : Order = word_order view n w in
      outcome_split (word_call view n lent w) bytes r q
      (λ j b d. let x : Record = edited j o.act r in
      let k : Allowed x = order_keeps o j r a b in
      rw d
      (turn_refusal orders (suc i) ws (write x) x (omega arith) k (read_there x k)
      (ready_next view n w r y b.means)))
      (λ e z d. rw d (rw d at (word_refused w bytes r q y), omega arith))

-- ---- the call

module _ (m : PairsCall) (bytes : List ℕ) where
  in_turn_lem : (r : Record) → read bytes ≡ C.got r [] → ReadyView m.view m.count r
      → Refused (PairsRefusal m bytes) (in_turn 0 (singly m) bytes)
  in_turn_lem r q y =
      let n : ℕ = length (words m.list) in
      refused_map (λ e p. OfOrder e × (p < n)) (PairsRefusal m bytes) (λ e p h. by_order h.0 h.1) (in_turn 0 (singly m) bytes)
      (turn_refusal m.view m.count m.lent n 0 (words m.list) bytes r (omega arith) (read_is bytes r [] q).0 q y)

  pub pairs_refusal : Refused (PairsRefusal m bytes) (pairs m bytes)
  pairs_refusal =
      pairs_ways m bytes (λ e left q. rw (pairs_view m bytes (λ f. unread m.view f bytes q)) (by_record q))
      (λ r q l. rw (pairs_no_view m bytes q l) (by_view of_view))
      (λ r i q l n. rw (pairs_count m bytes q l n) (by_view of_count))
      (λ r i q l c t. rw (pairs_index m bytes q l c t) (by_view of_index))
      (λ r q y. pick_case (λ (b : Bool). Refused (PairsRefusal m bytes) (pairs m bytes)) (shape_ok m.list) true false
      (λ s. rw (pairs_turn m bytes q y.means y.count y.indexed s) (in_turn_lem r q y))
      (λ s. rw (pairs_shape m bytes q y.means y.count y.indexed s)
      (by_list (record { value = r; reads = q; ready = y; shape = s }))))

  -- it has been held against the room
  pub pairs_room : room m.lent (pairs m bytes) ≡ pairs m bytes
  pairs_room =
      refused_case (PairsRefusal m bytes) (pairs m bytes) pairs_refusal (λ e p d h. rw d)
      (λ new d. rw d
      (given_turn m bytes new d λ r q y s h.
      words_some m.list s λ w ws z.
      let k : in_turn 0 (map (word_call m.view m.count m.lent) (w ∷ ws)) bytes ≡ given new =
      ap (λ (us : List Word). in_turn 0 (map (word_call m.view m.count m.lent) us) bytes) (sym z) ∙ h in
      ap (room m.lent) (sym k) ∙ turn_room m.view m.count m.lent 0 w ws bytes ∙ k))

-- ---- numbers

by_numbers : (m : PairsCall) (bytes : List ℕ) (e p : ℕ) → PairsRefusal m bytes e p → T (among pairs_numbers e)
by_numbers m bytes e p (by_record {left = left} q) =
    let (t, _, _) = read_refuses bytes e left q in
    among_first 1 15 (drop 1 pairs_numbers) e (within_low 1 12 e t) (omega (arith, within_high 1 12 e t))
by_numbers m bytes e p (by_view h) = view_all (λ n. T (among pairs_numbers n)) tt tt tt h
by_numbers m bytes e p (by_list k) = tt
by_numbers m bytes e p (by_order h l) = order_all (λ n. T (among pairs_numbers n)) tt tt tt tt h

pub pairs_by : (m : PairsCall) (bytes : List ℕ) → RefusedBy pairs_numbers (pairs m bytes)
pairs_by m bytes =
    refused_map (PairsRefusal m bytes) (λ e p. T (among pairs_numbers e)) (by_numbers m bytes) (pairs m bytes) (pairs_refusal m bytes)

-- on a record none is 2 to 12
pub pairs_own : (m : PairsCall) (bytes : List ℕ) (r : Record) → read bytes ≡ C.got r []
    → Refused (λ e p. T (not (within 2 12 e))) (pairs m bytes)
pairs_own m bytes r q = refused_map (PairsRefusal m bytes) (λ e p. T (not (within 2 12 e))) go (pairs m bytes) (pairs_refusal m bytes)
  where
    go : (e p : ℕ) → PairsRefusal m bytes e p → T (not (within 2 12 e))
    go e p (by_record d) = let z : ◌≡◌ {A = ℕ} 0 1 = cc in absurd (omega arith)
    go e p (by_view h) = view_all (λ n. T (not (within 2 12 n))) tt tt tt h
    go e p (by_list k) = tt
    go e p (by_order h l) = order_all (λ n. T (not (within 2 12 n))) tt tt tt tt h

-- ---- 13

-- it is for a name that no view has: on a view that is there no refusal is 13
pub pairs_unnamed : (m : PairsCall) (bytes : List ℕ) → SaysNone m.view bytes (pairs m bytes)
unfolding pairs pairs_verdict pairs_tests
pairs_unnamed m bytes = refused_unnamed m.view (pairs_on m bytes) bytes own
  where
    own : (i : ℕ) (r : Record) → read bytes ≡ C.got r [] → Means m.view r i → Other (pairs_on m bytes i r)
    own i r q l =
        pick_case Other (eqb (pairs_verdict m i r) 0) _ _
        (λ t. let y = (ready m r l (eqb→eq (pairs_verdict m i r) 0 t)).0 in
        let n : ℕ = length (words m.list) in
        refused_map (λ e p. OfOrder e × (p < n)) (λ e p. e ≢ no_view)
        (λ e p h. order_all (λ k. k ≢ no_view) (omega arith) (omega arith) (omega arith) (omega arith) h.0) (in_turn 0 (singly m) bytes)
        (turn_refusal m.view m.count m.lent n 0 (words m.list) bytes r (omega arith) (read_is bytes r [] q).0 q y))
        (λ t. first_of (λ e. e ≢ no_view) (pairs_tests m (view_at r i)) (omega arith, (omega arith, (omega arith, tt))) (eqb_no t))

-- ---- places

-- the record's; 1 has none
record_place : (bytes : List ℕ) (orders e left : ℕ) → read bytes ≡ C.refused e left
    → PlacedInList (8 * length bytes) orders e (8 * length bytes - left)
record_place bytes orders e left q =
    let (t, _, h) = read_refuses bytes e left q in
    split 2 e (λ l. let y = T_true (within 2 12 e) (within_yes 2 12 e l (within_high 1 12 e t)) in rw y (rw y at h))
    (λ l. let z : e ≡ 1 = omega (arith, within_low 1 12 e t) in rw z (rw z at h))

by_place : (m : PairsCall) (bytes : List ℕ) (e p : ℕ) → PairsRefusal m bytes e p
    → PlacedInList (8 * length bytes) (length (words m.list)) e p
by_place m bytes e p (by_record {left = left} q) = record_place bytes (length (words m.list)) e left q
by_place m bytes e p (by_view h) = view_all (λ n. PlacedInList (8 * length bytes) (length (words m.list)) n 0) tt tt tt h
by_place m bytes e p (by_list k) = tt
by_place m bytes e p (by_order h l) =
    let t : T (ltb p (length (words m.list))) = yes_ltb l in
    order_all (λ n. PlacedInList (8 * length bytes) (length (words m.list)) n p) t t t t h

-- ---- of any answer by the contract of the call

module _ (view : ViewName) (n : ℕ) (orders bytes : List ℕ) {before after : List ℕ} {a : Answer}
    (h : Answers (pairs (pairs_call view n orders before) bytes) before after a) where
  pub pairs_numbers_lem : Gives pairs_numbers a.number
  pairs_numbers_lem = answer_number pairs_numbers tt (pairs_by (pairs_call view n orders before) bytes) h

  pub pairs_place : PlacedInList (8 * length bytes) (length (words orders)) a.number a.place
  pairs_place =
      let m : PairsCall = pairs_call view n orders before in
      let P : ℕ → ℕ → Type 0 = PlacedInList (8 * length bytes) (length (words orders)) in
      rw (h.number, h.place, pairs_room m bytes)
      (refused_shown P tt (pairs m bytes)
      (refused_map (PairsRefusal m bytes) P (by_place m bytes) (pairs m bytes) (pairs_refusal m bytes)))

  -- 25 exactly where the list has another shape, on a view that is ready
  pub pairs_broken : a.number ≡ bad_pairs → BrokenPairs view n orders bytes
  pairs_broken z =
      let m : PairsCall = pairs_call view n orders before in
      let x : number_of (pairs m bytes) ≡ bad_pairs = sym (h.number ∙ ap number_of (pairs_room m bytes)) ∙ z in
      refused_case (PairsRefusal m bytes) (pairs m bytes) (pairs_refusal m bytes) (λ e p d k. go e p k (sym (ap number_of d) ∙ x))
      (λ new d. let y : 0 ≡ bad_pairs = sym (ap number_of d) ∙ x in absurd (omega arith))
    where
      go : (e p : ℕ) → PairsRefusal (pairs_call view n orders before) bytes e p → e ≡ bad_pairs → BrokenPairs view n orders bytes
      go e p (by_record {left = left} q) y =
          let (t, _, _) = read_refuses bytes e left q in absurd (omega (arith, within_high 1 12 e t))
      go e p (by_view k) y = absurd (view_all (λ i. i ≢ bad_pairs) (omega arith) (omega arith) (omega arith) k y)
      go e p (by_list k) y = k
      go e p (by_order k l) y = absurd (order_all (λ i. i ≢ bad_pairs) (omega arith) (omega arith) (omega arith) (omega arith) k y)

  pub broken_pairs : BrokenPairs view n orders bytes → a.number ≡ bad_pairs
  broken_pairs k =
      let m : PairsCall = pairs_call view n orders before in
      let y = k.ready in
      h.number ∙ ap number_of (pairs_room m bytes ∙ pairs_shape m bytes k.reads y.means y.count y.indexed k.shape)
