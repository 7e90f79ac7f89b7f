-- THE THEOREM on a list of pairs. "Its outcome is that of giving them singly, each to the record the one before left": the list has
-- its shape, all its orders are accepted, and what they leave is given; or the first that is refused gives its number and its place.
use mathlib.Core.Path.{◌≡◌, refl, sym, ap, ◌∙◌}
use mathlib.Core.Logic.{◌≢◌}
use Prim.Native.Nat.{ℕ, ◌+◌, ◌-◌, ◌*◌}
use native.Mathlib.Omega.{arith}
use mathlib.Core.Bool.{not}
use mathlib.Core.List.{List, []}
use lib.ListN.{length}
use lib.Dec.{T, eqb→eq}
use Rattle.bits.specs.Choice.{pick, within}
use Rattle.bits.specs.ChoiceLaws.{pick_no, pick_case, T_false}
use Rattle.bits.specs.Codec as C
use Rattle.outcome.specs.Refusals.{other_count, no_index}
use Rattle.outcome.specs.Numbers.{among, pairs_numbers}
use Rattle.outcome.specs.Outcome.{Outcome, refused, given, room, number_of, place_of, Answers, Gave}
use Rattle.outcome.specs.declared.Answer.{Answer}
use Rattle.outcome.proofs.Laws.{room_zero, answer_there}
use Rattle.outcome.proofs.Refusing.{Refused, refused_case}
use Rattle.outcome.proofs.Numbers.{never_zero}
use Rattle.format.specs.View.{View}
use Rattle.format.specs.Record.{read}
use Rattle.format.specs.Places.{view_at}
use Rattle.format.proofs.Laws.Refuses.{read_refuses}
use Rattle.format.specs.declared.ViewName.{ViewName}
use Rattle.orders.specs.Act.{Word, indexed?}
use Rattle.orders.specs.Order.{Order, ordered, order}
use Rattle.orders.specs.Listed.{shape_ok}
use Rattle.orders.specs.Called.{word_order}
use Rattle.orders.specs.History.{outcome, run}
use Rattle.orders.specs.Pairs.{PairsCall, pairs_call, word_call, singly, in_turn, pairs}
use Rattle.orders.specs.AnyCall.{AllTaken, Stopped}
use Rattle.orders.proofs.Laws.Accept.{verdict_count}
use Rattle.orders.proofs.Laws.Refuse.{verdict_own, order_refused}
use Rattle.orders.proofs.Laws.Sequence.{outcome_none}
use Rattle.orders.proofs.Laws.Turn.{taken_turn, stopped_turn, turn_case}
use Rattle.orders.proofs.Laws.Pairs.{words_some, word_tests_lem, unread, pairs_view, pairs_no_view, pairs_count, pairs_index, pairs_turn, given_turn, pairs_ways}
use Rattle.orders.proofs.Laws.PairsNumbers.{pairs_own, pairs_by, pairs_room}

-- what is given is not refused
never : {X : Type 0} {e p : ℕ} {xs : List ℕ} → refused e p ≡ given xs → X
never h = let z : ◌≡◌ {A = ℕ} 0 1 = cc in absurd (omega arith)

-- ---- the call, and its orders in turn

-- an outcome as that of the first order: what is refused since the bytes are no record has the order's place
abbrev at_order : Outcome ℕ → Outcome ℕ
at_order (refused e p) = refused e (pick (within 2 12 e) 0 p)
at_order (given new) = given new

-- none of 2 to 12
stays : (o : Outcome ℕ) → Refused (λ e p. T (not (within 2 12 e))) o → o ≡ at_order o
stays (refused e p) h = ap (refused e) (sym (pick_no (within 2 12 e) 0 p h))
stays (given new) h = refl

-- 1 has no place
at_first : (bytes : List ℕ) (e left : ℕ) → read bytes ≡ C.refused e left
    → ◌≡◌ {A = Outcome ℕ} (refused e 0) (at_order (refused e (8 * length bytes - left)))
at_first bytes e left q =
    let (_, _, h) = read_refuses bytes e left q in
    ap (refused e) (pick_case (λ (p : ℕ). 0 ≡ p) (within 2 12 e) _ _ (λ t. refl)
    (λ t. sym (eqb→eq (8 * length bytes - left) 0 (rw (T_false (within 2 12 e) t) at h))))

module _ (m : PairsCall) (bytes : List ℕ) (s : T (shape_ok m.list)) where
  -- every order of the list is refused so, if it is given to these bytes
  abbrev Each : ℕ → ℕ → Type 0
  Each e p = (w : Word) → outcome (word_call m.view m.count m.lent w) bytes ≡ refused e p

  -- and the first is
  first_refused : {e p : ℕ} → Each e p → in_turn 0 (singly m) bytes ≡ refused e 0
  first_refused h = words_some m.list s λ w ws z. rw (z, h w)

  each_unread : {e left : ℕ} → read bytes ≡ C.refused e left → Each e (8 * length bytes - left)
  unfolding outcome order
  each_unread q w = ap (room m.lent) (unread m.view (ordered (word_order m.view m.count w)) bytes q)

  each_order : (n : ℕ) → ((w : Word) → order (word_order m.view m.count w) bytes ≡ refused n 0) → Each n 0
  unfolding outcome
  each_order n h w = ap (room m.lent) (h w)

  -- refused before any order, as its first order is
  alike : {e : ℕ} → pairs m bytes ≡ refused e 0 → T (not (within 2 12 e)) → Each e 0
      → in_turn 0 (singly m) bytes ≡ at_order (pairs m bytes)
  alike {e} d t h = first_refused h ∙ stays (refused e 0) t ∙ ap at_order (sym d)

  pub pairs_singly : in_turn 0 (singly m) bytes ≡ at_order (pairs m bytes)
  pairs_singly =
      pairs_ways m bytes
      (λ e left q. first_refused (each_unread q) ∙ at_first bytes e left q
      ∙ ap at_order (sym (pairs_view m bytes (λ f. unread m.view f bytes q))))
      (λ r q l. alike (pairs_no_view m bytes q l) tt (λ w. outcome_none (word_call m.view m.count m.lent w) bytes r q l))
      (λ r i q l n. alike (pairs_count m bytes q l n) tt
      (each_order other_count λ w. let o : Order = word_order m.view m.count w in
      order_refused o bytes q l other_count (verdict_count o i r n) (omega arith)))
      (λ r i q l c t. alike (pairs_index m bytes q l c t) tt
      (each_order no_index λ w. let o : Order = word_order m.view m.count w in
      let v : View = view_at r i in
      order_refused o bytes q l no_index
      (verdict_own o i r c [] (indexed? v) no_index _ (word_tests_lem w.joins w.one w.other v) tt t) (omega arith)))
      (λ r q y. sym (pairs_turn m bytes q y.means y.count y.indexed s) ∙ stays (pairs m bytes) (pairs_own m bytes r q))

-- ---- accepted, or refused at an order

pub pairs_given : (m : PairsCall) (bytes new : List ℕ) → pairs m bytes ≡ given new
    → T (shape_ok m.list) × AllTaken (singly m) bytes × (run (singly m) bytes ≡ new)
pairs_given m bytes new d =
    given_turn m bytes new d λ r q y s h.
    turn_case 0 (singly m) bytes (λ k e. (s, k, (let z : given (run (singly m) bytes) ≡ given new = sym e ∙ h in cc)))
    (λ n p k e. never (sym e ∙ h))

module _ (m : PairsCall) (bytes : List ℕ) (s : T (shape_ok m.list)) where
  pub given_pairs : AllTaken (singly m) bytes → pairs m bytes ≡ given (run (singly m) bytes)
  given_pairs k = go (pairs m bytes) (sym (pairs_singly m bytes s) ∙ taken_turn 0 (singly m) bytes k)
    where
      go : (o : Outcome ℕ) → at_order o ≡ given (run (singly m) bytes) → o ≡ given (run (singly m) bytes)
      go (refused e p) h = never h
      go (given new) h = h

  pub pairs_refused : (e p : ℕ) → pairs m bytes ≡ refused e p → Stopped (singly m) bytes e (pick (within 2 12 e) 0 p)
  pairs_refused e p d =
      let h : in_turn 0 (singly m) bytes ≡ refused e (pick (within 2 12 e) 0 p) = pairs_singly m bytes s ∙ ap at_order d in
      turn_case 0 (singly m) bytes (λ k g. never (sym h ∙ g))
      (λ n k g j. let z : ◌≡◌ {A = Outcome ℕ} (refused n (0 + k)) (refused e (pick (within 2 12 e) 0 p)) = sym j ∙ h in
      let x : n ≡ e = cc in
      let w : 0 + k ≡ pick (within 2 12 e) 0 p = cc in
      let y : k ≡ pick (within 2 12 e) 0 p = omega (arith, w) in
      rw (← y, ← x) g)

  pub refused_pairs : (e p : ℕ) → Stopped (singly m) bytes e p
      → (number_of (pairs m bytes) ≡ e) × (T (not (within 2 12 e)) → place_of (pairs m bytes) ≡ p)
  refused_pairs e p k = go (pairs m bytes) (sym (pairs_singly m bytes s) ∙ stopped_turn 0 (singly m) bytes e p k)
    where
      go : (o : Outcome ℕ) → at_order o ≡ refused e (0 + p) → (number_of o ≡ e) × (T (not (within 2 12 e)) → place_of o ≡ p)
      go (refused n j) h =
          let x : n ≡ e = cc in
          let w : pick (within 2 12 n) 0 j ≡ 0 + p = cc in
          (x, λ t. let y : j ≡ pick (within 2 12 n) 0 j = rw x (sym (pick_no (within 2 12 e) 0 j t)) in omega (arith, w, y))
      go (given new) h = never (sym h)

-- ---- of any answer by the contract of the call

module _ (view : ViewName) (n : ℕ) (orders bytes : List ℕ) {before after : List ℕ} {a : Answer}
    (h : Answers (pairs (pairs_call view n orders before) bytes) before after a) where
  -- accepted exactly where the list has its shape and all its orders are; what they leave is then in the buffer
  pub call_taken : a.number ≡ 0
      → T (shape_ok orders) × AllTaken (singly (pairs_call view n orders before)) bytes
      × Gave (run (singly (pairs_call view n orders before)) bytes) after a
  call_taken z =
      let m : PairsCall = pairs_call view n orders before in
      room_zero (length before) (never_zero pairs_numbers tt (pairs_by m bytes)) (sym h.number ∙ z) λ new d l.
      let (s, k, e) = pairs_given m bytes new d in
      (s, k, rw e (answer_there h new d l))

  pub taken_call : T (shape_ok orders) → AllTaken (singly (pairs_call view n orders before)) bytes
      → Gave (run (singly (pairs_call view n orders before)) bytes) after a
  taken_call s k =
      let m : PairsCall = pairs_call view n orders before in
      (call_taken (h.number ∙ ap number_of (pairs_room m bytes ∙ given_pairs m bytes s k))).2

  -- refused at the first order that is
  pub call_stopped : T (shape_ok orders) → a.number ≢ 0
      → Stopped (singly (pairs_call view n orders before)) bytes a.number (pick (within 2 12 a.number) 0 a.place)
  call_stopped s z =
      let m : PairsCall = pairs_call view n orders before in
      let x : a.number ≡ number_of (pairs m bytes) = h.number ∙ ap number_of (pairs_room m bytes) in
      let y : a.place ≡ place_of (pairs m bytes) = h.place ∙ ap place_of (pairs_room m bytes) in
      refused_case (λ e p. T (among pairs_numbers e)) (pairs m bytes) (pairs_by m bytes)
      (λ e p d u. rw (x, y, d) (pairs_refused m bytes s e p d)) (λ new d. absurd (z (x ∙ ap number_of d)))

  pub stopped_call : T (shape_ok orders) → (e p : ℕ) → Stopped (singly (pairs_call view n orders before)) bytes e p
      → (a.number ≡ e) × (T (not (within 2 12 e)) → a.place ≡ p)
  stopped_call s e p k =
      let m : PairsCall = pairs_call view n orders before in
      let (x, y) = refused_pairs m bytes s e p k in
      (h.number ∙ ap number_of (pairs_room m bytes) ∙ x, λ t. h.place ∙ ap place_of (pairs_room m bytes) ∙ y t)
