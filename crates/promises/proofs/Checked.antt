-- A check beside the other calls: it refuses a record as reading does, at the same place; rule 1 gives what reading gives; and no call
-- for an order changes what a record passes.
use mathlib.Core.Path.{◌≡◌, refl, sym, ap, subst, ◌∙◌}
use mathlib.Core.Logic.{◌≢◌}
use Prim.Native.Nat.{ℕ, ◌+◌, ◌-◌, ◌*◌}
use native.Mathlib.Omega.{arith}
use mathlib.Core.Bool.{Bool, not}
use mathlib.Core.Option.{Option, none, some}
use mathlib.Core.List.{List, [], ◌∷◌}
use lib.ListN.{length}
use lib.Dec.{T, leb}
use mir.Facts.{T_not}
use Rattle.bits.specs.Choice.{within}
use Rattle.bits.specs.ChoiceLaws.{pick_case, within_high}
use Rattle.bits.specs.Bits.{Bits}
use Rattle.bits.specs.Codec.{Read, got}
use Rattle.bits.specs.Codec as C
use Rattle.outcome.specs.Refusals.{no_room, no_rule}
use Rattle.outcome.specs.Outcome.{Outcome, refused, given, room, number_of, place_of, told, Answers}
use Rattle.outcome.specs.declared.Answer.{Answer}
use Rattle.outcome.proofs.Refusing.{Refused, refused_answer}
use Rattle.format.specs.Record.{Record, read, write}
use Rattle.format.specs.Call.{from_read, on_record}
use Rattle.format.specs.declared.Header.{Header}
use Rattle.format.proofs.Laws.Record.{read_there, read_is}
use Rattle.format.proofs.Laws.Call.{on_record_lem}
use Rattle.places.specs.Reach.{reach, Agree, AnsweredAlike}
use Rattle.places.proofs.Laws.Calls.{Own, answer_shows, told_shows, answered_alike}
use Rattle.sheet.specs.Sheet.{sheet_of, reading}
use Rattle.orders.specs.Order.{edited, ordered, order}
use Rattle.orders.specs.History.{Call, outcome, now_holds, run}
use Rattle.orders.specs.AnyCall.{AnyCall, run_any, singles}
use Rattle.orders.specs.Made.{MadeAll}
use Rattle.orders.proofs.Laws.Keep.{edited_head, order_keeps}
use Rattle.orders.proofs.Laws.Sequence.{outcome_split}
use Rattle.orders.proofs.Laws.Pairs.{unread}
use Rattle.orders.proofs.Laws.AnyCalls.{any_run}
use Rattle.orders.proofs.Laws.Calls.{calls_run}
use Rattle.rule.specs.Rules.{least_of}
use Rattle.rule.specs.Check.{direction_bits, passes, check, check_answer}
use Rattle.rule.proofs.Laws.Check.{check_none, check_in, any_record, same_bits}

-- ---- what decides a refusal

pub check_decided : (rule : ℕ) (a b : List ℕ) {x y : Answer} → x ≡ check_answer rule a → y ≡ check_answer rule b
    → T (within 2 12 x.number) → Agree (x.place + reach x.number) a b → AnsweredAlike x y
unfolding check_answer
check_decided rule a b {x} {y} h k = go (least_of rule) refl
  where
    go : (o : Option ℕ) → least_of rule ≡ o → T (within 2 12 x.number) → Agree (x.place + reach x.number) a b → AnsweredAlike x y
    go none e = λ t.
        let n : x.number ≡ no_rule = ap (λ (z : Answer). z.number) h ∙ ap (λ (o : Outcome ℕ). (told 0 o).number) (check_none rule a e) in
        absurd (omega (arith, n, within_high 2 12 x.number t))
    go (some least) e =
        answered_alike (passes least) (λ r. pick_case Own (leb least (direction_bits r)) _ _ (λ t. tt) (λ t. tt)) a b
        (told_shows 0 (on_record (passes least) a) (h ∙ ap (told 0) (check_in rule a e)))
        (told_shows 0 (on_record (passes least) b) (k ∙ ap (told 0) (check_in rule b e)))

-- ---- beside reading

-- none of 1 to 12
abbrev NotRecords : ℕ → ℕ → Type 0
NotRecords e p = T (not (within 1 12 e))

-- what is given has no number but 0 and 20
there : (n : ℕ) (xs : List ℕ) → number_of (room n (given xs)) ≢ no_room → (number_of (room n (given xs)) ≡ 0) × (place_of (room n (given xs)) ≡ 0)
there n xs =
    pick_case (λ (o : Outcome ℕ). number_of o ≢ no_room → (number_of o ≡ 0) × (place_of o ≡ 0)) (leb (length xs) n) _ _ (λ t h. (refl, refl)) (λ t h. absurd (h refl))

module _ (bytes : List ℕ) {before after : List ℕ} {b : Answer} (k : Answers (reading bytes) before after b) where
  -- a record that is refused, whatever else is asked of it
  refused_same : (f : Record → Outcome ℕ) {a : Answer} → a ≡ told 0 (on_record f bytes) → {e left : ℕ} → read bytes ≡ C.refused e left
      → (a.number ≡ b.number) × (a.place ≡ b.place)
  unfolding reading on_record
  refused_same f h {e} {left} d =
      let n : ℕ = 8 * length bytes in
      let (i, j) = (answer_shows k).refusal e (n - left) (ap (from_read n (λ r. given (sheet_of r))) d) in
      let (u, v) = (told_shows 0 (on_record f bytes) h).refusal e (n - left) (ap (from_read n f) d) in
      (u ∙ sym i, v ∙ sym j)

  -- one that is read
  sheet_given : {r : Record} {rest : Bits} → read bytes ≡ got r rest → reading bytes ≡ given (sheet_of r)
  unfolding reading
  sheet_given {r} {rest} d = on_record_lem (λ x. given (sheet_of x)) bytes r rest d

  -- an answer of 1 to 12 is the record's, by any rule
  pub check_reading : (rule : ℕ) {least : ℕ} → least_of rule ≡ some least → {a : Answer} → a ≡ check_answer rule bytes → T (within 1 12 b.number)
      → (a.number ≡ b.number) × (a.place ≡ b.place)
  unfolding check_answer
  check_reading rule {least} e {a} h t = go (read bytes) refl
    where
      go : (o : Read Bool Record) → read bytes ≡ o → (a.number ≡ b.number) × (a.place ≡ b.place)
      go (C.got r rest) d =
          absurd (T_not (within 1 12 b.number) t (refused_answer NotRecords tt tt (subst (Refused NotRecords) (sym (sheet_given d)) tt) k))
      go (C.refused n left) d = refused_same (passes least) (h ∙ ap (told 0) (check_in rule bytes e)) d

  -- rule 1 answers what reading does, but for the room
  pub first_reading : {a : Answer} → a ≡ check_answer 1 bytes → b.number ≢ no_room → (a.number ≡ b.number) × (a.place ≡ b.place)
  unfolding check_answer
  first_reading {a} h n = go (read bytes) refl
    where
      first : a ≡ told {A = ℕ} 0 (on_record (λ r. given []) bytes)
      first = h ∙ ap (told 0) (any_record 1 refl (omega arith) bytes)

      go : (o : Read Bool Record) → read bytes ≡ o → (a.number ≡ b.number) × (a.place ≡ b.place)
      go (C.got r rest) d =
          let u : a ≡ record { number = 0; place = 0; length = 0 } = first ∙ ap (told 0) (on_record_lem (λ x. given []) bytes r rest d) in
          let i : b.number ≡ number_of (room (length before) (given (sheet_of r))) = k.number ∙ ap (λ (o : Outcome ℕ). number_of (room (length before) o)) (sheet_given d) in
          let j : b.place ≡ place_of (room (length before) (given (sheet_of r))) = k.place ∙ ap (λ (o : Outcome ℕ). place_of (room (length before) o)) (sheet_given d) in
          let (x, y) = there (length before) (sheet_of r) (λ z. n (i ∙ z)) in
          (ap (λ (z : Answer). z.number) u ∙ sym (i ∙ x), ap (λ (z : Answer). z.place) u ∙ sym (j ∙ y))
      go (C.refused e left) d = refused_same (λ r. given []) first d

-- ---- orders

-- bytes that are no record have no order carried out
unread_outcome : (c : Call) (bytes : List ℕ) {n left : ℕ} → read bytes ≡ C.refused n left → outcome c bytes ≡ refused n (8 * length bytes - left)
unfolding outcome order
unread_outcome c bytes d = ap (room c.lent) (unread c.order.view (ordered c.order) bytes d)

module _ (rule : ℕ) where
  one_keeps : (c : Call) (bytes : List ℕ) → check rule (now_holds bytes (outcome c bytes)) ≡ check rule bytes
  one_keeps c bytes = go (read bytes) refl
    where
      held : {o : Outcome ℕ} → outcome c bytes ≡ o → check rule (now_holds bytes (outcome c bytes)) ≡ check rule (now_holds bytes o)
      held d = ap (λ (o : Outcome ℕ). check rule (now_holds bytes o)) d

      go : (o : Read Bool Record) → read bytes ≡ o → check rule (now_holds bytes (outcome c bytes)) ≡ check rule bytes
      go (C.got r rest) d =
          let e : read bytes ≡ got r [] = d ∙ ap (got r) (read_is bytes r rest d).3 in
          outcome_split c bytes r e
          (λ i x g. let new : Record = edited i c.order.act r in
          held g
          ∙ same_bits rule (write new) bytes (read_there new (order_keeps c.order i r (read_is bytes r [] e).0 x)) e
          (ap (λ (h : Header). h.scale.widths.b) (edited_head i c.order.act r)))
          (λ n _ g. held g)
      go (C.refused n left) d = held (unread_outcome c bytes d)

  run_keeps : (cs : List Call) (bytes : List ℕ) → check rule (run cs bytes) ≡ check rule bytes
  run_keeps [] bytes = refl
  run_keeps (c ∷ cs) bytes = run_keeps cs (now_holds bytes (outcome c bytes)) ∙ one_keeps c bytes

  pub orders_keep : (qs : List AnyCall) (bytes : List ℕ) → check rule (run_any qs bytes) ≡ check rule bytes
  orders_keep qs bytes = ap (check rule) (any_run qs bytes) ∙ run_keeps (singles qs bytes) bytes

  -- the calls themselves, one behind the other
  pub calls_keep : (qs : List AnyCall) (bytes last : List ℕ) → MadeAll qs bytes last → check_answer rule last ≡ check_answer rule bytes
  unfolding check_answer
  calls_keep qs bytes last h = ap (told 0) (ap (check rule) (calls_run qs bytes last h) ∙ orders_keep qs bytes)
