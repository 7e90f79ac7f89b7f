-- The calls themselves, made one behind the other: the record that holds is that of the sequence; and a removal that was accepted is
-- refused when it comes again.
use mathlib.Core.Path.{◌≡◌, refl, sym, ap, ◌∙◌}
use mathlib.Core.Logic.{◌≢◌}
use Prim.Native.Nat.{ℕ}
use mathlib.Core.List.{List, [], ◌∷◌}
use lib.ListN.{length, take}
use Rattle.bits.specs.Lists.{All}
use Rattle.bits.specs.Bytes.{Byte}
use Rattle.bits.specs.Codec.{got}
use Rattle.outcome.specs.Refusals.{other_count}
use Rattle.outcome.specs.Numbers.{pairs_numbers}
use Rattle.outcome.specs.Outcome.{refused, given, room, number_of, place_of, length_of, laid, Answers}
use Rattle.outcome.specs.declared.Answer.{Answer}
use Rattle.outcome.proofs.Laws.{same_answer, answer_accepted}
use Rattle.outcome.proofs.Numbers.{never_zero}
use Rattle.format.specs.Record.{Record, read}
use Rattle.format.proofs.Laws.Call.{given_view}
use Rattle.format.proofs.Laws.Record.{read_back}
use Rattle.orders.specs.Act.{remove}
use Rattle.orders.specs.Order.{Order, ordered, order, holds}
use Rattle.orders.specs.History.{Call, now_holds}
use Rattle.orders.specs.AnyCall.{AnyCall, one, list, asked, lent_for, outcome_of, run_any, singles}
use Rattle.orders.specs.Kept.{Kept}
use Rattle.orders.specs.Made.{Made, MadeAll}
use Rattle.orders.proofs.Laws.Holds.{order_told}
use Rattle.orders.proofs.Laws.PairsNumbers.{pairs_by}
use Rattle.orders.proofs.Laws.AnyCalls.{holds_now, any_follow, removal_again}

-- what the answer says is what the outcome has
answered : (q : AnyCall) (old : List ℕ) {before after : List ℕ} {a : Answer} → length before ≡ lent_for q
    → Answers (asked q old) before after a → holds old after a.number a.length ≡ now_holds old (outcome_of q old)
unfolding outcome_of
answered q old {before} l h = rw (h.number, h.written, h.buffer, l) (holds_now q old before)

made_is : (q : AnyCall) (old new : List ℕ) → Made q old new → new ≡ now_holds old (outcome_of q old)
made_is q old new m = m.held ∙ answered q old m.lent m.answers

pub calls_run : (qs : List AnyCall) (bytes last : List ℕ) → MadeAll qs bytes last → last ≡ run_any qs bytes
calls_run [] bytes last h = h
calls_run (q ∷ qs) bytes last (new, m, h) = calls_run qs new last h ∙ ap (run_any qs) (made_is q bytes new m)

pub calls_follow : (qs : List AnyCall) (bytes last : List ℕ) (r : Record) → All Byte bytes → read bytes ≡ got r []
    → MadeAll qs bytes last → Kept (singles qs bytes) r bytes last
calls_follow qs bytes last r f e h = rw (calls_run qs bytes last h) (any_follow qs bytes r f e)

-- what an accepted call leaves in the buffer is what is asked for
asked_told : (q : AnyCall) (bytes : List ℕ) (e p : ℕ) → asked q bytes ≡ refused e p → e ≢ 0
asked_told (one c) bytes = order_told c.order bytes
asked_told (list m) bytes = never_zero pairs_numbers tt (pairs_by m bytes)

pub call_gives : (q : AnyCall) (bytes : List ℕ) {before after : List ℕ} {a : Answer} → Answers (asked q bytes) before after a → a.number ≡ 0
    → asked q bytes ≡ given (take a.length after)
call_gives q bytes h z = answer_accepted h (asked_told q bytes) z λ new d t. d ∙ ap given (sym t)

-- ---- the same removal twice

module _ (o : Order) {rs : List ℕ} (q : o.act ≡ remove rs) (bytes : List ℕ) (f : All Byte bytes)
    {before after : List ℕ} {a : Answer} (h : Answers (order o bytes) before after a) (z : a.number ≡ 0) where
  abbrev now : List ℕ
  now = holds bytes after a.number a.length

  an_accepted : {P : Type 0} → ((r : Record) → read bytes ≡ got r [] → P) → P
  unfolding order
  an_accepted k =
      answer_accepted h (λ e p. order_told o bytes e p) z λ xs d t.
      given_view o.view (ordered o) bytes xs d λ r rest i e l g.
      let (_, _, m) = read_back bytes r rest f e in
      k r (e ∙ ap (got r) m)

  pub again_refused : (n : ℕ) → room n (order o now) ≡ refused other_count 0
  unfolding outcome_of
  again_refused n =
      an_accepted λ r e.
      let c : Call = record { order = o; lent = length before } in
      rw (answered (one c) bytes refl h) (removal_again [] c [] rs bytes r f e q (sym h.number ∙ z) n)

  pub repeated : {before₂ after₂ : List ℕ} {b : Answer} → Answers (order o now) before₂ after₂ b
      → (b ≡ record { number = other_count; place = 0; length = 0 }) × (after₂ ≡ before₂) × (holds now after₂ b.number b.length ≡ now)
  unfolding holds
  repeated {before₂} {after₂} {b} k =
      let e = again_refused (length before₂) in
      let n : b.number ≡ other_count = k.number ∙ ap number_of e in
      (same_answer b _ n (k.place ∙ ap place_of e) (k.written ∙ ap length_of e), k.buffer ∙ ap (laid before₂) e, rw n refl)
