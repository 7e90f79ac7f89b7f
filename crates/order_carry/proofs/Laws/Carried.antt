-- An order carried out, as code does it: the new record is measured, and then it is refused, or it is there.
use mathlib.Core.Path.{◌≡◌, sym, ap, ◌∙◌, subst}
use Prim.Native.Nat.{ℕ}
use native.Mathlib.Omega.{arith}
use mathlib.Core.List.{List}
use lib.ListN.{length}
use Rattle.std.specs.Prelude.{Ok, Err}
use Rattle.outcome.specs.Why.{number}
use Rattle.outcome.specs.declared.refusal.Refused.{Refused}
use Rattle.outcome.proofs.Laws.{answer_refused, answer_given}
use Rattle.put_bytes.specs.Laid.{Laid}
use Rattle.format.specs.Limits.{most_bytes}
use Rattle.format.specs.Record.{Record, size, write}
use Rattle.format.proofs.Laws.Size.{write_long}
use Rattle.find_parts.specs.Stored.{record_out}
use Rattle.find_parts.specs.declared.site.Site.{Site}
use Rattle.find_parts.proofs.Laws.Written.{written}
use Rattle.order_record.specs.Rebuilt.{new_record, Measured, Rebuilt}
use Rattle.order_record.specs.declared.measure.Sizes.{Sizes}
use Rattle.order_carry.specs.Carried.{size_number, CarriedOut}
use Rattle.order_carry.proofs.Laws.Held.{size_zero, held_given, held_refused}
use Rattle.order_carry.proofs.Laws.Refuses.{some_number}

module _ {s : List ℕ} {x : Site} {words removal : List ℕ} {m : Sizes} (D : Measured s x words removal m) where
  pub not_carried : (r : Refused) (place : ℕ) (before : List ℕ) → number r.why ≡ size_number (length before) m.bytes → r.place ≡ place
      → CarriedOut s x words removal place before before (Err r)
  not_carried r place before z q =
      record {
        is = λ o i e S f.
            let y = z ∙ ap (size_number (length before)) (D.is o i e S).bytes in
            rw q (answer_refused (λ xs. xs) (length before) before (held_refused place (length before) (new_record removal words i o) y (some_number r.why)));
      }

  pub carried : (place : ℕ) {before after : List ℕ} {n : ℕ} → size_number (length before) m.bytes ≡ 0 → Rebuilt s x words removal m before after n
      → CarriedOut s x words removal place before after (Ok n)
  unfolding most_bytes
  carried place {before} {after} {n} z R =
      record {
        is = λ r i e S f.
            let new : Record = new_record removal words i r in
            let y : size_number (length before) (size new) ≡ 0 = ap (size_number (length before)) (sym (D.is r i e S).bytes) ∙ z in
            let (a, b) = size_zero (length before) (size new) y in
            let q : record_out new ≡ write new = sym (written new (f a)) in
            let L : Laid (write new) before after n = subst (λ (ys : List ℕ). Laid ys before after n) q (R.is r i e S (D.is r i e S)) in
            answer_given (λ xs. xs) (length before) before (held_given place (length before) new y) after n (omega (arith, write_long new, b)) L.count L.is;
      }
