-- The record with another payload, whatever lays it: too long, no room for it, or its bytes.
use mathlib.Core.Path.{◌≡◌, refl, sym, ◌∙◌}
use Prim.Native.Nat.{ℕ, ◌+◌, ◌-◌, ◌≤◌, ◌<◌}
use native.Mathlib.Omega.{arith}
use mathlib.Core.List.{List}
use lib.ListN.{length}
use Rattle.std.specs.Prelude.{Ok, Err}
use Rattle.bits.specs.Lists.{All}
use Rattle.bits.specs.Bytes.{Byte}
use Rattle.bits.proofs.Laws.Parts.{part}
use Rattle.put_bytes.specs.Laid.{Laid}
use Rattle.put_bytes.proofs.Laws.{lent, back}
use Rattle.outcome.specs.declared.refusal.Refusal.TheVariants.{TooLong, NoRoom}
use Rattle.find_segment.specs.declared.Spot.{Spot}
use Rattle.rewrite_put.specs.Front.{new_length, front_of, FrontRoom}
use Rattle.rewrite_put.specs.Put.{PayloadPut, RecordPut}
use Rattle.rewrite_put.proofs.Laws.Front.{tail_fits, all_put}
use Rattle.rewrite_put.proofs.Laws.Answered.{too_long_lem, no_room_lem, put}

-- a payload that a record has room for has so many bytes
long_is : (s : List ℕ) (x : Spot) {k : ℕ} {gives : List ℕ → ℕ → List ℕ → Type 0} {payload : List ℕ} → PayloadPut k gives payload → new_length s x k ≤ 32768 → k ≡ length payload
long_is s x P l = P.exact (omega arith)

module _ {s : List ℕ} {x : Spot} {k : ℕ} {gives : List ℕ → ℕ → List ℕ → Type 0} (before : List ℕ) (bytes : All Byte s) where
  pub too_long_put : 32768 < new_length s x k → RecordPut s x k gives before before (Err (record { why = TooLong; place = 0 }))
  too_long_put l = record { is = λ payload P view place h. too_long_lem h bytes payload refl refl before (omega (arith, P.least)) }

  pub no_room_put : new_length s x k ≤ 32768 → length before < new_length s x k → RecordPut s x k gives before before (Err (record { why = NoRoom; place = 0 }))
  no_room_put m l = record { is = λ payload P view place h. no_room_lem h bytes payload refl (sym (long_is s x P m)) before m l }

-- from where the payload starts, b bytes were answered and left in their place
module _ {s : List ℕ} {x : Spot} {k : ℕ} {gives : List ℕ → ℕ → List ℕ → Type 0} {before o1 : List ℕ} {a : ℕ} (t : FrontRoom s x k before) (F : Laid (front_of s x k) before o1 a)
    (b : ℕ) (left : List ℕ) where
  pub payload_end : {payload : List ℕ} → PayloadPut k gives payload → gives (lent o1 a) b left → b ≡ k
  payload_end P G = (P.lays (lent o1 a) left b G).count ∙ sym (long_is s x P t.small)

  pub tail_room : {payload : List ℕ} → PayloadPut k gives payload → gives (lent o1 a) b left → length (part s x.payload.to (length s - x.payload.to)) ≤ length (lent (back o1 a left) (a + b))
  tail_room P G = tail_fits t (long_is s x P t.small) F (P.lays (lent o1 a) left b G)

  pub record_put_lem : All Byte s → gives (lent o1 a) b left → {o3 : List ℕ} {c : ℕ} → Laid (part s x.payload.to (length s - x.payload.to)) (lent (back o1 a left) (a + b)) o3 c
      → RecordPut s x k gives before (back (back o1 a left) (a + b) o3) (Ok (a + b + c))
  record_put_lem bytes G C =
      record {
        is = λ payload P view place h.
            let e : k ≡ length payload = long_is s x P t.small in
            put h bytes payload refl (sym e) before t.small P.bytes t.room (all_put t e F (P.lays (lent o1 a) left b G) C);
      }
