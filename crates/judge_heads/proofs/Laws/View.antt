-- What the reader of a view's header finds: which of the four judged numbers is at fault, and the header put together from its
-- fields. The code reads all fields before it judges the first, as the format does.
use mathlib.Core.Path.{◌≡◌, ap}
use Prim.Native.Nat.{ℕ, ◌+◌, ◌-◌, ◌*◌, ◌≤◌, ◌<◌}
use native.Mathlib.Omega.{arith}
use borrow.Author.Tests.{lt-leb, le-leb, eq-eqb, ne_eqb}
use mathlib.Core.Bool.{Bool, true, false, not}
use mathlib.Core.Option.{none, some}
use mathlib.Core.List.{List}
use lib.ListN.{length, length-append}
use Rattle.bits.specs.BitsLaws.{length_bits}
use Rattle.bits.specs.Codec.{Codec, field_dec}
use Rattle.bits.specs.CodecLaws.{field, then}
use Rattle.bits.specs.Reads.{found, fault, Reads}
use Rattle.bits.proofs.Laws.Reads.{go_on, stop, made, fine, flawed, room_there, room_past}
use Rattle.outcome.specs.Refusals.{past, bad_view}
use Rattle.format.specs.View.{head_fields, view_header, head_fault, impression_ok}
use Rattle.format.specs.declared.ViewHeader.{ViewHeader}
use Rattle.judge_heads.proofs.Laws.Header.{behind}

-- ---- the first number that is not right

module _ (f : ℕ → ℕ) (n po im q : ℕ) where
  abbrev values : ℕ × (ℕ × (ℕ × ℕ))
  values = (n, (po, (im, q)))

  pub fault_number : (n ≡ f po → ⊥) → head_fault f values ≡ some 0
  fault_number a = rw (ne_eqb n (f po) a)

  module _ (a : n ≡ f po) where
    pub fault_position : 10 < po → head_fault f values ≡ some 8
    fault_position b = rw (eq-eqb n (f po) a, lt-leb po 10 b)

    module _ (b : po ≤ 10) where
      pub fault_impression : impression_ok im ≡ false → head_fault f values ≡ some 16
      fault_impression d = rw (eq-eqb n (f po) a, le-leb po 10 b, d)

      module _ (d : impression_ok im ≡ true) where
        pub fault_quality : 100 < q → head_fault f values ≡ some 24
        fault_quality e = rw (eq-eqb n (f po) a, le-leb po 10 b, d, lt-leb q 100 e)

        pub no_fault : q ≤ 100 → head_fault f values ≡ none
        no_fault e = rw (eq-eqb n (f po) a, le-leb po 10 b, d, le-leb q 100 e)

pub not_is : (b : Bool) {d : Bool} → not b ≡ d → b ≡ not d
not_is true e = ap not e
not_is false e = ap not e

-- ---- the header's fields at place p; e is the refusal of a value

module _ (f : ℕ → ℕ) (s : List ℕ) (p e : ℕ) (i : p + 64 ≤ 8 * length s) {n p1 po p2 im p3 q p4 : ℕ}
    (N : Reads (field_dec e 8) s p (found n p1)) (P : Reads (field_dec e 8) s p1 (found po p2))
    (I : Reads (field_dec e 8) s p2 (found im p3)) (Q : Reads (field_dec e 8) s p3 (found q p4)) where
  abbrev four : Codec Bool (ℕ × (ℕ × (ℕ × ℕ)))
  four = then (field e 8) λ _. then (field e 8) λ _. then (field e 8) λ _. field e 8

  fours : Reads four.dec s p (found (n, (po, (im, q))) p4)
  fours = go_on _ _ N (go_on _ _ P (go_on _ _ I Q))

  pub fields_bad : (k : ℕ) → k ≤ 64 → head_fault f (n, (po, (im, q))) ≡ some k → Reads (head_fields e f).dec s p (fault e (p + k))
  fields_bad k l z = made _ _ (stop _ _ (flawed four e (head_fault f) k (omega arith) fours z))

  pub fields_good : {w p5 h p6 : ℕ} → head_fault f (n, (po, (im, q))) ≡ none → Reads (field_dec e 16) s p4 (found w p5) → Reads (field_dec e 16) s p5 (found h p6)
      → Reads (head_fields e f).dec s p (found (record { number = n; position = po; impression = im; quality = q; width = w; height = h }) p6)
  fields_good z W H = made _ _ (go_on _ _ (fine four e (head_fault f) fours z) (go_on _ _ W H))

pub fields_behind : (e : ℕ) (f : ℕ → ℕ) {s : List ℕ} {p q : ℕ} {x : ViewHeader} → p ≤ 8 * length s → Reads (head_fields e f).dec s p (found x q) → q ≡ p + 64
fields_behind e f i h = behind (head_fields e f) 64 (λ x. simp (length-append, length_bits)) i h

-- ---- the header at place p: the fields, then the skeleton's length

pub head_short : (f : ℕ → ℕ) (s : List ℕ) (p : ℕ) → p ≤ 8 * length s → 8 * length s - p < 80 → Reads (view_header f).dec s p (fault past p)
unfolding view_header
head_short f s p i h = room_past _ past 80 i h

module _ (f : ℕ → ℕ) (s : List ℕ) (p : ℕ) (i : p + 80 ≤ 8 * length s) where
  pub head_bad : {x : ℕ} → Reads (head_fields bad_view f).dec s p (fault bad_view x) → Reads (view_header f).dec s p (fault bad_view x)
  unfolding view_header
  head_bad h = room_there _ past 80 i (stop _ _ h)

  pub head_good : {x : ViewHeader} {p1 l p2 : ℕ} → Reads (head_fields bad_view f).dec s p (found x p1) → Reads (field_dec past 16) s p1 (found l p2)
      → Reads (view_header f).dec s p (found (x, l) p2)
  unfolding view_header
  head_good h l = room_there _ past 80 i (go_on _ _ h l)
