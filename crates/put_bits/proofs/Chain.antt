-- Bits put one behind the other: what several writers leave is what one would that puts all their bits.
use mathlib.Core.Path.{◌≡◌, refl, sym, ap, ◌∙◌}
use Prim.Native.Nat.{ℕ, ◌+◌}
use native.Mathlib.Omega.{arith}
use mathlib.Core.Bool.{Bool}
use mathlib.Core.List.{List, [], ◌∷◌, ◌++◌, append_assoc, append-nil}
use lib.ListN.{length, length-append}
use Rattle.bits.specs.Bits.{Bits, bits_of_number}
use Rattle.bits.specs.BitsLaws.{length_bits}
use Rattle.bits.specs.Codec.{Codec}
use Rattle.bits.specs.CodecLaws.{enc_all}
use Rattle.put_bits.specs.Put.{PutMore, PutInto, Puts, Room}
use Rattle.put_bits.proofs.Bytes.{zero_bits}

pub puts_one : {old now : List ℕ} {at value width r : ℕ} → PutMore old at value width now r → Puts (bits_of_number width value) old at now r
puts_one {value = value} {width = width} h = record { is = h.is; same = h.same; place = omega (arith, h.place, length_bits width value) }

-- none, and more behind others
pub puts_none : (old : List ℕ) (at : ℕ) → Puts [] old at old at
puts_none old at = record { is = λ xs before p. rw append-nil p; same = refl; place = omega arith }

infixr 50 ◌then◌
pub ◌then◌ : {a b : Bits} {old mid now : List ℕ} {at p r : ℕ} → Puts a old at mid p → Puts b mid p now r → Puts (a ++ b) old at now r
◌then◌ {a} {b} h k =
    record {
      is = λ xs before p. rw (append_assoc xs a b) at (k.is (xs ++ a) before (h.is xs before p));
      same = k.same ∙ h.same;
      place = omega (arith, h.place, k.place, length-append a b);
    }

-- into zeros that were put first, with others behind them
pub puts_later : (width : ℕ) (ys : Bits) {value : ℕ} {old mid now : List ℕ} {at r : ℕ} → Puts (bits_of_number width 0 ++ ys) old at mid r → PutInto mid at value width now
    → Puts (bits_of_number width value ++ ys) old at now r
puts_later width ys {value} {r = r} h k =
    record {
      is = λ xs before p. k.is xs ys before r (sym p.count) (rw (zero_bits width) at (h.is xs before p));
      same = k.same ∙ h.same;
      place = omega (arith, h.place, length-append (bits_of_number width 0) ys, length-append (bits_of_number width value) ys, length_bits width 0, length_bits width value);
    }

pub puts_as : {a b : Bits} {old now : List ℕ} {at r : ℕ} → a ≡ b → Puts a old at now r → Puts b old at now r
puts_as e h = rw e at h

-- ---- bits of which some are put: rest is still to come of all

pub record Putting (rest all : Bits) (old : List ℕ) (at : ℕ) (now : List ℕ) (q : ℕ) : Type 0 where
  pub done : Bits
  pub puts : Puts done old at now q
  pub whole : done ++ rest ≡ all

pub putting_none : (all : Bits) (old : List ℕ) (at : ℕ) → Putting all all old at old at
putting_none all old at = record { done = []; puts = puts_none old at; whole = refl }

putting_place : {rest all : Bits} {old : List ℕ} {at : ℕ} {now : List ℕ} {q : ℕ} → Putting rest all old at now q → q + length rest ≡ at + length all
putting_place {rest} h = omega (arith, h.puts.place, ap length h.whole, length-append h.done rest)

module _ (x rest : Bits) {all : Bits} {old : List ℕ} {at : ℕ} {now : List ℕ} {q : ℕ} (h : Putting (x ++ rest) all old at now q) where
  pub putting_more : {next : List ℕ} {r : ℕ} → Puts x now q next r → Putting rest all old at next r
  putting_more k = record { done = h.done ++ x; puts = h.puts then k; whole = append_assoc h.done x rest ∙ h.whole }

  pub putting_within : q + length x + length rest ≡ at + length all
  putting_within = omega (arith, putting_place h, length-append x rest)

  pub putting_room : Room old at (length all) → Room now q (length x)
  putting_room r = record { room = omega (arith, r.room, h.puts.same, putting_within); near = omega (arith, r.near, putting_within) }

pub putting_all : {all : Bits} {old : List ℕ} {at : ℕ} {now : List ℕ} {q : ℕ} → Putting [] all old at now q → Puts all old at now q
putting_all h = puts_as (sym (append-nil h.done) ∙ h.whole) h.puts

-- ---- values one behind the other

pub enc_snoc : {A : Type 0} (c : Codec Bool A) (xs : List A) (x : A) → enc_all c (xs ++ x ∷ []) ≡ enc_all c xs ++ c.enc x
enc_snoc c [] x = append-nil (c.enc x)
enc_snoc c (y ∷ xs) x = ap (λ (s : Bits). c.enc y ++ s) (enc_snoc c xs x) ∙ sym (append_assoc (c.enc y) (enc_all c xs) (c.enc x))
