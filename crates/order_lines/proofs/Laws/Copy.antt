-- Copying bits: a number that is read and put is the bits that it was read from, and bits that are copied part by part are copied.
use mathlib.Core.Path.{◌≡◌, sym, ap, ap₂, ◌∙◌}
use Prim.Native.Nat.{ℕ, ◌+◌, ◌-◌, ◌*◌, ◌/◌, ◌%◌, ◌^◌, ◌≤◌, ◌<◌}
use native.Mathlib.Omega.{arith}
use mathlib.Core.List.{List, ◌++◌}
use lib.ListN.{length, get_or, set, take, drop, length-take}
use lib.Seq.{drop-drop, length-take-le, take-add}
use Rattle.bits.specs.Bits.{Bits, number_of_bits, bits_of_number}
use Rattle.bits.specs.BitsLaws.{bits_number}
use Rattle.bits.specs.Bytes.{bits_of}
use Rattle.bits.specs.Codec.{field_dec}
use Rattle.bits.specs.Reads.{found, Reads}
use Rattle.bits.proofs.Laws.Place.{number_small, out_of_two}
use Rattle.bits.proofs.Laws.Reads.{length_rest, field_got}
use Rattle.put_bits.specs.Put.{PutMore}
use Rattle.put_bits.proofs.Laws.{put_byte}
use Rattle.put_bits.proofs.Chain.{puts_one, puts_none, ◌then◌, puts_as}
use Rattle.order_lines.specs.Copy.{CopyThere, Copied}

-- ---- a number that is put

pub field_number : (e n : ℕ) {s : List ℕ} {p v q : ℕ} → Reads (field_dec e n) s p (found v q) → v ≡ number_of_bits (take n (drop p (bits_of s)))
field_number e n {s} {p} h = sym (field_got e n (drop p (bits_of s)) h.is).1

-- v is the number of the n bits at place p
module _ (s : List ℕ) (p n : ℕ) {v : ℕ} (is : v ≡ number_of_bits (take n (drop p (bits_of s)))) (l : p + n ≤ 8 * length s) where
  long : length (take n (drop p (bits_of s))) ≡ n
  long = length-take-le n (drop p (bits_of s)) (omega (arith, length_rest s p))

  bits_are : bits_of_number n v ≡ take n (drop p (bits_of s))
  bits_are = ap₂ bits_of_number (sym long) is ∙ bits_number (take n (drop p (bits_of s)))

  pub copied_number : {now next : List ℕ} {q r : ℕ} → PutMore now q v n next r → Copied s p (p + n) now q next r
  copied_number h =
      let z : p + n - p ≡ n = omega arith in
      puts_as (bits_are ∙ ap (λ (k : ℕ). take k (drop p (bits_of s))) (sym z)) (puts_one h)

-- ---- part by part

pub copied_none : (s : List ℕ) (p : ℕ) (old : List ℕ) (at : ℕ) → Copied s p p old at old at
copied_none s p old at = let z : p - p ≡ 0 = omega arith in rw z (puts_none old at)

module _ (s : List ℕ) (p f : ℕ) {old : List ℕ} {at : ℕ} {mid : List ℕ} {q : ℕ} (i : p ≤ f) (c : Copied s p f old at mid q) where
  pub copied_join : (end : ℕ) {now : List ℕ} {r : ℕ} → f ≤ end → Copied s f end mid q now r → Copied s p end old at now r
  copied_join end j d =
      let k : ℕ = f - p in
      let n : ℕ = end - f in
      let z : end - p ≡ k + n = omega arith in
      let y : p + k ≡ f = omega arith in
      let x : drop k (drop p (bits_of s)) ≡ drop f (bits_of s) = drop-drop k p (bits_of s) ∙ ap (λ (m : ℕ). drop m (bits_of s)) y in
      puts_as (sym (ap (λ (m : ℕ). take m (drop p (bits_of s))) z ∙ take-add k n (drop p (bits_of s)) ∙ ap (λ (ys : Bits). take k (drop p (bits_of s)) ++ take n ys) x)) (c then d)

  pub copied_place : f ≤ 8 * length s → (q ≡ at + (f - p)) × (length mid ≡ length old)
  copied_place l =
      (c.place ∙ ap (λ (n : ℕ). at + n) (length-take-le (f - p) (drop p (bits_of s)) (omega (arith, length_rest s p))), c.same)

  -- there is room for the rest
  pub room_behind : {end g : ℕ} → CopyThere s p end old at → f ≤ g → g ≤ end → CopyThere s f g mid q
  room_behind h j k =
      let (e, n) = copied_place (omega (arith, h.there)) in
      record {
        short = h.short;
        order = j;
        there = omega (arith, h.there);
        room = record { room = omega (arith, h.room.room, e, n); near = omega (arith, h.room.near, e) };
      }

-- ---- byte by byte: i of them are copied, from place p on, behind a bytes

abbrev pub BytesCopied : (s : List ℕ) (p a i : ℕ) (old now : List ℕ) → Type 0
BytesCopied s p a i old now = Copied s p (p + 8 * i) old (8 * a) now (8 * (a + i))

pub bytes_none : (s : List ℕ) (p a : ℕ) (old : List ℕ) → BytesCopied s p a 0 old old
bytes_none s p a old =
    let e : p + 8 * 0 ≡ p = omega arith in
    let f : 8 * (a + 0) ≡ 8 * a = omega arith in
    rw (e, f) (copied_none s p old (8 * a))

-- the next, as the code has it
module _ (s : List ℕ) (p a i : ℕ) (small : (j : ℕ) → get_or s j 0 < 2 ^ 8) (there : p + 8 * (i + 1) ≤ 8 * length s) {x y : ℕ}
    (first : x ≡ get_or s (p / 8 + i) 0) (last : y ≡ get_or s ((p + 7) / 8 + i) 0) where
  abbrev next_byte : ℕ
  next_byte = (x * 256 + y) * 2 ^ (p % 8 + 48) % 2 ^ 64 / 2 ^ 56

  next_is : next_byte ≡ number_of_bits (take 8 (drop (p + 8 * i) (bits_of s)))
  next_is =
      let at = p + 8 * i in
      let d : at / 8 ≡ p / 8 + i = omega arith in
      let e : (at + 8 - 1) / 8 ≡ (p + 7) / 8 + i = omega arith in
      out_of_two s at 8 (omega arith) small (sym e) (omega arith) (omega arith) (first ∙ ap (λ (j : ℕ). get_or s j 0) (sym d)) last (omega arith)

  next_small : next_byte < 256
  next_small = omega (arith, next_is, number_small (drop (p + 8 * i) (bits_of s)) 8)

  pub bytes_more : {old now : List ℕ} → BytesCopied s p a i old now → a + i < length now
      → BytesCopied s p a (i + 1) old (set now (a + i) next_byte)
  bytes_more {now = now} c l =
      let e : p + 8 * i + 8 ≡ p + 8 * (i + 1) = omega arith in
      let f : 8 * (a + i) + 8 ≡ 8 * (a + (i + 1)) = omega arith in
      let one = copied_number s (p + 8 * i) 8 next_is (omega arith) (put_byte now (a + i) next_byte next_small l) in
      rw (e, f) at (copied_join s p (p + 8 * i) (omega arith) c (p + 8 * i + 8) (omega arith) one)

-- no more are put than were asked for
pub copied_few : (s : List ℕ) (p end : ℕ) {old : List ℕ} {at : ℕ} {now : List ℕ} {r : ℕ} → Copied s p end old at now r → r ≤ at + (end - p)
copied_few s p end h = omega (arith, h.place, length-take (end - p) (drop p (bits_of s)))
