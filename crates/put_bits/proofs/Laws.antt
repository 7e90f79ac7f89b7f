-- The laws of bits that are put. First those that users of the writers need; then what a buffer with bits put is made of, and that
-- the bytes which put_bits stores put a number behind them.
use mathlib.Core.Path.{◌≡◌, refl, sym, ap, ap₂, ◌∙◌}
use Prim.Native.Nat.{ℕ, ◌+◌, ◌-◌, ◌*◌, ◌/◌, ◌%◌, ◌^◌, ◌≤◌, ◌<◌}
use native.Mathlib.Omega.{arith}
use native.Mathlib.Nat.{div-eq_of_lt}
use mathlib.Core.List.{List, [], ◌++◌, append_assoc, append-nil}
use lib.ListN.{length, get_or, set, take, drop, length-append, length-drop, take-append-drop}
use lib.Pow.{shl-shr}
use lib.Seq.{sets, sets-eq, length-sets, take_at, length-take-le, drop-append-add, drop-drop, get_or_at}
use Rattle.bits.specs.ChoiceLaws.{eq_split}
use Rattle.bits.specs.Bits.{Bits, number_of_bits, bits_of_number, filled}
use Rattle.bits.specs.BitsLaws.{length_bits}
use Rattle.bits.specs.Bytes.{bytes_of, in_bytes}
use Rattle.bits.specs.BytesLaws.{length_bytes_of}
use Rattle.put_bytes.specs.Laid.{Laid}
use Rattle.put_bits.specs.Put.{Put, PutMore}
use Rattle.put_bits.proofs.Bytes.{number_none, bytes_take, filled_append, filled_length, one_byte}
use Rattle.put_bits.proofs.ThreeBytes.{three, three_bytes, window_of, length_window, number_window, bytes_window}

-- ---- for users

-- before any bit
pub put_none : (before : List ℕ) → Put [] before before 0
unfolding bytes_of
put_none before = record { count = refl; is = refl }

-- bits put are bytes laid, filled up
pub put_laid : {xs : Bits} {before now : List ℕ} {at n : ℕ} → Put xs before now at → n ≡ (at + 7) / 8 → Laid (in_bytes (filled xs)) before now n
put_laid {xs} p e = record { count = omega (arith, filled_length xs, p.count); is = p.is }

-- ---- what a buffer with bits put is made of

-- the bits of the bytes before the one under way, and its own
abbrev past : ℕ → Bits → Bits
past at xs = take (8 * (at / 8)) xs

abbrev last : ℕ → Bits → Bits
last at xs = drop (8 * (at / 8)) xs

module _ {xs : Bits} {before now : List ℕ} {at : ℕ} (p : Put xs before now at) where
  length_past_lem : length (past at xs) ≡ 8 * (at / 8)
  length_past_lem = length-take-le (8 * (at / 8)) xs (omega (arith, p.count))

  length_last : length (last at xs) ≡ at % 8
  length_last = length-drop (8 * (at / 8)) xs ∙ omega (arith, p.count)

  -- its bytes, whatever bits follow
  with_last : (zs : Bits) → in_bytes (filled (xs ++ zs)) ≡ bytes_of (at / 8) (past at xs) ++ in_bytes (filled (last at xs ++ zs))
  with_last zs =
      ap (λ (s : Bits). in_bytes (filled (s ++ zs))) (sym (take-append-drop (8 * (at / 8)) xs))
      ∙ ap (λ (s : Bits). in_bytes (filled s)) (append_assoc (past at xs) (last at xs) zs)
      ∙ filled_append (at / 8) (past at xs) (last at xs ++ zs) length_past_lem

  now_is : now ≡ bytes_of (at / 8) (past at xs) ++ (in_bytes (filled (last at xs)) ++ drop (length (in_bytes (filled xs))) before)
  now_is =
      p.is ∙ ap (λ (l : List ℕ). l ++ drop (length (in_bytes (filled xs))) before) (simp append-nil at (with_last []))
      ∙ append_assoc (bytes_of (at / 8) (past at xs)) _ _

  front : take (at / 8) now ≡ bytes_of (at / 8) (past at xs)
  front = ap (take (at / 8)) now_is ∙ take_at (bytes_of (at / 8) (past at xs)) _ (at / 8) (length_bytes_of (at / 8) (past at xs))

  behind : (n : ℕ) → at / 8 < n → drop n now ≡ drop n before
  behind n l =
      let a = length (in_bytes (filled xs)) in
      let e : a + (n - a) ≡ n = omega (arith, filled_length xs, p.count) in
      ap (drop n) p.is ∙ ap (λ (j : ℕ). drop j (in_bytes (filled xs) ++ drop a before)) (sym e)
      ∙ drop-append-add (in_bytes (filled xs)) (drop a before) (n - a) ∙ drop-drop (n - a) a before ∙ ap (λ (j : ℕ). drop j before) e

  -- the byte under way starts with its bits; where there is none yet, none are
  begun : (byte : ℕ) → byte ≡ get_or now (at / 8) 0 → byte < 256 → byte / 2 ^ (8 - at % 8) ≡ number_of_bits (last at xs)
  begun byte g h =
      eq_split (at % 8) 0
      (λ e. rw e (div-eq_of_lt h ∙ sym (number_none (last at xs) (length_last ∙ e))))
      (λ e. let o = one_byte (last at xs) (omega (arith, length_last)) (omega (arith, length_last)) in
      let v : byte ≡ number_of_bits (last at xs) * 2 ^ (8 - length (last at xs)) =
      g ∙ ap (λ (l : List ℕ). get_or l (at / 8) 0) (now_is ∙ ap (λ (l : List ℕ). bytes_of (at / 8) (past at xs) ++ (l ++ drop (length (in_bytes (filled xs))) before)) o)
      ∙ get_or_at (bytes_of (at / 8) (past at xs)) _ _ 0 (at / 8) (length_bytes_of (at / 8) (past at xs)) in
      ap (λ (n : ℕ). n / 2 ^ (8 - at % 8)) (v ∙ ap (λ (n : ℕ). number_of_bits (last at xs) * 2 ^ (8 - n)) length_last) ∙ shl-shr (number_of_bits (last at xs)) (8 - at % 8))

-- ---- a number behind them

-- m bytes of the window are stored from the byte under way on; kept is the number of its bits, word the window
module _ (now : List ℕ) (at value width kept word m : ℕ) (fits : value < 2 ^ width) (room : at + width ≤ 8 * length now)
    (is_kept : (xs : Bits) (before : List ℕ) → Put xs before now at → kept ≡ number_of_bits (last at xs))
    (is_is_word : word ≡ kept * 2 ^ (8 - at % 8 + 16) + value * 2 ^ (8 - at % 8 + 16 - width))
    (begins : (at % 8 + width + 7) / 8 ≡ m) (some : 1 ≤ m) (few : m ≤ 3) where
  stored : {xs : Bits} {before : List ℕ} → Put xs before now at → Put (xs ++ bits_of_number width value) before (sets now (at / 8) (take m (three word))) (at + width)
  stored {xs} {before} p =
      let i = at / 8 in
      let ys : Bits = last at xs in
      let l : length ys ≡ at % 8 = length_last p in
      let k : length ys + width ≤ 24 = omega arith in
      let w : Bits = window_of ys value width in
      let n : word ≡ number_of_bits w =
      is_is_word ∙ ap (λ (v : ℕ). v * 2 ^ (8 - at % 8 + 16) + value * 2 ^ (8 - at % 8 + 16 - width)) (is_kept xs before p)
      ∙ sym (number_window ys value width k (8 - at % 8) (omega arith) fits) in
      let vs : take m (three word) ≡ bytes_of m w =
      ap (λ (v : ℕ). take m (three v)) n ∙ ap (take m) (sym (three_bytes w (length_window ys value width k))) ∙ bytes_take m 3 w few in
      let lv : length (bytes_of m w) ≡ m = length_bytes_of m w in
      let f : in_bytes (filled (xs ++ bits_of_number width value)) ≡ bytes_of i (past at xs) ++ bytes_of m w =
      with_last p (bits_of_number width value) ∙ ap (λ (x : List ℕ). bytes_of i (past at xs) ++ x) (bytes_window ys value width k m (rw l begins)) in
      let lf : length (in_bytes (filled (xs ++ bits_of_number width value))) ≡ i + m =
      ap length f ∙ length-append (bytes_of i (past at xs)) (bytes_of m w) ∙ omega (arith, length_bytes_of i (past at xs)) in
      record {
        count = sym (length-append xs (bits_of_number width value) ∙ omega (arith, p.count, length_bits width value));
        is =
            ap (sets now i) vs ∙ sets-eq (bytes_of m w) now i (omega arith)
            ∙ ap₂ (λ (x y : List ℕ). x ++ bytes_of m w ++ y) (front p) (ap (λ (j : ℕ). drop (i + j) now) lv ∙ behind p (i + m) (omega arith))
            ∙ sym (ap₂ (λ (x : List ℕ) (j : ℕ). x ++ drop j before) f lf);
      }

  put_stored : PutMore now at value width (sets now (at / 8) (take m (three word))) (at + width)
  put_stored = record { is = λ xs before p. stored p; same = length-sets now (at / 8) (take m (three word)); place = refl }

-- byte is what was there
pub put_more : (now : List ℕ) (at value width byte word m : ℕ) → value < 2 ^ width → at + width ≤ 8 * length now → byte ≡ get_or now (at / 8) 0 → byte < 256
    → word ≡ byte / 2 ^ (8 - at % 8) * 2 ^ (8 - at % 8 + 16) + value * 2 ^ (8 - at % 8 + 16 - width) → (at % 8 + width + 7) / 8 ≡ m → 1 ≤ m → m ≤ 3
    → PutMore now at value width (sets now (at / 8) (take m (three word))) (at + width)
put_more now at value width byte word m fits room is_byte_lem is_small =
    put_stored now at value width (byte / 2 ^ (8 - at % 8)) word m fits room (λ xs before p. begun p byte is_byte_lem is_small)

-- a byte, where none is under way
pub put_byte : (now : List ℕ) (j value : ℕ) → value < 256 → j < length now → PutMore now (8 * j) value 8 (set now j value) (8 * j + 8)
put_byte now j value fits there =
    let d : 8 * j / 8 ≡ j = omega arith in
    let z : 8 * j % 8 ≡ 0 = omega arith in
    let first : value * 65536 / 65536 % 256 ≡ value = omega arith in
    rw (d, first) at
    (put_stored now (8 * j) value 8 0 (value * 65536) 1 fits (omega arith) (λ xs before p. sym (number_none (last (8 * j) xs) (length_last p ∙ z))) (rw z (omega arith)) (omega arith) (omega arith) (omega arith))

-- a number of no bits
pub put_nothing : (now : List ℕ) (at value width : ℕ) → width ≡ 0 → PutMore now at value width now at
unfolding bits_of_number
put_nothing now at value width e = rw e (record { is = λ xs before p. rw append-nil p; same = refl; place = omega arith })
