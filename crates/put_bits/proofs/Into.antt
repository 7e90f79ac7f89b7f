-- A number put into bits kept free. The bytes it reaches into are those that stood there with the number's added; the others stay.
use mathlib.Core.Path.{◌≡◌, refl, sym, ap, ap₂, ◌∙◌}
use Prim.Native.Nat.{ℕ, zero, suc, ◌+◌, ◌-◌, ◌*◌, ◌/◌, ◌%◌, ◌^◌, ◌≤◌, ◌<◌}
use native.Mathlib.Omega.{arith}
use native.Mathlib.Numerals.{add-one}
use native.Mathlib.Nat.{div-eq_of_lt}
use lib.Pow.{pow_pos}
use mathlib.Core.Bool.{false}
use mathlib.Core.List.{List, [], ◌∷◌, ◌++◌, append_assoc}
use lib.ListN.{length, get_or, set, take, drop, length-append, length-drop, length-replicate, take-append-drop}
use lib.Seq.{get_or-set_other, sets, sets-eq, length-sets, take_at, drop_at, drop-drop, drop-cons, length-take-le}
use Rattle.bits.specs.Bits.{Bits, number_of_bits, bits_of_number, zeros, pad, filled}
use Rattle.bits.specs.BitsLaws.{length_bits, filled_long}
use Rattle.bits.specs.Bytes.{bytes_of, in_bytes}
use Rattle.bits.specs.BytesLaws.{length_bytes_of}
use Rattle.put_bits.specs.Put.{Put, PutInto}
use Rattle.put_bits.proofs.Bytes.{number_zeros, bytes_append, bytes_take, filled_length, filled_to}
use Rattle.put_bits.proofs.ThreeBytes.{three, three_bytes, window_of, length_window, number_window, bytes_window}
use Rattle.put_bits.proofs.Sum.{Sum, sum_append, sum_left, sum_right, added, sum_bytes}

-- ---- bytes added

-- three bytes of the buffer
abbrev pub three_of : List ℕ → ℕ → List ℕ
three_of now i = get_or now i 0 ∷ get_or now (suc i) 0 ∷ get_or now (suc (suc i)) 0 ∷ []

first_of : (m : ℕ) (now : List ℕ) (i : ℕ) → m ≤ 3 → i + m ≤ length now → take m (three_of now i) ≡ take m (drop i now)
first_of zero now i f r = refl
first_of (suc zero) now i f r = rw (drop-cons now i 0 (omega arith)) refl
first_of (suc (suc zero)) now i f r = rw (drop-cons now i 0 (omega arith)) (rw (drop-cons now (suc i) 0 (omega arith)) refl)
first_of (suc (suc (suc zero))) now i f r =
    rw (drop-cons now i 0 (omega arith)) (rw (drop-cons now (suc i) 0 (omega arith)) (rw (drop-cons now (suc (suc i)) 0 (omega arith)) refl))
first_of (suc (suc (suc (suc m)))) now i f r = absurd (omega arith)

take_added : (m : ℕ) (ms ns : List ℕ) → take m (added ms ns) ≡ added (take m ms) (take m ns)
take_added zero ms ns = refl
take_added (suc m) [] ns = refl
take_added (suc m) (a ∷ ms) [] = refl
take_added (suc m) (a ∷ ms) (b ∷ ns) = ap (λ (r : List ℕ). (a + b) % 256 ∷ r) (take_added m ms ns)

-- ---- bits of some width between others, in bytes: m bytes hold them

module _ (xs ys : Bits) (width m : ℕ) (begins : (length xs % 8 + width + 7) / 8 ≡ m) where
  abbrev past : Bits
  past = take (8 * (length xs / 8)) xs

  abbrev last : Bits
  last = drop (8 * (length xs / 8)) xs

  abbrev after : Bits
  after = ys ++ zeros (pad (length xs + (width + length ys)))

  -- what is behind them in the m bytes, and then
  abbrev near : Bits
  near = take (8 * m - (length xs % 8 + width)) after

  abbrev far : List ℕ
  far = bytes_of ((length xs + (width + length ys) + 7) / 8 - (length xs / 8 + m)) (drop (8 * m - (length xs % 8 + width)) after)

  length_last : length last ≡ length xs % 8
  length_last = length-drop (8 * (length xs / 8)) xs ∙ omega arith

  length_near : length near ≡ 8 * m - (length xs % 8 + width)
  length_near =
      length-take-le (8 * m - (length xs % 8 + width)) after
      (let e = length-append ys (zeros (pad (length xs + (width + length ys)))) in
      let f = length-replicate (pad (length xs + (width + length ys))) false in
      omega arith)

  module _ (bs : Bits) (l : length bs ≡ width) where
    length_all : length (xs ++ (bs ++ ys)) ≡ length xs + (width + length ys)
    length_all = length-append xs (bs ++ ys) ∙ ap (λ (n : ℕ). length xs + n) (length-append bs ys ∙ ap (λ (n : ℕ). n + length ys) l)

    length_held : length ((last ++ bs) ++ near) ≡ 8 * m
    length_held = length-append (last ++ bs) near ∙ omega (arith, length-append last bs, length_last, length_near)

    all_filled : filled (xs ++ (bs ++ ys)) ≡ past ++ (((last ++ bs) ++ near) ++ drop (8 * m - (length xs % 8 + width)) after)
    all_filled =
        ap (λ (n : ℕ). (xs ++ (bs ++ ys)) ++ zeros (pad n)) length_all
        ∙ append_assoc xs (bs ++ ys) _ ∙ ap (λ (s : Bits). xs ++ s) (append_assoc bs ys _)
        ∙ ap (λ (s : Bits). s ++ (bs ++ after)) (sym (take-append-drop (8 * (length xs / 8)) xs))
        ∙ append_assoc past last (bs ++ after)
        ∙ ap (λ (s : Bits). past ++ s)
        (sym (append_assoc last bs after)
        ∙ ap (λ (s : Bits). (last ++ bs) ++ s) (sym (take-append-drop (8 * m - (length xs % 8 + width)) after))
        ∙ sym (append_assoc (last ++ bs) near _))

    parted : in_bytes (filled (xs ++ (bs ++ ys))) ≡ bytes_of (length xs / 8) past ++ (bytes_of m ((last ++ bs) ++ near) ++ far)
    parted =
        let k = (length xs + (width + length ys) + 7) / 8 - (length xs / 8 + m) in
        let n : length (filled (xs ++ (bs ++ ys))) / 8 ≡ length xs / 8 + (m + k) = omega (arith, filled_long (xs ++ (bs ++ ys)), length_all) in
        ap₂ (λ (j : ℕ) (s : Bits). bytes_of j s) n all_filled
        ∙ bytes_append (length xs / 8) (m + k) past _ (length-take-le (8 * (length xs / 8)) xs (omega arith))
        ∙ ap (λ (r : List ℕ). bytes_of (length xs / 8) past ++ r) (bytes_append m k ((last ++ bs) ++ near) _ length_held)

-- ---- the number into the zeros

-- m bytes are stored from the byte under way on; word is the number where it stands in three bytes
module _ (now : List ℕ) (at value width word m : ℕ) (fits : value < 2 ^ width) (room : at + width ≤ 8 * length now)
    (is_is_word : word ≡ 0 / 2 ^ (8 - at % 8) * 2 ^ (8 - at % 8 + 16) + value * 2 ^ (8 - at % 8 + 16 - width))
    (begins : (at % 8 + width + 7) / 8 ≡ m) (few : m ≤ 3) where
  -- the number alone, in m bytes
  abbrev alone : ℕ → Bits
  alone a = (zeros a ++ bits_of_number width value) ++ zeros (8 * m - (a + width))

  word_bytes : (a : ℕ) → a ≡ at % 8 → take m (three word) ≡ bytes_of m (alone a)
  word_bytes a e =
      let k : length (zeros a) ≡ a = length-replicate a false in
      let l : length (zeros a) + width ≤ 24 = omega arith in
      let w : Bits = window_of (zeros a) value width in
      let z : 0 / 2 ^ (8 - at % 8) ≡ number_of_bits (zeros a) = div-eq_of_lt (pow_pos (8 - at % 8)) ∙ sym (number_zeros a) in
      let n : word ≡ number_of_bits w =
      is_is_word ∙ ap (λ (v : ℕ). v * 2 ^ (8 - at % 8 + 16) + value * 2 ^ (8 - at % 8 + 16 - width)) z
      ∙ sym (number_window (zeros a) value width l (8 - at % 8) (omega arith) fits) in
      let h : length (zeros a ++ bits_of_number width value) ≡ a + width = length-append (zeros a) (bits_of_number width value) ∙ omega (arith, k, length_bits width value) in
      let (_, f) = filled_to (zeros a ++ bits_of_number width value) m (omega arith) in
      ap (λ (v : ℕ). take m (three v)) n ∙ ap (take m) (sym (three_bytes w (length_window (zeros a) value width l))) ∙ bytes_take m 3 w few
      ∙ sym (bytes_window (zeros a) value width l m (omega arith)) ∙ f ∙ ap (λ (j : ℕ). bytes_of m ((zeros a ++ bits_of_number width value) ++ zeros (8 * m - j))) h

  module _ (xs ys : Bits) (before : List ℕ) (end : ℕ) (l : length xs ≡ at) (p : Put (xs ++ (zeros width ++ ys)) before now end) where
    begun : (length xs % 8 + width + 7) / 8 ≡ m
    begun = rw l begins

    abbrev held : Bits → Bits
    held bs = (last xs ys width m begun ++ bs) ++ near xs ys width m begun

    -- with the number
    held_bytes : bytes_of m (held (bits_of_number width value)) ≡ added (bytes_of m (held (zeros width))) (bytes_of m (alone (length xs % 8)))
    held_bytes =
        let u : Bits = last xs ys width m begun in
        let q : Bits = near xs ys width m begun in
        let v : Bits = bits_of_number width value in
        let o : Bits = zeros (length xs % 8) in
        let a : Sum u o u = rw (length_last xs ys width m begun) at (sum_right u) in
        let b : Sum (zeros width) v v = rw (length_bits width value) at (sum_left v) in
        let c : Sum q (zeros (8 * m - (length xs % 8 + width))) q = rw (length_near xs ys width m begun) at (sum_right q) in
        sum_bytes m (held (zeros width)) (alone (length xs % 8)) (held v)
        (sum_append (u ++ zeros width) (o ++ v) (u ++ v) q (zeros (8 * m - (length xs % 8 + width))) q (sum_append u o u (zeros width) v v a b) c)

    abbrev i : ℕ
    i = length xs / 8

    abbrev lent : List ℕ
    lent = drop (length (in_bytes (filled (xs ++ (zeros width ++ ys))))) before

    now_is : now ≡ bytes_of i (past xs ys width m begun) ++ (bytes_of m (held (zeros width)) ++ (far xs ys width m begun ++ lent))
    now_is =
        p.is ∙ ap (λ (r : List ℕ). r ++ lent) (parted xs ys width m begun (zeros width) (length-replicate width false))
        ∙ append_assoc (bytes_of i (past xs ys width m begun)) _ lent
        ∙ ap (λ (r : List ℕ). bytes_of i (past xs ys width m begun) ++ r) (append_assoc (bytes_of m (held (zeros width))) (far xs ys width m begun) lent)

    behind : drop i now ≡ bytes_of m (held (zeros width)) ++ (far xs ys width m begun ++ lent)
    behind = ap (drop i) now_is ∙ drop_at (bytes_of i (past xs ys width m begun)) _ i (length_bytes_of i (past xs ys width m begun))

    stored : take m (added (three_of now i) (three word)) ≡ bytes_of m (held (bits_of_number width value))
    stored =
        take_added m (three_of now i) (three word)
        ∙ ap₂ added
        (first_of m now i few (omega arith) ∙ ap (take m) behind ∙ take_at (bytes_of m (held (zeros width))) _ m (length_bytes_of m (held (zeros width))))
        (word_bytes (length xs % 8) (omega arith))
        ∙ sym held_bytes

    same_long : length (in_bytes (filled (xs ++ (zeros width ++ ys)))) ≡ length (in_bytes (filled (xs ++ (bits_of_number width value ++ ys))))
    same_long =
        omega (
          arith,
          filled_length (xs ++ (zeros width ++ ys)),
          filled_length (xs ++ (bits_of_number width value ++ ys)),
          length_all xs ys width m begun (zeros width) (length-replicate width false),
          length_all xs ys width m begun (bits_of_number width value) (length_bits width value),
        )

    with_number : Put (xs ++ (bits_of_number width value ++ ys)) before (sets now i (take m (added (three_of now i) (three word)))) end
    with_number =
        let v : Bits = bits_of_number width value in
        let f : List ℕ = bytes_of i (past xs ys width m begun) in
        let h : List ℕ = bytes_of m (held v) in
        let o : List ℕ = bytes_of m (held (zeros width)) in
        let t : List ℕ = far xs ys width m begun ++ lent in
        let n : length h ≡ m = length_bytes_of m (held v) in
        let x : take i now ≡ f = ap (take i) now_is ∙ take_at f (o ++ t) i (length_bytes_of i (past xs ys width m begun)) in
        let y : drop (i + length h) now ≡ t = ap (λ (j : ℕ). drop (i + j) now) n ∙ sym (drop-drop m i now) ∙ ap (drop m) behind ∙ drop_at o t m (length_bytes_of m (held (zeros width))) in
        let z : in_bytes (filled (xs ++ (v ++ ys))) ++ drop (length (in_bytes (filled (xs ++ (v ++ ys))))) before ≡ f ++ (h ++ t) =
        ap₂ (λ (a : List ℕ) (j : ℕ). a ++ drop j before) (parted xs ys width m begun v (length_bits width value)) (sym same_long)
        ∙ append_assoc f (h ++ far xs ys width m begun) lent ∙ ap (λ (r : List ℕ). f ++ r) (append_assoc h (far xs ys width m begun) lent) in
        record {
          count = omega (arith, p.count, length_all xs ys width m begun (zeros width) (length-replicate width false), length_all xs ys width m begun v (length_bits width value));
          is = ap (sets now i) stored ∙ sets-eq h now i (omega arith) ∙ ap₂ (λ (a b : List ℕ). a ++ h ++ b) x y ∙ append_assoc f h t ∙ sym z;
        }

  pub put_into : PutInto now at value width (sets now (at / 8) (take m (added (three_of now (at / 8)) (three word))))
  put_into =
      record {
        is = λ xs ys before end l p. rw l at (with_number xs ys before end l p);
        same = length-sets now (at / 8) (take m (added (three_of now (at / 8)) (three word)));
      }

-- a number of no bits
pub into_nothing : (now : List ℕ) (at value width : ℕ) → width ≡ 0 → PutInto now at value width now
unfolding bits_of_number
into_nothing now at value width e = rw e (record { is = λ xs ys before end l p. p; same = refl })

-- ---- bytes added one by one

module _ (now : List ℕ) (i word : ℕ) {one : List ℕ} (a : one ≡ set now i ((get_or now i 0 + word / 65536 % 256) % 256)) where
  pub two_added : {two : List ℕ} → two ≡ set one (i + 1) ((get_or one (i + 1) 0 + word / 256 % 256) % 256) → two ≡ sets now i (take 2 (added (three_of now i) (three word)))
  two_added b =
      let x = (get_or now i 0 + word / 65536 % 256) % 256 in
      let g : get_or (set now i x) (suc i) 0 ≡ get_or now (suc i) 0 = get_or-set_other now i (suc i) x 0 (λ e. omega (arith, e)) in
      rw (add-one i, a, g) at b

  pub three_added : {two three' : List ℕ} → two ≡ set one (i + 1) ((get_or one (i + 1) 0 + word / 256 % 256) % 256)
      → three' ≡ set two (i + 2) ((get_or two (i + 2) 0 + word % 256) % 256) → three' ≡ sets now i (take 3 (added (three_of now i) (three word)))
  three_added b c =
      let x = (get_or now i 0 + word / 65536 % 256) % 256 in
      let y = (get_or now (suc i) 0 + word / 256 % 256) % 256 in
      let d : i + 2 ≡ suc (suc i) = omega arith in
      let g : get_or (set (set now i x) (suc i) y) (suc (suc i)) 0 ≡ get_or now (suc (suc i)) 0 =
      get_or-set_other (set now i x) (suc i) (suc (suc i)) y 0 (λ e. omega (arith, e)) ∙ get_or-set_other now i (suc (suc i)) x 0 (λ e. omega (arith, e)) in
      rw (d, two_added b, g) at c
