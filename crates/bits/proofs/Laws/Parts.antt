-- The laws of a block that is a part of the bytes, and of a block behind its length.
use mathlib.Core.Path.{◌≡◌, refl, sym, ap, ap₂, ◌∙◌}
use Prim.Native.Nat.{ℕ, zero, suc, ◌+◌, ◌-◌, ◌*◌, ◌≤◌, ◌<◌}
use native.Mathlib.Omega.{arith}
use native.Mathlib.Decide.{dec_le}
use native.Mathlib.Nat.{lt_of_not-le}
use mathlib.Core.Bool.{Bool}
use mathlib.Core.Option.{some}
use mathlib.Core.List.{List, [], ◌∷◌, ◌++◌}
use lib.ListN.{length, take, drop, length-drop, length-take, drop_of_length-le, take-append-drop}
use lib.Seq.{drop-drop, drop_at, take_at, take-add, take_all, take-take, length-take-le}
use lib.Dec.{T, leb, le→leb}
use mir.Facts.{no_leb}
use Rattle.bits.specs.ChoiceLaws.{pick_yes, pick_no}
use Rattle.bits.specs.Bits.{Bits, number_of_bits, bits_of_number}
use Rattle.bits.specs.BitsLaws.{length_bits}
use Rattle.bits.specs.Lists.{All}
use Rattle.bits.specs.ListsLaws.{all_front, all_rest}
use Rattle.bits.specs.Bytes.{Byte, bits_of}
use Rattle.bits.specs.BytesLaws.{length_bits_of}
use Rattle.bits.specs.Codec.{Read, got, refused, next, field_dec, times_dec}
use Rattle.bits.specs.CodecLaws.{field}
use Rattle.bits.specs.Block.{Block, maybe_dec, sized_dec, inside}
use Rattle.bits.specs.SizedLaws.{sized, prefixed}
use Rattle.bits.specs.Reads.{Found, found, fault, Reads, keeping}
use Rattle.bits.proofs.Laws.Reads.{length_rest, first_field, known, go_on, stop, made, keeps, field_past, keeping_got, keeping_refused}

-- ---- a block of the bytes

pub bits_drop : (b : ℕ) (s : List ℕ) → bits_of (drop b s) ≡ drop (8 * b) (bits_of s)
unfolding bits_of
bits_drop zero s = refl
bits_drop (suc b) [] = sym (drop_of_length-le [] {i = 8 * suc b} (omega arith))
bits_drop (suc b) (x ∷ s) =
    let e : 8 * suc b ≡ 8 + 8 * b = omega arith in
    bits_drop b s
    ∙ ap (drop (8 * b)) (sym (drop_at (bits_of_number 8 x) (bits_of s) 8 (length_bits 8 x)))
    ∙ drop-drop (8 * b) 8 (bits_of_number 8 x ++ bits_of s)
    ∙ ap (λ (k : ℕ). drop k (bits_of_number 8 x ++ bits_of s)) (sym e)

pub bits_take : (n : ℕ) (s : List ℕ) → bits_of (take n s) ≡ take (8 * n) (bits_of s)
unfolding bits_of
bits_take zero s = refl
bits_take (suc n) [] = sym (take_all (8 * suc n) [] (omega arith))
bits_take (suc n) (x ∷ s) =
    let e : 8 * suc n ≡ 8 + 8 * n = omega arith in
    ap (λ (r : Bits). bits_of_number 8 x ++ r) (bits_take n s)
    ∙ sym (ap (λ (k : ℕ). take k (bits_of_number 8 x ++ bits_of s)) e
    ∙ take-add 8 (8 * n) (bits_of_number 8 x ++ bits_of s)
    ∙ ap₂ (λ (a b : Bits). a ++ take (8 * n) b) (take_at (bits_of_number 8 x) (bits_of s) 8 (length_bits 8 x)) (drop_at (bits_of_number 8 x) (bits_of s) 8 (length_bits 8 x)))

abbrev pub part : List ℕ → ℕ → ℕ → List ℕ
part s b n = take n (drop b s)

pub part_bits : (s : List ℕ) (b n : ℕ) → bits_of (part s b n) ≡ take (8 * n) (drop (8 * b) (bits_of s))
part_bits s b n = bits_take n (drop b s) ∙ ap (take (8 * n)) (bits_drop b s)

pub part_length : (s : List ℕ) (b n : ℕ) → b + n ≤ length s → length (part s b n) ≡ n
part_length s b n h = simp (length-take, length-drop) (omega arith)

pub part_bytes : (s : List ℕ) (b n : ℕ) → All Byte s → All Byte (part s b n)
part_bytes s b n h =
    let behind : All Byte (drop b s) = all_rest Byte (take b s) (drop b s) (rw (take-append-drop b s) h) in
    all_front Byte (part s b n) (drop n (drop b s)) (rw (take-append-drop n (drop b s)) behind)

-- a part of a part
pub part_part : (s : List ℕ) (b n k m : ℕ) → b + n ≤ length s → k + m ≤ n → part (part s b n) k m ≡ part s (b + k) m
part_part s b n k m h l =
    let e : k + (n - k) ≡ n = omega arith in
    let z : drop k (part s b n) ≡ take (n - k) (drop k (drop b s)) =
    ap (λ (j : ℕ). drop k (take j (drop b s))) (sym e) ∙ ap (drop k) (take-add k (n - k) (drop b s))
    ∙ drop_at (take k (drop b s)) (take (n - k) (drop k (drop b s))) k (length-take-le k (drop b s) (rw (length-drop b s) (omega arith))) in
    ap (take m) z ∙ take-take m (n - k) (drop k (drop b s)) (omega arith) ∙ ap (take m) (drop-drop k b s)

module _ {A : Type 0} (w : Block A) (e n b : ℕ) (s : List ℕ) where
  rest_length : length (drop (8 * n) (drop (8 * b) (bits_of s))) ≡ 8 * length s - 8 * b - 8 * n
  rest_length = simp (length-drop, length_bits_of)

  enough : b + n ≤ length s → T (leb (8 * n) (length (drop (8 * b) (bits_of s))))
  enough h = le→leb (8 * n) _ (rw (length_rest s (8 * b)) (omega arith))

  pub sized_good : {a : A} {u : Bits} → b + n ≤ length s → w.dec (bits_of (part s b n)) ≡ got a u → Reads (sized_dec w e n) s (8 * b) (found a (8 * (b + n)))
  unfolding sized_dec
  sized_good {a} {u} h d =
      let q : 8 * b + 8 * n ≡ 8 * (b + n) = omega arith in
      record {
        is = pick_yes (leb (8 * n) (length (drop (8 * b) (bits_of s)))) _ _ (enough h)
            ∙ ap (inside (drop (8 * n) (drop (8 * b) (bits_of s)))) (ap w.dec (sym (part_bits s b n)) ∙ d)
            ∙ ap (got a) (drop-drop (8 * n) (8 * b) (bits_of s) ∙ ap (λ (k : ℕ). drop k (bits_of s)) q);
        within = omega arith;
      }

  pub sized_bad : {x q : ℕ} → b + n ≤ length s → q ≤ 8 * n → w.dec (bits_of (part s b n)) ≡ refused x (8 * n - q) → Reads (sized_dec w e n) s (8 * b) (fault x (8 * b + q))
  unfolding sized_dec
  sized_bad {x} {q} h k d =
      record {
        is = pick_yes (leb (8 * n) (length (drop (8 * b) (bits_of s)))) _ _ (enough h)
            ∙ ap (inside (drop (8 * n) (drop (8 * b) (bits_of s)))) (ap w.dec (sym (part_bits s b n)) ∙ d)
            ∙ ap (refused x) (ap (λ (j : ℕ). 8 * n - q + j) rest_length ∙ omega arith);
        within = omega arith;
      }

  pub sized_past : b ≤ length s → length s - b < n → Reads (sized_dec w e n) s (8 * b) (fault e (8 * b))
  unfolding sized_dec
  sized_past h k =
      let l : length (drop (8 * b) (bits_of s)) < 8 * n = rw (length_rest s (8 * b)) (omega arith) in
      record { is = pick_no (leb (8 * n) (length (drop (8 * b) (bits_of s)))) _ _ (no_leb l) ∙ ap (refused e) (length_rest s (8 * b)); within = omega arith }

-- before the end some bits are left, at it none
pub some_left : (s : List ℕ) (p : ℕ) → p < 8 * length s → 0 < length (drop p (bits_of s))
some_left s p h = rw (length_rest s p) (omega arith)

pub drop_end : (s : List ℕ) (p : ℕ) → 8 * length s ≤ p → drop p (bits_of s) ≡ []
drop_end s p h = drop_of_length-le (bits_of s) {i = p} (rw (length_bits_of s) h)

-- ---- bytes, and values that fill a block

pub bytes_there : (e k : ℕ) (s : Bits) → 8 * k ≤ length s → (xs : List ℕ) × (times_dec (field e 8) k s ≡ got xs (drop (8 * k) s))
bytes_there e zero s h = ([], refl)
bytes_there e (suc k) s h =
    let l : length (drop 8 s) ≡ length s - 8 = length-drop 8 s in
    let (xs, d) = bytes_there e k (drop 8 s) (omega arith) in
    let q : 8 + 8 * k ≡ 8 * suc k = omega arith in (
      number_of_bits (take 8 s) ∷ xs,
      ap (λ (o : Read Bool ℕ). next o (λ x r. next (times_dec (field e 8) k r) (λ ys u. got (x ∷ ys) u))) (first_field e 8 s (omega arith))
          ∙ rw d (ap (got (number_of_bits (take 8 s) ∷ xs)) (drop-drop (8 * k) 8 s ∙ ap (λ (n : ℕ). drop n s) q)),
    )

pub bytes_cut : (e k : ℕ) (s : Bits) → length s < 8 * k → (l : ℕ) × (times_dec (field e 8) k s ≡ refused e l)
bytes_cut e zero s h = absurd (omega arith)
bytes_cut e (suc k) s h = elim (dec_le 8 (length s)) [ yes y ↦ more y (λ z. bytes_cut e k (drop 8 s) z) | no y ↦ short (lt_of_not-le y) ]
  where
    more : 8 ≤ length s → (length (drop 8 s) < 8 * k → (l : ℕ) × (times_dec (field e 8) k (drop 8 s) ≡ refused e l)) → (l : ℕ) × (times_dec (field e 8) (suc k) s ≡ refused e l)
    more y ih =
        let l : length (drop 8 s) ≡ length s - 8 = length-drop 8 s in
        let (x, d) = ih (omega arith) in
        (x, ap (λ (o : Read Bool ℕ). next o (λ x r. next (times_dec (field e 8) k r) (λ ys u. got (x ∷ ys) u))) (first_field e 8 s y) ∙ rw d)

    short : length s < 8 → (l : ℕ) × (times_dec (field e 8) (suc k) s ≡ refused e l)
    short y = (length s, ap (λ (o : Read Bool ℕ). next o (λ x r. next (times_dec (field e 8) k r) (λ ys u. got (x ∷ ys) u))) (pick_no (leb 8 (length s)) _ _ (no_leb y)))

pub maybe_more : {A : Type 0} (w : Block A) (s : Bits) → 0 < length s → maybe_dec w s ≡ next (w.dec s) (λ a r. got (some a) r)
maybe_more w [] h = absurd (omega arith)
maybe_more w (b ∷ s) h = refl

-- ---- a block behind its length, at byte a; f is what is kept of its value

module _ {A B : Type 0} (w : Block A) (f : A → B) (s : List ℕ) (a : ℕ) where
  abbrev Behind : Found B → Type 0
  Behind r = Reads (λ x. keeping f ((prefixed w 6).dec x)) s (8 * a) r

  pub behind_cut : a ≤ length s → length s - a < 2 → Behind (fault 6 (8 * a))
  behind_cut i h = keeps f (made _ _ (stop _ _ (field_past 6 s (8 * a) 16 (omega arith) (omega arith))))

  module _ (n q : ℕ) (K : Reads (field_dec 6 16) s (8 * a) (found n q)) (e : q ≡ 8 * a + 16) where
    there : Reads (field 6 16).dec s (8 * a) (found n (8 * (a + 2)))
    there = known (ap (found n) (omega arith)) K

    pub behind_past : a + 2 ≤ length s → length s - (a + 2) < n → Behind (fault 6 (8 * (a + 2)))
    behind_past i h = keeps f (made _ _ (go_on _ (λ n. sized w 6 n) there (sized_past w 6 n (a + 2) s i h)))

    module _ (blk : List ℕ) (d : blk ≡ part s (a + 2) n) (i : a + 2 + n ≤ length s) where
      long : length blk ≡ n
      long = ap length d ∙ part_length s (a + 2) n i

      pub behind_bad : {x y : ℕ} → Reads (λ z. keeping f (w.dec z)) blk 0 (fault x y) → Behind (fault x (8 * (a + 2) + y))
      behind_bad {x} {y} h =
          let z : w.dec (bits_of (part s (a + 2) n)) ≡ refused x (8 * n - y) = ap (λ (l : List ℕ). w.dec (bits_of l)) (sym d) ∙ keeping_refused f _ h.is ∙ ap (λ (l : ℕ). refused x (8 * l - y)) long in
          keeps f (made _ _ (go_on _ (λ n. sized w 6 n) there (sized_bad w 6 n (a + 2) s i (omega (arith, h.within, long)) z)))

      pub behind_good : {b : B} {y : ℕ} → Reads (λ z. keeping f (w.dec z)) blk 0 (found b y) → Behind (found b (8 * (a + 2 + n)))
      behind_good h =
          keeping_got f _ h.is λ v z e.
          known (ap (λ (b : B). found b (8 * (a + 2 + n))) e)
          (keeps f (made _ _ (go_on _ (λ n. sized w 6 n) there (sized_good w 6 n (a + 2) s i (ap (λ (l : List ℕ). w.dec (bits_of l)) (sym d) ∙ z)))))
