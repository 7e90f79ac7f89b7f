-- The value of object 90, as the code goes over it: the size of the image, the skeleton's length and block, the index's length and block,
-- and nothing behind them. Each law is of any two blocks; those of refusals by shape are cited with any bytes for the skeleton.
use mathlib.Core.Path.{◌≡◌}
use mathlib.Core.Logic.{◌≢◌}
use Prim.Native.Nat.{ℕ, ◌+◌, ◌-◌, ◌*◌, ◌^◌, ◌≤◌, ◌<◌}
use native.Mathlib.Omega.{arith}
use mathlib.Core.List.{List, []}
use lib.ListN.{length, get_or}
use Rattle.bits.specs.ChoiceLaws.{split}
use Rattle.bits.specs.Bits.{Bits}
use Rattle.bits.specs.Bytes.{bits_of}
use Rattle.bits.specs.BytesLaws.{length_bits_of}
use Rattle.bits.specs.Codec.{got, refused, field_dec}
use Rattle.bits.specs.CodecLaws.{field}
use Rattle.bits.specs.Block.{Block}
use Rattle.bits.specs.SizedLaws.{sized, prefixed}
use Rattle.bits.specs.Reads.{found, fault, Reads}
use Rattle.bits.proofs.Laws.Reads.{up_to, field_past, go_on, stop, made}
use Rattle.bits.proofs.Laws.Full.{Full, field_full, then_full, full_at, full_past}
use Rattle.bits.proofs.Laws.Refuses.{Refuses, refusing}
use Rattle.bits.proofs.Laws.Loops.{numbers_fill}
use Rattle.bits.proofs.Laws.Parts.{part, sized_good, sized_bad, sized_past}
use Rattle.bits.proofs.Laws.Bytewise.{two_reads}
use Rattle.bits.proofs.Laws.Nested.{exact_bad, exact_good, exact_over}
use Rattle.outcome.specs.Refusals.{bad_object}
use Rattle.card.specs.Object.{any_bytes, image_size, value_parts, value_block}
use Rattle.card_shape.specs.Shape.{Bad, BlocksStand}

-- whatever the bytes are
pub any_bytes_lem : (bytes : List ℕ) → (xs : List ℕ) × (any_bytes.dec (bits_of bytes) ≡ got xs [])
any_bytes_lem bytes =
    let l : length (bits_of bytes) ≡ length bytes * 8 = omega (arith, length_bits_of bytes) in
    let (xs, _, d) = numbers_fill bad_object 8 (length bytes) (length (bits_of bytes)) (bits_of bytes) (omega arith) l (omega arith) in
    (xs, d)

-- the size of the image
image_full : Full image_size 32
image_full = then_full (field bad_object 16) _ 16 16 (field_full bad_object 16) λ _. field_full bad_object 16

image_refuses : Refuses (λ n. bad_object ≡ n) image_size.dec
image_refuses = search refusing depth 8

-- ---- the value v, with the skeleton block s and the index block i

module _ {A B : Type 0} (s : Block A) (i : A → Block B) {v : List ℕ} where
  pub value_short : length v < 6 → Bad (value_block s i).dec v
  value_short h =
      split 32 (8 * length v)
      (λ k. let (x, r) = full_at image_full v 0 k in
      record { place = 32; reads = exact_bad _ bad_object (go_on _ _ r (stop _ _ (made _ _ (stop _ _ (field_past bad_object v 32 16 k (omega arith)))))) })
      (λ k. let (q, r) = full_past image_full v 0 image_refuses (omega arith) k in record { place = q; reads = exact_bad _ bad_object (stop _ _ r) })

  module _ {x : ℕ × ℕ} (W : Reads image_size.dec v 0 (found x 32)) where
    pub skeleton_past : {n : ℕ} → Reads (field_dec bad_object 16) v 32 (found n 48) → 6 ≤ length v → length v - 6 < n → Bad (value_block s i).dec v
    skeleton_past {n} N l h =
        record { place = 48; reads = exact_bad _ bad_object (go_on _ _ W (stop _ _ (made _ _ (go_on _ (λ n. sized s bad_object n) N (sized_past s bad_object n 6 v l h))))) }

    -- the skeleton block ends at byte k
    module _ {k : ℕ} (N : Reads (field_dec bad_object 16) v 32 (found (k - 6) 48)) (low : 6 ≤ k) (high : k ≤ length v) where
      pub skeleton_bad : {e q : ℕ} → q ≤ 8 * (k - 6) → s.dec (bits_of (part v 6 (k - 6))) ≡ refused e (8 * (k - 6) - q) → Reads (value_block s i).dec v 0 (fault e (48 + q))
      skeleton_bad l d =
          exact_bad _ bad_object (go_on _ _ W (stop _ _ (made _ _ (go_on _ (λ n. sized s bad_object n) N (sized_bad s bad_object (k - 6) 6 v (omega arith) l d)))))

      module _ {a : A} {u : Bits} (S : s.dec (bits_of (part v 6 (k - 6))) ≡ got a u) where
        lines_read : Reads (prefixed s bad_object).dec v 32 (found a (8 * k))
        lines_read = up_to (omega arith) (made _ _ (go_on _ (λ n. sized s bad_object n) N (sized_good s bad_object (k - 6) 6 v (omega arith) S)))

        pub index_cut : length v - k < 2 → Bad (value_block s i).dec v
        index_cut h =
            record {
              place = 8 * k;
              reads = exact_bad _ bad_object (go_on _ _ W (go_on _ (λ a. prefixed (i a) bad_object) lines_read (made _ _ (stop _ _ (field_past bad_object v (8 * k) 16 (omega arith) (omega arith))))));
            }

        -- m bytes of index
        module _ {m : ℕ} (M : Reads (field_dec bad_object 16) v (8 * k) (found m (8 * (k + 2)))) (there : k + 2 ≤ length v) where
          pub index_past : length v - (k + 2) < m → Bad (value_block s i).dec v
          index_past h =
              record {
                place = 8 * (k + 2);
                reads = exact_bad _ bad_object (go_on _ _ W (go_on _ (λ a. prefixed (i a) bad_object) lines_read (made _ _ (go_on _ (λ n. sized (i a) bad_object n) M (sized_past (i a) bad_object m (k + 2) v there h)))));
              }

          module _ (whole : k + 2 + m ≤ length v) where
            pub index_bad : {e q : ℕ} → q ≤ 8 * m → (i a).dec (bits_of (part v (k + 2) m)) ≡ refused e (8 * m - q) → Reads (value_block s i).dec v 0 (fault e (8 * (k + 2) + q))
            index_bad l d =
                exact_bad _ bad_object (go_on _ _ W (go_on _ (λ a. prefixed (i a) bad_object) lines_read (made _ _ (go_on _ (λ n. sized (i a) bad_object n) M (sized_bad (i a) bad_object m (k + 2) v whole l d)))))

            module _ {b : B} {t : Bits} (I : (i a).dec (bits_of (part v (k + 2) m)) ≡ got b t) where
              all_read : Reads (value_parts s i).dec v 0 (found (x, (a, b)) (8 * (k + 2 + m)))
              all_read = go_on _ _ W (go_on _ (λ a. prefixed (i a) bad_object) lines_read (made _ _ (go_on _ (λ n. sized (i a) bad_object n) M (sized_good (i a) bad_object m (k + 2) v whole I))))

              pub value_over : k + 2 + m < length v → Bad (value_block s i).dec v
              value_over h = record { place = 8 * (k + 2 + m); reads = exact_over _ bad_object all_read (omega arith) }

              pub value_good : length v ≤ k + 2 + m → (value_block s i).dec (bits_of v) ≡ got (x, (a, b)) []
              value_good h = exact_good _ bad_object all_read (omega arith)

-- ---- any bytes for both blocks

-- the number at byte a
abbrev pub two_in : List ℕ → ℕ → ℕ
two_in v a = get_or v a 0 * 256 + get_or v (a + 1) 0

pub image_reads : (v : List ℕ) → ((n : ℕ) → get_or v n 0 < 2 ^ 8) → 4 ≤ length v → Reads image_size.dec v 0 (found (two_in v 0, two_in v 2) 32)
image_reads v small l = go_on _ _ (two_reads v small bad_object 0 (omega arith)) (two_reads v small bad_object 2 (omega arith))

pub index_off : {v : List ℕ} {x : ℕ × ℕ} → Reads image_size.dec v 0 (found x 32) → (k m : ℕ) → Reads (field_dec bad_object 16) v 32 (found (k - 6) 48) → 6 ≤ k
    → Reads (field_dec bad_object 16) v (8 * k) (found m (8 * (k + 2))) → k + 2 ≤ length v → length v - (k + 2) ≢ m → Bad (value_block any_bytes (λ _. any_bytes)).dec v
index_off {v} W k m N low M there off =
    split m (length v - (k + 2))
    (λ l. value_over any_bytes (λ _. any_bytes) W N low (omega arith) (any_bytes_lem (part v 6 (k - 6))).1 M there (omega arith) (any_bytes_lem (part v (k + 2) m)).1 (omega (arith, off)))
    (λ l. index_past any_bytes (λ _. any_bytes) W N low (omega arith) (any_bytes_lem (part v 6 (k - 6))).1 M there l)

-- ---- where the blocks stand

module _ {A B : Type 0} (s : Block A) (i : A → Block B) {v : List ℕ} {k : ℕ} (h : BlocksStand v k) where
  image_is : Reads image_size.dec v 0 (found (h.width, h.height) 32)
  image_is = go_on _ _ h.wide h.high

  abbrev pub skeleton_part : List ℕ
  skeleton_part = part v 6 (k - 6)

  abbrev pub index_part : List ℕ
  index_part = part v (k + 2) (length v - (k + 2))

  pub stands_skeleton_bad : {e q : ℕ} → q ≤ 8 * (k - 6) → s.dec (bits_of skeleton_part) ≡ refused e (8 * (k - 6) - q) → Reads (value_block s i).dec v 0 (fault e (48 + q))
  stands_skeleton_bad l d = skeleton_bad s i image_is h.skeleton h.low (omega (arith, h.within)) l d

  module _ {a : A} {u : Bits} (S : s.dec (bits_of skeleton_part) ≡ got a u) where
    pub stands_index_bad : {e q : ℕ} → q ≤ 8 * (length v - (k + 2)) → (i a).dec (bits_of index_part) ≡ refused e (8 * (length v - (k + 2)) - q)
        → Reads (value_block s i).dec v 0 (fault e (8 * (k + 2) + q))
    stands_index_bad l d = index_bad s i image_is h.skeleton h.low (omega (arith, h.within)) S h.index h.within (omega (arith, h.within)) l d

    pub stands_good : {b : B} {t : Bits} → (i a).dec (bits_of index_part) ≡ got b t → (value_block s i).dec (bits_of v) ≡ got ((h.width, h.height), (a, b)) []
    stands_good I = value_good s i image_is h.skeleton h.low (omega (arith, h.within)) S h.index h.within (omega (arith, h.within)) I (omega (arith, h.within))
