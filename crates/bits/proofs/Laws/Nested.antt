-- Blocks inside blocks, as code reads them that is lent a part of the bytes for each: behind a length, behind a codec, used up, sifted, or
-- as values of another type.
use mathlib.Core.Path.{◌≡◌, sym, ap, ◌∙◌}
use Prim.Native.Nat.{ℕ, ◌+◌, ◌-◌, ◌*◌, ◌≤◌, ◌<◌}
use native.Mathlib.Omega.{arith}
use mathlib.Core.Bool.{Bool}
use mathlib.Core.List.{List, [], ◌∷◌}
use lib.ListN.{length, drop, length-drop}
use Rattle.bits.specs.Bits.{Bits}
use Rattle.bits.specs.Bytes.{bits_of}
use Rattle.bits.specs.Codec.{Read, got, refused, Codec}
use Rattle.bits.specs.Block.{Block, ahead_dec, recast_dec, used_up, exact_dec, sifted_dec}
use Rattle.bits.specs.SizedLaws.{sized, headed}
use Rattle.bits.specs.Reads.{found, fault, Reads}
use Rattle.bits.proofs.Laws.Reads.{length_rest, go_on, stop, made}
use Rattle.bits.proofs.Laws.Parts.{part, bits_drop, drop_end, sized_good, sized_bad, sized_past}

-- ---- what is read of the bytes from byte b on

pub fault_behind : {A : Type 0} (d : Bits → Read Bool A) (s : List ℕ) (b : ℕ) {e q : ℕ} → b ≤ length s → Reads d (drop b s) 0 (fault e q) → Reads d s (8 * b) (fault e (8 * b + q))
fault_behind d s b {e} {q} i h =
    let l : length (drop b s) ≡ length s - b = length-drop b s in
    record {
      is = ap d (sym (bits_drop b s)) ∙ h.is ∙ ap (refused e) (ap (λ (n : ℕ). 8 * n - q) l ∙ omega (arith, h.within));
      within = omega (arith, h.within);
    }

-- ---- a length, then the block

module _ {H A : Type 0} (c : Codec Bool (H × ℕ)) (w : Block A) (e : ℕ) {s : List ℕ} {p : ℕ} where
  pub headed_stop : {x q : ℕ} → Reads c.dec s p (fault x q) → Reads (headed c w e).dec s p (fault x q)
  headed_stop r = made _ _ (stop _ _ r)

  module _ (n b : ℕ) {h : H} (r : Reads c.dec s p (found (h, n) (8 * b))) where
    pub headed_past : b ≤ length s → length s - b < n → Reads (headed c w e).dec s p (fault e (8 * b))
    headed_past i l = made _ _ (go_on _ (λ t. sized w e t.1) r (sized_past w e n b s i l))

    pub headed_good : {a : A} {u : Bits} → b + n ≤ length s → w.dec (bits_of (part s b n)) ≡ got a u → Reads (headed c w e).dec s p (found (h, a) (8 * (b + n)))
    headed_good i d = made _ _ (go_on _ (λ t. sized w e t.1) r (sized_good w e n b s i d))

    pub headed_bad : {x q : ℕ} → b + n ≤ length s → q ≤ 8 * n → w.dec (bits_of (part s b n)) ≡ refused x (8 * n - q) → Reads (headed c w e).dec s p (fault x (8 * b + q))
    headed_bad i l d = made _ _ (go_on _ (λ t. sized w e t.1) r (sized_bad w e n b s i l d))

-- ---- a codec, then a block to the end

module _ {A B : Type 0} (c : Codec Bool A) (w : A → Block B) {s : List ℕ} where
  pub ahead_stop : {x q : ℕ} → Reads c.dec s 0 (fault x q) → Reads (ahead_dec c w) s 0 (fault x q)
  unfolding ahead_dec
  ahead_stop r = record { is = rw r.is; within = r.within }

  module _ {a : A} {q : ℕ} (r : Reads c.dec s 0 (found a q)) where
    pub ahead_bad : {x y : ℕ} → Reads (w a).dec s q (fault x y) → Reads (ahead_dec c w) s 0 (fault x y)
    unfolding ahead_dec
    ahead_bad k = record { is = rw (r.is, k.is); within = k.within }

    pub ahead_good : {b : B} {u : Bits} → (w a).dec (drop q (bits_of s)) ≡ got b u → ahead_dec c w (bits_of s) ≡ got (a, b) u
    unfolding ahead_dec
    ahead_good k = rw (r.is, k)

-- ---- one value and nothing behind it

module _ {A : Type 0} (c : Codec Bool A) (e : ℕ) {s : List ℕ} where
  pub exact_bad : {x q : ℕ} → Reads c.dec s 0 (fault x q) → Reads (exact_dec c e) s 0 (fault x q)
  unfolding exact_dec
  exact_bad r = record { is = rw r.is; within = r.within }

  module _ {a : A} {q : ℕ} (r : Reads c.dec s 0 (found a q)) where
    pub exact_good : 8 * length s ≤ q → exact_dec c e (bits_of s) ≡ got a []
    unfolding exact_dec
    exact_good h = rw (r.is, drop_end s q h)

    pub exact_over : q < 8 * length s → Reads (exact_dec c e) s 0 (fault e q)
    unfolding exact_dec
    exact_over h = record { is = rw r.is (go (drop q (bits_of s)) (length_rest s q)); within = r.within }
      where
        go : (b : Bits) → length b ≡ 8 * length s - q → used_up e a b ≡ refused e (8 * length s - q)
        go [] l = absurd (omega arith)
        go (x ∷ b) l = ap (refused e) l

-- ---- as values of another type

module _ {A B : Type 0} (w : Block A) (f : A → B) where
  pub recast_good : {s : Bits} {a : A} {u : Bits} → w.dec s ≡ got a u → recast_dec w f s ≡ got (f a) u
  unfolding recast_dec
  recast_good h = rw h

  pub recast_bad : {s : List ℕ} {p x q : ℕ} → Reads w.dec s p (fault x q) → Reads (recast_dec w f) s p (fault x q)
  unfolding recast_dec
  recast_bad r = record { is = rw r.is; within = r.within }

-- ---- sifted

module _ {A B : Type 0} (v : Block A) (w : Block B) {s : Bits} where
  pub sifted_out : {e l : ℕ} → v.dec s ≡ refused e l → sifted_dec v w s ≡ refused e (length s)
  unfolding sifted_dec
  sifted_out h = rw h

  pub sifted_on : {a : A} {u : Bits} → v.dec s ≡ got a u → sifted_dec v w s ≡ w.dec s
  unfolding sifted_dec
  sifted_on h = rw h
