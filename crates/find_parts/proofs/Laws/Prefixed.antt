-- A block behind its length, taken apart: what was read of it is the block at its place, and what follows starts behind it.
use mathlib.Core.Path.{◌≡◌, refl, sym, ap, ◌∙◌, subst}
use Prim.Native.Nat.{ℕ, ◌+◌, ◌-◌, ◌*◌, ◌≤◌}
use native.Mathlib.Omega.{arith}
use mathlib.Core.Bool.{Bool}
use mathlib.Core.List.{List}
use lib.ListN.{length, take, drop}
use lib.Seq.{drop-drop}
use lib.Dec.{leb, leb→le}
use Rattle.bits.specs.ChoiceLaws.{pick_split}
use Rattle.bits.specs.Bits.{Bits}
use Rattle.bits.specs.BitsLaws.{length_bits}
use Rattle.bits.specs.Bytes.{bits_of}
use Rattle.bits.specs.Codec.{got, Codec, field_dec}
use Rattle.bits.specs.CodecLaws.{not_got, field}
use Rattle.bits.specs.Block.{Block, sized_dec}
use Rattle.bits.specs.SizedLaws.{inside_got, headed, prefixed}
use Rattle.bits.proofs.Laws.Reads.{length_rest, up_to}
use Rattle.bits.proofs.Laws.Parts.{part_bits}
use Rattle.outcome.specs.Refusals.{past}
use Rattle.find_parts.specs.Stands.{BlockAt}
use Rattle.find_parts.specs.Finds.{BlockFound}
use Rattle.format.specs.declared.Part.{Part}
use Rattle.bits.proofs.Laws.Apart.{then_got, via_got, moved}

-- ---- a block behind its length, at byte b of s; rest is what follows

pub record BlockGot {A : Type 0} (w : Block A) (s : List ℕ) (b : ℕ) (v : A) (rest : Bits) : Type 0 where
  pub behind : ℕ
  pub block : BlockAt w s (b + 2) behind v
  pub follows : rest ≡ drop (8 * behind) (bits_of s)

module _ {A : Type 0} (w : Block A) {s : List ℕ} {b : ℕ} (i : b ≤ length s) where
  -- the length n, then so many bytes
  pub length_got : {v : A} {r : Bits} {n : ℕ} {t : Bits} → field_dec past 16 (drop (8 * b) (bits_of s)) ≡ got n t → sized_dec w past n t ≡ got v r → BlockGot w s b v r
  unfolding sized_dec
  length_got {v} {r} {n} {t} d k =
      let (f, g) = moved (field past 16) {s = s} {p = 8 * b} 16 (omega arith) d (λ _. length_bits 16 n) in
      let z : 8 * b + 16 ≡ 8 * (b + 2) = omega arith in
      let y : 8 * (b + 2) + 8 * n ≡ 8 * (b + 2 + n) = omega arith in
      let x : b + 2 + n - (b + 2) ≡ n = omega arith in
      let e : t ≡ drop (8 * (b + 2)) (bits_of s) = g ∙ ap (λ (p : ℕ). drop p (bits_of s)) z in
      pick_split (leb (8 * n) (length t)) _ _ k
      (λ l q. inside_got (w.dec (take (8 * n) t)) q λ u h c.
      record {
        behind = b + 2 + n;
        block = record {
          front = b;
          behind = refl;
          size = rw x (up_to z f);
          from = omega arith;
          within = omega (arith, f.within, leb→le (8 * n) (length t) l, ap length e ∙ length_rest s (8 * (b + 2)));
          value = rw x (ap w.dec (part_bits s (b + 2) n ∙ ap (take (8 * n)) (sym e)) ∙ h ∙ ap (got v) (w.all _ v u h));
        };
        follows = sym c ∙ ap (drop (8 * n)) e ∙ drop-drop (8 * n) (8 * (b + 2)) (bits_of s) ∙ ap (λ (p : ℕ). drop p (bits_of s)) y;
      })
      (λ l q. not_got q)

  pub prefixed_got : {v : A} {r : Bits} → (prefixed w past).dec (drop (8 * b) (bits_of s)) ≡ got v r → BlockGot w s b v r
  prefixed_got {v} {r} h =
      via_got _ _ h λ t d e.
      then_got _ _ d λ u d1 d2.
      subst (λ (x : A). BlockGot w s b x r) e (length_got d1 d2)

-- a head whose last number is the length, and the block
pub headed_got : {H A P : Type 0} (c : Codec Bool (H × ℕ)) (w : Block A) (e : ℕ) {s r : Bits} {h : H} {v : A} → (headed c w e).dec s ≡ got (h, v) r
    → ((n : ℕ) (t : Bits) → c.dec s ≡ got (h, n) t → sized_dec w e n t ≡ got v r → P) → P
headed_got {H} {A} c w e {s} {r} {h} {v} d k =
    via_got _ _ d λ x d1 z.
    then_got _ _ d1 λ t d2 d3.
    k x.0.1 t (d2 ∙ ap (λ (y : H × A). got (y.0, x.0.1) t) z) (d3 ∙ ap (λ (y : H × A). got y.1 r) z)

-- ---- the same block, up to where code finds that it ends

pub block_end : {A : Type 0} {w : Block A} {s : List ℕ} {b e : ℕ} {v : A} {x : Part} → BlockAt w s (b + 2) e v → BlockFound s b x → x.to ≡ e
block_end {b = b} {e = e} h k =
    let z : h.front ≡ b = omega (arith, h.behind) in
    omega (arith, h.from, k.is (e - (b + 2)) (8 * (b + 2)) (rw z at h.size))
