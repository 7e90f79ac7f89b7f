-- Blocks that are one value and nothing behind it, and blocks that another one sifts first, with their laws. For a reader: the lines of
-- `exact` and `sifted` say which values fit and what is written. All else are laws.
use Rattle.std.specs.Prelude.{◌≡◌, ℕ, ◌%◌, Bool, length}
use Rattle.std.proofs.Math.Path.{ap}
use Rattle.std.proofs.Common.{◌∙◌}
use mathlib.Core.List.{[], ◌∷◌, ◌++◌, append-nil}
use Rattle.bits.specs.Bits.{Bits}
use Rattle.bits.specs.Codec.{got, at_start, Codec}
use Rattle.bits.specs.CodecLaws.{not_got, next_got}
use Rattle.bits.specs.Block.{Block, used_up, exact_dec, sifted_dec}

-- ---- exact

pub used_up_lem : {A : Type 0} (e : ℕ) {a b : A} {q : Bits} (s : Bits) → used_up e a s ≡ got b q → (a ≡ b) × (s ≡ []) × (q ≡ [])
used_up_lem e [] p = (cc, cc, cc)
used_up_lem e (x ∷ s) p = not_got p

module _ {A : Type 0} (c : Codec Bool A) (e : ℕ) (whole : (a : A) → length (c.enc a) % 8 ≡ 0) where
  pub exact_there : (a : A) → c.Fits a → exact_dec c e (c.enc a) ≡ got a []
  unfolding exact_dec
  exact_there a h = let d : c.dec (c.enc a) ≡ got a [] = rw (append-nil (c.enc a)) at (c.there a [] h) in rw d

  pub exact_back : (s : Bits) (a : A) → length s % 8 ≡ 0 → exact_dec c e s ≡ got a [] → c.Fits a × (s ≡ c.enc a)
  unfolding exact_dec
  exact_back s a l p =
      next_got (c.dec s) _ p λ b r d h.
      let (x, y, z) = used_up_lem e r h in
      let (f, g) = c.back s b r d in
      rw (← x) (f, g ∙ ap (λ (t : Bits). c.enc b ++ t) y ∙ append-nil (c.enc b))

  pub exact_all : (s : Bits) (a : A) (r : Bits) → exact_dec c e s ≡ got a r → r ≡ []
  unfolding exact_dec
  exact_all s a r p = next_got (c.dec s) _ p λ b q d h. (used_up_lem e q h).2

  abbrev pub exact : Block A
  exact = record { Fits = c.Fits; enc = c.enc; dec = exact_dec c e; bytes = whole; there = exact_there; back = exact_back; all = exact_all }

-- ---- sifted: v takes what w writes

-- what is read was read by w
pub sifted_got : {A B : Type 0} (v : Block A) (w : Block B) (s : Bits) (b : B) (r : Bits) → sifted_dec v w s ≡ got b r → w.dec s ≡ got b r
unfolding sifted_dec
sifted_got v w s b r p = next_got (at_start (length s) (v.dec s)) _ p λ a q d h. h

module _ {A B : Type 0} (v : Block A) (w : Block B) (takes : (b : B) → w.Fits b → (a : A) × (v.dec (w.enc b) ≡ got a [])) where
  pub sifted_there : (b : B) → w.Fits b → sifted_dec v w (w.enc b) ≡ got b []
  unfolding sifted_dec
  sifted_there b h = rw ((takes b h).1, w.there b h)

  abbrev pub sifted : Block B
  sifted =
      record {
        Fits = w.Fits;
        enc = w.enc;
        dec = sifted_dec v w;
        bytes = w.bytes;
        there = sifted_there;
        back = λ s b l p. w.back s b l (sifted_got v w s b [] p);
        all = λ s b r p. w.all s b r (sifted_got v w s b r p);
      }
