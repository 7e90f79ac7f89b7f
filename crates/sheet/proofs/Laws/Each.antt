-- Values read each by its block: what is written is read, and what is read was written.
use mathlib.Core.Path.{◌≡◌, refl, ap, ap₂}
use Prim.Native.Nat.{ℕ, suc}
use mathlib.Core.List.{List, [], ◌∷◌}
use lib.ListN.{length}
use Rattle.bits.specs.Lists.{All, Along}
use Rattle.bits.specs.Bits.{Bits}
use Rattle.bits.specs.Bytes.{Byte, bits_of, in_bytes}
use Rattle.bits.specs.Codec.{got}
use Rattle.bits.specs.CodecLaws.{next_got}
use Rattle.bits.specs.Block.{Block}
use Rattle.bits.specs.BlockBytes.{value_there, value_back}
use Rattle.sheet.specs.Sheet.{each_enc, each_dec}

module _ {A I : Type 0} (b : I → Block A) (m : I → A → I) where
  pub each_there : (i : I) (xs : List A) → Along m (λ j x. (b j).Fits x) i xs → each_dec b m i (each_enc b m i xs) ≡ got xs []
  each_there i [] h = refl
  each_there i (x ∷ xs) h = rw (value_there (b i) x h.0, each_there (m i x) xs h.1)

  pub each_back : (i : I) (vs : List (List ℕ)) (xs : List A) (r : Bits) → All (All Byte) vs → each_dec b m i vs ≡ got xs r
      → Along m (λ j x. (b j).Fits x) i xs × (vs ≡ each_enc b m i xs)
  each_back i [] ys r h p = let u : [] ≡ ys = cc in rw (← u) (tt, refl)
  each_back i (v ∷ vs) ys r h p =
      next_got ((b i).dec (bits_of v)) _ p λ x q e h1.
      next_got (each_dec b m (m i x) vs) _ h1 λ xs q2 e2 h2.
      let u : (x ∷ xs) ≡ ys = cc in
      let (f, g) = value_back (b i) v x q h.0 e in
      let (fs, gs) = each_back (m i x) vs xs q2 h.1 e2 in
      rw (← u) ((f, fs), ap₂ (λ (y : List ℕ) (z : List (List ℕ)). y ∷ z) g gs)

  pub length_each : (i : I) (xs : List A) → length (each_enc b m i xs) ≡ length xs
  length_each i [] = refl
  length_each i (x ∷ xs) = ap suc (length_each (m i x) xs)

  -- what holds of each written value
  pub each_make : (P : List ℕ → Type 0) (i : I) (xs : List A) → Along m (λ j x. P (in_bytes ((b j).enc x))) i xs → All P (each_enc b m i xs)
  each_make P i [] h = tt
  each_make P i (x ∷ xs) h = (h.0, each_make P (m i x) xs h.1)

  pub each_take : (P : List ℕ → Type 0) (i : I) (xs : List A) → All P (each_enc b m i xs) → Along m (λ j x. P (in_bytes ((b j).enc x))) i xs
  each_take P i [] h = tt
  each_take P i (x ∷ xs) h = (h.0, each_take P (m i x) xs h.1)
