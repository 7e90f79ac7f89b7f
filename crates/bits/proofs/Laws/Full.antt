-- Codecs of which every run of so many bits writes a value: fields, and what is made of them. Whether such a value is there goes by the
-- bits left alone; so code passes it by one comparison with them, and reads none.
use mathlib.Core.Path.{◌≡◌, refl, sym, ap, ap₂, ◌∙◌}
use Prim.Native.Nat.{ℕ, zero, suc, ◌+◌, ◌-◌, ◌*◌, ◌≤◌, ◌<◌}
use native.Mathlib.Omega.{arith}
use native.Mathlib.Nat.{zero-mul, suc-mul}
use mathlib.Core.Bool.{Bool}
use mathlib.Core.List.{List, [], ◌∷◌, ◌++◌}
use lib.ListN.{length, take, drop, length-append, length-drop, take-append-drop}
use lib.Seq.{length-take-le, drop-drop}
use Rattle.bits.specs.Lists.{All}
use Rattle.bits.specs.Bits.{Bits, number_of_bits}
use Rattle.bits.specs.BitsLaws.{length_bits, number_lt, bits_number}
use Rattle.bits.specs.Bytes.{bits_of}
use Rattle.bits.specs.Codec.{Read, got, refused, Codec}
use Rattle.bits.specs.CodecLaws.{Matches, enc_all, field, then, times, via}
use Rattle.bits.specs.Reads.{found, fault, Reads}
use Rattle.bits.proofs.Laws.Refuses.{Refuses, refused_by}
use Rattle.bits.proofs.Laws.Reads.{length_rest}

-- ---- every run of k bits is a value

pub record Writes {A : Type 0} (c : Codec Bool A) (p : Bits) : Type 0 where
  pub value : A
  pub fits : c.Fits value
  pub is : c.enc value ≡ p

pub record Full {A : Type 0} (c : Codec Bool A) (k : ℕ) : Type 0 where
  pub size : (a : A) → c.Fits a → length (c.enc a) ≡ k
  pub every : (p : Bits) → length p ≡ k → Writes c p

pub field_full : (e w : ℕ) → Full (field e w) w
field_full e w =
    record {
      size = λ n h. length_bits w n;
      every = λ p l. record { value = number_of_bits p; fits = rw l at (number_lt p); is = rw l at (bits_number p) };
    }

pub then_full : {A B : Type 0} (c : Codec Bool A) (d : A → Codec Bool B) (k j : ℕ) → Full c k → ((a : A) → Full (d a) j) → Full (then c d) (k + j)
then_full c d k j f g =
    record {
      size = λ a h. length-append (c.enc a.0) ((d a.0).enc a.1) ∙ ap₂ (λ (x y : ℕ). x + y) (f.size a.0 h.0) ((g a.0).size a.1 h.1);
      every = λ p l.
          let u : length (take k p) ≡ k = length-take-le k p (omega arith) in
          let v : length (drop k p) ≡ j = omega (arith, length-drop k p) in
          let x = f.every (take k p) u in
          let y = (g x.value).every (drop k p) v in
          record { value = (x.value, y.value); fits = (x.fits, y.fits); is = ap₂ (λ (m n : Bits). m ++ n) x.is y.is ∙ take-append-drop k p };
    }

pub times_full : {A : Type 0} (c : Codec Bool A) (k n : ℕ) → Full c k → Full (times c n) (n * k)
times_full {A} c k n f = record { size = λ xs h. rw (← h.0) (long xs h.1); every = go n }
  where
    long : (xs : List A) → All c.Fits xs → length (enc_all c xs) ≡ length xs * k
    long [] h = sym (zero-mul k)
    long (x ∷ xs) h =
        let z : suc (length xs) * k ≡ length xs * k + k = suc-mul (length xs) k in
        let y : length (c.enc x ++ enc_all c xs) ≡ length (c.enc x) + length (enc_all c xs) = length-append (c.enc x) (enc_all c xs) in
        omega (arith, f.size x h.0, long xs h.1)

    go : (m : ℕ) (p : Bits) → length p ≡ m * k → Writes (times c m) p
    go zero [] l = record { value = []; fits = (refl, tt); is = refl }
    go zero (b ∷ p) l = let z : 0 * k ≡ 0 = zero-mul k in absurd (omega arith)
    go (suc m) p l =
        let z : suc m * k ≡ m * k + k = suc-mul m k in
        let u : length (take k p) ≡ k = length-take-le k p (omega arith) in
        let v : length (drop k p) ≡ m * k = omega (arith, length-drop k p) in
        let x = f.every (take k p) u in
        let y = go m (drop k p) v in
        record {
          value = x.value ∷ y.value;
          fits = (ap suc y.fits.0, (x.fits, y.fits.1));
          is = ap₂ (λ (a b : Bits). a ++ b) x.is y.is ∙ take-append-drop k p;
        }

module _ {A B : Type 0} (c : Codec Bool A) (f : A → B) (g : B → A) (F : B → Type 0) (m : Matches c.Fits f g F) (k : ℕ) where
  pub via_full : Full c k → Full (via c f g F m) k
  via_full h =
      record {
        size = λ b z. h.size (g b) (m.fits b z);
        every = λ p l.
            let x = h.every p l in
            record { value = f x.value; fits = m.allowed x.value x.fits; is = ap c.enc (m.again x.value x.fits) ∙ x.is };
      }

-- what the first k bits write is read
module _ {A : Type 0} {c : Codec Bool A} (k : ℕ) (s : Bits) (x : Writes c (take k s)) where
  pub writes_first : s ≡ c.enc x.value ++ drop k s
  writes_first = sym (take-append-drop k s) ∙ ap (λ (p : Bits). p ++ drop k s) (sym x.is)

  pub writes_got : c.dec s ≡ got x.value (drop k s)
  writes_got = ap c.dec writes_first ∙ c.there x.value (drop k s) x.fits

-- ---- it is read where k bits are left, and refused where fewer are

module _ {A : Type 0} {c : Codec Bool A} {k : ℕ} (f : Full c k) (s : Bits) where
  full_got : k ≤ length s → (a : A) × (c.dec s ≡ got a (drop k s))
  full_got h = let x = f.every (take k s) (length-take-le k s h) in (x.value, writes_got k s x)

  full_short : {e : ℕ} → Refuses (λ n. e ≡ n) c.dec → length s < k → (l : ℕ) × ((l ≤ length s) × (c.dec s ≡ refused e l))
  full_short {e} r h = go (c.dec s) refl
    where
      go : (o : Read Bool A) → c.dec s ≡ o → (l : ℕ) × ((l ≤ length s) × (c.dec s ≡ refused e l))
      go (got a q) p = let (fits, is) = c.back s a q p in absurd (omega (arith, f.size a fits, ap length is ∙ length-append (c.enc a) q))
      go (refused n l) p = let (z, i) = refused_by (r.at s) p in (l, (i, p ∙ ap (λ (m : ℕ). refused m l) (sym z)))

-- the same in a block of bytes, from place p on
module _ {A : Type 0} {c : Codec Bool A} {k : ℕ} (f : Full c k) (s : List ℕ) (p : ℕ) where
  pub full_at : p + k ≤ 8 * length s → (a : A) × Reads c.dec s p (found a (p + k))
  full_at h =
      let (a, x) = full_got f (drop p (bits_of s)) (rw (length_rest s p) (omega arith)) in
      (a, record { is = x ∙ ap (got a) (drop-drop k p (bits_of s)); within = h })

  pub full_past : {e : ℕ} → Refuses (λ n. e ≡ n) c.dec → p ≤ 8 * length s → 8 * length s < p + k → (q : ℕ) × Reads c.dec s p (fault e q)
  full_past {e} r i h =
      let (l, (j, x)) = full_short f (drop p (bits_of s)) r (rw (length_rest s p) (omega arith)) in
      let m : l ≤ 8 * length s - p = rw (length_rest s p) at j in
      let y : l ≡ 8 * length s - (8 * length s - l) = omega arith in
      (8 * length s - l, record { is = x ∙ ap (refused e) y; within = omega arith })
