-- A value that was read, taken apart: what was read of its parts, and where each starts. A writer needs these laws, since it
-- reads again what the judge has accepted.
use mathlib.Core.Path.{◌≡◌, sym, ap, ◌∙◌, subst}
use Prim.Native.Nat.{ℕ, zero, suc, ◌+◌, ◌-◌, ◌*◌, ◌≤◌}
use native.Mathlib.Omega.{arith}
use mathlib.Core.Bool.{Bool}
use mathlib.Core.List.{List, [], ◌∷◌, ◌++◌}
use lib.ListN.{length, drop, length-append}
use lib.Seq.{drop_at, drop-drop}
use lib.Dec.{leb, leb→le}
use Rattle.bits.specs.ChoiceLaws.{pick_split}
use Rattle.bits.specs.Bits.{Bits}
use Rattle.bits.specs.Bytes.{bits_of}
use Rattle.bits.specs.Codec.{Read, got, refused, next, Codec, then_dec, times_dec, via_dec, at_start, whole_dec, room_dec}
use Rattle.bits.specs.CodecLaws.{not_got, next_got}
use Rattle.bits.specs.Reads.{found, Reads}
use Rattle.bits.proofs.Laws.Reads.{length_rest}

module _ {S A B : Type 0} {P : Type 0} {s q : List S} where
  pub then_got : (c : Codec S A) (d : A → Codec S B) {t : A × B} → then_dec c d s ≡ got t q
      → ((r : List S) → c.dec s ≡ got t.0 r → (d t.0).dec r ≡ got t.1 q → P) → P
  unfolding then_dec
  then_got c d {t} h k =
      next_got (c.dec s) _ h λ a r e h1.
      next_got ((d a).dec r) _ h1 λ b v e2 h2.
      let u : (a, b) ≡ t = cc in
      let w : v ≡ q = cc in
      k r (e ∙ ap (λ (x : A × B). got x.0 r) u) (subst (λ (x : A × B). (d x.0).dec r ≡ got x.1 q) u (e2 ∙ ap (got b) w))

  pub via_got : (c : Codec S A) (f : A → B) {b : B} → via_dec c f s ≡ got b q → ((a : A) → c.dec s ≡ got a q → f a ≡ b → P) → P
  unfolding via_dec
  via_got c f h k =
      next_got (c.dec s) _ h λ a r e h1.
      let w : r ≡ q = cc in
      k a (e ∙ ap (got a) w) (cc)

pub whole_got : {S A : Type 0} (c : Codec S A) {s q : List S} {a : A} → whole_dec c s ≡ got a q → c.dec s ≡ got a q
unfolding whole_dec
whole_got c {s} {q} {a} h = go (c.dec s) h
  where
    go : (o : Read _ _) → at_start (length s) o ≡ got a q → o ≡ got a q
    go (got b r) p = p
    go (refused e l) p = not_got p

-- n bits were there
pub room_got : {A : Type 0} (c : Codec Bool A) (e n : ℕ) {s q : Bits} {a : A} → room_dec c e n s ≡ got a q → (n ≤ length s) × (c.dec s ≡ got a q)
unfolding room_dec
room_got c e n {s} h = pick_split (leb n (length s)) _ _ h (λ t d. (leb→le n (length s) t, d)) (λ t d. not_got d)

-- ---- places

-- what is left tells the place
pub place_is : (s : List ℕ) (p q : ℕ) → p ≤ 8 * length s → q ≤ 8 * length s → drop p (bits_of s) ≡ drop q (bits_of s) → p ≡ q
place_is s p q h k e = omega (arith, sym (length_rest s p) ∙ ap length e ∙ length_rest s q)

-- a read has one answer
pub same : {A : Type 0} {d : Bits → Read Bool A} {s : List ℕ} {p q q' : ℕ} {a b : A} → Reads d s p (found a q) → Reads d s p (found b q') → (a ≡ b) × (q ≡ q')
same {s = s} {q = q} {q' = q'} {a = a} {b = b} h k =
    let e : got a (drop q (bits_of s)) ≡ got b (drop q' (bits_of s)) = sym h.is ∙ k.is in
    (cc, place_is s q q' h.within k.within (cc))

-- what is read takes n bits: the rest is what stands n bits on
pub moved : {A : Type 0} (c : Codec Bool A) {s : List ℕ} {p : ℕ} {a : A} {r : Bits} (n : ℕ) → p ≤ 8 * length s → c.dec (drop p (bits_of s)) ≡ got a r
    → (c.Fits a → length (c.enc a) ≡ n) → Reads c.dec s p (found a (p + n)) × (r ≡ drop (p + n) (bits_of s))
moved c {s} {p} {a} {r} n i d l =
    let (f, g) = c.back (drop p (bits_of s)) a r d in
    let e : r ≡ drop (p + n) (bits_of s) = sym (drop_at (c.enc a) r n (l f)) ∙ ap (drop n) (sym g) ∙ drop-drop n p (bits_of s) in
    let z : 8 * length s - p ≡ n + length r = sym (length_rest s p) ∙ ap length g ∙ length-append (c.enc a) r ∙ ap (λ (m : ℕ). m + length r) (l f) in
    (record { is = d ∙ ap (got a) e; within = omega arith }, e)

-- ---- values that are counted: one more

pub times_snoc : {S A : Type 0} (c : Codec S A) (n : ℕ) (s : List S) {xs : List A} {x : A} {r q : List S} → times_dec c n s ≡ got xs r → c.dec r ≡ got x q
    → times_dec c (suc n) s ≡ got (xs ++ x ∷ []) q
times_snoc c zero s {xs} {x} {r} {q} h d =
    let u : [] ≡ xs = cc in
    let v : s ≡ r = cc in
    rw (v, d, ← u)
times_snoc {S} {A} c (suc n) s {xs} {x} {r} {q} h d =
    next_got (c.dec s) _ h λ y r1 e1 h1.
    next_got (times_dec c n r1) _ h1 λ ys r2 e2 h2.
    let u : (y ∷ ys) ≡ xs = cc in
    let v : r2 ≡ r = cc in
    ap (λ (o : Read S A). next o (λ z t. next (times_dec c (suc n) t) (λ zs t2. got (z ∷ zs) t2))) e1
    ∙ ap (λ (o : Read S (List A)). next o (λ zs t. got (y ∷ zs) t)) (times_snoc c n r1 (e2 ∙ ap (got ys) v) d)
    ∙ ap (λ (zs : List A). got (zs ++ x ∷ []) q) u
