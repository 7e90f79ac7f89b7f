-- The laws by which reads are put together in the order of the code: a field, then, stop, the same as another type, a test, what is
-- kept of a value. Each is on the shut reader of its way, so that a goal shows which codec is meant.
use mathlib.Core.Path.{◌≡◌, refl, sym, ap, ap₂, ◌∙◌, subst}
use Prim.Native.Nat.{ℕ, ◌+◌, ◌-◌, ◌*◌, ◌^◌, ◌≤◌, ◌<◌}
use native.Mathlib.Omega.{arith}
use mathlib.Core.Bool.{Bool, not}
use mathlib.Core.Option.{Option, none, some}
use mathlib.Core.List.{List}
use lib.ListN.{length, take, drop, length-drop}
use lib.Seq.{drop-drop}
use lib.Dec.{T, leb, eqb, le→leb, leb→le}
use mir.Facts.{no_leb}
use borrow.Author.Tests.{eq-eqb, ne_eqb}
use Rattle.bits.specs.Choice.{within}
use Rattle.bits.specs.ChoiceLaws.{pick_yes, pick_no, within_yes, within_not_low, within_not_high}
use Rattle.bits.specs.Bits.{Bits, number_of_bits}
use Rattle.bits.specs.Bytes.{bits_of}
use Rattle.bits.specs.BytesLaws.{length_bits_of}
use Rattle.bits.specs.Codec.{Read, got, refused, next, Codec, field_dec, then_dec, via_dec, only_dec, whole_dec, judged_dec, room_dec}
use Rattle.bits.specs.CodecLaws.{field, field_back, fixed, ranged, pick_got}
use Rattle.bits.specs.Reads.{Found, found, fault, placed, place_found, Reads, keeping}
use Rattle.bits.proofs.Laws.Refuses.{Refusal, accepted, by, refused_by, next_refusal, pick_refusal}

pub length_rest : (s : List ℕ) (p : ℕ) → length (drop p (bits_of s)) ≡ 8 * length s - p
length_rest s p = simp (length-drop, length_bits_of)

-- the first n bits as a number
pub first_field : (e n : ℕ) (s : Bits) → n ≤ length s → field_dec e n s ≡ got (number_of_bits (take n s)) (drop n s)
first_field e n s l = pick_yes (leb n (length s)) _ _ (le→leb n (length s) l)

-- where a field was read, its bits were there, and it is their number
pub field_got : (e n : ℕ) (s : Bits) {v : ℕ} {r : Bits} → field_dec e n s ≡ got v r → (n ≤ length s) × (number_of_bits (take n s) ≡ v) × (drop n s ≡ r)
field_got e n s h = let (t, a, b) = pick_got (leb n (length s)) _ _ e _ h in (leb→le n (length s) t, a, b)

-- the field of n bits at place p, where it fits, and where it passes the end
pub field_at : (e : ℕ) (s : List ℕ) (p n v : ℕ) → p ≤ 8 * length s → n ≤ 8 * length s - p → v ≡ number_of_bits (take n (drop p (bits_of s)))
    → Reads (field_dec e n) s p (found v (p + n))
field_at e s p n v i h z =
    let l : n ≤ length (drop p (bits_of s)) = rw (length_rest s p) h in
    record { is = first_field e n (drop p (bits_of s)) l ∙ ap₂ got (sym z) (drop-drop n p (bits_of s)); within = omega arith }

pub field_past : (e : ℕ) (s : List ℕ) (p n : ℕ) → p ≤ 8 * length s → 8 * length s - p < n → Reads (field_dec e n) s p (fault e p)
field_past e s p n i h =
    let l : length (drop p (bits_of s)) < n = rw (length_rest s p) h in
    record { is = pick_no (leb n (length (drop p (bits_of s)))) _ _ (no_leb l) ∙ ap (refused e) (length_rest s p); within = i }

-- ---- composition

abbrev pub mapped : {A B : Type 0} → (A → B) → Found A → Found B
mapped f (found a p) = found (f a) p
mapped f (fault e p) = fault e p

mapped_within : {A B : Type 0} (f : A → B) (r : Found A) {m : ℕ} → place_found r ≤ m → place_found (mapped f r) ≤ m
mapped_within f (found a p) i = i
mapped_within f (fault e p) i = i

-- the answer of a call, once its case is known
pub known : {A : Type 0} {d : Bits → Read Bool A} {s : List ℕ} {p : ℕ} {r r' : Found A} → r ≡ r' → Reads d s p r → Reads d s p r'
known {d = d} {s = s} {p = p} e h = subst (Reads d s p) e h

-- a read, told by its answer
pub gives : {A : Type 0} (d : Bits → Read Bool A) {s : List ℕ} {p : ℕ} (a : A) (q : ℕ) → q ≤ 8 * length s → d (drop p (bits_of s)) ≡ got a (drop q (bits_of s)) → Reads d s p (found a q)
gives d a q i e = record { is = e; within = i }

pub refuses : {A : Type 0} (d : Bits → Read Bool A) {s : List ℕ} {p : ℕ} (e q : ℕ) → q ≤ 8 * length s → d (drop p (bits_of s)) ≡ refused e (8 * length s - q) → Reads d s p (fault e q)
refuses d e q i z = record { is = z; within = i }

-- Each law is on the shut `..Dec` of its combinator, so that the goal shows which codec is meant.
module _ {A B : Type 0} (c : Codec Bool A) {s : List ℕ} {p : ℕ} where
  pub go_on : (d : A → Codec Bool B) {a : A} {q : ℕ} {r : Found B} → Reads c.dec s p (found a q) → Reads (d a).dec s q r
      → Reads (then_dec c d) s p (mapped (λ b. (a, b)) r)
  unfolding then_dec
  go_on d {a} {q} {r} h k = record { is = rw (h.is, k.is) (go r); within = mapped_within {B = A × B} (λ b. (a, b)) r k.within }
    where
      go : (r : Found B) → next {B = A × B} (placed s r) (λ b z. got (a, b) z) ≡ placed s (mapped (λ b. (a, b)) r)
      go (found b x) = refl
      go (fault e x) = refl

  pub stop : (d : A → Codec Bool B) {e q : ℕ} → Reads c.dec s p (fault e q) → Reads (then_dec c d) s p (fault e q)
  unfolding then_dec
  stop d h = record { is = rw h.is; within = h.within }

  -- the same as another type
  pub made : (f : A → B) {r : Found A} → Reads c.dec s p r → Reads (via_dec c f) s p (mapped f r)
  unfolding via_dec
  made f {r} h = record { is = rw h.is (go r); within = mapped_within f r h.within }
    where
      go : (r : Found A) → next (placed s r) (λ b z. got (f b) z) ≡ placed s (mapped f r)
      go (found b x) = refl
      go (fault e x) = refl

-- what is kept of a value
pub keeps : {A B : Type 0} {d : Bits → Read Bool A} {s : List ℕ} {p : ℕ} (f : A → B) {r : Found A} → Reads d s p r → Reads (λ x. keeping f (d x)) s p (mapped f r)
keeps {A = A} {s = s} f {r} h = record { is = rw h.is (go r); within = mapped_within f r h.within }
  where
    go : (r : Found A) → keeping f (placed s r) ≡ placed s (mapped f r)
    go (found b x) = refl
    go (fault e x) = refl

module _ {A : Type 0} (c : Codec Bool A) {s : List ℕ} {p : ℕ} where
  pub pass : (e : ℕ) (t : A → Bool) {a : A} {q : ℕ} → Reads c.dec s p (found a q) → T (t a) → Reads (only_dec c e t) s p (found a q)
  unfolding only_dec
  pass e t {a} h y = record { is = rw h.is (pick_yes (t a) _ _ y); within = h.within }

  pub fail : (e : ℕ) (t : A → Bool) {a : A} {q : ℕ} → p ≤ 8 * length s → Reads c.dec s p (found a q) → T (not (t a)) → Reads (only_dec c e t) s p (fault e p)
  unfolding only_dec
  fail e t {a} i h y = record { is = rw h.is (pick_no (t a) _ _ y ∙ ap (refused e) (length_rest s p)); within = i }

  pub stays : (e : ℕ) (t : A → Bool) {x q : ℕ} → Reads c.dec s p (fault x q) → Reads (only_dec c e t) s p (fault x q)
  unfolding only_dec
  stays e t h = record { is = rw h.is; within = h.within }

  pub fine : (e : ℕ) (t : A → Option ℕ) {a : A} {q : ℕ} → Reads c.dec s p (found a q) → t a ≡ none → Reads (judged_dec c e t) s p (found a q)
  unfolding judged_dec
  fine e t h y = record { is = rw (h.is, y); within = h.within }

  pub flawed : (e : ℕ) (t : A → Option ℕ) {a : A} {q : ℕ} (k : ℕ) → p + k ≤ 8 * length s → Reads c.dec s p (found a q) → t a ≡ some k → Reads (judged_dec c e t) s p (fault e (p + k))
  unfolding judged_dec
  flawed e t k i h y = record { is = rw (h.is, y) (ap (refused e) (ap (λ (n : ℕ). n - k) (length_rest s p) ∙ omega arith)); within = i }

  -- n bits are there, or not
  pub room_there : (e n : ℕ) {r : Found A} → p + n ≤ 8 * length s → Reads c.dec s p r → Reads (room_dec c e n) s p r
  unfolding room_dec
  room_there e n i h =
      let l : n ≤ length (drop p (bits_of s)) = rw (length_rest s p) (omega arith) in
      record { is = pick_yes (leb n (length (drop p (bits_of s)))) _ _ (le→leb n _ l) ∙ h.is; within = h.within }

  pub room_past : (e n : ℕ) → p ≤ 8 * length s → 8 * length s - p < n → Reads (room_dec c e n) s p (fault e p)
  unfolding room_dec
  room_past e n i h =
      let l : length (drop p (bits_of s)) < n = rw (length_rest s p) (omega arith) in
      record { is = pick_no (leb n (length (drop p (bits_of s)))) _ _ (no_leb l) ∙ ap (refused e) (length_rest s p); within = i }

  -- a refusal inside is one of the whole
  pub all_of : {a : A} {q : ℕ} → Reads c.dec s p (found a q) → Reads (whole_dec c) s p (found a q)
  unfolding whole_dec
  all_of h = record { is = rw h.is; within = h.within }

  pub none_of_it : (e l : ℕ) → p ≤ 8 * length s → c.dec (drop p (bits_of s)) ≡ refused e l → Reads (whole_dec c) s p (fault e p)
  unfolding whole_dec
  none_of_it e l i h = record { is = rw h (ap (refused e) (length_rest s p)); within = i }

  pub none_of : {e q : ℕ} → p ≤ 8 * length s → Reads c.dec s p (fault e q) → Reads (whole_dec c) s p (fault e p)
  unfolding whole_dec
  none_of {e} i h = record { is = rw h.is (ap (refused e) (length_rest s p)); within = i }

-- ---- a single field says its own place

-- d refuses at its first bit, where all is left
pub record AtFirst {A : Type 0} (d : Bits → Read Bool A) : Type 0 where
  pub at : (s : Bits) → Refusal (λ e l. l ≡ length s) (d s)

pub field_first : (e w : ℕ) → AtFirst (field_dec e w)
field_first e w = record { at = λ s. pick_refusal (leb w (length s)) accepted (by refl) }

pub ranged_first : (e w low high : ℕ) → AtFirst (ranged e w low high).dec
unfolding only_dec
ranged_first e w low high =
    record { at = λ s. next_refusal ((field_first e w).at s) λ a r _. pick_refusal (within low high a) accepted (by {l = length s} refl) }

pub own : {A : Type 0} {d : Bits → Read Bool A} {s : List ℕ} {p x q : ℕ} → AtFirst d → p ≤ 8 * length s → Reads d s p (fault x q)
    → Reads d s p (fault x p)
own {s = s} {p = p} {x = x} f i h =
    record { is = h.is ∙ ap (refused x) (refused_by (f.at (drop p (bits_of s))) h.is ∙ length_rest s p); within = i }

-- ---- what is kept of a value

pub keeping_got : {S A B P : Type 0} {b : B} {r : List S} (f : A → B) (o : Read S A) → keeping f o ≡ got b r → ((a : A) → o ≡ got a r → f a ≡ b → P) → P
keeping_got f (got a q) p k = k a (ap (got a) (cc)) (cc)
keeping_got f (refused e l) p k = let z : ◌≡◌ {A = ℕ} 0 1 = cc in absurd (omega arith)

pub keeping_refused : {S A B : Type 0} {e l : ℕ} (f : A → B) (o : Read S A) → keeping f o ≡ refused e l → o ≡ refused e l
keeping_refused f (got a q) p = let z : ◌≡◌ {A = ℕ} 0 1 = cc in absurd (omega arith)
keeping_refused f (refused x y) p = cc

pub at_place : {A : Type 0} {d : Bits → Read Bool A} {s : List ℕ} {p p' : ℕ} {r : Found A} → p ≡ p' → Reads d s p r → Reads d s p' r
at_place {d = d} {s = s} {r = r} e h = subst (λ (x : ℕ). Reads d s x r) e h

-- the value of a field fits its bits
pub below : (e n : ℕ) {s : List ℕ} {p v q : ℕ} → Reads (field_dec e n) s p (found v q) → v < 2 ^ n
below e n {s} {p} {v} {q} h = (field_back e n (drop p (bits_of s)) v (drop q (bits_of s)) h.is).0

-- the place behind, named otherwise
pub up_to : {A : Type 0} {d : Bits → Read Bool A} {s : List ℕ} {p q q' : ℕ} {a : A} → q ≡ q' → Reads d s p (found a q) → Reads d s p (found a q')
up_to {d = d} {s = s} {p = p} {a = a} e h = subst (λ (x : ℕ). Reads d s p (found a x)) e h

-- a read whose value is partly kept is a read
pub unkept_bad : {A B : Type 0} {d : Bits → Read Bool A} (f : A → B) {s : List ℕ} {p e q : ℕ} → Reads (λ x. keeping f (d x)) s p (fault e q) → Reads d s p (fault e q)
unkept_bad f h = record { is = keeping_refused f _ h.is; within = h.within }

pub unkept : {A B P : Type 0} {d : Bits → Read Bool A} (f : A → B) {s : List ℕ} {p q : ℕ} {b : B} → Reads (λ x. keeping f (d x)) s p (found b q) → ((a : A) → f a ≡ b → Reads d s p (found a q) → P) → P
unkept f h k = keeping_got f _ h.is λ a e z. k a z (record { is = e; within = h.within })

-- ---- numbers with a rule

module _ (e w : ℕ) {s : List ℕ} {p x q : ℕ} (h : Reads (field_dec e w) s p (found x q)) where
  pub fixed_ok : (v : ℕ) → x ≡ v → Reads (fixed e w v).dec s p (found tt q)
  fixed_ok v z = made _ _ (pass (field e w) e (eqb v) h (rw (eq-eqb v x (sym z)) tt))

  pub fixed_bad : (v : ℕ) → p ≤ 8 * length s → (x ≡ v → ⊥) → Reads (fixed e w v).dec s p (fault e p)
  fixed_bad v i z = made _ _ (fail (field e w) e (eqb v) i h (rw (ne_eqb v x (λ y. z (sym y))) tt))

  pub ranged_ok : (low high : ℕ) → low ≤ x → x ≤ high → Reads (ranged e w low high).dec s p (found x q)
  ranged_ok low high a b = pass (field e w) e (within low high) h (within_yes low high x a b)

  pub ranged_low : (low high : ℕ) → p ≤ 8 * length s → x < low → Reads (ranged e w low high).dec s p (fault e p)
  ranged_low low high i a = fail (field e w) e (within low high) i h (within_not_low low high x a)

  pub ranged_high : (low high : ℕ) → p ≤ 8 * length s → high < x → Reads (ranged e w low high).dec s p (fault e p)
  ranged_high low high i a = fail (field e w) e (within low high) i h (within_not_high low high x a)
