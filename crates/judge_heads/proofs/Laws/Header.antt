-- What the readers of the headers know of places: a field at a place that is a number, and what always takes as many bits, as the
-- seven bytes of a scale do.
use mathlib.Core.Path.{◌≡◌, ap, ◌∙◌}
use Prim.Native.Nat.{ℕ, ◌+◌, ◌*◌, ◌≤◌}
use mathlib.Core.Bool.{Bool}
use mathlib.Core.List.{List}
use lib.ListN.{length, length-append}
use Rattle.bits.specs.BitsLaws.{length_bits}
use Rattle.bits.specs.Codec.{Codec, field_dec}
use Rattle.bits.specs.Reads.{Reads, found}
use Rattle.bits.proofs.Laws.Reads.{at_place, up_to}
use Rattle.bits.proofs.Laws.Apart.{same, moved}
use Rattle.format.specs.Record.{scale}
use Rattle.format.specs.declared.Scale.{Scale}

-- the field of n bits at place p has the value v, and the place behind it is q
pub record FieldAt (s : List ℕ) (p n v q : ℕ) : Type 0 where
  pub read : (e : ℕ) → Reads (field_dec e n) s p (found v (p + n))
  pub behind : q ≡ p + n

-- what `sure` ensures from a cursor at p
pub field_from : {s : List ℕ} {c p n v q : ℕ} → c ≡ p → ((e : ℕ) → Reads (field_dec e n) s c (found v q)) × (q ≡ c + n) → FieldAt s p n v q
field_from {s} {c} {p} {n} {v} {q} z h =
    let y : q ≡ p + n = h.1 ∙ ap (λ (x : ℕ). x + n) z in
    let k : (e : ℕ) → Reads (field_dec e n) s p (found v (p + n)) = λ e. up_to y (at_place z (h.0 e)) in
    record { read = k; behind = y }

-- what always takes n bits ends n bits on
pub behind : {A : Type 0} (c : Codec Bool A) (n : ℕ) → ((a : A) → length (c.enc a) ≡ n) → {s : List ℕ} {p q : ℕ} {x : A} → p ≤ 8 * length s
    → Reads c.dec s p (found x q) → q ≡ p + n
behind c n l {x = x} i h = (same h (moved c n i h.is (λ f. l x)).0).1

pub scale_behind : (e : ℕ) {s : List ℕ} {p q : ℕ} {x : Scale} → p ≤ 8 * length s → Reads (scale e).dec s p (found x q) → q ≡ p + 56
scale_behind e i h = behind (scale e) 56 (λ x. simp (length-append, length_bits)) i h
