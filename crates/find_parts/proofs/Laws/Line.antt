-- How many bits a line takes; and a line that was read, taken apart: its ends, its count and its codes, each at its place. A line that
-- code passes ends where its count of codes says.
use mathlib.Core.Path.{◌≡◌, sym, ap, ◌∙◌}
use Prim.Native.Nat.{ℕ, ◌+◌, ◌-◌, ◌*◌, ◌≤◌}
use native.Mathlib.Omega.{arith}
use native.Mathlib.Nat.{suc-mul}
use mathlib.Core.List.{List, [], ◌∷◌}
use lib.ListN.{length, drop, length-append}
use Rattle.bits.specs.Bits.{Bits}
use Rattle.bits.specs.BitsLaws.{length_bits}
use Rattle.bits.specs.Bytes.{bits_of}
use Rattle.bits.specs.Codec.{got, field_dec, times_dec}
use Rattle.bits.specs.CodecLaws.{field, enc_all, times, times_back}
use Rattle.bits.specs.Reads.{found, Reads}
use Rattle.bits.proofs.Laws.Reads.{length_rest, gives}
use Rattle.bits.proofs.Laws.Apart.{then_got, via_got, whole_got, same, moved}
use Rattle.outcome.specs.Refusals.{bad_line}
use Rattle.format.specs.Line.{Line, end, end_bits, line, line_long_lem}
use Rattle.format.specs.declared.End.{End}
use Rattle.format.specs.declared.Widths.{Widths}

pub end_long : (w : Widths) (x : End) → length ((end w).enc x) ≡ end_bits w
unfolding end
end_long w x = simp (length-append, length_bits)

pub codes_long : (e k : ℕ) (cs : List ℕ) → length (enc_all (field e k) cs) ≡ length cs * k
codes_long e k [] = omega arith
codes_long e k (x ∷ cs) = simp (length-append, length_bits) (omega (arith, codes_long e k cs, suc-mul (length cs) k))

pub line_bits_lem : (w : Widths) (l : Line) → length ((line w).enc l) ≡ end_bits w + (8 + length l.codes * w.k) + end_bits w
unfolding line
line_bits_lem w l = simp (length-append, length_bits) (omega (arith, end_long w l.start, end_long w l.finish, codes_long bad_line w.k l.codes))

-- a line at place p of the block s, and its parts
pub record LineAt (w : Widths) (s : List ℕ) (p : ℕ) (l : Line) (q : ℕ) : Type 0 where
  pub start : Reads (end w).dec s p (found l.start (p + end_bits w))
  pub count : Reads (field_dec bad_line 8) s (p + end_bits w) (found (length l.codes) (p + end_bits w + 8))
  pub codes : Reads (times_dec (field bad_line w.k) (length l.codes)) s (p + end_bits w + 8) (found l.codes (p + end_bits w + 8 + length l.codes * w.k))
  pub finish : Reads (end w).dec s (p + end_bits w + 8 + length l.codes * w.k) (found l.finish q)
  pub behind : q ≡ p + end_bits w + 8 + length l.codes * w.k + end_bits w

module _ (w : Widths) {s : List ℕ} {p : ℕ} {l : Line} {q : ℕ} (h : Reads (line w).dec s p (found l q)) where
  -- it has eight bits or more
  pub line_far : p + 8 ≤ 8 * length s
  line_far =
      let g = ((line w).back (drop p (bits_of s)) l (drop q (bits_of s)) h.is).1 in
      let z : 8 * length s - p ≡ length ((line w).enc l) + length (drop q (bits_of s)) = sym (length_rest s p) ∙ ap length g ∙ length-append ((line w).enc l) (drop q (bits_of s)) in
      omega (arith, line_long_lem w l)

  from_parts : {r1 r2 r3 : Bits} → (end w).dec (drop p (bits_of s)) ≡ got l.start r1 → field_dec bad_line 8 r1 ≡ got (length l.codes) r2
      → times_dec (field bad_line w.k) (length l.codes) r2 ≡ got l.codes r3 → (end w).dec r3 ≡ got l.finish (drop q (bits_of s)) → LineAt w s p l q
  from_parts d1 d2 d3 d4 =
      let i : p ≤ 8 * length s = omega (arith, line_far) in
      let n : ℕ = length l.codes in
      let (h1, e1) = moved (end w) (end_bits w) i d1 (λ f. end_long w l.start) in
      let (h2, e2) = moved (field bad_line 8) 8 h1.within (ap (field_dec bad_line 8) (sym e1) ∙ d2) (λ f. length_bits 8 n) in
      let (h3, e3) = moved (times (field bad_line w.k) n) (n * w.k) h2.within (ap (times_dec (field bad_line w.k) n) (sym e2) ∙ d3) (λ f. codes_long bad_line w.k l.codes) in
      let d = ap (end w).dec (sym e3) ∙ d4 in
      let f = gives (end w).dec l.finish q h.within d in
      record { start = h1; count = h2; codes = h3; finish = f; behind = (same f (moved (end w) (end_bits w) h3.within d (λ f. end_long w l.finish)).0).1 }

  pub line_at_lem : LineAt w s p l q
  unfolding line
  line_at_lem =
      via_got _ _ (whole_got _ h.is) λ t d e.
      then_got _ _ d λ r1 d1 d2.
      then_got _ _ d2 λ r3 d3 d4.
      via_got _ _ d3 λ u d5 e5.
      then_got _ _ d5 λ r2 d6 d7.
      let c : u.1 ≡ l.codes = e5 ∙ ap (λ (x : Line). x.codes) e in
      let n : length u.1 ≡ u.0 = (times_back (field bad_line w.k) u.0 r2 u.1 r3 d7).0.0 in
      let m : u.0 ≡ length l.codes = sym n ∙ ap length c in
      from_parts (d1 ∙ ap (λ (x : Line). got x.start r1) e)
      (d6 ∙ ap (λ (x : ℕ). got x r2) m)
      (ap (λ (x : ℕ). times_dec (field bad_line w.k) x r2) (sym m) ∙ d7 ∙ ap (λ (x : List ℕ). got x r3) c)
      (d4 ∙ ap (λ (x : Line). got x.finish (drop q (bits_of s))) e)

-- an end's direction is behind its two bits of type
pub direction_at : (w : Widths) {s : List ℕ} {p q : ℕ} {x : End} → Reads (end w).dec s p (found x q) → p ≤ 8 * length s
    → Reads (field_dec bad_line w.b) s (p + 2) (found x.direction (p + 2 + w.b))
unfolding end
direction_at w {s} {p} {q} {x} h i =
    via_got _ _ h.is λ t d e.
    then_got _ _ d λ r1 d1 d2.
    then_got _ _ d2 λ r2 d3 d4.
    let (h1, e1) = moved (field bad_line 2) 2 i d1 (λ f. length_bits 2 t.0) in
    let k = ap (field_dec bad_line w.b) (sym e1) ∙ d3 ∙ ap (λ (y : End). got y.direction r2) e in
    (moved (field bad_line w.b) w.b h1.within k (λ f. length_bits w.b x.direction)).0

-- where code finds that it ends, by the count n
pub line_ends : (w : Widths) {s : List ℕ} {p : ℕ} {l : Line} {q n z : ℕ} → Reads (line w).dec s p (found l q) → Reads (field_dec bad_line 8) s (p + end_bits w) (found n z)
    → p + end_bits w + 8 + n * w.k + end_bits w ≡ q
line_ends w {p = p} h k = let L = line_at_lem w h in ap (λ (m : ℕ). p + end_bits w + 8 + m * w.k + end_bits w) (same k L.count).0 ∙ sym L.behind
