-- A walk along a list in the block, step by step: what the block has there, and what the step leaves.
use mathlib.Core.Path.{◌≡◌, refl, ◌∙◌}
use mathlib.Core.Logic.{◌≢◌}
use Prim.Native.Nat.{ℕ, ◌+◌, ◌-◌, ◌*◌, ◌≤◌}
use native.Mathlib.Omega.{arith}
use mathlib.Core.List.{List, [], ◌∷◌, ◌++◌, append_assoc}
use lib.ListN.{length, drop}
use Rattle.bits.specs.Bits.{Bits, bits_of_number}
use Rattle.bits.specs.BitsLaws.{length_bits}
use Rattle.bits.specs.Bytes.{bits_of}
use Rattle.bits.specs.Codec.{field_dec}
use Rattle.bits.specs.CodecLaws.{enc_all, field}
use Rattle.bits.specs.Reads.{found, Reads}
use Rattle.outcome.specs.Refusals.{bad_index}
use Rattle.differences.specs.Differences.{diffs}
use Rattle.find_parts.proofs.Laws.Standing.{stands_behind, stands_within, number_there}
use Rattle.order_walk.specs.Walk.{WalkAt, LineTo}
use Rattle.order_walk.specs.declared.walk.ListWalk.{ListWalk}

-- the walk behind line n
abbrev on : ListWalk → ℕ → ListWalk
on k n = record { width = k.width; at = k.at + k.width; left = k.left - 1; base = n }

-- the line that comes next in the block
pub record Next (s : List ℕ) (k : ListWalk) (ns : List ℕ) (u : Bits) : Type 0 where
  pub line : ℕ
  pub more : List ℕ
  pub is : ns ≡ line ∷ more
  pub below : line ≤ k.base
  pub there : k.at + k.width ≤ 8 * length s
  pub read : {d q : ℕ} → Reads (field_dec bad_index k.width) s k.at (found d q) → d ≡ k.base - line
  pub at : WalkAt s (on k line) more u

module _ (s : List ℕ) (k : ListWalk) where
  pub next_in : (ns : List ℕ) {u : Bits} → WalkAt s k ns u → k.left ≢ 0 → Next s k ns u
  next_in [] h d = absurd (d h.left)
  next_in (n ∷ ns) {u} h d =
      let w : ℕ = k.width in
      let x : Bits = bits_of_number w (k.base - n) in
      let r : Bits = enc_all (field bad_index w) (diffs n ns) ++ u in
      let b : drop k.at (bits_of s) ≡ x ++ r = h.bits ∙ append_assoc x (enc_all (field bad_index w) (diffs n ns)) u in
      let t : k.at + length x ≤ 8 * length s = stands_within s k.at x r b h.within in
      record {
        line = n;
        more = ns;
        is = refl;
        below = omega (arith, h.falls.0);
        there = omega (arith, length_bits w (k.base - n));
        read = λ f. number_there bad_index w r h.small.0 b f;
        at = record {
          left = omega (arith, h.left);
          bits = stands_behind s k.at x r b w (length_bits w (k.base - n));
          within = omega (arith, length_bits w (k.base - n));
          least = 1;
          falls = h.falls.1;
          small = h.small.1;
        };
      }

  -- what the code says of it
  pub line_to_lem : {ns : List ℕ} {u : Bits} (x : Next s k ns u) (n : ℕ) → n ≡ x.line → LineTo s ns u (record { line = n; next = on k n })
  line_to_lem x n e = rw e (record { more = x.more; at = x.at; is = x.is })

-- at its end a list has no more lines
pub walk_end : {s : List ℕ} {k : ListWalk} (ns : List ℕ) {u : Bits} → WalkAt s k ns u → k.left ≡ 0 → ns ≡ []
walk_end [] h z = refl
walk_end (n ∷ ns) h z = absurd (omega (arith, h.left))
