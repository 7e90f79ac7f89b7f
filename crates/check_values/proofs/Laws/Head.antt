-- The value of a view's 02 that is read by the counts is one that is read by the positions before, and its position is one of the
-- eleven.
use mathlib.Core.Path.{◌≡◌, subst}
use Prim.Native.Nat.{ℕ, ◌≤◌}
use native.Mathlib.Omega.{arith}
use mathlib.Core.Bool.{Bool}
use mathlib.Core.List.{List, []}
use Rattle.bits.specs.Bytes.{bits_of}
use Rattle.bits.specs.BytesLaws.{length_bits_of}
use Rattle.bits.specs.Codec.{Read, got}
use Rattle.format.specs.View.{occurs}
use Rattle.format.specs.declared.ViewHeader.{ViewHeader}
use Rattle.judge_heads.specs.Answers.{earlier_of, Seen}
use Rattle.judge_heads.proofs.Laws.Seen.{seen_is, right_position}
use Rattle.sheet.specs.Values.{view_head_value}

pub head_seen : {seen ps : List ℕ} (v : List ℕ) (r : Read Bool ViewHeader) → Seen seen ps → (view_head_value (earlier_of seen)).dec (bits_of v) ≡ r
    → (view_head_value (λ q. occurs q ps)).dec (bits_of v) ≡ r
head_seen v r h k = subst (λ (f : ℕ → ℕ). (view_head_value f).dec (bits_of v) ≡ r) (seen_is h) k

pub position_le : (f : ℕ → ℕ) (v : List ℕ) (h : ViewHeader) → (view_head_value f).dec (bits_of v) ≡ got h [] → h.position ≤ 10
unfolding view_head_value
position_le f v h e =
    let g = ((view_head_value f).back (bits_of v) h (omega (arith, length_bits_of v)) e).0 in
    right_position f h.number h.position h.impression h.quality g.right
