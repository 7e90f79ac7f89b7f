-- A view's header that is read by the counts is one that is read by the positions before, and its position is one of the eleven.
use mathlib.Core.Path.{subst}
use Prim.Native.Nat.{ℕ, ◌≤◌}
use mathlib.Core.List.{List}
use lib.ListN.{drop}
use Rattle.bits.specs.Bytes.{bits_of}
use Rattle.bits.specs.Reads.{Found, found, Reads}
use Rattle.format.specs.View.{view_header, occurs}
use Rattle.format.specs.declared.ViewHeader.{ViewHeader}
use Rattle.judge_heads.specs.Answers.{head_dec, Seen}
use Rattle.judge_heads.proofs.Laws.Seen.{seen_is, right_position}

pub head_seen : {seen ps : List ℕ} (s : List ℕ) (p : ℕ) (r : Found (ViewHeader × ℕ)) → Seen seen ps → Reads (head_dec seen) s p r
    → Reads (view_header (λ q. occurs q ps)).dec s p r
unfolding head_dec
head_seen s p r h k = subst (λ (f : ℕ → ℕ). Reads (view_header f).dec s p r) (seen_is h) k

pub position_le : (f : ℕ → ℕ) (s : List ℕ) (p : ℕ) (h : ViewHeader) (n q : ℕ) → Reads (view_header f).dec s p (found (h, n) q) → h.position ≤ 10
unfolding view_header
position_le f s p h n q r =
    let g = ((view_header f).back (drop p (bits_of s)) (h, n) (drop q (bits_of s)) r.is).0.0 in
    right_position f h.number h.position h.impression h.quality g.right
