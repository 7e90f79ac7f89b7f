-- The line is there, so its count is, and all that it counts.
use mathlib.Core.Path.{◌≡◌}
use Prim.Native.Nat.{ℕ, ◌+◌, ◌*◌}
use native.Mathlib.Omega.{arith}
use mathlib.Core.List.{List}
use Rattle.bits.specs.Codec.{field_dec}
use Rattle.bits.specs.Reads.{found, Reads}
use Rattle.bits.proofs.Laws.Reads.{at_place}
use Rattle.bits.proofs.Laws.Apart.{same}
use Rattle.outcome.specs.Refusals.{bad_line}
use Rattle.format.specs.Line.{Line, line, end_bits}
use Rattle.format.specs.declared.Widths.{Widths}
use Rattle.find_parts.proofs.Laws.Line.{line_at_lem, line_ends}
use Rattle.find_parts.proofs.line.line_end.Goals as goal

-- the line ends where the code finds
ends : (w : Widths) {s : List ℕ} {p n z q : ℕ} {l : Line} → Reads (line w).dec s p (found l q) → Reads (field_dec bad_line 8) s (p + (2 + w.b + 2 * w.c)) (found n z)
    → p + end_bits w + 8 + n * w.k + end_bits w ≡ q
ends w {p = p} h d = let e : p + (2 + w.b + 2 * w.c) ≡ p + end_bits w = omega arith in line_ends w h (at_place e d)

pub overflow_add-p : goal.overflow_add-p
overflow_add-p c = omega (arith, c.requires.short, (line_at_lem c.args.w c.requires.reads).start.within)

pub sure-count-requires : goal.sure-count-requires
sure-count-requires c =
    (c.requires.short, omega arith, omega (arith, (line_at_lem c.args.w c.requires.reads).count.within))

pub overflow_mul-result : goal.overflow_mul-result
overflow_mul-result c =
    let r = c.requires in omega (arith, r.short, ends c.args.w r.reads (c.sure-count.ensures.0 bad_line), r.reads.within)

pub overflow_add-result-3 : goal.overflow_add-result-3
overflow_add-result-3 c =
    let r = c.requires in omega (arith, r.short, ends c.args.w r.reads (c.sure-count.ensures.0 bad_line), r.reads.within)

pub overflow_add-result-4 : goal.overflow_add-result-4
overflow_add-result-4 c =
    let r = c.requires in omega (arith, r.short, ends c.args.w r.reads (c.sure-count.ensures.0 bad_line), r.reads.within)

pub returns : goal.returns
returns c =
    let r = c.requires in
    record { is = λ l e h. omega (arith, ends c.args.w r.reads (c.sure-count.ensures.0 bad_line), (same r.reads h).1) }
