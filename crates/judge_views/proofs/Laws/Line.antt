-- A line, and the lines of a skeleton block, as the judge's loops read them: what each early way out says of the line, and what a
-- turn of the loop keeps.
use mathlib.Core.Path.{◌≡◌, refl, sym, ap, ◌∙◌, subst}
use Prim.Native.Nat.{ℕ, ◌+◌, ◌-◌, ◌*◌, ◌≤◌, ◌<◌}
use native.Mathlib.Omega.{arith}
use native.Mathlib.Nat.{mul-le-mul_right}
use mathlib.Core.Bool.{Bool}
use mathlib.Core.List.{List, []}
use lib.ListN.{length, drop}
use Rattle.bits.specs.Bits.{Bits}
use Rattle.bits.specs.Bytes.{bits_of}
use Rattle.bits.specs.Codec.{Read, got, refused, next, field_dec, times_dec}
use Rattle.bits.specs.CodecLaws.{field, times, times_back, counted}
use Rattle.bits.specs.Block.{zeros_dec, many_dec}
use Rattle.bits.specs.Lists.{total}
use Rattle.bits.specs.ChoiceLaws.{split}
use Rattle.bits.specs.Reads.{found, fault, Reads, keeping, tallied}
use Rattle.bits.proofs.Laws.Reads.{length_rest, known, field_got, field_past, below, at_place, up_to, go_on, stop, made, all_of, none_of, keeping_got, keeping_refused}
use Rattle.bits.proofs.Laws.Refuses.{Refuses, refusing}
use Rattle.bits.proofs.Laws.Full.{Full, field_full, times_full, full_at, full_past}
use Rattle.bits.proofs.Laws.Loops.{keeping_same, tally_more, many_turn, many_stop, many_full, many_last}
use Rattle.std.specs.Prelude.{Result, Ok, Err}
use Rattle.outcome.specs.Refusals.{bad_line, too_many_lines}
use Rattle.judge_zeros.specs.Zeros.{cleared}
use Rattle.format.specs.Limits.{most_lines}
use Rattle.format.specs.Line.{Line, end, end_bits, line, skeleton}
use Rattle.format.specs.SheetSize.{line_size}
use Rattle.format.specs.declared.Widths.{Widths}
use Rattle.format.specs.declared.End.{End}
use Rattle.format.proofs.Laws.Size.{end_full}
use Rattle.format.proofs.Laws.Refuses.{end_refuses}

-- ---- what is passed by its bits

codes_full : (w : Widths) (n : ℕ) → Full (times (field bad_line w.k) n) (n * w.k)
codes_full w n = times_full (field bad_line w.k) w.k n (field_full bad_line w.k)

codes_refuse : (w : Widths) (n : ℕ) → Refuses (λ m. bad_line ≡ m) (times_dec (field bad_line w.k) n)
codes_refuse w n = search refusing depth 12

-- ---- a line of the block s, at place p

module _ (w : Widths) (s : List ℕ) (p : ℕ) (i : p ≤ 8 * length s) where
  -- its start or its count of codes passes the end of the block
  no_start : 8 * length s - p < end_bits w + 8 → Reads (line w).dec s p (fault bad_line p)
  unfolding line
  no_start h =
      split (p + end_bits w) (8 * length s)
      (λ k. let (x, r) = full_at (end_full w) s p k in
      none_of _ i (made _ _ (go_on _ _ r (stop _ _ (made _ _ (stop _ _ (field_past bad_line s (p + end_bits w) 8 k (omega arith))))))))
      (λ k. let (q, r) = full_past (end_full w) s p (end_refuses _ w refl) i k in none_of _ i (made _ _ (stop _ _ r)))

  -- k codes follow; m of them are left, and the next is at place q
  module _ {k p2 : ℕ} (K : Reads (field_dec bad_line 8) s (p + end_bits w) (found k p2)) (room : p + end_bits w ≤ 8 * length s) (m q : ℕ)
      (at : q + m * w.k ≡ p2 + k * w.k) (b : q ≤ 8 * length s) where
    start_is : (x : End) × Reads (end w).dec s p (found x (p + end_bits w))
    start_is = full_at (end_full w) s p room

    codes_past : 8 * length s < q + m * w.k → Reads (line w).dec s p (fault bad_line p)
    unfolding line
    codes_past h =
        let (y, r) = full_past (codes_full w k) s p2 (codes_refuse w k) K.within (rw (sym at) h) in
        none_of _ i (made _ _ (go_on _ _ start_is.1 (stop _ _ (made _ _ (go_on _ (times (field bad_line w.k)) K r)))))

    codes_are : q + m * w.k ≤ 8 * length s
        → (cs : List ℕ) × (length cs ≡ k) × Reads (counted (field bad_line 8) (field bad_line w.k)).dec s (p + end_bits w) (found cs (q + m * w.k))
    codes_are h =
        let (cs, r) = full_at (codes_full w k) s p2 (rw (sym at) h) in (
          cs,
          (times_back (field bad_line w.k) k (drop p2 (bits_of s)) cs (drop (p2 + k * w.k) (bits_of s)) r.is).0.0,
          made _ _ (go_on _ (times (field bad_line w.k)) K (up_to (sym at) r)),
        )

    -- n of those that are left do not fit
    no_codes : (n : ℕ) → n ≤ m → 8 * length s - q < n * w.k → Reads (line w).dec s p (fault bad_line p)
    no_codes n l h = codes_past (omega (arith, mul-le-mul_right w.k l))

    -- they, or the end behind them, do not fit
    no_rest : 8 * length s - q < m * w.k + end_bits w → Reads (line w).dec s p (fault bad_line p)
    unfolding line
    no_rest h =
        split (q + m * w.k) (8 * length s)
        (λ l. let (y, r) = full_past (end_full w) s (q + m * w.k) (end_refuses _ w refl) l (omega arith) in
        none_of _ i (made _ _ (go_on _ _ start_is.1 (go_on _ _ (codes_are l).2 r))))
        codes_past

    line_is : {P : Type 0} → m * w.k + end_bits w ≤ 8 * length s - q
        → ((l : Line) → line_size l ≡ 15 + k → Reads (line w).dec s p (found l (q + (m * w.k + end_bits w))) → P) → P
    unfolding line
    line_is h f =
        let (y, r) = full_at (end_full w) s (q + m * w.k) (omega arith) in
        let c = codes_are (omega arith) in
        f _ (ap (λ (n : ℕ). 15 + n) c.1) (all_of _ (made _ _ (go_on _ _ start_is.1 (go_on _ _ c.2 (up_to (omega arith) r)))))

-- ---- the zero bits behind the lines, once the answer of their reader is known

pub dirty : {s : List ℕ} {p q : ℕ} {r : Result (Unit {0}) ℕ} → r ≡ Err q → Reads (zeros_dec bad_line) s p (cleared bad_line s r) → Reads (zeros_dec bad_line) s p (fault bad_line q)
dirty {s} h k = known (ap (cleared bad_line s) h) k

pub clean : {s : List ℕ} {p : ℕ} {r : Result (Unit {0}) ℕ} → r ≡ Ok tt → Reads (zeros_dec bad_line) s p (cleared bad_line s r) → Reads (zeros_dec bad_line) s p (found tt (8 * length s))
clean {s} h k = known (ap (cleared bad_line s) h) k

-- ---- the lines of the block s, where n are read with z bytes in the sheet, and the next starts at place p

abbrev pub line_tally : List Line → ℕ × ℕ
line_tally ls = (length ls, total line_size ls)

pub record Lines (w : Widths) (s : List ℕ) (n z p : ℕ) : Type 0 where
  pub few : n ≤ 1024
  pub small : z ≤ 270 * n
  pub within : p ≤ 8 * length s
  pub is : tallied line_size n z (many_dec (line w) bad_line too_many_lines (1024 - n) (drop p (bits_of s))) ≡ keeping line_tally ((skeleton w).dec (bits_of s))

pub lines_start : (w : Widths) (s : List ℕ) (p : ℕ) → p ≡ 0 → Lines w s 0 0 p
unfolding skeleton most_lines
lines_start w s p e =
    let first : tallied line_size 0 0 (many_dec (line w) bad_line too_many_lines 1024 (bits_of s)) ≡ keeping line_tally ((skeleton w).dec (bits_of s)) =
    keeping_same _ _ (many_dec (line w) bad_line too_many_lines 1024 (bits_of s)) λ ls.
    let a : 0 + length ls ≡ length ls = omega arith in
    let b : 0 + total line_size ls ≡ total line_size ls = omega arith in
    λ i. (a i, b i) in
    record { few = omega arith; small = omega arith; within = omega arith; is = subst (λ (q : ℕ). tallied line_size 0 0 (many_dec (line w) bad_line too_many_lines 1024 (drop q (bits_of s))) ≡ keeping line_tally ((skeleton w).dec (bits_of s))) (sym e) first }

module _ {w : Widths} {s : List ℕ} {n z p : ℕ} (L : Lines w s n z p) where
  pub lines_over : n ≡ 1024 → 8 ≤ 8 * length s - p → (skeleton w).dec (bits_of s) ≡ refused too_many_lines (8 * length s - p)
  lines_over e h =
      keeping_refused line_tally _
      (sym L.is ∙ ap (tallied line_size n z) (many_full (line w) bad_line too_many_lines 1024 n (drop p (bits_of s)) e (rw (length_rest s p) h) ∙ ap (refused too_many_lines) (length_rest s p)))

  -- a line follows
  module _ (l : n < 1024) (h : 8 ≤ 8 * length s - p) where
    lines_stop : {e q : ℕ} → Reads (line w).dec s p (fault e q) → (skeleton w).dec (bits_of s) ≡ refused e (8 * length s - q)
    lines_stop r =
        keeping_refused line_tally _
        (sym L.is ∙ ap (tallied line_size n z) (many_stop (line w) bad_line too_many_lines 1024 n (drop p (bits_of s)) l (rw (length_rest s p) h) r.is))

    -- its start or its count of codes does not fit
    pub line_no_start : 8 * length s - p < end_bits w + 8 → (skeleton w).dec (bits_of s) ≡ refused bad_line (8 * length s - p)
    line_no_start k = lines_stop (no_start w s p L.within k)

    -- its count, behind its start of d bits, is k; m of its codes are left, and the next is at place q
    module _ {d k p2 : ℕ} (D : d ≡ end_bits w) (K : Reads (field_dec bad_line 8) s (p + d) (found k p2)) (m q : ℕ) (at : q + m * w.k ≡ p2 + k * w.k) (b : q ≤ 8 * length s) where
      count_is : Reads (field_dec bad_line 8) s (p + end_bits w) (found k p2)
      count_is = at_place (ap (λ (j : ℕ). p + j) D) K

      room : p + end_bits w ≤ 8 * length s
      room = omega (arith, (field_got bad_line 8 _ count_is.is).0, length_rest s (p + end_bits w))

      -- j of those that are left do not fit
      pub line_no_codes : (j : ℕ) → j ≤ m → 8 * length s - q < j * w.k → (skeleton w).dec (bits_of s) ≡ refused bad_line (8 * length s - p)
      line_no_codes j i r = lines_stop (no_codes w s p L.within count_is room m q at b j i r)

      -- they, or the end behind them, do not fit
      pub line_no_rest : 8 * length s - q < m * w.k + d → (skeleton w).dec (bits_of s) ≡ refused bad_line (8 * length s - p)
      line_no_rest r = lines_stop (no_rest w s p L.within count_is room m q at b (omega (arith, r, D)))

      pub line_turn : m * w.k + d ≤ 8 * length s - q → Lines w s (n + 1) (z + (15 + k)) (q + (m * w.k + d))
      line_turn r =
          line_is w s p L.within count_is room m q at b (omega (arith, r, D)) λ x e f.
          let g : q + (m * w.k + end_bits w) ≡ q + (m * w.k + d) = omega (arith, D) in
          let f2 = up_to g f in
          record {
            few = omega arith;
            small = omega (arith, L.small, below bad_line 8 K);
            within = f2.within;
            is = rw (← e)
                (sym (many_turn (line w) bad_line too_many_lines 1024 n (drop p (bits_of s)) (λ ls. (n + length ls, z + total line_size ls)) l (rw (length_rest s p) h) f2.is
                ∙ tally_more line_size n z x (many_dec (line w) bad_line too_many_lines (1024 - (n + 1)) (drop (q + (m * w.k + d)) (bits_of s)))) ∙ L.is);
          }

  -- no line follows
  module _ (h : 8 * length s - p < 8) where
    at_end : tallied {A = Line} line_size n z (next (zeros_dec bad_line (drop p (bits_of s))) (λ u r. got [] r)) ≡ keeping line_tally ((skeleton w).dec (bits_of s))
    at_end = sym (ap (tallied line_size n z) (many_last (line w) bad_line too_many_lines 1024 n (drop p (bits_of s)) (rw (length_rest s p) h))) ∙ L.is

    abbrev cleared_so : Read Bool (Unit {0}) → Read Bool (ℕ × ℕ)
    cleared_so o = tallied {A = Line} line_size n z (next o (λ u r. got [] r))

    pub lines_dirt : {q : ℕ} → Reads (zeros_dec bad_line) s p (fault bad_line q) → (skeleton w).dec (bits_of s) ≡ refused bad_line (8 * length s - q)
    lines_dirt r = keeping_refused line_tally _ (sym at_end ∙ ap cleared_so r.is)

    pub lines_done : {P : Type 0} {q : ℕ} → Reads (zeros_dec bad_line) s p (found tt q)
        → ((ls : List Line) (u : Bits) → length ls ≡ n → total line_size ls ≡ z → (skeleton w).dec (bits_of s) ≡ got ls u → P) → P
    lines_done r f =
        keeping_got line_tally _ (sym at_end ∙ ap cleared_so r.is) λ ls y e.
        let a : length ls ≡ n + 0 = ap (λ (t : ℕ × ℕ). t.0) e in
        let b : total line_size ls ≡ z + 0 = ap (λ (t : ℕ × ℕ). t.1) e in
        f ls _ (omega arith) (omega arith) y
