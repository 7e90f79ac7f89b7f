-- The lines of a skeleton block s, one by one: which are still to be read, and the next of them.
use mathlib.Core.Path.{◌≡◌, refl, sym, ap, ◌∙◌}
use Prim.Native.Nat.{ℕ, suc, ◌+◌, ◌-◌, ◌*◌, ◌≤◌, ◌<◌}
use native.Mathlib.Omega.{arith}
use mathlib.Core.List.{List, [], ◌∷◌}
use lib.ListN.{length, drop, get_or, length-drop}
use Rattle.bits.specs.ChoiceLaws.{pick_no, split}
use Rattle.bits.specs.ListsLaws.{first_left}
use Rattle.bits.specs.Bits.{Bits}
use Rattle.bits.specs.Bytes.{bits_of}
use Rattle.bits.specs.Codec.{got}
use Rattle.bits.specs.CodecLaws.{not_got, next_got}
use Rattle.bits.specs.Block.{few, zeros_dec, many_dec}
use Rattle.bits.proofs.BlockLaws.{few_no}
use Rattle.bits.specs.Reads.{found, Reads}
use Rattle.bits.proofs.Laws.Reads.{length_rest}
use Rattle.bits.proofs.Laws.Apart.{moved}
use Rattle.bits.proofs.Laws.Loops.{many_full, many_last}
use Rattle.outcome.specs.Refusals.{bad_line, too_many_lines}
use Rattle.format.specs.Limits.{most_lines}
use Rattle.format.specs.Line.{Line, line, line_long_lem, skeleton}
use Rattle.format.specs.Places.{no_line}
use Rattle.format.specs.declared.Widths.{Widths}
use Rattle.find_parts.specs.Stands.{BlockAt}
use Rattle.find_parts.specs.Finds.{LineEnd, LinesLeft, LinesPassed}
use Rattle.find_parts.specs.declared.Passed.{Passed}
use Rattle.find_parts.proofs.Laws.Blocks.{cut, few_lines}

pub lines_first : {w : Widths} {s : List ℕ} {ls : List Line} {u : Bits} → (skeleton w).dec (bits_of s) ≡ got ls u → LinesLeft w s 0 0 ls u
unfolding skeleton
lines_first {w} {s} h =
    let z : most_lines - 0 ≡ most_lines = omega arith in
    record { reads = ap (λ (n : ℕ). many_dec (line w) bad_line too_many_lines n (bits_of s)) z ∙ h; few = omega arith; within = omega arith }

-- the lines still to be read are a line at place p, and others behind it
pub record LineNext (w : Widths) (s : List ℕ) (n p : ℕ) (ls : List Line) (u : Bits) : Type 0 where
  pub value : Line
  pub behind : ℕ
  pub others : List Line
  pub reads : Reads (line w).dec s p (found value behind)
  pub is : ls ≡ value ∷ others
  pub further : LinesLeft w s (n + 1) behind others u
  pub far : p < behind
  pub few : n < 1024

module _ {w : Widths} {s : List ℕ} {n p : ℕ} {ls : List Line} {u : Bits} (h : LinesLeft w s n p ls u) where
  -- while eight bits or more are left, a line is there
  pub line_next : 8 ≤ 8 * length s - p → LineNext w s n p ls u
  unfolding most_lines
  line_next l =
      let i : 8 ≤ length (drop p (bits_of s)) = rw (length_rest s p) l in
      split most_lines n
      (λ m. not_got (sym (many_full (line w) bad_line too_many_lines most_lines n (drop p (bits_of s)) (omega (arith, h.few)) i) ∙ h.reads))
      (λ m. let z : suc (most_lines - (n + 1)) ≡ most_lines - n = omega arith in
      let e = sym (pick_no (few (length (drop p (bits_of s)))) _ _ (few_no (length (drop p (bits_of s))) i)) ∙ ap (λ (j : ℕ). many_dec (line w) bad_line too_many_lines j (drop p (bits_of s))) z ∙ h.reads in
      next_got ((line w).dec (drop p (bits_of s))) _ e λ v r e1 h1.
      next_got (many_dec (line w) bad_line too_many_lines (most_lines - (n + 1)) r) _ h1 λ vs t e2 h2.
      let (f, g) = moved (line w) (length ((line w).enc v)) h.within e1 (λ _. refl) in
      let b : t ≡ u = cc in
      record {
        value = v;
        behind = p + length ((line w).enc v);
        others = vs;
        reads = f;
        is = sym (cc);
        further = record {
          reads = ap (many_dec (line w) bad_line too_many_lines (most_lines - (n + 1))) (sym g) ∙ e2 ∙ ap (got vs) b;
          few = omega arith;
          within = f.within;
        };
        far = omega (arith, line_long_lem w v);
        few = omega arith;
      })

  -- where fewer are left, no line is
  pub lines_none : 8 * length s - p < 8 → ls ≡ []
  lines_none l =
      let i : length (drop p (bits_of s)) < 8 = rw (length_rest s p) l in
      next_got (zeros_dec bad_line (drop p (bits_of s))) _ (sym (many_last (line w) bad_line too_many_lines most_lines n (drop p (bits_of s)) i) ∙ h.reads) λ t q e h1. cc

-- ---- lines that are passed: n of them, up to place p

abbrev pub Past : Widths → List ℕ → ℕ → ℕ → Type 0
Past w s n p = (ls : List Line) (u : Bits) → (skeleton w).dec (bits_of s) ≡ got ls u → (n ≤ length ls) × LinesLeft w s n p (drop n ls) u

pub past_none : (w : Widths) (s : List ℕ) → Past w s 0 0
past_none w s ls u h = (omega arith, lines_first h)

pub past_next : {w : Widths} {s : List ℕ} {n p q : ℕ} → Past w s n p → 8 ≤ 8 * length s - p → LineEnd w s p q → Past w s (n + 1) q
past_next {w} {s} {n} {p} {q} past l e ls u h =
    let N = line_next (past ls u h).1 l in
    let (k, _, o) = first_left ls n no_line N.is in
    let z : q ≡ N.behind = e.is N.value N.behind N.reads in
    (omega arith, rw (z, ← o) N.further)

-- ---- the line that code comes to, of those that the block has

module _ {w : Widths} {s : List ℕ} {most : ℕ} {x : Passed} (P : LinesPassed w s most x) {ls : List Line} {u : Bits} (h : (skeleton w).dec (bits_of s) ≡ got ls u) where
  pub passed_within : x.next ≤ 8 * length s
  passed_within = (P.is ls u h).1.within

  -- there is none
  pub passed_all : 8 * length s - x.next < 8 → length ls ≤ most
  passed_all l =
      let e = lines_none (P.is ls u h).1 l in
      omega (arith, P.upto, sym (length-drop x.count ls) ∙ ap length e)

  -- there is
  module _ (l : 8 ≤ 8 * length s - x.next) where
    abbrev pub passed_next : LineNext w s x.count x.next (drop x.count ls) u
    passed_next = line_next (P.is ls u h).1 l

    passed_count : x.count ≡ most
    passed_count =
        split most x.count
        (λ m. omega (arith, P.upto))
        (λ m. absurd (omega (arith, P.all m)))

    pub passed_there : (most < length ls) × (passed_next.value ≡ get_or ls most no_line)
    passed_there = let (k, v, _) = first_left ls x.count no_line passed_next.is in rw (← passed_count) (k, v)

-- ---- all lines are passed

pub none_left : {A : Type 0} (xs : List A) (n : ℕ) → n ≤ length xs → drop n xs ≡ [] → n ≡ length xs
none_left xs n h e = let z : length xs - n ≡ 0 = sym (length-drop n xs) ∙ ap length e in omega arith

pub lines_counted : {w : Widths} {s : List ℕ} {a e : ℕ} {ls : List Line} {r : Passed} → BlockAt (skeleton w) s a e ls → LinesPassed w (cut s a e) 1024 r → r.count ≡ length ls
lines_counted {w} {ls = ls} {r = r} h P =
    let (c, left) = P.is ls [] h.value in
    split 1024 r.count (λ k. omega (arith, few_lines w h)) (λ k. none_left ls r.count c (lines_none left (P.all k)))
