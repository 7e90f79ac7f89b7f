-- The laws of writing a line: its field is made of its parts' reads. The loop over codes says what is read and laid so far.
use mathlib.Core.Path.{◌≡◌, refl, sym, ap, ap₂, ◌∙◌, subst}
use Prim.Native.Nat.{ℕ, ◌+◌, ◌-◌, ◌*◌, ◌^◌, ◌≤◌, ◌<◌}
use native.Mathlib.Omega.{arith}
use native.Mathlib.Nat.{suc-mul, mul-le-mul_right}
use native.Mathlib.Numerals.{add-one}
use mathlib.Core.List.{List, [], ◌∷◌, ◌++◌, map, map-append}
use lib.ListN.{length, drop, set}
use lib.Dec.{ltb}
use lib.Pow.{pow_mono}
use mir.Facts.{yes_ltb, no_ltb}
use Rattle.bits.specs.ChoiceLaws.{pick_yes, pick_no}
use Rattle.bits.specs.Bytes.{bits_of}
use Rattle.bits.specs.Codec.{field_dec, times_dec}
use Rattle.bits.specs.CodecLaws.{field, times_back}
use Rattle.bits.specs.Reads.{found, Reads}
use Rattle.bits.proofs.Laws.Reads.{go_on, made, at_place, below, up_to}
use Rattle.outcome.specs.Refusals.{bad_line}
use Rattle.put_bytes.specs.Laid.{Laid}
use Rattle.put_bytes.proofs.Laws.{laid_none, laid_one, laid_same}
use Rattle.format.specs.Line.{Line, end, end_bits, line}
use Rattle.format.specs.SheetSize.{line_size}
use Rattle.format.specs.declared.End.{End}
use Rattle.format.specs.declared.Widths.{Widths}
use Rattle.sheet_codes.specs.Code.{sign_extended}
use Rattle.put_bytes.specs.HighFirst.{start}
use Rattle.sheet_bytes.specs.Bytes.{end_bytes, line_bytes}
use Rattle.read_blocks.specs.LineParts.{SmallEnd, PartsThere, PartsOut}
use Rattle.format.specs.Record.{Narrow}
use Rattle.find_parts.proofs.Laws.Line.{line_at_lem}
use Rattle.read_blocks.specs.LineOuts.{LineOut}
use Rattle.read_blocks.specs.declared.line.LineParts.{LineParts}
use Rattle.bits.proofs.Laws.Apart.{same, times_snoc}

-- ---- an end

pub end_is : (w : Widths) {s : List ℕ} {p p1 p2 p3 p4 k d x y : ℕ} → Reads (field_dec bad_line 2) s p (found k p1) → Reads (field_dec bad_line w.b) s p1 (found d p2)
    → Reads (field_dec bad_line w.c) s p2 (found x p3) → Reads (field_dec bad_line w.c) s p3 (found y p4)
    → Reads (end w).dec s p (found (record { kind = k; direction = d; x = x; y = y }) p4)
unfolding end
end_is w a b c d = made _ _ (go_on _ _ a (go_on _ _ b (go_on _ _ c d)))

end_small : {w : Widths} {s : List ℕ} {p q : ℕ} {x : End} → Narrow w → Reads (end w).dec s p (found x q) → SmallEnd x
unfolding end
end_small {w} {s} {p} {q} {x} n h =
    let f = ((end w).back (drop p (bits_of s)) x (drop q (bits_of s)) h.is).0 in
    let b = pow_mono n.b in
    let c = pow_mono n.c in
    record { kind = omega (arith, f.kind); direction = omega (arith, f.direction, b); x = omega (arith, f.x, c); y = omega (arith, f.y, c) }

-- ---- the byte of a code

-- of one without a sign, and of one with
pub code_low : (k n : ℕ) → n < 2 ^ (k - 1) → n ≡ sign_extended k n
unfolding sign_extended
code_low k n h = sym (pick_yes (ltb n (2 ^ (k - 1))) _ _ (yes_ltb {a = n} (omega arith)))

pub code_high : (k n : ℕ) → 2 ^ (k - 1) ≤ n → n + (256 - 2 ^ k) ≡ sign_extended k n
unfolding sign_extended
code_high k n h = sym (pick_no (ltb n (2 ^ (k - 1))) _ _ (no_ltb {a = n} (omega arith)))

-- ---- the same line, as code reads it: x and y are the ends that it finds, n the count

module _ (w : Widths) {s : List ℕ} {p : ℕ} {l : Line} {q : ℕ} (h : Reads (line w).dec s p (found l q)) where
  pub start_there : p + end_bits w ≤ 8 * length s
  start_there = (line_at_lem w h).start.within

  module _ {x : End} {p1 : ℕ} (X : Reads (end w).dec s p (found x p1)) where
    start_is : (x ≡ l.start) × (p1 ≡ p + end_bits w)
    start_is = same X (line_at_lem w h).start

    pub count_there : p1 + 8 ≤ 8 * length s
    count_there = omega (arith, start_is.1, (line_at_lem w h).count.within)

    module _ {n p2 : ℕ} (N : Reads (field_dec bad_line 8) s p1 (found n p2)) where
      count_is : (n ≡ length l.codes) × (p2 ≡ p + end_bits w + 8)
      count_is = same (at_place start_is.1 N) (line_at_lem w h).count

      codes_end : p2 + n * w.k ≡ p + end_bits w + 8 + length l.codes * w.k
      codes_end = ap₂ (λ (a b : ℕ). a + b * w.k) count_is.1 count_is.0

      pub finish_there : p2 + n * w.k + end_bits w ≤ 8 * length s
      finish_there = omega (arith, codes_end, (line_at_lem w h).behind, h.within)

      codes_are : Reads (times_dec (field bad_line w.k) n) s p2 (found l.codes (p2 + n * w.k))
      codes_are =
          let C = (line_at_lem w h).codes in
          subst (λ (a : ℕ). Reads (times_dec (field bad_line w.k) a) s p2 (found l.codes (p2 + n * w.k))) (sym count_is.0)
          (at_place (sym count_is.1) (up_to (sym codes_end) C))

      module _ {y : End} {p3 : ℕ} (Y : Reads (end w).dec s (p2 + n * w.k) (found y p3)) where
        finish_is : (y ≡ l.finish) × (p3 ≡ q)
        finish_is = same (at_place codes_end Y) (line_at_lem w h).finish

        abbrev parts : LineParts
        parts = record { start = x; finish = y; codes = record { at = p2 }; count = n }

        pub parts_there : {m : ℕ} → Narrow w → length s ≤ 65535 → line_size l ≤ m → PartsThere w.k s parts m
        parts_there u i r =
            record {
              short = i;
              low = u.low;
              high = u.k;
              start = end_small u X;
              finish = end_small u Y;
              count = below bad_line 8 N;
              codes = omega (arith, finish_there);
              room = omega (arith, count_is.0);
            }

        pub line_laid : {before after : List ℕ} {r : ℕ} → PartsOut w.k s parts before after r → LineOut w s p before after (record { next = record { at = p3 }; written = r })
        line_laid {before} {after} {r} o =
            record {
              is = λ l' q' h'.
                  let (e, z) = same h h' in
                  let f : ◌≡◌ {A = Line} (record { start = x; codes = l.codes; finish = y }) l = λ i. record { start = start_is.0 i; codes = l.codes; finish = finish_is.0 i } in
                  (finish_is.1 ∙ z, subst (λ (v : Line). Laid (line_bytes w.k v) before after r) (f ∙ e) (o.is l.codes (p2 + n * w.k) codes_are));
            }

-- its field, where the codes are laid behind the ends
pub parts_laid : {k : ℕ} {s : List ℕ} {l : LineParts} {before after : List ℕ} {r : ℕ}
    → ((cs : List ℕ) (q : ℕ) → Reads (times_dec (field bad_line k) l.count) s l.codes.at (found cs q)
    → Laid (((start 3 (12 + l.count) ++ end_bytes l.start) ++ end_bytes l.finish) ++ map (sign_extended k) cs) before after r)
    → PartsOut k s l before after r
parts_laid {k} {s} {l} {before} {after} {r} f =
    record {
      is = λ cs q h.
          let n : l.count ≡ length cs = sym (times_back (field bad_line k) l.count (drop l.codes.at (bits_of s)) cs (drop q (bits_of s)) h.is).0.0 in
          subst (λ (m : ℕ). Laid (start 3 (12 + m) ++ (end_bytes l.start ++ (end_bytes l.finish ++ map (sign_extended k) cs))) before after r) n (f cs q h);
    }

-- ---- codes, of which i are laid

-- a code that is still to come has its bits
pub code_there : (k : ℕ) {i n : ℕ} → i < n → i * k + k ≤ n * k
code_there k {i} {n} l = omega (arith, mul-le-mul_right k l, suc-mul i k)

-- i codes of k bits, from place p of the block s to place q, are laid
pub record CodesDone (k : ℕ) (s : List ℕ) (p : ℕ) (before now : List ℕ) (q i : ℕ) : Type 0 where
  pub done : List ℕ
  pub reads : Reads (times_dec (field bad_line k) i) s p (found done q)
  pub laid : Laid (map (sign_extended k) done) before now i

pub codes_none : (k : ℕ) {s : List ℕ} {p : ℕ} (d : List ℕ) → p ≤ 8 * length s → CodesDone k s p d d p 0
codes_none k d i = record { done = []; reads = record { is = refl; within = i }; laid = laid_none d }

module _ {k : ℕ} {s : List ℕ} {p : ℕ} {d o : List ℕ} {q i : ℕ} (h : CodesDone k s p d o q i) where
  pub codes_more : {v q' b : ℕ} → i < length d → Reads (field_dec bad_line k) s q (found v q') → b ≡ sign_extended k v → CodesDone k s p d (set o i b) q' (i + 1)
  codes_more {v} {q'} {b} l r e =
      record {
        done = h.done ++ v ∷ [];
        reads = record { is = ap (λ (j : ℕ). times_dec (field bad_line k) j (drop p (bits_of s))) (add-one i) ∙ times_snoc (field bad_line k) i (drop p (bits_of s)) h.reads.is r.is; within = r.within };
        laid = rw (map-append (sign_extended k) h.done (v ∷ []), e) (laid_one (sign_extended k v) h.laid (omega (arith, laid_same h.laid (omega arith))));
      }

  pub codes_all : {n : ℕ} {cs : List ℕ} {q' : ℕ} → i ≡ n → Reads (times_dec (field bad_line k) n) s p (found cs q') → Laid (map (sign_extended k) cs) d o i
  codes_all {n} {cs} {q'} e r =
      let f = (same h.reads (subst (λ (j : ℕ). Reads (times_dec (field bad_line k) j) s p (found cs q')) (sym e) r)).0 in
      subst (λ (x : List ℕ). Laid (map (sign_extended k) x) d o i) f h.laid
