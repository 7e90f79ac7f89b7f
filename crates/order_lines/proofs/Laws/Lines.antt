-- Going over the lines of a block: where each stands, and those that stay, so far and still to come, whatever lines the block has.
use mathlib.Core.Path.{◌≡◌, refl, sym, ap, ◌∙◌}
use Prim.Native.Nat.{ℕ, ◌+◌, ◌*◌, ◌/◌, ◌≤◌}
use native.Mathlib.Omega.{arith}
use mathlib.Core.List.{List, [], ◌∷◌}
use lib.ListN.{length}
use Rattle.bits.specs.Bits.{Bits}
use Rattle.bits.specs.Bytes.{in_bytes}
use Rattle.bits.specs.Codec.{got}
use Rattle.bits.specs.CodecLaws.{enc_all}
use Rattle.bits.specs.Reads.{found, Reads}
use Rattle.format.specs.Line.{Line, FitsLine, line}
use Rattle.format.specs.declared.Widths.{Widths}
use Rattle.find_parts.specs.Finds.{LineEnd}
use Rattle.find_parts.proofs.Laws.Standing.{stands_behind}
use Rattle.find_parts.proofs.Laws.Blocks.{skeleton_is}
use Rattle.orders.specs.Act.{remove, new_lines}
use Rattle.orders.specs.Listed.{removal_lines}
use Rattle.format.specs.View.{View}
use Rattle.format.specs.Places.{no_line}
use Rattle.put_bits.proofs.Bytes.{filled_length}
use Rattle.put_bits.proofs.Laws.{put_none, put_laid}
use Rattle.put_bits.proofs.Chain.{putting_none}
use Rattle.order_removal.proofs.Laws.Kept.{kept_survivors}
use Rattle.order_removal.proofs.Laws.Going.{Going}
use Rattle.order_lines.specs.Lines.{kept_from, kept_block, LinesAt, LinesSized, LinesPut}
use Rattle.order_lines.proofs.Laws.Each.{same, Stand, Ends, first_bits, first_within, Sized, ToPut, all_sized_lem, all_put}

-- ---- a line

module _ (w : Widths) (s : List ℕ) (p : ℕ) where
  pub line_reads : (x : Line) (xs : List Line) {u : Bits} → LinesAt w s p (x ∷ xs) u → Reads (line w).dec s p (found x (p + length ((line w).enc x)))
  unfolding line
  line_reads x xs {u} h =
      record {
        is = ap (line w).dec (first_bits h) ∙ (line w).there x _ h.fits.0
            ∙ ap (got x) (sym (stands_behind s p ((line w).enc x) _ (first_bits h) (length ((line w).enc x)) refl));
        within = first_within h;
      }

  pub line_ends : (u : Bits) {q : ℕ} → LineEnd w s p q → Ends (line w).enc (FitsLine w) s u p q
  line_ends u E x xs h = E.is x _ (line_reads x xs h)

-- ---- those that stay

-- their bits
abbrev pub kept_bits : Widths → List ℕ → List Line → Bits
kept_bits w removal ls = enc_all (line w) (kept_from (removal_lines removal) 0 ls)

pub block_bytes : (w : Widths) (removal : List ℕ) (ls : List Line) → length (kept_block w removal ls) ≡ (length (kept_bits w removal ls) + 7) / 8
block_bytes w removal ls =
    ap (λ (b : Bits). length (in_bytes b)) (skeleton_is w (kept_from (removal_lines removal) 0 ls)) ∙ filled_length (kept_bits w removal ls)

-- room for the block is room for them
pub block_room : (w : Widths) (removal : List ℕ) (ls : List Line) {n : ℕ} → length (kept_block w removal ls) ≤ n → 0 + length (kept_bits w removal ls) ≤ 8 * n
block_room w removal ls r = omega (arith, block_bytes w removal ls)

-- line l comes next, at place p
abbrev pub LinesGoing : (w : Widths) (s removal : List ℕ) (count : ℕ) → (Bits → List Line → Type 0) → (l p : ℕ) → Type 0
LinesGoing w s removal count Rest l p =
    (ls : List Line) (u : Bits) → LinesAt w s 0 ls u → length ls ≡ count
    → Going same (removal_lines removal) count (Stand (line w).enc (FitsLine w) s u) (Rest (kept_bits w removal ls)) l p

abbrev pub SizingAll : (w : Widths) (s removal : List ℕ) (count l p bits : ℕ) → Type 0
SizingAll w s removal count l p bits = LinesGoing w s removal count (λ all. Sized (line w).enc all 0 bits) l p

abbrev pub PutAll : (w : Widths) (s removal : List ℕ) (count l p : ℕ) (old now : List ℕ) (at : ℕ) → Type 0
PutAll w s removal count l p old now at = LinesGoing w s removal count (λ all. ToPut (line w).enc all old 0 now at) l p

module _ (w : Widths) (s removal : List ℕ) (count : ℕ) where
  pub sizing_first : SizingAll w s removal count 0 0 0
  sizing_first ls u a c = record { more = ls; at = a; left = omega arith; rest = record { sums = refl } }

  pub put_first : (old : List ℕ) → PutAll w s removal count 0 0 old old 0
  put_first old ls u a c = record { more = ls; at = a; left = omega arith; rest = putting_none (kept_bits w removal ls) old 0 }

  module _ {l p : ℕ} (k : count ≤ l) where
    pub sized : {bits : ℕ} → SizingAll w s removal count l p bits → LinesSized w s count removal ((bits + 7) / 8)
    sized G = record { is = λ ls u a c. omega (arith, all_sized_lem k (G ls u a c), block_bytes w removal ls) }

    pub put_done : {old now : List ℕ} {at : ℕ} → PutAll w s removal count l p old now at → LinesPut w s count removal old now ((at + 7) / 8)
    put_done {old} G =
        record { is = λ ls u a c. rw (skeleton_is w (kept_from (removal_lines removal) 0 ls)) (put_laid ((all_put k (G ls u a c)).is [] old (put_none old)) refl) }

-- ---- the lines that the definition has after a removal

pub remove_lines : (rs : List ℕ) (v : View) → kept_from rs 0 v.lines ≡ new_lines (remove rs) v
remove_lines rs v = kept_survivors (λ x. x) no_line rs v.lines
