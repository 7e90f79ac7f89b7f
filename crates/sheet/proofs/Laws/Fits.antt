-- The record's rules and the sheet's are the same: an allowed record has right values, in a sheet of the right shape; and a record
-- with right values, from a sheet of the right shape, is allowed if it is not too long.
use mathlib.Core.Path.{◌≡◌, sym, ◌∙◌}
use Prim.Native.Nat.{ℕ, suc, ◌+◌, ◌-◌, ◌%◌, ◌^◌, ◌≤◌, ◌<◌}
use native.Mathlib.Omega.{arith}
use mathlib.Core.Bool.{Bool}
use mathlib.Core.Option.{Option, none, some, map}
use mathlib.Core.List.{List, [], ◌∷◌}
use lib.ListN.{length}
use lib.Dec.{T, leb, ltb, eqb, leb→le, le→leb, ltb→lt, lt→ltb, eqb→eq}
use lib.Pow.{pow_mono}
use mir.Facts.{and_yes, yes_and, yes_eqb}
use Rattle.bits.specs.Choice.{within}
use Rattle.bits.specs.ChoiceLaws.{within_low, within_high, within_yes, pick_case}
use Rattle.bits.specs.Lists.{All, Along, every}
use Rattle.bits.specs.ListsLaws.{all_true_lem, true_all, every_yes, yes_every, along_map, along_both, all_along, along_all}
use Rattle.bits.specs.Bytes.{Byte, in_bytes}
use Rattle.format.specs.Limits.{most_lines}
use Rattle.format.specs.Line.{Line, FitsEnd, FitsLine}
use Rattle.differences.specs.Differences.{Falls, diffs}
use Rattle.format.specs.Index.{Index, FitsList, index, index_block, up}
use Rattle.format.specs.Record.{Narrow}
use Rattle.format.specs.declared.Widths.{Widths}
use Rattle.format.specs.declared.End.{End}
use Rattle.sheet_codes.specs.Code.{sign_extended}
use Rattle.sheet.specs.Grammar.{index_shape}
use Rattle.sheet.specs.Values.{Below, EndValue, CodeValue, line_value, width_value, falls_ok, list_value}
use Rattle.sheet.specs.Sheet.{alike, each_enc, raw_index}
use Rattle.sheet.proofs.Laws.Each.{each_make, each_take, length_each}
use Rattle.sheet.proofs.Laws.Lengths.{length_line, length_width, length_list}
use Rattle.sheet.proofs.Laws.Values.{RightIndex}

-- ---- a line

below_yes : (w m n : ℕ) → m ≤ w → n < 2 ^ m → Below w m n
below_yes w m n l h = (omega (arith, pow_mono l), lt→ltb n (2 ^ m) h)

yes_below : (w m n : ℕ) → Below w m n → n < 2 ^ m
yes_below w m n h = ltb→lt n (2 ^ m) h.1

end_value_lem : (w : Widths) (p : End) → Narrow w → FitsEnd w p → EndValue w p
end_value_lem w p n f =
    record {
      kind = below_yes 8 2 p.kind (omega arith) f.kind;
      direction = below_yes 8 w.b p.direction n.b f.direction;
      x = below_yes 16 w.c p.x n.c f.x;
      y = below_yes 16 w.c p.y n.c f.y;
    }

end_fits : (w : Widths) (p : End) → EndValue w p → FitsEnd w p
end_fits w p v =
    record {
      kind = yes_below 8 2 p.kind v.kind;
      direction = yes_below 8 w.b p.direction v.direction;
      x = yes_below 16 w.c p.x v.x;
      y = yes_below 16 w.c p.y v.y;
    }

code_byte : (k n : ℕ) → k ≤ 8 → n < 2 ^ k → Byte (sign_extended k n)
unfolding sign_extended
code_byte k n l h =
    let p : 2 ^ k ≤ 2 ^ 8 = pow_mono l in
    pick_case Byte (ltb n (2 ^ (k - 1))) _ _ (λ t. omega arith) (λ t. omega arith)

codes_value_lem : (k : ℕ) (ns : List ℕ) → k ≤ 8 → All (λ n. n < 2 ^ k) ns → All (CodeValue k) ns
codes_value_lem k [] l h = tt
codes_value_lem k (n ∷ ns) l h = ((h.0, code_byte k n l h.0), codes_value_lem k ns l h.1)

codes_fit : (k : ℕ) (ns : List ℕ) → All (CodeValue k) ns → All (λ n. n < 2 ^ k) ns
codes_fit k [] h = tt
codes_fit k (n ∷ ns) h = (h.0.0, codes_fit k ns h.1)

line_value_lem : (w : Widths) (l : Line) → Narrow w → FitsLine w l → (line_value w).Fits l
unfolding line_value
line_value_lem w l n f =
    record { start = end_value_lem w l.start n f.start; finish = end_value_lem w l.finish n f.finish; codes = codes_value_lem w.k l.codes n.k f.codes }

line_fits : (w : Widths) (l : Line) → length l.codes < 2 ^ 8 → (line_value w).Fits l → FitsLine w l
unfolding line_value
line_fits w l c v =
    record { start = end_fits w l.start v.start; count = c; codes = codes_fit w.k l.codes v.codes; finish = end_fits w l.finish v.finish }

-- ---- the lines of a view

abbrev pub line_shape : List ℕ → Bool
line_shape l = within 12 267 (length l)

module _ (w : Widths) where
  abbrev written : List Line → List (List ℕ)
  written ls = each_enc (λ u. line_value w) alike tt ls

  pub lines_value : (ls : List Line) → Narrow w → All (FitsLine w) ls → Along alike (λ u l. (line_value w).Fits l) tt ls
  lines_value ls n h = all_along alike (line_value w).Fits tt ls (go ls h)
    where
      go : (ls : List Line) → All (FitsLine w) ls → All (line_value w).Fits ls
      go [] h = tt
      go (l ∷ ls) h = (line_value_lem w l n h.0, go ls h.1)

  pub lines_shape : (ls : List Line) → All (FitsLine w) ls → T (every line_shape (written ls))
  lines_shape ls h =
      every_yes line_shape (written ls)
      (each_make (λ u. line_value w) alike (λ v. T (line_shape v)) tt ls
      (along_map alike (λ u l. FitsLine w l) _ tt ls
      (λ u l f. within_yes 12 267 (length (in_bytes ((line_value w).enc l))) (omega (arith, length_line w l)) (omega (arith, length_line w l, f.count)))
      (all_along alike (FitsLine w) tt ls h)))

  pub lines_fit : (ls : List Line) → Along alike (λ u l. (line_value w).Fits l) tt ls → T (every line_shape (written ls)) → All (FitsLine w) ls
  lines_fit ls v s =
      along_all alike (FitsLine w) tt ls
      (along_both alike (λ u l. (line_value w).Fits l) (λ u l. T (line_shape (in_bytes ((line_value w).enc l)))) (λ u l. FitsLine w l) tt ls
      (λ u l f t. line_fits w l (omega (arith, length_line w l, within_high 12 267 (length (in_bytes ((line_value w).enc l))) t)) f)
      v (each_take (λ u. line_value w) alike (λ v. T (line_shape v)) tt ls (yes_every line_shape (written ls) s)))

-- ---- a list of neighbours

falls_yes : (m l : ℕ) (ns : List ℕ) → Falls m l ns → T (falls_ok m l ns)
falls_yes m l [] h = tt
falls_yes m l (n ∷ ns) h = yes_and (leb (n + m) l) (falls_ok 1 n ns) (le→leb (n + m) l h.0) (falls_yes 1 n ns h.1)

yes_falls : (m l : ℕ) (ns : List ℕ) → T (falls_ok m l ns) → Falls m l ns
yes_falls m l [] t = tt
yes_falls m l (n ∷ ns) t = let (a, b) = and_yes (leb (n + m) l) (falls_ok 1 n ns) t in (leb→le (n + m) l a, yes_falls 1 n ns b)

below_all : (m : ℕ) (ns : List ℕ) → All (λ n. n < m) ns → T (every (λ n. ltb n m) ns)
below_all m [] h = tt
below_all m (n ∷ ns) h = yes_and (ltb n m) _ (lt→ltb n m h.0) (below_all m ns h.1)

all_below : (m : ℕ) (ns : List ℕ) → T (every (λ n. ltb n m) ns) → All (λ n. n < m) ns
all_below m [] t = tt
all_below m (n ∷ ns) t = let (a, b) = and_yes (ltb n m) _ t in (ltb→lt n m a, all_below m ns b)

falls_small : (m l k : ℕ) (ns : List ℕ) → l < k → Falls m l ns → All (λ n. n < k) ns
falls_small m l k [] h f = tt
falls_small m l k (n ∷ ns) h f = (omega arith, falls_small 1 n k ns (omega arith) f.1)

abbrev list_tests : ℕ → ℕ → List ℕ → List Bool
list_tests w l ns = falls_ok 0 l ns ∷ ltb (length ns) (2 ^ w) ∷ every (λ d. ltb d (2 ^ w)) (diffs l ns) ∷ []

list_fits : (w l : ℕ) (ns : List ℕ) → (list_value w l).Fits ns → FitsList w l ns
unfolding list_value
list_fits w l ns v =
    let t = all_true_lem (list_tests w l ns) v.1 in
    record { falls = yes_falls 0 l ns t.0; count = ltb→lt (length ns) (2 ^ w) t.1.0; diffs = all_below (2 ^ w) (diffs l ns) t.1.1.0 }

list_value_lem : (w l : ℕ) (ns : List ℕ) → l < 2 ^ 16 → FitsList w l ns → (list_value w l).Fits ns
unfolding list_value
list_value_lem w l ns h f = (
  falls_small 0 l (2 ^ 16) ns h f.falls,
  true_all (list_tests w l ns) (falls_yes 0 l ns f.falls, (lt→ltb (length ns) (2 ^ w) f.count, (below_all (2 ^ w) (diffs l ns) f.diffs, tt))),
)

-- ---- an index

lists_value : (w k l : ℕ) (ls : List (List ℕ)) → l + length ls ≤ k → k ≤ 2 ^ 16 → Along up (FitsList w) l ls → Along up (λ l ns. (list_value w l).Fits ns) l ls
lists_value w k l [] b s h = tt
lists_value w k l (ns ∷ ls) b s h = (list_value_lem w l ns (omega arith) h.0, lists_value w k (suc l) ls (omega arith) s h.1)

pub index_value : (n : ℕ) (o : Option Index) → n ≤ most_lines → (index_block n).Fits o → RightIndex o
unfolding index_block index width_value most_lines
index_value n none l f = tt
index_value n (some i) l f =
    ((omega (arith, f.high), within_yes 1 16 i.width f.low f.high), lists_value i.width n 0 i.lists (omega (arith, f.count)) (omega arith) f.lists)

abbrev written_lists : Index → List (List ℕ)
written_lists i = each_enc (list_value i.width) up 0 i.lists

abbrev index_tests : ℕ → Index → List Bool
index_tests n i =
    eqb (length (in_bytes (width_value.enc i.width))) 1 ∷ eqb (length (written_lists i)) n ∷ every (λ l. eqb (length l % 2) 0) (written_lists i) ∷ []

pub index_fits : (n : ℕ) (o : Option Index) → RightIndex o → T (index_shape n (map raw_index o)) → (index_block n).Fits o
unfolding index_block index width_value
index_fits n none v s = tt
index_fits n (some i) v s =
    let t = all_true_lem (index_tests n i) s in
    record {
      low = within_low 1 16 i.width v.0.1;
      high = within_high 1 16 i.width v.0.1;
      count = sym (length_each (list_value i.width) up 0 i.lists) ∙ eqb→eq (length (written_lists i)) n t.1.0;
      lists = along_map up (λ l ns. (list_value i.width l).Fits ns) (FitsList i.width) 0 i.lists (λ l ns h. list_fits i.width l ns h) v.1;
    }

even : (w l : ℕ) (ns : List ℕ) → T (eqb (length (in_bytes ((list_value w l).enc ns)) % 2) 0)
even w l ns = let z : length (in_bytes ((list_value w l).enc ns)) % 2 ≡ 0 = omega (arith, length_list w l ns) in yes_eqb z

pub index_shape_lem : (n : ℕ) (o : Option Index) → (index_block n).Fits o → T (index_shape n (map raw_index o))
unfolding index_block index
index_shape_lem n none f = tt
index_shape_lem n (some i) f =
    true_all (index_tests n i) (
      yes_eqb (length_width i.width),
      (
        yes_eqb (length_each (list_value i.width) up 0 i.lists ∙ f.count),
        (
          every_yes (λ l. eqb (length l % 2) 0) (written_lists i)
              (each_make (list_value i.width) up (λ l. T (eqb (length l % 2) 0)) 0 i.lists
              (along_map up (FitsList i.width) _ 0 i.lists (λ l ns h. even i.width l ns) f.lists)),
          tt,
        ),
      ),
    )
