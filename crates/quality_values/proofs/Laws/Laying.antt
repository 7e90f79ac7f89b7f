-- Laying a payload's values: the first three are its first bytes, and the cells' are read one by one from behind them. Whatever values
-- the payload has, those before are laid.
use mathlib.Core.Path.{◌≡◌, sym, ap, ◌∙◌}
use Prim.Native.Nat.{ℕ, suc, ◌+◌, ◌*◌, ◌^◌, ◌≤◌, ◌<◌}
use native.Mathlib.Nat.{mul-le-mul_right, suc-mul}
use native.Mathlib.Numerals.{add-one}
use native.Mathlib.Omega.{arith}
use mathlib.Core.List.{List, ◌++◌, append_assoc}
use lib.ListN.{length, take, drop, get_or, set, length-drop, take-append-drop}
use lib.Pow.{pow_mono}
use lib.Seq.{paste, paste-zero, paste-suc, take_all, take_at, drop_at, drop-drop, drop-cons, length-take-le}
use Rattle.bits.specs.Lists.{All}
use Rattle.bits.specs.ListsLaws.{all_at}
use Rattle.bits.specs.Bits.{Bits, bits_of_number, zeros, pad}
use Rattle.bits.specs.Bytes.{Byte, bits_of}
use Rattle.bits.specs.Codec.{got, field_dec}
use Rattle.bits.specs.CodecLaws.{field_there}
use Rattle.bits.specs.Reads.{found, Reads}
use Rattle.bits.proofs.Laws.Reads.{below}
use Rattle.put_bytes.specs.Laid.{Laid}
use Rattle.quality_cells.specs.declared.Grid.{Grid}
use Rattle.quality_cells.proofs.Laws.Written.{cell_bits}
use Rattle.quality_values.specs.Values.{ValuesLaid}
use Rattle.quality_values.proofs.Laws.Cells.{cells_behind}
use Rattle.quality_values.proofs.Laws.Valued.{Valued, right_valued}

module _ {s : List ℕ} {g : Grid} {vs : List ℕ} (W : Valued s g vs) where
  cells_count : length (drop 3 vs) ≡ g.cells
  cells_count = length-drop 3 vs ∙ omega (arith, W.long)

  -- cell i is there
  pub cell_within : (i : ℕ) → i < g.cells → 24 + i * g.bits + g.bits ≤ 8 * length s
  cell_within i l = omega (arith, W.size, suc-mul i g.bits, mul-le-mul_right {m = suc i} {n = g.cells} g.bits (omega arith))

  -- the number at its place is its value
  pub cell_is : (e i : ℕ) {v q : ℕ} → i < g.cells → Reads (field_dec e g.bits) s (24 + i * g.bits) (found v q) → v ≡ get_or (drop 3 vs) i 0
  cell_is e i {v} {q} l r =
      let b : ℕ = g.bits in
      let x : ℕ = get_or (drop 3 vs) i 0 in
      let u : Bits = zeros (pad (24 + g.cells * b)) in
      let k : i < length (drop 3 vs) = omega (arith, cells_count) in
      let f : x < 2 ^ b = all_at (λ y. y < 2 ^ b) 0 (drop 3 vs) i k W.small in
      let z : drop (24 + i * b) (bits_of s) ≡ bits_of_number b x ++ (cell_bits b (drop (suc i) (drop 3 vs)) ++ u) =
      sym (drop-drop (i * b) 24 (bits_of s)) ∙ ap (drop (i * b)) W.bits ∙ cells_behind b (drop 3 vs) u i (omega arith)
      ∙ ap (λ (c : List ℕ). cell_bits b c ++ u) (drop-cons (drop 3 vs) i 0 k) ∙ append_assoc (bits_of_number b x) _ u in
      let y : got v (drop q (bits_of s)) ≡ got x _ = sym r.is ∙ ap (field_dec e b) z ∙ field_there e b x _ f in
      cc

-- a value of 1 to 8 bits is a byte
pub value_byte : (e b : ℕ) {s : List ℕ} {p v q : ℕ} → b ≤ 8 → Reads (field_dec e b) s p (found v q) → v < 256
value_byte e b h r = let z : 2 ^ b ≤ 2 ^ 8 = pow_mono h in omega (arith, below e b r)

-- ---- the values so far

-- behind the first three stand the values of i cells; out₀ is the output when no cell's value was laid
abbrev pub Laying : List ℕ → Grid → ℕ → List ℕ → List ℕ → Type 0
Laying s g i out₀ out = (vs : List ℕ) → Valued s g vs → out ≡ paste out₀ 3 (drop 3 vs) i

pub laying_none : (s : List ℕ) (g : Grid) (out : List ℕ) → Laying s g 0 out out
laying_none s g out vs W = paste-zero out 3 (drop 3 vs)

pub laying_next : {s : List ℕ} {g : Grid} (e i : ℕ) (out₀ : List ℕ) {out : List ℕ} {v q p : ℕ} → Laying s g i out₀ out → i < g.cells → 3 + g.cells ≤ length out₀ → p ≡ 3 + i
    → Reads (field_dec e g.bits) s (24 + i * g.bits) (found v q) → Laying s g (i + 1) out₀ (set out p v)
laying_next {s} {g} e i out₀ h l k z r vs W =
    let n : i < length (drop 3 vs) = omega (arith, cells_count W) in
    rw (h vs W, z, cell_is W e i l r, add-one i) (paste-suc out₀ 3 (drop 3 vs) i 0 (omega arith) n)

pub laying_done : {s : List ℕ} {g : Grid} {before out₀ out : List ℕ} {f n : ℕ} → All Byte s → Laid (take 3 s) before out₀ f → 3 ≤ length s → Laying s g g.cells out₀ out → n ≡ f + g.cells
    → ValuesLaid s g before out n
laying_done {s} {g} {before} {out₀} {out} {f} a L l h z =
    record {
      is = λ image R.
          let vs = R.values in
          let W = right_valued R a in
          let t : length (take 3 s) ≡ 3 = length-take-le 3 s l in
          let x : take 3 out₀ ≡ take 3 vs = ap (take 3) L.is ∙ take_at (take 3 s) _ 3 t ∙ sym W.first in
          let d : drop 3 out₀ ≡ drop 3 before = ap (drop 3) L.is ∙ drop_at (take 3 s) _ 3 t ∙ ap (λ (j : ℕ). drop j before) t in
          let w : drop (3 + g.cells) out₀ ≡ drop (length vs) before =
          sym (drop-drop g.cells 3 out₀) ∙ ap (drop g.cells) d ∙ drop-drop g.cells 3 before ∙ ap (λ (j : ℕ). drop j before) (sym W.long) in
          let y : take g.cells (drop 3 vs) ≡ drop 3 vs = take_all g.cells (drop 3 vs) (omega (arith, cells_count W)) in
          record {
            count = omega (arith, W.long, L.count, t);
            is = h vs W ∙ rw (x, y, w) (ap (λ (j : List ℕ). j ++ drop (length vs) before) (take-append-drop 3 vs));
          };
    }
