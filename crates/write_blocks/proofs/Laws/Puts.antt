-- The parts of a line, put as its format has them.
use mathlib.Core.Path.{◌≡◌, sym, ap, ap₂, ◌∙◌}
use Prim.Native.Nat.{ℕ, ◌+◌, ◌*◌, ◌/◌, ◌%◌, ◌^◌, ◌≤◌, ◌<◌}
use native.Mathlib.Omega.{arith}
use mathlib.Core.List.{List, [], ◌∷◌, ◌++◌, map}
use lib.ListN.{length, take, drop, get_or, length-map}
use lib.Seq.{get_or-drop, get_or-take, take-suc, take_all, length-take-le}
use native.Mathlib.Numerals.{add-one}
use Rattle.bits.specs.Lists.{All}
use Rattle.bits.specs.ListsLaws.{all_at, map_at}
use Rattle.bits.specs.CodecLaws.{enc_all, field}
use Rattle.outcome.specs.Refusals.{bad_line}
use Rattle.sheet_codes.specs.Code.{sign_extended}
use Rattle.sheet_codes.proofs.CodeLaws.{extended_low}
use Rattle.find_parts.proofs.Laws.Line.{codes_long}
use Rattle.put_bits.specs.Put.{PutMore, Puts}
use Rattle.put_bits.proofs.Chain.{puts_one, puts_none, ◌then◌, puts_as, enc_snoc}
use Rattle.format.specs.Line.{end}
use Rattle.format.specs.declared.End.{End}
use Rattle.format.specs.declared.Widths.{Widths}
use Rattle.sheet_bytes.specs.Bytes.{end_bytes}
use Rattle.write_blocks.specs.Puts.{CodesPut}

-- ---- an end

-- its bytes, one by one
pub end_bytes_lem : (s : List ℕ) (a : ℕ) (e : End) → take 6 (drop a s) ≡ end_bytes e
    → (get_or s a 0 ≡ e.kind) × (get_or s (a + 1) 0 ≡ e.direction) × (get_or s (a + 2) 0 * 256 + get_or s (a + 2 + 1) 0 ≡ e.x) × (get_or s (a + 4) 0 * 256 + get_or s (a + 4 + 1) 0 ≡ e.y)
end_bytes_lem s a e h =
    let at : (k : ℕ) → k < 6 → get_or s (a + k) 0 ≡ get_or (end_bytes e) k 0 = λ k l. sym (get_or-drop a s k 0) ∙ sym (get_or-take 6 (drop a s) k 0 l) ∙ ap (λ (x : List ℕ). get_or x k 0) h in
    let z0 : a + 0 ≡ a = omega arith in
    let z3 : a + 2 + 1 ≡ a + 3 = omega arith in
    let z5 : a + 4 + 1 ≡ a + 5 = omega arith in
    let x0 : get_or s (a + 2) 0 ≡ e.x / 256 = at 2 (omega arith) in
    let x1 : get_or s (a + 2 + 1) 0 ≡ e.x % 256 = ap (λ (k : ℕ). get_or s k 0) z3 ∙ at 3 (omega arith) in
    let y0 : get_or s (a + 4) 0 ≡ e.y / 256 = at 4 (omega arith) in
    let y1 : get_or s (a + 4 + 1) 0 ≡ e.y % 256 = ap (λ (k : ℕ). get_or s k 0) z5 ∙ at 5 (omega arith) in
    (ap (λ (k : ℕ). get_or s k 0) (sym z0) ∙ at 0 (omega arith), at 1 (omega arith), omega (arith, x0, x1), omega (arith, y0, y1))

pub end_put : (w : Widths) (e : End) {o o1 o2 o3 o4 : List ℕ} {at p q r t k d x y : ℕ} → k ≡ e.kind → d ≡ e.direction → x ≡ e.x → y ≡ e.y
    → PutMore o at k 2 o1 p → PutMore o1 p d w.b o2 q → PutMore o2 q x w.c o3 r → PutMore o3 r y w.c o4 t → Puts ((end w).enc e) o at o4 t
unfolding end
end_put w e ek ed ex ey hk hd hx hy = puts_one (rw ek at hk) then puts_one (rw ed at hd) then puts_one (rw ex at hx) then puts_one (rw ey at hy)

-- ---- codes

-- codes of k bits, of which i are put; s has their bytes
abbrev pub CodesSoFar : ℕ → List ℕ → List ℕ → ℕ → List ℕ → ℕ → ℕ → Type 0
CodesSoFar k s old at now p i = (cs : List ℕ) → All (λ n. n < 2 ^ k) cs → s ≡ map (sign_extended k) cs → Puts (enc_all (field bad_line k) (take i cs)) old at now p

pub codes_none : (k : ℕ) (s old : List ℕ) (at : ℕ) → CodesSoFar k s old at old at 0
codes_none k s old at cs f e = puts_none old at

module _ (k : ℕ) {s : List ℕ} {i : ℕ} (l : i < length s) (cs : List ℕ) (f : All (λ n. n < 2 ^ k) cs) (e : s ≡ map (sign_extended k) cs) where
  codes_many : length s ≡ length cs
  codes_many = ap length e ∙ length-map cs (sign_extended k)

  pub code_below : get_or cs i 0 < 2 ^ k
  code_below = all_at (λ n. n < 2 ^ k) 0 cs i (omega (arith, codes_many)) f

  -- the byte's lowest k bits are the code
  pub code_is : get_or s i 0 % 2 ^ k ≡ get_or cs i 0
  code_is =
      ap (λ (x : List ℕ). get_or x i 0 % 2 ^ k) e ∙ ap (λ (n : ℕ). n % 2 ^ k) (map_at (sign_extended k) cs i 0 0 (omega (arith, codes_many)))
      ∙ extended_low k (get_or cs i 0) code_below

pub codes_next : (k : ℕ) {s old now now' : List ℕ} {at p i v top r : ℕ} → i < length s → v ≡ get_or s i 0 → top ≡ 2 ^ k → CodesSoFar k s old at now p i
    → PutMore now p (v % top) k now' r → CodesSoFar k s old at now' r (i + 1)
codes_next k {s} {i = i} {v = v} {top = top} l ev et g h cs f e =
    let z : v % top ≡ get_or cs i 0 = ap₂ (λ (a b : ℕ). a % b) ev et ∙ code_is k l cs f e in
    let y : take (i + 1) cs ≡ take i cs ++ get_or cs i 0 ∷ [] = ap (λ (j : ℕ). take j cs) (add-one i) ∙ take-suc cs i 0 (omega (arith, codes_many k l cs f e)) in
    puts_as (sym (ap (enc_all (field bad_line k)) y ∙ enc_snoc (field bad_line k) (take i cs) (get_or cs i 0))) (g cs f e then puts_one (rw z at h))

-- their place
pub codes_place : (k : ℕ) (cs : List ℕ) {s old now : List ℕ} {at p i : ℕ} → CodesSoFar k s old at now p i → All (λ n. n < 2 ^ k) cs → s ≡ map (sign_extended k) cs → i ≤ length s
    → (p ≡ at + i * k) × (length now ≡ length old)
codes_place k cs {s} {at = at} {i = i} g f e l =
    let h = g cs f e in
    let m : length (take i cs) ≡ i = length-take-le i cs (omega (arith, ap length e ∙ length-map cs (sign_extended k))) in
    (h.place ∙ ap (λ (n : ℕ). at + n) (codes_long bad_line k (take i cs) ∙ ap (λ (n : ℕ). n * k) m), h.same)

pub codes_all : (k : ℕ) {s old now : List ℕ} {at p i : ℕ} → CodesSoFar k s old at now p i → length s ≤ i → CodesPut k s old at now p
codes_all k {i = i} g l =
    record { is = λ cs f e. puts_as (ap (enc_all (field bad_line k)) (take_all i cs (omega (arith, ap length e ∙ length-map cs (sign_extended k))))) (g cs f e) }
