-- What the judge of a line's value finds: an end from its four numbers, the codes byte by byte, and the line put together.
use mathlib.Core.Path.{◌≡◌, refl, sym, ap, ◌∙◌, subst}
use Prim.Native.Nat.{ℕ, zero, suc, ◌+◌, ◌-◌, ◌*◌, ◌/◌, ◌%◌, ◌^◌, ◌≤◌, ◌<◌}
use native.Mathlib.Omega.{arith}
use native.Mathlib.Nat.{sub-zero}
use native.Mathlib.Numerals.{add-one}
use mathlib.Core.Bool.{Bool, true, false, ◌&&◌}
use mathlib.Core.List.{List, []}
use lib.ListN.{length, drop, get_or, drop_of_length-le}
use lib.Seq.{drop-cons}
use Rattle.std.specs.List.{list_all}
use Rattle.bits.proofs.Laws.Bytewise.{byte_reads}
use lib.Dec.{ltb, eqb}
use mir.Facts.{yes_ltb, no_ltb}
use Rattle.bits.specs.ChoiceLaws.{pick_yes, pick_no}
use Rattle.bits.specs.Bits.{Bits}
use Rattle.bits.specs.Bytes.{bits_of, in_bytes}
use Rattle.bits.specs.BytesLaws.{length_bits_of, length_in}
use Rattle.bits.specs.Codec.{Read, got, field_dec, then_dec}
use Rattle.bits.specs.CodecLaws.{field}
use Rattle.bits.specs.Block.{fill_dec, ahead_dec, recast_dec}
use Rattle.bits.specs.Reads.{Reads, found, fault, passing}
use Rattle.bits.proofs.Laws.Reads.{length_rest, go_on, stop, made, pass, fail, gives, refuses, keeping_got, keeping_refused}
use Rattle.bits.proofs.Laws.Loops.{fill_turn, fill_stop, fill_done}
use Rattle.bits.proofs.Laws.Parts.{some_left, drop_end}
use Rattle.outcome.specs.Refusals.{bad_value}
use Rattle.format.specs.Line.{Line}
use Rattle.format.specs.declared.Widths.{Widths}
use Rattle.sheet_codes.specs.Code.{sign_extended, code_ok}
use Rattle.sheet.specs.Values.{few_bits, end_value, code_value, line_value}
use Rattle.sheet.proofs.Laws.Lengths.{length_line}
use Rattle.check_value.specs.Worth.{Wrong, Tested}
use Rattle.check_line.specs.Parts.{There, NotThere, Passes, codes_dec}

-- ---- tests one behind the other: v is what they come to, n is the answer to the first, which should be a

pub both : {n r v a b : Bool} → n ≡ true → n ≡ a → v ≡ r → r ≡ b → v ≡ (a && b)
both {a = a} t e f g = let z : a ≡ true = cc in rw (z, f) g

pub first_only : {n v a : Bool} (b : Bool) → n ≡ false → n ≡ a → v ≡ n → v ≡ (a && b)
first_only {a = a} b t e f = let z : a ≡ false = cc in rw (z, f) t

-- ---- a part, once its answer is known

module _ {A : Type 0} (d : Bits → Read Bool A) (s : List ℕ) (p q : ℕ) {r : Bool} where
  pub passed : r ≡ true → Passes d s p q r → There d s p q
  passed e h = subst (Passes d s p q) e h

  pub not_passed : r ≡ false → Passes d s p q r → NotThere d s p
  not_passed e h = subst (Passes d s p q) e h

-- ---- a number written in n bits that may need at most m

module _ (n m : ℕ) {s : List ℕ} {p v q : ℕ} (h : Reads (field_dec bad_value n) s p (found v q)) where
  below_ok : ltb v (2 ^ m) ≡ true → Reads (few_bits n m).dec s p (found v q)
  below_ok e = pass (field bad_value n) bad_value (λ x. ltb x (2 ^ m)) h (rw e tt)

  below_no : p ≤ 8 * length s → ltb v (2 ^ m) ≡ false → Reads (few_bits n m).dec s p (fault bad_value p)
  below_no i e = fail (field bad_value n) bad_value (λ x. ltb x (2 ^ m)) i h (rw e tt)

-- ---- an end: type, direction, x, y, one behind the other from place p on

module _ (w : Widths) {s : List ℕ} {p k p1 d p2 x p3 y p4 : ℕ} (K : Reads (field_dec bad_value 8) s p (found k p1))
    (D : Reads (field_dec bad_value 8) s p1 (found d p2)) (X : Reads (field_dec bad_value 16) s p2 (found x p3))
    (Y : Reads (field_dec bad_value 16) s p3 (found y p4)) where
  bad_kind : p ≤ 8 * length s → ltb k (2 ^ 2) ≡ false → NotThere (end_value w).dec s p
  bad_kind i e = record { place = p; reads = made _ _ (stop _ _ (below_no 8 2 K i e)) }

  module _ (a : ltb k (2 ^ 2) ≡ true) where
    bad_direction : ltb d (2 ^ w.b) ≡ false → NotThere (end_value w).dec s p
    bad_direction e = record { place = p1; reads = made _ _ (go_on _ _ (below_ok 8 2 K a) (stop _ _ (below_no 8 w.b D K.within e))) }

    module _ (b : ltb d (2 ^ w.b) ≡ true) where
      bad_x : ltb x (2 ^ w.c) ≡ false → NotThere (end_value w).dec s p
      bad_x e =
          record { place = p2; reads = made _ _ (go_on _ _ (below_ok 8 2 K a) (go_on _ _ (below_ok 8 w.b D b) (stop _ _ (below_no 16 w.c X D.within e)))) }

      module _ (f : ltb x (2 ^ w.c) ≡ true) where
        bad_y : ltb y (2 ^ w.c) ≡ false → NotThere (end_value w).dec s p
        bad_y e =
            record { place = p3; reads = made _ _ (go_on _ _ (below_ok 8 2 K a) (go_on _ _ (below_ok 8 w.b D b) (go_on _ _ (below_ok 16 w.c X f) (below_no 16 w.c Y X.within e)))) }

        right : ltb y (2 ^ w.c) ≡ true → There (end_value w).dec s p p4
        right e =
            record {
              value = record { kind = k; direction = d; x = x; y = y };
              reads = made _ _ (go_on _ _ (below_ok 8 2 K a) (go_on _ _ (below_ok 8 w.b D b) (go_on _ _ (below_ok 16 w.c X f) (below_ok 16 w.c Y e))));
            }

  pub end_told : p ≤ 8 * length s → {r : Bool} → r ≡ (((ltb k (2 ^ 2) && ltb d (2 ^ w.b)) && ltb x (2 ^ w.c)) && ltb y (2 ^ w.c)) → Passes (end_value w).dec s p p4 r
  end_told i e = subst (Passes (end_value w).dec s p p4) (sym e) (go (ltb k (2 ^ 2)) (ltb d (2 ^ w.b)) (ltb x (2 ^ w.c)) (ltb y (2 ^ w.c)) refl refl refl refl)
    where
      go : (a b f h : Bool) → ltb k (2 ^ 2) ≡ a → ltb d (2 ^ w.b) ≡ b → ltb x (2 ^ w.c) ≡ f → ltb y (2 ^ w.c) ≡ h → Passes (end_value w).dec s p p4 (((a && b) && f) && h)
      go false b f h ea eb ef eh = bad_kind i ea
      go true false f h ea eb ef eh = bad_direction ea eb
      go true true false h ea eb ef eh = bad_x ea eb ef
      go true true true false ea eb ef eh = bad_y ea eb ef eh
      go true true true true ea eb ef eh = right ea eb ef eh

-- ---- a code's byte x: its lowest k bits, with the top one of them 0 or 1

module _ (k x all top : ℕ) (a : all ≡ 2 ^ k) (t : top ≡ 2 ^ (k - 1)) where
  pub code_low : x % all < top → eqb (x % all) x ≡ code_ok k x
  unfolding sign_extended
  code_low l =
      let n : ℕ = x % 2 ^ k in
      let y : n < 2 ^ (k - 1) = rw (a, t) at l in
      let z : sign_extended k n ≡ n = pick_yes (ltb n (2 ^ (k - 1))) _ _ (yes_ltb {a = n} y) in
      rw (a, z)

  pub code_high : top ≤ x % all → eqb (x % all + (256 - all)) x ≡ code_ok k x
  unfolding sign_extended
  code_high l =
      let n : ℕ = x % 2 ^ k in
      let y : 2 ^ (k - 1) ≤ n = rw (a, t) at l in
      let z : sign_extended k n ≡ n + (256 - 2 ^ k) = pick_no (ltb n (2 ^ (k - 1))) _ _ (no_ltb {a = n} y) in
      rw (a, z)

-- ---- the codes, from byte 12 on: those before byte i are right, so what is read from there is what is read of them all

record CodesFrom (k : ℕ) (s : List ℕ) (i : ℕ) : Type 0 where
  pub from : 12 ≤ i
  pub within : i ≤ length s
  pub reads : passing (fill_dec (code_value k) bad_value (8 * length s - 96 - (i - 12)) (drop (8 * i) (bits_of s))) ≡ passing (codes_dec k (drop 96 (bits_of s)))

codes_first : (k : ℕ) (s : List ℕ) → 12 ≤ length s → CodesFrom k s 12
unfolding codes_dec
codes_first k s l =
    record {
      from = omega arith;
      within = l;
      reads = ap (λ (n : ℕ). passing (fill_dec (code_value k) bad_value n (drop 96 (bits_of s)))) (sub-zero (8 * length s - 96) ∙ sym (length_rest s 96));
    }

module _ {k : ℕ} {s : List ℕ} {i : ℕ} (g : CodesFrom k s i) (l : i < length s) {v q : ℕ} (h : Reads (field_dec bad_value 8) s (8 * i) (found v q)) where
  code_bad : code_ok k v ≡ false → NotThere (codes_dec k) s 96
  code_bad e =
      let d : Reads (code_value k).dec s (8 * i) (fault bad_value (8 * i)) = made _ _ (fail (field bad_value 8) bad_value (code_ok k) (omega arith) h (rw e tt)) in
      let z = fill_stop (code_value k) bad_value (8 * length s - 96) (i - 12) (drop (8 * i) (bits_of s)) (omega (arith, g.from)) (some_left s (8 * i) (omega arith)) d.is in
      record { place = 8 * i; reads = refuses _ bad_value (8 * i) (omega arith) (keeping_refused _ _ (sym g.reads ∙ ap passing z)) }

  code_good : q ≡ 8 * i + 8 → code_ok k v ≡ true → CodesFrom k s (i + 1)
  code_good y e =
      let d : Reads (code_value k).dec s (8 * i) (found (v % 2 ^ k) q) = made _ _ (pass (field bad_value 8) bad_value (code_ok k) h (rw e tt)) in
      let a : i + 1 - 12 ≡ i - 12 + 1 = omega (arith, g.from) in
      let b : 8 * (i + 1) ≡ q = omega arith in
      record {
        from = omega (arith, g.from);
        within = omega arith;
        reads = rw (a, b)
            (sym (fill_turn (code_value k) bad_value (8 * length s - 96) (i - 12) (drop (8 * i) (bits_of s)) (λ xs. tt) (omega (arith, g.from)) (some_left s (8 * i) (omega arith)) d.is) ∙ g.reads);
      }

codes_there : {k : ℕ} {s : List ℕ} {i : ℕ} → CodesFrom k s i → length s ≤ i → There (codes_dec k) s 96 (8 * length s)
codes_there {k} {s} {i} g l =
    let z = fill_done (code_value k) bad_value (8 * length s - 96 - (i - 12)) (drop (8 * i) (bits_of s)) (drop_end s (8 * i) (omega arith)) in
    keeping_got (λ xs. tt) (codes_dec k (drop 96 (bits_of s))) (sym g.reads ∙ ap passing z) λ cs e u.
    record { value = cs; reads = gives _ cs (8 * length s) (omega arith) (e ∙ ap (got cs) (sym (drop_end s (8 * length s) (omega arith)))) }

pub codes_told : (k : ℕ) (s : List ℕ) → ((i : ℕ) → get_or s i 0 < 2 ^ 8) → 12 ≤ length s → Passes (codes_dec k) s 96 (8 * length s) (list_all (code_ok k) (drop 12 s))
codes_told k s small l = go (length s - 12) 12 (codes_first k s l) (omega arith)
  where
    go : (n i : ℕ) → CodesFrom k s i → n + i ≡ length s → Passes (codes_dec k) s 96 (8 * length s) (list_all (code_ok k) (drop i s))
    go zero i g e = let h : length s ≤ i = omega arith in rw (drop_of_length-le s h) (codes_there g h)
    go (suc n) i g e =
        let l : i < length s = omega arith in
        let v : ℕ = get_or s i 0 in
        let R : Reads (field_dec bad_value 8) s (8 * i) (found v (8 * (i + 1))) = byte_reads s small bad_value i l in
        rw (drop-cons s i 0 l) (turn (code_ok k v) refl (code_bad g l R) (λ z. go n (i + 1) (code_good g l R (omega arith) z) (omega arith)))
      where
        turn : (b : Bool) → code_ok k (get_or s i 0) ≡ b → (code_ok k (get_or s i 0) ≡ false → NotThere (codes_dec k) s 96)
            → (code_ok k (get_or s i 0) ≡ true → Passes (codes_dec k) s 96 (8 * length s) (list_all (code_ok k) (drop (i + 1) s)))
            → Passes (codes_dec k) s 96 (8 * length s) (b && list_all (code_ok k) (drop (suc i) s))
        turn true z bad good = subst (λ (j : ℕ). Passes (codes_dec k) s 96 (8 * length s) (list_all (code_ok k) (drop j s))) (add-one i) (good z)
        turn false z bad good = bad z

-- ---- the line

-- every byte behind the ends is a code
line_codes : (w : Widths) (s : List ℕ) (l : Line) → (line_value w).dec (bits_of s) ≡ got l [] → length l.codes ≡ length s - 12
line_codes w s l p =
    let e = ((line_value w).back (bits_of s) l (rw (length_bits_of s) (omega arith)) p).1 in
    let z : length (bits_of s) / 8 ≡ 12 + length l.codes = sym (length_in (bits_of s)) ∙ ap (λ (x : List Bool). length (in_bytes x)) e ∙ length_line w l in
    omega (arith, z, length_bits_of s)

module _ (w : Widths) {s : List ℕ} where
  pub bad_start : NotThere (end_value w).dec s 0 → Wrong (line_value w) s
  unfolding line_value recast_dec ahead_dec
  bad_start h = record { left = 8 * length s - h.place; refuses = rw (stop (end_value w) (λ _. end_value w) h.reads).is }

  module _ (a : There (end_value w).dec s 0 48) where
    pub bad_finish : NotThere (end_value w).dec s 48 → Wrong (line_value w) s
    unfolding line_value recast_dec ahead_dec
    bad_finish h = record { left = 8 * length s - h.place; refuses = rw (go_on (end_value w) (λ _. end_value w) a.reads h.reads).is }

    module _ (b : There (end_value w).dec s 48 96) where
      ends : Reads (then_dec (end_value w) (λ _. end_value w)) s 0 (found (a.value, b.value) 96)
      ends = go_on (end_value w) (λ _. end_value w) a.reads b.reads

      -- r says whether the codes are right
      pub line_told : (r : Bool) → Passes (codes_dec w.k) s 96 (8 * length s) r → Tested (line_value w) s (λ l. length l.codes ≡ length s - 12) r
      unfolding line_value recast_dec ahead_dec codes_dec
      line_told true c =
          let z : codes_dec w.k (drop 96 (bits_of s)) ≡ got c.value [] = c.reads.is ∙ ap (got c.value) (drop_end s (8 * length s) (omega arith)) in
          let l : Line = record { start = a.value; codes = c.value; finish = b.value } in
          let y : (line_value w).dec (bits_of s) ≡ got l [] = rw (ends.is, z) in
          record { value = l; reads = y; known = line_codes w s l y }
      line_told false h = record { left = 8 * length s - h.place; refuses = rw (ends.is, h.reads.is) }
