-- The numbers of a line, of all lines and of a payload, laid as bytes. The count in front of a line's distances is laid behind them; of
-- lines, those that are laid and those still to come are the payload's.
use mathlib.Core.Path.{◌≡◌, refl, sym, ap, ap₂, ◌∙◌, subst}
use Prim.Native.Nat.{ℕ, suc, ◌+◌, ◌-◌, ◌*◌, ◌/◌, ◌≤◌, ◌<◌}
use native.Mathlib.Omega.{arith}
use mathlib.Core.List.{List, [], ◌∷◌, ◌++◌, append-nil}
use lib.ListN.{length, take, drop, length-append, length-take, length-drop}
use lib.Seq.{append_snoc, drop_at, length-take-le}
use Rattle.bits.specs.Bits.{Bits}
use Rattle.bits.specs.Bytes.{bits_of}
use Rattle.bits.specs.Codec.{got, field_dec}
use Rattle.bits.specs.CodecLaws.{next_got, enc_each}
use Rattle.bits.specs.Reads.{found, Reads}
use Rattle.outcome.specs.Refusals.{bad_pores}
use Rattle.put_bytes.specs.Laid.{Laid}
use Rattle.put_bytes.specs.HighFirst.{four, joined}
use Rattle.put_bytes.proofs.Laws.{lent, back, laid_none, laid_next, laid_same, joined_append, joined_snoc}
use Rattle.pores_elements.specs.Before.{row_dec}
use Rattle.pores_parts.specs.Parts.{Pores}
use Rattle.pores.specs.NumbersLaws.{fours_long}
use Rattle.pores.specs.Numbers.{numbers_of}
use Rattle.pores_parts.specs.Lines.{line}
use Rattle.pores.proofs.Laws.Numbers.{numbers_are}
use Rattle.pores_judge.proofs.Laws.Parts.{PayloadParts, payload_parts}
use Rattle.pores_values.specs.Put.{with_count, LineRoom, LineLaid, LinesRoom, LinesLaid, NumbersRoom, NumbersLaid}
use Rattle.pores_values.specs.declared.LinePut.{LinePut}

-- ---- a line: its distances are laid from byte 4 on, then their number in front

lent_long : (xs : List ℕ) (a : ℕ) → length (lent xs a) ≡ length xs - a
lent_long xs a = simp (length-take, length-drop) (omega arith)

module _ {s : List ℕ} {at e : ℕ} {before : List ℕ} (R : LineRoom 1 s at e before) where
  pub distances_room : LineRoom 0 s at e (lent before 4)
  distances_room = record { elements = R.elements; distances = R.distances; behind = R.behind; reads = R.reads; room = omega (arith, R.room, lent_long before 4) }

  module _ {ys : List ℕ} {r : LinePut} (L : LineLaid (λ ds. ds) s at e (lent before 4) ys r) where
    pub distances_short : r.length ≤ 16 * 65535
    distances_short =
        omega (arith, L.short R.distances R.behind R.reads, (L.laid R.distances R.behind R.reads).count, fours_long R.distances, L.within, R.elements.short)

    pub count_there : 4 ≤ length (back before 4 ys)
    count_there = omega (arith, length-append (take 4 before) (ys ++ drop (length before - 4) (drop 4 before)), length-take-le 4 before (omega (arith, R.room)))

    module _ {after : List ℕ} {f : ℕ} (F : Laid (four (r.length / 4)) (back before 4 ys) after f) where
      counted : (ds : List ℕ) → Laid (joined four ds) (lent before 4) ys r.length → Laid (joined four (with_count ds)) before after (f + r.length)
      counted ds D =
          let c : r.length / 4 ≡ length ds = omega (arith, D.count, fours_long ds) in
          let xs : List ℕ = four (length ds) ++ drop 4 before in
          let l : length xs ≡ length before = omega (arith, length-drop 4 before, R.room) in
          let C : Laid (four (length ds)) before xs 4 = record { count = refl; is = refl } in
          let N = laid_next C (subst (λ (n : ℕ). Laid (joined four ds) (take (n - 4) (drop 4 before)) ys r.length) (sym l) D) in
          let z : drop 4 (back before 4 ys) ≡ ys ++ drop (length before - 4) (drop 4 before) =
          drop_at (take 4 before) _ 4 (length-take-le 4 before (omega (arith, R.room))) in
          record {
            count = ap (λ (n : ℕ). n + r.length) F.count ∙ N.count;
            is = F.is ∙ ap₂ (λ (n : ℕ) (d : List ℕ). four n ++ d) c z ∙ ap (λ (n : ℕ). four (length ds) ++ (ys ++ drop (n - 4) (drop 4 before))) (sym l) ∙ N.is;
          }

      pub line_laid : LineLaid with_count s at e before after (record { length = f + r.length; next = r.next })
      line_laid = record { laid = λ ds behind h. counted ds (L.laid ds behind h); place = L.place; short = L.short; within = L.within }

-- ---- the lines: ls are the payload's, m how many bytes are laid

pub record LayingLines (n : ℕ) (s : List ℕ) (e : ℕ) (ls : List (List ℕ)) (behind : Bits) (before now : List ℕ) (i place m : ℕ) : Type 0 where
  pub done : List (List ℕ)
  pub rest : List (List ℕ)
  pub whole : done ++ rest ≡ ls
  pub onward : row_dec (line e) (n - i) (drop place (bits_of s)) ≡ got rest behind
  pub laid : Laid (joined four (joined with_count done)) before now m
  pub same : length now ≡ length before
  pub within : place ≤ 8 * length s

module _ {n : ℕ} {s : List ℕ} {e : ℕ} {before : List ℕ} (R : LinesRoom n s e before) where
  pub lines_start : LayingLines n s e R.lines R.behind before before 0 24 0
  lines_start =
      let z : n - 0 ≡ n = omega arith in
      record {
        done = [];
        rest = R.lines;
        whole = refl;
        onward = ap (λ (k : ℕ). row_dec (line e) k (drop 24 (bits_of s))) z ∙ R.reads;
        laid = laid_none before;
        same = refl;
        within = R.elements.within;
      }

  module _ {now : List ℕ} {i place m : ℕ} (G : LayingLines n s e R.lines R.behind before now i place m) where
    pub lines_laid : n ≤ i → LinesLaid n s e before now m
    lines_laid l =
        let z : n - i ≡ 0 = omega arith in
        let y : got [] (drop place (bits_of s)) ≡ got G.rest R.behind = ap (λ (k : ℕ). row_dec (line e) k (drop place (bits_of s))) (sym z) ∙ G.onward in
        let none : [] ≡ G.rest = cc in
        let whole : G.done ≡ R.lines = sym (append-nil G.done) ∙ ap (λ (xs : List (List ℕ)). G.done ++ xs) none ∙ G.whole in
        record {
          is = λ ls behind h.
              let x = sym R.reads ∙ h in
              let those : R.lines ≡ ls = cc in
              rw (← those, ← whole) G.laid;
        }

    module _ (l : i < n) where
      -- the next line, and the others
      pub record NextLine : Type 0 where
        pub distances : List ℕ
        pub others : List (List ℕ)
        pub after : Bits
        pub first : G.rest ≡ distances ∷ others
        pub reads : (line e).dec (drop place (bits_of s)) ≡ got distances after
        pub onward : row_dec (line e) (n - (i + 1)) after ≡ got others R.behind

      pub next_line : NextLine
      next_line =
          let z : n - i ≡ suc (n - (i + 1)) = omega arith in
          next_got ((line e).dec (drop place (bits_of s))) _ (ap (λ (k : ℕ). row_dec (line e) k (drop place (bits_of s))) (sym z) ∙ G.onward) λ ds r d h.
          next_got (row_dec (line e) (n - (i + 1)) r) _ h λ xs u d2 h2.
          let a : ds ∷ xs ≡ G.rest = cc in
          let b : u ≡ R.behind = cc in
          record { distances = ds; others = xs; after = r; first = sym a; reads = d; onward = d2 ∙ ap (got xs) b }

      -- its bytes have room
      enough : (N : NextLine) → m + 4 * (1 + length N.distances) ≤ length now
      enough N =
          let j = joined_append with_count G.done (N.distances ∷ N.others) in
          let w : length (joined with_count (G.done ++ (N.distances ∷ N.others))) ≡ length (joined with_count R.lines) =
          ap (λ (xs : List (List ℕ)). length (joined with_count (G.done ++ xs))) (sym N.first) ∙ ap (λ (xs : List (List ℕ)). length (joined with_count xs)) G.whole in
          omega (
            arith,
            G.laid.count,
            fours_long (joined with_count G.done),
            G.same,
            R.room,
            w,
            ap length j,
            length-append (joined with_count G.done) (joined with_count (N.distances ∷ N.others)),
            length-append N.distances (joined with_count N.others),
          )

      pub laid_within : m ≤ length now
      laid_within = omega (arith, enough next_line)

      pub line_there : LineRoom 1 s place e (lent now m)
      line_there =
          let N = next_line in
          record {
            elements = record { short = R.elements.short; low = R.elements.low; high = R.elements.high; within = G.within };
            distances = N.distances;
            behind = N.after;
            reads = N.reads;
            room = omega (arith, enough N, lent_long now m);
          }

      module _ {ys : List ℕ} {r : LinePut} (L : LineLaid with_count s place e (lent now m) ys r) where
        pub line_fits : m + r.length ≤ length now
        line_fits =
            let N = next_line in
            omega (arith, enough N, (L.laid N.distances N.after N.reads).count, fours_long (with_count N.distances))

        pub lines_next : LayingLines n s e R.lines R.behind before (back now m ys) (i + 1) r.next (m + r.length)
        lines_next =
            let N = next_line in
            let h = laid_next G.laid (L.laid N.distances N.after N.reads) in
            record {
              done = G.done ++ N.distances ∷ [];
              rest = N.others;
              whole = append_snoc G.done N.distances N.others ∙ ap (λ (xs : List (List ℕ)). G.done ++ xs) (sym N.first) ∙ G.whole;
              onward = ap (row_dec (line e) (n - (i + 1))) (sym (L.place N.distances N.after N.reads)) ∙ N.onward;
              laid = rw (joined_snoc with_count G.done N.distances, joined_append four) h;
              same = laid_same h (omega (arith, line_fits, G.same));
              within = L.within;
            }

-- ---- the payload

each_joined : {A : Type 0} (f : A → List ℕ) (xs : List A) → enc_each f xs ≡ joined f xs
each_joined f [] = refl
each_joined f (x ∷ xs) = ap (λ (ys : List ℕ). f x ++ ys) (each_joined f xs)

numbers_joined : (p : Pores) → numbers_of p ≡ p.resolution ∷ p.e ∷ joined with_count p.lines
numbers_joined p = numbers_are p ∙ ap (λ (xs : List ℕ). p.resolution ∷ p.e ∷ xs) (each_joined with_count p.lines)

module _ {n : ℕ} {s : List ℕ} {e : ℕ} {before : List ℕ} (R : NumbersRoom n s e before) where
  parts : PayloadParts n s R.right.value
  parts = payload_parts n s R.right.value R.right.says

  pub three_there : 3 ≤ length s
  three_there = parts.long

  pub element_small : e ≤ 8
  element_small = omega (arith, R.right.element, parts.high)

  rows_are : row_dec (line e) n (drop 24 (bits_of s)) ≡ got R.right.value.lines parts.behind
  rows_are = ap (λ (k : ℕ). row_dec (line k) n (drop 24 (bits_of s))) R.right.element ∙ parts.rows

  pub enough_numbers : 8 + 4 * length (joined with_count R.right.value.lines) ≤ length before
  enough_numbers = omega (arith, R.room, R.right.count, ap length (numbers_joined R.right.value))

  module _ {v q : ℕ} (f : Reads (field_dec bad_pores 16) s 0 (found v q)) {xs : List ℕ} {a : ℕ} (F : Laid (four v) before xs a) where
    pub first_same : (a ≡ 4) × (length xs ≡ length before)
    first_same = (F.count, laid_same F (omega (arith, F.count, enough_numbers)))

    module _ {ys : List ℕ} {b : ℕ} (E : Laid (four e) (lent xs a) ys b) where
      start_laid : Laid (four v ++ four e) before (back xs a ys) (a + b)
      start_laid = laid_next F E

      pub second_same : (a + b ≡ 8) × (length (back xs a ys) ≡ length before)
      second_same = (start_laid.count, laid_same start_laid (omega (arith, start_laid.count, enough_numbers)))

      pub lines_room : LinesRoom n s e (lent (back xs a ys) (a + b))
      lines_room =
          record {
            elements = record { short = R.short; low = omega (arith, R.right.element, parts.low); high = element_small; within = omega (arith, parts.long) };
            lines = R.right.value.lines;
            behind = parts.behind;
            reads = rows_are;
            room = omega (arith, second_same, enough_numbers, lent_long (back xs a ys) (a + b));
          }

      module _ {zs : List ℕ} {m : ℕ} (L : LinesLaid n s e (lent (back xs a ys) (a + b)) zs m) where
        all_laid : Laid (joined four (numbers_of R.right.value)) before (back (back xs a ys) (a + b) zs) (a + b + m)
        all_laid =
            let p = R.right.value in
            let z : got v (drop q (bits_of s)) ≡ got p.resolution (drop 16 (bits_of s)) = sym f.is ∙ parts.resolution in
            let y : v ≡ p.resolution = cc in
            let x : (four v ++ four e) ++ joined four (joined with_count p.lines) ≡ joined four (numbers_of p) =
            ap₂ (λ (i j : ℕ). (four i ++ four j) ++ joined four (joined with_count p.lines)) y R.right.element ∙ sym (ap (joined four) (numbers_joined p)) in
            subst (λ (new : List ℕ). Laid new before (back (back xs a ys) (a + b) zs) (a + b + m)) x
            (laid_next start_laid (L.is p.lines parts.behind rows_are))

        pub all_fit : a + b + m ≤ length before
        all_fit = omega (arith, all_laid.count, fours_long (numbers_of R.right.value), R.room, R.right.count)

        pub numbers_laid : NumbersLaid n s before (back (back xs a ys) (a + b) zs) ((a + b + m) / 4)
        numbers_laid =
            let z : 4 * ((a + b + m) / 4) ≡ a + b + m = omega (arith, all_laid.count, fours_long (numbers_of R.right.value)) in
            record {
              is = λ p h.
                  let y = sym R.right.says ∙ h in
                  let x : R.right.value ≡ p = cc in
                  rw (← x, z) all_laid;
            }
