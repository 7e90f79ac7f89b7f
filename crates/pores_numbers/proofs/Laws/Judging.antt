-- Judging distances and lines one by one: what those from here on say, with the elements counted so far, is what all of them say.
use mathlib.Core.Path.{◌≡◌, refl, sym, ap, ◌∙◌}
use mathlib.Core.Logic.{◌≢◌}
use Prim.Native.Nat.{ℕ, suc, ◌+◌, ◌-◌, ◌/◌, ◌%◌, ◌^◌, ◌≤◌, ◌<◌}
use native.Mathlib.Omega.{arith}
use mathlib.Core.Option.{none}
use mathlib.Core.List.{List, [], ◌∷◌}
use lib.ListN.{length, drop}
use lib.Dec.{leb}
use mir.Facts.{yes_leb, no_leb}
use Rattle.bits.specs.ChoiceLaws.{pick_yes, pick_no}
use Rattle.bits.specs.Lists.{total}
use Rattle.bits.specs.Codec.{Read, got, refused, next, value_of, then_dec, times_dec, via_dec, only_dec, Codec}
use Rattle.bits.specs.CodecLaws.{only}
use Rattle.outcome.specs.Refusals.{bad_pores}
use Rattle.pores.specs.Numbers.{number, line_numbers, fours_in}
use Rattle.pores.specs.Size.{distance_elements, line_elements}
use Rattle.pores_numbers.specs.Judged.{most_counted, counted, LineThere, LineRight, LineBroken, LinesThere, LinesRight, LinesBroken}
use Rattle.pores_numbers.proofs.Laws.Fours.{four_at, fours_from, fours_none}
use Rattle.pores_numbers.proofs.Laws.Sums.{sums, sums_next, sums_none, sums_got, none_sums}

-- ---- a line is its count, and then its distances

-- a distance of the list
abbrev pub distance_number : Codec ℕ ℕ
distance_number = only number bad_pores (leb 1)

distance_right : (d : ℕ) (r : List ℕ) → 1 ≤ d → distance_number.dec (d ∷ r) ≡ got d r
unfolding only_dec
distance_right d r l = pick_yes (leb 1 d) _ _ (yes_leb l)

distance_zero : (d : ℕ) (r : List ℕ) → d ≡ 0 → value_of (distance_number.dec (d ∷ r)) ≡ none
unfolding only_dec
distance_zero d r e = ap value_of (pick_no (leb 1 d) _ _ (no_leb {a = 1} {b = d} (omega arith)))

distance_none : value_of (distance_number.dec []) ≡ none
unfolding only_dec
distance_none = refl

pub line_is : (n : ℕ) (r : List ℕ) → line_numbers.dec (n ∷ r) ≡ times_dec distance_number n r
unfolding via_dec then_dec
line_is n r = go (times_dec distance_number n r)
  where
    go : (o : Read ℕ (List ℕ)) → next {A = ℕ × List ℕ} (next o (λ b q. got (n, b) q)) (λ a q. got a.1 q) ≡ o
    go (got ds q) = refl
    go (refused e l) = refl

line_none : value_of (line_numbers.dec []) ≡ none
unfolding via_dec then_dec
line_none = refl

-- ---- distances one by one

-- n distances from byte a on are left, with t elements before them; at the start they were m, b and u
pub record Distances (vs : List ℕ) (e m b u n a t : ℕ) : Type 0 where
  pub start : a % 4 ≡ 0
  pub within : a ≤ length vs
  pub few : t ≤ most_counted
  pub is : sums (distance_elements e) t (times_dec distance_number n (fours_in (drop a vs))) ≡ sums (distance_elements e) u (times_dec distance_number m (fours_in (drop b vs)))

module _ {vs : List ℕ} {at e t : ℕ} (h : LineThere vs at e t) where
  -- the list ends where a line should start
  pub no_line_lem : length vs ≤ at → LineBroken vs at
  no_line_lem l = record { is = rw (fours_none at vs l) line_none }

  module _ (l : at < length vs) where
    pub four_fits : at + 4 ≤ length vs
    four_fits = omega (arith, h.whole, h.start)

    module _ {m u : ℕ} (em : m ≡ four_at vs at) (eu : u ≡ counted (t + 1)) where
      line_here : line_numbers.dec (fours_in (drop at vs)) ≡ times_dec distance_number m (fours_in (drop (at + 4) vs))
      line_here = rw em (ap line_numbers.dec (fours_from at vs four_fits) ∙ line_is (four_at vs at) (fours_in (drop (at + 4) vs)))

      pub distances_start : Distances vs e m (at + 4) u m (at + 4) u
      distances_start = record { start = omega (arith, h.start); within = four_fits; few = omega (arith, eu); is = refl }

      module _ {n a v : ℕ} (D : Distances vs e m (at + 4) u n a v) where
        stops : value_of (sums (distance_elements e) v (times_dec distance_number n (fours_in (drop a vs)))) ≡ none → LineBroken vs at
        stops z = record { is = rw line_here (none_sums (distance_elements e) u (times_dec distance_number m (fours_in (drop (at + 4) vs))) (rw D.is at z)) }

        module _ (k : 0 < n) where
          one_more : suc (n - 1) ≡ n
          one_more = omega arith

          -- the list ends before its distances do
          pub distances_cut : length vs ≤ a → LineBroken vs at
          distances_cut c =
              stops (rw (← one_more) (sums_none distance_number (distance_elements e) v (n - 1) (fours_in (drop a vs)) (rw (fours_none a vs c) distance_none)))

          module _ (c : a < length vs) where
            pub distance_fits : a + 4 ≤ length vs
            distance_fits = omega (arith, h.whole, D.start)

            module _ {d : ℕ} (ed : d ≡ four_at vs a) where
              here : fours_in (drop a vs) ≡ d ∷ fours_in (drop (a + 4) vs)
              here = rw ed (fours_from a vs distance_fits)

              pub distances_zero : d ≡ 0 → LineBroken vs at
              distances_zero z =
                  stops (rw (← one_more) (sums_none distance_number (distance_elements e) v (n - 1) (fours_in (drop a vs)) (rw here (distance_zero d (fours_in (drop (a + 4) vs)) z))))

              pub distances_next : {o p w : ℕ} → o ≡ n - 1 → d ≢ 0 → p ≡ 2 ^ e → w ≡ counted (v + (d - 1) / (p - 2) + 1) → Distances vs e m (at + 4) u o (a + 4) w
              distances_next {p = p} {w = w} eo z ep ew =
                  let q : w ≡ counted (v + distance_elements e d) = omega (arith, rw ep at ew) in
                  rw eo record {
                    start = omega (arith, D.start);
                    within = distance_fits;
                    few = omega arith;
                    is = rw q
                        (sym (sums_next distance_number (distance_elements e) v (n - 1) (fours_in (drop a vs)) (ap distance_number.dec here ∙ distance_right d (fours_in (drop (a + 4) vs)) (omega arith)))
                        ∙ ap (λ (j : ℕ). sums (distance_elements e) v (times_dec distance_number j (fours_in (drop a vs)))) one_more ∙ D.is);
                  }

        pub distances_done : n ≡ 0 → LineRight vs at e t a v
        distances_done z =
            let g : sums (distance_elements e) u (times_dec distance_number m (fours_in (drop (at + 4) vs))) ≡ got (counted (v + 0)) (fours_in (drop a vs)) =
            sym D.is ∙ ap (λ (j : ℕ). sums (distance_elements e) v (times_dec distance_number j (fours_in (drop a vs)))) z in
            let C = sums_got (distance_elements e) u (times_dec distance_number m (fours_in (drop (at + 4) vs))) g in
            record {
              value = C.value;
              is = line_here ∙ C.is;
              elements = omega (arith, C.elements, eu, D.few);
              start = D.start;
              within = D.within;
            }

-- ---- lines one by one

-- n lines from byte a on are left, with t elements before them
pub record Lines (lines : ℕ) (vs : List ℕ) (e n a t : ℕ) : Type 0 where
  pub there : LineThere vs a e t
  pub is : sums (line_elements e) t (times_dec line_numbers n (fours_in (drop a vs))) ≡ sums (line_elements e) 0 (times_dec line_numbers lines (fours_in (drop 8 vs)))

module _ (lines : ℕ) {vs : List ℕ} {e : ℕ} where
  pub lines_start : LinesThere vs e → Lines lines vs e lines 8 0
  lines_start h =
      record { there = record { whole = h.whole; start = omega arith; within = h.front; low = h.low; high = h.high; few = omega arith }; is = refl }

  module _ {n a t : ℕ} (L : Lines lines vs e n a t) where
    module _ (k : 0 < n) where
      another : suc (n - 1) ≡ n
      another = omega arith

      pub lines_broken : LineBroken vs a → LinesBroken lines vs
      lines_broken B =
          let z : value_of (sums (line_elements e) t (times_dec line_numbers n (fours_in (drop a vs)))) ≡ none =
          rw (← another) (sums_none line_numbers (line_elements e) t (n - 1) (fours_in (drop a vs)) B.is) in
          let y : value_of (times_dec line_numbers lines (fours_in (drop 8 vs))) ≡ none = none_sums (line_elements e) 0 (times_dec line_numbers lines (fours_in (drop 8 vs))) (rw L.is at z) in
          record { is = λ ls g. let x : ◌≡◌ {A = ℕ} 0 1 = cc in omega arith }

      pub lines_next : {o b u : ℕ} → o ≡ n - 1 → LineRight vs a e t b u → Lines lines vs e o b u
      lines_next eo R =
          rw eo record {
            there = record { whole = L.there.whole; start = R.start; within = R.within; low = L.there.low; high = L.there.high; few = omega (arith, R.elements) };
            is = rw R.elements
                (sym (sums_next line_numbers (line_elements e) t (n - 1) (fours_in (drop a vs)) R.is)
                ∙ ap (λ (j : ℕ). sums (line_elements e) t (times_dec line_numbers j (fours_in (drop a vs)))) another ∙ L.is);
          }

    module _ (z : n ≡ 0) where
      all_read : sums (line_elements e) 0 (times_dec line_numbers lines (fours_in (drop 8 vs))) ≡ got (counted (t + 0)) (fours_in (drop a vs))
      all_read = sym L.is ∙ ap (λ (j : ℕ). sums (line_elements e) t (times_dec line_numbers j (fours_in (drop a vs)))) z

      -- numbers are left over
      pub lines_over : a < length vs → LinesBroken lines vs
      lines_over l =
          let f = fours_from a vs (omega (arith, L.there.whole, L.there.start)) in
          record {
            is = λ ls g.
                let s : got (counted (0 + total (line_elements e) ls)) [] ≡ got (counted (t + 0)) (fours_in (drop a vs)) = sym (ap (sums (line_elements e) 0) g) ∙ all_read in
                let x : ◌≡◌ {A = ℕ} 0 1 = cc in omega arith;
          }

      pub lines_done : length vs ≤ a → LinesRight lines vs e e t
      lines_done l =
          let C = sums_got (line_elements e) 0 (times_dec line_numbers lines (fours_in (drop 8 vs))) (all_read ∙ ap (got (counted (t + 0))) (fours_none a vs l)) in
          record { value = C.value; is = C.is; bits = refl; elements = omega (arith, C.elements, L.there.few) }
