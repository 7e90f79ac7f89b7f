-- The distances of a line laid as bytes, element by element. The invariant: those that are laid and those still to come are the line's.
use mathlib.Core.Path.{◌≡◌, refl, sym, ap, ◌∙◌}
use mathlib.Core.Logic.{◌≢◌}
use Prim.Native.Nat.{ℕ, zero, suc, ◌+◌, ◌-◌, ◌*◌, ◌^◌, ◌≤◌, ◌<◌}
use native.Mathlib.Omega.{arith}
use mathlib.Core.Bool.{Bool, false}
use mathlib.Core.List.{List, [], ◌∷◌, ◌++◌, append-nil}
use lib.ListN.{length, drop, length-append}
use lib.Seq.{append_snoc, drop_at, drop-drop}
use lib.Pow.{pow_mono}
use Rattle.bits.specs.Bits.{Bits, bits_of_number}
use Rattle.bits.specs.BitsLaws.{length_bits}
use Rattle.bits.specs.Bytes.{bits_of}
use Rattle.bits.specs.Codec.{Read, got, refused, next, field_dec}
use Rattle.bits.specs.CodecLaws.{not_got, next_got, fixed}
use Rattle.bits.specs.Reads.{found, Reads, keeping}
use Rattle.bits.proofs.Laws.Reads.{length_rest}
use Rattle.outcome.specs.Refusals.{bad_pores}
use Rattle.put_bytes.specs.Laid.{Laid}
use Rattle.put_bytes.specs.HighFirst.{four, joined}
use Rattle.put_bytes.proofs.Laws.{lent, back, laid_none, laid_next, laid_same, joined_snoc}
use Rattle.pores_elements.specs.Before.{marked_dec}
use Rattle.pores_elements.specs.Element.{ones, most}
use Rattle.pores_elements.proofs.ElementLaws.{pow_four}
use Rattle.pores.specs.NumbersLaws.{fours_long}
use Rattle.pores_parts.specs.Lines.{line}
use Rattle.pores_lines.proofs.Laws.{to_stop, distance_first, longer, stops_here, short_stops, zero_stops, short_first, zero_first, distance_next, ones_first, other_first}
use Rattle.pores_values.specs.Put.{LineRoom, LineLaid}

-- ---- what is still to come, where so much of the distance under way is passed

abbrev to_lay : (passed e : ℕ) → Bits → Read Bool (List ℕ)
to_lay zero e s = to_stop e s
to_lay (suc k) e s = keeping (longer (suc k)) (distance_first e s)

longer_none : (o : Read Bool (List ℕ)) → keeping (longer 0) o ≡ o
longer_none (got [] r) = refl
longer_none (got (d ∷ ds) r) = let z : 0 + d ≡ d = omega arith in ap (λ (n : ℕ). got (n ∷ ds) r) z
longer_none (refused c l) = refl

longer_twice : (a b : ℕ) (o : Read Bool (List ℕ)) → keeping (longer a) (keeping (longer b) o) ≡ keeping (longer (a + b)) o
longer_twice a b (got [] r) = refl
longer_twice a b (got (d ∷ ds) r) = let z : a + (b + d) ≡ a + b + d = omega arith in ap (λ (n : ℕ). got (n ∷ ds) r) z
longer_twice a b (refused c l) = refl

longer_first : (k x : ℕ) (o : Read Bool (List ℕ)) → keeping (longer k) (next o (λ ds q. got (x ∷ ds) q)) ≡ next o (λ ds q. got ((k + x) ∷ ds) q)
longer_first k x (got ds q) = refl
longer_first k x (refused c l) = refl

underway : (passed e : ℕ) (s : Bits) → 1 ≤ passed → to_lay passed e s ≡ keeping (longer passed) (distance_first e s)
underway zero e s l = absurd (omega arith)
underway (suc k) e s l = refl

-- no element comes: nothing is under way, and nothing is left to lay
none_come : {rest : List ℕ} {behind : Bits} (passed e : ℕ) (s : Bits) → to_stop e s ≡ got [] s → distance_first e s ≡ refused bad_pores (length s)
    → to_lay passed e s ≡ got rest behind → (rest ≡ []) × (behind ≡ s)
none_come zero e s stops none h = let z = sym h ∙ stops in (cc, cc)
none_come (suc k) e s stops none h = not_got (sym (ap (keeping (longer (suc k))) none) ∙ h)

-- the next element is x
module _ (e : ℕ) (s : Bits) {x : ℕ} {r : Bits} (f : field_dec bad_pores e s ≡ got x r) (d : x ≢ 0) where
  comes : (passed : ℕ) → to_lay passed e s ≡ keeping (longer passed) (distance_first e s)
  comes zero = distance_next e s f d false ∙ sym (longer_none (distance_first e s))
  comes (suc k) = refl

  ones_come : (passed : ℕ) → 2 ≤ e → x ≡ ones e → to_lay passed e s ≡ to_lay (passed + most e) e r
  ones_come passed l z =
      comes passed ∙ ap (keeping (longer passed)) (ones_first e s f d z) ∙ longer_twice passed (most e) (distance_first e r)
      ∙ sym (underway (passed + most e) e r (omega (arith, pow_four e l)))

  other_comes : (passed : ℕ) → x ≢ ones e → to_lay passed e s ≡ next (to_lay 0 e r) (λ ds q. got ((passed + x) ∷ ds) q)
  other_comes passed z = comes passed ∙ ap (keeping (longer passed)) (other_first e s f d z) ∙ longer_first passed x (to_stop e r)

-- ---- the loop: ds are the line's distances, n how many bytes are laid

pub record Laying (s : List ℕ) (at e : ℕ) (ds : List ℕ) (behind : Bits) (before now : List ℕ) (p n passed : ℕ) : Type 0 where
  pub done : List ℕ
  pub rest : List ℕ
  pub whole : done ++ rest ≡ ds
  pub onward : to_lay passed e (drop p (bits_of s)) ≡ got rest behind
  pub laid : Laid (joined four done) before now n
  pub same : length now ≡ length before
  -- an element has two bits or more, and at most eight
  pub small : passed ≤ 254 * p
  pub short : 2 * at + 4 + n ≤ 2 * p
  pub within : p ≤ 8 * length s

-- the zero element stands in front
mark_passed : (s : List ℕ) (at e : ℕ) {ds : List ℕ} {behind : Bits} → (line e).dec (drop at (bits_of s)) ≡ got ds behind
    → (e ≤ length (drop at (bits_of s))) × (to_stop e (drop (at + e) (bits_of s)) ≡ got ds behind)
unfolding marked_dec
mark_passed s at e h =
    next_got ((fixed bad_pores e 0).dec (drop at (bits_of s))) _ h λ u r d k.
    let g = ((fixed bad_pores e 0).back (drop at (bits_of s)) u r d).1 in
    let z : drop (at + e) (bits_of s) ≡ r = sym (drop-drop e at (bits_of s)) ∙ ap (drop e) g ∙ drop_at (bits_of_number e 0) r e (length_bits e 0) in
    (omega (arith, ap length g ∙ length-append (bits_of_number e 0) r, length_bits e 0), ap (to_stop e) z ∙ k)

module _ {s : List ℕ} {at e : ℕ} {before : List ℕ} (R : LineRoom 0 s at e before) where
  pub mark_there : at + e ≤ 8 * length s
  mark_there = omega (arith, (mark_passed s at e R.reads).0, length_rest s at, R.elements.within)

  pub laying_start : Laying s at e R.distances R.behind before before (at + e) 0 0
  laying_start =
      record {
        done = [];
        rest = R.distances;
        whole = refl;
        onward = (mark_passed s at e R.reads).1;
        laid = laid_none before;
        same = refl;
        small = omega arith;
        short = omega (arith, R.elements.low);
        within = mark_there;
      }

  module _ {now : List ℕ} {p n passed : ℕ} (G : Laying s at e R.distances R.behind before now p n passed) where
    all_laid : to_stop e (drop p (bits_of s)) ≡ got [] (drop p (bits_of s)) → distance_first e (drop p (bits_of s)) ≡ refused bad_pores (length (drop p (bits_of s)))
        → LineLaid (λ ds. ds) s at e before now (record { length = n; next = p })
    all_laid stops none =
        let (no_rest, place_is) = none_come passed e (drop p (bits_of s)) stops none G.onward in
        let whole : G.done ≡ R.distances = sym (append-nil G.done) ∙ ap (λ (xs : List ℕ). G.done ++ xs) (sym no_rest) ∙ G.whole in
        record {
          laid = λ ds behind h. rw (← (those h).0, ← whole) G.laid;
          place = λ ds behind h. sym (those h).1 ∙ place_is;
          short = λ ds behind h. omega (arith, G.short, G.laid.count, fours_long G.done, ap length (whole ∙ (those h).0));
          within = G.within;
        }
      where
        those : {ds : List ℕ} {behind : Bits} → (line e).dec (drop at (bits_of s)) ≡ got ds behind → (R.distances ≡ ds) × (R.behind ≡ behind)
        those h = let z = sym R.reads ∙ h in (cc, cc)

    pub end_ends : 8 * length s - p < e → LineLaid (λ ds. ds) s at e before now (record { length = n; next = p })
    end_ends l =
        let k : length (drop p (bits_of s)) < e = omega (arith, length_rest s p) in
        all_laid (stops_here e (drop p (bits_of s)) (short_stops e (drop p (bits_of s)) k)) (short_first e (drop p (bits_of s)) k)

    module _ {x q : ℕ} (f : Reads (field_dec bad_pores e) s p (found x q)) where
      pub zero_ends : x ≡ 0 → LineLaid (λ ds. ds) s at e before now (record { length = n; next = p })
      zero_ends z = all_laid (stops_here e (drop p (bits_of s)) (zero_stops e (drop p (bits_of s)) f.is z)) (zero_first e (drop p (bits_of s)) f.is z)

      module _ (d : x ≢ 0) (w : q ≡ p + e) where
        pub laying_ones : (k : ℕ) → x ≡ ones e → k ≡ most e → Laying s at e R.distances R.behind before now q n (passed + k)
        laying_ones k z y =
            let m : 2 ^ e ≤ 2 ^ 8 = pow_mono R.elements.high in
            record {
              done = G.done;
              rest = G.rest;
              whole = G.whole;
              onward = ap (λ (j : ℕ). to_lay (passed + j) e (drop q (bits_of s))) y ∙ sym (ones_come e (drop p (bits_of s)) f.is d passed R.elements.low z) ∙ G.onward;
              laid = G.laid;
              same = G.same;
              small = omega (arith, G.small, R.elements.low);
              short = omega (arith, G.short);
              within = f.within;
            }

        module _ (z : x ≢ ones e) where
          -- the distance that ends here, and the others
          first : {X : Type 0} → ((xs : List ℕ) → G.rest ≡ (passed + x) ∷ xs → to_stop e (drop q (bits_of s)) ≡ got xs R.behind → X) → X
          first k =
              next_got (to_stop e (drop q (bits_of s))) _ (sym (other_comes e (drop p (bits_of s)) f.is d passed z) ∙ G.onward) λ xs u y h.
              let a : (passed + x) ∷ xs ≡ G.rest = cc in
              let b : u ≡ R.behind = cc in
              k xs (sym a) (y ∙ ap (got xs) b)

          pub room_left : n + 4 ≤ length now
          room_left =
              first λ xs a _.
              omega (arith, G.laid.count, fours_long G.done, G.same, R.room, ap length G.whole, length-append G.done G.rest, ap length a)

          pub laying_distance : {ys : List ℕ} {m : ℕ} → Laid (four (passed + x)) (lent now n) ys m → Laying s at e R.distances R.behind before (back now n ys) q (n + m) 0
          laying_distance {ys} {m} L =
              first λ xs a y.
              let h = laid_next G.laid L in
              record {
                done = G.done ++ (passed + x) ∷ [];
                rest = xs;
                whole = append_snoc G.done (passed + x) xs ∙ ap (λ (vs : List ℕ). G.done ++ vs) (sym a) ∙ G.whole;
                onward = y;
                laid = rw (joined_snoc four G.done (passed + x)) h;
                same = laid_same h (omega (arith, room_left, G.same, L.count));
                small = omega arith;
                short = omega (arith, G.short, L.count, R.elements.low);
                within = f.within;
              }
