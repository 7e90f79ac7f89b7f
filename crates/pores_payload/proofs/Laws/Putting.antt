-- Putting the payload of pores: of the bits of a distance, of a line and of all lines, those before are put and the others are still to
-- come.
use mathlib.Core.Path.{◌≡◌, refl, sym, ap, subst, ◌∙◌}
use Prim.Native.Nat.{ℕ, suc, ◌+◌, ◌-◌, ◌/◌, ◌%◌, ◌^◌, ◌≤◌, ◌<◌}
use native.Mathlib.Omega.{arith}
use mathlib.Core.List.{List, [], ◌++◌, append-nil}
use lib.ListN.{length, drop, length-append}
use lib.Pow.{pow_pos}
use Rattle.bits.specs.Bits.{bits_of_number}
use Rattle.bits.specs.BitsLaws.{length_bits}
use Rattle.bits.specs.Codec.{got, times_dec}
use Rattle.bits.specs.CodecLaws.{enc_all}
use Rattle.put_bits.specs.Put.{CanPut, PutMore, Room}
use Rattle.put_bits.proofs.Chain.{puts_one, puts_as, ◌then◌, Putting, putting_none, putting_more, putting_room, putting_all}
use Rattle.pores_elements.specs.Element.{ones, most, run_enc}
use Rattle.pores_elements.proofs.ElementLaws.{pow_four, elements_fit, distance}
use Rattle.pores_parts.specs.Lines.{line}
use Rattle.pores.specs.Numbers.{line_numbers, fours_in}
use Rattle.pores_numbers.proofs.Laws.Fours.{four_at}
use Rattle.pores_numbers.proofs.Laws.Judging.{distance_number}
use Rattle.pores_payload.specs.declared.Reached.{Reached}
use Rattle.pores_payload.specs.Payload.{DistanceRoom, DistancePut, LineRoom, LinePut}
use Rattle.pores_payload.proofs.Laws.Listed.{line_at_lem, DistanceAt, distance_at}

-- a number of b bits, where there is room for them
can_put : {now : List ℕ} {q x b : ℕ} → Room now q (length (bits_of_number b x)) → x < 2 ^ b → b ≤ 16 → CanPut now q x b
can_put {x = x} {b = b} r l w = let n = length_bits b x in record { below = l; narrow = w; room = omega (arith, r.room, n); near = omega (arith, r.near, n) }

-- ---- a distance: n elements of all ones are left, and the last; k is the largest distance that one element writes, as code has it

abbrev pub ones_of : (d k : ℕ) → ℕ
ones_of d k = (d - 1) / k

abbrev pub last_of : (d k : ℕ) → ℕ
last_of d k = (d - 1) % k + 1

abbrev pub Ones : (e d k n m : ℕ) (old : List ℕ) (at : ℕ) (now : List ℕ) (q : ℕ) → Type 0
Ones e d k n m old at now q = Putting (run_enc e n (last_of d k)) (run_enc e m (last_of d k)) old at now q

module _ {old : List ℕ} {at d e : ℕ} (h : DistanceRoom old at d e) {k : ℕ} (ek : k ≡ most e) where
  pub two_passed : (2 ≤ k) × (k + 2 ≡ 2 ^ e)
  two_passed = let p = pow_four e h.fits.bits in (omega (arith, ek), omega (arith, ek))

  run_is : (distance e).enc d ≡ run_enc e (ones_of d k) (last_of d k)
  run_is = rw ek refl

  run_room : Room old at (length (run_enc e (ones_of d k) (last_of d k)))
  run_room = rw (← run_is) h.room

  module _ {now : List ℕ} {q n : ℕ} (P : Ones e d k n (ones_of d k) old at now q) where
    module _ (l : 0 < n) where
      one_element : Putting (bits_of_number e (k + 1) ++ run_enc e (n - 1) (last_of d k)) (run_enc e (ones_of d k) (last_of d k)) old at now q
      one_element =
          let z : suc (n - 1) ≡ n = omega arith in
          let y : ones e ≡ k + 1 = omega (arith, two_passed) in
          rw (← y) (rw (← z) at P)

      pub ones_fit : CanPut now q (k + 1) e
      ones_fit =
          can_put (putting_room (bits_of_number e (k + 1)) (run_enc e (n - 1) (last_of d k)) one_element run_room) (omega (arith, two_passed)) (omega (arith, h.narrow))

      pub ones_put : {o : ℕ} {next : List ℕ} {r : ℕ} → o ≡ n - 1 → PutMore now q (k + 1) e next r → Ones e d k o (ones_of d k) old at next r
      ones_put eo m = rw eo (putting_more (bits_of_number e (k + 1)) (run_enc e (n - 1) (last_of d k)) one_element (puts_one m))

    module _ (l : n ≤ 0) where
      last_element : Putting (bits_of_number e (last_of d k) ++ []) (run_enc e (ones_of d k) (last_of d k)) old at now q
      last_element = let z : n ≡ 0 = omega arith in rw append-nil (rw z at P)

      pub last_fits : CanPut now q (last_of d k) e
      last_fits =
          can_put (putting_room (bits_of_number e (last_of d k)) [] last_element run_room) (rw ek (elements_fit e d h.fits).last) (omega (arith, h.narrow))

      pub last_put : {next : List ℕ} {r : ℕ} → PutMore now q (last_of d k) e next r → DistancePut d e old at next r
      last_put m = puts_as (sym run_is) (putting_all (putting_more (bits_of_number e (last_of d k)) [] last_element (puts_one m)))

-- ---- a line

-- of its distances ds, n are left from byte a on; r is behind them
pub record DistancesLeft (vs : List ℕ) (e : ℕ) (ds r old : List ℕ) (at n a : ℕ) (now : List ℕ) (q : ℕ) : Type 0 where
  pub left : List ℕ
  pub reads : times_dec distance_number n (fours_in (drop a vs)) ≡ got left r
  pub puts : Putting (enc_all (distance e) left) (enc_all (distance e) ds) old at now q

-- whatever they are; m were to be put from byte b on
pub record Distances (vs : List ℕ) (e m b : ℕ) (old : List ℕ) (at n a : ℕ) (now : List ℕ) (q : ℕ) : Type 0 where
  pub is : (ds r : List ℕ) → times_dec distance_number m (fours_in (drop b vs)) ≡ got ds r → DistancesLeft vs e ds r old at n a now q

pub distances_start : (vs : List ℕ) (e m b : ℕ) (old : List ℕ) (at : ℕ) → Distances vs e m b old at m b old at
distances_start vs e m b old at = record { is = λ ds r h. record { left = ds; reads = h; puts = putting_none (enc_all (distance e) ds) old at } }

module _ {vs : List ℕ} {e : ℕ} {out : List ℕ} {x : Reached} (h : LineRoom vs e out x) where
  pub count_there : x.byte + 4 ≤ length vs
  count_there = (line_at_lem vs x.byte h.value h.behind h.reads).within

  all_to_come : Putting (bits_of_number e 0 ++ enc_all (distance e) h.value) ((line e).enc h.value) out x.bit out x.bit
  all_to_come = putting_none ((line e).enc h.value) out x.bit

  pub zero_fits : CanPut out x.bit 0 e
  zero_fits = can_put (putting_room (bits_of_number e 0) (enc_all (distance e) h.value) all_to_come h.room) (pow_pos e) (omega (arith, h.high))

  -- m is its count; the zero element is put
  module _ {m : ℕ} (em : m ≡ four_at vs x.byte) {old : List ℕ} {at : ℕ} (z : PutMore out x.bit 0 e old at) where
    counted : (ds r : List ℕ) → line_numbers.dec (fours_in (drop x.byte vs)) ≡ got ds r → times_dec distance_number m (fours_in (drop (x.byte + 4) vs)) ≡ got ds r
    counted ds r g = rw em (line_at_lem vs x.byte ds r g).further

    distances_room : Room old at (length (enc_all (distance e) h.value))
    distances_room =
        let n = length-append (bits_of_number e 0) (enc_all (distance e) h.value) in
        let b = length_bits e 0 in
        record { room = omega (arith, h.room.room, z.place, z.same, n, b); near = omega (arith, h.room.near, z.place, n, b) }

    module _ {n a : ℕ} {now : List ℕ} {q : ℕ} (D : Distances vs e m (x.byte + 4) old at n a now q) where
      module _ (l : 0 < n) where
        here : {ds r : List ℕ} (L : DistancesLeft vs e ds r old at n a now q) → DistanceAt vs (n - 1) a L.left r
        here {r = r} L =
            let j : suc (n - 1) ≡ n = omega arith in
            distance_at vs (n - 1) a L.left r (ap (λ (i : ℕ). times_dec distance_number i (fours_in (drop a vs))) j ∙ L.reads)

        first_put : {ds r : List ℕ} (L : DistancesLeft vs e ds r old at n a now q)
            → Putting ((distance e).enc (four_at vs a) ++ enc_all (distance e) (here L).others) (enc_all (distance e) ds) old at now q
        first_put {ds} L = subst (λ (ys : List ℕ). Putting (enc_all (distance e) ys) (enc_all (distance e) ds) old at now q) (here L).is L.puts

        its : DistancesLeft vs e h.value h.behind old at n a now q
        its = D.is h.value h.behind (counted h.value h.behind h.reads)

        pub distance_there : a + 4 ≤ length vs
        distance_there = (here its).within

        module _ {d : ℕ} (ed : d ≡ four_at vs a) where
          pub distance_room : DistanceRoom now q d e
          distance_room =
              rw ed
              (record {
                fits = record { bits = h.low; some = (here its).some };
                narrow = h.high;
                room = putting_room ((distance e).enc (four_at vs a)) (enc_all (distance e) (here its).others) (first_put its) distances_room;
              })

          pub distances_next : {o : ℕ} {next : List ℕ} {r : ℕ} → o ≡ n - 1 → DistancePut d e now q next r → Distances vs e m (x.byte + 4) old at o (a + 4) next r
          distances_next eo P =
              rw eo record {
                is = λ ds r g.
                    let L = D.is ds r g in
                    record {
                      left = (here L).others;
                      reads = (here L).further;
                      puts = putting_more ((distance e).enc (four_at vs a)) (enc_all (distance e) (here L).others) (first_put L) (rw ed at P);
                    };
              }

      pub line_put : n ≤ 0 → LinePut vs e out x now (record { byte = a; bit = q })
      line_put l =
          record {
            is = λ ds r g.
                let L = D.is ds r (counted ds r g) in
                let j : n ≡ 0 = omega arith in
                let s : got [] (fours_in (drop a vs)) ≡ got L.left r = rw j at L.reads in
                let none : [] ≡ L.left = cc in
                let rest : fours_in (drop a vs) ≡ r = cc in
                (puts_one z then putting_all (subst (λ (ys : List ℕ). Putting (enc_all (distance e) ys) (enc_all (distance e) ds) old at now q) (sym none) L.puts), rest);
          }
