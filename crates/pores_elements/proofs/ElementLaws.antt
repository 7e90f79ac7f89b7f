-- Distances as a codec, and where they stop: a distance is written in one way only, and starts with an element that is not zero.
use Rattle.std.specs.Prelude.{◌≡◌, refl, ◌≢◌, ℕ, zero, suc, ◌+◌, ◌-◌, ◌*◌, ◌%◌, ◌^◌, ◌≤◌, ◌<◌, Bool, true, false, not, ◌||◌, ◌++◌, length, take, T, ltb, eqb}
use Rattle.std.proofs.Common.{ap, ap₂, ◌∙◌, mod-lt, div-add-mod', le-mul_of_pos_right, mod-eq_of_lt, arith, append_assoc, length-append, leb→le, le→leb, eqb→eq, take_at, pow_pos}
use Rattle.std.proofs.Math.Nat.{pow-le-pow_right, mul-add-div_right, mul-add-mod_self_right, div-eq_of_lt}
use Rattle.std.proofs.Math.Dec.{eqb_refl}
use Rattle.std.proofs.Math.Pow.{ones_lt}
use Rattle.std.proofs.Math.Facts.{no_ltb, yes_eqb, no_eqb, eqb_no}
use Rattle.bits.specs.ChoiceLaws.{pick_yes, pick_no, pick_split}
use Rattle.bits.specs.Bits.{Bits, number_of_bits, bits_of_number, zeros}
use Rattle.bits.specs.BitsLaws.{length_bits, number_bits}
use Rattle.bits.specs.Codec.{got, Codec}
use Rattle.bits.specs.CodecLaws.{not_got, next_got, Matches, via}
use Rattle.pores_elements.specs.Element.{ones, most, stop, element, run_dec, run_enc, distance_of, elements_of}

-- ---- runs of all ones

pub record RunFits (e : ℕ) (t : ℕ × ℕ) : Type 0 where
  pub last : t.1 < 2 ^ e
  pub some : 1 ≤ t.1
  pub other : t.1 ≢ ones e

-- an element that is neither zero nor all ones has two bits
two_bits : (e x : ℕ) → x < 2 ^ e → 1 ≤ x → x ≢ ones e → 2 ≤ e
two_bits zero x l h n = omega arith
two_bits (suc zero) x l h n = omega arith
two_bits (suc (suc e)) x l h n = omega arith

run_bits : (e : ℕ) (t : ℕ × ℕ) → RunFits e t → 2 ≤ e
run_bits e t h = two_bits e t.1 h.last h.some h.other

pub pow_four : (e : ℕ) → 2 ≤ e → 4 ≤ 2 ^ e
pow_four e h = pow-le-pow_right {n = 2} (omega arith) h

ones_fit : (e : ℕ) → 2 ≤ e → (element e).Fits (ones e)
ones_fit e h = (ones_lt e, le→leb 1 (ones e) (omega (arith, pow_four e h)))

module _ (e : ℕ) where
  pub run_back : (n : ℕ) (s : Bits) (t : ℕ × ℕ) (r : Bits) → run_dec e n s ≡ got t r → RunFits e t × (s ≡ run_enc e t.0 t.1 ++ r)
  run_back zero s t r p = not_got p
  run_back (suc n) s t r p =
      next_got ((element e).dec s) _ p λ x q d h.
      let (f, g) = (element e).back s x q d in
      pick_split (eqb x (ones e)) _ _ h
      (λ y k. next_got (run_dec e n q) _ k λ v u d2 h2.
      let (f2, g2) = run_back n q v u d2 in
      let z : x ≡ ones e = eqb→eq x (ones e) y in
      let a : (suc v.0, v.1) ≡ t = cc in
      let b : u ≡ r = cc in
      rw (← a, ← b)
      (record { last = f2.last; some = f2.some; other = f2.other }, cc (append_assoc (bits_of_number e (ones e)) (run_enc e v.0 v.1) u)))
      (λ y k. let a : (0, x) ≡ t = cc in
      let b : q ≡ r = cc in
      rw (← a, ← b) (record { last = f.0; some = leb→le 1 x f.1; other = eqb_no y }, g))

  pub run_there : (n : ℕ) (q x : ℕ) (r : Bits) → q < n → RunFits e (q, x) → run_dec e n (run_enc e q x ++ r) ≡ got (q, x) r
  run_there zero q x r l h = absurd (omega arith)
  run_there (suc n) zero x r l h = rw ((element e).there x r (h.last, le→leb 1 x h.some)) (pick_no (eqb x (ones e)) _ _ (no_eqb h.other))
  run_there (suc n) (suc q) x r l h =
      rw (append_assoc, (element e).there (ones e) (run_enc e q x ++ r) (ones_fit e (run_bits e (suc q, x) h)))
      (pick_yes (eqb (ones e) (ones e)) _ _ (eqb_refl (ones e))
      ∙ rw (run_there n q x r (omega arith) (record { last = h.last; some = h.some; other = h.other })))

  pub run_length : (q x : ℕ) → length (run_enc e q x) ≡ suc q * e
  run_length zero x = length_bits e x ∙ omega arith
  run_length (suc q) x = simp (length-append, length_bits) (omega (arith, run_length q x))

  pub run_enough : (t : ℕ × ℕ) (r : Bits) → RunFits e t → t.0 < length (run_enc e t.0 t.1 ++ r)
  run_enough t r h =
      let p : 2 ≤ e = run_bits e t h in
      simp length-append (omega (arith, run_length t.0 t.1, le-mul_of_pos_right {m = e} (suc t.0) (omega arith)))

  abbrev pub run : Codec Bool (ℕ × ℕ)
  run =
      record {
        Fits = RunFits e;
        enc = λ t. run_enc e t.0 t.1;
        dec = λ s. run_dec e (length s) s;
        there = λ t r h. run_there (length (run_enc e t.0 t.1 ++ r)) t.0 t.1 r (run_enough t r h) h;
        back = λ s t r p. run_back (length s) s t r p;
      }

-- ---- distances

pub record FitsDistance (e d : ℕ) : Type 0 where
  pub bits : 2 ≤ e
  pub some : 1 ≤ d

module _ (e : ℕ) where
  pub elements_fit : (d : ℕ) → FitsDistance e d → RunFits e (elements_of e d)
  elements_fit d h =
      let p : 4 ≤ 2 ^ e = pow_four e h.bits in
      let m : (d - 1) % most e < most e = mod-lt (d - 1) (omega arith) in
      record { last = omega arith; some = omega arith; other = λ z. omega arith }

  pub distance_elements_lem : (d : ℕ) → FitsDistance e d → distance_of e (elements_of e d) ≡ d
  distance_elements_lem d h = omega (arith, div-add-mod' (d - 1) (most e))

  pub distance_fits : (t : ℕ × ℕ) → RunFits e t → FitsDistance e (distance_of e t)
  distance_fits t h = record { bits = run_bits e t h; some = omega arith }

  pub elements_distance : (t : ℕ × ℕ) → RunFits e t → elements_of e (distance_of e t) ≡ t
  elements_distance t h =
      let p : 4 ≤ 2 ^ e = pow_four e (run_bits e t h) in
      let k : t.1 - 1 < most e = omega arith in
      let z : t.0 * most e + t.1 - 1 ≡ t.0 * most e + (t.1 - 1) = omega arith in
      ap₂ (λ (x y : ℕ). (x, y))
      (rw (z, mul-add-div_right {m = most e} (omega arith) t.0 (t.1 - 1), div-eq_of_lt k) (omega arith))
      (rw (z, mul-add-mod_self_right t.0 (most e) (t.1 - 1), mod-eq_of_lt k) (omega arith))

  pub distance_matches : Matches (RunFits e) (distance_of e) (elements_of e) (FitsDistance e)
  distance_matches = record { fits = elements_fit; same = distance_elements_lem; allowed = distance_fits; again = elements_distance }

  -- from 1 on; there is no largest
  abbrev pub distance : Codec Bool ℕ
  distance = via (run e) (distance_of e) (elements_of e) (FitsDistance e) distance_matches

-- ---- where they stop

pub or_first : (a b : Bool) → T a → T (a || b)
or_first true b t = tt
or_first false b t = absurd t

pub or_second : (a b : Bool) → T b → T (a || b)
or_second true b t = tt
or_second false b t = t

pub or_not : (a b : Bool) → T (not a) → T (not b) → T (not (a || b))
or_not true b t u = absurd t
or_not false b t u = u

module _ (e : ℕ) where
  element_read : (x : ℕ) (r : Bits) → x < 2 ^ e → number_of_bits (take e (bits_of_number e x ++ r)) ≡ x
  element_read x r h = ap number_of_bits (take_at (bits_of_number e x) r e (length_bits e x)) ∙ number_bits e x h

  pub stop_zero : (r : Bits) → T (stop e (bits_of_number e 0 ++ r))
  stop_zero r = or_second (ltb (length (bits_of_number e 0 ++ r)) e) _ (yes_eqb (element_read 0 r (pow_pos e)))

  stop_not : (x : ℕ) (r : Bits) → x < 2 ^ e → 1 ≤ x → T (not (stop e (bits_of_number e x ++ r)))
  stop_not x r h l =
      or_not (ltb (length (bits_of_number e x ++ r)) e) _ (no_ltb {a = length (bits_of_number e x ++ r)} {b = e} (simp (length-append, length_bits) (omega arith)))
      (no_eqb {a = number_of_bits (take e (bits_of_number e x ++ r))} {b = 0} (λ z. omega (arith, element_read x r h)))

pub take_zeros : (e k : ℕ) → number_of_bits (take e (zeros k)) ≡ 0
unfolding number_of_bits
take_zeros zero k = refl
take_zeros (suc e) zero = refl
take_zeros (suc e) (suc k) = omega (arith, take_zeros e k)

pub stop_zeros : (e k : ℕ) → T (stop e (zeros k))
stop_zeros e k = or_second (ltb (length (zeros k)) e) _ (yes_eqb (take_zeros e k))

run_goes : (e q x : ℕ) (r : Bits) → RunFits e (q, x) → T (not (stop e (run_enc e q x ++ r)))
run_goes e zero x r h = stop_not e x r h.last h.some
run_goes e (suc q) x r h =
    let p : 4 ≤ 2 ^ e = pow_four e (run_bits e (suc q, x) h) in
    rw append_assoc (stop_not e (ones e) (run_enc e q x ++ r) (ones_lt e) (omega arith))

pub distance_goes : (e d : ℕ) (r : Bits) → FitsDistance e d → T (not (stop e ((distance e).enc d ++ r)))
distance_goes e d r h = run_goes e (elements_of e d).0 (elements_of e d).1 r (elements_fit e d h)

pub distance_bits : (e d : ℕ) → FitsDistance e d → 0 < length ((distance e).enc d)
distance_bits e d h = omega (arith, run_length e (elements_of e d).0 (elements_of e d).1, le-mul_of_pos_right {m = e} (suc (elements_of e d).0) (omega arith))
