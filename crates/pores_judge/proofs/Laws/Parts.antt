-- What a payload that says pores is made of, as code that goes over it meets it: the resolution, e, and the lines from place 24 on.
use mathlib.Core.Path.{◌≡◌, sym, ap, ap₂, ◌∙◌, subst}
use Prim.Native.Nat.{ℕ, ◌≤◌}
use native.Mathlib.Omega.{arith}
use mathlib.Core.Option.{some}
use mathlib.Core.List.{List, [], ◌++◌}
use lib.ListN.{length, drop, length-append, length-drop}
use lib.Seq.{drop_at, drop-drop}
use Rattle.bits.specs.ChoiceLaws.{within_low, within_high}
use Rattle.bits.specs.Bits.{Bits, bits_of_number}
use Rattle.bits.specs.BitsLaws.{length_bits}
use Rattle.bits.specs.Bytes.{bits_of}
use Rattle.bits.specs.BytesLaws.{length_bits_of}
use Rattle.bits.specs.Codec.{got, field_dec, then_dec}
use Rattle.bits.specs.CodecLaws.{pick_got, next_got, field_back, ranged}
use Rattle.bits.specs.Block.{few, zeros_dec, ahead_dec, recast_dec}
use Rattle.outcome.specs.Refusals.{bad_pores}
use Rattle.pores_elements.specs.Before.{row_dec, closed_dec}
use Rattle.pores_parts.specs.Parts.{Pores, make_pores}
use Rattle.pores.specs.Payload.{pores_block, pores_in}
use Rattle.pores_parts.specs.Lines.{line, lines, front}
use Rattle.pores.specs.PayloadLaws.{pores_got}

pub record PayloadParts (n : ℕ) (s : List ℕ) (p : Pores) : Type 0 where
  pub long : 3 ≤ length s
  pub low : 2 ≤ p.e
  pub high : p.e ≤ 8
  pub resolution : field_dec bad_pores 16 (bits_of s) ≡ got p.resolution (drop 16 (bits_of s))
  -- the lines, and what is left behind them
  pub behind : Bits
  pub rows : row_dec (line p.e) n (drop 24 (bits_of s)) ≡ got p.lines behind

-- a codec's bits in front, and what stands behind them
behind_bits : (s a r : Bits) (w : ℕ) → length a ≡ w → s ≡ a ++ r → (r ≡ drop w s) × (w ≤ length s)
behind_bits s a r w l e = (sym (ap (drop w) e ∙ drop_at a r w l), omega (arith, ap length e ∙ length-append a r))

pub payload_parts : (n : ℕ) (s : List ℕ) (p : Pores) → pores_in n s ≡ some p → PayloadParts n s p
unfolding pores_block recast_dec ahead_dec closed_dec then_dec
payload_parts n s p h =
    pores_got n s p h λ d.
    next_got (ahead_dec front (λ t. lines t.1 n) (bits_of s)) _ d λ t q d1 h1.
    next_got (front.dec (bits_of s)) _ d1 λ a r d2 h2.
    next_got ((lines a.1 n).dec r) _ h2 λ ls u d3 h3.
    next_got (row_dec (line a.1) n r) _ d3 λ rows v d4 h4.
    next_got (zeros_dec bad_pores v) _ h4 λ _ _ _ h5.
    next_got (field_dec bad_pores 16 (bits_of s)) _ d2 λ x y d6 h6.
    next_got ((ranged bad_pores 8 2 8).dec y) _ h6 λ e z d7 h7.
    let f1 : (x, e) ≡ a = cc in
    let f2 : (a, ls) ≡ t = cc in
    let f3 : make_pores t ≡ p = cc in
    let f4 : rows ≡ ls = (pick_got (few (length v)) rows [] bad_pores _ h5).1 in
    let (y_is, l16) = behind_bits (bits_of s) (bits_of_number 16 x) y 16 (length_bits 16 x) (field_back bad_pores 16 (bits_of s) x y d6).1 in
    let (fits, e_bits) = (ranged bad_pores 8 2 8).back y e z d7 in
    let (z_is, l8) = behind_bits y (bits_of_number 8 e) z 8 (length_bits 8 e) e_bits in
    let rest_is : z ≡ r = cc in
    let r_is : r ≡ drop 24 (bits_of s) = sym rest_is ∙ z_is ∙ ap (drop 8) y_is ∙ drop-drop 8 16 (bits_of s) in
    let is : make_pores ((x, e), rows) ≡ p = ap₂ (λ (b : ℕ × ℕ) (w : List (List ℕ)). make_pores (b, w)) f1 f4 ∙ ap make_pores f2 ∙ f3 in
    subst (PayloadParts n s) is
    (record {
      long = omega (arith, length_bits_of s, ap length y_is, length-drop 16 (bits_of s));
      low = within_low 2 8 e fits.1;
      high = within_high 2 8 e fits.1;
      resolution = d6 ∙ ap (got x) y_is;
      behind = v;
      rows = ap₂ (λ (b : ℕ × ℕ) (w : Bits). row_dec (line b.1) n w) f1 (sym r_is) ∙ d4;
    })
