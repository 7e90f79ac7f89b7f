-- A code and its byte go over into each other.
use Rattle.std.specs.Prelude.{◌≡◌, ℕ, ◌+◌, ◌-◌, ◌*◌, ◌%◌, ◌^◌, ◌<◌, T, ltb}
use Rattle.std.proofs.Common.{ap, ◌∙◌, arith, mod-eq_of_lt, mod-lt, eqb→eq, pow_pos, pow_mono}
use Rattle.std.proofs.Math.Nat.{add-mul-mod_self_right}
use Rattle.std.proofs.Math.Dec.{eqb_refl}
use Rattle.std.proofs.Math.Pow.{high_ones}
use Rattle.bits.specs.ChoiceLaws.{pick_case, split}
use Rattle.bits.specs.CodecLaws.{Matches}
use Rattle.sheet_codes.specs.Code.{sign_extended, code_ok, CodeValue}

raised : (k n : ℕ) → n < 2 ^ k → (n + (2 ^ 8 - 2 ^ k)) % 2 ^ k ≡ n
raised k n h =
    split k 8
    (λ l. let e : 8 - k + k ≡ 8 = omega arith in
    let z : 2 ^ 8 - 2 ^ k ≡ (2 ^ (8 - k) - 1) * 2 ^ k = rw e at (high_ones (8 - k) k) in
    ap (λ (m : ℕ). (n + m) % 2 ^ k) z ∙ add-mul-mod_self_right n (2 ^ (8 - k) - 1) (2 ^ k) ∙ mod-eq_of_lt h)
    (λ l. let z : 2 ^ 8 - 2 ^ k ≡ 0 = omega (arith, pow_mono {i = 8} {j = k} (omega arith)) in
    let e : n + 0 ≡ n = omega arith in
    ap (λ (m : ℕ). (n + m) % 2 ^ k) z ∙ rw e (mod-eq_of_lt h))

-- the lowest k bits of the byte are the code
pub extended_low : (k n : ℕ) → n < 2 ^ k → sign_extended k n % 2 ^ k ≡ n
unfolding sign_extended
extended_low k n h = pick_case (λ (x : ℕ). x % 2 ^ k ≡ n) (ltb n (2 ^ (k - 1))) _ _ (λ t. mod-eq_of_lt h) (λ t. raised k n h)

pub extended_ok : (k n : ℕ) → n < 2 ^ k → T (code_ok k (sign_extended k n))
extended_ok k n h = rw (extended_low k n h) (eqb_refl (sign_extended k n))

pub code_matches : (k : ℕ) → Matches (λ x. (x < 2 ^ 8) × T (code_ok k x)) (λ x. x % 2 ^ k) (sign_extended k) (CodeValue k)
code_matches k =
    record {
      fits = λ n h. (h.1, extended_ok k n h.0);
      same = λ n h. extended_low k n h.0;
      allowed = λ x h. (mod-lt x (pow_pos k), rw (eqb→eq (sign_extended k (x % 2 ^ k)) x h.1) h.0);
      again = λ x h. eqb→eq (sign_extended k (x % 2 ^ k)) x h.1;
    }
