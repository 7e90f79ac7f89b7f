-- A length in its shortest form, as the code reads it: the first byte, and the number that it says follows.
use mathlib.Core.Path.{◌≡◌, refl, ap, subst, sym}
use mathlib.Core.Logic.{◌≢◌}
use Prim.Native.Nat.{ℕ, ◌+◌, ◌-◌, ◌*◌, ◌≤◌, ◌<◌}
use native.Mathlib.Omega.{arith}
use mathlib.Core.Bool.{not}
use mathlib.Core.List.{List}
use lib.ListN.{length}
use lib.Dec.{T, leb, ltb, le→leb}
use mir.Facts.{yes_ltb, no_ltb, no_leb}
use Rattle.bits.specs.ChoiceLaws.{pick_yes, pick_no, T_false, eqb_false}
use Rattle.bits.specs.Bits.{number_of_bits}
use Rattle.bits.specs.Codec.{field_dec}
use Rattle.bits.specs.CodecLaws.{field, only}
use Rattle.bits.specs.Reads.{Found, found, fault, Reads}
use Rattle.bits.proofs.Laws.Reads.{known, up_to, field_at, field_past, go_on, stop, made, pass, fail, stays, all_of, none_of}
use Rattle.outcome.specs.Refusals.{bad_object}
use Rattle.card.specs.LengthParts.{first_ok, bits_behind, least_behind}
use Rattle.card.specs.LengthLaws.{short_first, short_bits, short_least}
use Rattle.card.specs.Length.{object_length}

module _ (s : List ℕ) (a : ℕ) where
  abbrev Length : Found ℕ → Type 0
  Length r = Reads object_length.dec s (8 * a) r

  pub no_length : a ≤ length s → length s - a < 1 → Length (fault bad_object (8 * a))
  unfolding object_length
  no_length i h = none_of _ (omega arith) (made _ _ (stop _ _ (stays _ bad_object first_ok (field_past bad_object s (8 * a) 8 (omega arith) (omega arith)))))

  -- the first byte is x
  module _ {x : ℕ} (i : a < length s) (first : Reads (field_dec bad_object 8) s (8 * a) (found x (8 * (a + 1)))) where
    abbrev there : 8 * a ≤ 8 * length s
    there = omega arith

    pub first_bad_lem : 128 ≤ x → x ≢ 0x81 → x ≢ 0x82 → Length (fault bad_object (8 * a))
    unfolding object_length
    first_bad_lem l m n =
        let t : T (not (first_ok x)) = rw (T_false (ltb x 128) (no_ltb l), eqb_false x 0x81 m, eqb_false x 0x82 n) tt in
        none_of _ there (made _ _ (stop _ _ (fail _ bad_object first_ok there first t)))

    pub length_short : x < 128 → Length (found x (8 * (a + 1)))
    unfolding object_length number_of_bits
    length_short h =
        let p : ℕ = 8 * (a + 1) in
        let z : Reads (field_dec bad_object 0) s p (found 0 p) = up_to (omega arith) (field_at bad_object s p 0 0 first.within (omega arith) refl) in
        let y : Reads (field_dec bad_object (bits_behind x)) s p (found 0 p) = subst (λ (k : ℕ). Reads (field_dec bad_object k) s p (found 0 p)) (sym (short_bits x h)) z in
        let least : T (leb (least_behind x) 0) = rw (short_least x h) tt in
        all_of _ (known (ap (λ (n : ℕ). found n p) (pick_yes (ltb x 128) x 0 (yes_ltb h)))
        (made _ _ (go_on _ (λ f. only (field bad_object (bits_behind f)) bad_object (leb (least_behind f))) (pass _ bad_object first_ok first (short_first x h)) (pass _ bad_object (leb (least_behind x)) y least))))

    -- it says that w bits follow, for lengths from `least` on
    module _ (f w least : ℕ) (e : x ≡ f) (ok : T (first_ok f)) (long : 128 ≤ f) (b : w ≡ bits_behind f) (m : least ≡ least_behind f) where
      abbrev p : ℕ
      p = 8 * (a + 1)

      begun : Reads (only (field bad_object 8) bad_object first_ok).dec s (8 * a) (found f p)
      begun = pass _ bad_object first_ok (known (ap (λ (n : ℕ). found n p) e) first) ok

      goes_on : {r : Found ℕ} → Reads (field_dec bad_object w) s p r → Reads (field_dec bad_object (bits_behind f)) s p r
      goes_on {r} h = subst (λ (k : ℕ). Reads (field_dec bad_object k) s p r) b h

      pub behind_cut : 8 * length s - p < w → Length (fault bad_object (8 * a))
      unfolding object_length
      behind_cut h =
          none_of _ there (made _ _ (go_on _ (λ f. only (field bad_object (bits_behind f)) bad_object (leb (least_behind f))) begun
          (stays _ bad_object (leb (least_behind f)) (goes_on (field_past bad_object s p w first.within h)))))

      module _ {n q : ℕ} (r : Reads (field_dec bad_object w) s p (found n q)) where
        pub behind_low : n < least → Length (fault bad_object (8 * a))
        unfolding object_length
        behind_low h =
            none_of _ there (made _ _ (go_on _ (λ f. only (field bad_object (bits_behind f)) bad_object (leb (least_behind f))) begun
            (fail _ bad_object (leb (least_behind f)) first.within (goes_on r) (no_leb {a = least_behind f} {b = n} (rw (← m) h)))))

        pub length_behind : least ≤ n → Length (found n q)
        unfolding object_length
        length_behind h =
            all_of _ (known (ap (λ (k : ℕ). found k q) (pick_no (ltb f 128) f n (no_ltb long)))
            (made _ _ (go_on _ (λ f. only (field bad_object (bits_behind f)) bad_object (leb (least_behind f))) begun
            (pass _ bad_object (leb (least_behind f)) (goes_on r) (le→leb (least_behind f) n (rw (← m) h))))))
