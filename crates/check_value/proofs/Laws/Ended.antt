-- A value that ends its field: read up to the field's end it is right, and where its reading is refused it is wrong. Of a reading that is
-- refused the place is forgotten.
use Rattle.std.specs.Prelude.{Some, None, Result, Ok, Err}
use Rattle.std.specs.Result.{result_ok}
use mathlib.Core.Path.{◌≡◌, ap, ◌∙◌, subst}
use Prim.Native.Nat.{ℕ, ◌-◌, ◌*◌}
use native.Mathlib.Omega.{arith}
use mathlib.Core.Bool.{Bool}
use mathlib.Core.List.{List, []}
use lib.ListN.{length}
use Rattle.bits.specs.Bytes.{bits_of}
use Rattle.bits.specs.Codec.{got, refused, Codec}
use Rattle.bits.specs.Block.{ended_dec}
use Rattle.bits.specs.Reads.{Reads, found, fault}
use Rattle.bits.proofs.Laws.Parts.{drop_end}
use Rattle.outcome.specs.Refusals.{bad_value}

module _ {A : Type 0} (c : Codec Bool A) {s : List ℕ} where
  pub ends : {a : A} {q : ℕ} → Reads c.dec s 0 (found a q) → q ≡ 8 * length s → ended_dec c bad_value (bits_of s) ≡ got a []
  unfolding ended_dec
  ends {a} {q} h e =
      let z : c.dec (bits_of s) ≡ got a [] = h.is ∙ ap (got a) (drop_end s q (omega arith)) in
      rw z

  pub fails : {q : ℕ} → Reads c.dec s 0 (fault bad_value q) → ended_dec c bad_value (bits_of s) ≡ refused bad_value (8 * length s - q)
  unfolding ended_dec
  fails h = rw h.is

-- ---- a result whose error is forgotten

module _ {X E : Type 0} (P : Result X E → Type 0) where
  pub of_some : (r : Result X E) {x : X} → Some x ≡ result_ok r → P r → P (Ok x)
  of_some (Ok y) {x} z h = let e : Ok y ≡ Ok x = cc in subst P e h
  of_some (Err e) z h = cc

  pub of_none : (r : Result X E) → None ≡ result_ok r → P r → (e : E) × P (Err e)
  of_none (Ok y) z h = cc
  of_none (Err e) z h = (e, h)
