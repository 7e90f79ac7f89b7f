-- What the judge of one value has told, once its answer is known. Lines and lists are told by yes or no, so the answer picks the case.
use mathlib.Core.Path.{◌≡◌, subst}
use Prim.Native.Nat.{ℕ}
use mathlib.Core.Bool.{Bool, true, false}
use mathlib.Core.List.{List}
use Rattle.bits.specs.Block.{Block}
use Rattle.check_value.specs.Worth.{Right, Wrong, Tested}

module _ {A : Type 0} (b : Block A) (s : List ℕ) (P : A → Type 0) where
  pub told_right : {r : Bool} → r ≡ true → Tested b s P r → Right b s P
  told_right e h = subst (Tested b s P) e h

  pub told_wrong : {r : Bool} → r ≡ false → Tested b s P r → Wrong b s
  told_wrong e h = subst (Tested b s P) e h
