-- A number stands for one refusal: of two refusals with the same number there is one.
use mathlib.Core.Path.{◌≡◌, refl, sym, ap, ◌∙◌}
use Prim.Native.Nat.{ℕ}
use mathlib.Core.List.{List, [], ◌∷◌}
use lib.ListN.{get_or}
use Rattle.outcome.specs.Why.{number}
use Rattle.outcome.specs.declared.refusal.Refusal.{Refusal}
use Rattle.outcome.specs.declared.refusal.Refusal.TheVariants as v

-- each at its number; none has 0
abbrev by_number : List Refusal
by_number =
    v.BelowRule ∷ v.BadSize ∷ v.BadIdentifier ∷ v.BadVersion ∷ v.BadLength ∷ v.BadHeader ∷ v.Past ∷
    v.BadView ∷ v.BadLine ∷ v.TooManyLines ∷ v.BadIndex ∷ v.BadSegment ∷ v.BytesOver ∷
    v.NoView ∷ v.OtherCount ∷ v.BadLines ∷ v.Extended ∷ v.NoIndex ∷ v.AlreadySo ∷
    v.TooLong ∷ v.NoRoom ∷ v.BadSheet ∷ v.BadValue ∷ v.NoSegment ∷ v.BadQuality ∷
    v.BadPairs ∷ v.BadPores ∷ v.BadObject ∷ v.OtherScale ∷ v.BadRun ∷ v.NoRule ∷
    v.BelowRule ∷ []

at_its_number : (r : Refusal) → get_or by_number (number r) v.BelowRule ≡ r
at_its_number v.BadSize = refl
at_its_number v.BadIdentifier = refl
at_its_number v.BadVersion = refl
at_its_number v.BadLength = refl
at_its_number v.BadHeader = refl
at_its_number v.Past = refl
at_its_number v.BadView = refl
at_its_number v.BadLine = refl
at_its_number v.TooManyLines = refl
at_its_number v.BadIndex = refl
at_its_number v.BadSegment = refl
at_its_number v.BytesOver = refl
at_its_number v.NoView = refl
at_its_number v.OtherCount = refl
at_its_number v.BadLines = refl
at_its_number v.Extended = refl
at_its_number v.NoIndex = refl
at_its_number v.AlreadySo = refl
at_its_number v.TooLong = refl
at_its_number v.NoRoom = refl
at_its_number v.BadSheet = refl
at_its_number v.BadValue = refl
at_its_number v.NoSegment = refl
at_its_number v.BadQuality = refl
at_its_number v.BadPairs = refl
at_its_number v.BadPores = refl
at_its_number v.BadObject = refl
at_its_number v.OtherScale = refl
at_its_number v.BadRun = refl
at_its_number v.NoRule = refl
at_its_number v.BelowRule = refl

pub one_number : (a b : Refusal) → number a ≡ number b → a ≡ b
one_number a b e = sym (at_its_number a) ∙ ap (λ (n : ℕ). get_or by_number n v.BelowRule) e ∙ at_its_number b
