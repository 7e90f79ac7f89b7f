-- No refusal's number is 0.
use mathlib.Core.Logic.{◌≢◌}
use native.Mathlib.Omega.{arith}
use Rattle.outcome.specs.Why.{number}
use Rattle.outcome.specs.declared.refusal.Refusal.{Refusal}
use Rattle.outcome.specs.declared.refusal.Refusal.TheVariants as v

pub some_number : (why : Refusal) → number why ≢ 0
some_number v.BadSize = λ e. omega arith
some_number v.BadIdentifier = λ e. omega arith
some_number v.BadVersion = λ e. omega arith
some_number v.BadLength = λ e. omega arith
some_number v.BadHeader = λ e. omega arith
some_number v.Past = λ e. omega arith
some_number v.BadView = λ e. omega arith
some_number v.BadLine = λ e. omega arith
some_number v.TooManyLines = λ e. omega arith
some_number v.BadIndex = λ e. omega arith
some_number v.BadSegment = λ e. omega arith
some_number v.BytesOver = λ e. omega arith
some_number v.NoView = λ e. omega arith
some_number v.OtherCount = λ e. omega arith
some_number v.BadLines = λ e. omega arith
some_number v.Extended = λ e. omega arith
some_number v.NoIndex = λ e. omega arith
some_number v.AlreadySo = λ e. omega arith
some_number v.TooLong = λ e. omega arith
some_number v.NoRoom = λ e. omega arith
some_number v.BadSheet = λ e. omega arith
some_number v.BadValue = λ e. omega arith
some_number v.NoSegment = λ e. omega arith
some_number v.BadQuality = λ e. omega arith
some_number v.BadPairs = λ e. omega arith
some_number v.BadPores = λ e. omega arith
some_number v.BadObject = λ e. omega arith
some_number v.OtherScale = λ e. omega arith
some_number v.BadRun = λ e. omega arith
some_number v.NoRule = λ e. omega arith
some_number v.BelowRule = λ e. omega arith
