-- A field: there is room for it, or it is short.
use native.Mathlib.Omega.{arith}
use Rattle.bits.proofs.Laws.Reads.{field_at, field_past}
use Rattle.bits.proofs.Cursor.field.Goals as goal

pub returns-then-n-bytes : goal.returns-then-n-bytes
returns-then-n-bytes c =
    let a = c.args in
    λ e. field_at e a.bytes.now a.self.at a.n _ (omega arith) (omega arith) c.number_at.ensures

pub returns-else-n-bytes : goal.returns-else-n-bytes
returns-else-n-bytes c =
    let a = c.args in
    λ e. field_past e a.bytes.now a.self.at a.n (omega arith) (omega arith)
