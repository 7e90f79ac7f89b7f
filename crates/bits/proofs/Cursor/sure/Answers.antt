-- A field that is known to be there.
use native.Mathlib.Omega.{arith}
use mathlib.Core.Path.{refl}
use Rattle.bits.proofs.Laws.Reads.{field_at}
use Rattle.bits.proofs.Cursor.sure.Goals as goal

pub returns : goal.returns
returns c =
    let a = c.args in
    ((λ e. field_at e a.bytes.now a.self.at a.n _ (omega arith) (omega arith) c.number_at.ensures), refl)
