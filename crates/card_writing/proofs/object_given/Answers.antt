-- Where there is room for the object it is laid.
use native.Mathlib.Omega.{arith}
use Rattle.outcome.proofs.Laws.{answer_full, answer_given}
use Rattle.card.proofs.Laws.Views.{inner_few}
use Rattle.card_writing.proofs.Laws.{inner_is, whole_is}
use Rattle.card_writing.proofs.object_given.Goals as goal

pub tagged_bytes-inner-requires : goal.tagged_bytes-inner-requires
tagged_bytes-inner-requires c =
    record { few = omega arith; small = omega (arith, c.requires) }

pub tagged_bytes-requires : goal.tagged_bytes-requires
tagged_bytes-requires c =
    let value = c.args.value.now in
    record { few = omega arith; small = omega (arith, inner_is value c.tagged_bytes-inner.ensures, inner_few value, c.requires) }

pub returns-then-out-tagged_bytes : goal.returns-then-out-tagged_bytes
returns-then-out-tagged_bytes c =
    let value = c.args.value.now in
    let e = whole_is value c.tagged_bytes-inner.ensures c.tagged_bytes.ensures in
    record { is = λ o q. rw c.into.ensures (answer_full (λ xs. xs) _ c.args.out.now q (omega (arith, e, c.if-out-tagged_bytes.true))) }

pub object_put-requires : goal.object_put-requires
object_put-requires c =
    let value = c.args.value.now in
    let e = whole_is value c.tagged_bytes-inner.ensures c.tagged_bytes.ensures in
    record { short = c.requires; room = omega (arith, e, c.if-out-tagged_bytes.false) }

pub returns : goal.returns
returns c =
    let value = c.args.value.now in
    let e = whole_is value c.tagged_bytes-inner.ensures c.tagged_bytes.ensures in
    let l = c.object_put.ensures.laid in
    record { is = λ o q. answer_given (λ xs. xs) _ c.args.out.now q _ _ (omega (arith, e, c.if-out-tagged_bytes.false)) l.count l.is }
