-- Two bytes, then the scale up to the field's end.
use native.Mathlib.Omega.{arith}
use Rattle.bits.specs.Reads.{Reads}
use Rattle.bits.proofs.Laws.Reads.{at_place, go_on, made}
use Rattle.outcome.specs.Refusals.{bad_value}
use Rattle.format.specs.Record.{scale}
use Rattle.judge_heads.specs.Answers.{scale_at}
use Rattle.judge_heads.proofs.Laws.Header.{scale_behind}
use Rattle.sheet.specs.Values.{header_value}
use Rattle.check_value.proofs.Laws.Ended.{ends, fails, of_some, of_none}
use Rattle.check_value.proofs.header.header_value.Goals as goal

pub returns-in_err-scale : goal.returns-in_err-scale
unfolding header_value
returns-in_err-scale c =
    let d = at_place c.start.ensures (c.sure-device.ensures.0 bad_value) in
    let z = of_none (λ r. Reads (scale bad_value).dec c.args.value.now c.sure-device.result.next.at (scale_at bad_value r)) c.scale_at.result c.in_err-scale.ensures.value (c.scale_at.ensures bad_value) in
    rw c.from_residual.ensures (record { left = _; refuses = fails _ (made _ _ (go_on _ _ d z.1)) })

pub returns : goal.returns
unfolding header_value
returns c =
    let d = at_place c.start.ensures (c.sure-device.ensures.0 bad_value) in
    let z = of_some (λ r. Reads (scale bad_value).dec c.args.value.now c.sure-device.result.next.at (scale_at bad_value r)) c.scale_at.result c.in_ok-scale.ensures.value (c.scale_at.ensures bad_value) in
    ends _ (made _ _ (go_on _ _ d z)) (omega (arith, scale_behind bad_value d.within z, c.sure-device.ensures.1, c.start.ensures, c.requires))
