-- The size, the object, and the record.
use native.Mathlib.Omega.{arith}
use mathlib.Core.Path.{◌≡◌, sym, ap, ◌∙◌}
use mathlib.Core.Option.{some}
use Rattle.std.proofs.lemmas.Result.{err_from_is_err_and}
use Rattle.outcome.proofs.Laws.{answer_refused}
use Rattle.outcome.specs.declared.refusal.Refusal.TheVariants.{BadObject}
use Rattle.card.specs.Size.{scale_of}
use Rattle.card.specs.Sizes.{known_scale}
use Rattle.card.proofs.Laws.Calls.{read_none}
use Rattle.card.proofs.Laws.Fits.{scale_fits}
use Rattle.card_reading.proofs.Laws.{narrow_scale, small_scale, not_read, is_read}
use Rattle.card_reading.proofs.read_card.Goals as goal

pub returns-in_err-scale : goal.returns-in_err-scale
returns-in_err-scale c =
    let p = err_from_is_err_and c.from_residual.result c.from_residual.ensures.1 in
    let e : c.in_err-scale.field-0.0 ≡ BadObject = grind arith in
    let none_is = sym c.scale_of.ensures ∙ ap known_scale c.in_err-scale.ensures.ok_part in
    rw (p.1, p.2, e) (answer_refused (λ xs. xs) _ c.args.out.now (read_none c.args.size c.args.object.now none_is))

pub judge_card-requires : goal.judge_card-requires
judge_card-requires c =
    let known : scale_of c.args.size ≡ some c.in_ok-scale.scale = sym c.scale_of.ensures ∙ ap known_scale c.in_ok-scale.ensures.ok_part in
    narrow_scale (scale_fits c.args.size known)

pub returns-in_err-value : goal.returns-in_err-value
returns-in_err-value c =
    let p = err_from_is_err_and c.from_residual-in_err-value.result c.from_residual-in_err-value.ensures.1 in
    let known : scale_of c.args.size ≡ some c.in_ok-scale.scale = sym c.scale_of.ensures ∙ ap known_scale c.in_ok-scale.ensures.ok_part in
    let (d, l) = c.in_err-value.ensures in
    rw (p.1, p.2) (answer_refused (λ xs. xs) _ c.args.out.now (not_read c.args.size c.args.object.now known d l))

pub record_given-requires : goal.record_given-requires
record_given-requires c =
    let known : scale_of c.args.size ≡ some c.in_ok-scale.scale = sym c.scale_of.ensures ∙ ap known_scale c.in_ok-scale.ensures.ok_part in
    small_scale (scale_fits c.args.size known)

pub returns : goal.returns
returns c =
    let known : scale_of c.args.size ≡ some c.in_ok-scale.scale = sym c.scale_of.ensures ∙ ap known_scale c.in_ok-scale.ensures.ok_part in
    c.record_given.ensures.is _ (is_read c.args.size c.args.object.now known c.in_ok-value.ensures)
