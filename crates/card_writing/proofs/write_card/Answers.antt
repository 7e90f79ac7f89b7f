-- The size, then the view, then the scale; the bytes of the view that is found are the value.
use native.Mathlib.Omega.{arith}
use mathlib.Core.Path.{◌≡◌, refl, sym, ap, ◌∙◌}
use mathlib.Core.Bool.{Bool, true, false, not}
use mathlib.Core.Option.{some}
use lib.ListN.{length-take, length-drop}
use Rattle.std.proofs.lemmas.Result.{err_from_is_err_and}
use Rattle.bits.proofs.Laws.Place.{all_bytes}
use Rattle.outcome.proofs.Laws.{answer_refused}
use Rattle.outcome.specs.declared.refusal.Refusal.TheVariants.{BadObject}
use Rattle.find_view.proofs.Laws.{short}
use Rattle.card.specs.Size.{scale_of}
use Rattle.card.specs.Sizes.{known_scale}
use Rattle.card.proofs.Laws.Calls.{write_none}
use Rattle.card.proofs.Laws.Views.{same_scale_derived}
use Rattle.card_writing.proofs.Laws.{refused_is, other_is, given_is}
use Rattle.card_writing.proofs.write_card.Goals as goal

differs : (b : Bool) → true ≡ not b → b ≡ false
differs true e = cc
differs false e = refl

agrees : (b : Bool) → false ≡ not b → b ≡ true
agrees true e = refl
agrees false e = cc

pub returns-in_err-wanted : goal.returns-in_err-wanted
returns-in_err-wanted c =
    let a = c.args in
    let p = err_from_is_err_and c.from_residual.result c.from_residual.ensures.1 in
    let e : c.in_err-wanted.field-0.0 ≡ BadObject = grind arith in
    let none_is = sym c.scale_of.ensures ∙ ap known_scale c.in_err-wanted.ensures.ok_part in
    rw (p.1, p.2, e) (answer_refused (λ xs. xs) _ a.out.now (write_none a.size a.view a.bytes.now none_is))

pub returns-in_err-found : goal.returns-in_err-found
returns-in_err-found c =
    let a = c.args in
    let p = err_from_is_err_and c.from_residual-in_err-found.result c.from_residual-in_err-found.ensures.1 in
    let known : scale_of a.size ≡ some c.in_ok-wanted.wanted = sym c.scale_of.ensures ∙ ap known_scale c.in_ok-wanted.ensures.ok_part in
    rw (p.1, p.2) (answer_refused (λ xs. xs) _ a.out.now (refused_is a.size a.view a.bytes.now known c.in_err-found.ensures))

pub returns-then-ne : goal.returns-then-ne
returns-then-ne c =
    let a = c.args in
    let known : scale_of a.size ≡ some c.in_ok-wanted.wanted = sym c.scale_of.ensures ∙ ap known_scale c.in_ok-wanted.ensures.ok_part in
    let other = sym (same_scale_derived c.in_ok-found.found.scale c.in_ok-wanted.wanted) ∙ differs _ c.if-ne.ensures in
    rw c.into.ensures (answer_refused (λ xs. xs) _ a.out.now (other_is a.size a.view a.bytes.now known c.in_ok-found.ensures other))

pub object_given-requires : goal.object_given-requires
object_given-requires c = simp (length-take, length-drop) (omega (arith, short c.in_ok-found.ensures))

pub returns : goal.returns
returns c =
    let a = c.args in
    let known : scale_of a.size ≡ some c.in_ok-wanted.wanted = sym c.scale_of.ensures ∙ ap known_scale c.in_ok-wanted.ensures.ok_part in
    let bytes = all_bytes a.bytes.now (λ i. (c.type_inv.bytes i).fits) in
    let same = sym (same_scale_derived c.in_ok-found.found.scale c.in_ok-wanted.wanted) ∙ agrees _ c.if-ne.ensures in
    c.object_given.ensures.is _ (given_is a.size a.view a.bytes.now known c.in_ok-found.ensures bytes same)
