-- The template by its tag and its length, then what is in it, and nothing behind it.
use native.Mathlib.Omega.{arith}
use Prim.Native.Nat.{ℕ, ◌+◌, ◌-◌, ◌*◌, ◌≤◌}
use mathlib.Core.Path.{◌≡◌, refl, sym, ap, subst}
use mathlib.Core.List.{List}
use lib.ListN.{length, get_or}
use Rattle.std.proofs.Common.{Fits, w8}
use Rattle.bits.specs.Codec.{field_dec}
use Rattle.bits.specs.CodecLaws.{fixed}
use Rattle.bits.specs.Reads.{Reads, found}
use Rattle.bits.proofs.Laws.Reads.{known, fixed_ok}
use Rattle.bits.proofs.Laws.Parts.{part}
use Rattle.bits.proofs.Laws.Bytewise.{two_reads}
use Rattle.outcome.specs.Refusals.{bad_object}
use Rattle.format.specs.declared.Part.{Part}
use Rattle.card.specs.Object.{any_bytes, value_block}
use Rattle.card_shape.specs.Shape.{WholeValue, TemplateStands, ShapeStands}
use Rattle.card_shape.specs.declared.Value.{Value}
use Rattle.card_shape.proofs.Laws.Template.{object_none, object_tag, whole_cut, whole_template, whole_over}
use Rattle.card_shape.proofs.Laws.Object.{shape_bad, template_got}
use Rattle.card_shape.proofs.shape_of.Goals as goal

module _ (s : List ℕ) (fits : (i : ℕ) → Fits w8 (get_or s i 0)) (some : 2 ≤ length s) {n : ℕ} (is : n ≡ get_or s 0 0 * 256 + get_or s 1 0) where
  first : Reads (field_dec bad_object 16) s 0 (found n 16)
  first = known (ap (λ (k : ℕ). found k 16) (sym is)) (two_reads s (λ i. (fits i).fits) bad_object 0 some)

  tag : n ≡ 0x7F2E → Reads (fixed bad_object 16 0x7F2E).dec s 0 (found tt 16)
  tag e = fixed_ok bad_object 16 first 0x7F2E e

stands : {s : List ℕ} {x : Part} {y : Value} → Reads (fixed bad_object 16 0x7F2E).dec s 0 (found tt 16) → WholeValue s 2 x
    → TemplateStands (part s x.from (x.to - x.from)) y → length s ≤ x.to → ShapeStands s (record { from = x.from + y.from; index = x.from + y.index; to = x.from + y.to })
stands {s} {x} {y} t w h l =
    let e : x.to - x.from ≡ length s - x.from = omega (arith, w.within) in
    record {
      tag = t;
      a = x.from;
      counted = known (ap (λ (k : ℕ). found k (8 * x.from)) e) w.counted;
      within = omega (arith, w.ordered, w.within);
      y = y;
      template = subst (λ (k : ℕ). TemplateStands (part s x.from k) y) e h;
      from = refl;
      index = refl;
      to = refl;
    }

pub returns-then-object-lt2 : goal.returns-then-object-lt2
returns-then-object-lt2 c = shape_bad (object_none (value_block any_bytes (λ _. any_bytes)) c.if-object-lt2.true)

pub returns-then-two_at-ne-TEMPLATE : goal.returns-then-two_at-ne-TEMPLATE
returns-then-two_at-ne-TEMPLATE c =
    shape_bad (object_tag (value_block any_bytes (λ _. any_bytes)) (first c.args.object.now c.type_inv.object c.if-object-lt2.false c.two_at.ensures) c.if-two_at-ne-TEMPLATE.true)

pub returns-in_err-a : goal.returns-in_err-a
returns-in_err-a c =
    let t = tag c.args.object.now c.type_inv.object c.if-object-lt2.false c.two_at.ensures c.if-two_at-ne-TEMPLATE.false in
    rw c.from_residual.ensures (shape_bad (whole_cut (value_block any_bytes (λ _. any_bytes)) t c.in_err-a.ensures))

pub returns-in_err-value : goal.returns-in_err-value
returns-in_err-value c =
    let t = tag c.args.object.now c.type_inv.object c.if-object-lt2.false c.two_at.ensures c.if-two_at-ne-TEMPLATE.false in
    rw c.from_residual-in_err-value.ensures (shape_bad (whole_template (value_block any_bytes (λ _. any_bytes)) t c.in_ok-a.ensures c.in_err-value.ensures))

pub returns-then-b-object : goal.returns-then-b-object
returns-then-b-object c =
    let t = tag c.args.object.now c.type_inv.object c.if-object-lt2.false c.two_at.ensures c.if-two_at-ne-TEMPLATE.false in
    shape_bad (whole_over (value_block any_bytes (λ _. any_bytes)) t c.in_ok-a.ensures (template_got c.in_ok-value.ensures).1 c.if-b-object.true)

pub returns : goal.returns
returns c =
    let t = tag c.args.object.now c.type_inv.object c.if-object-lt2.false c.two_at.ensures c.if-two_at-ne-TEMPLATE.false in
    stands t c.in_ok-a.ensures c.in_ok-value.ensures c.if-b-object.false
