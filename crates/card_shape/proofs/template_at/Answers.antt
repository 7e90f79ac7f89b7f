-- Object 90 by its tag, its length and its value's blocks, then the objects behind it.
use native.Mathlib.Omega.{arith}
use Prim.Native.Nat.{ℕ, ◌+◌, ◌-◌, ◌<◌}
use mathlib.Core.Path.{◌≡◌, sym, ap, subst}
use mathlib.Core.Bool.{true, false}
use mathlib.Core.List.{List}
use lib.ListN.{length, take, drop, get_or}
use Rattle.std.proofs.Common.{Fits, w8}
use Rattle.bits.specs.Codec.{field_dec}
use Rattle.bits.specs.CodecLaws.{fixed}
use Rattle.bits.specs.Reads.{Reads, found}
use Rattle.bits.proofs.Laws.Reads.{known, fixed_ok}
use Rattle.bits.proofs.Laws.Parts.{part}
use Rattle.bits.proofs.Laws.Bytewise.{byte_reads}
use Rattle.outcome.specs.Refusals.{bad_object}
use Rattle.format.specs.declared.Part.{Part}
use Rattle.card.specs.Object.{any_bytes, value_block, template}
use Rattle.card_shape.specs.Shape.{Bad, WholeValue, OthersFound, BlocksStand, TemplateStands}
use Rattle.card_shape.proofs.Laws.Value.{any_bytes_lem, skeleton_part, index_part, stands_good}
use Rattle.card_shape.proofs.Laws.Others.{rest_is}
use Rattle.card_shape.proofs.Laws.Template.{template_none, template_tag, template_cut, template_blocks, template_others}
use Rattle.card_shape.proofs.template_at.Goals as goal

module _ (s : List ℕ) (fits : (i : ℕ) → Fits w8 (get_or s i 0)) (some : 0 < length s) {n : ℕ} (is : n ≡ get_or s 0 0) where
  first : Reads (field_dec bad_object 8) s 0 (found n 8)
  first = known (ap (λ (k : ℕ). found k 8) (sym is)) (byte_reads s (λ i. (fits i).fits) bad_object 0 some)

  tag : n ≡ 0x90 → Reads (fixed bad_object 8 0x90).dec s 0 (found tt 8)
  tag e = fixed_ok bad_object 8 first 0x90 e

module _ {s : List ℕ} (t : Reads (fixed bad_object 8 0x90).dec s 0 (found tt 8)) {x : Part} (w : WholeValue s 1 x) {i : ℕ}
    (b : BlocksStand (part s x.from (x.to - x.from)) i) where
  others_bad : OthersFound (take (length s - x.to) (drop x.to s)) false → Bad (template (value_block any_bytes (λ _. any_bytes))).dec s
  others_bad h =
      let d = stands_good any_bytes (λ _. any_bytes) b (any_bytes_lem (skeleton_part any_bytes (λ _. any_bytes) b)).1 (any_bytes_lem (index_part any_bytes (λ _. any_bytes) b)).1 in
      template_others (value_block any_bytes (λ _. any_bytes)) t w d (rw rest_is at h)

  stands : OthersFound (take (length s - x.to) (drop x.to s)) true → TemplateStands s (record { from = x.from; index = x.from + i; to = x.to })
  stands h =
      let e : i ≡ x.from + i - x.from = omega arith in
      let o : OthersFound (drop x.to s) true = rw rest_is at h in
      record { tag = t; value = w; low = omega arith; blocks = subst (BlocksStand (part s x.from (x.to - x.from))) e b; behind = o.0; others = o.1 }

pub returns-then-bytes-lt1 : goal.returns-then-bytes-lt1
returns-then-bytes-lt1 c = template_none (value_block any_bytes (λ _. any_bytes)) c.if-bytes-lt1.true

pub returns-then-wide-ne-SKELETON : goal.returns-then-wide-ne-SKELETON
returns-then-wide-ne-SKELETON c =
    template_tag (value_block any_bytes (λ _. any_bytes)) (first c.args.bytes.now c.type_inv.bytes c.if-bytes-lt1.false c.wide.ensures) c.if-wide-ne-SKELETON.true

pub returns-in_err-from : goal.returns-in_err-from
returns-in_err-from c =
    let t = tag c.args.bytes.now c.type_inv.bytes c.if-bytes-lt1.false c.wide.ensures c.if-wide-ne-SKELETON.false in
    rw c.from_residual.ensures (template_cut (value_block any_bytes (λ _. any_bytes)) t c.in_err-from.ensures)

pub returns-in_err-i : goal.returns-in_err-i
returns-in_err-i c =
    let t = tag c.args.bytes.now c.type_inv.bytes c.if-bytes-lt1.false c.wide.ensures c.if-wide-ne-SKELETON.false in
    rw c.from_residual-in_err-i.ensures (template_blocks (value_block any_bytes (λ _. any_bytes)) t c.in_ok-from.ensures c.in_err-i.ensures)

pub returns-then-not-others_right : goal.returns-then-not-others_right
returns-then-not-others_right c =
    let t = tag c.args.bytes.now c.type_inv.bytes c.if-bytes-lt1.false c.wide.ensures c.if-wide-ne-SKELETON.false in
    others_bad t c.in_ok-from.ensures c.in_ok-i.ensures c.if-not-others_right.ensures

pub returns : goal.returns
returns c =
    let t = tag c.args.bytes.now c.type_inv.bytes c.if-bytes-lt1.false c.wide.ensures c.if-wide-ne-SKELETON.false in
    stands t c.in_ok-from.ensures c.in_ok-i.ensures c.if-not-others_right.ensures
