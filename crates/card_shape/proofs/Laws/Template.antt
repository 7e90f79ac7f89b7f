-- The template and the whole object, as the code goes over them: a tag, a length, and the block behind it. Each law is of any block.
use mathlib.Core.Path.{◌≡◌, sym, ap, ◌∙◌}
use mathlib.Core.Logic.{◌≢◌}
use Prim.Native.Nat.{ℕ, ◌+◌, ◌-◌, ◌*◌, ◌≤◌, ◌<◌}
use native.Mathlib.Omega.{arith}
use mathlib.Core.Bool.{Bool}
use mathlib.Core.List.{List, []}
use lib.ListN.{length, drop}
use lib.Dec.{eqb}
use Rattle.bits.specs.Bits.{Bits}
use Rattle.bits.specs.Bytes.{bits_of}
use Rattle.bits.specs.Codec.{Read, got, refused, field_dec}
use Rattle.bits.specs.CodecLaws.{field, only, fixed}
use Rattle.bits.specs.Block.{Block}
use Rattle.bits.specs.Reads.{found, fault, Reads}
use Rattle.bits.proofs.Laws.Reads.{field_past, made, stop, stays, fixed_bad}
use Rattle.bits.proofs.Laws.Parts.{part, part_length, bits_drop}
use Rattle.bits.proofs.Laws.Nested.{fault_behind, headed_stop, headed_bad, ahead_stop, ahead_bad, ahead_good, exact_bad, exact_good, exact_over}
use Rattle.outcome.specs.Refusals.{bad_object}
use Rattle.card.specs.Object.{Other, others, object_head, data_object, template, whole_object}
use Rattle.card_shape.specs.Shape.{Bad, WholeValue, CutValue}
use Rattle.card_shape.proofs.Laws.Others.{counted_is, object_cut, object_good}
use Rattle.format.specs.declared.Part.{Part}

-- ---- a part that is refused, inside what is refused for it

bad_inside : {A B : Type 0} {d : Bits → Read Bool A} {c : Bits → Read Bool B} (s : List ℕ) (x : Part) → x.from ≤ x.to → x.to ≤ length s
    → ((q : ℕ) → q ≤ 8 * (x.to - x.from) → d (bits_of (part s x.from (x.to - x.from))) ≡ refused bad_object (8 * (x.to - x.from) - q) → Reads c s 0 (fault bad_object (8 * x.from + q)))
    → Bad d (part s x.from (x.to - x.from)) → Bad c s
bad_inside s x i l f h =
    let n : length (part s x.from (x.to - x.from)) ≡ x.to - x.from = part_length s x.from (x.to - x.from) (omega arith) in
    record {
      place = 8 * x.from + h.place;
      reads = f h.place (omega (arith, h.reads.within)) (h.reads.is ∙ ap (λ (m : ℕ). refused bad_object (8 * m - h.place)) n);
    }

-- ---- a data object whose tag is n bytes and must be `tag`

module _ {A : Type 0} (n tag : ℕ) (value : Block A) {s : List ℕ} where
  pub tag_cut : length s < n → Reads (data_object (fixed bad_object (8 * n) tag) value).dec s 0 (fault bad_object 0)
  tag_cut h =
      let f = field_past bad_object s 0 (8 * n) (omega arith) (omega arith) in
      headed_stop (object_head (fixed bad_object (8 * n) tag)) value bad_object (stop (fixed bad_object (8 * n) tag) _ (made (only (field bad_object (8 * n)) bad_object (eqb tag)) _ (stays (field bad_object (8 * n)) bad_object (eqb tag) f)))

  pub tag_bad : {x q : ℕ} → Reads (field_dec bad_object (8 * n)) s 0 (found x q) → x ≢ tag → Reads (data_object (fixed bad_object (8 * n) tag) value).dec s 0 (fault bad_object 0)
  tag_bad h z = headed_stop (object_head (fixed bad_object (8 * n) tag)) value bad_object (stop (fixed bad_object (8 * n) tag) _ (fixed_bad bad_object (8 * n) h tag (omega arith) z))

-- ---- the template's bytes s

module _ {A : Type 0} (value : Block A) {s : List ℕ} where
  pub template_none : length s < 1 → Bad (template value).dec s
  template_none h = record { place = 0; reads = ahead_stop _ _ (tag_cut 1 0x90 value h) }

  pub template_tag : {x q : ℕ} → Reads (field_dec bad_object 8) s 0 (found x q) → x ≢ 0x90 → Bad (template value).dec s
  template_tag h z = record { place = 0; reads = ahead_stop _ _ (tag_bad 1 0x90 value h z) }

  module _ (tag : Reads (fixed bad_object 8 0x90).dec s 0 (found tt 8)) where
    pub template_cut : CutValue s 1 → Bad (template value).dec s
    template_cut h = let (q, r) = object_cut (fixed bad_object 8 0x90) value 1 tag h in record { place = q; reads = ahead_stop _ _ r }

    module _ {x : Part} (w : WholeValue s 1 x) where
      abbrev value_part : List ℕ
      value_part = part s x.from (x.to - x.from)

      pub template_bad : {e q : ℕ} → q ≤ 8 * (x.to - x.from) → value.dec (bits_of value_part) ≡ refused e (8 * (x.to - x.from) - q)
          → Reads (template value).dec s 0 (fault e (8 * x.from + q))
      template_bad l d = ahead_stop _ _ (headed_bad (object_head (fixed bad_object 8 0x90)) value bad_object (x.to - x.from) x.from (counted_is (fixed bad_object 8 0x90) value 1 tag _ x.from w.counted) (omega (arith, w.ordered, w.within)) l d)

      pub template_blocks : Bad value.dec value_part → Bad (template value).dec s
      template_blocks h = bad_inside s x w.ordered w.within (λ q l d. template_bad l d) h

      module _ {v : A} {u : Bits} (d : value.dec (bits_of value_part) ≡ got v u) where
        value_read : Reads (data_object (fixed bad_object 8 0x90) value).dec s 0 (found (tt, v) (8 * x.to))
        value_read = object_good (fixed bad_object 8 0x90) value 1 tag w d

        pub template_others : Bad others.dec (drop x.to s) → Bad (template value).dec s
        template_others h = record { place = 8 * x.to + h.place; reads = ahead_bad _ _ value_read (fault_behind others.dec s x.to w.within h.reads) }

        pub template_good : {xs : List Other} → others.dec (bits_of (drop x.to s)) ≡ got xs [] → (template value).dec (bits_of s) ≡ got ((tt, v), xs) []
        template_good h = ahead_good _ _ value_read (ap others.dec (sym (bits_drop x.to s)) ∙ h)

-- ---- the object's bytes s

module _ {A : Type 0} (value : Block A) {s : List ℕ} where
  pub object_none : length s < 2 → Bad (whole_object value).dec s
  object_none h = record { place = 0; reads = exact_bad _ bad_object (tag_cut 2 0x7F2E (template value) h) }

  pub object_tag : {x q : ℕ} → Reads (field_dec bad_object 16) s 0 (found x q) → x ≢ 0x7F2E → Bad (whole_object value).dec s
  object_tag h z = record { place = 0; reads = exact_bad _ bad_object (tag_bad 2 0x7F2E (template value) h z) }

  module _ (tag : Reads (fixed bad_object 16 0x7F2E).dec s 0 (found tt 16)) where
    pub whole_cut : CutValue s 2 → Bad (whole_object value).dec s
    whole_cut h = let (q, r) = object_cut (fixed bad_object 16 0x7F2E) (template value) 2 tag h in record { place = q; reads = exact_bad _ bad_object r }

    module _ {x : Part} (w : WholeValue s 2 x) where
      abbrev template_part : List ℕ
      template_part = part s x.from (x.to - x.from)

      pub whole_bad : {e q : ℕ} → q ≤ 8 * (x.to - x.from) → (template value).dec (bits_of template_part) ≡ refused e (8 * (x.to - x.from) - q)
          → Reads (whole_object value).dec s 0 (fault e (8 * x.from + q))
      whole_bad l d = exact_bad _ bad_object (headed_bad (object_head (fixed bad_object 16 0x7F2E)) (template value) bad_object (x.to - x.from) x.from (counted_is (fixed bad_object 16 0x7F2E) (template value) 2 tag _ x.from w.counted) (omega (arith, w.ordered, w.within)) l d)

      pub whole_template : Bad (template value).dec template_part → Bad (whole_object value).dec s
      whole_template h = bad_inside s x w.ordered w.within (λ q l d. whole_bad l d) h

      module _ {v : (Unit {0} × A) × List Other} {u : Bits} (d : (template value).dec (bits_of template_part) ≡ got v u) where
        template_read : Reads (data_object (fixed bad_object 16 0x7F2E) (template value)).dec s 0 (found (tt, v) (8 * x.to))
        template_read = object_good (fixed bad_object 16 0x7F2E) (template value) 2 tag w d

        pub whole_over : x.to < length s → Bad (whole_object value).dec s
        whole_over h = record { place = 8 * x.to; reads = exact_over _ bad_object template_read (omega arith) }

        pub whole_good : length s ≤ x.to → (whole_object value).dec (bits_of s) ≡ got (tt, v) []
        whole_good h = exact_good _ bad_object template_read (omega arith)
