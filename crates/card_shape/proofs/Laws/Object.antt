-- An object whose parts stand where the code found them, with any blocks for skeleton and index: what is read of it goes by what is read of
-- these two, and a refusal inside one of them has its place in the object.
use mathlib.Core.Path.{◌≡◌, sym, ap, ◌∙◌}
use Prim.Native.Nat.{ℕ, ◌+◌, ◌-◌, ◌*◌, ◌≤◌}
use native.Mathlib.Omega.{arith}
use mathlib.Core.List.{List, []}
use lib.ListN.{length}
use Rattle.bits.specs.Bits.{Bits}
use Rattle.bits.specs.Bytes.{bits_of}
use Rattle.bits.specs.Codec.{got, refused}
use Rattle.bits.specs.Block.{Block}
use Rattle.bits.specs.Reads.{fault, Reads}
use Rattle.bits.proofs.Laws.Reads.{known}
use Rattle.bits.proofs.Laws.Parts.{part, part_length, part_part}
use Rattle.bits.proofs.Laws.Nested.{recast_good, recast_bad}
use Rattle.card.specs.Object.{Other, any_bytes, value_block, template, whole_object, Card, make_card, card_block}
use Rattle.card.specs.Card.{shape}
use Rattle.card_shape.specs.Shape.{Bad, WholeValue, TemplateStands, ShapeStands}
use Rattle.card_shape.specs.declared.Value.{Value}
use Rattle.card_shape.proofs.Laws.Value.{any_bytes_lem, skeleton_part, index_part, stands_skeleton_bad, stands_index_bad, stands_good}
use Rattle.card_shape.proofs.Laws.Template.{template_bad, template_good, whole_bad, whole_good}

-- an object that is refused as a whole has no right shape
pub shape_bad : {o : List ℕ} → Bad (whole_object (value_block any_bytes (λ _. any_bytes))).dec o → Bad shape.dec o
unfolding shape
shape_bad h = record { place = h.place; reads = recast_bad _ make_card h.reads }

-- a template that stands is read, whatever bytes its blocks have
pub template_got : {m : List ℕ} {y : Value} → TemplateStands m y → (v : (Unit {0} × ((ℕ × ℕ) × (List ℕ × List ℕ))) × List Other) × ((template (value_block any_bytes (λ _. any_bytes))).dec (bits_of m) ≡ got v [])
template_got t =
    let b = t.blocks in
    let s = any_bytes_lem (skeleton_part any_bytes (λ _. any_bytes) b) in
    let i = any_bytes_lem (index_part any_bytes (λ _. any_bytes) b) in
    (_, template_good (value_block any_bytes (λ _. any_bytes)) t.tag t.value (stands_good any_bytes (λ _. any_bytes) b s.1 i.1) t.others)

-- ---- the parts of the object o, in its own bytes

module _ {o : List ℕ} {x : Value} (h : ShapeStands o x) where
  abbrev inside : Value
  inside = h.y

  abbrev template_bytes : List ℕ
  template_bytes = part o h.a (length o - h.a)

  abbrev T : TemplateStands template_bytes inside
  T = h.template

  abbrev value_bytes : List ℕ
  value_bytes = part template_bytes inside.from (inside.to - inside.from)

  template_long : length template_bytes ≡ length o - h.a
  template_long = part_length o h.a (length o - h.a) (omega (arith, h.within))

  pub value_within : x.to ≤ length o
  value_within = omega (arith, T.value.within, template_long, h.to, h.within)

  pub value_is_lem : value_bytes ≡ part o x.from (x.to - x.from)
  value_is_lem =
      let n : inside.to - inside.from ≡ x.to - x.from = omega (arith, h.from, h.to) in
      part_part o h.a (length o - h.a) inside.from (inside.to - inside.from) (omega (arith, h.within)) (omega (arith, T.value.within, T.value.ordered, template_long))
      ∙ ap (λ (k : ℕ). part o k (inside.to - inside.from)) (sym h.from) ∙ ap (part o x.from) n

  value_long : length value_bytes ≡ inside.to - inside.from
  value_long = part_length template_bytes inside.from (inside.to - inside.from) (omega (arith, T.value.within, T.value.ordered))

  abbrev k : ℕ
  k = inside.index - inside.from

  -- the blocks
  abbrev pub skeleton_of : List ℕ
  skeleton_of = part o (x.from + 6) (x.index - (x.from + 6))

  abbrev pub index_of : List ℕ
  index_of = part o (x.index + 2) (x.to - (x.index + 2))

  pub skeleton_before : x.from + 6 ≤ x.index
  skeleton_before = omega (arith, T.blocks.low, T.low, h.from, h.index)

  pub index_before : x.index + 2 ≤ x.to
  index_before = omega (arith, T.blocks.within, T.low, value_long, T.value.ordered, h.index, h.to)

  skeleton_is : part value_bytes 6 (k - 6) ≡ skeleton_of
  skeleton_is =
      let n : k - 6 ≡ x.index - (x.from + 6) = omega (arith, T.low, h.from, h.index) in
      ap (λ (v : List ℕ). part v 6 (k - 6)) value_is_lem
      ∙ part_part o x.from (x.to - x.from) 6 (k - 6) (omega (arith, value_within, skeleton_before, index_before)) (omega (arith, skeleton_before, index_before, T.low, h.from, h.index))
      ∙ ap (part o (x.from + 6)) n

  index_is : part value_bytes (k + 2) (length value_bytes - (k + 2)) ≡ index_of
  index_is =
      let a : x.from + (k + 2) ≡ x.index + 2 = omega (arith, T.low, h.from, h.index) in
      let n : length value_bytes - (k + 2) ≡ x.to - (x.index + 2) = omega (arith, value_long, T.low, h.from, h.index, h.to) in
      ap (λ (v : List ℕ). part v (k + 2) (length value_bytes - (k + 2))) value_is_lem
      ∙ part_part o x.from (x.to - x.from) (k + 2) (length value_bytes - (k + 2)) (omega (arith, value_within, skeleton_before, index_before)) (omega (arith, value_long, T.blocks.within, h.from, h.to))
      ∙ ap (λ (b : ℕ). part o b (length value_bytes - (k + 2))) a ∙ ap (part o (x.index + 2)) n

  template_whole : WholeValue o 2 (record { from = h.a; to = length o })
  template_whole = record { counted = h.counted; ordered = h.within; within = omega arith }

  -- the card, with what its blocks are read as
  abbrev pub card_at : {A B : Type 0} → A → B → Card A B
  card_at a b = record { width = T.blocks.width; height = T.blocks.height; skeleton = a; index = b; behind = T.behind }

-- ---- what is read of it, with the skeleton block s and the index block i

module _ {A B : Type 0} (s : Block A) (i : A → Block B) {o : List ℕ} {x : Value} (h : ShapeStands o x) where
  -- a refusal inside the value
  value_bad : {e q : ℕ} → Reads (value_block s i).dec (value_bytes h) 0 (fault e q) → Reads (card_block s i).dec o 0 (fault e (8 * x.from + q))
  value_bad {e} {q} r =
      let n = (inside h).to - (inside h).from in
      let l : q ≤ 8 * n = omega (arith, r.within, value_long h) in
      let d : (value_block s i).dec (bits_of (value_bytes h)) ≡ refused e (8 * n - q) = r.is ∙ ap (λ (m : ℕ). refused e (8 * m - q)) (value_long h) in
      let t = template_bad (value_block s i) (T h).tag (T h).value l d in
      let y : ℕ = 8 * (inside h).from + q in
      let z = whole_bad (value_block s i) h.tag (template_whole h) (omega (arith, t.within, template_long h)) (t.is ∙ ap (λ (m : ℕ). refused e (8 * m - y)) (template_long h)) in
      recast_bad _ make_card (known (ap (fault e) (omega (arith, h.from))) z)

  pub card_skeleton_bad : {e q : ℕ} → q ≤ 8 * (x.index - (x.from + 6)) → s.dec (bits_of (skeleton_of h)) ≡ refused e (8 * (x.index - (x.from + 6)) - q)
      → Reads (card_block s i).dec o 0 (fault e (8 * (x.from + 6) + q))
  card_skeleton_bad {e} {q} l d =
      let n : k h - 6 ≡ x.index - (x.from + 6) = omega (arith, (T h).low, h.from, h.index) in
      let r = stands_skeleton_bad s i (T h).blocks {q = q} (omega arith) (ap (λ (b : List ℕ). s.dec (bits_of b)) (skeleton_is h) ∙ d ∙ ap (λ (m : ℕ). refused e (8 * m - q)) (sym n)) in
      known (ap (fault e) (omega arith)) (value_bad r)

  module _ {a : A} {u : Bits} (S : s.dec (bits_of (skeleton_of h)) ≡ got a u) where
    lines : s.dec (bits_of (part (value_bytes h) 6 (k h - 6))) ≡ got a u
    lines = ap (λ (b : List ℕ). s.dec (bits_of b)) (skeleton_is h) ∙ S

    pub card_index_bad : {e q : ℕ} → q ≤ 8 * (x.to - (x.index + 2)) → (i a).dec (bits_of (index_of h)) ≡ refused e (8 * (x.to - (x.index + 2)) - q)
        → Reads (card_block s i).dec o 0 (fault e (8 * (x.index + 2) + q))
    card_index_bad {e} {q} l d =
        let n : length (value_bytes h) - (k h + 2) ≡ x.to - (x.index + 2) = omega (arith, value_long h, (T h).low, h.from, h.index, h.to) in
        let r = stands_index_bad s i (T h).blocks lines {q = q} (omega arith) (ap (λ (b : List ℕ). (i a).dec (bits_of b)) (index_is h) ∙ d ∙ ap (λ (m : ℕ). refused e (8 * m - q)) (sym n)) in
        known (ap (fault e) (omega (arith, (T h).low, h.from, h.index))) (value_bad r)

    -- the value by itself
    pub value_good : {b : B} {t : Bits} → (i a).dec (bits_of (index_of h)) ≡ got b t
        → (value_block s i).dec (bits_of (part o x.from (x.to - x.from))) ≡ got (((T h).blocks.width, (T h).blocks.height), (a, b)) []
    value_good I =
        ap (λ (y : List ℕ). (value_block s i).dec (bits_of y)) (sym (value_is_lem h)) ∙ stands_good s i (T h).blocks lines (ap (λ (y : List ℕ). (i a).dec (bits_of y)) (index_is h) ∙ I)

    pub card_good : {b : B} {t : Bits} → (i a).dec (bits_of (index_of h)) ≡ got b t
        → (card_block s i).dec (bits_of o) ≡ got (card_at h a b) []
    card_good I =
        recast_good _ make_card (whole_good (value_block s i) h.tag (template_whole h)
        (template_good (value_block s i) (T h).tag (T h).value (stands_good s i (T h).blocks lines (ap (λ (y : List ℕ). (i a).dec (bits_of y)) (index_is h) ∙ I)) (T h).others) (omega arith))

-- ---- its shape

pub shape_good : {o : List ℕ} {x : Value} → ShapeStands o x → (c : Card (List ℕ) (List ℕ)) × (shape.dec (bits_of o) ≡ got c [])
unfolding shape
shape_good h = (_, card_good any_bytes (λ _. any_bytes) h (any_bytes_lem (skeleton_of h)).1 (any_bytes_lem (index_of h)).1)
