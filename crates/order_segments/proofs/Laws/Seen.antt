-- A test of every segment, seen one by one: all pass it if those still to come do. The two tests are that of the types, and that of
-- pores.
use mathlib.Core.Path.{◌≡◌, refl, sym, ap, ◌∙◌}
use mathlib.Core.Logic.{◌≢◌}
use Prim.Native.Nat.{ℕ, ◌+◌, ◌-◌, ◌*◌, ◌≤◌, ◌<◌}
use native.Mathlib.Omega.{arith}
use mathlib.Core.Bool.{Bool, true, false, ◌&&◌, ◌||◌}
use mathlib.Core.Option.{Option}
use Rattle.std.specs.Prelude as std
use Rattle.std.specs.Prelude.{Some, None, is_some}
use mathlib.Core.List.{List, [], ◌∷◌}
use lib.ListN.{length, get_or}
use lib.Dec.{eqb}
use Rattle.bits.specs.Choice.{pick, some?}
use Rattle.bits.specs.ChoiceLaws.{eqb_true, eqb_false, eq_split}
use Rattle.bits.specs.Lists.{All, every}
use Rattle.bits.specs.Bytes.{Byte}
use Rattle.bits.specs.OfBlock.{OfBlock}
use Rattle.format.specs.Segments.{Segment, segments, local_quality, sweat_pores}
use Rattle.find_parts.specs.Finds.{segment_stored}
use Rattle.bits.proofs.Laws.Parts.{part}
use Rattle.pores_parts.specs.Parts.{Pores}
use Rattle.pores.specs.Payload.{pores_in}
use Rattle.pores.specs.Keep.{pores_right}
use Rattle.pores_judge.specs.Judged.{PayloadJudged}
use Rattle.pores_judge.specs.declared.JudgedPayload.{JudgedPayload}
use Rattle.orders.specs.Order.{carried}
use Rattle.order_segments.specs.Walk.{segments_in}
use Rattle.order_segments.proofs.Laws.Over.{stored_kind, stored_payload, OverAll, over_first, segment_here, over_next, over_done}

abbrev pub Seen : (Segment → Bool) → List Segment → List Segment → Type 0
Seen t gs more = every t gs ≡ every t more

-- the test of a segment with the bytes p
abbrev pub Passes : (Segment → Bool) → List ℕ → Bool → Type 0
Passes t p b = (g : Segment) → p ≡ segment_stored g → t g ≡ b

module _ (t : Segment → Bool) where
  pub seeing_first : (s : List ℕ) → All Byte s → OverAll (Seen t) s (segments_in s)
  seeing_first s bytes = over_first (Seen t) s bytes (λ gs u h. refl)

  module _ {s : List ℕ} {ps : List (List ℕ)} (S : OverAll (Seen t) s ps) where
    module _ {p : List ℕ} {qs : List (List ℕ)} (e : ps ≡ p ∷ qs) where
      pub seeing_fails : Passes t p false → OfBlock segments s (λ gs. false ≡ every t gs)
      seeing_fails f =
          record {
            is = λ gs u h.
                let x = segment_here (Seen t) S e gs u h in sym (x.rest ∙ ap (λ (b : Bool). b && every t x.more) (f x.value x.is));
          }

      pub seeing_next : Passes t p true → OverAll (Seen t) s qs
      seeing_next f =
          over_next (Seen t) S e (Seen t) λ gs u h.
          let x = segment_here (Seen t) S e gs u h in
          x.rest ∙ ap (λ (b : Bool). b && every t x.more) (f x.value x.is)

    pub seeing_done : ps ≡ [] → OfBlock segments s (λ gs. true ≡ every t gs)
    seeing_done e = record { is = λ gs u h. sym (over_done (Seen t) S e gs u h) }

-- ---- the types

low_type : (k : ℕ) → k < local_quality → (eqb k local_quality || eqb k sweat_pores) ≡ false
low_type k l = rw (eqb_false k local_quality (λ z. omega arith), eqb_false k sweat_pores (λ z. omega arith))

high_type : (k : ℕ) → sweat_pores < k → (eqb k local_quality || eqb k sweat_pores) ≡ false
high_type k l = rw (eqb_false k local_quality (λ z. omega arith), eqb_false k sweat_pores (λ z. omega arith))

two_types : (k : ℕ) → local_quality ≤ k → k ≤ sweat_pores → (eqb k local_quality || eqb k sweat_pores) ≡ true
two_types k l m =
    eq_split k local_quality (λ e. rw (eqb_true k local_quality e))
    (λ d. let e : k ≡ sweat_pores = omega arith in rw (eqb_false k local_quality d, eqb_true k sweat_pores e))

module _ {p : List ℕ} {k : ℕ} (e : k ≡ get_or p 0 0 * 256 + get_or p (0 + 1) 0) (g : Segment) (is : p ≡ segment_stored g) where
  kind_is : k ≡ g.kind
  kind_is = e ∙ stored_kind g is

  pub low_fails : k < local_quality → carried g ≡ false
  low_fails j = ap (λ (x : ℕ). eqb x local_quality || eqb x sweat_pores) (sym kind_is) ∙ low_type k j

  pub high_fails : sweat_pores < k → carried g ≡ false
  high_fails j = ap (λ (x : ℕ). eqb x local_quality || eqb x sweat_pores) (sym kind_is) ∙ high_type k j

  pub type_passes : local_quality ≤ k → k ≤ sweat_pores → carried g ≡ true
  type_passes i j = ap (λ (x : ℕ). eqb x local_quality || eqb x sweat_pores) (sym kind_is) ∙ two_types k i j

  -- ---- pores, in a view of so many lines

  pub other_passes : (lines : ℕ) → k ≢ sweat_pores → pores_right lines g ≡ true
  other_passes lines d =
      ap (λ (b : Bool). pick b (some? (pores_in lines g.payload)) true) (eqb_false g.kind sweat_pores (λ z. d (kind_is ∙ z)))

  pub pores_tested : (lines : ℕ) → k ≡ sweat_pores → {b : Bool} → some? (pores_in lines (part p 4 (length p - 4))) ≡ b → pores_right lines g ≡ b
  pores_tested lines z y =
      ap (λ (b : Bool). pick b (some? (pores_in lines g.payload)) true) (eqb_true g.kind sweat_pores (sym kind_is ∙ z))
      ∙ ap (λ (x : List ℕ). some? (pores_in lines x)) (sym (stored_payload g is)) ∙ y

-- what the judge says of a payload is the test of it
pub judged : (lines : ℕ) (p : List ℕ) (r : std.Option JudgedPayload) {b : Bool} → PayloadJudged lines p r → is_some r ≡ b → some? (pores_in lines p) ≡ b
judged lines p (Some j) R e = ap (λ (o : Option Pores). some? o) R.says ∙ e
judged lines p None B e = ap (λ (o : Option Pores). some? o) B ∙ e
