-- One segment under a removal: its type and its payload as code has them, and what it becomes.
use mathlib.Core.Path.{◌≡◌, refl, sym, ap, ap₂, ◌∙◌, subst}
use mathlib.Core.Logic.{◌≢◌}
use Prim.Native.Nat.{ℕ, ◌+◌, ◌-◌, ◌*◌, ◌≤◌, ◌<◌}
use native.Mathlib.Omega.{arith}
use mathlib.Core.Bool.{Bool, true, false}
use mathlib.Core.Option.{Option, none, some}
use mathlib.Core.List.{List, ◌++◌}
use lib.ListN.{length, take, get_or}
use lib.Dec.{T}
use Rattle.bits.specs.Choice.{pick, some?}
use Rattle.bits.specs.ChoiceLaws.{eqb_true, eqb_false}
use Rattle.bits.proofs.Laws.Parts.{part}
use Rattle.put_bytes.specs.Laid.{Laid}
use Rattle.put_bytes.specs.HighFirst.{two}
use Rattle.put_bytes.proofs.Laws.{lent, back, laid_same, laid_between}
use Rattle.format.specs.Segments.{Segment, sweat_pores, is_pores}
use Rattle.find_parts.specs.Finds.{segment_stored}
use Rattle.pores_parts.specs.Parts.{Pores}
use Rattle.pores.specs.Payload.{pores_in}
use Rattle.pores.specs.Keep.{pores_right}
use Rattle.pores.proofs.Laws.Keep.{kept_other, kept_pores}
use Rattle.orders.proofs.Laws.Pores.{kept_fits}
use Rattle.orders.specs.Survive.{survivors}
use Rattle.orders.specs.Listed.{removal_lines}
pub use Rattle.order_segments.proofs.Laws.Over.{stored_long}
use Rattle.order_segments.proofs.Laws.Over.{stored_kind, stored_payload}
use Rattle.order_pores.specs.Kept.{kept_payload, PoresToKeep, PoresSized, PoresPutThere, PoresPut}
use Rattle.order_extended.specs.Segment.{kept_segment, SegmentToKeep, SegmentSized, SegmentPutThere, SegmentPut}

-- ---- a segment's bytes

-- behind the type and the length
abbrev pub rest : List ℕ → List ℕ
rest s = part s 4 (length s - 4)

stored_type : (g : Segment) {s : List ℕ} → s ≡ segment_stored g → part s 0 (2 - 0) ≡ two g.kind
stored_type g e = ap (take 2) e

-- ---- its type

module _ {s : List ℕ} {k : ℕ} (e : k ≡ get_or s 0 0 * 256 + get_or s (0 + 1) 0) (g : Segment) (is : s ≡ segment_stored g) where
  of_pores : k ≡ sweat_pores → is_pores g ≡ true
  of_pores z = eqb_true g.kind sweat_pores (sym (e ∙ stored_kind g is) ∙ z)

  of_others : k ≢ sweat_pores → is_pores g ≡ false
  of_others d = eqb_false g.kind sweat_pores (λ z. d (e ∙ stored_kind g is ∙ z))

-- one of pores that is right says some
right_says : {X : Type 0} (lines : ℕ) (g : Segment) → is_pores g ≡ true → T (pores_right lines g) → ((p : Pores) → pores_in lines g.payload ≡ some p → X) → X
right_says {X} lines g e t k = go (pores_in lines g.payload) refl (subst (λ (b : Bool). T (pick b (some? (pores_in lines g.payload)) true)) e t)
  where
    go : (o : Option Pores) → pores_in lines g.payload ≡ o → T (some? o) → X
    go none h u = absurd u
    go (some p) h u = k p h

-- ---- what the code does with it

module _ (s : List ℕ) (lines : ℕ) (removal : List ℕ) {k : ℕ} (e : k ≡ get_or s 0 0 * 256 + get_or s (0 + 1) 0) where
  pub size_other : k ≢ sweat_pores → SegmentSized s lines removal (length s)
  size_other d = record { is = λ g is f t. ap length is ∙ sym (ap (λ (x : Segment). length (segment_stored x)) (kept_other lines (survivors lines (removal_lines removal)) g (of_others e g is d))) }

  pub put_other : k ≢ sweat_pores → {before after : List ℕ} {r : ℕ} → Laid s before after r → SegmentPut s lines removal before after r
  put_other d {before} {after} {r} L =
      record {
        is = λ g is f t.
            subst (λ (xs : List ℕ). Laid xs before after r) (is ∙ sym (ap segment_stored (kept_other lines (survivors lines (removal_lines removal)) g (of_others e g is d)))) L;
      }

  module _ (z : k ≡ sweat_pores) where
    -- its payload is asked for what it says
    pub to_keep : SegmentToKeep s lines removal → PoresToKeep (rest s) lines removal
    to_keep t =
        right_says lines t.value (of_pores e t.value t.is z) t.right λ p h.
        record {
          short = omega (arith, ap length (stored_payload t.value t.is), t.fits.length);
          few = t.few;
          rising = t.rising;
          value = p;
          says = ap (pores_in lines) (stored_payload t.value t.is) ∙ h;
        }

    kept_is : (g : Segment) → s ≡ segment_stored g → (p : Pores) → pores_in lines g.payload ≡ some p
        → kept_segment lines removal g ≡ record { kind = sweat_pores; payload = kept_payload lines removal p }
    kept_is g is p h = kept_pores lines (survivors lines (removal_lines removal)) g (of_pores e g is z) p h

    pub size_pores : {n : ℕ} → PoresSized (rest s) lines removal n → SegmentSized s lines removal (4 + n)
    size_pores {n} S =
        record {
          is = λ g is f t.
              right_says lines g (of_pores e g is z) t λ p h.
              omega (
                arith,
                S.is p (ap (pores_in lines) (stored_payload g is) ∙ h),
                ap (λ (x : Segment). length (segment_stored x)) (kept_is g is p h),
                stored_long (record { kind = sweat_pores; payload = kept_payload lines removal p }),
              );
        }

    -- there is room for its payload
    pub put_there : {out x : List ℕ} → (t : SegmentPutThere s lines removal out) → length out ≤ 4 + length x → PoresPutThere (rest s) lines removal x
    put_there t l =
        let q = t.there in
        right_says lines q.value (of_pores e q.value q.is z) q.right λ p h.
        record {
          there = record {
            short = omega (arith, ap length (stored_payload q.value q.is), q.fits.length);
            few = q.few;
            rising = q.rising;
            value = p;
            says = ap (pores_in lines) (stored_payload q.value q.is) ∙ h;
          };
          room = omega (
            arith,
            t.room,
            l,
            ap (λ (g : Segment). length (segment_stored g)) (kept_is q.value q.is p h),
            stored_long (record { kind = sweat_pores; payload = kept_payload lines removal p }),
          );
        }

    -- what is kept is no longer than it was
    kept_small : (t : SegmentToKeep s lines removal) (n : ℕ) → ((p : Pores) → pores_in lines (rest s) ≡ some p → n ≡ length (kept_payload lines removal p)) → 4 + n < 65536
    kept_small t n f =
        right_says lines t.value (of_pores e t.value t.is z) t.right λ p h.
        omega (
          arith,
          f p (ap (pores_in lines) (stored_payload t.value t.is) ∙ h),
          (kept_fits lines (removal_lines removal) t.value t.fits).1,
          ap (λ (x : Segment). length x.payload) (kept_is t.value t.is p h),
          t.fits.length,
        )

    pub size_short : {n : ℕ} → SegmentToKeep s lines removal → PoresSized (rest s) lines removal n → 4 + n < 65536
    size_short {n} t S = kept_small t n (λ p h. S.is p h)

    pub put_short : {before after : List ℕ} {n : ℕ} → SegmentToKeep s lines removal → PoresPut (rest s) lines removal before after n → 4 + n < 65536
    put_short {n = n} t P = kept_small t n (λ p h. (P.is p h).count)

    -- type, payload, and then the length between them
    pub put_pores : {d x1 x2 x3 : List ℕ} {a n m : ℕ} → 4 ≤ length d → Laid (part s 0 (2 - 0)) d x1 a → PoresPut (rest s) lines removal (lent x1 4) x2 n
        → Laid (two (4 + n)) (lent (back x1 4 x2) a) x3 m → SegmentPut s lines removal d (back (back x1 4 x2) a x3) (4 + n)
    put_pores {d} {x1} {x2} {x3} {a} {n} l K P L =
        record {
          is = λ g is f t.
              right_says lines g (of_pores e g is z) t λ p h.
              let y = P.is p (ap (pores_in lines) (stored_payload g is) ∙ h) in
              let i : length (part s 0 (2 - 0)) ≡ 2 = ap length (stored_type g is) in
              let all = laid_between (two (4 + n)) K (omega (arith, K.count, i)) l y L in
              let k : g.kind ≡ sweat_pores = sym (stored_kind g is) ∙ sym e ∙ z in
              let same : part s 0 (2 - 0) ++ (two (4 + n) ++ kept_payload lines removal p) ≡ segment_stored (kept_segment lines removal g) =
              ap₂ (λ (c : List ℕ) (j : ℕ). c ++ (two (4 + j) ++ kept_payload lines removal p)) (stored_type g is ∙ ap two k) y.count ∙ sym (ap segment_stored (kept_is g is p h)) in
              subst (λ (xs : List ℕ). Laid xs d (back (back x1 4 x2) a x3) (4 + n)) same all;
        }

-- ---- room

module _ {s : List ℕ} {lines : ℕ} {removal out : List ℕ} (t : SegmentPutThere s lines removal out) where
  pub four_there : (4 ≤ length out) × (4 ≤ length s)
  four_there =
      (omega (arith, t.room, stored_long (kept_segment lines removal t.there.value)), omega (arith, ap length t.there.is, stored_long t.there.value))

  pub fits_other : {k : ℕ} → k ≡ get_or s 0 0 * 256 + get_or s (0 + 1) 0 → k ≢ sweat_pores → length s ≤ length out
  fits_other e d = omega (arith, t.room, (size_other s lines removal e d).is t.there.value t.there.is t.there.fits t.there.right)

  -- the buffer keeps its length
  pub put_same : {after : List ℕ} {r : ℕ} → SegmentPut s lines removal out after r → length after ≡ length out
  put_same P =
      let L = P.is t.there.value t.there.is t.there.fits t.there.right in
      laid_same L (omega (arith, L.count, t.room))
