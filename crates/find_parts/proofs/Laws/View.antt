-- A view that was read, taken apart: its first eight bytes are its header's, and its three blocks stand behind them, each behind its
-- length.
use mathlib.Core.Path.{◌≡◌, sym, ap, ◌∙◌, subst}
use Prim.Native.Nat.{ℕ, ◌+◌, ◌*◌, ◌≤◌}
use native.Mathlib.Omega.{arith}
use mathlib.Core.List.{List}
use lib.ListN.{length, drop, length-append}
use lib.Dec.{leb, eqb, leb→le}
use Rattle.bits.specs.ChoiceLaws.{pick_split}
use Rattle.bits.specs.Bits.{Bits}
use Rattle.bits.specs.BitsLaws.{length_bits}
use Rattle.bits.specs.Bytes.{bits_of}
use Rattle.bits.specs.Codec.{got}
use Rattle.bits.specs.Block.{sized_dec}
use Rattle.bits.specs.SizedLaws.{prefixed}
use Rattle.bits.specs.Reads.{found, Reads}
use Rattle.bits.proofs.Laws.Reads.{length_rest}
use Rattle.bits.proofs.Laws.Apart.{then_got, via_got, room_got, place_is, moved}
use Rattle.outcome.specs.Refusals.{past, bad_view}
use Rattle.format.specs.Line.{Line, skeleton}
use Rattle.format.specs.Index.{index_block}
use Rattle.format.specs.Segments.{segments}
use Rattle.format.specs.View.{View, occurs, head_fields, view_header, view}
use Rattle.format.specs.declared.Widths.{Widths}
use Rattle.format.specs.declared.ViewHeader.{ViewHeader}
use Rattle.find_parts.specs.Stands.{ViewAt}
use Rattle.find_parts.proofs.Laws.Prefixed.{BlockGot, length_got, prefixed_got, headed_got}

-- the view at byte a: its header, and the skeleton block behind it; rest is what follows
record HeadGot (w : Widths) (earlier : ℕ → ℕ) (s : List ℕ) (a : ℕ) (h : ViewHeader) (ls : List Line) (rest : Bits) : Type 0 where
  pub left : Bits
  pub head : (head_fields bad_view earlier).dec (drop (8 * a) (bits_of s)) ≡ got h left
  pub lines : BlockGot (skeleton w) s (a + 8) ls rest

module _ (w : Widths) (earlier : ℕ → ℕ) {s : List ℕ} {a : ℕ} {h : ViewHeader} {ls : List Line} {r : Bits} where
  head_got : {n : ℕ} {t : Bits} → (view_header earlier).dec (drop (8 * a) (bits_of s)) ≡ got (h, n) t → sized_dec (skeleton w) past n t ≡ got ls r
      → HeadGot w earlier s a h ls r
  unfolding view_header
  head_got d k =
      let (l, d1) = room_got _ past 80 d in
      let i : a + 10 ≤ length s = omega (arith, length_rest s (8 * a)) in
      then_got _ _ d1 λ u d2 d3.
      let z : 8 * a + 64 ≡ 8 * (a + 8) = omega arith in
      let e = (moved (head_fields bad_view earlier) {s = s} {p = 8 * a} 64 (omega arith) d2 (λ _. simp (length-append, length_bits))).1 ∙ ap (λ (p : ℕ). drop p (bits_of s)) z in
      record { left = u; head = d2; lines = length_got (skeleton w) (omega arith) (rw (← e) d3) k }

pub view_apart : (w : Widths) (seen : List ℕ) {s : List ℕ} {a : ℕ} {v : View} {q : ℕ} → Reads (view w seen).dec s (8 * a) (found v q)
    → ((at : ViewAt w s a v) × (q ≡ 8 * at.behind))
unfolding view
view_apart w seen {s} {a} {v} {q} h =
    via_got _ _ h.is λ t d e.
    then_got _ _ d λ r1 d1 d2.
    then_got _ _ d2 λ r2 d3 d4.
    headed_got (view_header (λ p. occurs p seen)) (skeleton w) past d1 λ n u d5 d6.
    let H = head_got w (λ p. occurs p seen) {s = s} {a = a} d5 d6 in
    let L = H.lines in
    let I = prefixed_got (index_block (length t.0.1)) {s = s} {b = L.behind} L.block.within (ap (prefixed (index_block (length t.0.1)) past).dec (sym L.follows) ∙ d3) in
    let G = prefixed_got segments {s = s} {b = I.behind} I.block.within (ap (prefixed segments past).dec (sym I.follows) ∙ d4) in
    subst (λ (x : View). (at : ViewAt w s a x) × (q ≡ 8 * at.behind)) e (
      record {
        earlier = λ p. occurs p seen;
        rest = H.left;
        head = H.head;
        behind = G.behind;
        blocks = record { i = L.behind; j = I.behind; lines = L.block; index = I.block; segments = G.block };
      },
      place_is s q (8 * G.behind) h.within (omega (arith, G.block.within)) G.follows,
    )

-- its finger position is one of the eleven
pub position_few : {w : Widths} {s : List ℕ} {a : ℕ} {v : View} → ViewAt w s a v → v.head.position ≤ 10
position_few {s = s} {a = a} {v = v} x =
    let h : ViewHeader = v.head in
    let f = ((head_fields bad_view x.earlier).back (drop (8 * a) (bits_of s)) h x.rest x.head).0 in
    pick_split (eqb h.number (x.earlier h.position)) _ _ f.right
    (λ t k. pick_split (leb h.position 10) _ _ k (λ u _. leb→le h.position 10 u) (λ u q. let z : ◌≡◌ {A = ℕ} 0 1 = cc in absurd (omega arith)))
    (λ t q. let z : ◌≡◌ {A = ℕ} 0 1 = cc in absurd (omega arith))
