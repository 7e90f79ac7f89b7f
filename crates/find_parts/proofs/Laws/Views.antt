-- The views of a record s, one by one: which are still to be read, and the next of them.
use mathlib.Core.Path.{◌≡◌, refl, sym, ap, ◌∙◌}
use Prim.Native.Nat.{ℕ, suc, ◌+◌, ◌-◌, ◌*◌, ◌/◌, ◌≤◌, ◌<◌}
use native.Mathlib.Omega.{arith}
use mathlib.Core.List.{List, [], ◌∷◌}
use lib.ListN.{length, drop}
use Rattle.bits.specs.ListsLaws.{first_left, total_more}
use Rattle.bits.specs.Bytes.{bits_of}
use Rattle.bits.specs.Codec.{got, along_dec}
use Rattle.bits.specs.CodecLaws.{next_got}
use Rattle.bits.specs.Reads.{found, Reads}
use Rattle.bits.proofs.Laws.Reads.{up_to}
use Rattle.bits.proofs.Laws.Apart.{moved}
use Rattle.format.specs.View.{View, view}
use Rattle.format.specs.Record.{Record, tell_seen, read}
use Rattle.format.specs.Places.{no_view_there, view_at, bits_before}
use Rattle.format.specs.declared.Widths.{Widths}
use Rattle.format.proofs.Laws.Size.{view_bytes_lem, view_length}
use Rattle.find_parts.specs.Stands.{ViewIn}
use Rattle.find_parts.specs.Finds.{BlocksFound}
use Rattle.find_parts.specs.declared.view.Blocks.{Blocks}
use Rattle.find_parts.proofs.Laws.View.{view_apart}
use Rattle.find_parts.proofs.Laws.Record.{record_apart}

-- of so many views, i are passed; those from byte p on are vs
pub record ViewsLeft (w : Widths) (count : ℕ) (s : List ℕ) (i p : ℕ) (vs : List View) : Type 0 where
  pub seen : List ℕ
  pub reads : along_dec (view w) tell_seen (count - i) seen (drop (8 * p) (bits_of s)) ≡ got vs []
  pub within : p ≤ length s

pub views_first : (s : List ℕ) {r : Record} → read s ≡ got r [] → ViewsLeft r.head.scale.widths (length r.views) s 0 24 r.views
views_first s {r} h =
    let a = record_apart s h in
    let z : length r.views - 0 ≡ length r.views = omega arith in
    record { seen = []; reads = rw z a.views; within = a.low }

-- they are a view at byte p, and others behind it
pub record ViewNext (w : Widths) (count : ℕ) (s : List ℕ) (i p : ℕ) (vs : List View) : Type 0 where
  pub value : View
  pub behind : ℕ
  pub others : List View
  pub seen : List ℕ
  pub reads : Reads (view w seen).dec s (8 * p) (found value (8 * behind))
  pub is : vs ≡ value ∷ others
  pub further : ViewsLeft w count s (i + 1) behind others
  pub long : 8 * behind ≡ 8 * p + length ((view w []).enc value)

module _ {w : Widths} {count : ℕ} {s : List ℕ} {i p : ℕ} {vs : List View} (h : ViewsLeft w count s i p vs) where
  pub view_next : i < count → ViewNext w count s i p vs
  view_next l =
      let z : count - i ≡ suc (count - (i + 1)) = omega arith in
      next_got ((view w h.seen).dec (drop (8 * p) (bits_of s))) _ (rw z at h.reads) λ v r e h1.
      next_got (along_dec (view w) tell_seen (count - (i + 1)) (tell_seen h.seen v) r) _ h1 λ vs u e2 h2.
      let n : ℕ = length ((view w h.seen).enc v) in
      let (f, g) = moved (view w h.seen) {s = s} {p = 8 * p} n (omega (arith, h.within)) e (λ _. refl) in
      let y : 8 * p + n ≡ 8 * (p + n / 8) = omega (arith, view_bytes_lem w h.seen v) in
      let b : u ≡ [] = cc in
      let k = up_to y f in
      record {
        value = v;
        behind = p + n / 8;
        others = vs;
        seen = h.seen;
        reads = k;
        is = sym (cc);
        further = record {
          seen = tell_seen h.seen v;
          reads = ap (along_dec (view w) tell_seen (count - (i + 1)) (tell_seen h.seen v)) (sym (g ∙ ap (λ (q : ℕ). drop q (bits_of s)) y)) ∙ e2 ∙ ap (got vs) b;
          within = omega (arith, k.within);
        };
        long = omega (arith, y, view_length w h.seen v, view_length w [] v);
      }

  pub views_none : count ≤ i → vs ≡ []
  views_none l = let z : count - i ≡ 0 = omega arith in let n = rw z at h.reads in cc

-- ---- the view of a place: n are passed, and the next starts at byte p

pub record Sought (r : Record) (s : List ℕ) (n p : ℕ) : Type 0 where
  pub left : ViewsLeft r.head.scale.widths (length r.views) s n p (drop n r.views)
  pub before : 8 * p ≡ bits_before r n

pub sought_first : (s : List ℕ) {r : Record} → read s ≡ got r [] → Sought r s 0 24
sought_first s h = record { left = views_first s h; before = refl }

module _ {r : Record} {s : List ℕ} {n p : ℕ} (h : Sought r s n p) (l : n < length r.views) where
  abbrev pub sought_next : ViewNext r.head.scale.widths (length r.views) s n p (drop n r.views)
  sought_next = view_next h.left l

  sought_is : (n < length r.views) × (sought_next.value ≡ view_at r n) × (sought_next.others ≡ drop (n + 1) r.views)
  sought_is = first_left r.views n no_view_there sought_next.is

  pub sought_reads : Reads (view r.head.scale.widths sought_next.seen).dec s (8 * p) (found (view_at r n) (8 * sought_next.behind))
  sought_reads = rw (← sought_is.1) sought_next.reads

  pub sought_on : Sought r s (n + 1) sought_next.behind
  sought_on =
      let t = total_more (λ (v : View). length ((view r.head.scale.widths []).enc v)) r.views n no_view_there l in
      record {
        left = rw (← sought_is.2) sought_next.further;
        before = omega (arith, sought_next.long, h.before, t, ap (λ (v : View). length ((view r.head.scale.widths []).enc v)) sought_is.1);
      }

  pub view_in_lem : ViewIn r s n p
  view_in_lem = record { before = h.before; at = (view_apart r.head.scale.widths sought_next.seen sought_reads).0 }

  pub view_end : view_in_lem.at.behind ≡ sought_next.behind
  unfolding view_in_lem
  view_end = omega (arith, (view_apart r.head.scale.widths sought_next.seen sought_reads).1)

  -- where code finds that it ends
  pub sought_end : {x : Blocks} → BlocksFound s (p + 8) x → x.extended.to ≡ sought_next.behind
  sought_end f = (f.is r.head.scale.widths (view_at r n) view_in_lem.at.behind view_in_lem.at.blocks).2 ∙ view_end
