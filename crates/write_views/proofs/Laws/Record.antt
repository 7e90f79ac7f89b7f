-- The views of a record one behind the other, and the record: its sheet's first bytes are its header's.
use mathlib.Core.Path.{◌≡◌, refl, sym, ap, ◌∙◌, subst}
use Prim.Native.Nat.{ℕ, ◌+◌, ◌-◌, ◌≤◌, ◌<◌}
use native.Mathlib.Omega.{arith}
use mathlib.Core.List.{List, [], ◌∷◌, ◌++◌, append-nil}
use lib.ListN.{length, take, drop, get_or, length-append, length-drop}
use lib.Seq.{append_snoc, length-take-le}
use Rattle.bits.specs.ChoiceLaws.{within_high}
use Rattle.bits.specs.Lists.{All, Along}
use Rattle.bits.specs.BytesLaws.{length_in}
use Rattle.put_bytes.specs.Laid.{Laid}
use Rattle.put_bytes.specs.HighFirst.{two, joined}
use Rattle.put_bytes.proofs.Laws.{laid_none, laid_next, joined_append, joined_snoc, lent, back}
use Rattle.format.specs.Limits.{most_lines, most_bytes}
use Rattle.format.specs.Line.{line, skeleton}
use Rattle.format.specs.Index.{index_block}
use Rattle.format.specs.Segments.{segment, segments}
use Rattle.format.specs.View.{View, view_header, view}
use Rattle.format.specs.Record.{Record, tell_seen, size, Allowed}
use Rattle.format.specs.declared.Widths.{Widths}
use Rattle.format.proofs.Laws.Record.{narrow}
use Rattle.sheet_bytes.specs.Bytes.{view_bytes, record_bytes}
use Rattle.find_parts.specs.Stored.{view_out, header_out, record_out}
use Rattle.write_views.specs.Views.{NextView, RightView, ViewPut}
use Rattle.write_views.specs.Records.{device_from, scale_from, ViewsToWrite, ViewsPut}
use Rattle.write_blocks.specs.declared.Done.{Done}
use Rattle.find_parts.proofs.Laws.Written.{stored_long}

-- ---- the loop over the views: those passed are laid, and the others stand from byte p on

pub record ViewsGoing (w : Widths) (s : List ℕ) (vs : List View) (before : List ℕ) (p : ℕ) (now : List ℕ) (at : ℕ) : Type 0 where
  pub done : List View
  pub more : List View
  pub is : vs ≡ done ++ more
  pub stand : drop p s ≡ joined (view_bytes w.k) more
  pub right : All (RightView w) more
  pub laid : Laid (joined (view_out w) done) before now at

-- whatever views they are
abbrev pub ViewsSoFar : Widths → (s before : List ℕ) (p : ℕ) (now : List ℕ) (at : ℕ) → Type 0
ViewsSoFar w s before p now at = (vs : List View) → drop 12 s ≡ joined (view_bytes w.k) vs → All (RightView w) vs → ViewsGoing w s vs before p now at

pub views_first : (w : Widths) (s before : List ℕ) → ViewsSoFar w s before 12 before 0
views_first w s before vs e r = record { done = []; more = vs; is = refl; stand = e; right = r; laid = laid_none before }

-- the view at byte p, and those behind it
pub record ViewNext (w : Widths) (s : List ℕ) (p : ℕ) (more : List View) : Type 0 where
  pub one : View
  pub others : List View
  pub is : more ≡ one ∷ others
  pub stand : drop p s ≡ view_bytes w.k one ++ joined (view_bytes w.k) others
  pub next : NextView (joined (view_bytes w.k) others)
  pub right : RightView w one
  pub rights : All (RightView w) others

module _ (w : Widths) {s : List ℕ} {vs : List View} {before : List ℕ} {p : ℕ} {now : List ℕ} {at : ℕ} (g : ViewsGoing w s vs before p now at) where
  pub view_here : p < length s → ViewNext w s p g.more
  view_here l = go g.more g.stand g.right
    where
      starts : (vs : List View) → NextView (joined (view_bytes w.k) vs)
      starts [] = tt
      starts (v ∷ vs) = refl

      go : (more : List View) → drop p s ≡ joined (view_bytes w.k) more → All (RightView w) more → ViewNext w s p more
      go [] e r = absurd (omega (arith, length-drop p s, ap length e))
      go (v ∷ more) e r = record { one = v; others = more; is = refl; stand = e; next = starts more; right = r.0; rights = r.1 }

  module _ (N : ViewNext w s p g.more) where
    -- room for all is room for it
    pub view_space : length (joined (view_out w) vs) ≤ length before → at + length (view_out w N.one) ≤ length before
    view_space r =
        let e : vs ≡ (g.done ++ N.one ∷ []) ++ N.others = g.is ∙ ap (λ (x : List View). g.done ++ x) N.is ∙ sym (append_snoc g.done N.one N.others) in
        let a = ap (λ (x : List View). length (joined (view_out w) x)) e ∙ ap length (joined_append (view_out w) (g.done ++ N.one ∷ []) N.others) ∙ length-append (joined (view_out w) (g.done ++ N.one ∷ [])) _ in
        let b = ap length (joined_snoc (view_out w) g.done N.one) ∙ length-append (joined (view_out w) g.done) (view_out w N.one) in
        omega (arith, a, b, g.laid.count)

    module _ {ys : List ℕ} {r : Done} (h : ViewPut w s p (lent now at) ys r) where
      pub view_done : Laid (view_out w N.one) (lent now at) ys r.bytes × (drop r.next s ≡ joined (view_bytes w.k) N.others)
      view_done = h.is N.one (joined (view_bytes w.k) N.others) N.stand N.next N.right

      -- it is behind the view
      pub view_on : p < length s → length s - r.next < length s - p
      view_on l = omega (arith, length-drop p s, ap length N.stand, length-append (view_bytes w.k N.one) (joined (view_bytes w.k) N.others), length-drop r.next s, ap length view_done.1)

      pub views_going : ViewsGoing w s vs before r.next (back now at ys) (at + r.bytes)
      views_going =
          record {
            done = g.done ++ N.one ∷ [];
            more = N.others;
            is = g.is ∙ ap (λ (x : List View). g.done ++ x) N.is ∙ sym (append_snoc g.done N.one N.others);
            stand = view_done.1;
            right = N.rights;
            laid = rw (joined_snoc (view_out w) g.done N.one) (laid_next g.laid view_done.0);
          }

  pub views_last : length s ≤ p → Laid (joined (view_out w) vs) before now at
  views_last l = go g.more g.is g.stand
    where
      go : (more : List View) → vs ≡ g.done ++ more → drop p s ≡ joined (view_bytes w.k) more → Laid (joined (view_out w) vs) before now at
      go [] e d = rw (e ∙ append-nil g.done) g.laid
      go (v ∷ more) e d = absurd (omega (arith, length-drop p s, ap length d))

pub views_end : (w : Widths) {s before : List ℕ} {p : ℕ} {now : List ℕ} {at : ℕ} → ViewsSoFar w s before p now at → length s ≤ p → ViewsPut w s before now at
views_end w G l = record { is = λ vs e r. views_last w (G vs e r) l }

-- ---- an allowed record's views are right

view_right_lem : (w : Widths) (seen : List ℕ) (v : View) → (view w seen).Fits v → RightView w v
unfolding view view_header skeleton segments line segment most_lines
view_right_lem w seen v h =
    record {
      few = h.0.1.most;
      lines = h.0.1.all;
      index = h.1.0.1;
      extended = h.1.1.1;
      lines_small = omega (arith, length_in ((skeleton w).enc v.lines), h.0.0.1);
      index_small = omega (arith, length_in ((index_block (length v.lines)).enc v.index), h.1.0.0);
      extended_small = omega (arith, length_in (segments.enc v.segments), h.1.1.0);
    }

views_right_lem : (w : Widths) (seen : List ℕ) (vs : List View) → Along tell_seen (λ seen v. (view w seen).Fits v) seen vs → All (RightView w) vs
views_right_lem w seen [] h = tt
views_right_lem w seen (v ∷ vs) h = (view_right_lem w seen v h.0, views_right_lem w (tell_seen seen v) vs h.1)

-- ---- the sheet's first bytes

module _ {s : List ℕ} (r : Record) (a : Allowed r) (e : s ≡ record_bytes r) where
  pub sheet_long : 12 ≤ length s
  unfolding record_bytes
  sheet_long = omega (arith, ap length e)

  pub widths_are : {c b k : ℕ} → c ≡ get_or s 6 0 → b ≡ get_or s 7 0 → k ≡ get_or s 8 0 → record { c = c; b = b; k = k } ≡ r.head.scale.widths
  unfolding record_bytes
  widths_are {c} {b} {k} ec eb ek =
      let x : c ≡ r.head.scale.widths.c = ec ∙ ap (λ (t : List ℕ). get_or t 6 0) e in
      let y : b ≡ r.head.scale.widths.b = eb ∙ ap (λ (t : List ℕ). get_or t 7 0) e in
      let z : k ≡ r.head.scale.widths.k = ek ∙ ap (λ (t : List ℕ). get_or t 8 0) e in
      λ i. record { c = x i; b = y i; k = z i }

  pub device_is : (n : ℕ) → device_from s n ++ scale_from s (length r.views) ≡ header_out n r.head (length r.views)
  unfolding record_bytes
  device_is n = ap (λ (t : List ℕ). device_from t n ++ scale_from t (length r.views)) e

  pub views_at : drop 12 s ≡ joined (view_bytes r.head.scale.widths.k) r.views
  unfolding record_bytes
  views_at = ap (drop 12) e

  pub size_is : size r ≡ 24 + length (joined (view_out r.head.scale.widths) r.views)
  unfolding record_out
  size_is = sym (stored_long r) ∙ omega (arith, length-append (header_out (size r) r.head (length r.views)) (joined (view_out r.head.scale.widths) r.views))

  pub size_small : size r < 65536
  unfolding most_bytes
  size_small = omega (arith, a.small)

  pub views_small : length r.views < 256
  views_small = omega (arith, within_high 1 255 (length r.views) a.fits.count.1)

  pub views_there : {w : Widths} {out : List ℕ} → w ≡ r.head.scale.widths → length (joined (view_out r.head.scale.widths) r.views) ≤ length out → ViewsToWrite w s out
  views_there {w} {out} z l =
      subst (λ (x : Widths). ViewsToWrite x s out) (sym z)
      (record { narrow = narrow a.fits.head; value = r.views; is = views_at; right = views_right_lem r.head.scale.widths [] r.views a.fits.views; room = l })

  -- ---- the record, where its parts are laid one behind the other

  pub record_laid : {w : Widths} {n m : ℕ} {o o1 o2 o3 : List ℕ} {h x y : ℕ} → w ≡ r.head.scale.widths → n ≡ size r → m ≡ length r.views
      → Laid (device_from s n) o o1 h → Laid (scale_from s m) (lent o1 h) o2 x → ViewsPut w s (lent (back o1 h o2) (h + x)) o3 y
      → Laid (record_out r) o (back (back o1 h o2) (h + x) o3) (h + x + y)
  unfolding record_out
  record_laid {w} {n} {m} {o} {o1} {o2} {o3} {h} {x} {y} ew en em D S W =
      let v = (rw ew at W).is r.views views_at (views_right_lem r.head.scale.widths [] r.views a.fits.views) in
      let vs : List ℕ = joined (view_out r.head.scale.widths) r.views in
      let q : (device_from s (size r) ++ scale_from s (length r.views)) ++ vs ≡ record_out r = ap (λ (t : List ℕ). t ++ vs) (device_is (size r)) in
      subst (λ (t : List ℕ). Laid t o (back (back o1 h o2) (h + x) o3) (h + x + y)) q (laid_next (laid_next (rw en at D) (rw em at S)) v)

  pub device_long : (n : ℕ) → length (device_from s n) ≡ 14
  device_long n = omega (arith, length-take-le 2 (drop 3 s) (omega (arith, sheet_long, length-drop 3 s)), length-append ((0x46 ∷ 0x53 ∷ 0x4B ∷ 0x00 ∷ 0x30 ∷ 0x31 ∷ 0x30 ∷ 0x00 ∷ 0x00 ∷ 0x00 ∷ []) ++ two n) (take 2 (drop 3 s)))

  pub scale_long : (m : ℕ) → length (scale_from s m) ≡ 10
  scale_long m = omega (arith, length-take-le 7 (drop 5 s) (omega (arith, sheet_long, length-drop 5 s)), length-append ((m ∷ []) ++ take 7 (drop 5 s)) (two 0))
