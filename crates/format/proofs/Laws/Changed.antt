-- A record with another view in the place of one of its views: it is allowed where the new view has the old one's header and fits, and
-- the record is not too long. What is said of the other views is said of them in the old record.
use mathlib.Core.Path.{◌≡◌, ◌∙◌}
use mathlib.Core.Logic.{◌≢◌}
use Prim.Native.Nat.{ℕ, zero, suc, ◌*◌, ◌≤◌, ◌<◌}
use native.Mathlib.Omega.{arith}
use mathlib.Core.List.{List, [], ◌∷◌}
use lib.ListN.{length, get_or, set, length-append, length-set}
use lib.Seq.{get_or-set_same, get_or-set_other}
use Rattle.bits.specs.Lists.{Along}
use Rattle.bits.specs.CodecLaws.{enc_along}
use Rattle.format.specs.Limits.{most_bytes}
use Rattle.format.specs.View.{View, view}
use Rattle.format.specs.Record.{Record, tell_seen, size, Allowed}
use Rattle.format.specs.Places.{no_view_there, view_at, with_view}
use Rattle.format.specs.Named.{place_in, Means}
use Rattle.format.specs.declared.Widths.{Widths}
use Rattle.format.specs.declared.ViewName.{ViewName}
use Rattle.format.proofs.Laws.Size.{views_length}
use Rattle.format.proofs.Laws.Named.{places_keep}

-- u fits wherever v does, if it is not too long
abbrev pub FitsAs : Widths → (u v : View) → Type 0
FitsAs w u v = (seen : List ℕ) → (view w seen).Fits v → length ((view w seen).enc u) ≤ 8 * most_bytes → (view w seen).Fits u

-- those behind it still fit, since it has the position that the old one had
views_keep : (w : Widths) (seen : List ℕ) (vs : List View) (i : ℕ) (u : View) → i < length vs → u.head ≡ (get_or vs i no_view_there).head
    → FitsAs w u (get_or vs i no_view_there) → length (enc_along (view w) tell_seen seen (set vs i u)) ≤ 8 * most_bytes
    → Along tell_seen (λ s v. (view w s).Fits v) seen vs → Along tell_seen (λ s v. (view w s).Fits v) seen (set vs i u)
views_keep w seen [] i u l e k small h = h
views_keep w seen (v ∷ vs) zero u l e k small h =
    let z = simp length-append at small in
    (k seen h.0 (omega (arith, z)), rw e h.1)
views_keep w seen (v ∷ vs) (suc i) u l e k small h =
    let z = simp length-append at small in
    (h.0, views_keep w (tell_seen seen v) vs i u (omega arith) e k (omega (arith, z)) h.1)

module _ (r : Record) (i : ℕ) (u : View) where
  pub changed_count : length (with_view r i u).views ≡ length r.views
  changed_count = length-set r.views i u

  pub changed_here : i < length r.views → view_at (with_view r i u) i ≡ u
  changed_here l = get_or-set_same r.views i u no_view_there l

  pub changed_other : (j : ℕ) → j ≢ i → view_at (with_view r i u) j ≡ view_at r j
  changed_other j n = get_or-set_other r.views i j u no_view_there n

  -- with the old header, it has the old name too: a name means the place that it meant
  module _ (e : u.head ≡ (view_at r i).head) (view : ViewName) where
    pub changed_place : place_in view (with_view r i u).views ≡ place_in view r.views
    changed_place = places_keep view r.views i u e

    pub changed_means : {j : ℕ} → Means view r j → Means view (with_view r i u) j
    changed_means m = record { is = changed_place ∙ m.is; there = omega (arith, changed_count, m.there) }

  pub changed_allowed : i < length r.views → u.head ≡ (view_at r i).head → FitsAs r.head.scale.widths u (view_at r i)
      → size (with_view r i u) ≤ most_bytes → Allowed r → Allowed (with_view r i u)
  changed_allowed l e k small f =
      let w : Widths = r.head.scale.widths in
      let z : length (enc_along (view w) tell_seen [] (set r.views i u)) ≤ 8 * most_bytes = omega (arith, views_length (with_view r i u), small) in
      record {
        fits = record { head = f.fits.head; count = rw changed_count f.fits.count; views = views_keep w [] r.views i u l e k z f.fits.views };
        small = small;
      }
