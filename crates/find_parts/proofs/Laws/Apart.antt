-- A record's bytes, taken apart around one of its views: what stands before the view, the view, and what stands behind it. With
-- another view in its place the view's bytes are others, and the record length.
use mathlib.Core.Path.{◌≡◌, sym, ap, ap₂, ◌∙◌, subst}
use Prim.Native.Nat.{ℕ, suc, ◌+◌, ◌*◌, ◌<◌}
use native.Mathlib.Omega.{arith}
use mathlib.Core.List.{List, ◌∷◌, ◌++◌, append_assoc}
use lib.ListN.{length, take, drop, set, length-append, length-set}
use lib.Seq.{slice, take_at, drop_at, set_split, set-get_or}
use Rattle.put_bytes.specs.HighFirst.{joined}
use Rattle.put_bytes.proofs.Laws.{joined_append}
use Rattle.format.specs.View.{View}
use Rattle.format.specs.Record.{Record, size}
use Rattle.format.specs.Places.{no_view_there, view_at, with_view, bits_before}
use Rattle.format.specs.declared.Widths.{Widths}
use Rattle.find_parts.specs.Stored.{view_out, header_out, record_out}
use Rattle.find_parts.proofs.Laws.Written.{views_long}

-- the middle one of three
pub slice_at : (a b c : List ℕ) (from to : ℕ) → length a ≡ from → length a + length b ≡ to → slice from to (a ++ (b ++ c)) ≡ b
slice_at a b c from to f t =
    ap (λ (s : List ℕ). drop from (take to s)) (sym (append_assoc a b c))
    ∙ ap (drop from) (take_at (a ++ b) c to (length-append a b ∙ t))
    ∙ drop_at a b from f

module _ (r : Record) (i : ℕ) where
  abbrev w : Widths
  w = r.head.scale.widths

  -- what stands before view i, in a record of n bytes
  abbrev pub ahead : ℕ → List ℕ
  ahead n = header_out n r.head (length r.views) ++ joined (view_out w) (take i r.views)

  abbrev pub behind : List ℕ
  behind = joined (view_out w) (drop (suc i) r.views)

  pub ahead_long : (n : ℕ) → 8 * length (ahead n) ≡ bits_before r i
  ahead_long n =
      let m : length (ahead n) ≡ 24 + length (joined (view_out w) (take i r.views)) = simp length-append (omega arith) in
      omega (arith, m, views_long w (take i r.views))

  pub same_record : with_view r i (view_at r i) ≡ r
  same_record = ap (λ (vs : List View). record { head = r.head; views = vs }) (set-get_or r.views i no_view_there)

  module _ (l : i < length r.views) where
    -- with another view
    pub around : (u : View) → record_out (with_view r i u) ≡ ahead (size (with_view r i u)) ++ (view_out w u ++ behind)
    unfolding record_out
    around u =
        let n : ℕ = size (with_view r i u) in
        let before : List View = take i r.views in
        let e : joined (view_out w) (set r.views i u) ≡ joined (view_out w) before ++ (view_out w u ++ behind) =
        ap (joined (view_out w)) (set_split r.views i u l) ∙ joined_append (view_out w) before (u ∷ drop (suc i) r.views) in
        ap₂ (λ (m : ℕ) (js : List ℕ). header_out n r.head m ++ js) (length-set r.views i u) e
        ∙ sym (append_assoc (header_out n r.head (length r.views)) (joined (view_out w) before) (view_out w u ++ behind))

    pub apart : record_out r ≡ ahead (size r) ++ (view_out w (view_at r i) ++ behind)
    apart = subst (λ (q : Record). record_out q ≡ ahead (size q) ++ (view_out w (view_at r i) ++ behind)) same_record (around (view_at r i))
