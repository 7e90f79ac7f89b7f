-- A record after some words about a view: the view is what the words make of it, and all else is as it was.
use mathlib.Core.Path.{◌≡◌, refl, ap, ◌∙◌}
use Prim.Native.Nat.{ℕ, ◌<◌}
use native.Mathlib.Omega.{arith}
use mathlib.Core.List.{List, [], ◌∷◌}
use lib.ListN.{length}
use lib.Seq.{set-set}
use Rattle.format.specs.View.{View}
use Rattle.format.specs.Record.{Record}
use Rattle.format.specs.Places.{view_at, with_view}
use Rattle.format.specs.Named.{Means}
use Rattle.format.specs.declared.ViewName.{ViewName}
use Rattle.orders.specs.Act.{Word, after}
use Rattle.orders.specs.Order.{edited}
use Rattle.orders.specs.Called.{word_act}
use Rattle.orders.proofs.Laws.Keep.{edited_count, edited_here, edited_means}
use Rattle.order_words.specs.After.{view_after, record_after}

module _ (i : ℕ) where
  pub record_count : (hs : List Word) (r : Record) → length (record_after i hs r).views ≡ length r.views
  record_count [] r = refl
  record_count (w ∷ hs) r = edited_count i (word_act w) (record_after i hs r) ∙ record_count hs r

  pub record_means : (hs : List Word) (r : Record) {view : ViewName} {j : ℕ} → Means view r j → Means view (record_after i hs r) j
  record_means [] r m = m
  record_means (w ∷ hs) r m = edited_means i (word_act w) (record_after i hs r) (record_means hs r m)

  module _ (r : Record) (l : i < length r.views) where
    pub record_view : (hs : List Word) → view_at (record_after i hs r) i ≡ view_after hs (view_at r i)
    record_view [] = refl
    record_view (w ∷ hs) =
        edited_here i (word_act w) (record_after i hs r) (omega (arith, record_count hs r))
        ∙ ap (after (word_act w)) (record_view hs)

    -- the record with another view
    pub record_words : (w : Word) (hs : List Word) → record_after i (w ∷ hs) r ≡ with_view r i (view_after (w ∷ hs) (view_at r i))
    unfolding edited
    record_words w [] = refl
    record_words w (x ∷ hs) =
        let u : View = view_after (x ∷ hs) (view_at r i) in
        ap (λ (v : View). with_view (record_after i (x ∷ hs) r) i (after (word_act w) v)) (record_view (x ∷ hs))
        ∙ ap (λ (s : Record). with_view s i (after (word_act w) u)) (record_words x hs)
        ∙ ap (λ (vs : List View). record { head = r.head; views = vs }) (set-set r.views i u (after (word_act w) u))
