-- The first refusals of an order and of a list of pairs, whatever they order: the view's, and another line count; else the view with its
-- lines counted.
use mathlib.Core.Path.{◌≡◌, ap, ◌∙◌}
use mathlib.Core.Logic.{◌≢◌}
use Prim.Native.Nat.{ℕ}
use native.Mathlib.Omega.{arith}
use mathlib.Core.List.{List}
use Rattle.outcome.specs.Refusals.{other_count}
use Rattle.format.specs.Places.{view_at, count}
use Rattle.format.specs.declared.Scale.{Scale}
use Rattle.format.specs.declared.ViewName.{ViewName}
use Rattle.orders.specs.Act.{Act}
use Rattle.orders.specs.Order.{Order, ordered, order}
use Rattle.orders.specs.Pairs.{PairsCall}
use Rattle.orders.proofs.Laws.Accept.{verdict_count}
use Rattle.orders.proofs.Laws.Refuse.{order_refused}
use Rattle.orders.proofs.Laws.Pairs.{pairs_view, pairs_count}
use Rattle.find_parts.specs.Site.{SiteOf, SiteThere, SiteFound}
use Rattle.find_parts.specs.declared.view.Blocks.{Blocks}
use Rattle.find_parts.specs.declared.site.Site.{Site}
use Rattle.find_view.specs.Found.{Stands, Refuses}
use Rattle.order_view.specs.Named.{Named, NotNamed}

abbrev naming : (view : ViewName) (n : ℕ) → Act → Order
naming view n a = record { view = view; count = n; act = a }

abbrev listing : (view : ViewName) (n : ℕ) → List ℕ → ℕ → PairsCall
listing view n list lent = record { view = view; count = n; list = list; lent = lent }

module _ {s : List ℕ} {view : ViewName} (n : ℕ) where
  pub not_found : {e p : ℕ} → Refuses s view e p → NotNamed s view n e p
  unfolding order
  not_found h = record { order = λ a. h.is (ordered (naming view n a)); pairs = λ list lent. pairs_view (listing view n list lent) s h.is }

  module _ {c : Scale} {x : Blocks} (h : Stands s view c x) where
    pub site_there : SiteThere s x c.widths
    site_there = record { value = h.value; reads = h.reads; widths = ap (λ (y : Scale). y.widths) h.scale; place = h.place; blocks = h.blocks }

    module _ {y : Site} (F : SiteFound s x c.widths y) where
      site_of : SiteOf h.value s h.place y
      site_of = F.is h.value h.place (ap (λ (y : Scale). y.widths) h.scale) h.means.there h.blocks

      pub is_named : y.lines ≡ n → Named s view n y
      is_named e = record { value = h.value; reads = h.reads; place = h.place; means = h.means; at = site_of; count = e }

      pub other_count_lem : y.lines ≢ n → NotNamed s view n other_count 0
      other_count_lem d =
          let k : count (view_at h.value h.place) ≢ n = λ z. d (site_of.count ∙ z) in
          record {
            order = λ a. order_refused (naming view n a) s h.reads h.means other_count (verdict_count (naming view n a) h.place h.value k) (omega arith);
            pairs = λ list lent. pairs_count (listing view n list lent) s h.reads h.means k;
          }
