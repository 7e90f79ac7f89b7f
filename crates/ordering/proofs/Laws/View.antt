-- An order on a view that is found: what is known of the view, and when the order's own tests refuse it.
use mathlib.Core.Path.{◌≡◌, sym, ◌∙◌}
use Prim.Native.Nat.{ℕ, ◌≤◌, ◌<◌}
use native.Mathlib.Omega.{arith}
use mathlib.Core.Bool.{Bool, not}
use mathlib.Core.Option.{none}
use mathlib.Core.List.{List, [], ◌∷◌, ◌++◌}
use lib.Dec.{T}
use Rattle.outcome.specs.Outcome.{refused}
use Rattle.format.specs.View.{View}
use Rattle.format.specs.Record.{Allowed}
use Rattle.format.specs.Places.{view_at, count}
use Rattle.format.specs.declared.ViewName.{ViewName}
use Rattle.format.proofs.Laws.Record.{read_is}
use Rattle.orders.specs.Act.{Act, indexed?}
use Rattle.orders.specs.Order.{Order, tests, order, Pass}
use Rattle.orders.proofs.Laws.Refuse.{verdict_own, order_refused}
use Rattle.orders.proofs.Laws.Keep.{allowed_right}
use Rattle.orders.proofs.Laws.Right.{Right}
use Rattle.find_parts.specs.declared.site.Site.{Site}
use Rattle.find_parts.proofs.Laws.Blocks.{cut, cut_long, few_lines, no_index_lem}
use Rattle.find_parts.proofs.Laws.Index.{an_index}
use Rattle.order_view.specs.Named.{Named}

module _ {s : List ℕ} {view : ViewName} {n : ℕ} {x : Site} (F : Named s view n x) where
  abbrev v : View
  v = view_at F.value F.place

  abbrev naming : Act → Order
  naming a = record { view = view; count = n; act = a }

  pub counted : count v ≡ n
  counted = sym F.at.count ∙ F.count

  pub allowed : Allowed F.value
  allowed = (read_is s F.value [] F.reads).0

  pub right : Right v
  right = allowed_right F.value allowed F.place F.at.there

  pub few : count v ≤ 1024
  few = few_lines x.widths F.at.lines

  -- ---- its index

  abbrev block : List ℕ
  block = cut s x.index.from x.index.to

  pub not_indexed : x.index.to ≤ x.index.from → T (not (indexed? v))
  not_indexed l =
      let e : v.index ≡ none = no_index_lem x.lines block (omega (arith, cut_long F.at.index)) F.at.index.value in
      rw e tt

  pub is_indexed : x.index.from < x.index.to → T (indexed? v)
  is_indexed l = an_index x.lines block (omega (arith, cut_long F.at.index)) F.at.index.value λ i e. rw e tt

  -- ---- the order's own tests

  pub own_refused : (a : Act) (ts : List (Bool × ℕ)) (b : Bool) (k : ℕ) (us : List (Bool × ℕ)) → tests a v ≡ ts ++ (b, k) ∷ us → Pass ts → T (not b) → 0 < k
      → order (naming a) s ≡ refused k 0
  own_refused a ts b k us e h q z = order_refused (naming a) s F.reads F.means k (verdict_own (naming a) F.place F.value counted ts b k us e h q) z
