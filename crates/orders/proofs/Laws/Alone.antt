-- A VIEW BY ITSELF: after an accepted call a view's new bytes depend on its old bytes, the order and the header's widths alone. For the
-- old bytes are those of one view value, whatever stands before it, and what is ordered goes by that value.
use mathlib.Core.Path.{◌≡◌, sym, ap, ap₂, ◌∙◌, subst}
use Prim.Native.Nat.{ℕ}
use mathlib.Core.List.{List, [], ◌∷◌, append-nil}
use Rattle.bits.specs.Lists.{All}
use Rattle.bits.specs.ListsLaws.{along_at}
use Rattle.bits.specs.Bytes.{Byte, bits_of}
use Rattle.bits.specs.Codec.{got}
use Rattle.outcome.specs.Outcome.{Outcome, given}
use Rattle.format.specs.View.{View, FitsHead, occurs, view, view_header}
use Rattle.format.specs.Record.{Record, tell_seen, read, write, Allowed}
use Rattle.format.specs.Places.{no_view_there, view_at, with_view}
use Rattle.format.specs.Named.{name_of, Means}
use Rattle.format.specs.declared.Widths.{Widths}
use Rattle.format.specs.declared.ViewHeader.{ViewHeader}
use Rattle.format.specs.declared.ViewName.{ViewName}
use Rattle.format.proofs.Laws.Named.{fits_number, means_name}
use Rattle.format.proofs.Laws.Record.{read_there, read_is, read_back}
use Rattle.format.proofs.Laws.Call.{on_view_lem}
use Rattle.format.proofs.Laws.Changed.{changed_here, changed_means}
use Rattle.format.proofs.Laws.Size.{write_bytes}
use Rattle.find_parts.specs.Stored.{view_out, record_out}
use Rattle.find_parts.proofs.Laws.Written.{view_spells, written}
use Rattle.orders.specs.Order.{edited}
use Rattle.orders.specs.Bytes.{view_part}
use Rattle.orders.specs.AnyCall.{AnyCall, one, list, asked}
use Rattle.orders.specs.Split.{view_of, view_bytes, width_bytes}
use Rattle.orders.proofs.Laws.Keep.{edited_is, order_keeps}
use Rattle.orders.proofs.Laws.Bytes.{view_is}
use Rattle.orders.proofs.Laws.Sequence.{run_bytes}
use Rattle.orders.proofs.Laws.Pairs.{given_turn}
use Rattle.orders.proofs.Laws.Singly.{pairs_given}
use Rattle.orders.proofs.Laws.Gives.{given_order}
use Rattle.orders.proofs.Laws.Commute.{after_all, acts_of, orders_in, orders_on, head_all, taken_reads}

-- ---- one view value for given bytes, whatever views stand before it

head_behind : (earlier others : ℕ → ℕ) (h : ViewHeader) → earlier h.position ≡ others h.position → FitsHead earlier h → FitsHead others h
head_behind earlier others h e f =
    record {
      number = f.number;
      position = f.position;
      impression = f.impression;
      quality = f.quality;
      right = rw (← e) f.right;
      width = f.width;
      height = f.height;
    }

-- behind other views it fits as well, where as many have its position
fits_behind : (w : Widths) (s t : List ℕ) (v : View) → occurs v.head.position s ≡ occurs v.head.position t → (view w s).Fits v → (view w t).Fits v
unfolding view view_header
fits_behind w s t v e f = (((head_behind (λ p. occurs p s) (λ p. occurs p t) v.head e f.0.0.0, f.0.0.1), f.0.1), f.1)

view_read : (w : Widths) (s : List ℕ) (v : View) → (view w s).Fits v → (view w s).dec (bits_of (view_out w v)) ≡ got v []
view_read w s v f =
    let z : bits_of (view_out w v) ≡ (view w s).enc v = sym (view_spells w s v f).bits in
    ap (view w s).dec (z ∙ sym (append-nil ((view w s).enc v))) ∙ (view w s).there v [] f

view_told : (w : Widths) (s t : List ℕ) (u v : View) → (view w s).Fits u → (view w t).Fits v → name_of u ≡ name_of v → view_out w u ≡ view_out w v → u ≡ v
view_told w s t u v f g n e =
    let p : u.head.position ≡ v.head.position = ap (λ (x : ViewName). x.finger) n in
    let k : occurs v.head.position t ≡ occurs v.head.position s =
    sym (fits_number w t v g) ∙ sym (ap (λ (x : ViewName). x.number) n) ∙ fits_number w s u f ∙ ap (λ (x : ℕ). occurs x s) p in
    let z : got u [] ≡ got v [] = sym (view_read w s u f) ∙ ap (λ (xs : List ℕ). (view w s).dec (bits_of xs)) e ∙ view_read w s v (fits_behind w t s v k g) in
    cc

-- ---- in a record

-- the widths stand in bytes 16 to 18
widths_are : (r : Record) → Allowed r → width_bytes (write r) ≡ r.head.scale.widths.c ∷ r.head.scale.widths.b ∷ r.head.scale.widths.k ∷ []
unfolding record_out
widths_are r a = ap width_bytes (written r a)

same_widths : (r s : Record) → Allowed r → Allowed s → width_bytes (write r) ≡ width_bytes (write s) → s.head.scale.widths ≡ r.head.scale.widths
same_widths r s a b e =
    let v : Widths = s.head.scale.widths in
    let w : Widths = r.head.scale.widths in
    let d : v.c ∷ v.b ∷ v.k ∷ [] ≡ w.c ∷ w.b ∷ w.k ∷ [] = sym (widths_are s b) ∙ sym e ∙ widths_are r a in
    let x : v.c ≡ w.c = cc in
    let y : v.b ≡ w.b = cc in
    let z : v.k ≡ w.k = cc in
    λ i. record { c = x i; b = y i; k = z i }

-- two records of the same widths that have the same bytes under a name have the same view there
module _ {name : ViewName} (r s : Record) (a : Allowed r) (b : Allowed s) {i j : ℕ} (m : Means name r i) (n : Means name s j) where
  abbrev w : Widths
  w = r.head.scale.widths

  abbrev v : Widths
  v = s.head.scale.widths

  one_view : v ≡ w → view_out w (view_at r i) ≡ view_out v (view_at s j) → view_at r i ≡ view_at s j
  one_view e d =
      let (x, f) = along_at tell_seen (λ t z. (view w t).Fits z) no_view_there [] r.views i m.there a.fits.views in
      let (y, g) = along_at tell_seen (λ t z. (view v t).Fits z) no_view_there [] s.views j n.there b.fits.views in
      view_told w x y (view_at r i) (view_at s j) f (subst (λ (z : Widths). (view z y).Fits (view_at s j)) e g) (means_name m ∙ sym (means_name n))
      (d ∙ ap (λ (z : Widths). view_out z (view_at s j)) e)

-- what a name's view has for bytes
view_bytes_are : (view : ViewName) (bytes : List ℕ) (r : Record) (i : ℕ) → All Byte bytes → read bytes ≡ got r [] → Means view r i
    → view_bytes view bytes ≡ given (view_out r.head.scale.widths (view_at r i))
unfolding view_bytes
view_bytes_are view bytes r i f e m =
    let (a, w, _) = read_back bytes r [] f e in
    on_view_lem view (λ j x. given (view_part x j bytes)) bytes e m ∙ ap (λ (xs : List ℕ). given (view_part r i xs)) w ∙ ap given (view_is r i a m.there)

-- ---- an accepted call

-- only the view that it names is another: the one that its orders make of it
record Effect (q : AnyCall) (bytes new : List ℕ) : Type 0 where
  value : Record
  place : ℕ
  reads : read bytes ≡ got value []
  means : Means (view_of q) value place
  byte : All Byte new
  left : read new ≡ got (with_view value place (after_all (acts_of (orders_in q)) (view_at value place))) []

effect : (q : AnyCall) (bytes new : List ℕ) → All Byte bytes → asked q bytes ≡ given new → Effect q bytes new
effect (one c) bytes new f h =
    given_order c.order bytes h λ r i e a w.
    record {
      value = r;
      place = i;
      reads = e;
      means = a.means;
      byte = rw w (write_bytes (edited i c.order.act r));
      left = rw w (read_there (edited i c.order.act r) (order_keeps c.order i r (read_is bytes r [] e).0 a) ∙ ap (λ (x : Record). got x []) (edited_is i c.order.act r));
    }
effect (list m) bytes new f h =
    given_turn m bytes new h λ r e y s d.
    let (_, t, z) = pairs_given m bytes new h in
    record {
      value = r;
      place = y.place;
      reads = e;
      means = y.means;
      byte = rw (← z) (run_bytes (orders_in (list m)) bytes r (read_is bytes r [] e).0 e f);
      left = rw (← z) (taken_reads m.view (orders_in (list m)) bytes r y.place e y.means (orders_on (list m)) t);
    }

-- the view's new bytes, of what it was
new_bytes : (q : AnyCall) (bytes new : List ℕ) (x : Effect q bytes new)
    → view_bytes (view_of q) new ≡ given (view_out x.value.head.scale.widths (after_all (acts_of (orders_in q)) (view_at x.value x.place)))
new_bytes q bytes new x =
    let r : Record = x.value in
    let i : ℕ = x.place in
    let u : View = after_all (acts_of (orders_in q)) (view_at r i) in
    view_bytes_are (view_of q) new (with_view r i u) i x.byte x.left (changed_means r i u (head_all (acts_of (orders_in q)) (view_at r i)) (view_of q) x.means)
    ∙ ap (λ (v : View). given (view_out r.head.scale.widths v)) (changed_here r i u x.means.there)

-- ---- the theorem

pub view_alone : (q : AnyCall) (a b old x y : List ℕ) → All Byte a → All Byte b → width_bytes a ≡ width_bytes b
    → view_bytes (view_of q) a ≡ given old → view_bytes (view_of q) b ≡ given old → asked q a ≡ given x → asked q b ≡ given y
    → (new : List ℕ) × (view_bytes (view_of q) x ≡ given new) × (view_bytes (view_of q) y ≡ given new)
view_alone q a b old x y f g widths here there h k =
    let X : Effect q a x = effect q a x f h in
    let Y : Effect q b y = effect q b y g k in
    let r : Record = X.value in
    let s : Record = Y.value in
    let (m, as_a, _) = read_back a r [] f X.reads in
    let (n, as_b, _) = read_back b s [] g Y.reads in
    let e : s.head.scale.widths ≡ r.head.scale.widths = same_widths r s m n (ap width_bytes (sym as_a) ∙ widths ∙ ap width_bytes as_b) in
    let bytes : ◌≡◌ {A = Outcome ℕ} (given (view_out r.head.scale.widths (view_at r X.place))) (given (view_out s.head.scale.widths (view_at s Y.place))) =
    sym (view_bytes_are (view_of q) a r X.place f X.reads X.means) ∙ here ∙ sym there ∙ view_bytes_are (view_of q) b s Y.place g Y.reads Y.means in
    let same : view_at r X.place ≡ view_at s Y.place = one_view r s m n X.means Y.means e (cc) in (
      view_out r.head.scale.widths (after_all (acts_of (orders_in q)) (view_at r X.place)),
      new_bytes q a x X,
      new_bytes q b y Y ∙ ap₂ (λ (w : Widths) (v : View). given (view_out w (after_all (acts_of (orders_in q)) v))) e (sym same),
    )
