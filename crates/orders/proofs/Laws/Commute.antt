-- DIFFERENT VIEWS: orders on two views of a record leave the same bytes whichever come first, be they two single orders, or any calls
-- on the one view and any on the other.
use mathlib.Core.Path.{◌≡◌, refl, sym, ap, ◌∙◌, subst}
use mathlib.Core.Logic.{◌≢◌}
use Prim.Native.Nat.{ℕ}
use mathlib.Core.Bool.{Bool}
use mathlib.Core.List.{List, [], ◌∷◌, ◌++◌, map, append-nil, append_assoc}
use lib.Seq.{set_comm}
use Rattle.bits.specs.Lists.{All}
use Rattle.bits.specs.ListsLaws.{all_append}
use Rattle.bits.specs.Bytes.{Byte}
use Rattle.bits.specs.Codec.{Read, got}
use Rattle.outcome.specs.Outcome.{given, number_of}
use Rattle.outcome.proofs.Refusing.{refused_case}
use Rattle.format.specs.View.{View}
use Rattle.format.specs.Record.{Record, read, write, Allowed}
use Rattle.format.specs.Places.{view_at, with_view, count}
use Rattle.format.specs.Named.{name_of, place_in, Means}
use Rattle.format.specs.declared.ViewName.{ViewName}
use Rattle.format.proofs.Laws.Named.{means_name}
use Rattle.format.proofs.Laws.Record.{read_there, read_is, read_back}
use Rattle.format.proofs.Laws.Changed.{changed_other, changed_means}
use Rattle.find_parts.proofs.Laws.Apart.{same_record}
use Rattle.orders.specs.Act.{Act, Word, after}
use Rattle.orders.specs.Order.{Order, edited, Accepted, order}
use Rattle.orders.specs.Listed.{words}
use Rattle.orders.specs.History.{Call, outcome, now_holds, run}
use Rattle.orders.specs.Pairs.{word_call, singly}
use Rattle.orders.specs.AnyCall.{AnyCall, one, list, outcome_of, run_any, AllTaken, AllAccepted}
use Rattle.orders.specs.Split.{view_of, AllOn}
use Rattle.orders.proofs.Laws.Near.{head_after}
use Rattle.orders.proofs.Laws.Keep.{edited_here, edited_again, edited_other, edited_means, order_keeps}
use Rattle.orders.proofs.Laws.AcceptCall.{outcome_accepted}
use Rattle.orders.proofs.Laws.Sequence.{outcome_split, run_append, run_bytes}
use Rattle.orders.proofs.Laws.Singly.{pairs_given}
use Rattle.orders.proofs.Laws.AnyCalls.{one_outcome, list_outcome, any_told}
use Rattle.orders.proofs.Laws.Gives.{limited, order_limited, given_order}

-- two names that mean two views
views_apart : {u v : ViewName} {r : Record} {i j : ℕ} → u ≢ v → Means u r i → Means v r j → i ≢ j
views_apart {r = r} d m n q = d (sym (means_name m) ∙ ap (λ (k : ℕ). name_of (view_at r k)) q ∙ means_name n)

-- views changed in two places
changed_both : (r : Record) (i j : ℕ) (u w : View) → i ≢ j → with_view (with_view r i u) j w ≡ with_view (with_view r j w) i u
changed_both r i j u w n = ap (λ (vs : List View). record { head = r.head; views = vs }) (set_comm r.views i j u w n)

-- the same bytes read as one record
same_read : (bytes : List ℕ) {r s : Record} → read bytes ≡ got r [] → read bytes ≡ got s [] → s ≡ r
same_read bytes {r} {s} e f = let q : ◌≡◌ {A = Read Bool Record} (got s []) (got r []) = sym f ∙ e in cc

-- ---- two single orders

edited_both : (i j : ℕ) (a b : Act) (r : Record) → i ≢ j → edited j b (edited i a r) ≡ edited i a (edited j b r)
unfolding edited
edited_both i j a b r n =
    ap (λ (v : View). with_view (with_view r i (after a (view_at r i))) j (after b v)) (changed_other r i (after a (view_at r i)) j (λ q. n (sym q)))
    ∙ changed_both r i j (after a (view_at r i)) (after b (view_at r j)) n
    ∙ ap (λ (v : View). with_view (with_view r j (after b (view_at r j))) i (after a v)) (sym (changed_other r j (after b (view_at r j)) i n))

-- p behind o
order_behind : (o p : Order) (r : Record) (i j : ℕ) → Allowed r → Accepted o i r → Accepted p j r → i ≢ j
    → order p (write (edited i o.act r)) ≡ limited (edited j p.act (edited i o.act r))
order_behind o p r i j f a b n =
    let x : Record = edited i o.act r in
    let here : view_at x j ≡ view_at r j = edited_other i o.act r j (λ q. n (sym q)) in
    order_limited p (write x) (read_there x (order_keeps o i r f a)) (edited_means i o.act r b.means) (ap count here ∙ b.count) (rw here b.passes)

pub orders_commute : (o p : Order) (bytes x y : List ℕ) → o.view ≢ p.view → order o bytes ≡ given x → order p bytes ≡ given y → order p x ≡ order o y
orders_commute o p bytes x y d g h =
    given_order o bytes g λ r i e a w.
    given_order p bytes h λ s j f c z.
    let q : s ≡ r = same_read bytes e f in
    let b : Accepted p j r = rw q at c in
    let n : i ≢ j = views_apart d a.means b.means in
    let k : Allowed r = (read_is bytes r [] e).0 in
    rw (w, z, q)
    (order_behind o p r i j k a b n ∙ ap limited (edited_both i j o.act p.act r n) ∙ sym (order_behind p o r j i k b a (λ t. n (sym t))))

-- ---- single orders on one view, one after another

-- what they make of the view
abbrev pub after_all : List Act → View → View
after_all [] v = v
after_all (a ∷ more) v = after_all more (after a v)

abbrev pub acts_of : List Call → List Act
acts_of cs = map (λ c. c.order.act) cs

-- each is about the view with that name
abbrev pub CallsOn : ViewName → List Call → Type 0
CallsOn view cs = All (λ c. c.order.view ≡ view) cs

-- all are accepted: only that view is another
pub taken_reads : (view : ViewName) (cs : List Call) (bytes : List ℕ) (r : Record) (i : ℕ) → read bytes ≡ got r [] → Means view r i → CallsOn view cs → AllTaken cs bytes
    → read (run cs bytes) ≡ got (with_view r i (after_all (acts_of cs) (view_at r i))) []
taken_reads view [] bytes r i e m on h = rw (same_record r i) e
taken_reads view (c ∷ cs) bytes r i e m on h =
    outcome_split c bytes r e
    (λ j a d. let q : j ≡ i = sym a.means.is ∙ ap (λ (x : ViewName). place_in x r.views) on.0 ∙ m.is in
    let b : Accepted c.order i r = rw q at a in
    let x : Record = edited i c.order.act r in
    let ih = taken_reads view cs (write x) x i (read_there x (order_keeps c.order i r (read_is bytes r [] e).0 b)) (edited_means i c.order.act r m) on.1 (rw (d, q) at h.1) in
    rw (d, q) (ih ∙ rw (edited_here i c.order.act r m.there, edited_again i c.order.act r (after_all (acts_of cs) (after c.order.act (view_at r i))))))
    (λ n z d. absurd (z (sym (ap number_of d) ∙ h.0)))

taken_front : (cs ds : List Call) (bytes : List ℕ) → AllTaken (cs ++ ds) bytes → AllTaken cs bytes × AllTaken ds (run cs bytes)
taken_front [] ds bytes h = (tt, h)
taken_front (c ∷ cs) ds bytes h = let (a, b) = taken_front cs ds (now_holds bytes (outcome c bytes)) h.1 in ((h.0, a), b)

taken_append : (cs ds : List Call) (bytes : List ℕ) → AllTaken cs bytes → AllTaken ds (run cs bytes) → AllTaken (cs ++ ds) bytes
taken_append [] ds bytes h k = k
taken_append (c ∷ cs) ds bytes h k = (h.0, taken_append cs ds (now_holds bytes (outcome c bytes)) h.1 k)

-- ---- some on one view and then some on another

pub head_all : (more : List Act) (v : View) → (after_all more v).head ≡ v.head
head_all [] v = refl
head_all (a ∷ more) v = head_all more (after a v) ∙ head_after a v

module _ (u v : ViewName) (d : u ≢ v) (bytes : List ℕ) (r : Record) (e : read bytes ≡ got r []) (i j : ℕ) (m : Means u r i) (k : Means v r j) where
  both_read : (cs ds : List Call) → CallsOn u cs → CallsOn v ds → AllTaken (cs ++ ds) bytes
      → read (run (cs ++ ds) bytes) ≡ got (with_view (with_view r i (after_all (acts_of cs) (view_at r i))) j (after_all (acts_of ds) (view_at r j))) []
  both_read cs ds a b t =
      let (x, y) = taken_front cs ds bytes t in
      let w : View = after_all (acts_of cs) (view_at r i) in
      let other : view_at (with_view r i w) j ≡ view_at r j = changed_other r i w j (λ q. views_apart d m k (sym q)) in
      let means : Means v (with_view r i w) j = changed_means r i w (head_all (acts_of cs) (view_at r i)) v k in
      let two = taken_reads v ds (run cs bytes) (with_view r i w) j (taken_reads u cs bytes r i e m a x) means b y in
      rw (run_append cs ds bytes) (rw other at two)

-- where both ways are accepted throughout
calls_commute : (u v : ViewName) → u ≢ v → (cs ds : List Call) (bytes : List ℕ) → All Byte bytes → CallsOn u cs → CallsOn v ds
    → AllTaken (cs ++ ds) bytes → AllTaken (ds ++ cs) bytes → run (cs ++ ds) bytes ≡ run (ds ++ cs) bytes
calls_commute u v d [] ds bytes f a b s t = rw (append-nil ds)
calls_commute u v d (c ∷ cs) [] bytes f a b s t = rw (append-nil cs)
calls_commute u v d (c ∷ cs) (g ∷ ds) bytes f a b s t =
    let x = outcome_accepted c bytes s.0 in
    let y = outcome_accepted g bytes t.0 in
    let r : Record = x.value in
    let e : read bytes ≡ got r [] = x.reads in
    let q : y.value ≡ r = same_read bytes e y.reads in
    let i : ℕ = x.place in
    let j : ℕ = y.place in
    let m : Means u r i = subst (λ (name : ViewName). Means name r i) a.0 x.order.means in
    let k : Means v r j = subst (λ (name : ViewName). Means name r j) b.0 (subst (λ (z : Record). Means g.order.view z j) q y.order.means) in
    let one_way = both_read u v d bytes r e i j m k (c ∷ cs) (g ∷ ds) a b s in
    let other_way = both_read v u (λ z. d (sym z)) bytes r e j i k m (g ∷ ds) (c ∷ cs) b a t in
    let same = changed_both r i j (after_all (acts_of (c ∷ cs)) (view_at r i)) (after_all (acts_of (g ∷ ds)) (view_at r j)) (views_apart d m k) in
    let allowed : Allowed r = (read_is bytes r [] e).0 in
    let (_, p, _) = read_back _ _ [] (run_bytes ((c ∷ cs) ++ (g ∷ ds)) bytes r allowed e f) one_way in
    let (_, z, _) = read_back _ _ [] (run_bytes ((g ∷ ds) ++ (c ∷ cs)) bytes r allowed e f) other_way in
    p ∙ ap write same ∙ sym z

-- ---- calls for orders or for lists of pairs

-- their single orders
abbrev pub orders_in : AnyCall → List Call
orders_in (one c) = c ∷ []
orders_in (list m) = singly m

abbrev all_in : List AnyCall → List Call
all_in [] = []
all_in (q ∷ qs) = orders_in q ++ all_in qs

in_append : (ps qs : List AnyCall) → all_in (ps ++ qs) ≡ all_in ps ++ all_in qs
in_append [] qs = refl
in_append (p ∷ ps) qs = ap (λ (cs : List Call). orders_in p ++ cs) (in_append ps qs) ∙ sym (append_assoc (orders_in p) (all_in ps) (all_in qs))

-- all of an accepted call are accepted, and come to what it does
accepted_in : (q : AnyCall) (bytes : List ℕ) → number_of (outcome_of q bytes) ≡ 0
    → AllTaken (orders_in q) bytes × (run (orders_in q) bytes ≡ now_holds bytes (outcome_of q bytes))
accepted_in (one c) bytes h = rw (one_outcome c bytes) ((rw (one_outcome c bytes) at h, tt), refl)
accepted_in (list m) bytes h =
    refused_case (λ e p. e ≢ 0) (outcome_of (list m) bytes) (any_told (list m) bytes) (λ e p d n. absurd (n (sym (ap number_of d) ∙ h)))
    (λ new d. let (_, t, x) = pairs_given m bytes new (sym (list_outcome m bytes) ∙ d) in (t, x ∙ rw d))

all_accepted : (qs : List AnyCall) (bytes : List ℕ) → AllAccepted qs bytes → AllTaken (all_in qs) bytes × (run_any qs bytes ≡ run (all_in qs) bytes)
all_accepted [] bytes h = (tt, refl)
all_accepted (q ∷ qs) bytes h =
    let (t, x) = accepted_in q bytes h.0 in
    let (s, y) = all_accepted qs (now_holds bytes (outcome_of q bytes)) h.1 in (
      taken_append (orders_in q) (all_in qs) bytes t (rw x s),
      y ∙ ap (run (all_in qs)) (sym x) ∙ sym (run_append (orders_in q) (all_in qs) bytes),
    )

words_on : (view : ViewName) (n lent : ℕ) (ws : List Word) → CallsOn view (map (word_call view n lent) ws)
words_on view n lent [] = tt
words_on view n lent (w ∷ ws) = (refl, words_on view n lent ws)

pub orders_on : (q : AnyCall) → CallsOn (view_of q) (orders_in q)
orders_on (one c) = (refl, tt)
orders_on (list m) = words_on m.view m.count m.lent (words m.list)

all_on : (view : ViewName) (qs : List AnyCall) → AllOn view qs → CallsOn view (all_in qs)
all_on view [] h = tt
all_on view (q ∷ qs) h = all_append (λ c. c.order.view ≡ view) (orders_in q) (all_in qs) (subst (λ (name : ViewName). CallsOn name (orders_in q)) h.0 (orders_on q)) (all_on view qs h.1)

pub views_commute : (u v : ViewName) (ps qs : List AnyCall) (bytes : List ℕ) → All Byte bytes → u ≢ v → AllOn u ps → AllOn v qs
    → AllAccepted (ps ++ qs) bytes → AllAccepted (qs ++ ps) bytes → run_any (ps ++ qs) bytes ≡ run_any (qs ++ ps) bytes
views_commute u v ps qs bytes f d a b s t =
    let (x, y) = all_accepted (ps ++ qs) bytes s in
    let (z, w) = all_accepted (qs ++ ps) bytes t in
    y ∙ ap (λ (cs : List Call). run cs bytes) (in_append ps qs)
    ∙ calls_commute u v d (all_in ps) (all_in qs) bytes f (all_on u ps a) (all_on v qs b) (rw (in_append ps qs) at x) (rw (in_append qs ps) at z)
    ∙ ap (λ (cs : List Call). run cs bytes) (sym (in_append qs ps)) ∙ sym w
