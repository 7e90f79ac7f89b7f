-- THE THEOREM on sequences of orders: start from bytes that read as a record and feed each result to the next order. The bytes
-- that hold at the end are an allowed record's, each view of it is what the accepted orders on that view say, and what they do not
-- name keeps its bytes.
use mathlib.Core.Path.{◌≡◌, refl, sym, ap, ◌∙◌}
use mathlib.Core.Logic.{◌≢◌}
use Prim.Native.Nat.{ℕ, ◌≤◌, ◌<◌}
use native.Mathlib.Omega.{arith}
use mathlib.Core.List.{List, [], ◌∷◌, ◌++◌}
use lib.ListN.{length}
use lib.Seq.{slice}
use lib.Dec.{eqb, leb, eqb→eq}
use mir.Facts.{T_not, eqb_no}
use Rattle.bits.specs.Choice.{pick}
use Rattle.bits.specs.ChoiceLaws.{pick_case, eqb_false, split}
use Rattle.bits.specs.Lists.{All}
use Rattle.bits.specs.Bytes.{Byte}
use Rattle.bits.specs.Codec.{got}
use Rattle.outcome.specs.Refusals.{no_view, other_count, no_room}
use Rattle.outcome.specs.Outcome.{Outcome, refused, given, room, number_of}
use Rattle.format.specs.View.{View}
use Rattle.format.specs.Record.{Record, read, write, Allowed}
use Rattle.format.proofs.Laws.Call.{on_view_lem, no_view_lem}
use Rattle.format.proofs.Laws.Size.{write_bytes}
use Rattle.format.proofs.Laws.Record.{read_there, read_back}
use Rattle.format.specs.Places.{count, view_at, segment_at}
use Rattle.format.specs.Named.{named, name_of, same_name, place_in, Means}
use Rattle.format.specs.declared.ViewName.{ViewName}
use Rattle.format.specs.declared.ViewHeader.{ViewHeader}
use Rattle.format.proofs.Laws.Named.{same_is, is_same, here, means_name, unique}
use Rattle.orders.specs.Act.{remove}
use Rattle.orders.specs.Order.{Order, edited, verdict, Accepted, ordered, order}
use Rattle.orders.specs.History.{Call, outcome, now_holds, run, History, fresh, tell, history, Follows}
use Rattle.find_parts.specs.Finds.{segment_stored}
use Rattle.rewrite.proofs.Laws.Record.{all_fit}
use Rattle.pores.proofs.Laws.Keep.{kept_other, kept_pores}
use Rattle.orders.specs.Bytes.{view_part, view_header_part, extended_part, segment_part}
use Rattle.orders.specs.Kept.{history_of, Kept}
use Rattle.orders.proofs.Laws.Accept.{accepted, verdict_count}
use Rattle.orders.proofs.Laws.Keep.{edited_head, edited_count, edited_here, edited_other, edited_place, edited_means, order_keeps, allowed_right}
use Rattle.orders.proofs.Laws.Bytes.{segment_part_lem, same_front, same_fields, same_view, same_header, same_segment, same_extended}
use Rattle.orders.proofs.Laws.Story.{follows_fresh, follows_act, follows_count, segment_kept, segments_stay, removal_shortens}

-- ---- one call

module _ (c : Call) (bytes : List ℕ) (r : Record) (p : read bytes ≡ got r []) where
  -- the view is there
  pub outcome_is : {i : ℕ} → Means c.order.view r i → outcome c bytes ≡ room c.lent (ordered c.order i r)
  unfolding outcome order
  outcome_is m = ap (room c.lent) (on_view_lem c.order.view (ordered c.order) bytes p m)

  pub outcome_none : length r.views ≤ place_in c.order.view r.views → outcome c bytes ≡ refused no_view 0
  unfolding outcome order
  outcome_none l = ap (room c.lent) (no_view_lem c.order.view (ordered c.order) bytes p l)

  -- it gives the edited record, or is refused, without a place
  pub outcome_split : {X : Type 0} → ((i : ℕ) → Accepted c.order i r → outcome c bytes ≡ given (write (edited i c.order.act r)) → X)
      → ((e : ℕ) → e ≢ 0 → outcome c bytes ≡ refused e 0 → X) → X
  outcome_split {X} f g =
      let i : ℕ = place_in c.order.view r.views in
      let n : ℕ = verdict c.order i r in
      let new : List ℕ = write (edited i c.order.act r) in
      split (length r.views) i
      (λ l. g no_view (omega arith) (outcome_none l))
      (λ l. pick_case (λ (o : Outcome ℕ). outcome c bytes ≡ room c.lent o → X) (eqb n 0) _ _
      (λ t. pick_case (λ (o : Outcome ℕ). outcome c bytes ≡ o → X) (leb (length new) c.lent) _ _
      (λ u e. f i (accepted c.order r (here c.order.view r l) (eqb→eq n 0 t)) e) (λ u e. g no_room (omega arith) e))
      (λ t e. g n (eqb_no t) e)
      (outcome_is (here c.order.view r l)))

-- ---- a sequence

-- what a sequence leaves, whatever the views were before
record Runs (cs : List Call) (r : Record) (bytes : List ℕ) : Type 0 where
  last : Record
  reads : read (run cs bytes) ≡ got last []
  allowed : Allowed last
  head : last.head ≡ r.head
  count : length last.views ≡ length r.views
  places : (view : ViewName) → place_in view last.views ≡ place_in view r.views
  follows : (i : ℕ) → i < length r.views → (v₀ : View) (h : History) → Follows v₀ (view_at r i) h
      → Follows v₀ (view_at last i) (history (name_of v₀) cs bytes h)

runs_none : (bytes : List ℕ) (r : Record) → Allowed r → read bytes ≡ got r [] → Runs [] r bytes
runs_none bytes r a p =
    record { last = r; reads = p; allowed = a; head = refl; count = refl; places = λ view. refl; follows = λ i l v₀ h f. f }

-- an accepted order on the view with v₀'s name is the one that view i follows: no other view has that name
follows_one : (o : Order) (p : ℕ) (r : Record) → Allowed r → Accepted o p r → (i : ℕ) → i < length r.views → (v₀ : View) (h : History)
    → Follows v₀ (view_at r i) h → Follows v₀ (view_at (edited p o.act r) i) (pick (same_name o.view (name_of v₀)) (tell o.act h) h)
follows_one o p r a b i l v₀ h f =
    let e : name_of (view_at r i) ≡ name_of v₀ = ap (λ (x : ViewHeader). named x.position x.number) f.head in
    let m : name_of (view_at r p) ≡ o.view = means_name b.means in
    pick_case (λ (k : History). Follows v₀ (view_at (edited p o.act r) i) k) (same_name o.view (name_of v₀)) _ _
    (λ t. let q : p ≡ i = unique r a p i b.means.there l (m ∙ same_is o.view (name_of v₀) t ∙ sym e) in
    rw (← q, edited_here p o.act r b.means.there)
    (follows_act v₀ (view_at r p) h o.act (allowed_right r a p b.means.there) b.passes (rw q f)))
    (λ t. let n : i ≢ p = λ q. T_not (same_name o.view (name_of v₀)) (is_same o.view (name_of v₀) (sym m ∙ ap (λ (j : ℕ). name_of (view_at r j)) (sym q) ∙ e)) t in
    rw (edited_other p o.act r i n) f)

runs_one : (c : Call) (bytes : List ℕ) (r : Record) → Allowed r → read bytes ≡ got r [] → Runs (c ∷ []) r bytes
runs_one c bytes r a p =
    let o : Order = c.order in
    outcome_split c bytes r p
    (λ j b e. let x : Record = edited j o.act r in
    let k : Allowed x = order_keeps o j r a b in
    record {
      last = x;
      reads = rw e (read_there x k);
      allowed = k;
      head = edited_head j o.act r;
      count = edited_count j o.act r;
      places = edited_place j o.act r;
      follows = λ i l v₀ h f. rw e (follows_one o j r a b i l v₀ h f);
    })
    (λ n d e. record {
      last = r;
      reads = rw e p;
      allowed = a;
      head = refl;
      count = refl;
      places = λ view. refl;
      follows = λ i l v₀ h f. rw (e, eqb_false n 0 d) f;
    })

runs_all : (cs : List Call) (bytes : List ℕ) (r : Record) → Allowed r → read bytes ≡ got r [] → Runs cs r bytes
runs_all [] bytes r a p = runs_none bytes r a p
runs_all (c ∷ cs) bytes r a p =
    let new : List ℕ = now_holds bytes (outcome c bytes) in
    let n : Runs (c ∷ []) r bytes = runs_one c bytes r a p in
    let m : Runs cs n.last new = runs_all cs new n.last n.allowed n.reads in
    record {
      last = m.last;
      reads = m.reads;
      allowed = m.allowed;
      head = m.head ∙ n.head;
      count = m.count ∙ n.count;
      places = λ view. m.places view ∙ n.places view;
      follows = λ i l v₀ h f. m.follows i (omega (arith, n.count)) v₀ _ (n.follows i l v₀ h f);
    }

-- what holds is bytes
pub run_bytes : (cs : List Call) (bytes : List ℕ) (r : Record) → Allowed r → read bytes ≡ got r [] → All Byte bytes → All Byte (run cs bytes)
run_bytes [] bytes r a p h = h
run_bytes (c ∷ cs) bytes r a p h =
    let n : Runs (c ∷ []) r bytes = runs_one c bytes r a p in
    let k : All Byte (now_holds bytes (outcome c bytes)) = outcome_split c bytes r p (λ i z e. rw e (write_bytes (edited i c.order.act r))) (λ m d e. rw e h) in
    run_bytes cs (now_holds bytes (outcome c bytes)) n.last n.allowed n.reads k

-- ---- the theorem

pub orders_follow : (cs : List Call) (bytes : List ℕ) (r : Record) → All Byte bytes → read bytes ≡ got r [] → Kept cs r bytes (run cs bytes)
orders_follow cs bytes r h p =
    let (a, e, _) = read_back bytes r [] h p in
    let m : Runs cs r bytes = runs_all cs bytes r a p in
    let now : List ℕ = run cs bytes in
    let x : Record = m.last in
    let k : All Byte now = run_bytes cs bytes r a p h in
    let d : now ≡ write x = (read_back now x [] k m.reads).1 in
    let f : (i : ℕ) → i < length r.views → Follows (view_at r i) (view_at x i) (history_of i cs r bytes) =
    λ i l. m.follows i l (view_at r i) (fresh (view_at r i)) (follows_fresh (view_at r i) (all_fit i r l a)) in
    record {
      bytes = k;
      last = x;
      allowed = m.allowed;
      reads = m.reads;
      written = d;
      head = m.head;
      count = m.count;
      follows = f;
      places = m.places;
      front = ap (slice 0 8) d ∙ same_front r x a m.allowed m.head m.count ∙ ap (slice 0 8) (sym e);
      fields = ap (slice 12 24) d ∙ same_fields r x a m.allowed m.head m.count ∙ ap (slice 12 24) (sym e);
      spared = λ i l z. ap (view_part x i) d ∙ same_view r x a m.allowed m.head m.count i l ((f i l).spared z) ∙ ap (view_part r i) (sym e);
      headers = λ i l. ap (view_header_part x i) d ∙ same_header r x a m.allowed m.head m.count i l (f i l).head ∙ ap (view_header_part r i) (sym e);
      segments = λ i place l k n. let (j, g) = segment_kept (f i l) place k in
          ap (segment_part x i place) d
          ∙ same_segment r x a m.allowed m.head m.count i l place k j (g ∙ kept_other (count (view_at r i)) (history_of i cs r bytes).left (segment_at (view_at r i) place) n)
          ∙ ap (segment_part r i place) (sym e);
      pores = λ i place l k n p y. let (j, g) = segment_kept (f i l) place k in
          ap (segment_part x i place) d ∙ segment_part_lem x i m.allowed (omega (arith, m.count)) place j
          ∙ ap segment_stored (g ∙ kept_pores (count (view_at r i)) (history_of i cs r bytes).left (segment_at (view_at r i) place) n p y);
      extended = λ i l z. ap (extended_part x i) d ∙ same_extended r x a m.allowed m.head m.count i l (segments_stay (f i l) (all_fit i r l a) z) ∙ ap (extended_part r i) (sym e);
    }

-- ---- a removal comes only once

removal_refused : (o : Order) (i : ℕ) (rs : List ℕ) (cs : List Call) (r : Record) (n : ℕ) → Allowed r → o.act ≡ remove rs → Accepted o i r
    → outcome (record { order = o; lent = n }) (run cs (write (edited i o.act r))) ≡ refused other_count 0
removal_refused o i rs cs r n a e b =
    let v : View = view_at r i in
    let x : Record = edited i o.act r in
    let k : Allowed x = order_keeps o i r a b in
    let m : Runs cs x (write x) = runs_all cs (write x) x k (read_there x k) in
    let less : count (view_at x i) < count v = rw (edited_here i o.act r b.means.there, e) (removal_shortens rs v (rw e at b.passes)) in
    let means : Means o.view x i = edited_means i o.act r b.means in
    let f = m.follows i means.there (view_at x i) (fresh (view_at x i)) (follows_fresh (view_at x i) (all_fit i x means.there k)) in
    let still : Means o.view m.last i = record { is = m.places o.view ∙ means.is; there = omega (arith, means.there, m.count) } in
    let other : verdict o i m.last ≡ other_count = verdict_count o i m.last (omega (arith, follows_count _ _ _ f, b.count)) in
    outcome_is (record { order = o; lent = n }) (run cs (write x)) m.last m.reads still ∙ rw other

pub run_append : (before after : List Call) (bytes : List ℕ) → run (before ++ after) bytes ≡ run after (run before bytes)
run_append [] after bytes = refl
run_append (c ∷ before) after bytes = run_append before after (now_holds bytes (outcome c bytes))

-- a removal that was accepted is refused wherever it comes again: the count that it names is gone
pub removal_again : (before : List Call) (c : Call) (after : List Call) (rs bytes : List ℕ) (r : Record) → All Byte bytes → read bytes ≡ got r []
    → c.order.act ≡ remove rs → number_of (outcome c (run before bytes)) ≡ 0
    → (n : ℕ) → outcome (record { order = c.order; lent = n }) (run (before ++ c ∷ after) bytes) ≡ refused other_count 0
removal_again before c after rs bytes r h p e z n =
    let m : Runs before r bytes = runs_all before bytes r (read_back bytes r [] h p).0 p in
    rw (run_append before (c ∷ after) bytes)
    (outcome_split c (run before bytes) m.last m.reads (λ i y d. rw d (removal_refused c.order i rs after m.last n m.allowed e y))
    (λ k d y. absurd (d (sym (rw y) ∙ z))))
