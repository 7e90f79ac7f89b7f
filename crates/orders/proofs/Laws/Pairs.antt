-- The call for a list of pairs, up to its orders: the refusals 13, 14, 17 and 25, behind those of the record; and where there is none,
-- its orders in turn. And the tests of one of these orders, on a view that has the count and an index.
use mathlib.Core.Path.{◌≡◌, refl, sym, ap, ◌∙◌}
use mathlib.Core.Logic.{◌≢◌}
use Prim.Native.Nat.{ℕ, ◌-◌, ◌*◌, ◌≤◌, ◌<◌}
use native.Mathlib.Omega.{arith}
use mathlib.Core.Bool.{Bool, true, false, not, ◌&&◌}
use mathlib.Core.List.{List, [], ◌∷◌, ◌++◌}
use lib.ListN.{length}
use lib.Dec.{T, leb, ltb, eqb}
use mir.Facts.{yes_eqb, no_eqb, eqb_yes}
use Rattle.bits.specs.Choice.{pick}
use Rattle.bits.specs.ChoiceLaws.{pick_yes, pick_no, pick_case, pick_split, split, eq_split}
use Rattle.bits.specs.Codec.{Read}
use Rattle.bits.specs.Codec as C
use Rattle.outcome.specs.Refusals.{no_view, other_count, bad_lines, no_index, already_so, too_long, bad_pairs}
use Rattle.outcome.specs.Outcome.{Outcome, refused, given}
use Rattle.format.specs.Limits.{most_bytes}
use Rattle.format.specs.View.{View}
use Rattle.format.specs.Record.{Record, read, size}
use Rattle.format.specs.Places.{view_at, count}
use Rattle.format.specs.Named.{place_in, Means}
use Rattle.format.specs.declared.ViewName.{ViewName}
use Rattle.format.specs.Call.{from_read, on_record, in_view, on_view}
use Rattle.format.proofs.Laws.Call.{on_view_lem, no_view_lem, given_view}
use Rattle.format.proofs.Laws.Named.{here}
use Rattle.format.proofs.Laws.Record.{read_is}
use Rattle.orders.specs.Act.{Act, Word, indexed?, join, part, near, after}
use Rattle.orders.specs.Order.{edited, first_bad, tests, verdict}
use Rattle.orders.specs.Listed.{words, shape_ok}
use Rattle.orders.specs.Called.{pair_act, word_act, word_order}
use Rattle.orders.specs.Accept.{ReadyView}
use Rattle.orders.specs.Pairs.{PairsCall, singly, in_turn, pairs_tests, pairs_verdict, pairs_on, pairs}
use Rattle.orders.proofs.Laws.Near.{segments_after, lines_after, indexed_after}
use Rattle.orders.proofs.Laws.Accept.{pass_zero, zero_pass}
use Rattle.orders.proofs.Laws.Refuse.{first_fail, verdict_behind}
use Rattle.orders.proofs.Laws.Keep.{edited_here, edited_means}

-- ---- a list that has its shape has an order

pub words_some : {X : Type 0} (list : List ℕ) → T (shape_ok list) → ((w : Word) (ws : List Word) → words list ≡ w ∷ ws → X) → X
unfolding shape_ok
words_some [] t k = absurd t
words_some (a ∷ []) t k = absurd t
words_some (a ∷ b ∷ []) t k = absurd t
words_some (a ∷ b ∷ c ∷ []) t k = absurd t
words_some (a ∷ b ∷ c ∷ d ∷ []) t k = absurd t
words_some (a ∷ b ∷ c ∷ d ∷ e ∷ []) t k = absurd t
words_some (a ∷ b ∷ c ∷ d ∷ e ∷ f ∷ list) t k = k _ _ refl

-- ---- one of its orders, on the view that they are about

-- the own tests of an order about a pair
pub word_tests_lem : (joins : Bool) (a b : ℕ) (v : View) → tests (pair_act joins a b) v
    ≡ (indexed? v, no_index) ∷ (ltb a (count v) && ltb b (count v), bad_lines)
    ∷ (pick joins (not (near v a b)) (near v a b), already_so) ∷ []
unfolding tests
word_tests_lem true a b v = refl
word_tests_lem false a b v = refl

-- it leaves the lines and the segments
pub pair_lines : (joins : Bool) (a b : ℕ) (v : View) → (after (pair_act joins a b) v).lines ≡ v.lines
pair_lines true a b v = lines_after (join a b) v
pair_lines false a b v = lines_after (part a b) v

pub pair_segments : (joins : Bool) (a b : ℕ) (v : View) → (after (pair_act joins a b) v).segments ≡ v.segments
pair_segments true a b v = segments_after (join a b) v
pair_segments false a b v = segments_after (part a b) v

-- the tests that are left where its view is ready
abbrev pub word_tests : ℕ → Word → Record → List (Bool × ℕ)
word_tests i w r =
    let v : View = view_at r i in
    (ltb w.one (count v) && ltb w.other (count v), bad_lines)
    ∷ (pick w.joins (not (near v w.one w.other)) (near v w.one w.other), already_so)
    ∷ (leb (size (edited i (word_act w) r)) most_bytes, too_long) ∷ []

module _ (view : ViewName) (n : ℕ) (w : Word) (r : Record) (y : ReadyView view n r) where
  pub verdict_word : verdict (word_order view n w) y.place r ≡ first_bad (word_tests y.place w r)
  verdict_word =
      let v : View = view_at r y.place in
      verdict_behind (word_order view n w) y.place r y.count
      ∙ ap (λ (ts : List (Bool × ℕ)). first_bad (ts ++ (leb (size (edited y.place (word_act w) r)) most_bytes, too_long) ∷ []))
      (word_tests_lem w.joins w.one w.other v)
      ∙ pick_yes (indexed? v) _ _ y.indexed

  -- an accepted one leaves such a view, wherever it is
  pub ready_next : {i : ℕ} → Means view r i → ReadyView view n (edited i (word_act w) r)
  ready_next {i} m =
      let z : i ≡ y.place = sym m.is ∙ y.means.is in
      let v : View = view_at r y.place in
      let a : Act = word_act w in
      rw z
      (let e : view_at (edited y.place a r) y.place ≡ after a v = edited_here y.place a r y.means.there in
      record {
        place = y.place;
        means = edited_means y.place a r y.means;
        count = ap count e ∙ ap length (pair_lines w.joins w.one w.other v) ∙ y.count;
        indexed = rw (e, indexed_after a v) y.indexed;
      })

-- ---- the call

-- no record
pub unread : {A : Type 0} (view : ViewName) (f : ℕ → Record → Outcome A) (bytes : List ℕ) {e left : ℕ} → read bytes ≡ C.refused e left
    → on_view view f bytes ≡ refused e (8 * length bytes - left)
unfolding on_view on_record
unread view f bytes q = ap (from_read (8 * length bytes) (in_view view f)) q

module _ (m : PairsCall) (bytes : List ℕ) where
  -- every call on its view is refused
  pub pairs_view : {e p : ℕ} → ((f : ℕ → Record → Outcome ℕ) → on_view m.view f bytes ≡ refused e p) → pairs m bytes ≡ refused e p
  unfolding pairs
  pairs_view h = h (pairs_on m bytes)

  module _ {r : Record} (q : read bytes ≡ C.got r []) where
    pub pairs_no_view : length r.views ≤ place_in m.view r.views → pairs m bytes ≡ refused no_view 0
    pairs_no_view l = pairs_view (λ f. no_view_lem m.view f bytes q l)

    module _ {i : ℕ} (l : Means m.view r i) where
      pub pairs_on_lem : pairs m bytes ≡ pairs_on m bytes i r
      unfolding pairs
      pairs_on_lem = on_view_lem m.view (pairs_on m bytes) bytes q l

      pairs_bad : (n : ℕ) → pairs_verdict m i r ≡ n → 0 < n → pairs m bytes ≡ refused n 0
      pairs_bad n v k =
          pairs_on_lem
          ∙ pick_no (eqb (pairs_verdict m i r) 0) _ _ (no_eqb {a = pairs_verdict m i r} {b = 0} (λ z. absurd (omega (arith, v, z, k))))
          ∙ ap (λ (e : ℕ). refused e 0) v

      pub pairs_count : count (view_at r i) ≢ m.count → pairs m bytes ≡ refused other_count 0
      unfolding pairs_verdict pairs_tests
      pairs_count n = pairs_bad other_count (pick_no (eqb (count (view_at r i)) m.count) _ _ (no_eqb n)) (omega arith)

      module _ (c : count (view_at r i) ≡ m.count) where
        -- it has the count
        abbrev counted : Bool × ℕ
        counted = (eqb (count (view_at r i)) m.count, other_count)

        pub pairs_index : T (not (indexed? (view_at r i))) → pairs m bytes ≡ refused no_index 0
        unfolding pairs_verdict pairs_tests
        pairs_index t =
            pairs_bad no_index
            (first_fail (counted ∷ []) (indexed? (view_at r i)) no_index ((shape_ok m.list, bad_pairs) ∷ []) (yes_eqb c, tt) t)
            (omega arith)

        module _ (t : T (indexed? (view_at r i))) where
          pub pairs_shape : T (not (shape_ok m.list)) → pairs m bytes ≡ refused bad_pairs 0
          unfolding pairs_verdict pairs_tests
          pairs_shape s =
              pairs_bad bad_pairs
              (first_fail (counted ∷ (indexed? (view_at r i), no_index) ∷ []) (shape_ok m.list) bad_pairs []
              (yes_eqb c, (t, tt)) s) (omega arith)

          pub pairs_turn : T (shape_ok m.list) → pairs m bytes ≡ in_turn 0 (singly m) bytes
          unfolding pairs_verdict pairs_tests
          pairs_turn s =
              pairs_on_lem
              ∙ pick_yes (eqb (pairs_verdict m i r) 0) _ _
              (yes_eqb {a = pairs_verdict m i r} {b = 0} (pass_zero (pairs_tests m (view_at r i)) (yes_eqb c, (t, (s, tt)))))

-- its own tests have passed
pub ready : (m : PairsCall) (r : Record) {i : ℕ} → Means m.view r i → pairs_verdict m i r ≡ 0
    → ReadyView m.view m.count r × T (shape_ok m.list)
unfolding pairs_verdict pairs_tests
ready m r {i} l z =
    let h = zero_pass (λ e. e ≢ 0) (λ e n. n) (pairs_tests m (view_at r i)) (omega arith, (omega arith, (omega arith, tt))) z in
    (record { place = i; means = l; count = eqb_yes h.0; indexed = h.1.0 }, h.1.1.0)

-- what is given is given by its orders in turn
pub given_turn : {X : Type 0} (m : PairsCall) (bytes new : List ℕ) → pairs m bytes ≡ given new
    → ((r : Record) → read bytes ≡ C.got r [] → ReadyView m.view m.count r → T (shape_ok m.list)
    → in_turn 0 (singly m) bytes ≡ given new → X) → X
unfolding pairs
given_turn m bytes new d k =
    given_view m.view (pairs_on m bytes) bytes new d λ r rest i q l g.
    pick_split (eqb (pairs_verdict m i r) 0) _ _ g
    (λ t y. let (h, s) = ready m r l (eqb_yes t) in k r (q ∙ ap (C.got r) (read_is bytes r rest q).3) h s y)
    (λ t y. let z : ◌≡◌ {A = ℕ} 0 1 = cc in absurd (omega arith))

-- ---- what the bytes are, up to the list

pub pairs_ways : {X : Type 0} (m : PairsCall) (bytes : List ℕ) → ((e left : ℕ) → read bytes ≡ C.refused e left → X)
    → ((r : Record) → read bytes ≡ C.got r [] → length r.views ≤ place_in m.view r.views → X)
    → ((r : Record) (i : ℕ) → read bytes ≡ C.got r [] → Means m.view r i → count (view_at r i) ≢ m.count → X)
    → ((r : Record) (i : ℕ) → read bytes ≡ C.got r [] → Means m.view r i → count (view_at r i) ≡ m.count
    → T (not (indexed? (view_at r i))) → X)
    → ((r : Record) → read bytes ≡ C.got r [] → ReadyView m.view m.count r → X) → X
pairs_ways {X} m bytes unread_way view_way count_way index_way ready_way = go (read bytes) refl
  where
    in_view_lem : (r : Record) (i : ℕ) → read bytes ≡ C.got r [] → Means m.view r i → X
    in_view_lem r i q l =
        eq_split (count (view_at r i)) m.count
        (λ c. pick_case (λ (b : Bool). X) (indexed? (view_at r i)) true false
        (λ t. ready_way r q (record { place = i; means = l; count = c; indexed = t })) (index_way r i q l c))
        (count_way r i q l)

    go : (o : Read Bool Record) → read bytes ≡ o → X
    go (C.refused e left) q = unread_way e left q
    go (C.got r rest) q =
        let d : read bytes ≡ C.got r [] = q ∙ ap (C.got r) (read_is bytes r rest q).3 in
        let i : ℕ = place_in m.view r.views in
        split (length r.views) i (view_way r d) (λ l. in_view_lem r i d (here m.view r l))
