-- Orders about pairs on a view that is found: a list of them judged and carried out; and one order, which is a list of one.
use mathlib.Core.Path.{◌≡◌, sym, ap, ◌∙◌, subst}
use mathlib.Core.Logic.{◌⊎◌, inl, inr}
use Prim.Native.Nat.{ℕ, ◌≤◌, ◌<◌}
use native.Mathlib.Omega.{arith}
use mathlib.Core.Bool.{Bool, not, ◌&&◌}
use mathlib.Core.List.{List, [], ◌∷◌, map}
use lib.ListN.{length}
use lib.Dec.{T, ltb}
use mir.Facts.{no_ltb}
use Rattle.bits.specs.ChoiceLaws.{not_first, not_second}
use Rattle.outcome.specs.Refusals.{bad_lines, no_index, bad_pairs}
use Rattle.outcome.specs.Outcome.{Outcome, refused, Answers}
use Rattle.outcome.specs.declared.Answer.{Answer}
use Rattle.std.specs.Prelude.{Result}
use Rattle.outcome.specs.Why.{answer_of}
use Rattle.outcome.specs.declared.refusal.Refused.{Refused}
use Rattle.outcome.proofs.Laws.{room_answers, answer_refused}
use Rattle.format.specs.View.{View}
use Rattle.format.specs.Places.{view_at, count}
use Rattle.format.specs.declared.ViewName.{ViewName}
use Rattle.orders.specs.Act.{Word, indexed?}
use Rattle.orders.specs.Listed.{shape_ok}
use Rattle.orders.specs.Order.{order}
use Rattle.orders.specs.Called.{pair_act, pair_order}
use Rattle.orders.specs.History.{outcome}
use Rattle.orders.specs.Pairs.{pairs_call, word_call, singly, in_turn, pairs}
use Rattle.orders.proofs.Laws.Pairs.{word_tests_lem, pairs_index, pairs_shape, pairs_turn}
use Rattle.orders.proofs.Laws.Turn.{turn_one}
use Rattle.find_parts.specs.declared.site.Site.{Site}
use Rattle.order_words.specs.After.{heard_in, record_after}
use Rattle.order_words.specs.Looked.{OneThere, OneWord}
use Rattle.order_words.proofs.Laws.Shape.{shaped}
use Rattle.order_record.specs.Rebuilt.{new_record, Placed}
use Rattle.order_record.proofs.Laws.Extended.{all_fit}
use Rattle.order_record.proofs.Laws.Acts.{record_worded}
use Rattle.order_view.specs.Named.{Named, NotNamed}
use Rattle.order_carry.specs.Carried.{held_to, CarriedOut}
use Rattle.order_pairs.specs.Judged.{OrdersThere, AllRight, OneRefused}
use Rattle.order_pairs.proofs.Laws.Limits.{words_placed}
use Rattle.ordering.specs.Orders.{NotIndexed, PairsThere, PairsDone}
use Rattle.ordering.proofs.Laws.View.{counted, right, few, not_indexed, is_indexed, own_refused}

-- ---- a list

module _ {s : List ℕ} {x : Site} {list : List ℕ} (t : PairsThere s x list) where
  abbrev pub list_there : OrdersThere s x list
  list_there =
      record { there = record { value = t.named.value; reads = t.named.reads; place = t.named.place; at = t.named.at; index = t.index }; shape = t.shape }

  pub list_refused : {before : List ℕ} {e p : ℕ} → OneRefused s x list (length before) e p → PairsDone s x list before before (record { number = e; place = p; length = 0 })
  list_refused {before} R = record { is = λ view n F. answer_refused (λ xs. xs) (length before) before (R.is view n F) }

  pub list_placed : {lent last : ℕ} → AllRight s x list lent last → Placed s x list []
  list_placed A =
      let S = shaped list t.shape in
      words_placed (record { there = list_there.there; few = omega (arith, S.whole, S.few); passed = A.passed t.view t.count t.named })

  pub list_done : {before after : List ℕ} {last : ℕ} {r : Result ℕ Refused} → AllRight s x list (length before) last → CarriedOut s x list [] last before after r → PairsDone s x list before after (answer_of r)
  list_done {before} {after} {last} {r} A C =
      record {
        is = λ view n F.
            let S = shaped list t.shape in
            let z : new_record [] list F.place F.value ≡ record_after F.place (heard_in list) F.value =
            record_worded F.place list F.value F.at.there (all_fit _ F.at.segments.value) (right F) (A.passed view n F) (omega (arith, S.whole, S.some)) in
            let h = C.is F.value F.place F.reads F.at (λ l. rw z (A.allowed view n F (rw z at l))) in
            subst (λ (u : Outcome ℕ). Answers u before after (answer_of r)) (ap (held_to last (length before)) z ∙ sym (A.is view n F)) h;
      }

module _ {s : List ℕ} {view : ViewName} {n : ℕ} {x : Site} (F : Named s view n x) where
  abbrev v : View
  v = view_at F.value F.place

  pub there : {list : List ℕ} → x.index.from < x.index.to → T (shape_ok list) → PairsThere s x list
  there l h = record { view = view; count = n; named = F; index = l; shape = h }

  -- ---- the call for a list

  module _ (list before : List ℕ) where
    pub pairs_no_index : x.index.to ≤ x.index.from → pairs (pairs_call view n list before) s ≡ refused no_index 0
    pairs_no_index l = pairs_index (pairs_call view n list before) s F.reads F.means (counted F) (not_indexed F l)

    module _ (l : x.index.from < x.index.to) where
      pub pairs_no_shape : T (not (shape_ok list)) → pairs (pairs_call view n list before) s ≡ refused bad_pairs 0
      pairs_no_shape h = pairs_shape (pairs_call view n list before) s F.reads F.means (counted F) (is_indexed F l) h

      pub pairs_done : {after : List ℕ} {a : Answer} → T (shape_ok list) → PairsDone s x list before after a → Answers (pairs (pairs_call view n list before) s) before after a
      pairs_done {after} {a} h D =
          subst (λ (u : Outcome ℕ). Answers u before after a) (sym (pairs_turn (pairs_call view n list before) s F.reads F.means (counted F) (is_indexed F l) h)) (D.is view n F)

  -- ---- one order

  module _ (a b : ℕ) (joins : Bool) where
    pub pair_no_index : x.index.to ≤ x.index.from → order (pair_order view n a b joins) s ≡ refused no_index 0
    pair_no_index l = own_refused F (pair_act joins a b) [] (indexed? v) no_index _ (word_tests_lem joins a b v) tt (not_indexed F l) (omega arith)

    module _ (l : x.index.from < x.index.to) where
      abbrev both : Bool
      both = ltb a (count v) && ltb b (count v)

      bad_pair : T (not both) → order (pair_order view n a b joins) s ≡ refused bad_lines 0
      bad_pair t = own_refused F (pair_act joins a b) ((indexed? v, no_index) ∷ []) both bad_lines _ (word_tests_lem joins a b v) (is_indexed F l, tt) t (omega arith)

      no_first : n ≤ a → order (pair_order view n a b joins) s ≡ refused bad_lines 0
      no_first k = bad_pair (not_first (ltb a (count v)) (ltb b (count v)) (no_ltb {a = a} (omega (arith, counted F))))

      no_second : n ≤ b → order (pair_order view n a b joins) s ≡ refused bad_lines 0
      no_second k = bad_pair (not_second (ltb a (count v)) (ltb b (count v)) (no_ltb {a = b} (omega (arith, counted F))))

      -- as code tests them, one after the other
      pub no_line : (n ≤ a) ⊎ ((a < n) × (n ≤ b)) → order (pair_order view n a b joins) s ≡ refused bad_lines 0
      no_line (inl k) = no_first k
      no_line (inr (_, k)) = no_second k

    -- their numbers have 16 bits
    pub one_there : a < n → b < n → OneThere a b
    one_there k l = record { first = omega (arith, few F, counted F); second = omega (arith, few F, counted F) }

    -- its outcome is that of the list
    pub one_done : {list before after : List ℕ} {c : Answer} → OneWord a b joins list → PairsDone s x list before after c → Answers (order (pair_order view n a b joins) s) before after c
    unfolding outcome
    one_done {list} {before} {after} {c} W D =
        let w : Word = record { one = a; other = b; joins = joins } in
        let e : in_turn 0 (singly (pairs_call view n list before)) s ≡ outcome (word_call view n (length before) w) s =
        ap (λ (ws : List Word). in_turn 0 (map (word_call view n (length before)) ws) s) W.is ∙ turn_one (word_call view n (length before) w) s F.value F.reads in
        room_answers (subst (λ (u : Outcome ℕ). Answers u before after c) e (D.is view n F))

-- ---- the view and its index

pub not_there : {s : List ℕ} {view : ViewName} {n e p : ℕ} → NotNamed s view n e p → NotIndexed s view n e p
not_there N = record { pair = λ a b joins. N.order (pair_act joins a b); pairs = λ list before. N.pairs list (length before) }

pub without_index : {s : List ℕ} {view : ViewName} {n : ℕ} {x : Site} → Named s view n x → x.index.to ≤ x.index.from → NotIndexed s view n no_index 0
without_index F l = record { pair = λ a b joins. pair_no_index F a b joins l; pairs = λ list before. pairs_no_index F list before l }
