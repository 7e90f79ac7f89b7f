-- One order of a list given to the record that those before it left: refused by its own tests, refused by the size that it leaves, or
-- accepted. What comes of the list is told by each.
use mathlib.Core.Path.{◌≡◌, refl, sym, ap, ◌∙◌}
use mathlib.Core.Logic.{◌≢◌}
use Prim.Native.Nat.{ℕ, suc, ◌≤◌, ◌<◌}
use native.Mathlib.Omega.{arith}
use mathlib.Core.Bool.{Bool, true, false}
use mathlib.Core.List.{List, [], ◌∷◌, ◌++◌, map}
use lib.ListN.{length, drop, drop_of_length-le}
use lib.Seq.{drop-cons}
use lib.Dec.{eqb}
use Rattle.bits.specs.Choice.{pick}
use Rattle.bits.specs.Lists.{All}
use Rattle.bits.specs.Bytes.{Byte}
use Rattle.bits.specs.Codec.{got}
use Rattle.outcome.specs.Outcome.{Outcome, refused, given, room}
use Rattle.format.specs.Limits.{most_bytes}
use Rattle.format.specs.View.{View}
use Rattle.format.specs.Record.{Record, read, write, size, Allowed}
use Rattle.format.specs.Places.{view_at, count}
use Rattle.format.specs.Named.{Means}
use Rattle.format.specs.declared.ViewName.{ViewName}
use Rattle.format.proofs.Laws.Record.{read_there, read_back}
use Rattle.orders.specs.Act.{Word}
use Rattle.orders.specs.Order.{Order, Pass, first_bad, tests, verdict}
use Rattle.orders.specs.Listed.{words}
use Rattle.orders.specs.Called.{pair_act, word_order}
use Rattle.orders.specs.History.{outcome}
use Rattle.orders.specs.Pairs.{PairsCall, word_call, singly, onward, in_turn}
use Rattle.orders.proofs.Laws.Accept.{zero_pass}
use Rattle.orders.proofs.Laws.Refuse.{verdict_behind, order_refused}
use Rattle.orders.proofs.Laws.Pairs.{word_tests_lem}
use Rattle.orders.proofs.Laws.Keep.{order_keeps}
use Rattle.order_words.specs.After.{no_word, word_at, heard, view_after, record_after, Passed}
use Rattle.order_words.proofs.Laws.After.{count_words}
use Rattle.order_words.proofs.Laws.Record.{record_means, record_view}
use Rattle.order_carry.specs.Carried.{size_number, held_to}
use Rattle.order_carry.proofs.Laws.Held.{size_zero, held_given, held_refused}
use Rattle.order_carry.proofs.Laws.Ordered.{outcome_held}
use Rattle.order_pairs.specs.Judged.{act_at}

-- ---- the first test that fails

-- those behind it do not count
fault_first : (ts us : List (Bool × ℕ)) → first_bad ts ≢ 0 → first_bad (ts ++ us) ≡ first_bad ts
fault_first [] us h = absurd (h refl)
fault_first ((true, k) ∷ ts) us h = fault_first ts us h
fault_first ((false, k) ∷ ts) us h = refl

-- an order whose own tests fail
verdict_fault : (o : Order) (i : ℕ) (r : Record) → count (view_at r i) ≡ o.count → first_bad (tests o.act (view_at r i)) ≢ 0
    → verdict o i r ≡ first_bad (tests o.act (view_at r i))
verdict_fault o i r c h = verdict_behind o i r c ∙ fault_first (tests o.act (view_at r i)) _ h

-- and one whose own tests pass
pair_pass : (joins : Bool) (a b : ℕ) (v : View) → first_bad (tests (pair_act joins a b) v) ≡ 0 → Pass (tests (pair_act joins a b) v)
pair_pass joins a b v e =
    zero_pass (λ n. n ≢ 0) (λ n d. d) (tests (pair_act joins a b) v) (rw (word_tests_lem joins a b v) (omega arith, (omega arith, (omega arith, tt)))) e

-- the last order: what it leaves is what the list leaves, and its place is the refusal's
last_held : (i lent : ℕ) (new : Record) → onward i (held_to 0 lent new) (in_turn (suc i) []) ≡ held_to i lent new
unfolding held_to
last_held i lent new = go (eqb (size_number lent (size new)) 0)
  where
    go : (b : Bool) → onward i (pick b (given (write new)) (refused (size_number lent (size new)) 0)) (in_turn (suc i) [])
        ≡ pick b (given (write new)) (refused (size_number lent (size new)) i)
    go true = refl
    go false = refl

-- ---- the list on the record r, whose bytes are s, after its first i orders

abbrev pub called : (view : ViewName) (n : ℕ) → List ℕ → ℕ → PairsCall
called view n list lent = record { view = view; count = n; list = list; lent = lent }

-- they are accepted, and what comes of the list is what comes of the others on the record that they left
pub record Turn (s : List ℕ) (view : ViewName) (n : ℕ) (list : List ℕ) (lent : ℕ) (r : Record) (place i : ℕ) : Type 0 where
  pub passed : Passed (heard (words list) i) (view_at r place)
  pub allowed : Allowed (record_after place (heard (words list) i) r)
  pub is : in_turn 0 (singly (called view n list lent)) s
      ≡ in_turn i (map (word_call view n lent) (drop i (words list))) (write (record_after place (heard (words list) i) r))

pub turn_start : {s : List ℕ} (view : ViewName) (n : ℕ) (list : List ℕ) (lent : ℕ) {r : Record} {place : ℕ} → All Byte s → read s ≡ got r []
    → Turn s view n list lent r place 0
turn_start {s} view n list lent {r} f e =
    let (a, b, _) = read_back s r [] f e in
    record { passed = tt; allowed = a; is = ap (in_turn 0 (singly (called view n list lent))) b }

module _ {s : List ℕ} {view : ViewName} {n : ℕ} {list : List ℕ} {lent : ℕ} {r : Record} {place i : ℕ} (t : Turn s view n list lent r place i)
    (means : Means view r place) (counted : count (view_at r place) ≡ n) (more : i < length (words list)) where
  abbrev word : Word
  word = word_at (words list) i

  abbrev old : Record
  old = record_after place (heard (words list) i) r

  abbrev new : Record
  new = record_after place (heard (words list) (suc i)) r

  abbrev own : ℕ
  own = first_bad (tests (act_at list i) (view_after (heard (words list) i) (view_at r place)))

  abbrev others : List ℕ → Outcome ℕ
  others = in_turn (suc i) (map (word_call view n lent) (drop (suc i) (words list)))

  old_view : view_at old place ≡ view_after (heard (words list) i) (view_at r place)
  old_view = record_view place r means.there (heard (words list) i)

  old_means : Means view old place
  old_means = record_means place (heard (words list) i) r means

  old_count : count (view_at old place) ≡ n
  old_count = ap count old_view ∙ count_words (heard (words list) i) (view_at r place) ∙ counted

  old_reads : read (write old) ≡ got old []
  old_reads = read_there old t.allowed

  this_one : in_turn 0 (singly (called view n list lent)) s ≡ onward i (outcome (word_call view n lent word) (write old)) others
  this_one = t.is ∙ ap (λ (ws : List Word). in_turn i (map (word_call view n lent) ws) (write old)) (drop-cons (words list) i no_word more)

  -- its own tests refuse it
  pub turn_refused : {k : ℕ} → k ≡ own → k ≢ 0 → in_turn 0 (singly (called view n list lent)) s ≡ refused k i
  unfolding outcome
  turn_refused {k} e d =
      let z : first_bad (tests (act_at list i) (view_at old place)) ≡ k = ap (λ (v : View). first_bad (tests (act_at list i) v)) old_view ∙ sym e in
      let y : verdict (word_order view n word) place old ≡ k = verdict_fault (word_order view n word) place old old_count (λ q. d (sym z ∙ q)) ∙ z in
      this_one
      ∙ ap (λ (x : Outcome ℕ). onward i (room lent x) others) (order_refused (word_order view n word) (write old) old_reads old_means k y (omega (arith, d)))

  -- they do not
  module _ (e : own ≡ 0) where
    passes : Pass (tests (act_at list i) (view_after (heard (words list) i) (view_at r place)))
    passes = pair_pass word.joins word.one word.other (view_after (heard (words list) i) (view_at r place)) e

    pub turn_passed : Passed (heard (words list) (suc i)) (view_at r place)
    turn_passed = (passes, t.passed)

    old_passes : Pass (tests (act_at list i) (view_at old place))
    old_passes = rw old_view passes

    pub turn_allowed : size new ≤ most_bytes → Allowed new
    turn_allowed l =
        order_keeps (word_order view n word) place old t.allowed (record { means = old_means; count = old_count; passes = old_passes; small = l })

    held : outcome (word_call view n lent word) (write old) ≡ held_to 0 lent new
    held = outcome_held (word_call view n lent word) (write old) old_reads old_means old_count old_passes

    on : in_turn 0 (singly (called view n list lent)) s ≡ onward i (held_to 0 lent new) others
    on = this_one ∙ ap (λ (x : Outcome ℕ). onward i x others) held

    -- the size that it leaves refuses it
    pub turn_long : {k : ℕ} → k ≡ size_number lent (size new) → k ≢ 0 → in_turn 0 (singly (called view n list lent)) s ≡ refused k i
    turn_long q d = on ∙ ap (λ (x : Outcome ℕ). onward i x others) (held_refused 0 lent new q d)

    pub turn_next : size_number lent (size new) ≡ 0 → Turn s view n list lent r place (suc i)
    unfolding most_bytes
    turn_next q =
        record {
          passed = turn_passed;
          allowed = turn_allowed (size_zero lent (size new) q).0;
          is = on ∙ ap (λ (x : Outcome ℕ). onward i x others) (held_given 0 lent new q);
        }

    -- it is the last
    pub turn_last : length (words list) ≤ suc i → in_turn 0 (singly (called view n list lent)) s ≡ held_to i lent new
    turn_last l =
        let z : drop (suc i) (words list) ≡ [] = drop_of_length-le (words list) l in
        on ∙ ap (λ (ws : List Word). onward i (held_to 0 lent new) (in_turn (suc i) (map (word_call view n lent) ws))) z ∙ last_held i lent new
