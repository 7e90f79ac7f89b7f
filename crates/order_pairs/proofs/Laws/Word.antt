-- The order at a place of the list: its own tests, on the view that the orders before it leave, by what code sees of the old index and
-- of the words before it.
use mathlib.Core.Path.{◌≡◌, refl, sym, ap, ◌∙◌}
use Prim.Native.Nat.{ℕ, ◌-◌, ◌*◌, ◌≤◌, ◌<◌, min, max}
use native.Mathlib.Omega.{arith}
use mathlib.Core.Bool.{Bool, true, false, not, ◌&&◌}
use mathlib.Core.Option.{some, map}
use mathlib.Core.List.{List, []}
use lib.ListN.{length}
use lib.Dec.{T, ltb}
use mir.Facts.{yes_ltb, no_ltb, yes_and}
use Rattle.bits.specs.Choice.{pick}
use Rattle.bits.specs.ChoiceLaws.{pick_yes, pick_no, split, not_first, not_second}
use Rattle.bits.specs.Bytes.{bits_of}
use Rattle.bits.specs.Codec.{got}
use Rattle.outcome.specs.Refusals.{bad_lines, already_so}
use Rattle.format.specs.Index.{Index, index_block}
use Rattle.format.specs.View.{View}
use Rattle.format.specs.Record.{Record, read}
use Rattle.format.specs.Places.{view_at, count}
use Rattle.format.proofs.Laws.Record.{read_is}
use Rattle.orders.specs.Act.{Word, lists, indexed?, near}
use Rattle.orders.specs.Order.{first_bad, tests}
use Rattle.orders.specs.Listed.{words}
use Rattle.orders.specs.Called.{pair_act}
use Rattle.orders.proofs.Laws.Keep.{allowed_right}
use Rattle.orders.proofs.Laws.Right.{Right}
use Rattle.orders.proofs.Laws.Pairs.{word_tests_lem}
use Rattle.find_parts.specs.Site.{SiteOf}
use Rattle.find_parts.specs.declared.site.Site.{Site}
use Rattle.find_parts.proofs.Laws.Blocks.{cut, cut_long, few_lines}
use Rattle.find_parts.proofs.Laws.Index.{an_index}
use Rattle.find_parts.proofs.Laws.Record.{record_apart}
use Rattle.order_words.specs.After.{word_at, heard, heard_in, view_after, Passed}
use Rattle.order_words.proofs.Laws.Listed.{heard_part}
use Rattle.order_words.proofs.Laws.After.{count_words, indexed_words, near_after}
use Rattle.order_words.specs.Looked.{paired}
use Rattle.order_words.specs.declared.Pair.{Pair}
use Rattle.order_near.specs.Near.{NearAfterThere, NearAfter}
use Rattle.order_pairs.specs.Judged.{OrderSeen}

-- ---- the tests of a pair order, on a view with an index

-- an order that would change nothing is not right
other_way : (joins near : Bool) → pick joins (not near) near ≡ not (pick joins near (not near))
other_way true near = refl
other_way false true = refl
other_way false false = refl

module _ (w : Word) (v : View) (i : T (indexed? v)) where
  abbrev a : ℕ
  a = w.one

  abbrev b : ℕ
  b = w.other

  abbrev number : ℕ
  number = first_bad (tests (pair_act w.joins a b) v)

  abbrev both : Bool
  both = ltb a (count v) && ltb b (count v)

  pub lines_bad : count v ≤ max a b → number ≡ bad_lines
  lines_bad l =
      let t : T (not both) = split (count v) a (λ k. not_first (ltb a (count v)) (ltb b (count v)) (no_ltb {a = a} k))
      (λ k. not_second (ltb a (count v)) (ltb b (count v)) (no_ltb {a = b} (omega arith))) in
      ap first_bad (word_tests_lem w.joins a b v) ∙ pick_yes (indexed? v) _ _ i ∙ pick_no both _ _ t

  -- r: whether the lines are near; so: whether the order would change nothing
  module _ (l : max a b < count v) {r so : Bool} (n : near v a b ≡ r) (q : so ≡ pick w.joins r (not r)) where
    behind : number ≡ pick (not so) 0 already_so
    behind =
        let t : T both = yes_and (ltb a (count v)) (ltb b (count v)) (yes_ltb {a = a} (omega arith)) (yes_ltb {a = b} (omega arith)) in
        ap first_bad (word_tests_lem w.joins a b v) ∙ pick_yes (indexed? v) _ _ i ∙ pick_yes both _ _ t
        ∙ ap (λ (c : Bool). pick c 0 already_so) (ap (λ (c : Bool). pick w.joins (not c) c) n ∙ other_way w.joins r ∙ ap not (sym q))

    pub changes_nothing : so ≡ true → number ≡ already_so
    changes_nothing e = behind ∙ ap (λ (c : Bool). pick (not c) 0 already_so) e

    pub changes : so ≡ false → number ≡ 0
    changes e = behind ∙ ap (λ (c : Bool). pick (not c) 0 already_so) e

near_pair : (v : View) (a b : ℕ) → near v (max a b) (min a b) ≡ near v a b
unfolding near
near_pair v a b =
    let hi : max (max a b) (min a b) ≡ max a b = omega arith in
    let lo : min (max a b) (min a b) ≡ min a b = omega arith in
    rw (hi, lo)

-- ---- the view that stands at the site

module _ {s : List ℕ} {x : Site} {o : Record} {j : ℕ} (e : read s ≡ got o []) (S : SiteOf o s j x) where
  pub site_right : Right (view_at o j)
  site_right = allowed_right o (read_is s o [] e).0 j S.there

  pub site_few : x.lines ≤ 1024
  site_few = omega (arith, S.count, few_lines x.widths S.lines)

-- ---- it has an index; and the view after some words

module _ {s : List ℕ} {x : Site} (l : x.index.from < x.index.to) {o : Record} {j : ℕ} (e : read s ≡ got o []) (S : SiteOf o s j x) where
  abbrev old : View
  old = view_at o j

  abbrev block : List ℕ
  block = cut s x.index.from x.index.to

  pub with_index : {P : Type 0} → ((i : Index) → old.index ≡ some i → P) → P
  with_index k = an_index x.lines block (omega (arith, cut_long S.index)) S.index.value k

  pub reads_some : {i : Index} → old.index ≡ some i → (index_block x.lines).dec (bits_of block) ≡ got (some i) []
  reads_some q = S.index.value ∙ ap (λ v. got v []) q

  is_indexed : T (indexed? old)
  is_indexed = with_index λ i q. rw q tt

  pub near_there : {high low : ℕ} → low ≤ high → high < x.lines → NearAfterThere block high low
  near_there h k =
      with_index λ i q.
      record {
        index = record {
          short = omega (arith, cut_long S.index, S.index.within, (record_apart s e).short);
          lines = x.lines;
          few = site_few e S;
          below = k;
          value = i;
          behind = [];
          reads = reads_some q;
        };
        higher = h;
      }

  module _ (hs : List Word) (p : Passed hs old) where
    abbrev new : View
    new = view_after hs old

    indexed_then : T (indexed? new)
    indexed_then = rw (indexed_words hs old) is_indexed

    counted : count new ≡ x.lines
    counted = count_words hs old ∙ sym S.count

    near_is : (a b : ℕ) {list : List ℕ} {r : Bool} → heard_in list ≡ hs → NearAfter block list (max a b) (min a b) r → max a b < x.lines
        → near new a b ≡ r
    unfolding near
    near_is a b q N k =
        with_index λ i d.
        let hi : max (max a b) (min a b) ≡ max a b = omega arith in
        let lo : min (max a b) (min a b) ≡ min a b = omega arith in
        let z : lists old ≡ some i.lists = ap (map (λ n. n.lists)) d in
        sym (near_pair new a b) ∙ near_after old i.lists z (site_right e S) hs p (max a b) (min a b)
        ∙ rw (z, hi, lo, ← q) (sym (N.is x.lines i [] (reads_some d) k))

-- ---- what code has seen of the order at place i

abbrev pub word : List ℕ → ℕ → Word
word list i = word_at (words list) i

abbrev before : List ℕ → ℕ → List Word
before list i = heard (words list) i

module _ (w : Word) {p : Pair} (P : p ≡ paired w) where
  high_is : p.high ≡ max w.one w.other
  high_is = ap (λ (q : Pair). q.high) P

  pub lower : p.low ≤ p.high
  lower = omega (arith, high_is, ap (λ (q : Pair). q.low) P)

-- p is the word there, with the higher line first
module _ {s : List ℕ} {x : Site} (l : x.index.from < x.index.to) (list : List ℕ) (i : ℕ) (at : 6 * i ≤ length list)
    {p : Pair} (P : p ≡ paired (word list i)) where
  pub no_line_lem : x.lines ≤ p.high → OrderSeen s x list i bad_lines
  no_line_lem k =
      record {
        is = λ o j e S h.
            let hs : List Word = before list i in
            let u : View = view_after hs (view_at o j) in
            sym (lines_bad (word list i) u (indexed_then l e S hs h) (omega (arith, high_is (word list i) P, counted l e S hs h)));
      }

  module _ (k : p.high < x.lines) {r so : Bool}
      (N : NearAfter (cut s x.index.from x.index.to) (cut list 0 (6 * i)) p.high p.low r) (q : so ≡ pick p.joins r (not r)) where
    near_so : {o : Record} {j : ℕ} → read s ≡ got o [] → SiteOf o s j x → Passed (before list i) (view_at o j)
        → near (view_after (before list i) (view_at o j)) (word list i).one (word list i).other ≡ r
    near_so e S h =
        let z : heard_in (cut list 0 (6 * i)) ≡ before list i = heard_part list i (6 * i - 0) (omega arith) (omega arith) in
        near_is l e S (before list i) h (word list i).one (word list i).other z (rw P at N) (omega (arith, high_is (word list i) P))

    pub nothing_to_do : so ≡ true → OrderSeen s x list i already_so
    nothing_to_do t =
        record {
          is = λ o j e S h.
              let hs : List Word = before list i in
              let u : View = view_after hs (view_at o j) in
              let k : max (word list i).one (word list i).other < count u = omega (arith, high_is (word list i) P, counted l e S hs h) in
              sym (changes_nothing (word list i) u (indexed_then l e S hs h) k (near_so e S h) (rw P at q) t);
        }

    pub word_right : so ≡ false → OrderSeen s x list i 0
    word_right t =
        record {
          is = λ o j e S h.
              let hs : List Word = before list i in
              let u : View = view_after hs (view_at o j) in
              let k : max (word list i).one (word list i).other < count u = omega (arith, high_is (word list i) P, counted l e S hs h) in
              sym (changes (word list i) u (indexed_then l e S hs h) k (near_so e S h) (rw P at q) t);
        }
