-- Going over a list: the lines that stay so far, and those still to come. They are told by the line below which all is still to come,
-- and by what the block has of the old list from here on.
use mathlib.Core.Path.{◌≡◌, sym, ap, ◌∙◌}
use Prim.Native.Nat.{ℕ, suc, ◌+◌, ◌-◌, ◌*◌, ◌^◌, ◌≤◌, ◌<◌, max}
use native.Mathlib.Omega.{arith}
use mathlib.Core.Bool.{not}
use mathlib.Core.List.{List, [], ◌∷◌, ◌++◌}
use lib.ListN.{length}
use lib.Dec.{T}
use Rattle.bits.specs.Lists.{All}
use Rattle.bits.specs.Bits.{Bits, bits_of_number}
use Rattle.bits.specs.BitsLaws.{length_bits}
use Rattle.bits.specs.CodecLaws.{enc_all, field}
use Rattle.outcome.specs.Refusals.{bad_index}
use Rattle.put_bits.specs.Put.{PutMore, PutInto}
use Rattle.put_bits.proofs.Chain.{puts_one, ◌then◌, puts_later, puts_as, Putting, putting_none, putting_more, putting_within, putting_all}
use Rattle.differences.specs.Differences.{Falls, diffs}
use Rattle.differences.proofs.DifferencesLaws.{length_diffs}
use Rattle.format.specs.Index.{FitsList}
use Rattle.find_parts.proofs.Laws.Line.{codes_long}
use Rattle.find_parts.proofs.Laws.Lists.{list_is}
use Rattle.orders.specs.Least.{max_of}
use Rattle.orders.specs.Listed.{removal_lines}
use Rattle.order_removal.specs.Rank.{below}
use Rattle.order_words.specs.After.{heard_in, lines_below}
use Rattle.order_walk.specs.Merge.{MergeAt, StepTo, StepsOn}
use Rattle.order_walk.specs.declared.merge.Merge.{Merge}
use Rattle.order_walk.specs.declared.merge.Step.{Step}
use Rattle.order_walk.proofs.Laws.Merge.{merge_list, merge_end}
use Rattle.order_lists.specs.List.{gone, stayed, become, ListAt, Numbered, ListPut}
use Rattle.order_lists.specs.declared.list.OldList.{OldList}
use Rattle.order_lists.proofs.Laws.Fate.{stayed_gone, stayed_stays}

-- what is still to come of the list x below the line top; the block has the lines ms there
abbrev pub to_come : OldList → (words removal : List ℕ) → ℕ → List ℕ → List ℕ
to_come x words removal top ms = stayed (removal_lines removal) (lines_below (heard_in words) x.line top ms)

-- ---- the start: all of it

all_to_come : (x : OldList) (words removal ns : List ℕ) → become x words removal ns ≡ to_come x words removal (suc x.line) ns
all_to_come x words removal ns = ap (stayed (removal_lines removal)) (sym (merge_list (heard_in words) x.line ns))

-- ---- one step: the line goes or stays

module _ {s : List ℕ} (x : OldList) (words removal : List ℕ) {top : ℕ} {ns : List ℕ} {u : Bits} {r : Step} (t : StepTo s (heard_in words) x.line top ns u r) where
  one_gone : T (gone (removal_lines removal) r.stays r.line) → to_come x words removal top ns ≡ to_come x words removal r.line t.more
  one_gone g = ap (stayed (removal_lines removal)) t.is ∙ stayed_gone (removal_lines removal) r.line (lines_below (heard_in words) x.line r.line t.more) r.stays g

  one_stays : T (not (gone (removal_lines removal) r.stays r.line))
      → to_come x words removal top ns ≡ (r.line - below (removal_lines removal) r.line) ∷ to_come x words removal r.line t.more
  one_stays g = ap (stayed (removal_lines removal)) t.is ∙ stayed_stays (removal_lines removal) r.line (lines_below (heard_in words) x.line r.line t.more) r.stays g

-- ---- the end

nothing_left : {s : List ℕ} (x : OldList) (words removal : List ℕ) {k : Merge} {top : ℕ} {ms : List ℕ} {u : Bits} → MergeAt s (heard_in words) x.line k top ms u
    → k.walk.left + k.bound ≤ 0 → to_come x words removal top ms ≡ []
nothing_left x words removal a z = ap (stayed (removal_lines removal)) (merge_end a z)

-- ---- measuring

-- of what the list x becomes, `new`: the lines below top are still to come
pub record Measuring (s : List ℕ) (x : OldList) (words removal new : List ℕ) (k : Merge) (u : Bits) (before count most : ℕ) : Type 0 where
  pub top : ℕ
  pub ms : List ℕ
  pub at : MergeAt s (heard_in words) x.line k top ms u
  pub least : ℕ
  pub falls : Falls least before (to_come x words removal top ms)
  pub counts : count + length (to_come x words removal top ms) ≡ length new
  pub largest : max most (max_of (diffs before (to_come x words removal top ms))) ≡ max_of (diffs x.own new)

abbrev pub MeasuringAll : (s : List ℕ) (x : OldList) (words removal : List ℕ) (k : Merge) (before count most : ℕ) → Type 0
MeasuringAll s x words removal k before count most =
    (ns : List ℕ) (u : Bits) → ListAt s words x ns u → Falls 0 x.own (become x words removal ns)
    → Measuring s x words removal (become x words removal ns) k u before count most

module _ {s : List ℕ} {x : OldList} {words removal : List ℕ} where
  pub measuring_first : MeasuringAll s x words removal x.from x.own 0 0
  measuring_first ns u h f =
      let e = all_to_come x words removal ns in
      rw e (record { top = suc x.line; ms = ns; at = h; least = 0; falls = rw e at f; counts = omega arith; largest = omega arith })

  module _ {k : Merge} {before count most : ℕ} {r : Step} (M : MeasuringAll s x words removal k before count most) (S : StepsOn s words x.line k r) where
    pub measuring_gone : T (gone (removal_lines removal) r.stays r.line) → MeasuringAll s x words removal r.next before count most
    measuring_gone g ns u h f =
        let m = M ns u h f in
        let t = S.is m.top m.ms u m.at in
        let e = one_gone x words removal t g in
        record { top = r.line; ms = t.more; at = t.at; least = m.least; falls = rw e at m.falls; counts = rw e at m.counts; largest = rw e at m.largest }

    module _ (n : ℕ) (q : n ≡ r.line - below (removal_lines removal) r.line) (g : T (not (gone (removal_lines removal) r.stays r.line))) where
      pub next_falls : {new : List ℕ} {u : Bits} → (m : Measuring s x words removal new k u before count most) → n ≤ before
      next_falls {u = u} m =
          let t = S.is m.top m.ms u m.at in
          let e = one_stays x words removal t g in
          let f : Falls m.least before ((r.line - below (removal_lines removal) r.line) ∷ to_come x words removal r.line t.more) = rw e at m.falls in
          omega (arith, f.0)

      pub measuring_stays : {bigger : ℕ} → bigger ≡ max most (before - n) → MeasuringAll s x words removal r.next n (count + 1) bigger
      measuring_stays z ns u h f =
          let m = M ns u h f in
          let t = S.is m.top m.ms u m.at in
          let more : List ℕ = to_come x words removal r.line t.more in
          let e : to_come x words removal m.top m.ms ≡ n ∷ more = rw q (one_stays x words removal t g) in
          let F : Falls m.least before (n ∷ more) = rw e at m.falls in
          let C : count + length (n ∷ more) ≡ length (become x words removal ns) = rw e at m.counts in
          let L : max most (max_of (diffs before (n ∷ more))) ≡ max_of (diffs x.own (become x words removal ns)) = rw e at m.largest in
          record { top = r.line; ms = t.more; at = t.at; least = 1; falls = F.1; counts = omega (arith, C); largest = omega (arith, L) }

  pub measured : {k : Merge} {before count most : ℕ} → MeasuringAll s x words removal k before count most → k.walk.left + k.bound ≤ 0
      → Numbered s x words removal (record { count = count; most = most })
  measured M z =
      record {
        is = λ ns u h f.
            let m = M ns u h f in
            let e = nothing_left x words removal m.at z in
            (omega (arith, rw e at m.counts), omega (arith, rw e at m.largest));
      }

-- ---- putting

-- the differences of lines
abbrev pub diff_bits : ℕ → ℕ → List ℕ → Bits
diff_bits width before ns = enc_all (field bad_index width) (diffs before ns)

diff_long : (width before : ℕ) (ns : List ℕ) → length (diff_bits width before ns) ≡ length ns * width
diff_long width before ns = codes_long bad_index width (diffs before ns) ∙ ap (λ (n : ℕ). n * width) (length_diffs before ns)

-- those of `new`, what the list x becomes: the lines before are put, from place q on, and counted
pub record PuttingList (s : List ℕ) (x : OldList) (words removal new : List ℕ) (width : ℕ) (k : Merge) (u : Bits) (before count : ℕ) (old : List ℕ) (q : ℕ) (now : List ℕ) (p : ℕ) : Type 0 where
  pub top : ℕ
  pub ms : List ℕ
  pub at : MergeAt s (heard_in words) x.line k top ms u
  pub least : ℕ
  pub falls : Falls least before (to_come x words removal top ms)
  pub small : All (λ d. d < 2 ^ width) (diffs before (to_come x words removal top ms))
  pub counts : count + length (to_come x words removal top ms) ≡ length new
  pub bits : Putting (diff_bits width before (to_come x words removal top ms)) (diff_bits width x.own new) old q now p

abbrev pub PuttingAll : (s : List ℕ) (x : OldList) (words removal : List ℕ) (width : ℕ) (k : Merge) (before count : ℕ) (old : List ℕ) (q : ℕ) (now : List ℕ) (p : ℕ) → Type 0
PuttingAll s x words removal width k before count old q now p =
    (ns : List ℕ) (u : Bits) → ListAt s words x ns u → FitsList width x.own (become x words removal ns)
    → PuttingList s x words removal (become x words removal ns) width k u before count old q now p

module _ {s : List ℕ} {x : OldList} {words removal : List ℕ} {width : ℕ} {old : List ℕ} {q : ℕ} where
  pub putting_first : PuttingAll s x words removal width x.from x.own 0 old q old q
  putting_first ns u h f =
      let e = all_to_come x words removal ns in
      let F : FitsList width x.own (to_come x words removal (suc x.line) ns) = rw e at f in
      rw e (record { top = suc x.line; ms = ns; at = h; least = 0; falls = F.falls; small = F.diffs; counts = omega arith; bits = putting_none _ old q })

  module _ {k : Merge} {before count : ℕ} {now : List ℕ} {p : ℕ} {r : Step} (S : StepsOn s words x.line k r) where
    pub putting_gone : PuttingAll s x words removal width k before count old q now p → T (gone (removal_lines removal) r.stays r.line)
        → PuttingAll s x words removal width r.next before count old q now p
    putting_gone M g ns u h f =
        let m = M ns u h f in
        let t = S.is m.top m.ms u m.at in
        let e = one_gone x words removal t g in
        record { top = r.line; ms = t.more; at = t.at; least = m.least; falls = rw e at m.falls; small = rw e at m.small; counts = rw e at m.counts; bits = rw e at m.bits }

    -- the line that stays comes next
    module _ (n : ℕ) (z : n ≡ r.line - below (removal_lines removal) r.line) (g : T (not (gone (removal_lines removal) r.stays r.line))) {new : List ℕ} {u : Bits}
        (m : PuttingList s x words removal new width k u before count old q now p) where
      abbrev step : StepTo s (heard_in words) x.line m.top m.ms u r
      step = S.is m.top m.ms u m.at

      abbrev more : List ℕ
      more = to_come x words removal r.line step.more

      is_next : to_come x words removal m.top m.ms ≡ n ∷ more
      is_next = rw z (one_stays x words removal step g)

      next_bits : Putting (bits_of_number width (before - n) ++ diff_bits width n more) (diff_bits width x.own new) old q now p
      next_bits = rw is_next at m.bits

      -- it is at most the one before, their difference fits, and there is room for it
      pub put_fits : (n ≤ before) × (before - n < 2 ^ width)
      put_fits =
          let F : Falls m.least before (n ∷ more) = rw is_next at m.falls in
          let D : All (λ d. d < 2 ^ width) (diffs before (n ∷ more)) = rw is_next at m.small in
          (omega (arith, F.0), D.0)

      pub put_room : p + width ≤ q + length new * width
      put_room = omega (arith, putting_within (bits_of_number width (before - n)) (diff_bits width n more) next_bits, length_bits width (before - n), diff_long width x.own new)

      put_next : {after : List ℕ} {a : ℕ} → PutMore now p (before - n) width after a → PuttingList s x words removal new width r.next u n (count + 1) old q after a
      put_next P =
          let F : Falls m.least before (n ∷ more) = rw is_next at m.falls in
          let D : All (λ d. d < 2 ^ width) (diffs before (n ∷ more)) = rw is_next at m.small in
          let C : count + length (n ∷ more) ≡ length new = rw is_next at m.counts in
          record {
            top = r.line;
            ms = step.more;
            at = step.at;
            least = 1;
            falls = F.1;
            small = D.1;
            counts = omega (arith, C);
            bits = putting_more (bits_of_number width (before - n)) (diff_bits width n more) next_bits (puts_one P);
          }

    pub putting_stays : PuttingAll s x words removal width k before count old q now p → (n : ℕ) → n ≡ r.line - below (removal_lines removal) r.line
        → T (not (gone (removal_lines removal) r.stays r.line)) → {after : List ℕ} {a : ℕ} → PutMore now p (before - n) width after a
        → PuttingAll s x words removal width r.next n (count + 1) old q after a
    putting_stays M n z g P ns u h f = put_next n z g (M ns u h f) P

-- all differences are put, and then the count into the bits kept free before them
module _ {s : List ℕ} {x : OldList} {words removal : List ℕ} {width : ℕ} {k : Merge} {before count : ℕ} {old : List ℕ} {q : ℕ} {now : List ℕ} {p : ℕ} (z : k.walk.left + k.bound ≤ 0) where
  pub all_counted : {new : List ℕ} {u : Bits} → PuttingList s x words removal new width k u before count old q now p → count ≡ length new
  all_counted m = omega (arith, rw (nothing_left x words removal m.at z) at m.counts)

  pub put_all : {lent after : List ℕ} {at : ℕ} → PutMore lent at 0 width old q → PuttingAll s x words removal width k before count old q now p
      → PutInto now at count width after → ListPut s x words removal width lent at after p
  put_all P M I =
      record {
        is = λ ns u h f.
            let m = M ns u h f in
            let n : List ℕ = become x words removal ns in
            let b : Putting [] (diff_bits width x.own n) old q now p = rw (nothing_left x words removal m.at z) at m.bits in
            let c : count ≡ length n = all_counted m in
            puts_as (sym (list_is width x.own n)) (puts_later width (diff_bits width x.own n) (puts_one P then putting_all b) (rw c at I));
      }
