-- A line's list in the block merged with the words about the line: which line comes next, and what is then still to come.
use mathlib.Core.Path.{◌≡◌, refl, sym, ap, ◌∙◌}
use Prim.Native.Nat.{ℕ, suc, ◌+◌, ◌-◌, ◌≤◌, ◌<◌}
use native.Mathlib.Omega.{arith}
use mathlib.Core.Bool.{Bool, true, false, ◌||◌}
use mathlib.Core.List.{List, [], ◌∷◌}
use Rattle.bits.specs.Choice.{pick}
use Rattle.bits.specs.ChoiceLaws.{eqb_true, eqb_false}
use Rattle.bits.specs.Bits.{Bits}
use Rattle.differences.specs.Differences.{Falls}
use Rattle.orders.specs.Survive.{elem}
use Rattle.orders.specs.Act.{Word}
use Rattle.orders.specs.History.{said}
use Rattle.order_words.specs.After.{heard_in, lines_below, list_after, Quiet}
use Rattle.order_words.specs.Looked.{Bound}
use Rattle.order_words.proofs.Laws.Falls.{down_same, down_skip, falls_up, falls_suc, not_in}
use Rattle.order_walk.specs.Walk.{WalkAt, NextLine}
use Rattle.order_walk.specs.Merge.{MergeAt, MergeThere, WordThere, ByWord, StepsOn}
use Rattle.order_walk.specs.declared.walk.ListWalk.{ListWalk}
use Rattle.order_walk.specs.declared.walk.LineStep.{LineStep}
use Rattle.order_walk.specs.declared.merge.Merge.{Merge}
use Rattle.order_walk.specs.declared.merge.Step.{Step}
use Rattle.order_walk.proofs.Laws.Walk.{walk_end}

-- ---- lists and numbers

module _ (hs : List Word) (l before bound : ℕ) (q : Quiet hs l bound before) where
  -- nothing from c + 1 on, and c is tested next
  at_line : (c : ℕ) (ns : List ℕ) → bound ≤ suc c → suc c ≤ before → Falls 1 (suc c) ns
      → lines_below hs l before ns ≡ pick (said hs l c (elem c ns)) (c ∷ lines_below hs l c ns) (lines_below hs l c ns)
  at_line c ns h k f =
      let e : before ≡ suc c + (before - suc c) = omega arith in
      ap (λ (n : ℕ). lines_below hs l n ns) e
      ∙ down_skip (suc c) (before - suc c) (λ x. said hs l x (elem x ns))
      (λ x m j. q x (omega arith) (omega arith) (elem x ns) ∙ not_in (suc c) x ns f m)

  -- the list in the block is at its end, and no word names a line
  below_none : bound ≡ 0 → lines_below hs l before [] ≡ []
  below_none z =
      let e : before ≡ 0 + before = omega arith in
      ap (λ (n : ℕ). lines_below hs l n []) e
      ∙ down_skip 0 before (λ x. said hs l x false) (λ x m j. q x (omega arith) (omega arith) false)

  -- a line that a word names, above those of the list in the block
  below_word : (c : ℕ) (ns : List ℕ) → bound ≡ suc c → suc c ≤ before → Falls 1 c ns
      → lines_below hs l before ns ≡ pick (said hs l c false) (c ∷ lines_below hs l c ns) (lines_below hs l c ns)
  below_word c ns z k f =
      at_line c ns (omega arith) k (falls_up c ns f)
      ∙ ap (λ (b : Bool). pick (said hs l c b) (c ∷ lines_below hs l c ns) (lines_below hs l c ns)) (not_in c c ns f (omega arith))

  -- the next line of the list in the block
  below_old : (n : ℕ) (ns : List ℕ) → bound ≤ suc n → Falls 1 before (n ∷ ns)
      → lines_below hs l before (n ∷ ns) ≡ pick (said hs l n true) (n ∷ lines_below hs l n ns) (lines_below hs l n ns)
  below_old n ns h f =
      let same : lines_below hs l n (n ∷ ns) ≡ lines_below hs l n ns =
      down_same n (λ x. said hs l x (elem x (n ∷ ns))) (λ x. said hs l x (elem x ns))
      (λ x k. ap (λ (b : Bool). said hs l x (b || elem x ns)) (eqb_false x n (omega arith))) in
      at_line n (n ∷ ns) h (omega arith) (omega arith, f.1)
      ∙ ap (λ (ms : List ℕ). pick (said hs l n (elem n (n ∷ ns))) (n ∷ ms) ms) same
      ∙ ap (λ (b : Bool). pick (said hs l n (b || elem n ns)) (n ∷ lines_below hs l n ns) (lines_below hs l n ns)) (eqb_true n n refl)

-- ---- the start and the end

-- all of line l's list is still to come
pub merge_start : {s : List ℕ} {hs : List Word} {l bound : ℕ} {k : ListWalk} {ns : List ℕ} {u : Bits} → WalkAt s k ns u → Falls 0 l ns
    → bound ≤ suc l → Quiet hs l bound (suc l) → MergeAt s hs l (record { walk = k; bound = bound }) (suc l) ns u
merge_start {l = l} {ns = ns} h f b q = record { at = h; falls = falls_suc l ns f; lines = omega arith; within = b; quiet = q }

pub merge_list : (hs : List Word) (l : ℕ) (ns : List ℕ) → lines_below hs l (suc l) ns ≡ list_after hs l ns
unfolding list_after
merge_list hs l ns = refl

-- nothing is
pub merge_end : {s : List ℕ} {hs : List Word} {l : ℕ} {k : Merge} {before : ℕ} {ns : List ℕ} {u : Bits} → MergeAt s hs l k before ns u
    → k.walk.left + k.bound ≤ 0 → lines_below hs l before ns ≡ []
merge_end {hs = hs} {l} {k} {before} {ns} m z =
    ap (lines_below hs l before) (walk_end ns m.at (omega arith)) ∙ below_none hs l before k.bound m.quiet (omega arith)

-- ---- the code's ways

module _ {s words : List ℕ} {l : ℕ} {k : Merge} (t : MergeThere s words l k) where
  abbrev hs : List Word
  hs = heard_in words

  pub word_there : 0 < k.bound → WordThere l k
  word_there h = record { some = h; lines = omega (arith, t.at.within, t.at.lines) }

  -- a line that a word names, above all that the list in the block still has
  by_word : {r : Step} → ByWord words l k r
      → ((before : ℕ) (ns : List ℕ) (u : Bits) → MergeAt s hs l k before ns u → Falls 1 r.line ns) → StepsOn s words l k r
  by_word {r} B f =
      record {
        is = λ before ns u m.
            let c : ℕ = r.line in
            let z : k.bound ≡ suc c = omega (arith, B.line) in
            record {
              more = ns;
              at = record {
                at = rw B.walk m.at;
                falls = f before ns u m;
                lines = omega (arith, m.lines, m.within);
                within = B.within;
                quiet = B.quiet;
              };
              is = below_word hs l before k.bound m.quiet c ns z (omega (arith, m.within)) (f before ns u m)
                  ∙ ap (λ (b : Bool). pick b (c ∷ lines_below hs l c ns) (lines_below hs l c ns)) (sym B.stays);
            };
        width = ap (λ (w : ListWalk). w.width) B.walk;
        less = omega (arith, ap (λ (w : ListWalk). w.left) B.walk, B.line, B.within);
      }

  -- the list in the block is at its end
  pub step_last : {r : Step} → k.walk.left ≡ 0 → ByWord words l k r → StepsOn s words l k r
  step_last z B = by_word B (λ before ns u m. rw (walk_end ns m.at z) tt)

  module _ {x : LineStep} (N : NextLine s k.walk x) where
    -- the line that comes next in the block, and those behind it
    record Old (before : ℕ) (ns : List ℕ) (u : Bits) : Type 0 where
      more : List ℕ
      at : WalkAt s x.next more u
      is : ns ≡ x.line ∷ more
      falls : Falls 1 before (x.line ∷ more)

    old : (before : ℕ) (ns : List ℕ) (u : Bits) → MergeAt s hs l k before ns u → Old before ns u
    old before ns u m =
        let o = N.is ns u m.at in
        record { more = o.more; at = o.at; is = o.is; falls = rw o.is at m.falls }

    pub line_below : x.line ≤ l
    line_below = let o = old t.before t.value t.behind t.at in omega (arith, o.falls.0, t.at.lines)

    -- a word names a line above it
    pub step_word : {r : Step} → x.line + 1 < k.bound → ByWord words l k r → StepsOn s words l k r
    step_word h B = by_word B (λ before ns u m. let o = old before ns u m in rw o.is (omega (arith, B.line), o.falls.1))

    -- it comes next, and stays or not
    abbrev onward : (stays : Bool) (bound : ℕ) → Step
    onward stays bound = record { line = x.line; stays = stays; next = record { walk = x.next; bound = bound } }

    -- as the last word about it says; and no word is about a line from the new bound on
    abbrev Told : (stays : Bool) (bound : ℕ) → Type 0
    Told stays bound =
        (before : ℕ) → x.line < before → Quiet hs l k.bound before
        → (stays ≡ said hs l x.line true) × Quiet hs l bound x.line

    step_old : (stays : Bool) (bound : ℕ) → k.bound ≤ suc x.line → bound ≤ x.line → bound ≤ k.bound → Told stays bound
        → StepsOn s words l k (onward stays bound)
    step_old stays bound h b d f =
        record {
          is = λ before ns u m.
              let n : ℕ = x.line in
              let o = old before ns u m in
              let (y, q) = f before (omega (arith, o.falls.0)) m.quiet in
              record {
                more = o.more;
                at = record { at = o.at; falls = o.falls.1; lines = omega (arith, o.falls.0, m.lines); within = b; quiet = q };
                is = ap (lines_below hs l before) o.is ∙ below_old hs l before k.bound m.quiet n o.more h o.falls
                    ∙ ap (λ (b : Bool). pick b (n ∷ lines_below hs l n o.more) (lines_below hs l n o.more)) (sym y);
              };
          width = N.width;
          less = omega (arith, N.less);
        }

    -- no word names it
    pub step_stays : k.bound ≤ x.line → StepsOn s words l k (onward true k.bound)
    step_stays h =
        step_old true k.bound (omega arith) h (omega arith)
        (λ before j q. (sym (q x.line h j true), λ y a b start. q y a (omega arith) start))

    -- a word may name it
    pub step_named : {stays : Bool} {bound : ℕ} → k.bound ≤ x.line + 1 → x.line < k.bound → stays ≡ said hs l x.line true
        → Bound words l x.line bound → StepsOn s words l k (onward stays bound)
    step_named {stays} {bound} h j e B =
        step_old stays bound (omega arith) B.within (omega (arith, B.within)) (λ before i q. (e, B.quiet))
