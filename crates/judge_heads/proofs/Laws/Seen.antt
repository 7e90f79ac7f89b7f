-- The positions of the views before: an array of eleven counts stands for them, at the start and with one view more; where a header
-- is read by the counts, it is read by the positions; and its own position is one of the eleven.
use mathlib.Core.Path.{◌≡◌, refl, sym, ap, ◌∙◌}
use Prim.Native.Nat.{ℕ, suc, ◌+◌, ◌≤◌}
use native.Mathlib.Omega.{arith}
use native.Mathlib.Numerals.{add-one}
use mathlib.Core.Bool.{Bool, true, false}
use mathlib.Core.Option.{Option, none, some}
use mathlib.Core.List.{List, [], ◌∷◌}
use lib.ListN.{length, get_or, set, length-set, replicate, get_or-replicate}
use lib.Seq.{get_or-set_same, get_or-set_other}
use lib.Dec.{leb, eqb}
use borrow.Author.Tests.{lt-leb, le-leb, eq-eqb, ne_eqb}
use Rattle.bits.specs.Choice.{pick}
use Rattle.bits.specs.ChoiceLaws.{pick_case, split, eq_split}
use Rattle.format.specs.View.{head_fault, occurs}
use Rattle.judge_heads.specs.Answers.{earlier_of, Seen}

-- ---- at the start, and one more

pub seen_start : Seen (replicate 11 0) []
seen_start = record { eleven = refl; is = λ p. split 11 p (λ l. rw (lt-leb p 10 l)) (λ l. rw (le-leb p 10 (omega arith)) (get_or-replicate 11 p 0 0 l)) }

at_position : (seen ps : List ℕ) (po : ℕ) → po ≤ 10 → Seen seen ps → get_or seen po 0 ≡ occurs po ps
at_position seen ps po l h = sym (rw (le-leb po 10 l)) ∙ h.is po

pub seen_more : (seen ps : List ℕ) (po : ℕ) → po ≤ 10 → Seen seen ps → Seen (set seen po (get_or seen po 0 + 1)) (po ∷ ps)
seen_more seen ps po l h =
    record {
      eleven = length-set seen po _ ∙ h.eleven;
      is = λ p. eq_split p po
          (λ e. rw (e, eq-eqb po po refl, le-leb po 10 l) (get_or-set_same seen po _ 0 (omega (arith, h.eleven)) ∙ add-one _ ∙ ap suc (at_position seen ps po l h) ∙ ap (λ (x : ℕ). suc (occurs x ps)) (sym e)))
          (λ e. rw (ne_eqb p po e) (ap (λ (x : ℕ). pick (leb p 10) x 0) (get_or-set_other seen po p _ 0 e) ∙ h.is p));
    }

occurs_le : (p : ℕ) (ps : List ℕ) → occurs p ps ≤ length ps
occurs_le p [] = omega arith
occurs_le p (q ∷ ps) =
    let ih : occurs p ps ≤ length ps = occurs_le p ps in
    pick_case (λ (n : ℕ). n ≤ suc (length ps)) (eqb p q) _ _ (λ t. omega arith) (λ t. omega arith)

pub seen_le : (seen ps : List ℕ) (po : ℕ) → po ≤ 10 → Seen seen ps → get_or seen po 0 ≤ length ps
seen_le seen ps po l h = omega (arith, at_position seen ps po l h, occurs_le po ps)

-- ---- a header

-- the counts and the positions say the same of every position
pub seen_is : {seen ps : List ℕ} → Seen seen ps → earlier_of seen ≡ (λ q. occurs q ps)
seen_is h i q = h.is q i

pub right_position : (f : ℕ → ℕ) (n po im q : ℕ) → head_fault f (n, (po, (im, q))) ≡ none → po ≤ 10
right_position f n po im q e = split po 10 (λ l. l) (λ l. absurd (bad (eqb n (f po)) (rw (lt-leb po 10 l) at e)))
  where
    bad : (b : Bool) → pick {A = Option ℕ} b (some 8) (some 0) ≡ none → ⊥
    bad true p = let z : ◌≡◌ {A = ℕ} 0 1 = cc in omega arith
    bad false p = let z : ◌≡◌ {A = ℕ} 0 1 = cc in omega arith
