-- The values of an index's lists, one for each line in order: how far a loop over them has come, and how many bits they take. At most
-- 1,024 lists of at most 524,288 bits come, so that no sum wraps.
use mathlib.Core.Path.{◌≡◌, sym, ap, ◌∙◌, subst}
use Prim.Native.Nat.{ℕ, ◌+◌, ◌-◌, ◌*◌, ◌/◌, ◌%◌, ◌≤◌, ◌<◌}
use native.Mathlib.Omega.{arith}
use native.Mathlib.Numerals.{add-one}
use native.Mathlib.Nat.{mul-le-mul}
use mathlib.Core.Bool.{Bool, true, false}
use mathlib.Core.List.{List, []}
use lib.ListN.{length, get_or}
use mir.Facts.{eqb_yes}
use Rattle.bits.specs.Bytes.{bits_of}
use Rattle.bits.specs.Codec.{got, refused}
use Rattle.bits.proofs.Laws.Parts.{part}
use Rattle.outcome.specs.Refusals.{bad_value}
use Rattle.format.specs.Index.{up}
use Rattle.sheet.specs.Fields.{Field}
use Rattle.sheet.specs.Values.{list_value}
use Rattle.check_shape.specs.Shape.{Starts}
use Rattle.check_shape.proofs.Laws.Stand.{denied}
use Rattle.check_value.specs.Worth.{Right, Wrong}
use Rattle.check_blocks.specs.Run.{list_long, list_bits, SomeFields, ListFields, RunWrong, RunRight, RightAre}
use Rattle.check_blocks.proofs.Laws.Stand.{Held, Next, three, next}
use Rattle.check_blocks.proofs.Laws.Run.{Going, going_first, going_all, going_wrong, going_on, its_right, one_more}

-- of n neighbours
differences_few : (w n : ℕ) → w ≤ 16 → n ≤ 32767 → w * n ≤ 524272
differences_few w n h l = omega (arith, mul-le-mul {n₁ = w} {m₁ = n} {n₂ = 16} {m₂ = 32767} h l)

-- ---- the loop: the list of line l starts at byte p, and those before take z bits

pub record ListsGoing (w : ℕ) (s : List ℕ) (a p l z : ℕ) : Type 0 where
  pub small : z ≤ l * 524288
  pub on : a ≤ p
  pub is : (fs : List Field) → ListFields s a fs → Going 5 list_long (list_value w) up (list_bits w) s fs 0 p l l z

pub lists_first : (w : ℕ) (s : List ℕ) (a : ℕ) → ListsGoing w s a a 0 0
lists_first w s a = record { small = omega arith; on = omega arith; is = λ fs h. going_first h.run }

-- its value has m bytes
pub record ListNext (w : ℕ) (s : List ℕ) (a p l z : ℕ) (g : ListsGoing w s a p l z) (m : ℕ) : Type 0 where
  pub even : m % 2 ≡ 0
  pub most : m ≤ 65534
  pub held : Held s p m
  pub few : l < 1024
  pub is : (fs : List Field) (h : ListFields s a fs) → Next 5 s p m (g.is fs h).left

module _ {w : ℕ} {s : List ℕ} {a p l z : ℕ} (g : ListsGoing w s a p l z) where
  list_next : (fs : List Field) (h : ListFields s a fs) → {m : ℕ} → ((fs : List Field) (h : ListFields s a fs) → Next 5 s p m (g.is fs h).left) → ListNext w s a p l z g m
  list_next fs h {m} k =
      let N = k fs h in
      let e : length N.field.value % 2 ≡ 0 = eqb_yes (its_right (g.is fs h) N) in
      let d : m % 2 ≡ 0 = ap (λ (n : ℕ). n % 2) N.size ∙ e in
      record {
        even = d;
        most = omega (arith, N.short);
        held = N.held;
        few = omega (arith, one_more (g.is fs h) N, h.few);
        is = k;
      }

  -- where a call has found one
  module _ (F : SomeFields (ListFields s a)) {r : Bool} (S : Starts 5 s p r) (e : r ≡ true) where
    pub list_three : p + 3 ≤ length s
    list_three = three 5 S e (g.is F.value F.holds).stand

    pub list_there : {m : ℕ} → m ≡ get_or s (p + 1) 0 * 256 + get_or s (p + 1 + 1) 0 → ListNext w s a p l z g m
    list_there y = list_next F.value F.holds (λ fs h. next 5 S e (g.is fs h).stand y)

  module _ {m : ℕ} (N : ListNext w s a p l z g m) where
    abbrev v : List ℕ
    v = part s (p + 3) (p + 3 + m - (p + 3))

    pub lists_wrong : Wrong (list_value w l) v → (fs : List Field) → ListFields s a fs → RunWrong 5 (list_value w) up 0 fs
    lists_wrong r fs h =
        going_wrong (g.is fs h) (N.is fs h)
        (subst (λ (x : List ℕ). (list_value w l).dec (bits_of x) ≡ refused bad_value r.left) (N.is fs h).holds r.refuses)

    pub lists_small : w ≤ 16 → (w * (m / 2) ≤ 524272) × (z + (w + w * (m / 2)) ≤ 1024 * 524288)
    lists_small n =
        let k = differences_few w (m / 2) n (omega (arith, N.most)) in
        (k, omega (arith, k, g.small, N.few))

    pub lists_on : w ≤ 16 → Right (list_value w l) v (λ ns. length ns ≡ length v / 2) → ListsGoing w s a (p + 3 + m) (l + 1) (z + (w + w * (m / 2)))
    lists_on n r =
        let e : m / 2 ≡ length r.value = ap (λ (k : ℕ). k / 2) (sym N.held.long) ∙ sym r.known in
        record {
          small = omega (arith, g.small, (lists_small n).0);
          on = omega (arith, g.on);
          is = λ fs h.
              subst (λ (j : ℕ). Going 5 list_long (list_value w) up (list_bits w) s fs 0 (p + 3 + m) j (l + 1) (z + (w + w * (m / 2)))) (sym (add-one l))
              (going_on (g.is fs h) (N.is fs h) (subst (λ (x : List ℕ). (list_value w l).dec (bits_of x) ≡ got r.value []) (N.is fs h).holds r.reads)
              (ap (λ (k : ℕ). w + w * k) e));
        }

  pub lists_all : SomeFields (ListFields s a) → {r : Bool} → Starts 5 s p r → r ≡ false → RightAre (1024 * 524288) a p z (ListFields s a) (λ gs. RunRight 5 (list_value w) up 0 gs (list_bits w) s p z)
  lists_all F S e =
      record {
        small = omega (arith, g.small, (g.is F.value F.holds).count, F.holds.few);
        on = g.on;
        is = λ gs h. going_all (g.is gs h) (denied e (S.is (g.is gs h).left (g.is gs h).stand));
      }
