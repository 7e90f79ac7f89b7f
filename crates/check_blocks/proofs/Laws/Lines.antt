-- The values of lines: how many bits a line takes in a record, and how far a loop over the lines has come. At most 1,024 lines of at
-- most 2,132 bits come, so that no sum wraps.
use mathlib.Core.Path.{◌≡◌, ap, ◌∙◌, subst}
use Prim.Native.Nat.{ℕ, ◌+◌, ◌-◌, ◌*◌, ◌≤◌, ◌<◌}
use native.Mathlib.Omega.{arith}
use native.Mathlib.Nat.{mul_comm, mul-le-mul}
use mathlib.Core.Bool.{Bool, true, false}
use mathlib.Core.List.{List, []}
use lib.ListN.{length, get_or}
use Rattle.bits.specs.ChoiceLaws.{within_low, within_high}
use Rattle.bits.specs.Bytes.{bits_of}
use Rattle.bits.specs.Codec.{got, refused}
use Rattle.bits.proofs.Laws.Parts.{part}
use Rattle.outcome.specs.Refusals.{bad_value}
use Rattle.format.specs.Line.{Line}
use Rattle.format.specs.declared.Widths.{Widths}
use Rattle.format.specs.Record.{Narrow}
use Rattle.find_parts.proofs.Laws.Line.{line_bits_lem}
use Rattle.sheet.specs.Fields.{Field}
use Rattle.sheet.specs.Values.{line_value}
use Rattle.sheet.specs.Sheet.{alike}
use Rattle.check_shape.specs.Shape.{Starts}
use Rattle.check_shape.proofs.Laws.Stand.{denied}
use Rattle.check_value.specs.Worth.{Right, Wrong}
use Rattle.check_blocks.specs.Run.{line_long, line_bits, SomeFields, LineFields, RunWrong, RunRight, RightAre}
use Rattle.check_blocks.proofs.Laws.Stand.{Held, Next, three, next}
use Rattle.check_blocks.proofs.Laws.Run.{Going, going_first, going_all, going_wrong, going_on, its_right, one_more}

-- ---- one line

-- as code counts them
abbrev pub counted : Widths → ℕ → ℕ
counted w n = 2 * (2 + w.b + 2 * w.c) + 8 + w.k * n

line_counted : (w : Widths) (l : Line) (n : ℕ) → length l.codes ≡ n → counted w n ≡ line_bits w l
line_counted w l n e =
    let z : w.k * n ≡ length l.codes * w.k = mul_comm w.k n ∙ ap (λ (m : ℕ). m * w.k) (omega arith) in
    omega (arith, z, line_bits_lem w l)

-- of n codes
pub codes_few : (w : Widths) (n : ℕ) → Narrow w → n ≤ 255 → w.k * n ≤ 2040
codes_few w n h l = omega (arith, mul-le-mul {n₁ = w.k} {m₁ = n} {n₂ = 8} {m₂ = 255} h.k l)

counted_few : (w : Widths) (n : ℕ) → Narrow w → n ≤ 255 → counted w n ≤ 2132
counted_few w n h l = omega (arith, codes_few w n h l, h.b, h.c)

-- ---- the loop over them: the next one starts at byte p, and those before take z bits

pub record LinesGoing (w : Widths) (s : List ℕ) (a p z : ℕ) : Type 0 where
  pub count : ℕ
  pub small : z ≤ count * 2132
  pub on : a ≤ p
  pub is : (fs : List Field) → LineFields s a fs → Going 3 line_long (λ _. line_value w) alike (line_bits w) s fs tt p tt count z

pub lines_first : (w : Widths) (s : List ℕ) (a : ℕ) → LinesGoing w s a a 0
lines_first w s a = record { count = 0; small = omega arith; on = omega arith; is = λ fs h. going_first h.run }

-- the next line's value has m bytes
pub record LineNext (w : Widths) (s : List ℕ) (a p z : ℕ) (g : LinesGoing w s a p z) (m : ℕ) : Type 0 where
  pub least : 12 ≤ m
  pub most : m ≤ 267
  pub held : Held s p m
  pub few : g.count < 1024
  pub is : (fs : List Field) (h : LineFields s a fs) → Next 3 s p m (g.is fs h).left

module _ {w : Widths} {s : List ℕ} {a p z : ℕ} (g : LinesGoing w s a p z) where
  line_next : (fs : List Field) (h : LineFields s a fs) → {m : ℕ} → ((fs : List Field) (h : LineFields s a fs) → Next 3 s p m (g.is fs h).left) → LineNext w s a p z g m
  line_next fs h {m} k =
      let N = k fs h in
      let v : List ℕ = N.field.value in
      let t = its_right (g.is fs h) N in
      record {
        least = omega (arith, within_low 12 267 (length v) t, N.size);
        most = omega (arith, within_high 12 267 (length v) t, N.size);
        held = N.held;
        few = omega (arith, one_more (g.is fs h) N, h.few);
        is = k;
      }

  -- where a call has found one
  module _ (F : SomeFields (LineFields s a)) {r : Bool} (S : Starts 3 s p r) (e : r ≡ true) where
    pub line_three : p + 3 ≤ length s
    line_three = three 3 S e (g.is F.value F.holds).stand

    pub line_there : {m : ℕ} → m ≡ get_or s (p + 1) 0 * 256 + get_or s (p + 1 + 1) 0 → LineNext w s a p z g m
    line_there y = line_next F.value F.holds (λ fs h. next 3 S e (g.is fs h).stand y)

  module _ {m : ℕ} (N : LineNext w s a p z g m) where
    abbrev v : List ℕ
    v = part s (p + 3) (p + 3 + m - (p + 3))

    pub lines_wrong : Wrong (line_value w) v → (fs : List Field) → LineFields s a fs → RunWrong 3 (λ _. line_value w) alike tt fs
    lines_wrong r fs h =
        going_wrong (g.is fs h) (N.is fs h)
        (subst (λ (x : List ℕ). (line_value w).dec (bits_of x) ≡ refused bad_value r.left) (N.is fs h).holds r.refuses)

    pub lines_on : Narrow w → Right (line_value w) v (λ l. length l.codes ≡ length v - 12) → LinesGoing w s a (p + 3 + m) (z + counted w (m - 12))
    lines_on n r =
        let e : length r.value.codes ≡ m - 12 = omega (arith, r.known, N.held.long) in
        record {
          count = g.count + 1;
          small = omega (arith, g.small, counted_few w (m - 12) n (omega (arith, N.most)));
          on = omega (arith, g.on);
          is = λ fs h.
              going_on (g.is fs h) (N.is fs h) (subst (λ (x : List ℕ). (line_value w).dec (bits_of x) ≡ got r.value []) (N.is fs h).holds r.reads)
              (line_counted w r.value (m - 12) e);
        }

    pub lines_small_lem : Narrow w → (w.k * (m - 12) ≤ 2040) × (counted w (m - 12) ≤ 2132) × (z + counted w (m - 12) ≤ 1024 * 2132)
    lines_small_lem n =
        let k = counted_few w (m - 12) n (omega (arith, N.most)) in
        (codes_few w (m - 12) n (omega (arith, N.most)), k, omega (arith, k, g.small, N.few))

  pub lines_all : SomeFields (LineFields s a) → {r : Bool} → Starts 3 s p r → r ≡ false → RightAre (1024 * 2132) a p z (LineFields s a) (λ gs. RunRight 3 (λ _. line_value w) alike tt gs (line_bits w) s p z)
  lines_all F S e =
      record {
        small = omega (arith, g.small, (g.is F.value F.holds).count, F.holds.few);
        on = g.on;
        is = λ gs h. going_all (g.is gs h) (denied e (S.is (g.is gs h).left (g.is gs h).stand));
      }
