-- The laws of the walk along codes: what the next code is, how many elements codes draw, and that each is small.
use Rattle.std.proofs.Common.{Option}
use mathlib.Core.Path.{◌≡◌, refl, sym, ap, ◌∙◌}
use Prim.Native.Nat.{ℕ, zero, suc, ◌+◌, ◌-◌, ◌*◌, ◌^◌, ◌≤◌, ◌<◌}
use native.Mathlib.Omega.{arith}
use mathlib.Core.Logic.{◌≢◌}
use mathlib.Core.Bool.{Bool, not, true, false}
use mathlib.Core.List.{List, [], ◌∷◌, ◌++◌, append_assoc, append-nil}
use lib.ListN.{length, drop, length-append}
use native.Mathlib.Nat.{suc-mul, zero-mul, zero-add}
use Rattle.bits.specs.ChoiceLaws.{eqb_true, eqb_false}
use Rattle.bits.specs.Lists.{total}
use Rattle.put_bytes.specs.Laid.{Laid}
use Rattle.bits.specs.Choice.{pick}
use Rattle.bits.specs.Bits.{Bits}
use Rattle.bits.specs.Bytes.{bits_of}
use Rattle.bits.specs.Codec.{got, field_dec, times_dec}
use Rattle.bits.specs.CodecLaws.{field, next_got}
use Rattle.bits.specs.Reads.{found, Reads}
use Rattle.bits.proofs.Laws.Reads.{field_got}
use Rattle.outcome.specs.Refusals.{bad_line}
use Rattle.trail.specs.Trail.{turns_level, follow, new_heading}
use Rattle.trail.proofs.Laws.{trail_small}
use Rattle.trail_steps.specs.Walk.{drawn_by, StepDraws}
use Rattle.trail_steps.specs.Elements.{codes_in, elements, CodesStand, Ready}
use Rattle.bits.specs.declared.Cursor.{Cursor}
use Rattle.trail_steps.specs.declared.Pen.{Pen}
use Rattle.trail_steps.specs.declared.CodeWalk.{CodeWalk}

-- the codes that a line reads as are those that its bits start with
pub codes_read : (k n : ℕ) (s : Bits) {codes : List ℕ} {u : Bits} → times_dec (field bad_line k) n s ≡ got codes u → codes_in k n s ≡ codes
codes_read k zero s e = cc
codes_read k (suc n) s e =
    next_got (field_dec bad_line k s) _ e λ v r e1 e2.
    next_got (times_dec (field bad_line k) n r) _ e2 λ vs q e3 e4.
    let (l, x, y) = field_got bad_line k s e1 in
    let z = codes_read k n r e3 in
    rw (x, y, z) (cc)

-- where codes are left, the next one is read
code_next : (k n : ℕ) {s : List ℕ} {p v q : ℕ} → 0 < n → Reads (field_dec bad_line k) s p (found v q)
    → codes_in k n (drop p (bits_of s)) ≡ v ∷ codes_in k (n - 1) (drop q (bits_of s))
code_next k n {s} {p} h r =
    let e : n ≡ suc (n - 1) = omega arith in
    let (l, x, y) = field_got bad_line k (drop p (bits_of s)) r.is in
    ap (λ (j : ℕ). codes_in k j (drop p (bits_of s))) e ∙ rw (x, y)

-- a code is there, and behind it the others
pub code_there : (k n p m : ℕ) → 1 ≤ k → 0 < n → n * k ≤ m - p → (p + k ≤ m) × ((n - 1) * k ≤ m - (p + k))
code_there k n p m o l h =
    let e : n ≡ suc (n - 1) = omega arith in
    let f : n * k ≡ (n - 1) * k + k = ap (λ (j : ℕ). j * k) e ∙ suc-mul (n - 1) k in
    (omega arith, omega arith)

-- where no codes are left, nothing is asked of the place
pub none_asked : (w : CodeWalk) → w.left ≡ 0 → CodesStand w
none_asked w e =
    let z : w.left * w.k ≡ 0 = rw e (zero-mul w.k) in
    omega (arith, z)

-- a walk that has read a code and stepped by it draws what the step drew, and then the rest
module _ (w : CodeWalk) (h : Ready w) (l : 0 < w.left) {v : ℕ} (n : Cursor) (r : Reads (field_dec bad_line w.k) w.block.now w.codes.at (found v n.at)) (e : n.at ≡ w.codes.at + w.k)
    {p : Pen} {d : Option ℕ} (st : StepDraws w.half w.k w.pen v p d) where
  abbrev pub stepped : CodeWalk
  stepped = record { block = w.block; codes = n; left = w.left - 1; k = w.k; half = w.half; pen = p }

  pub still_ready : Ready stepped
  still_ready =
      record { low = h.low; high = h.high; short = h.short; there = rw e (code_there w.k w.left w.codes.at _ h.low l h.there).1; some = h.some; few = h.few; below = st.heading }

  pub goes_on : elements w ≡ drawn_by d ++ elements stepped
  unfolding elements
  goes_on =
      ap (follow w.half w.k w.pen.high w.pen.heading) (code_next w.k w.left l r) ∙ st.is (codes_in w.k (w.left - 1) (drop n.at (bits_of w.block.now)))

-- where no codes are left, nothing is drawn
pub at_end : (w : CodeWalk) → w.left ≤ 0 → elements w ≡ []
unfolding elements
at_end w h = let e : w.left ≡ 0 = omega arith in ap (λ (n : ℕ). follow w.half w.k w.pen.high w.pen.heading (codes_in w.k n (drop w.codes.at (bits_of w.block.now)))) e

-- ---- counting

-- how many elements codes draw
abbrev pub drawn : ℕ → List ℕ → ℕ
drawn k codes = total (λ c. pick (turns_level k c) 0 1) codes

-- of codes that are left, the next one draws none, or one
module _ (k n : ℕ) {s : List ℕ} {p v q : ℕ} (l : 0 < n) (r : Reads (field_dec bad_line k) s p (found v q)) where
  pub drawn_none : v ≡ 2 ^ (k - 1) → drawn k (codes_in k n (drop p (bits_of s))) ≡ drawn k (codes_in k (n - 1) (drop q (bits_of s)))
  drawn_none e = ap (drawn k) (code_next k n l r) ∙ rw (eqb_true v (2 ^ (k - 1)) e) (zero-add _)

  pub drawn_one : v ≢ 2 ^ (k - 1) → drawn k (codes_in k n (drop p (bits_of s))) ≡ 1 + drawn k (codes_in k (n - 1) (drop q (bits_of s)))
  drawn_one e = ap (drawn k) (code_next k n l r) ∙ rw (eqb_false v (2 ^ (k - 1)) e)

-- no heading matters
pub trail_length : (half k : ℕ) (high : Bool) (heading : ℕ) (codes : List ℕ) → length (follow half k high heading codes) ≡ drawn k codes
trail_length half k high heading [] = refl
trail_length half k high heading (code ∷ codes) = rw (length-append, trail_length half k (pick (turns_level k code) (not high) high) (new_heading half k heading code) codes) (ap (λ (x : ℕ). x + drawn k codes) (go (turns_level k code) _))
  where
    go : (t : Bool) (x : ℕ) → length (pick t [] (x ∷ [])) ≡ pick t 0 1
    go true x = refl
    go false x = refl

pub elements_count : (w : CodeWalk) → drawn w.k (codes_in w.k w.left (drop w.codes.at (bits_of w.block.now))) ≡ length (elements w)
unfolding elements
elements_count w = sym (trail_length w.half w.k w.pen.high w.pen.heading (codes_in w.k w.left (drop w.codes.at (bits_of w.block.now))))

-- ---- laying

-- an element is below 4N
pub element_small : (w : CodeWalk) → Ready w → {x : ℕ} {xs : List ℕ} → elements w ≡ x ∷ xs → x < 1020
unfolding elements
element_small w h e =
    let t = trail_small w.half w.k w.pen.high w.pen.heading (codes_in w.k w.left (drop w.codes.at (bits_of w.block.now))) (omega (arith, h.some)) h.below in
    omega (arith, h.few, (rw e at t).0)

-- Where a writer stands: of all elements those that came are laid, as form has them, and rest is still to come.
pub record Laying (form : List ℕ → List ℕ) (all rest before after : List ℕ) (at : ℕ) : Type 0 where
  pub same : length after ≡ length before
  pub came : List ℕ
  pub laid : Laid (form came) before after at
  pub whole : all ≡ came ++ rest

module _ {form : List ℕ → List ℕ} {all rest before after : List ℕ} {at : ℕ} (y : Laying form all rest before after at) where
  -- one more comes
  pub laying_next : {x : ℕ} {more after' : List ℕ} {at' : ℕ} → rest ≡ x ∷ more → length after' ≡ length before → Laid (form (y.came ++ x ∷ [])) before after' at'
      → Laying form all more before after' at'
  laying_next {x} {more} e s h =
      record { same = s; came = y.came ++ x ∷ []; laid = h; whole = y.whole ∙ ap (λ (r : List ℕ). y.came ++ r) e ∙ sym (append_assoc y.came (x ∷ []) more) }

  -- none is left
  pub laying_end : rest ≡ [] → Laid (form all) before after at
  laying_end e = rw (y.whole, e, append-nil) y.laid

  -- there is room for what is still to come
  pub room_left : {x : ℕ} {more : List ℕ} → rest ≡ x ∷ more → length y.came + 1 ≤ length all
  room_left {x} {more} e = omega (arith, ap length y.whole, length-append y.came rest, ap length e)
