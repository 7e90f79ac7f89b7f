-- Reading refuses only by the numbers that its parts are given, and never says that more is left than was there; so the place of a
-- refusal, the whole length minus what is left, lies within what is read. There is one law for each way of the kit, about what it
-- reads. `refusing` lists them, and with it `search` proves the same of a format that is put together from them; fixed, ranged,
-- counted, headed and prefixed are such.
use mathlib.Core.Path.{◌≡◌, refl, sym, ap, ◌∙◌}
use Prim.Native.Nat.{ℕ, zero, suc, ◌+◌, ◌-◌, ◌*◌, ◌≤◌}
use native.Mathlib.Omega.{arith}
use native.Mathlib.Nat.{le_refl}
use mathlib.Core.Bool.{Bool, true, false}
use mathlib.Core.Option.{Option, none, some}
use mathlib.Core.List.{List, [], ◌∷◌}
use lib.ListN.{length, take, drop, length-append, take-append-drop}
use lib.Dec.{leb}
use Rattle.bits.specs.Choice.{pick}
use Rattle.bits.specs.Bits.{Bits}
use Rattle.bits.specs.Codec.{Read, got, refused, next, Codec, field_dec, then_dec, times_dec, along_dec, via_dec, only_dec, sound, judged_dec, at_start, whole_dec, room_dec}
use Rattle.bits.specs.Block.{Block, few, zeros_dec, many_dec, ended_dec, maybe_dec, fill_dec, inside, sized_dec, ahead_dec, pass_dec, recast_dec, used_up, exact_dec, sifted_dec}

-- ---- what is said of a refusal

-- Q holds of its number and of how much is left; of a value nothing is said
pub data Refusal {S A : Type 0} (Q : ℕ → ℕ → Type 0) : Read S A → Type 0 where
  accepted : {a : A} {r : List S} → Refusal Q (got a r)
  by : {e l : ℕ} → Q e l → Refusal Q (refused e l)

-- a number of P, and at most n left
abbrev pub AtMost : (ℕ → Type 0) → ℕ → ℕ → ℕ → Type 0
AtMost P n e l = P e × (l ≤ n)

-- so of every refusal of d, whatever it reads; a record, so that a goal shows P and d to `search`
pub record Refuses {S A : Type 0} (P : ℕ → Type 0) (d : List S → Read S A) : Type 0 where
  pub at : (s : List S) → Refusal (AtMost P (length s)) (d s)

pub refused_by : {S A : Type 0} {Q : ℕ → ℕ → Type 0} {o : Read S A} {e l : ℕ} → Refusal Q o → o ≡ refused e l → Q e l
refused_by {S} {A} {Q} {e = e} {l = l} h p = go (rw p at h)
  where
    go : Refusal {S = S} {A = A} Q (refused e l) → Q e l
    go (by q) = q

-- ---- the steps of reading

module _ {S A : Type 0} {Q : ℕ → ℕ → Type 0} where
  pub refusal_map : {R : ℕ → ℕ → Type 0} {o : Read S A} → ((e l : ℕ) → Q e l → R e l) → Refusal Q o → Refusal R o
  refusal_map f accepted = accepted
  refusal_map f (by {e = e} {l = l} q) = by (f e l q)

  pub next_refusal : {B : Type 0} {o : Read S A} {f : A → List S → Read S B} → Refusal Q o → ((a : A) (r : List S) → o ≡ got a r → Refusal Q (f a r))
      → Refusal Q (next o f)
  next_refusal (accepted {a = a} {r = r}) k = k a r refl
  next_refusal (by q) k = by q

  pub pick_refusal : {x y : Read S A} (t : Bool) → Refusal Q x → Refusal Q y → Refusal Q (pick t x y)
  pick_refusal true h k = h
  pick_refusal false h k = k

  sound_refusal : {f : ℕ → Read S A} {o : Read S A} (t : Option ℕ) → ((d : ℕ) → Refusal Q (f d)) → Refusal Q o → Refusal Q (sound t f o)
  sound_refusal none k h = h
  sound_refusal (some d) k h = k d

start_refusal : {S A : Type 0} {P : ℕ → Type 0} {n : ℕ} {o : Read S A} → Refusal (AtMost P n) o → Refusal (AtMost P n) (at_start n o)
start_refusal accepted = accepted
start_refusal {n = n} (by h) = by (h.0, le_refl n)

inside_refusal : {A : Type 0} {P : ℕ → Type 0} {n : ℕ} {o : Read Bool A} (q : Bits) → Refusal (AtMost P n) o → Refusal (AtMost P (n + length q)) (inside q o)
inside_refusal q accepted = accepted
inside_refusal q (by {l = l} h) = by {l = l + length q} (h.0, omega arith)

module _ {P : ℕ → Type 0} where
  -- a codec, then what its value calls for: no more is left behind the value than was there before it
  pub next_refuses : {S A B : Type 0} (c : Codec S A) {f : A → List S → Read S B} → Refuses P c.dec → ((a : A) → Refuses P (f a))
      → Refuses P (λ s. next (c.dec s) f)
  next_refuses c h k =
      record {
        at = λ s. next_refusal (h.at s) λ a r p.
            let n : length s ≡ length (c.enc a) + length r = ap length (c.back s a r p).1 ∙ length-append (c.enc a) r in
            refusal_map (λ e l q. (q.0, omega arith)) ((k a).at r);
      }

  -- the same, as another value
  map_refuses : {S A B : Type 0} {d : List S → Read S A} (g : A → B) → Refuses P d → Refuses P (λ s. next (d s) (λ a r. got (g a) r))
  map_refuses g h = record { at = λ s. next_refusal (h.at s) λ a r _. accepted }

  -- only the values that pass a test
  test_refuses : {S A : Type 0} {d : List S → Read S A} (e : ℕ) (t : A → Bool) → P e → Refuses P d
      → Refuses P (λ s. next (d s) (λ a r. pick (t a) (got a r) (refused e (length s))))
  test_refuses e t p h = record { at = λ s. next_refusal (h.at s) λ a r _. pick_refusal (t a) accepted (by (p, le_refl (length s))) }

-- ---- codecs

module _ {P : ℕ → Type 0} where
  pub field_refuses : (e w : ℕ) → P e → Refuses P (field_dec e w)
  field_refuses e w p = record { at = λ s. pick_refusal (leb w (length s)) accepted (by (p, le_refl (length s))) }

  pub then_refuses : {S A B : Type 0} (c : Codec S A) (d : A → Codec S B) → Refuses P c.dec → ((a : A) → Refuses P (d a).dec) → Refuses P (then_dec c d)
  unfolding then_dec
  then_refuses c d h k = next_refuses c h λ a. map_refuses _ (k a)

  pub times_refuses : {S A : Type 0} (c : Codec S A) (n : ℕ) → Refuses P c.dec → Refuses P (times_dec c n)
  times_refuses c zero h = record { at = λ s. accepted }
  times_refuses c (suc n) h = next_refuses c h λ x. map_refuses _ (times_refuses c n h)

  pub along_refuses : {S A I : Type 0} (c : I → Codec S A) (m : I → A → I) (n : ℕ) (i : I) → ((j : I) → Refuses P (c j).dec) → Refuses P (along_dec c m n i)
  along_refuses c m zero i h = record { at = λ s. accepted }
  along_refuses c m (suc n) i h = next_refuses (c i) (h i) λ x. map_refuses _ (along_refuses c m n (m i x) h)

  pub via_refuses : {S A B : Type 0} (c : Codec S A) (f : A → B) → Refuses P c.dec → Refuses P (via_dec c f)
  unfolding via_dec
  via_refuses c f h = map_refuses f h

  pub only_refuses : {S A : Type 0} (c : Codec S A) (e : ℕ) (t : A → Bool) → P e → Refuses P c.dec → Refuses P (only_dec c e t)
  unfolding only_dec
  only_refuses c e t p h = test_refuses e t p h

  pub judged_refuses : {S A : Type 0} (c : Codec S A) (e : ℕ) (t : A → Option ℕ) → P e → Refuses P c.dec → Refuses P (judged_dec c e t)
  unfolding judged_dec
  judged_refuses c e t p h =
      record { at = λ s. next_refusal (h.at s) λ a r _. sound_refusal (t a) (λ d. by {l = length s - d} (p, omega arith)) accepted }

  pub whole_refuses : {S A : Type 0} (c : Codec S A) → Refuses P c.dec → Refuses P (whole_dec c)
  unfolding whole_dec
  whole_refuses c h = record { at = λ s. start_refusal (h.at s) }

  pub room_refuses : {A : Type 0} (c : Codec Bool A) (e n : ℕ) → P e → Refuses P c.dec → Refuses P (room_dec c e n)
  unfolding room_dec
  room_refuses c e n p h = record { at = λ s. pick_refusal (leb n (length s)) (h.at s) (by (p, le_refl (length s))) }

-- ---- blocks

module _ {P : ℕ → Type 0} where
  zeros_refuses : (e : ℕ) → P e → Refuses P (zeros_dec e)
  zeros_refuses e p = record { at = go }
    where
      go : (s : Bits) → Refusal (AtMost P (length s)) (zeros_dec e s)
      go [] = accepted
      go (false ∷ s) = refusal_map (λ f l q. (q.0, omega arith)) (go s)
      go (true ∷ s) = by (p, le_refl (suc (length s)))

  pub many_refuses : {A : Type 0} (c : Codec Bool A) (bad over n : ℕ) → P bad → P over → Refuses P c.dec → Refuses P (many_dec c bad over n)
  many_refuses c bad over zero p q h =
      record { at = λ s. pick_refusal (few (length s)) ((map_refuses _ (zeros_refuses bad p)).at s) (by (q, le_refl (length s))) }
  many_refuses c bad over (suc n) p q h =
      let more = next_refuses c h λ x. map_refuses _ (many_refuses c bad over n p q h) in
      record { at = λ s. pick_refusal (few (length s)) ((map_refuses _ (zeros_refuses bad p)).at s) (more.at s) }

  pub ended_refuses : {A : Type 0} (c : Codec Bool A) (bad : ℕ) → P bad → Refuses P c.dec → Refuses P (ended_dec c bad)
  unfolding ended_dec
  ended_refuses c bad p h =
      next_refuses c h λ a.
      record { at = λ s. next_refusal ((zeros_refuses bad p).at s) λ u r _. pick_refusal (few (length s)) accepted (by {l = length s - 7} (p, omega arith)) }

  pub maybe_refuses : {A : Type 0} (w : Block A) → Refuses P w.dec → Refuses P (maybe_dec w)
  maybe_refuses w h = record { at = go }
    where
      go : (s : Bits) → Refusal (AtMost P (length s)) (maybe_dec w s)
      go [] = accepted
      go (b ∷ s) = (map_refuses some h).at (b ∷ s)

  pub fill_refuses : {A : Type 0} (c : Codec Bool A) (e : ℕ) → P e → Refuses P c.dec → Refuses P (λ s. fill_dec c e (length s) s)
  fill_refuses c e p h = record { at = λ s. go (length s) s }
    where
      go : (n : ℕ) (s : Bits) → Refusal (AtMost P (length s)) (fill_dec c e n s)
      go zero [] = accepted
      go zero (b ∷ s) = by (p, le_refl (suc (length s)))
      go (suc n) [] = accepted
      go (suc n) (b ∷ s) = (next_refuses c h (λ x. map_refuses _ (record { at = go n }))).at (b ∷ s)

-- ---- blocks of a stated size, and blocks made of others

module _ {P : ℕ → Type 0} where
  pub sized_refuses : {A : Type 0} (w : Block A) (e n : ℕ) → P e → Refuses P w.dec → Refuses P (sized_dec w e n)
  unfolding sized_dec
  sized_refuses w e n p h =
      record {
        at = λ s.
            let m : ℕ = 8 * n in
            let z : length (take m s) + length (drop m s) ≡ length s = sym (length-append (take m s) (drop m s)) ∙ ap length (take-append-drop m s) in
            pick_refusal (leb m (length s)) (rw z at (inside_refusal (drop m s) (h.at (take m s)))) (by (p, le_refl (length s)));
      }

  pub ahead_refuses : {A B : Type 0} (c : Codec Bool A) (w : A → Block B) → Refuses P c.dec → ((a : A) → Refuses P (w a).dec) → Refuses P (ahead_dec c w)
  unfolding ahead_dec
  ahead_refuses c w h k = next_refuses c h λ a. map_refuses _ (k a)

  pub pass_refuses : {A : Type 0} (w : Block A) (e : ℕ) (t : A → Bool) → P e → Refuses P w.dec → Refuses P (pass_dec w e t)
  unfolding pass_dec
  pass_refuses w e t p h = test_refuses e t p h

  pub recast_refuses : {A B : Type 0} (w : Block A) (f : A → B) → Refuses P w.dec → Refuses P (recast_dec w f)
  unfolding recast_dec
  recast_refuses w f h = map_refuses f h

-- ---- nothing left, and what is sifted

module _ {P : ℕ → Type 0} where
  pub used_refuses : {A : Type 0} (e : ℕ) (a : A) → P e → Refuses P (used_up e a)
  used_refuses e a p = record { at = go }
    where
      go : (s : Bits) → Refusal (AtMost P (length s)) (used_up e a s)
      go [] = accepted
      go (b ∷ s) = by (p, le_refl (suc (length s)))

  pub exact_refuses : {A : Type 0} (c : Codec Bool A) (e : ℕ) → P e → Refuses P c.dec → Refuses P (exact_dec c e)
  unfolding exact_dec
  exact_refuses c e p h = next_refuses c h λ a. used_refuses e a p

  pub sifted_refuses : {A B : Type 0} (v : Block A) (w : Block B) → Refuses P v.dec → Refuses P w.dec → Refuses P (sifted_dec v w)
  unfolding sifted_dec
  sifted_refuses v w h k = record { at = λ s. next_refusal (start_refusal (h.at s)) λ a r _. k.at s }

-- ---- all of them

-- tt proves that a number is one of P, where that computes
pub ruleset refusing = (
  field_refuses,
  then_refuses,
  times_refuses,
  along_refuses,
  via_refuses,
  only_refuses,
  judged_refuses,
  whole_refuses,
  room_refuses,
  many_refuses,
  ended_refuses,
  maybe_refuses,
  fill_refuses,
  sized_refuses,
  ahead_refuses,
  pass_refuses,
  recast_refuses,
  exact_refuses,
  sifted_refuses,
  tt,
)
