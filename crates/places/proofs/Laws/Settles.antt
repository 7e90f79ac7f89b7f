-- What a refusal goes by, for each way of the kit that reads a codec: lists that are as long and agree up to the reach behind the
-- place are refused alike. A codec that follows another may count on what fits before it.
use mathlib.Core.Path.{◌≡◌, refl, sym, ap, ◌∙◌}
use Prim.Native.Nat.{ℕ, zero, suc, ◌+◌, ◌-◌, ◌≤◌}
use native.Mathlib.Omega.{arith}
use native.Mathlib.Nat.{le_refl}
use mathlib.Core.Bool.{Bool, not}
use lib.ListN.{length, take, length-append}
use lib.Dec.{T, leb}
use Rattle.bits.specs.Choice.{pick}
use Rattle.bits.specs.ChoiceLaws.{pick_yes, pick_no, pick_case}
use Rattle.bits.specs.Bits.{Bits}
use Rattle.bits.specs.BitsLaws.{length_bits}
use Rattle.bits.specs.Codec.{Read, got, refused, next, Codec, field_dec, then_dec, times_dec, along_dec, via_dec, only_dec, room_dec}
use Rattle.bits.specs.CodecLaws.{field}
use Rattle.bits.proofs.Laws.Refuses.{Refusal, accepted, by, refusal_map, next_refusal}
use Rattle.places.specs.Reach.{reach, RefusedAlike}
use Rattle.places.proofs.Laws.Agree.{shares}

-- ---- what is said of a refusal

-- d refuses s by e, with l left: no more is left than was there, and whatever agrees with s in n bits is refused alike, if these are
-- those before the place and the reach behind it
pub record Settled {A : Type 0} (d : Bits → Read Bool A) (s : Bits) (e l : ℕ) : Type 0 where
  pub inside : l ≤ length s
  pub alike : (t : Bits) (n : ℕ) → length s ≡ length t → take n s ≡ take n t → length s + reach e ≤ n + l → RefusedAlike e l (d t)

-- so of every refusal of d
pub record Settles {A : Type 0} (d : Bits → Read Bool A) : Type 0 where
  pub at : (s : Bits) → Refusal (Settled d s) (d s)

pub same_alike : {A : Type 0} {o : Read Bool A} {e l : ℕ} → o ≡ refused e l → RefusedAlike e l o
same_alike {l = l} p = record { rest = l; is = p; later = le_refl l; same = λ _. refl }

pub path_alike : {A : Type 0} {o q : Read Bool A} {e l : ℕ} → q ≡ o → RefusedAlike e l o → RefusedAlike e l q
path_alike p h = record { rest = h.rest; is = p ∙ h.is; later = h.later; same = h.same }

next_alike : {A B : Type 0} {o : Read Bool A} (f : A → Bits → Read Bool B) {e l : ℕ} → RefusedAlike e l o → RefusedAlike e l (next o f)
next_alike f h = record { rest = h.rest; is = rw h.is; later = h.later; same = h.same }

-- what d and another reading say of s is the same, and of whatever is as long
pub settled_as : {A : Type 0} {d g : Bits → Read Bool A} {s : Bits} {e l : ℕ} → ((t : Bits) → length s ≡ length t → g t ≡ d t)
    → Settled d s e l → Settled g s e l
settled_as f h = record { inside = h.inside; alike = λ t n k q far. path_alike (f t k) (h.alike t n k q far) }

-- ---- the steps of reading

-- what is refused first is refused, whatever follows; f may look at the whole list
pub next_at : {A B : Type 0} {d : Bits → Read Bool A} (f : Bits → A → Bits → Read Bool B) (s : Bits) → Refusal (Settled d s) (d s)
    → ((a : A) (r : Bits) → d s ≡ got a r → Refusal (Settled (λ t. next (d t) (f t)) s) (f s a r))
    → Refusal (Settled (λ t. next (d t) (f t)) s) (next (d s) (f s))
next_at f s h k =
    next_refusal
    (refusal_map (λ e l q. record { inside = q.inside; alike = λ t n z same far. next_alike (f t) (q.alike t n z same far) }) h)
    k

-- a codec, then what its value calls for
pub next_settles : {A B : Type 0} (c : Codec Bool A) {f : A → Bits → Read Bool B} → Settles c.dec → ((a : A) → c.Fits a → Settles (f a))
    → Settles (λ s. next (c.dec s) f)
next_settles {A} {B} c {f} h k = record { at = λ s. next_at (λ _. f) s (h.at s) (go s) }
  where
    go : (s : Bits) (a : A) (r : Bits) → c.dec s ≡ got a r → Refusal (Settled (λ t. next (c.dec t) f) s) (f a r)
    go s a r p =
        let (fits, is) = c.back s a r p in
        let n : length s ≡ length (c.enc a) + length r = ap length is ∙ length-append (c.enc a) r in
        refusal_map (λ e l q. record {
          inside = omega (arith, q.inside);
          alike = λ t m g same far.
              let x = shares (c.enc a) r t m (omega (arith, q.inside)) (rw is at g) (rw is at same) in
              let y : c.dec t ≡ got a x.rest = ap c.dec x.is ∙ c.there a x.rest fits in
              path_alike (ap (λ (o : Read Bool A). next o f) y)
              (q.alike x.rest (m - length (c.enc a)) x.long x.same (omega (arith, q.inside)));
        }) ((k a fits).at r)

-- the same, as another value
pub map_settles : {A B : Type 0} {d : Bits → Read Bool A} (g : A → B) → Settles d → Settles (λ s. next (d s) (λ a r. got (g a) r))
map_settles g h = record { at = λ s. next_at (λ _ a r. got (g a) r) s (h.at s) λ a r _. accepted }

-- one way or the other, by how long the list is
module _ {A : Type 0} (b : ℕ → Bool) {d g : Bits → Read Bool A} where
  pub fork_at : (s : Bits) → (T (b (length s)) → Refusal (Settled d s) (d s)) → (T (not (b (length s))) → Refusal (Settled g s) (g s))
      → Refusal (Settled (λ t. pick (b (length t)) (d t) (g t)) s) (pick (b (length s)) (d s) (g s))
  fork_at s h k =
      let Q : ℕ → ℕ → Type 0 = Settled (λ (t : Bits). pick (b (length t)) (d t) (g t)) s in
      pick_case (λ (o : Read Bool A). Refusal Q o) (b (length s)) (d s) (g s)
      (λ y. refusal_map (λ e l q. settled_as (λ t z. pick_yes (b (length t)) (d t) (g t) (rw z at y)) q) (h y))
      (λ y. refusal_map (λ e l q. settled_as (λ t z. pick_no (b (length t)) (d t) (g t) (rw z at y)) q) (k y))

  pub fork_settles : Settles d → Settles g → Settles (λ s. pick (b (length s)) (d s) (g s))
  fork_settles h k = record { at = λ s. fork_at s (λ _. h.at s) (λ _. k.at s) }

-- refused whatever is there
pub short_settles : {A : Type 0} (e : ℕ) → Settles {A = A} (λ s. refused e (length s))
short_settles e =
    record { at = λ s. by {l = length s} (record { inside = le_refl (length s); alike = λ t n k q far. same_alike (ap (refused e) (sym k)) }) }

-- ---- codecs

pub field_settles : (e w : ℕ) → Settles (field_dec e w)
field_settles e w = fork_settles (leb w) (record { at = λ s. accepted }) (short_settles e)

pub then_settles : {A B : Type 0} (c : Codec Bool A) (d : A → Codec Bool B) → Settles c.dec → ((a : A) → c.Fits a → Settles (d a).dec)
    → Settles (then_dec c d)
unfolding then_dec
then_settles c d h k = next_settles c h λ a f. map_settles _ (k a f)

pub times_settles : {A : Type 0} (c : Codec Bool A) (n : ℕ) → Settles c.dec → Settles (times_dec c n)
times_settles c zero h = record { at = λ s. accepted }
times_settles c (suc n) h = next_settles c h λ x _. map_settles _ (times_settles c n h)

pub along_settles : {A I : Type 0} (c : I → Codec Bool A) (m : I → A → I) (n : ℕ) (i : I) → ((j : I) → Settles (c j).dec) → Settles (along_dec c m n i)
along_settles c m zero i h = record { at = λ s. accepted }
along_settles c m (suc n) i h = next_settles (c i) (h i) λ x _. map_settles _ (along_settles c m n (m i x) h)

pub via_settles : {A B : Type 0} (c : Codec Bool A) (f : A → B) → Settles c.dec → Settles (via_dec c f)
unfolding via_dec
via_settles c f h = map_settles f h

pub room_settles : {A : Type 0} (c : Codec Bool A) (e n : ℕ) → Settles c.dec → Settles (room_dec c e n)
unfolding room_dec
room_settles c e n h = fork_settles (leb n) h (short_settles e)

-- a number that must pass a test: all of its bits are within reach
module _ (e w : ℕ) (t : ℕ → Bool) where
  abbrev tested : Bits → ℕ → Bits → Read Bool ℕ
  tested z a r = pick (t a) (got a r) (refused e (length z))

  number_at : w ≤ reach e → (s : Bits) (a : ℕ) (r : Bits) → field_dec e w s ≡ got a r
      → Refusal (Settled (λ z. next (field_dec e w z) (tested z)) s) (tested s a r)
  number_at h s a r p =
      let (fits, is) = (field e w).back s a r p in
      let n : length ((field e w).enc a) ≡ w = length_bits w a in
      let Q : ℕ → ℕ → Type 0 = Settled (λ (z : Bits). next (field_dec e w z) (tested z)) s in
      pick_case (λ (o : Read Bool ℕ). Refusal Q o) (t a) (got a r) (refused e (length s)) (λ _. accepted)
      λ no. by {l = length s} (record {
        inside = le_refl (length s);
        alike = λ z m k same far.
            let x = shares ((field e w).enc a) r z m (omega arith) (rw is at k) (rw is at same) in
            let y : field_dec e w z ≡ got a x.rest = ap (field_dec e w) x.is ∙ (field e w).there a x.rest fits in
            same_alike (rw y (pick_no (t a) _ _ no) ∙ ap (refused e) (sym k));
      })

  pub number_settles : w ≤ reach e → Settles (only_dec (field e w) e t)
  unfolding only_dec
  number_settles h = record { at = λ s. next_at tested s ((field_settles e w).at s) (number_at h s) }
