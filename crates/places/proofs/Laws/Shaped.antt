-- A part that is refused as a whole is settled where its first bits say whether it is there: by a count at its start, and by how many
-- bits follow.
use mathlib.Core.Path.{◌≡◌, refl, sym, ap, ◌∙◌}
use Prim.Native.Nat.{ℕ, ◌+◌, ◌-◌, ◌≤◌}
use native.Mathlib.Omega.{arith}
use native.Mathlib.Nat.{le_refl}
use mathlib.Core.Bool.{Bool}
use mathlib.Core.Option.{Option, none, some}
use mathlib.Core.List.{◌++◌, append_assoc}
use lib.ListN.{length, take, drop, length-append, length-drop}
use lib.Seq.{length-take-le, take_at, take-take}
use Rattle.bits.specs.Bits.{Bits}
use Rattle.bits.specs.Codec.{Read, got, refused, next, Codec, sound, judged_dec, at_start, whole_dec}
use Rattle.bits.specs.CodecLaws.{not_got, Matches, then, via}
use Rattle.bits.proofs.Laws.Refuses.{Refusal, accepted, by, Refuses, refused_by}
use Rattle.bits.proofs.Laws.Full.{Full, writes_first, writes_got}
use Rattle.places.specs.Reach.{reach}
use Rattle.places.proofs.Laws.Agree.{shares, take_both}
use Rattle.places.proofs.Laws.Settles.{Settled, Settles, same_alike, next_at}

-- ---- the first bits say whether a value is there

-- s starts with a value, and as much is left behind it as r
pub record Starts {A : Type 0} (c : Codec Bool A) (r s : Bits) : Type 0 where
  pub value : A
  pub rest : Bits
  pub fits : c.Fits value
  pub is : s ≡ c.enc value ++ rest
  pub long : length r ≡ length rest

-- what is as long as a value with something behind it, and agrees with that in j bits, starts with a value too
pub record Shaped {A : Type 0} (c : Codec Bool A) (j : ℕ) : Type 0 where
  pub also : (a : A) (r s : Bits) → c.Fits a → length (c.enc a ++ r) ≡ length s → take j (c.enc a ++ r) ≡ take j s → Starts c r s

pub full_shaped : {A : Type 0} (c : Codec Bool A) (k : ℕ) → Full c k → Shaped c 0
full_shaped c k f =
    record {
      also = λ a r s fits l same.
          let z : k + length r ≡ length s = ap (λ (n : ℕ). n + length r) (sym (f.size a fits)) ∙ sym (length-append (c.enc a) r) ∙ l in
          let x = f.every (take k s) (length-take-le k s (omega arith)) in
          record {
            value = x.value;
            rest = drop k s;
            fits = x.fits;
            is = writes_first k s x;
            long = omega (arith, length-drop k s);
          };
    }

-- a part that is seen, then one whose first bits say it
pub head_shaped : {A B : Type 0} (c : Codec Bool A) (d : A → Codec Bool B) (k j : ℕ) → ((a : A) → c.Fits a → length (c.enc a) ≡ k)
    → ((a : A) → Shaped (d a) j) → Shaped (then c d) (k + j)
head_shaped c d k j size g =
    record {
      also = λ a r s fits l same.
          let z : length (c.enc a.0) ≡ k = size a.0 fits.0 in
          let y : c.enc a.0 ++ (d a.0).enc a.1 ++ r ≡ c.enc a.0 ++ ((d a.0).enc a.1 ++ r) =
          append_assoc (c.enc a.0) ((d a.0).enc a.1) r in
          let x = shares (c.enc a.0) ((d a.0).enc a.1 ++ r) s (k + j) (omega arith) (rw y at l) (rw y at same) in
          let n : k + j - length (c.enc a.0) ≡ j = omega arith in
          let u = (g a.0).also a.1 r x.rest fits.1 x.long (rw n at x.same) in
          record {
            value = (a.0, u.value);
            rest = u.rest;
            fits = (fits.0, u.fits);
            is = x.is ∙ ap (λ (p : Bits). c.enc a.0 ++ p) u.is ∙ sym (append_assoc (c.enc a.0) ((d a.0).enc u.value) u.rest);
            long = u.long;
          };
    }

-- a part whose first bits say it, then one that any bits are
pub tail_shaped : {A B : Type 0} (c : Codec Bool A) (d : A → Codec Bool B) (j k : ℕ) → Shaped c j → ((a : A) → Full (d a) k) → Shaped (then c d) j
tail_shaped c d j k h g =
    record {
      also = λ a r s fits l same.
          let y : c.enc a.0 ++ (d a.0).enc a.1 ++ r ≡ c.enc a.0 ++ ((d a.0).enc a.1 ++ r) =
          append_assoc (c.enc a.0) ((d a.0).enc a.1) r in
          let x = h.also a.0 ((d a.0).enc a.1 ++ r) s fits.0 (rw y at l) (rw y at same) in
          let z : length x.rest ≡ k + length r =
          sym x.long ∙ length-append ((d a.0).enc a.1) r ∙ ap (λ (n : ℕ). n + length r) ((g a.0).size a.1 fits.1) in
          let u = (g x.value).every (take k x.rest) (length-take-le k x.rest (omega arith)) in
          record {
            value = (x.value, u.value);
            rest = drop k x.rest;
            fits = (x.fits, u.fits);
            is = x.is ∙ ap (λ (p : Bits). c.enc x.value ++ p) (writes_first k x.rest u) ∙ sym (append_assoc (c.enc x.value) ((d x.value).enc u.value) (drop k x.rest));
            long = omega (arith, length-drop k x.rest);
          };
    }

module _ {A B : Type 0} (c : Codec Bool A) (f : A → B) (g : B → A) (F : B → Type 0) (m : Matches c.Fits f g F) (j : ℕ) where
  pub via_shaped : Shaped c j → Shaped (via c f g F m) j
  via_shaped h =
      record {
        also = λ b r s fits l same.
            let x = h.also (g b) r s (m.fits b fits) l same in
            record {
              value = f x.value;
              rest = x.rest;
              fits = m.allowed x.value x.fits;
              is = x.is ∙ ap (λ (a : A). c.enc a ++ x.rest) (sym (m.again x.value x.fits));
              long = x.long;
            };
      }

-- ---- refused as a whole

pub whole_settles : {A : Type 0} (c : Codec Bool A) (e j : ℕ) → j ≤ reach e → Refuses (λ f. e ≡ f) c.dec → Shaped c j → Settles (whole_dec c)
unfolding whole_dec
whole_settles {A} c e j near h k = record { at = λ s. go s (c.dec s) refl }
  where
    answer : (s t : Bits) (f l : ℕ) → c.dec s ≡ refused f l → length s ≡ length t → take j s ≡ take j t → (o : Read Bool A) → c.dec t ≡ o
        → at_start (length t) o ≡ refused e (length s)
    answer s t f l p len same (refused g m) q = let z : e ≡ g = (refused_by (h.at t) q).0 in rw (z, len)
    answer s t f l p len same (got a r) q =
        let (fits, is) = c.back t a r q in
        let x = k.also a r s fits (sym (len ∙ ap length is)) (sym (same ∙ ap (take j) is)) in
        not_got (sym p ∙ ap c.dec x.is ∙ c.there x.value x.rest x.fits)

    go : (s : Bits) (o : Read Bool A) → c.dec s ≡ o → Refusal (Settled (λ t. at_start (length t) (c.dec t)) s) (at_start (length s) o)
    go s (got a r) p = accepted
    go s (refused f l) p =
        let z : e ≡ f = (refused_by (h.at s) p).0 in
        let v : reach e ≡ reach f = ap reach z in
        by {e = f} {l = length s} (record {
          inside = le_refl (length s);
          alike = λ t n len same far.
              let y : take j s ≡ take j t = sym (take-take j n s (omega arith)) ∙ ap (take j) same ∙ take-take j n t (omega arith) in
              same_alike (answer s t f l p len y (c.dec t) refl ∙ ap (λ (x : ℕ). refused x (length s)) z);
        })

-- ---- judged

-- a fault is seen in the bits before it and the reach behind its place
pub record Seen {A : Type 0} (c : Codec Bool A) (e k : ℕ) (t : A → Option ℕ) : Type 0 where
  pub near : (a : A) (d : ℕ) → t a ≡ some d → d ≤ k
  pub also : (a b : A) (d : ℕ) → c.Fits a → c.Fits b → t a ≡ some d → take (d + reach e) (c.enc a) ≡ take (d + reach e) (c.enc b) → t b ≡ some d

module _ {A : Type 0} (c : Codec Bool A) (e : ℕ) (t : A → Option ℕ) where
  abbrev right_or : Bits → Option ℕ → A → Bits → Read Bool A
  right_or s o a r = sound o (λ d. refused e (length s - d)) (got a r)

  judged_at : (k : ℕ) → Full c k → Seen c e k t → (s : Bits) (a : A) (r : Bits) → c.dec s ≡ got a r → (o : Option ℕ) → t a ≡ o
      → Refusal (Settled (λ z. next (c.dec z) (λ b q. right_or z (t b) b q)) s) (right_or s o a r)
  judged_at k full seen s a r p none y = accepted
  judged_at k full seen s a r p (some d) y =
      let (fits, is) = c.back s a r p in
      let near : d ≤ k = seen.near a d y in
      let size : length (c.enc a) ≡ k = full.size a fits in
      let all : length s ≡ length (c.enc a) + length r = ap length is ∙ length-append (c.enc a) r in
      by {e = e} {l = length s - d} (record {
        inside = omega arith;
        alike = λ z n len same far.
            let j : ℕ = d + reach e in
            let x = full.every (take k z) (length-take-le k z (omega arith)) in
            let front : c.enc a ≡ take k s = sym (take_at (c.enc a) r k size) ∙ ap (take k) (sym is) in
            let agree : take j s ≡ take j z = sym (take-take j n s (omega arith)) ∙ ap (take j) same ∙ take-take j n z (omega arith) in
            let both : take j (c.enc a) ≡ take j (c.enc x.value) =
            ap (take j) front ∙ take_both j k s ∙ ap (take k) agree ∙ take_both k j z ∙ ap (take j) (sym x.is) in
            let fault : t x.value ≡ some d = seen.also a x.value d fits x.fits y both in
            same_alike (rw (writes_got k z x, fault) (ap (λ (m : ℕ). refused e (m - d)) (sym len)));
      })

  pub judged_settles : (k : ℕ) → Full c k → Seen c e k t → Settles c.dec → Settles (judged_dec c e t)
  unfolding judged_dec
  judged_settles k full seen h =
      record { at = λ s. next_at (λ z b q. right_or z (t b) b q) s (h.at s) λ a r p. judged_at k full seen s a r p (t a) refl }
