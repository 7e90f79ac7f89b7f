-- The ways of Codec that change what a codec refuses, or where: by a judgement of the value, at the start of what is read, or for
-- want of room. Each has its two laws, and is made into a codec. For a reader: the line of each codec (`judged`, `whole`, `room`) says
-- which values fit; what is written stays. All else are laws.
use Rattle.std.specs.Prelude.{◌≡◌, ℕ, ◌-◌, ◌≤◌, Bool, leb}
use Rattle.std.proofs.Math.Path.{refl}
use Rattle.std.proofs.Common.{◌∙◌, arith, le→leb}
use Rattle.std.proofs.Math.Option.{Option, none, some}
use mathlib.Core.List.{List, ◌++◌}
use Rattle.std.proofs.Math.ListN.{length, length-append}
use Rattle.bits.specs.ChoiceLaws.{pick_yes, pick_split}
use Rattle.bits.specs.Bits.{Bits}
use Rattle.bits.specs.Codec.{Read, got, refused, Codec, sound, judged_dec, at_start, whole_dec, room_dec}
use Rattle.bits.specs.CodecLaws.{not_got, next_got}

-- ---- judged

module _ {S A : Type 0} (c : Codec S A) (e : ℕ) (t : A → Option ℕ) where
  pub judged_there : (a : A) (r : List S) → c.Fits a × (t a ≡ none) → judged_dec c e t (c.enc a ++ r) ≡ got a r
  unfolding judged_dec
  judged_there a r h = rw (c.there a r h.0, h.1)

  pub judged_back : (s : List S) (a : A) (r : List S) → judged_dec c e t s ≡ got a r → (c.Fits a × (t a ≡ none)) × (s ≡ c.enc a ++ r)
  unfolding judged_dec
  judged_back s a r h =
      next_got (c.dec s) _ h λ b q k h1.
      let (f, g) = c.back s b q k in
      go b q (t b) refl h1 f g
    where
      go : (b : A) (q : List S) (o : Option ℕ) → t b ≡ o → sound o (λ d. refused e (length s - d)) (got b q) ≡ got a r → c.Fits b → s ≡ c.enc b ++ q
          → (c.Fits a × (t a ≡ none)) × (s ≡ c.enc a ++ r)
      go b q none z p f g =
          let y : b ≡ a = cc in
          let x : q ≡ r = cc in
          rw (← y, ← x) ((f, z), g)
      go b q (some d) z p f g = not_got p

  abbrev pub judged : Codec S A
  judged = record { Fits = λ a. c.Fits a × (t a ≡ none); enc = c.enc; dec = judged_dec c e t; there = judged_there; back = judged_back }

-- ---- whole

module _ {S A : Type 0} (c : Codec S A) where
  pub whole_there : (a : A) (r : List S) → c.Fits a → whole_dec c (c.enc a ++ r) ≡ got a r
  unfolding whole_dec
  whole_there a r h = rw (c.there a r h)

  pub whole_back : (s : List S) (a : A) (r : List S) → whole_dec c s ≡ got a r → c.Fits a × (s ≡ c.enc a ++ r)
  unfolding whole_dec
  whole_back s a r h = c.back s a r (go (c.dec s) h)
    where
      go : (o : Read S A) → at_start (length s) o ≡ got a r → o ≡ got a r
      go (got b q) p = p
      go (refused e l) p = not_got p

  abbrev pub whole : Codec S A
  whole = record { Fits = c.Fits; enc = c.enc; dec = whole_dec c; there = whole_there; back = whole_back }

-- ---- room

module _ {A : Type 0} (c : Codec Bool A) (e n : ℕ) (long : (a : A) → c.Fits a → n ≤ length (c.enc a)) where
  pub room_there : (a : A) (r : Bits) → c.Fits a → room_dec c e n (c.enc a ++ r) ≡ got a r
  unfolding room_dec
  room_there a r h =
      let l : n ≤ length (c.enc a ++ r) = simp length-append (omega (arith, long a h)) in
      pick_yes (leb n (length (c.enc a ++ r))) _ _ (le→leb n _ l) ∙ c.there a r h

  pub room_back : (s : Bits) (a : A) (r : Bits) → room_dec c e n s ≡ got a r → c.Fits a × (s ≡ c.enc a ++ r)
  unfolding room_dec
  room_back s a r p = pick_split (leb n (length s)) _ _ p (λ t q. c.back s a r q) (λ t q. not_got q)

  abbrev pub room : Codec Bool A
  room = record { Fits = c.Fits; enc = c.enc; dec = room_dec c e n; there = room_there; back = room_back }
