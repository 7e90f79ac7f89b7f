-- Blocks made of others, with their laws: a codec ahead, a test, another type; and a block of a stated size, as a codec. For a
-- reader: the line of each block or codec (`ahead`, `pass`, `recast`, `sized`, `headed`, `prefixed`) says which values fit and what is
-- written. All else are laws.
use Rattle.std.specs.Prelude.{◌≡◌, refl, ℕ, ◌+◌, ◌*◌, ◌/◌, ◌%◌, ◌^◌, ◌≤◌, ◌<◌, Bool, take, T, leb}
use Rattle.std.proofs.Math.Path.{sym, ap}
use Rattle.std.proofs.Common.{◌∙◌, arith, take-append-drop, leb→le, le→leb, take_at}
use mathlib.Core.List.{[], ◌++◌}
use Rattle.std.proofs.Math.ListN.{length, drop, length-append}
use Rattle.std.proofs.Math.Seq.{drop_at, length-take-le}
use Rattle.bits.specs.ChoiceLaws.{pick_yes, pick_split}
use Rattle.bits.specs.Bits.{Bits}
use Rattle.bits.specs.Codec.{Read, got, refused, Codec}
use Rattle.bits.specs.CodecLaws.{not_got, pick_got, next_got, field, then, Matches, via}
use Rattle.bits.specs.Block.{Block, inside, sized_dec, ahead_dec, pass_dec, recast_dec}

-- ---- ahead

module _ {A B : Type 0} (c : Codec Bool A) (whole : (a : A) → length (c.enc a) % 8 ≡ 0) (w : A → Block B) where
  pub ahead_there : (p : A × B) → c.Fits p.0 × (w p.0).Fits p.1 → ahead_dec c w (c.enc p.0 ++ (w p.0).enc p.1) ≡ got p []
  unfolding ahead_dec
  ahead_there p h = rw (c.there p.0 ((w p.0).enc p.1) h.0, (w p.0).there p.1 h.1)

  pub ahead_back : (s : Bits) (p : A × B) → length s % 8 ≡ 0 → ahead_dec c w s ≡ got p []
      → (c.Fits p.0 × (w p.0).Fits p.1) × (s ≡ c.enc p.0 ++ (w p.0).enc p.1)
  unfolding ahead_dec
  ahead_back s p l h =
      next_got (c.dec s) _ h λ a r e h1.
      next_got ((w a).dec r) _ h1 λ b q e2 h2.
      let u : (a, b) ≡ p = cc in
      let v : q ≡ [] = cc in
      let (f, g) = c.back s a r e in
      let z : length (c.enc a) + length r ≡ length s = sym (ap length g ∙ simp length-append) in
      let (f2, g2) = (w a).back r b (omega (arith, whole a)) (e2 ∙ ap (got b) v) in
      rw (← u) ((f, f2), g ∙ ap (λ (x : Bits). c.enc a ++ x) g2)

  pub ahead_all : (s : Bits) (p : A × B) (r : Bits) → ahead_dec c w s ≡ got p r → r ≡ []
  unfolding ahead_dec
  ahead_all s p r h =
      next_got (c.dec s) _ h λ a q e h1.
      next_got ((w a).dec q) _ h1 λ b v e2 h2.
      let u : v ≡ r = cc in sym u ∙ (w a).all q b v e2

  abbrev pub ahead : Block (A × B)
  ahead =
      record {
        Fits = λ p. c.Fits p.0 × (w p.0).Fits p.1;
        enc = λ p. c.enc p.0 ++ (w p.0).enc p.1;
        dec = ahead_dec c w;
        bytes = λ p. simp length-append (omega (arith, whole p.0, (w p.0).bytes p.1));
        there = ahead_there;
        back = ahead_back;
        all = ahead_all;
      }

-- ---- pass

module _ {A : Type 0} (w : Block A) (e : ℕ) (t : A → Bool) where
  pub pass_there : (a : A) → w.Fits a × T (t a) → pass_dec w e t (w.enc a) ≡ got a []
  unfolding pass_dec
  pass_there a h = rw (w.there a h.0) (pick_yes (t a) _ _ h.1)

  pub pass_back : (s : Bits) (a : A) → length s % 8 ≡ 0 → pass_dec w e t s ≡ got a [] → (w.Fits a × T (t a)) × (s ≡ w.enc a)
  unfolding pass_dec
  pass_back s a l h =
      next_got (w.dec s) _ h λ b q k h1.
      let (x, y, z) = pick_got (t b) b q e _ h1 in
      let (f, g) = w.back s b l (k ∙ ap (got b) z) in
      rw (← y) ((f, x), g)

  pub pass_all : (s : Bits) (a : A) (r : Bits) → pass_dec w e t s ≡ got a r → r ≡ []
  unfolding pass_dec
  pass_all s a r h = next_got (w.dec s) _ h λ b q k h1. let (x, y, z) = pick_got (t b) b q e _ h1 in sym z ∙ w.all s b q k

  abbrev pub pass : Block A
  pass = record { Fits = λ a. w.Fits a × T (t a); enc = w.enc; dec = pass_dec w e t; bytes = w.bytes; there = pass_there; back = pass_back; all = pass_all }

-- ---- recast: values of another type; F says which of them fit

module _ {A B : Type 0} (w : Block A) (f : A → B) (g : B → A) (F : B → Type 0) (m : Matches w.Fits f g F) where
  pub recast_there : (b : B) → F b → recast_dec w f (w.enc (g b)) ≡ got b []
  unfolding recast_dec
  recast_there b h = rw (w.there (g b) (m.fits b h), m.same b h)

  pub recast_back : (s : Bits) (b : B) → length s % 8 ≡ 0 → recast_dec w f s ≡ got b [] → F b × (s ≡ w.enc (g b))
  unfolding recast_dec
  recast_back s b l h =
      next_got (w.dec s) _ h λ a q e h1.
      let u : f a ≡ b = cc in
      let v : q ≡ [] = cc in
      let (k, z) = w.back s a l (e ∙ ap (got a) v) in
      rw (← u) (m.allowed a k, rw (m.again a k) z)

  pub recast_all : (s : Bits) (b : B) (r : Bits) → recast_dec w f s ≡ got b r → r ≡ []
  unfolding recast_dec
  recast_all s b r h = next_got (w.dec s) _ h λ a q e h1. let v : q ≡ r = cc in sym v ∙ w.all s a q e

  abbrev pub recast : Block B
  recast = record { Fits = F; enc = λ b. w.enc (g b); dec = recast_dec w f; bytes = λ b. w.bytes (g b); there = recast_there; back = recast_back; all = recast_all }

-- ---- sized: a block of n bytes

pub inside_got : {A : Type 0} {P : Type 0} {a : A} {q r : Bits} (o : Read Bool A) → inside q o ≡ got a r → ((u : Bits) → o ≡ got a u → q ≡ r → P) → P
inside_got (got b u) p k = k u (cc) (cc)
inside_got (refused e l) p k = not_got p

module _ {A : Type 0} (w : Block A) (e n : ℕ) where
  pub sized_there : (a : A) (r : Bits) → w.Fits a × (length (w.enc a) ≡ 8 * n) → sized_dec w e n (w.enc a ++ r) ≡ got a r
  unfolding sized_dec
  sized_there a r h =
      let l : 8 * n ≤ length (w.enc a ++ r) = simp length-append (omega arith) in
      pick_yes (leb (8 * n) (length (w.enc a ++ r))) _ _ (le→leb (8 * n) _ l)
      ∙ rw (take_at (w.enc a) r (8 * n) h.1, w.there a h.0, drop_at (w.enc a) r (8 * n) h.1)

  pub sized_back : (s : Bits) (a : A) (r : Bits) → sized_dec w e n s ≡ got a r → (w.Fits a × (length (w.enc a) ≡ 8 * n)) × (s ≡ w.enc a ++ r)
  unfolding sized_dec
  sized_back s a r p =
      pick_split (leb (8 * n) (length s)) _ _ p
      (λ t q. inside_got (w.dec (take (8 * n) s)) q λ u d y.
      let l : length (take (8 * n) s) ≡ 8 * n = length-take-le (8 * n) s (leb→le (8 * n) (length s) t) in
      let (f, g) = w.back (take (8 * n) s) a (omega arith) (d ∙ ap (got a) (w.all _ a u d)) in
      rw (← y) ((f, ap length (sym g) ∙ l), sym (take-append-drop (8 * n) s) ∙ ap (λ (z : Bits). z ++ drop (8 * n) s) g))
      (λ t q. not_got q)

  abbrev pub sized : Codec Bool A
  sized = record { Fits = λ a. w.Fits a × (length (w.enc a) ≡ 8 * n); enc = w.enc; dec = sized_dec w e n; there = sized_there; back = sized_back }

pub headed_matches : {H A : Type 0} (c : Codec Bool (H × ℕ)) (w : Block A) (e : ℕ)
    → Matches {B = H × A} (then c (λ t. sized w e t.1)).Fits (λ t. (t.0.0, t.1)) (λ t. ((t.0, length (w.enc t.1) / 8), t.1))
    (λ t. c.Fits (t.0, length (w.enc t.1) / 8) × w.Fits t.1)
headed_matches c w e =
    record {
      fits = λ t h. (h.0, (h.1, omega (arith, w.bytes t.1)));
      same = λ t h. refl;
      allowed = λ t h. let z : length (w.enc t.1) / 8 ≡ t.0.1 = omega (arith, h.1.1) in (rw z h.0, h.1.0);
      again = λ t h. let z : length (w.enc t.1) / 8 ≡ t.0.1 = omega (arith, h.1.1) in ap (λ (n : ℕ). ((t.0.0, n), t.1)) z;
    }

-- a codec whose last number is the length, in bytes, of the block that follows it
abbrev pub headed : {H A : Type 0} → Codec Bool (H × ℕ) → Block A → ℕ → Codec Bool (H × A)
headed c w e =
    via (then c (λ t. sized w e t.1)) (λ t. (t.0.0, t.1)) (λ t. ((t.0, length (w.enc t.1) / 8), t.1))
    (λ t. c.Fits (t.0, length (w.enc t.1) / 8) × w.Fits t.1) (headed_matches c w e)

pub prefixed_matches : {A : Type 0} (w : Block A) (e : ℕ)
    → Matches (then (field e 16) (λ n. sized w e n)).Fits (λ t. t.1) (λ a. (length (w.enc a) / 8, a))
    (λ a. (length (w.enc a) / 8 < 2 ^ 16) × w.Fits a)
prefixed_matches w e =
    record {
      fits = λ a h. (h.0, (h.1, omega (arith, w.bytes a)));
      same = λ a h. refl;
      allowed = λ t h. let z : length (w.enc t.1) / 8 ≡ t.0 = omega (arith, h.1.1) in (rw z h.0, h.1.0);
      again = λ t h. let z : length (w.enc t.1) / 8 ≡ t.0 = omega (arith, h.1.1) in ap (λ (n : ℕ). (n, t.1)) z;
    }

-- a length of 16 bits, then the block
abbrev pub prefixed : {A : Type 0} → Block A → ℕ → Codec Bool A
prefixed w e =
    via (then (field e 16) (λ n. sized w e n)) (λ t. t.1) (λ a. (length (w.enc a) / 8, a)) (λ a. (length (w.enc a) / 8 < 2 ^ 16) × w.Fits a)
    (prefixed_matches w e)
