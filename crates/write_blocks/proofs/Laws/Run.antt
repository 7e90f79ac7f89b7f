-- A run of fields, one by one: where bytes are left and the tag is the run's, a field is there; else the run has ended.
use mathlib.Core.Path.{◌≡◌, refl, sym, ap, ◌∙◌}
use Prim.Native.Nat.{ℕ, ◌+◌, ◌-◌, ◌*◌, ◌/◌, ◌%◌, ◌≤◌, ◌<◌}
use native.Mathlib.Omega.{arith}
use mathlib.Core.List.{List, [], ◌∷◌, ◌++◌, append_assoc, append-nil}
use lib.ListN.{length, take, drop, get_or, length-append, length-drop}
use lib.Seq.{drop-drop, drop_at, take_at, get_or-drop, append_snoc}
use Rattle.bits.specs.Lists.{All}
use Rattle.bits.proofs.Laws.Parts.{part}
use Rattle.put_bytes.specs.HighFirst.{joined}
use Rattle.write_blocks.specs.Run.{Other, field_of, RunAt}

-- the field at byte a, and those behind it
pub record FieldNext {A : Type 0} (t : ℕ) (value : A → List ℕ) (s : List ℕ) (a : ℕ) (xs : List A) (rest : List ℕ) : Type 0 where
  pub one : A
  pub more : List A
  pub is : xs ≡ one ∷ more
  pub size : get_or s (a + 1) 0 * 256 + get_or s (a + 1 + 1) 0 ≡ length (value one)
  pub small : length (value one) < 65536
  pub there : a + 3 + length (value one) ≤ length s
  pub holds : part s (a + 3) (length (value one)) ≡ value one
  pub further : RunAt t value s (a + 3 + length (value one)) more rest

module _ {A : Type 0} {t : ℕ} {value : A → List ℕ} where
  pub field_here_lem : {s : List ℕ} {a : ℕ} {x : A} {xs : List A} {rest : List ℕ} → RunAt t value s a (x ∷ xs) rest → FieldNext t value s a (x ∷ xs) rest
  field_here_lem {s} {a} {x} {xs} {rest} h =
      let n : ℕ = length (value x) in
      let more : List ℕ = joined (field_of t value) xs ++ rest in
      let e : drop a s ≡ field_of t value x ++ more = h.is ∙ append_assoc (field_of t value x) (joined (field_of t value) xs) rest in
      let at : (k : ℕ) → get_or s (a + k) 0 ≡ get_or (field_of t value x ++ more) k 0 = λ k. sym (get_or-drop a s k 0) ∙ ap (λ (ys : List ℕ). get_or ys k 0) e in
      let z : a + 1 + 1 ≡ a + 2 = omega arith in
      let b1 : get_or s (a + 1) 0 ≡ n / 256 = at 1 in
      let b2 : get_or s (a + 1 + 1) 0 ≡ n % 256 = ap (λ (k : ℕ). get_or s k 0) z ∙ at 2 in
      let d : drop (a + 3) s ≡ value x ++ more = sym (drop-drop 3 a s) ∙ ap (drop 3) e in
      let w : a + 3 + n ≤ length s = omega (arith, length-drop a s, ap length e, length-append (field_of t value x) more) in
      record {
        one = x;
        more = xs;
        is = refl;
        size = omega arith;
        small = h.small.0;
        there = w;
        holds = ap (take n) d ∙ take_at (value x) more n refl;
        further = record {
          is = sym (drop-drop n (a + 3) s) ∙ ap (drop n) d ∙ drop_at (value x) more n refl;
          small = h.small.1;
          other = h.other;
        };
      }

  module _ {s : List ℕ} {a : ℕ} {xs : List A} {rest : List ℕ} (h : RunAt t value s a xs rest) where
    pub run_next : a < length s → get_or s a 0 ≡ t → FieldNext t value s a xs rest
    run_next l e = go xs h
      where
        z : a + 0 ≡ a
        z = omega arith

        stop : (rest : List ℕ) → Other t rest → drop a s ≡ rest → ⊥
        stop [] o d = let m : length s - a ≡ 0 = sym (length-drop a s) ∙ ap length d in absurd (omega arith)
        stop (b ∷ bs) o d = o (sym (ap (λ (k : ℕ). get_or s k 0) (sym z) ∙ sym (get_or-drop a s 0 0) ∙ ap (λ (ys : List ℕ). get_or ys 0 0) d) ∙ e)

        go : (xs : List A) → RunAt t value s a xs rest → FieldNext t value s a xs rest
        go [] k = absurd (stop rest k.other k.is)
        go (x ∷ xs) k = field_here_lem k

    run_ends : (a < length s → get_or s a 0 ≡ t → ⊥) → xs ≡ []
    run_ends k = go xs h
      where
        z : a + 0 ≡ a
        z = omega arith

        go : (xs : List A) → RunAt t value s a xs rest → xs ≡ []
        go [] r = refl
        go (x ∷ xs) r = absurd (k (omega (arith, (field_here_lem r).there)) (ap (λ (k : ℕ). get_or s k 0) (sym z) ∙ sym (get_or-drop a s 0 0) ∙ ap (λ (ys : List ℕ). get_or ys 0 0) r.is))

-- ---- a loop over the run of xs: it is at byte p, and W holds of those it has passed

pub record Going {A : Type 0} (t : ℕ) (value : A → List ℕ) (Fits : A → Type 0) (W : List A → Type 0) (s : List ℕ) (p : ℕ) (xs : List A) (rest : List ℕ) : Type 0 where
  pub done : List A
  pub more : List A
  pub is : xs ≡ done ++ more
  pub run : RunAt t value s p more rest
  pub fits : All Fits more
  pub holds : W done

module _ {A : Type 0} {t : ℕ} {value : A → List ℕ} {Fits : A → Type 0} {W : List A → Type 0} {s : List ℕ} {xs : List A} {rest : List ℕ} where
  pub going_first : {a : ℕ} → RunAt t value s a xs rest → All Fits xs → W [] → Going t value Fits W s a xs rest
  going_first h f w = record { done = []; more = xs; is = refl; run = h; fits = f; holds = w }

  module _ {p : ℕ} (g : Going t value Fits W s p xs rest) where
    -- the field at byte p is that of a value that fits
    pub going_fits : (n : FieldNext t value s p g.more rest) → Fits n.one
    going_fits n = (rw n.is at g.fits).0

    pub going_next : {X : List A → Type 0} (n : FieldNext t value s p g.more rest) → X (g.done ++ n.one ∷ []) → Going t value Fits X s (p + 3 + length (value n.one)) xs rest
    going_next n v =
        record {
          done = g.done ++ n.one ∷ [];
          more = n.more;
          is = g.is ∙ ap (λ (ys : List A). g.done ++ ys) n.is ∙ sym (append_snoc g.done n.one n.more);
          run = n.further;
          fits = (rw n.is at g.fits).1;
          holds = v;
        }

    pub going_ends : (p < length s → get_or s p 0 ≡ t → ⊥) → W xs × (drop p s ≡ rest)
    going_ends k =
        let e = run_ends g.run k in
        let z : g.done ≡ xs = sym (append-nil g.done) ∙ ap (λ (ys : List A). g.done ++ ys) (sym e) ∙ sym g.is in
        (rw (← z) g.holds, g.run.is ∙ ap (λ (ys : List A). joined (field_of t value) ys ++ rest) e)
