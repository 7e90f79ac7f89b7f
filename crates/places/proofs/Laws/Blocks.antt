-- What a refusal goes by, for each kind of block; as in Settles. The leftover bits of an index block are refused at the first that is
-- 1, or else at the eighth; so a list that agrees only up to there may be refused at a later place.
use mathlib.Core.Path.{◌≡◌, refl, sym, ap, ◌∙◌}
use Prim.Native.Nat.{ℕ, zero, suc, ◌+◌, ◌-◌, ◌*◌, ◌≤◌, ◌<◌}
use native.Mathlib.Omega.{arith}
use native.Mathlib.Nat.{le_refl}
use mathlib.Core.Bool.{Bool, true, false}
use mathlib.Core.Option.{some}
use mathlib.Core.List.{[], ◌∷◌}
use lib.ListN.{length, take, drop, length-append, take-append-drop}
use lib.Dec.{leb, leb→le, lit≤}
use lib.Seq.{length-take-le, take-take}
use Rattle.bits.specs.Choice.{pick}
use Rattle.bits.specs.ChoiceLaws.{pick_no, T_true, T_false, split}
use Rattle.bits.specs.Bits.{Bits}
use Rattle.bits.specs.Codec.{Read, got, refused, next, Codec}
use Rattle.bits.specs.CodecLaws.{not_got}
use Rattle.bits.specs.Block.{Block, few, zeros_dec, many_dec, end_dec, ended_dec, maybe_dec, fill_dec, inside, sized_dec}
use Rattle.bits.proofs.BlockLaws.{few_yes, few_no, fill_more}
use Rattle.bits.proofs.Laws.Refuses.{Refusal, accepted, by, refusal_map}
use Rattle.outcome.specs.Refusals.{bad_index}
use Rattle.places.specs.Reach.{reach, RefusedAlike}
use Rattle.places.proofs.Laws.Agree.{shares, take_both}
use Rattle.places.proofs.Laws.Settles.{Settled, Settles, same_alike, path_alike, settled_as}
use Rattle.places.proofs.Laws.Settles.{next_at, next_settles, map_settles, fork_at, fork_settles, short_settles}
use Rattle.places.proofs.Laws.Settles.{field_settles, then_settles, times_settles, along_settles, via_settles, room_settles, number_settles}

-- ---- zero bits up to the end

module _ (e : ℕ) (near : 1 ≤ reach e) where
  pub zeros_settles : Settles (zeros_dec e)
  zeros_settles = record { at = go }
    where
      go : (s : Bits) → Refusal (Settled (zeros_dec e) s) (zeros_dec e s)
      go [] = accepted
      go (false ∷ s) =
          refusal_map (λ f l q. record {
            inside = omega (arith, q.inside);
            alike = λ t n k same z.
                let x = shares (false ∷ []) s t n (omega (arith, q.inside)) k same in
                path_alike (ap (zeros_dec e) x.is) (q.alike x.rest (n - 1) x.long x.same (omega (arith, q.inside)));
          }) (go s)
      go (true ∷ s) =
          by {e = e} {l = suc (length s)} (record {
            inside = le_refl (suc (length s));
            alike = λ t n k same z.
                let x = shares (true ∷ []) s t n (omega arith) k same in
                same_alike (ap (zeros_dec e) x.is ∙ ap (λ (m : ℕ). refused e (suc m)) (sym x.long));
          })

-- ---- many

module _ {A : Type 0} (c : Codec Bool A) (bad over : ℕ) where
  pub many_settles : (n : ℕ) → 1 ≤ reach bad → Settles c.dec → Settles (many_dec c bad over n)
  many_settles zero near h = fork_settles few (map_settles _ (zeros_settles bad near)) (short_settles over)
  many_settles (suc n) near h = fork_settles few (map_settles _ (zeros_settles bad near)) (next_settles c h λ x _. map_settles _ (many_settles n near h))

-- ---- ended

-- a list that begins as a list of zeros does, with m of them, is refused behind these
zeros_late : (e m : ℕ) (s t : Bits) {f l : ℕ} {u : Unit {0}} {r : Bits} → zeros_dec e s ≡ got u r → length s ≡ length t → take m s ≡ take m t
    → m ≤ length s → zeros_dec e t ≡ refused f l → (e ≡ f) × (l + m ≤ length t)
zeros_late e zero s [] p k same h q = absurd (not_got (sym q))
zeros_late e zero [] (false ∷ t) p k same h q = absurd (omega arith)
zeros_late e zero (false ∷ s) (false ∷ t) p k same h q =
    let (a, b) = zeros_late e zero s t p (omega arith) refl (omega arith) q in (a, omega arith)
zeros_late e zero (true ∷ s) (false ∷ t) p k same h q = not_got p
zeros_late e zero s (true ∷ t) {l = l} p k same h q = let y : suc (length t) ≡ l = cc in (cc, omega arith)
zeros_late e (suc m) [] t p k same h q = absurd (omega arith)
zeros_late e (suc m) (true ∷ s) t p k same h q = not_got p
zeros_late e (suc m) (false ∷ s) [] p k same h q = absurd (omega arith)
zeros_late e (suc m) (false ∷ s) (false ∷ t) p k same h q =
    let (a, b) = zeros_late e m s t p (omega arith) (cc) (omega arith) q in (a, omega arith)
zeros_late e (suc m) (false ∷ s) (true ∷ t) p k same h q = let z : ◌≡◌ {A = ℕ} 0 1 = cc in absurd (omega arith)

module _ {A : Type 0} (c : Codec Bool A) (a : A) where
  abbrev over : Bits → Unit {0} → Bits → Read Bool A
  over s _ _ = pick (few (length s)) (got a []) (refused bad_index (length s - 7))

  -- s is zeros, eight or more; t begins as s does, up to its eighth bit
  over_alike : (s t : Bits) {u : Unit {0}} {r : Bits} → zeros_dec bad_index s ≡ got u r → 8 ≤ length s → length s ≡ length t → take 7 s ≡ take 7 t
      → (o : Read Bool (Unit {0})) → zeros_dec bad_index t ≡ o → RefusedAlike bad_index (length s - 7) (end_dec c bad_index a t)
  over_alike s t p long k same (got v q) y =
      same_alike (rw y (pick_no (few (length t)) _ _ (few_no (length t) (omega arith))) ∙ ap (λ (m : ℕ). refused bad_index (m - 7)) (sym k))
  over_alike s t p long k same (refused f l) y =
      let (g, m) = zeros_late bad_index 7 s t p k same (omega arith) y in
      record { rest = l; is = rw (y, ← g); later = omega arith; same = λ no. absurd (no refl) }

  over_at : (s : Bits) (u : Unit {0}) (r : Bits) → zeros_dec bad_index s ≡ got u r → Refusal (Settled (end_dec c bad_index a) s) (over s u r)
  over_at s u r p =
      split 8 (length s)
      (λ long. rw (T_false (few (length s)) (few_no (length s) long)) (by {e = bad_index} {l = length s - 7} (record {
        inside = omega arith;
        alike = λ t n k same far.
            let seven : take 7 s ≡ take 7 t = sym (take-take 7 n s (omega arith)) ∙ ap (take 7) same ∙ take-take 7 n t (omega arith) in
            over_alike s t p long k seven (zeros_dec bad_index t) refl;
      })))
      (λ little. rw (T_true (few (length s)) (few_yes (length s) little)) accepted)

pub ended_settles : {A : Type 0} (c : Codec Bool A) → 1 ≤ reach bad_index → Settles c.dec → Settles (ended_dec c bad_index)
unfolding ended_dec
ended_settles c near h =
    next_settles c h λ a _. record { at = λ s. next_at (over c a) s ((zeros_settles bad_index near).at s) (over_at c a s) }

-- ---- maybe and fill

pub maybe_settles : {A : Type 0} (w : Block A) → Settles w.dec → Settles (maybe_dec w)
maybe_settles {A} w h = record { at = go }
  where
    some_bits : (t : Bits) → 0 < length t → maybe_dec w t ≡ next (w.dec t) (λ a r. got (some a) r)
    some_bits [] l = absurd (omega arith)
    some_bits (b ∷ t) l = refl

    go : (s : Bits) → Refusal (Settled (maybe_dec w) s) (maybe_dec w s)
    go [] = accepted
    go (b ∷ s) = refusal_map (λ e l q. settled_as (λ t k. some_bits t (omega arith)) q) ((map_settles some h).at (b ∷ s))

module _ {A : Type 0} (c : Codec Bool A) (e : ℕ) (h : Settles c.dec) where
  fill_at : (n : ℕ) (s : Bits) → Refusal (Settled (fill_dec c e n) s) (fill_dec c e n s)
  fill_at zero [] = accepted
  fill_at zero (b ∷ s) =
      by {l = suc (length s)} (record { inside = le_refl (suc (length s)); alike = λ t n k same z. same_alike (over t k) })
    where
      over : (t : Bits) → suc (length s) ≡ length t → fill_dec c e zero t ≡ refused e (suc (length s))
      over [] k = absurd (omega arith)
      over (b ∷ t) k = ap (refused e) (sym k)
  fill_at (suc n) [] = accepted
  fill_at (suc n) (b ∷ s) =
      refusal_map (λ f l q. settled_as (λ t k. fill_more c e n t (omega arith)) q)
      ((next_settles c h (λ x _. map_settles _ (record { at = fill_at n }))).at (b ∷ s))

pub fill_settles : {A : Type 0} (c : Codec Bool A) (e : ℕ) → Settles c.dec → Settles (λ s. fill_dec c e (length s) s)
fill_settles c e h =
    record { at = λ s. refusal_map (λ f l q. settled_as (λ t k. ap (λ (n : ℕ). fill_dec c e n t) (sym k)) q) (fill_at c e h (length s) s) }

-- ---- sized

inside_at : {A : Type 0} {P Q : ℕ → ℕ → Type 0} {o : Read Bool A} (q : Bits) → ((e l : ℕ) → P e l → Q e (l + length q)) → Refusal P o
    → Refusal Q (inside q o)
inside_at q f accepted = accepted
inside_at q f (by {e = e} {l = l} h) = by {l = l + length q} (f e l h)

inside_alike : {A : Type 0} {o : Read Bool A} {e l : ℕ} (q : Bits) → RefusedAlike e l o → RefusedAlike e (l + length q) (inside q o)
inside_alike q h =
    record { rest = h.rest + length q; is = rw h.is; later = omega (arith, h.later); same = λ n. ap (λ (m : ℕ). m + length q) (h.same n) }

-- m bits, and what is behind them
cut : (m : ℕ) (s : Bits) → m ≤ length s → (length (take m s) ≡ m) × (m + length (drop m s) ≡ length s)
cut m s y =
    let l : length (take m s) ≡ m = length-take-le m s y in
    let z : length (take m s) + length (drop m s) ≡ length s = sym (length-append (take m s) (drop m s)) ∙ ap length (take-append-drop m s) in
    (l, omega arith)

cut_at : {A : Type 0} (d : Bits → Read Bool A) (m : ℕ) → Settles d → (s : Bits) → m ≤ length s
    → Refusal (Settled (λ t. inside (drop m t) (d (take m t))) s) (inside (drop m s) (d (take m s)))
cut_at d m h s y =
    let (u, v) = cut m s y in
    inside_at {P = Settled d (take m s)} (drop m s) (λ f l q. record {
      inside = omega (arith, q.inside);
      alike = λ t k len same far.
          let (x, z) = cut m t (omega arith) in
          let b : length (drop m s) ≡ length (drop m t) = omega arith in
          let a : take k (take m s) ≡ take k (take m t) = take_both k m s ∙ ap (take m) same ∙ take_both m k t in
          rw b (inside_alike (drop m t) (q.alike (take m t) k (u ∙ sym x) a (omega arith)));
    }) (h.at (take m s))

pub sized_settles : {A : Type 0} (w : Block A) (e n : ℕ) → Settles w.dec → Settles (sized_dec w e n)
unfolding sized_dec
sized_settles w e n h =
    record { at = λ s. fork_at (leb (8 * n)) s (λ y. cut_at w.dec (8 * n) h s (leb→le (8 * n) (length s) y)) (λ _. (short_settles e).at s) }

-- ---- all of them

-- lit≤ and tt prove that a number is within reach, where that computes
pub ruleset settling = (
  field_settles,
  then_settles,
  times_settles,
  along_settles,
  via_settles,
  room_settles,
  number_settles,
  many_settles,
  ended_settles,
  maybe_settles,
  fill_settles,
  sized_settles,
  lit≤,
  tt,
)
