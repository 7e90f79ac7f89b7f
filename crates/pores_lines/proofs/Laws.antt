-- A line of pores, element by element. What is still to come is either the distances up to where the line stops, or, behind an element
-- of all ones, a distance first. The invariant: the line's distances are those counted and those still to come.
use mathlib.Core.Path.{◌≡◌, refl, sym, ap, ◌∙◌}
use mathlib.Core.Logic.{◌≢◌}
use Prim.Native.Nat.{ℕ, suc, ◌+◌, ◌-◌, ◌*◌, ◌≤◌, ◌<◌}
use native.Mathlib.Omega.{arith}
use mathlib.Core.Bool.{Bool, true, false, not}
use mathlib.Core.Option.{none}
use mathlib.Core.List.{List, [], ◌∷◌}
use lib.ListN.{length, take, drop}
use lib.Dec.{T, leb, ltb, eqb, le→leb}
use mir.Facts.{yes_ltb, no_ltb, yes_eqb, no_eqb, no_leb}
use Rattle.bits.specs.Choice.{pick}
use Rattle.bits.specs.ChoiceLaws.{pick_yes, pick_no, eqb_false}
use Rattle.bits.specs.Bits.{Bits, number_of_bits}
use Rattle.bits.specs.Bytes.{bits_of}
use Rattle.bits.specs.Codec.{Read, got, refused, next, value_of, field_dec, via_dec, only_dec}
use Rattle.bits.specs.Reads.{found, Reads, keeping}
use Rattle.bits.proofs.Laws.Reads.{length_rest, field_got}
use Rattle.outcome.specs.Refusals.{bad_pores}
use Rattle.pores_elements.specs.Before.{marked_dec, until_dec}
use Rattle.pores_elements.specs.Element.{ones, most, stop, element}
use Rattle.pores_elements.proofs.ElementLaws.{distance, distance_bits, stop_zeros, or_first, or_second, or_not}
use Rattle.pores_parts.specs.Lines.{line}
use Rattle.pores.proofs.Laws.Steps.{until_step, distance_step}
use Rattle.pores_lines.specs.Found.{LineStands}

-- ---- what is still to come, at bits s

abbrev pub to_stop : ℕ → Bits → Read Bool (List ℕ)
to_stop e s = until_dec (distance e) (stop e) bad_pores (length s) s

abbrev pub distance_first : ℕ → Bits → Read Bool (List ℕ)
distance_first e s = next ((distance e).dec s) (λ d r. next (to_stop e r) (λ ds q. got (d ∷ ds) q))

-- underway: an element of all ones came last
abbrev pub to_come : (underway : Bool) (e : ℕ) → Bits → Read Bool (List ℕ)
to_come underway e s = pick underway (distance_first e s) (to_stop e s)

-- ---- one element

module _ (e : ℕ) (s : Bits) {x : ℕ} {r : Bits} (f : field_dec bad_pores e s ≡ got x r) where
  first : number_of_bits (take e s) ≡ x
  first = (field_got bad_pores e s f).1

  enough : e ≤ length s
  enough = (field_got bad_pores e s f).0

  -- a zero element
  pub zero_stops : x ≡ 0 → T (stop e s)
  zero_stops z = or_second (ltb (length s) e) _ (yes_eqb (first ∙ z))

  zero_no_distance : x ≡ 0 → (distance e).dec s ≡ refused bad_pores (length s)
  unfolding only_dec
  zero_no_distance z = distance_step e s ∙ rw (f, z)

  -- any other
  module _ (d : x ≢ 0) where
    element_is : (element e).dec s ≡ got x r
    unfolding only_dec
    element_is = rw f (pick_yes (leb 1 x) _ _ (le→leb 1 x (omega arith)))

    goes : T (not (stop e s))
    goes = or_not (ltb (length s) e) _ (no_ltb {a = length s} {b = e} enough) (no_eqb {a = number_of_bits (take e s)} {b = 0} (λ z. d (sym first ∙ z)))

    distance_is : (distance e).dec s ≡ pick (eqb x (ones e)) (next ((distance e).dec r) (λ m q. got (most e + m) q)) (got x r)
    distance_is = distance_step e s ∙ ap (λ (o : Read Bool ℕ). next o (λ y q. pick (eqb y (ones e)) (next ((distance e).dec q) (λ m u. got (most e + m) u)) (got y q))) element_is

-- ---- steps: what is still to come, by the next element

-- k more to the first distance
abbrev pub longer : ℕ → List ℕ → List ℕ
longer k [] = []
longer k (d ∷ ds) = (k + d) ∷ ds

-- the line stops here
pub stops_here : (e : ℕ) (s : Bits) → T (stop e s) → to_stop e s ≡ got [] s
stops_here e s t = until_step (distance e) (stop e) bad_pores (distance_bits e) (stop_zeros e 0) s ∙ pick_yes (stop e s) _ _ t

-- it goes on with a distance
goes_on : (e : ℕ) (s : Bits) → T (not (stop e s)) → to_stop e s ≡ distance_first e s
goes_on e s t = until_step (distance e) (stop e) bad_pores (distance_bits e) (stop_zeros e 0) s ∙ pick_no (stop e s) _ _ t

-- under e bits are left
pub short_stops : (e : ℕ) (s : Bits) → length s < e → T (stop e s)
short_stops e s l = or_first (ltb (length s) e) _ (yes_ltb l)

short_element : (e : ℕ) (s : Bits) → length s < e → (element e).dec s ≡ refused bad_pores (length s)
unfolding only_dec
short_element e s l = ap (λ (o : Read Bool ℕ). next o (λ x r. pick (leb 1 x) (got x r) (refused bad_pores (length s)))) (pick_no (leb e (length s)) _ _ (no_leb l))

-- a distance that is not there is no line
pub short_first : (e : ℕ) (s : Bits) → length s < e → distance_first e s ≡ refused bad_pores (length s)
short_first e s l =
    ap (λ (o : Read Bool ℕ). next o (λ m q. next (to_stop e q) (λ ds u. got (m ∷ ds) u)))
    (distance_step e s ∙ ap (λ (o : Read Bool ℕ). next o (λ y q. pick (eqb y (ones e)) (next ((distance e).dec q) (λ m u. got (most e + m) u)) (got y q))) (short_element e s l))

pub zero_first : (e : ℕ) (s : Bits) {x : ℕ} {r : Bits} → field_dec bad_pores e s ≡ got x r → x ≡ 0 → distance_first e s ≡ refused bad_pores (length s)
zero_first e s f z = ap (λ (o : Read Bool ℕ). next o (λ m q. next (to_stop e q) (λ ds u. got (m ∷ ds) u))) (zero_no_distance e s f z)

module _ (e : ℕ) (s : Bits) {x : ℕ} {r : Bits} (f : field_dec bad_pores e s ≡ got x r) (d : x ≢ 0) where
  -- a distance comes, whether the element before was all ones or not
  pub distance_next : (underway : Bool) → to_come underway e s ≡ distance_first e s
  distance_next true = refl
  distance_next false = goes_on e s (goes e s f d)

  pub ones_first : x ≡ ones e → distance_first e s ≡ keeping (longer (most e)) (distance_first e r)
  ones_first z =
      ap (λ (o : Read Bool ℕ). next o (λ m q. next (to_stop e q) (λ ds u. got (m ∷ ds) u))) (distance_is e s f d ∙ pick_yes (eqb x (ones e)) _ _ (yes_eqb z)) ∙ go ((distance e).dec r)
    where
      rest : (m : ℕ) (o : Read Bool (List ℕ)) → next o (λ ds u. got ((most e + m) ∷ ds) u) ≡ keeping (longer (most e)) (next o (λ ds u. got (m ∷ ds) u))
      rest m (got ds u) = refl
      rest m (refused c l) = refl

      go : (o : Read Bool ℕ)
          → next (next o (λ m q. got (most e + m) q)) (λ m q. next (to_stop e q) (λ ds u. got (m ∷ ds) u))
          ≡ keeping (longer (most e)) (next o (λ m q. next (to_stop e q) (λ ds u. got (m ∷ ds) u)))
      go (got m q) = rest m (to_stop e q)
      go (refused c l) = refl

  pub other_first : x ≢ ones e → distance_first e s ≡ next (to_stop e r) (λ ds u. got (x ∷ ds) u)
  other_first z = ap (λ (o : Read Bool ℕ). next o (λ m q. next (to_stop e q) (λ ds u. got (m ∷ ds) u))) (distance_is e s f d ∙ pick_no (eqb x (ones e)) _ _ (no_eqb z))

-- ---- the same, counted: n are, the others are still to come

abbrev pub counted : ℕ → Read Bool (List ℕ) → Read Bool ℕ
counted n o = keeping (λ ds. n + length ds) o

-- how long a distance is does not change how many there are
counted_longer : (n k : ℕ) (o : Read Bool (List ℕ)) → counted n (keeping (longer k) o) ≡ counted n o
counted_longer n k (got [] r) = refl
counted_longer n k (got (d ∷ ds) r) = refl
counted_longer n k (refused c l) = refl

one_more : (n x : ℕ) (o : Read Bool (List ℕ)) → counted n (next o (λ ds q. got (x ∷ ds) q)) ≡ counted (n + 1) o
one_more n x (got ds q) = let z : n + suc (length ds) ≡ n + 1 + length ds = omega arith in ap (λ (m : ℕ). got m q) z
one_more n x (refused c l) = refl

module _ (e : ℕ) (s : Bits) {x : ℕ} {r : Bits} (f : field_dec bad_pores e s ≡ got x r) (d : x ≢ 0) (n : ℕ) where
  ones_pass : (underway : Bool) → x ≡ ones e → counted n (to_come underway e s) ≡ counted n (to_come true e r)
  ones_pass underway z = ap (counted n) (distance_next e s f d underway ∙ ones_first e s f d z) ∙ counted_longer n (most e) (distance_first e r)

  distance_ends : (underway : Bool) → x ≢ ones e → counted n (to_come underway e s) ≡ counted (n + 1) (to_come false e r)
  distance_ends underway z = ap (counted n) (distance_next e s f d underway ∙ other_first e s f d z) ∙ one_more n x (to_stop e r)

-- ---- the loop: at place p of the payload s, behind the zero element at place `at`

pub record Going (s : List ℕ) (at e p count : ℕ) (underway : Bool) : Type 0 where
  pub is : keeping length ((line e).dec (drop at (bits_of s))) ≡ counted count (to_come underway e (drop p (bits_of s)))
  pub after : at + 2 * (count + 1) ≤ p
  pub within : p ≤ 8 * length s

-- a line that starts with the bits s, of which o is the first element
abbrev behind_mark : ℕ → Bits → Read Bool ℕ → Read Bool (List ℕ)
behind_mark e s o = next (next (next o (λ a r. pick (eqb 0 a) (got a r) (refused bad_pores (length s)))) (λ a r. got (tt {0}) r)) (λ u r. to_stop e r)

mark_zero : (e : ℕ) (s r : Bits) (x : ℕ) → x ≡ 0 → behind_mark e s (got x r) ≡ to_stop e r
mark_zero e s r x z = ap (λ (y : ℕ). behind_mark e s (got y r)) z

mark_other : (e : ℕ) (s r : Bits) (x : ℕ) → x ≢ 0 → value_of (behind_mark e s (got x r)) ≡ none
mark_other e s r x d =
    ap (λ (b : Bool). value_of (next (next (pick b (got x r) (refused bad_pores (length s))) (λ a u. got (tt {0}) u)) (λ u v. to_stop e v))) (eqb_false 0 x (λ z. d (sym z)))

module _ (s : List ℕ) (at e : ℕ) where
  -- the first element is there and zero
  pub going_first : {x q : ℕ} → Reads (field_dec bad_pores e) s at (found x q) → x ≡ 0 → q ≡ at + e → 2 ≤ e → Going s at e q 0 false
  unfolding marked_dec via_dec only_dec
  going_first {x} {q} f z n l =
      record {
        is = ap (λ (o : Read Bool ℕ). keeping length (behind_mark e (drop at (bits_of s)) o)) f.is
            ∙ ap (λ (o : Read Bool (List ℕ)). keeping length o) (mark_zero e (drop at (bits_of s)) (drop q (bits_of s)) x z) ∙ same_length (to_stop e (drop q (bits_of s)));
        after = omega (arith, n);
        within = f.within;
      }
    where
      same_length : (o : Read Bool (List ℕ)) → keeping length o ≡ counted 0 o
      same_length (got ds r) = let y : length ds ≡ 0 + length ds = omega arith in ap (λ (m : ℕ). got m r) y
      same_length (refused c l) = refl

  -- it is not there, or another
  pub no_mark : 8 * length s - at < e → value_of ((line e).dec (drop at (bits_of s))) ≡ none
  unfolding marked_dec via_dec only_dec
  no_mark l =
      ap (λ (o : Read Bool ℕ). value_of (behind_mark e (drop at (bits_of s)) o))
      (pick_no (leb e (length (drop at (bits_of s)))) _ _ (no_leb {a = e} {b = length (drop at (bits_of s))} (omega (arith, length_rest s at))))

  pub other_mark : {x q : ℕ} → Reads (field_dec bad_pores e) s at (found x q) → x ≢ 0 → value_of ((line e).dec (drop at (bits_of s))) ≡ none
  unfolding marked_dec via_dec only_dec
  other_mark {x} {q} f d =
      ap (λ (o : Read Bool ℕ). value_of (behind_mark e (drop at (bits_of s)) o)) f.is ∙ mark_other e (drop at (bits_of s)) (drop q (bits_of s)) x d

  module _ {p count : ℕ} {underway : Bool} (G : Going s at e p count underway) where
    -- nothing of what is still to come is a value
    broken : value_of (counted count (to_come underway e (drop p (bits_of s)))) ≡ none → value_of ((line e).dec (drop at (bits_of s))) ≡ none
    broken h = kept_none ((line e).dec (drop at (bits_of s))) (ap (λ (o : Read Bool ℕ). value_of o) G.is ∙ h)
      where
        kept_none : (o : Read Bool (List ℕ)) → value_of (keeping length o) ≡ none → value_of o ≡ none
        kept_none (got ds r) z = let y : ◌≡◌ {A = ℕ} 0 1 = cc in absurd (omega arith)
        kept_none (refused c l) z = refl

    -- the line ends here
    ends : to_come underway e (drop p (bits_of s)) ≡ got [] (drop p (bits_of s)) → LineStands s at e count p
    ends h = counted_got ((line e).dec (drop at (bits_of s))) refl (G.is ∙ ap (counted count) h)
      where
        counted_got : (o : Read Bool (List ℕ)) → (line e).dec (drop at (bits_of s)) ≡ o → keeping length o ≡ got (count + 0) (drop p (bits_of s)) → LineStands s at e count p
        counted_got (got ds r) y z =
            let a : length ds ≡ count + 0 = cc in
            let b : r ≡ drop p (bits_of s) = cc in
            record { distances = ds; reads = y ∙ ap (got ds) b; counts = omega arith; after = G.after; within = G.within }
        counted_got (refused c l) y z = let x : ◌≡◌ {A = ℕ} 0 1 = cc in absurd (omega arith)

    module _ {x q : ℕ} (f : Reads (field_dec bad_pores e) s p (found x q)) where
      pub zero_breaks : x ≡ 0 → underway ≡ true → value_of ((line e).dec (drop at (bits_of s))) ≡ none
      zero_breaks z u =
          broken (ap (λ (b : Bool). value_of (counted count (to_come b e (drop p (bits_of s))))) u
          ∙ ap (λ (o : Read Bool (List ℕ)). value_of (counted count o)) (zero_first e (drop p (bits_of s)) f.is z))

      pub zero_ends : x ≡ 0 → underway ≡ false → LineStands s at e count p
      zero_ends z u = ends (ap (λ (b : Bool). to_come b e (drop p (bits_of s))) u ∙ stops_here e (drop p (bits_of s)) (zero_stops e (drop p (bits_of s)) f.is z))

      module _ (d : x ≢ 0) (n : q ≡ p + e) (low : 2 ≤ e) where
        pub going_ones : x ≡ ones e → Going s at e q count true
        going_ones z = record { is = G.is ∙ ones_pass e (drop p (bits_of s)) f.is d count underway z; after = omega (arith, G.after); within = f.within }

        pub going_distance : x ≢ ones e → Going s at e q (count + 1) false
        going_distance z = record { is = G.is ∙ distance_ends e (drop p (bits_of s)) f.is d count underway z; after = omega (arith, G.after); within = f.within }

    module _ (l : 8 * length s - p < e) where
      less : length (drop p (bits_of s)) < e
      less = omega (arith, length_rest s p)

      pub end_breaks : underway ≡ true → value_of ((line e).dec (drop at (bits_of s))) ≡ none
      end_breaks u =
          broken (ap (λ (b : Bool). value_of (counted count (to_come b e (drop p (bits_of s))))) u
          ∙ ap (λ (o : Read Bool (List ℕ)). value_of (counted count o)) (short_first e (drop p (bits_of s)) less))

      pub end_ends : underway ≡ false → LineStands s at e count p
      end_ends u = ends (ap (λ (b : Bool). to_come b e (drop p (bits_of s))) u ∙ stops_here e (drop p (bits_of s)) (short_stops e (drop p (bits_of s)) less))
