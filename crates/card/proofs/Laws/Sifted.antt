-- Behind a right shape only the blocks refuse: an object that has one is read by its skeleton and its index, and 27 is given no more. The
-- laws are about bits: what each part of the object reads, where what stands before it is known.
use mathlib.Core.Path.{◌≡◌, refl, sym, ap, ◌∙◌, subst}
use Prim.Native.Nat.{ℕ, ◌*◌, ◌/◌, ◌%◌, ◌^◌, ◌<◌}
use native.Mathlib.Omega.{arith}
use mathlib.Core.Bool.{Bool}
use mathlib.Core.List.{List, [], ◌++◌, append_assoc, append-nil}
use lib.ListN.{length, length-append}
use lib.Seq.{take_at, drop_at}
use lib.Dec.{leb, le→leb}
use Rattle.bits.specs.ChoiceLaws.{pick_yes}
use Rattle.bits.specs.Lists.{All}
use Rattle.bits.specs.Bits.{Bits, bits_of_number}
use Rattle.bits.specs.Codec.{Read, got, refused, next, Codec, then_dec, via_dec}
use Rattle.bits.specs.CodecLaws.{enc_all, field, fixed}
use Rattle.bits.specs.Block.{Block, inside, sized_dec, ahead_dec, used_up, exact_dec, recast_dec}
use Rattle.bits.specs.SizedLaws.{headed, prefixed}
use Rattle.bits.specs.Reads.{keeping}
use Rattle.outcome.specs.Refusals.{bad_object}
use Rattle.card.specs.Length.{object_length}
use Rattle.card.specs.Object.{any_bytes, Other, object_head, data_object, image_size, value_parts, value_whole, value_block, other, others, template, whole_object, Card, make_card, card_block}
use Rattle.card.specs.ShapeLaws.{value_bits, template_bits, object_bits}

-- a block of n bytes, with r behind it
sized_bits : {A : Type 0} (w : Block A) (e n : ℕ) (t r : Bits) → length t ≡ 8 * n → sized_dec w e n (t ++ r) ≡ inside r (w.dec t)
unfolding sized_dec
sized_bits w e n t r l =
    pick_yes (leb (8 * n) (length (t ++ r))) _ _ (le→leb (8 * n) (length (t ++ r)) (simp length-append (omega arith)))
    ∙ rw (take_at t r (8 * n) l, drop_at t r (8 * n) l)

headed_bits : {H A : Type 0} (c : Codec Bool (H × ℕ)) (w : Block A) (e : ℕ) (h : H) (n : ℕ) (t r : Bits) → c.Fits (h, n) → length t ≡ 8 * n
    → (headed c w e).dec ((c.enc (h, n) ++ t) ++ r) ≡ keeping (λ a. (h, a)) (inside r (w.dec t))
unfolding via_dec then_dec
headed_bits {H} {A} c w e h n t r f l =
    ap (headed c w e).dec (append_assoc (c.enc (h, n)) t r)
    ∙ rw (c.there (h, n) (t ++ r) f, sized_bits w e n t r l) (go (inside r (w.dec t)))
  where
    go : (o : Read Bool A) → next {A = (H × ℕ) × A} {B = H × A} (next o (λ b q. got ((h, n), b) q)) (λ x q. got (x.0.0, x.1) q) ≡ keeping (λ a. (h, a)) o
    go (got a q) = refl
    go (refused x q) = refl

prefixed_bits : {A : Type 0} (w : Block A) (e n : ℕ) (t r : Bits) → n < 2 ^ 16 → length t ≡ 8 * n → (prefixed w e).dec ((bits_of_number 16 n ++ t) ++ r) ≡ inside r (w.dec t)
unfolding via_dec then_dec
prefixed_bits {A} w e n t r f l =
    ap (prefixed w e).dec (append_assoc (bits_of_number 16 n) t r)
    ∙ rw ((field e 16).there n (t ++ r) f, sized_bits w e n t r l) (go (inside r (w.dec t)))
  where
    go : (o : Read Bool A) → next {A = ℕ × A} (next o (λ b q. got (n, b) q)) (λ x q. got x.1 q) ≡ o
    go (got a q) = refl
    go (refused x q) = refl

-- ---- read to the end, or refused with a number of Q

pub data Settled {A : Type 0} (Q : ℕ → Type 0) : Read Bool A → Type 0 where
  right : {a : A} → Settled Q (got a [])
  wrong : {e l : ℕ} → Q e → Settled Q (refused e l)

module _ (Q : ℕ → Type 0) where
  -- the value, by the bits x and y of its blocks
  module _ {A B : Type 0} (s : Block A) (i : A → Block B) (width height : ℕ) (x y : Bits) (a : width < 2 ^ 16) (b : height < 2 ^ 16)
      (c : length x / 8 < 2 ^ 16) (d : length y / 8 < 2 ^ 16) (m : length x % 8 ≡ 0) (n : length y % 8 ≡ 0) where
    abbrev Value : Type 0
    Value = (ℕ × ℕ) × (A × B)

    abbrev rest : Bits
    rest = bits_of_number 16 (length y / 8) ++ y

    abbrev with_lines : A → Bits → Read Bool (A × B)
    with_lines p q = next ((prefixed (i p) bad_object).dec q) (λ z r. got (p, z) r)

    abbrev with_image : A × B → Bits → Read Bool Value
    with_image t r = got ((width, height), t) r

    abbrev ended : Value → Bits → Read Bool Value
    ended v r = used_up bad_object v r

    index_part_lem : (p : A) → (prefixed (i p) bad_object).dec rest ≡ inside [] ((i p).dec y)
    index_part_lem p = ap (prefixed (i p) bad_object).dec (sym (append-nil rest)) ∙ prefixed_bits (i p) bad_object (length y / 8) y [] d (omega arith)

    index_ends : (p : A) (o : Read Bool B) → Settled Q o → Settled Q (next (next (next (inside [] o) (λ z r. got (p, z) r)) with_image) ended)
    index_ends p (got z (mathlib.Core.List.◌∷◌ _ _)) x6 = elim x6 [ ]
    index_ends p (got z []) right = right
    index_ends p (refused e l) (wrong q) = wrong q

    lines_end : (o : Read Bool A) → Settled Q o → ((p : A) → Settled Q ((i p).dec y)) → Settled Q (next (next (next (inside rest o) with_lines) with_image) ended)
    lines_end (got p (mathlib.Core.List.◌∷◌ _ _)) x8 k = elim x8 [ ]
    lines_end (got p []) right k =
        subst (λ (o : Read Bool B). Settled Q (next (next (next o (λ z r. got (p, z) r)) with_image) ended)) (sym (index_part_lem p)) (index_ends p ((i p).dec y) (k p))
    lines_end (refused e l) (wrong q) k = wrong q

    value_opened : (value_parts s i).dec (value_bits width height x y) ≡ next (next (inside rest (s.dec x)) with_lines) with_image
    unfolding then_dec
    value_opened =
        rw (image_size.there (width, height) ((bits_of_number 16 (length x / 8) ++ x) ++ rest) (a, b), prefixed_bits s bad_object (length x / 8) x rest c (omega arith)) refl

    pub value_settled : Settled Q (s.dec x) → ((p : A) → Settled Q ((i p).dec y)) → Settled Q ((value_block s i).dec (value_bits width height x y))
    unfolding exact_dec
    value_settled h k = subst (λ (o : Read Bool Value). Settled Q (next o ended)) (sym value_opened) (lines_end (s.dec x) h k)

  -- the template, and the object
  module _ {A : Type 0} (value : Block A) (x : Bits) (xs : List Other) (whole : length x % 8 ≡ 0) (f : All other.Fits xs) where
    abbrev inner : Bits
    inner = enc_all other xs

    abbrev Held : Type 0
    Held = Unit {0} × A

    abbrev as90 : A → Held
    as90 v = (tt, v)

    abbrev with_others : Held → Bits → Read Bool (Held × List Other)
    with_others v r = next (others.dec r) (λ ys q. got (v, ys) q)

    behind_90 : (o : Read Bool A) → Settled Q o → Settled Q (next (keeping as90 (inside inner o)) with_others)
    behind_90 (got v (mathlib.Core.List.◌∷◌ _ _)) x6 = elim x6 [ ]
    behind_90 (got v []) right = rw (others.there xs f) right
    behind_90 (refused e l) (wrong q) = wrong q

    pub template_settled : length x / 8 < 2 ^ 16 → Settled Q (value.dec x) → Settled Q ((template value).dec (template_bits x xs))
    unfolding ahead_dec object_length
    template_settled l h =
        rw (headed_bits (object_head (fixed bad_object 8 0x90)) value bad_object tt (length x / 8) x inner (omega arith, l) (omega arith)) (behind_90 (value.dec x) h)

    abbrev as_template : Held × List Other → Unit {0} × (Held × List Other)
    as_template v = (tt, v)

    object_ends : (o : Read Bool (Held × List Other)) → Settled Q o → Settled Q (next (keeping as_template (inside [] o)) (used_up bad_object))
    object_ends (got v (mathlib.Core.List.◌∷◌ _ _)) x6 = elim x6 [ ]
    object_ends (got v []) right = right
    object_ends (refused e l) (wrong q) = wrong q

    pub object_settled : length (template_bits x xs) / 8 < 2 ^ 16 → length (template_bits x xs) % 8 ≡ 0 → Settled Q ((template value).dec (template_bits x xs)) → Settled Q ((whole_object value).dec (object_bits x xs))
    unfolding exact_dec object_length
    object_settled l m h =
        let t : Bits = template_bits x xs in
        let e : object_bits x xs ≡ object_bits x xs ++ [] = sym (append-nil (object_bits x xs)) in
        subst (λ (z : Bits). Settled Q (next ((data_object (fixed bad_object 16 0x7F2E) (template value)).dec z) (used_up bad_object))) (sym e)
        (rw (headed_bits (object_head (fixed bad_object 16 0x7F2E)) (template value) bad_object tt (length t / 8) t [] (omega arith, l) (omega arith)) (object_ends ((template value).dec t) h))

-- ---- behind a right shape only the blocks refuse

module _ (Q : ℕ → Type 0) {A B : Type 0} (s : Block A) (i : A → Block B) (lines : (x : Bits) → length x % 8 ≡ 0 → Settled Q (s.dec x)) (index : (a : A) (y : Bits) → length y % 8 ≡ 0 → Settled Q ((i a).dec y)) where
  recast_settled : {C D : Type 0} (w : Block C) (f : C → D) {z : Bits} (o : Read Bool C) → w.dec z ≡ o → Settled Q o → Settled Q (recast_dec w f z)
  unfolding recast_dec
  recast_settled {C = C} {D = D} w f {z = z} (got c (mathlib.Core.List.◌∷◌ _ _)) e x7 = elim x7 [ ]
  recast_settled w f (got c []) e right = rw e right
  recast_settled w f (refused n l) e (wrong q) = rw e (wrong q)

  pub card_settled : (z : Bits) (c : Card (List ℕ) (List ℕ)) → length z % 8 ≡ 0 → (card_block any_bytes (λ _. any_bytes)).dec z ≡ got c [] → Settled Q ((card_block s i).dec z)
  unfolding object_length
  card_settled z c l d =
      let (f, e) = (card_block any_bytes (λ _. any_bytes)).back z c l d in
      let x : Bits = any_bytes.enc c.skeleton in
      let y : Bits = any_bytes.enc c.index in
      let v : Bits = value_bits c.width c.height x y in
      let m : length x % 8 ≡ 0 = any_bytes.bytes c.skeleton in
      let n : length y % 8 ≡ 0 = any_bytes.bytes c.index in
      let h = value_settled Q s i c.width c.height x y f.1.0.1.0.0 f.1.0.1.0.1 f.1.0.1.1.0.0 f.1.0.1.1.1.0 m n (lines x m) (λ a. index a y n) in
      let w : length v % 8 ≡ 0 = value_whole any_bytes (λ _. any_bytes) ((c.width, c.height), (c.skeleton, c.index)) in
      let t = template_settled Q (value_block s i) v c.behind w f.1.1 f.1.0.0.1 h in
      let u : length (template_bits v c.behind) % 8 ≡ 0 = (template (value_block any_bytes (λ _. any_bytes))).bytes ((tt, ((c.width, c.height), (c.skeleton, c.index))), c.behind) in
      subst (λ (b : Bits). Settled Q ((card_block s i).dec b)) (sym e)
      (recast_settled (whole_object (value_block s i)) make_card _ refl (object_settled Q (value_block s i) v c.behind w f.1.1 f.0.1 u t))
