-- Fields of one tag, one behind the other: how far a loop over them has come, and what is read of all of them. What the values so far
-- are is joined to what reading the rest gives, so that a wrong value is the answer of them all.
use mathlib.Core.Path.{◌≡◌, refl, sym, ap, ◌∙◌, subst}
use Prim.Native.Nat.{ℕ, ◌+◌, ◌<◌}
use native.Mathlib.Omega.{arith}
use mathlib.Core.Bool.{Bool, not}
use mathlib.Core.List.{List, [], ◌∷◌, ◌++◌, append-nil}
use lib.ListN.{length}
use lib.Seq.{append_snoc}
use lib.Dec.{T, eqb}
use mir.Facts.{and_yes, yes_eqb}
use Rattle.bits.specs.ChoiceLaws.{pick_yes, pick_no}
use Rattle.bits.specs.Lists.{every, total}
use Rattle.bits.specs.ListsLaws.{total_append}
use Rattle.bits.specs.Bytes.{bits_of}
use Rattle.bits.specs.Codec.{got, refused}
use Rattle.bits.specs.Block.{Block}
use Rattle.bits.specs.Reads.{keeping}
use Rattle.bits.proofs.Laws.Loops.{keeping_same, keeping_none, keeping_cons}
use Rattle.outcome.specs.Refusals.{bad_value}
use Rattle.sheet.specs.Fields.{Field}
use Rattle.sheet.specs.Grammar.{front, rest}
use Rattle.sheet.specs.Sheet.{each_dec}
use Rattle.check_fields.specs.Fields.{FieldsAt}
use Rattle.check_shape.specs.Shape.{starts}
use Rattle.check_blocks.specs.Run.{Run, RunRight, RunWrong}
use Rattle.check_blocks.proofs.Laws.Stand.{Next}

-- of the fields with tag t that fs starts with, n are passed, and what these take is z; the next one starts at byte p, and j is what
-- the values so far say
pub record Going {A I : Type 0} (t : ℕ) (test : List ℕ → Bool) (b : I → Block A) (m : I → A → I) (takes : A → ℕ) (s : List ℕ) (fs : List Field) (i : I) (p : ℕ) (j : I) (n z : ℕ)
    : Type 0 where
  pub left : List Field
  pub stand : FieldsAt s p left
  pub others : rest t left ≡ rest t fs
  pub right : T (every test (front t left))
  pub count : n + length (front t left) ≡ length (front t fs)
  pub done : List A
  pub reads : each_dec b m i (front t fs) ≡ keeping (λ xs. done ++ xs) (each_dec b m j (front t left))
  pub all : z ≡ total takes done

module _ {A I : Type 0} {t : ℕ} {test : List ℕ → Bool} {b : I → Block A} {m : I → A → I} {takes : A → ℕ} {s : List ℕ} {fs : List Field} {i : I} where
  pub going_first : {p : ℕ} → Run t test s p fs → Going t test b m takes s fs i p i 0 0
  going_first h =
      record {
        left = fs;
        stand = h.stand;
        others = refl;
        right = h.right;
        count = omega arith;
        done = [];
        reads = sym (keeping_none (each_dec b m i (front t fs)));
        all = refl;
      }

  module _ {p : ℕ} {j : I} {n z : ℕ} (g : Going t test b m takes s fs i p j n z) where
    -- the next field has another tag, or there is none
    pub going_all : T (not (starts t g.left)) → RunRight t b m i fs takes s p z
    going_all h =
        let (a, d) = none g.left h in
        record {
          behind = subst (λ (x : List Field). FieldsAt s p x) (sym d ∙ g.others) g.stand;
          value = g.done;
          reads = g.reads ∙ ap (λ (vs : List (List ℕ)). keeping (λ xs. g.done ++ xs) (each_dec b m j vs)) a ∙ ap (λ (xs : List A). got xs []) (append-nil g.done);
          all = g.all;
        }
      where
        none : (gs : List Field) → T (not (starts t gs)) → (front t gs ≡ []) × (rest t gs ≡ gs)
        none [] u = (refl, refl)
        none (f ∷ gs) u = (pick_no (eqb f.tag t) _ _ u, pick_no (eqb f.tag t) _ _ u)

    module _ {k : ℕ} (N : Next t s p k g.left) where
      abbrev v : List ℕ
      v = N.field.value

      front_is : front t g.left ≡ v ∷ front t N.others
      front_is = ap (front t) N.is ∙ pick_yes (eqb N.field.tag t) _ _ (yes_eqb N.tag)

      rest_is : rest t g.left ≡ rest t N.others
      rest_is = ap (rest t) N.is ∙ pick_yes (eqb N.field.tag t) _ _ (yes_eqb N.tag)

      rights : T (test v) × T (every test (front t N.others))
      rights = and_yes (test v) (every test (front t N.others)) (subst (λ (vs : List (List ℕ)). T (every test vs)) front_is g.right)

      -- its length is one that the test allows, and it is one of those
      pub its_right : T (test v)
      its_right = rights.0

      pub one_more : n < length (front t fs)
      one_more = omega (arith, g.count, ap length front_is)

      reads_next : each_dec b m i (front t fs) ≡ keeping (λ xs. g.done ++ xs) (each_dec b m j (v ∷ front t N.others))
      reads_next = g.reads ∙ ap (λ (vs : List (List ℕ)). keeping (λ xs. g.done ++ xs) (each_dec b m j vs)) front_is

      pub going_wrong : {l : ℕ} → (b j).dec (bits_of v) ≡ refused bad_value l → RunWrong t b m i fs
      going_wrong {l} e = record { left = l; refuses = reads_next ∙ rw e }

      pub going_on : {x : A} {y : ℕ} → (b j).dec (bits_of v) ≡ got x [] → y ≡ takes x → Going t test b m takes s fs i (p + 3 + k) (m j x) (n + 1) (z + y)
      going_on {x} {y} e c =
          record {
            left = N.others;
            stand = N.behind;
            others = sym rest_is ∙ g.others;
            right = rights.1;
            count = omega (arith, g.count, ap length front_is);
            done = g.done ++ x ∷ [];
            reads =
                reads_next ∙ rw e (keeping_cons (λ xs. g.done ++ xs) x (each_dec b m (m j x) (front t N.others)))
                ∙ keeping_same _ _ (each_dec b m (m j x) (front t N.others)) (λ xs. sym (append_snoc g.done x xs));
            all = omega (arith, g.all, c, total_append takes g.done (x ∷ []));
          }
