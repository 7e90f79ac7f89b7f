-- What the code that goes over a sheet's fields asks and answers: it asks that fields stand from its byte on, and whatever fields
-- these are, its answer is what the grammar says of them.
use Rattle.std.specs.Prelude.{◌≡◌, ℕ, ◌%◌, Bool, false, not, ◌&&◌, Option, Some, None, List, [], ◌∷◌, length, T, eqb}
use Rattle.bits.specs.Choice.{within}
use Rattle.bits.specs.Lists.{every}
use Rattle.bits.specs.Bytes.{bits_of}
use Rattle.bits.specs.Codec.{got}
use Rattle.sheet.specs.Fields.{Field, fields}
use Rattle.sheet.specs.Grammar.{front, rest, index_in, index_rest, view_in, index_shape, view_shape, grammar}
use Rattle.check_fields.specs.Fields.{FieldsAt}
use Rattle.check_shape.specs.declared.Kind.{Kind}
use Rattle.check_shape.specs.declared.Passed.{Passed}

-- fields stand from byte p on
pub record Standing (s : List ℕ) (p : ℕ) : Type 0 where
  pub value : List Field
  pub stand : FieldsAt s p value

-- ---- the first field: its tag, and the length of its value

abbrev pub starts : ℕ → List Field → Bool
starts t [] = false
starts t (f ∷ fs) = eqb f.tag t

abbrev pub begins : ℕ → ℕ → List Field → Bool
begins t n [] = false
begins t n (f ∷ fs) = eqb f.tag t && eqb (length f.value) n

pub record Starts (t : ℕ) (s : List ℕ) (p : ℕ) (r : Bool) : Type 0 where
  pub is : (fs : List Field) → FieldsAt s p fs → r ≡ starts t fs

pub record Begins (t n : ℕ) (s : List ℕ) (p : ℕ) (r : Bool) : Type 0 where
  pub is : (fs : List Field) → FieldsAt s p fs → r ≡ begins t n fs

-- ---- fields of a kind, as long as they come

abbrev pub right_size : Kind → ℕ → Bool
right_size k n = within k.least k.most n && eqb (n % k.step) 0

abbrev pub all_sized : Kind → List Field → Bool
all_sized k fs = every (λ v. right_size k (length v)) (front k.tag fs)

pub record PassedAt (k : Kind) (s : List ℕ) (fs : List Field) (n next : ℕ) : Type 0 where
  pub count : n ≡ length (front k.tag fs)
  pub behind : FieldsAt s next (rest k.tag fs)
  pub right : T (all_sized k fs)

abbrev pub Passes : Kind → List ℕ → ℕ → Option Passed → Type 0
Passes k s p (Some q) = (fs : List Field) → FieldsAt s p fs → PassedAt k s fs q.count q.next
Passes k s p None = (fs : List Field) → FieldsAt s p fs → T (not (all_sized k fs))

-- ---- the index of a view with `lines` lines

pub record IndexFieldsAt (lines : ℕ) (s : List ℕ) (fs : List Field) (e : ℕ) : Type 0 where
  pub behind : FieldsAt s e (index_rest fs)
  pub right : T (index_shape lines (index_in fs))

abbrev pub IndexEnds : ℕ → List ℕ → ℕ → Option ℕ → Type 0
IndexEnds lines s p (Some e) = (fs : List Field) → FieldsAt s p fs → IndexFieldsAt lines s fs e
IndexEnds lines s p None = (fs : List Field) → FieldsAt s p fs → T (not (index_shape lines (index_in fs)))

-- ---- a view, from its 02 on

abbrev pub view_right : List Field → Bool
view_right [] = false
view_right (f ∷ fs) = eqb f.tag 2 && view_shape (view_in (f.value, fs))

-- what stands behind its 06s
abbrev pub view_rest : List Field → List Field
view_rest [] = []
view_rest (f ∷ fs) = rest 6 (index_rest (rest 3 fs))

pub record ViewFieldsAt (s : List ℕ) (fs : List Field) (e : ℕ) : Type 0 where
  pub behind : FieldsAt s e (view_rest fs)
  pub right : T (view_right fs)

abbrev pub ViewEnds : List ℕ → ℕ → Option ℕ → Type 0
ViewEnds s p (Some e) = (fs : List Field) → FieldsAt s p fs → ViewFieldsAt s fs e
ViewEnds s p None = (fs : List Field) → FieldsAt s p fs → T (not (view_right fs))

-- ---- the sheet

pub record Shape (s : List ℕ) (r : Bool) : Type 0 where
  pub is : (fs : List Field) → fields.dec (bits_of s) ≡ got fs [] → r ≡ grammar fs
