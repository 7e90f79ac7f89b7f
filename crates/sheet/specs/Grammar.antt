-- The order of a sheet's fields, and their lengths: refusal 21. "Order: one 01; then for each view one 02, its 03s, either nothing
-- or one 04 followed by one 05 per line, and its 06s." Only an 02 begins a view, so the fields behind the 01 are parted before
-- each 02, and each part must be used up.
use Rattle.std.specs.Prelude.{ℕ, ◌%◌, Bool, true, false, ◌&&◌, List, [], ◌∷◌, ◌++◌, map, length, leb, eqb}
use Rattle.std.proofs.Math.Option.{Option, none, some}
use Rattle.bits.specs.Choice.{pick, within}
use Rattle.bits.specs.Lists.{every, all_true, empty?}
use Rattle.format.specs.Limits.{most_lines}
use Rattle.sheet.specs.Fields.{Field}

-- ---- a sheet whose values are not looked at yet

pub record RawView : Type 0 where
  pub head : List ℕ
  pub lines : List (List ℕ)
  pub index : Option (List ℕ × List (List ℕ))
  pub segments : List (List ℕ)

pub record RawSheet : Type 0 where
  pub head : List ℕ
  pub views : List RawView

-- ---- its fields

abbrev pub one : ℕ → List ℕ → Field
one t v = record { tag = t; value = v }

abbrev pub index_fields : Option (List ℕ × List (List ℕ)) → List Field
index_fields none = []
index_fields (some (w, ls)) = one 4 w ∷ map (one 5) ls

-- behind the view's 02
abbrev pub body_fields : RawView → List Field
body_fields v = map (one 3) v.lines ++ (index_fields v.index ++ map (one 6) v.segments)

abbrev pub views_fields : List RawView → List Field
views_fields [] = []
views_fields (v ∷ vs) = one 2 v.head ∷ (body_fields v ++ views_fields vs)

abbrev pub sheet_fields : RawSheet → List Field
sheet_fields s = one 1 s.head ∷ views_fields s.views

-- ---- and back: the only sheet that fields can be the fields of

abbrev pub Parts : Type 0
Parts = List Field × List (List ℕ × List Field)

-- what stands before the first 02; then for each 02 its value and what stands behind it, up to the next
abbrev pub parted : List Field → Parts
parted [] = ([], [])
parted (f ∷ fs) =
    let p : Parts = parted fs in
    pick (eqb f.tag 2) ([], (f.value, p.0) ∷ p.1) (f ∷ p.0, p.1)

-- the values of the fields with tag t, as long as they come; and what stands behind them
abbrev pub front : ℕ → List Field → List (List ℕ)
front t [] = []
front t (f ∷ fs) = pick (eqb f.tag t) (f.value ∷ front t fs) []

abbrev pub rest : ℕ → List Field → List Field
rest t [] = []
rest t (f ∷ fs) = pick (eqb f.tag t) (rest t fs) (f ∷ fs)

abbrev pub index_in : List Field → Option (List ℕ × List (List ℕ))
index_in [] = none
index_in (f ∷ fs) = pick (eqb f.tag 4) (some (f.value, front 5 fs)) none

abbrev pub index_rest : List Field → List Field
index_rest [] = []
index_rest (f ∷ fs) = pick (eqb f.tag 4) (rest 5 fs) (f ∷ fs)

abbrev pub view_in : List ℕ × List Field → RawView
view_in (head, fs) =
    record { head = head; lines = front 3 fs; index = index_in (rest 3 fs); segments = front 6 (index_rest (rest 3 fs)) }

abbrev pub used_up : List ℕ × List Field → Bool
used_up (head, fs) = empty? (rest 6 (index_rest (rest 3 fs)))

abbrev pub sheet_in : List Field → RawSheet
sheet_in [] = record { head = []; views = [] }
sheet_in (f ∷ fs) = record { head = f.value; views = map view_in (parted fs).1 }

-- ---- the test

-- "over 1,024 lines", "number of 05s": n is the number of lines
abbrev pub index_shape : ℕ → Option (List ℕ × List (List ℕ)) → Bool
index_shape n none = true
index_shape n (some (w, ls)) = all_true (eqb (length w) 1 ∷ eqb (length ls) n ∷ every (λ l. eqb (length l % 2) 0) ls ∷ [])

-- 02 has 8 bytes, 03 has 12 to 267, 04 has 1, 05 an even number, 06 at least 2
abbrev pub view_shape : RawView → Bool
view_shape v =
    all_true
    (eqb (length v.head) 8 ∷ every (λ l. within 12 267 (length l)) v.lines ∷ leb (length v.lines) most_lines
    ∷ index_shape (length v.lines) v.index ∷ every (λ g. leb 2 (length g)) v.segments ∷ [])

-- 01 has 9 bytes; "no views or over 255"
abbrev pub sheet_shape : RawSheet → Bool
sheet_shape s = all_true (eqb (length s.head) 9 ∷ within 1 255 (length s.views) ∷ every view_shape s.views ∷ [])

-- an 01 comes first, nothing stands between it and the first 02, and each view's fields are used up
abbrev pub in_order : List Field → Bool
in_order [] = false
in_order (f ∷ fs) = all_true (eqb f.tag 1 ∷ empty? (parted fs).0 ∷ every used_up (parted fs).1 ∷ [])

unfoldable pub grammar : List Field → Bool
grammar fs = in_order fs && sheet_shape (sheet_in fs)
