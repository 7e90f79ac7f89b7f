-- The views of a sheet: the raw views that its fields give, one behind the other, and how far a loop over them has come. What the
-- views so far are is joined to what reading the rest gives, and what they take to what the rest takes.
use mathlib.Core.Path.{◌≡◌, refl, sym, ap, ap₂, ◌∙◌, subst}
use Prim.Native.Nat.{ℕ, ◌+◌, ◌*◌, ◌≤◌, ◌<◌}
use native.Mathlib.Omega.{arith}
use mathlib.Core.Bool.{Bool}
use mathlib.Core.List.{List, [], ◌∷◌, ◌++◌, append-nil, map}
use lib.ListN.{length, length-append, get_or, set, replicate}
use lib.Seq.{append_snoc}
use lib.Dec.{T}
use Rattle.bits.specs.Codec.{Read, got, refused, next}
use Rattle.bits.specs.CodecLaws.{enc_along, next_got}
use Rattle.outcome.specs.Refusals.{bad_value}
use Rattle.format.specs.View.{View, view}
use Rattle.format.specs.Record.{tell_seen}
use Rattle.format.specs.declared.Widths.{Widths}
use Rattle.sheet.specs.Fields.{Field}
use Rattle.sheet.specs.Grammar.{RawView, Parts, parted, view_in}
use Rattle.sheet.specs.Sheet.{views_from}
use Rattle.check_fields.specs.Fields.{FieldsAt}
use Rattle.check_fields.proofs.Laws.{no_fields, some_fields}
use Rattle.check_shape.specs.Shape.{view_right, view_rest}
use Rattle.check_shape.proofs.Laws.Parted.{parted_at, rest_behind, view_parted}
use Rattle.check_shape.proofs.Laws.Views.{view_tests, views_right, views, views_on, first_right}
use Rattle.check_values.specs.View.{ViewToCheck, raw_in, ViewRight, ViewWrong, SizedIs}
use Rattle.check_values.specs.declared.view.Sized.{Sized}
use Rattle.judge_heads.specs.Answers.{Seen}
use Rattle.judge_heads.proofs.Laws.Seen.{seen_start, seen_more, seen_le}

-- ---- the raw views

abbrev pub raws : List Field → List RawView
raws fs = map view_in (parted fs).1

raws_more : (fs : List Field) → T (view_right fs) → raws fs ≡ raw_in fs ∷ raws (view_rest fs)
raws_more [] t = absurd t
raws_more (f ∷ fs) t =
    let a : raws (f ∷ fs) ≡ view_in (f.value, (parted fs).0) ∷ map view_in (parted fs).1 = ap (λ (p : Parts). map view_in p.1) (parted_at f fs (view_tests f fs t).tag) in
    let b : raws (view_rest (f ∷ fs)) ≡ map view_in (parted fs).1 = ap (λ (p : Parts). map view_in p.1) (rest_behind fs) in
    a ∙ ap₂ (λ (x : RawView) (y : List RawView). x ∷ y) (view_parted fs f.value) (sym b)

-- ---- what is read, with nothing left over

abbrev with_done : List View → Read Bool (List View) → Read Bool (List View)
with_done done o = next o (λ xs q. got (done ++ xs) [])

done_more : (done : List View) (x : View) (o : Read Bool (List View)) → with_done done (next o (λ xs q. got (x ∷ xs) [])) ≡ with_done (done ++ x ∷ []) o
done_more done x (got xs q) = ap (λ (ys : List View). got ys []) (sym (append_snoc done x xs))
done_more done x (refused e l) = refl

done_refused : (done : List View) (o : Read Bool (List View)) {e l : ℕ} → with_done done o ≡ refused e l → o ≡ refused e l
done_refused done (got xs q) p = let z : ◌≡◌ {A = ℕ} 0 1 = cc in absurd (omega arith)
done_refused done (refused e l) p = p

-- ---- a loop over the views

-- the views that the grammar allows, behind the 01
pub record ViewsThere (s : List ℕ) (fs : List Field) : Type 0 where
  pub stand : FieldsAt s 12 fs
  pub right : T (views_right fs)
  pub few : views fs ≤ 255

-- of the views of fs, n are passed and take z bytes with the header; the next one starts at byte p, and seen counts the positions
pub record Going (w : Widths) (s seen : List ℕ) (p n z : ℕ) (fs : List Field) : Type 0 where
  pub left : List Field
  pub stand : FieldsAt s p left
  pub right : T (views_right left)
  pub count : n + views left ≡ views fs
  pub done : List View
  pub many : n ≡ length done
  pub before : List ℕ
  pub long : n ≡ length before
  pub counts : Seen seen before
  pub reads : with_done [] (views_from w [] (raws fs)) ≡ with_done done (views_from w before (raws left))
  pub all : (xs : List View) → 192 + length (enc_along (view w) tell_seen [] (done ++ xs)) ≡ 8 * z + length (enc_along (view w) tell_seen before xs)

going_first : (w : Widths) {s : List ℕ} {fs : List Field} → ViewsThere s fs → Going w s (replicate 11 0) 12 0 24 fs
going_first w {fs = fs} h =
    record {
      left = fs;
      stand = h.stand;
      right = h.right;
      count = omega arith;
      done = [];
      many = refl;
      before = [];
      long = refl;
      counts = seen_start;
      reads = refl;
      all = λ xs. omega arith;
    }

module _ {w : Widths} {s seen : List ℕ} {p n z : ℕ} {fs : List Field} (g : Going w s seen p n z fs) where
  module _ (l : p < length s) where
    next_right : T (view_right g.left)
    next_right = some_fields g.stand l (λ f gs e. first_right g.left (omega (arith, ap length e)) g.right)

    pub next_view : ViewToCheck s p g.left
    next_view = record { stand = g.stand; right = next_right }

    pub one_more : views fs ≤ 255 → n < 255
    one_more k = omega (arith, g.count, (views_on g.left next_right).1)

    first_read : views_from w g.before (raws g.left) ≡ views_from w g.before (raw_in g.left ∷ raws (view_rest g.left))
    first_read = ap (views_from w g.before) (raws_more g.left next_right)

    going_on : (v : Sized) → ViewRight w g.before g.left s v → v.position ≤ 10
        → Going w s (set seen v.position (get_or seen v.position 0 + 1)) v.end (n + 1) (z + v.bytes) fs
    going_on v r k =
        let (a, b) = views_on g.left next_right in
        let x : View = r.value in
        let e : views_from w g.before (raws g.left) ≡ next (views_from w (tell_seen g.before x) (raws (view_rest g.left))) (λ xs q. got (x ∷ xs) []) = first_read ∙ rw r.reads in
        record {
          left = view_rest g.left;
          stand = r.behind;
          right = subst T a g.right;
          count = omega (arith, g.count, b);
          done = g.done ++ x ∷ [];
          many = omega (arith, g.many, length-append g.done (x ∷ []));
          before = tell_seen g.before x;
          long = omega (arith, g.long);
          counts = subst (λ (q : ℕ). Seen (set seen v.position (get_or seen v.position 0 + 1)) (q ∷ g.before)) r.position (seen_more seen g.before v.position k g.counts);
          reads = g.reads ∙ ap (with_done g.done) e ∙ done_more g.done x (views_from w (tell_seen g.before x) (raws (view_rest g.left)));
          all = λ xs.
              let c : length (enc_along (view w) tell_seen [] ((g.done ++ x ∷ []) ++ xs)) ≡ length (enc_along (view w) tell_seen [] (g.done ++ (x ∷ xs))) = ap (λ (ys : List View). length (enc_along (view w) tell_seen [] ys)) (append_snoc g.done x xs) in
              let d : 192 + length (enc_along (view w) tell_seen [] (g.done ++ (x ∷ xs))) ≡ 8 * z + length (enc_along (view w) tell_seen g.before (x ∷ xs)) = g.all (x ∷ xs) in
              let f : length (enc_along (view w) tell_seen g.before (x ∷ xs)) ≡ length ((view w g.before).enc x) + length (enc_along (view w) tell_seen (tell_seen g.before x) xs) = length-append ((view w g.before).enc x) (enc_along (view w) tell_seen (tell_seen g.before x) xs) in
              omega (arith, c, d, f, r.all);
        }

    pub going_wrong : (u : ViewWrong w g.before g.left) → views_from w [] (raws fs) ≡ refused bad_value u.left
    going_wrong u =
        let e : views_from w g.before (raws g.left) ≡ refused bad_value u.left = first_read ∙ rw u.refuses in
        done_refused [] (views_from w [] (raws fs)) (g.reads ∙ ap (with_done g.done) e)

  -- no bytes are left
  pub record All : Type 0 where
    pub rest : List Bool
    pub reads : views_from w [] (raws fs) ≡ got g.done rest
    pub all : 192 + length (enc_along (view w) tell_seen [] g.done) ≡ 8 * z

  pub going_all : length s ≤ p → All
  going_all l =
      let e : g.left ≡ [] = no_fields g.stand l in
      let d : with_done [] (views_from w [] (raws fs)) ≡ got g.done [] =
      g.reads ∙ ap (λ (x : List Field). with_done g.done (views_from w g.before (raws x))) e ∙ ap (λ (xs : List View). got xs []) (append-nil g.done) in
      next_got (views_from w [] (raws fs)) _ d λ xs r a b.
      let y : xs ≡ g.done = cc in
      record {
        rest = r;
        reads = a ∙ ap (λ (x : List View). got x r) y;
        all = ap (λ (x : List View). 192 + length (enc_along (view w) tell_seen [] x)) (sym (append-nil g.done)) ∙ g.all [] ∙ omega arith;
      }

-- whatever views they are

pub record ViewsGoing (w : Widths) (s seen : List ℕ) (p n z : ℕ) : Type 0 where
  pub small : z ≤ p + 24 + n * 134217728
  pub is : (fs : List Field) → ViewsThere s fs → Going w s seen p n z fs

pub views_first : (w : Widths) (s : List ℕ) → ViewsGoing w s (replicate 11 0) 12 0 24
views_first w s = record { small = omega arith; is = λ fs h. going_first w h }

pub views_next : {w : Widths} {s seen : List ℕ} {p n z : ℕ} → ViewsGoing w s seen p n z → p < length s → {v : Sized} → SizedIs w seen s p v
    → ViewsGoing w s (set seen v.position (get_or seen v.position 0 + 1)) v.end (n + 1) (z + v.bytes)
views_next G l {v} r =
    record {
      small = omega (arith, G.small, r.small);
      is = λ fs h. let g = G.is fs h in going_on g l v (r.is g.left (next_view g l) g.before g.counts) r.eleven;
    }

pub few_seen : {w : Widths} {s seen : List ℕ} {p n z : ℕ} {fs : List Field} → Going w s seen p n z fs → (po : ℕ) → po ≤ 10 → get_or seen po 0 ≤ n
few_seen {seen = seen} g po k = omega (arith, seen_le seen g.before po k g.counts, g.long)
