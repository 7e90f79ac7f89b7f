-- The loop over the lists of an index, line by line, and the index's bits behind its width.
use mathlib.Core.Path.{◌≡◌, refl, sym, ap, ◌∙◌}
use Prim.Native.Nat.{ℕ, suc, ◌+◌, ◌-◌, ◌*◌, ◌/◌, ◌≤◌, ◌<◌}
use native.Mathlib.Omega.{arith}
use native.Mathlib.Numerals.{add-one}
use mathlib.Core.Bool.{Bool}
use mathlib.Core.List.{List, [], ◌∷◌, ◌++◌, append_assoc, append-nil}
use lib.ListN.{length, drop, get_or, length-append}
use lib.Seq.{append_snoc}
use Rattle.bits.specs.Lists.{Along}
use Rattle.bits.specs.Bits.{Bits}
use Rattle.bits.specs.Codec.{Codec}
use Rattle.bits.specs.CodecLaws.{enc_along}
use Rattle.bits.proofs.Laws.Parts.{part}
use Rattle.put_bytes.specs.HighFirst.{two, joined}
use Rattle.format.specs.Index.{FitsList, neighbours, up}
use Rattle.write_blocks.specs.Run.{RunAt}
use Rattle.put_bits.specs.Put.{Puts, Room}
use Rattle.write_blocks.specs.Lists.{ListWritten, ListsWritten}
use Rattle.put_bits.proofs.Chain.{puts_none, ◌then◌, puts_as}
use Rattle.write_blocks.proofs.Laws.Run.{FieldNext, field_here_lem}

-- ---- values one behind the other, each by its line's codec

module _ {A : Type 0} (c : ℕ → Codec Bool A) where
  pub along_append : (i : ℕ) (xs ys : List A) → enc_along c (λ j x. suc j) i (xs ++ ys) ≡ enc_along c (λ j x. suc j) i xs ++ enc_along c (λ j x. suc j) (i + length xs) ys
  along_append i [] ys = let z : i + 0 ≡ i = omega arith in ap (λ (j : ℕ). enc_along c (λ j x. suc j) j ys) (sym z)
  along_append i (x ∷ xs) ys =
      let z : suc i + length xs ≡ i + suc (length xs) = omega arith in
      ap (λ (s : Bits). (c i).enc x ++ s) (along_append (suc i) xs ys ∙ ap (λ (j : ℕ). enc_along c (λ j x. suc j) (suc i) xs ++ enc_along c (λ j x. suc j) j ys) z)
      ∙ sym (append_assoc ((c i).enc x) (enc_along c (λ j x. suc j) (suc i) xs) (enc_along c (λ j x. suc j) (i + suc (length xs)) ys))

-- ---- the loop: l lists are put, up to place p; the next one's field is at byte q

pub record ListsGoing (w lines : ℕ) (s : List ℕ) (nss : List (List ℕ)) (rest old : List ℕ) (at q : ℕ) (now : List ℕ) (p l : ℕ) : Type 0 where
  pub done : List (List ℕ)
  pub more : List (List ℕ)
  pub is : nss ≡ done ++ more
  pub run : RunAt 5 (joined two) s q more rest
  pub fits : Along up (FitsList w) l more
  pub passed : l ≡ length done
  pub left : l + length more ≡ lines
  pub puts : Puts (enc_along (neighbours w) up 0 done) old at now p

-- whatever lists they are
abbrev pub ListsSoFar : (w lines : ℕ) (s : List ℕ) (a : ℕ) (old : List ℕ) (at q : ℕ) (now : List ℕ) (p l : ℕ) → Type 0
ListsSoFar w lines s a old at q now p l =
    (nss : List (List ℕ)) (rest : List ℕ) → RunAt 5 (joined two) s a nss rest → length nss ≡ lines → Along up (FitsList w) 0 nss → ListsGoing w lines s nss rest old at q now p l

pub lists_first : (w lines : ℕ) (s : List ℕ) (a : ℕ) (old : List ℕ) (at : ℕ) → ListsSoFar w lines s a old at a old at 0
lists_first w lines s a old at nss rest r n f =
    record { done = []; more = nss; is = refl; run = r; fits = f; passed = refl; left = omega (arith, n); puts = puts_none old at }

-- the list of line l
pub record ListNext (w : ℕ) (s : List ℕ) (q l : ℕ) (more : List (List ℕ)) (rest : List ℕ) : Type 0 where
  pub field : FieldNext 5 (joined two) s q more rest
  pub fits : FitsList w l field.one
  pub others : Along up (FitsList w) (l + 1) field.more

module _ (w lines : ℕ) {s : List ℕ} {nss : List (List ℕ)} {rest old : List ℕ} {at q : ℕ} {now : List ℕ} {p l : ℕ} (g : ListsGoing w lines s nss rest old at q now p l) where
  pub list_here : l < lines → ListNext w s q l g.more rest
  list_here k = go g.more g.run g.fits g.left
    where
      go : (more : List (List ℕ)) → RunAt 5 (joined two) s q more rest → Along up (FitsList w) l more → l + length more ≡ lines → ListNext w s q l more rest
      go [] r f n = absurd (omega arith)
      go (ns ∷ more) r f n =
          let F = field_here_lem r in
          let e = F.is in
          let a : ns ≡ F.one = cc in
          let b : more ≡ F.more = cc in
          record { field = F; fits = rw a at f.0; others = rw (add-one l) (rw b at f.1) }

  module _ (N : ListNext w s q l g.more rest) where
    -- its value as code cuts it out
    pub list_held : {m : ℕ} → m ≡ get_or s (q + 1) 0 * 256 + get_or s (q + 1 + 1) 0 → part s (q + 3) (q + 3 + m - (q + 3)) ≡ joined two N.field.one
    list_held {m} e =
        let y : q + 3 + m - (q + 3) ≡ length (joined two N.field.one) = omega (arith, N.field.size) in
        ap (part s (q + 3)) y ∙ N.field.holds

    lists_are : nss ≡ (g.done ++ N.field.one ∷ []) ++ N.field.more
    lists_are = g.is ∙ ap (λ (xs : List (List ℕ)). g.done ++ xs) N.field.is ∙ sym (append_snoc g.done N.field.one N.field.more)

    bits_are : enc_along (neighbours w) up 0 (g.done ++ N.field.one ∷ []) ≡ enc_along (neighbours w) up 0 g.done ++ (neighbours w l).enc N.field.one
    bits_are =
        let z : 0 + length g.done ≡ l = omega (arith, g.passed) in
        along_append (neighbours w) 0 g.done (N.field.one ∷ [])
        ∙ ap (λ (j : ℕ). enc_along (neighbours w) up 0 g.done ++ ((neighbours w j).enc N.field.one ++ [])) z
        ∙ ap (λ (s : Bits). enc_along (neighbours w) up 0 g.done ++ s) (append-nil ((neighbours w l).enc N.field.one))

    -- room for all is room for it
    pub list_space : Room old at (length (enc_along (neighbours w) up 0 nss)) → Room now p (length ((neighbours w l).enc N.field.one))
    list_space r =
        let d : List (List ℕ) = g.done ++ N.field.one ∷ [] in
        let a : length (enc_along (neighbours w) up 0 nss) ≡ length (enc_along (neighbours w) up 0 d) + length (enc_along (neighbours w) up (0 + length d) N.field.more) =
        ap (λ (xs : List (List ℕ)). length (enc_along (neighbours w) up 0 xs)) lists_are ∙ ap length (along_append (neighbours w) 0 d N.field.more) ∙ length-append (enc_along (neighbours w) up 0 d) _ in
        let b : length (enc_along (neighbours w) up 0 d) ≡ length (enc_along (neighbours w) up 0 g.done) + length ((neighbours w l).enc N.field.one) =
        ap length bits_are ∙ length-append (enc_along (neighbours w) up 0 g.done) ((neighbours w l).enc N.field.one) in
        record { room = omega (arith, r.room, g.puts.place, g.puts.same); near = omega (arith, r.near, g.puts.place) }

  -- no list is left
  pub lists_last : lines ≤ l → (Puts (enc_along (neighbours w) up 0 nss) old at now p) × (drop q s ≡ rest)
  lists_last k = go g.more g.is g.run g.left
    where
      go : (more : List (List ℕ)) → nss ≡ g.done ++ more → RunAt 5 (joined two) s q more rest → l + length more ≡ lines → (Puts (enc_along (neighbours w) up 0 nss) old at now p) × (drop q s ≡ rest)
      go [] e r n = (rw (e ∙ append-nil g.done) g.puts, r.is)
      go (ns ∷ more) e r n = absurd (omega arith)

pub lists_next : (w lines : ℕ) {s : List ℕ} {a : ℕ} {old : List ℕ} {at q : ℕ} {now now' : List ℕ} {p l m r : ℕ} → l < lines → m ≡ get_or s (q + 1) 0 * 256 + get_or s (q + 1 + 1) 0
    → ListsSoFar w lines s a old at q now p l → ListWritten w l (part s (q + 3) (q + 3 + m - (q + 3))) now p now' r → ListsSoFar w lines s a old at (q + 3 + m) now' r (l + 1)
lists_next w lines {m = m} k e G h nss rest run n f =
    let g = G nss rest run n f in
    let N = list_here w lines g k in
    let z : m ≡ length (joined two N.field.one) = e ∙ N.field.size in
    record {
      done = g.done ++ N.field.one ∷ [];
      more = N.field.more;
      is = lists_are w lines g N;
      run = rw z N.field.further;
      fits = N.others;
      passed = simp length-append (omega (arith, g.passed));
      left = omega (arith, g.left, ap length N.field.is);
      puts = puts_as (sym (bits_are w lines g N)) (g.puts then h.is N.field.one N.fits (list_held w lines g N e));
    }

pub lists_end : (w lines : ℕ) {s : List ℕ} {a : ℕ} {old : List ℕ} {at q : ℕ} {now : List ℕ} {p l : ℕ} → lines ≤ l → ListsSoFar w lines s a old at q now p l
    → ListsWritten w lines s a old at now (record { next = q; bytes = (p + 7) / 8 })
lists_end w lines {p = p} k G =
    record {
      is = λ nss rest run n f.
          let (h, e) = lists_last w lines (G nss rest run n f) k in
          (p, h, refl, e);
    }
