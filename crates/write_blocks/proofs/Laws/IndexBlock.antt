-- The index block from its fields: none, or a width and the lists behind it.
use mathlib.Core.Path.{◌≡◌, refl, sym, ap, ◌∙◌}
use Prim.Native.Nat.{ℕ, suc, ◌+◌, ◌≤◌, ◌<◌}
use native.Mathlib.Omega.{arith}
use mathlib.Core.Option.{Option, none, some}
use mathlib.Core.List.{List, [], ◌∷◌, ◌++◌}
use lib.ListN.{length, drop, get_or, length-drop}
use lib.Seq.{drop-drop, get_or-drop}
use Rattle.bits.specs.Lists.{All, Along}
use Rattle.bits.specs.Bytes.{bytes_of, in_bytes}
use Rattle.bits.specs.CodecLaws.{enc_along}
use Rattle.put_bytes.specs.Laid.{Laid}
use Rattle.put_bytes.specs.HighFirst.{two, joined}
use Rattle.put_bytes.proofs.Laws.{laid_none, twos_length}
use Rattle.differences.proofs.DifferencesLaws.{falls_count}
use Rattle.format.specs.Index.{Index, FitsList, FitsIndex, neighbours, up, index, index_block}
use Rattle.find_parts.proofs.Laws.Index.{none_enc, index_enc, index_long}
use Rattle.put_bits.specs.Put.{PutMore}
use Rattle.put_bits.proofs.Laws.{put_none, put_laid}
use Rattle.sheet_bytes.specs.Bytes.{list_bytes, index_bytes}
use Rattle.write_blocks.specs.Run.{Other, field_of, RunAt}
use Rattle.put_bits.specs.Put.{Room}
use Rattle.write_blocks.specs.Lists.{ListsWritten, IndexAt, IndexToWrite, IndexWritten}
use Rattle.write_blocks.specs.declared.Done.{Done}

-- ---- whether there is one

module _ (s : List ℕ) (a : ℕ) (rest : List ℕ) where
  first_byte : {b : ℕ} {bs : List ℕ} → drop a s ≡ b ∷ bs → get_or s a 0 ≡ b
  first_byte e = let z : a + 0 ≡ a = omega arith in ap (λ (k : ℕ). get_or s k 0) (sym z) ∙ sym (get_or-drop a s 0 0) ∙ ap (λ (xs : List ℕ). get_or xs 0 0) e

  -- no 04 is at byte a
  pub no_index_lem : (o : Option Index) → drop a s ≡ index_bytes o ++ rest → (a < length s → get_or s a 0 ≡ 4 → ⊥) → o ≡ none
  no_index_lem none e k = refl
  no_index_lem (some i) e k = absurd (k (omega (arith, length-drop a s, ap length e)) (first_byte e))

  -- one is
  pub an_index : {P : Type 0} (o : Option Index) → drop a s ≡ index_bytes o ++ rest → Other 4 rest → a < length s → get_or s a 0 ≡ 4 → ((i : Index) → o ≡ some i → P) → P
  an_index none e h l t k = absurd (stop rest e h)
    where
      stop : (rest : List ℕ) → drop a s ≡ rest → Other 4 rest → ⊥
      stop [] e h = absurd (omega (arith, length-drop a s, ap length e))
      stop (b ∷ bs) e h = h (sym (first_byte e) ∙ t)
  an_index (some i) e h l t k = k i refl

-- ---- its parts

fits_in : (lines : ℕ) (i : Index) → (index_block lines).Fits (some i) → FitsIndex lines i
unfolding index_block index
fits_in lines i f = f

lists_fields : (nss : List (List ℕ)) → joined list_bytes nss ≡ joined (field_of 5 (joined two)) nss
lists_fields [] = refl
lists_fields (ns ∷ nss) = rw (lists_fields nss, twos_length ns)

lists_small : (w l : ℕ) (nss : List (List ℕ)) → l + length nss ≤ 1024 → Along up (FitsList w) l nss → All (λ ns. length (joined two ns) < 65536) nss
lists_small w l [] n f = tt
lists_small w l (ns ∷ nss) n f = (omega (arith, twos_length ns, falls_count 0 l ns (omega arith) f.0.falls), lists_small w (suc l) nss (omega arith) f.1)

module _ {lines : ℕ} {s : List ℕ} {a : ℕ} {i : Index} {rest : List ℕ} (h : IndexAt lines s a (some i) rest) where
  index_fits : FitsIndex lines i
  index_fits = fits_in lines i h.fits

  index_there : a + 4 ≤ length s
  index_there = omega (arith, length-drop a s, ap length h.is)

  width_at : get_or s (a + 3) 0 ≡ i.width
  width_at = sym (get_or-drop a s 3 0) ∙ ap (λ (xs : List ℕ). get_or xs 3 0) h.is

  lists_at : lines ≤ 1024 → RunAt 5 (joined two) s (a + 4) i.lists rest
  lists_at few =
      record {
        is = sym (drop-drop 4 a s) ∙ ap (drop 4) h.is ∙ ap (λ (xs : List ℕ). xs ++ rest) (lists_fields i.lists);
        small = lists_small i.width 0 i.lists (omega (arith, index_fits.count)) index_fits.lists;
        other = h.behind.1;
      }

-- ---- what is laid

pub index_none : {lines : ℕ} {s : List ℕ} {a : ℕ} {before : List ℕ} → (a < length s → get_or s a 0 ≡ 4 → ⊥) → IndexWritten lines s a before before (record { next = a; bytes = 0 })
unfolding bytes_of
index_none {lines} {s} {a} {before} k =
    record {
      is = λ o rest h.
          let z = no_index_lem s a rest o h.is k in
          (rw (z, none_enc lines) (nothing before), h.is ∙ ap (λ (o : Option Index). index_bytes o ++ rest) z);
    }
  where
    nothing : (before : List ℕ) → Laid (in_bytes []) before before 0
    nothing before = laid_none before

pub index_some : {lines : ℕ} {s : List ℕ} {a : ℕ} {before mid now : List ℕ} {w p : ℕ} {r : Done} → lines ≤ 1024 → a < length s → get_or s a 0 ≡ 4 → w ≡ get_or s (a + 3) 0
    → PutMore before 0 w 8 mid p → ListsWritten w lines s (a + 4) mid p now r → IndexWritten lines s a before now r
index_some {lines} {s} {a} {before} {w = w} few l t e h L =
    record {
      is = λ o rest j.
          an_index s a rest o j.is j.behind.0 l t λ i z.
          let I = rw z at j in
          let F = index_fits I in
          let x : w ≡ i.width = e ∙ width_at I in
          let (q, P, n, y) = (rw x at L).is i.lists rest (lists_at I few) F.count F.lists in
          let b = P.is _ before ((rw x at h).is [] before (put_none before)) in
          (rw (z, index_enc lines i) (put_laid b n), y);
    }

-- ---- the index that code finds

pub record IndexHere (lines : ℕ) (s : List ℕ) (a : ℕ) (out : List ℕ) : Type 0 where
  pub value : Index
  pub rest : List ℕ
  pub fits : FitsIndex lines value
  pub there : a + 4 ≤ length s
  pub width : get_or s (a + 3) 0 ≡ value.width
  pub lists : RunAt 5 (joined two) s (a + 4) value.lists rest
  pub room : Room out 0 (8 + length (enc_along (neighbours value.width) up 0 value.lists))

pub index_here : {lines : ℕ} {s : List ℕ} {a : ℕ} {out : List ℕ} → IndexToWrite lines s a out → a < length s → get_or s a 0 ≡ 4 → IndexHere lines s a out
index_here {lines} {s} {a} {out} h l t =
    an_index s a h.rest h.value h.at.is h.at.behind.0 l t λ i z.
    let I = rw z at h.at in
    let r : Room out 0 (length ((index_block lines).enc (some i))) = rw z at h.room in
    let n = index_long lines i in
    record {
      value = i;
      rest = h.rest;
      fits = index_fits I;
      there = index_there I;
      width = width_at I;
      lists = lists_at I h.few;
      room = record { room = omega (arith, n, r.room); near = omega (arith, n, r.near) };
    }
