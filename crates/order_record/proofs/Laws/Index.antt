-- The index block that an order leaves: none stays none; one that is there gets the lists that the order leaves, at their least width.
use mathlib.Core.Path.{◌≡◌, refl, sym, ap, ◌∙◌, subst}
use Prim.Native.Nat.{ℕ, ◌+◌, ◌≤◌}
use native.Mathlib.Omega.{arith}
use mathlib.Core.Logic.{◌≢◌}
use mathlib.Core.Option.{Option, none, some, none-ne-some, some-injective}
use mathlib.Core.List.{List, []}
use lib.ListN.{length}
use Rattle.bits.specs.Bytes.{bits_of, bytes_of, in_bytes}
use Rattle.bits.specs.Codec.{got}
use Rattle.put_bytes.specs.Laid.{Laid}
use Rattle.put_bytes.specs.HighFirst.{two}
use Rattle.put_bytes.proofs.Laws.{lent, back}
use Rattle.format.specs.Index.{Index, index_block}
use Rattle.orders.specs.Least.{least_width}
use Rattle.order_removal.specs.Kept.{kept}
use Rattle.find_parts.proofs.Laws.Blocks.{no_index_lem}
use Rattle.find_parts.proofs.Laws.Index.{none_enc, an_index, index_enc}
use Rattle.find_parts.specs.Stored.{sized}
use Rattle.order_lists.specs.Index as r
use Rattle.order_lists.proofs.Laws.Index.{new_long, small_block}
use Rattle.order_lists.specs.declared.index.Size.{Size}
use Rattle.order_record.specs.Blocks.{new_index_block, Keeps, OldIndex, IndexMeasured, IndexRoom, IndexLaid}
use Rattle.order_record.proofs.Laws.Skeleton.{sized_laid}

pub index_bytes_lem : (n : ℕ) (o : Option Index) → (index_block n).enc o ≡ (index_block 0).enc o
unfolding index_block
index_bytes_lem n none = refl
index_bytes_lem n (some i) = index_enc n i ∙ sym (index_enc 0 i)

index_none : (removal words : List ℕ) → new_index_block removal words none ≡ []
unfolding bytes_of
index_none removal words = ap in_bytes (none_enc 0)

module _ {s : List ℕ} {lines : ℕ} {words removal : List ℕ} (t : OldIndex s lines words removal) where
  the_index : {o : Option Index} → (index_block lines).dec (bits_of s) ≡ got o [] → t.value ≡ o
  the_index {o} e = let z : got t.value [] ≡ got o [] = sym t.reads ∙ e in cc

  pub lists_none : length s ≡ 0 → IndexMeasured s lines words removal (record { width = 1; bytes = 0 })
  lists_none h =
      record {
        is = λ o e. let z = no_index_lem lines s h e in rw z (record { width = λ i q. absurd (none-ne-some i q); bytes = sym (ap length (index_none removal words)) });
      }

  -- the index that is there
  pub with_index : {P : Type 0} → length s ≢ 0 → ((i : Index) → t.value ≡ some i → P) → P
  with_index h k = an_index lines s (omega arith) t.reads k

  module _ {i : Index} (e : t.value ≡ some i) where
    pub index_reads : (index_block lines).dec (bits_of s) ≡ got (some i) []
    index_reads = t.reads ∙ ap (λ o. got o []) e

    abbrev pub index_there : r.IndexThere s lines words removal
    index_there =
        record { short = t.short; rising = t.rising; few = t.few; value = i; behind = []; reads = index_reads; falls = (t.keeps i e).0; kept = (t.keeps i e).1 }

  pub lists_some : length s ≢ 0 → {z : Size} → r.IndexSized s lines words removal z → IndexMeasured s lines words removal z
  lists_some h S =
      record {
        is = λ o e.
            with_index h λ i q.
            let (a, b) = S.is i [] (index_reads q) (t.keeps i q).0 (t.keeps i q).1 in
            rw (sym (the_index e) ∙ q) (record {
              width = λ j y. a ∙ ap (λ (k : Index). least_width (r.left removal words k)) (some-injective i j y);
              bytes = b;
            });
      }

  pub index_small_lem : {z : Size} → IndexMeasured s lines words removal z → z.bytes ≤ 2200000
  index_small_lem M =
      go t.value (M.is t.value t.reads).bytes t.keeps
    where
      go : {n : ℕ} (o : Option Index) → n ≡ length (new_index_block removal words o) → Keeps removal words o → n ≤ 2200000
      go none e k = omega (arith, e, ap length (index_none removal words))
      go (some i) e k =
          let (f, n) = k i refl in
          let ls : List (List ℕ) = r.left removal words i in
          omega (arith, e, new_long ls, small_block ls f n)

  laid_index : {before after : List ℕ} {m : ℕ} → Laid (sized (new_index_block removal words t.value)) before after m → IndexLaid s lines words removal before after m
  laid_index h = record { is = λ o e. rw (sym (the_index e)) h }

module _ {s : List ℕ} {lines : ℕ} {words removal : List ℕ} {width n : ℕ} {d : List ℕ} (t : IndexRoom s lines words removal width n d) {xs : List ℕ} {a : ℕ} (h : Laid (two n) d xs a) where
  pub no_lists : length s ≡ 0 → IndexLaid s lines words removal d xs a
  no_lists z =
      let e = ap (new_index_block removal words) (no_index_lem lines s z t.there.reads) ∙ index_none removal words in
      let y : n ≡ 0 = t.size.bytes ∙ ap length e in
      laid_index t.there (rw e (rw y at h))

  pub put_there : length s ≢ 0 → {out : List ℕ} → n ≤ length out → r.IndexPutThere s lines words removal width out
  put_there z l =
      with_index t.there z λ i e.
      let b : n ≡ length (r.new_block removal words i) = t.size.bytes ∙ ap (λ (o : Option Index). length (new_index_block removal words o)) e in
      record { there = index_there t.there e; least = t.size.width i e; small = omega (arith, t.small, b); room = omega (arith, b) }

  pub some_lists : length s ≢ 0 → {ys : List ℕ} {m : ℕ} → r.IndexPut s lines words removal (lent xs a) ys m → IndexLaid s lines words removal d (back xs a ys) (a + m)
  some_lists z {ys} {m} k =
      with_index t.there z λ i e.
      let o = t.there in
      let b = ap (new_index_block removal words) (sym e) in
      laid_index o (sized_laid t.size.bytes h (subst (λ (block : List ℕ). Laid block (lent xs a) ys m) b (k.is i [] (index_reads o e) (o.keeps i e).0 (o.keeps i e).1)))

pub index_end : {s : List ℕ} {lines : ℕ} {words removal : List ℕ} {width n : ℕ} {d : List ℕ} → IndexRoom s lines words removal width n d → length s ≢ 0
    → {xs ys : List ℕ} {m : ℕ} → r.IndexPut s lines words removal xs ys m → m ≡ n
index_end {words = words} {removal = removal} t z k =
    with_index t.there z λ i e.
    let o = t.there in
    (k.is i [] (index_reads o e) (o.keeps i e).0 (o.keeps i e).1).count ∙ ap (λ p. length (new_index_block removal words p)) (sym e) ∙ sym t.size.bytes
