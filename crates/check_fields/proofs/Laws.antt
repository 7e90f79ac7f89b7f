-- The fields of a sheet, one by one: the bytes of one, what is read where it is whole and where it is cut, and how far a loop over
-- them has come.
use mathlib.Core.Path.{◌≡◌, refl, sym, ap, ◌∙◌}
use Prim.Native.Nat.{ℕ, ◌+◌, ◌-◌, ◌*◌, ◌/◌, ◌%◌, ◌≤◌, ◌<◌}
use native.Mathlib.Omega.{arith}
use native.Mathlib.Numerals.{add-one}
use mathlib.Core.Bool.{Bool}
use mathlib.Core.List.{List, [], ◌∷◌, ◌++◌, append-nil}
use lib.ListN.{length, take, drop, get_or, length-append, length-drop, take-append-drop}
use lib.Seq.{drop-cons, drop-drop, drop_at, take_at, take-add, take_all, get_or-drop, get_or-take, append_snoc}
use Rattle.bits.specs.Lists.{All}
use Rattle.bits.specs.ListsLaws.{all_at, all_append}
use Rattle.bits.specs.Bits.{Bits}
use Rattle.bits.specs.Bytes.{Byte, bits_of}
use Rattle.bits.specs.BytesLaws.{bits_append, length_bits_of}
use Rattle.bits.specs.Codec.{Read, got, refused}
use Rattle.bits.specs.Block.{fill_dec}
use Rattle.bits.specs.Reads.{keeping}
use Rattle.bits.proofs.Laws.Refuses.{Refusal, by, AtMost, Refuses, refusing}
use Rattle.bits.proofs.Laws.Parts.{bits_drop, part, part_length, part_bytes, some_left, drop_end}
use Rattle.bits.proofs.Laws.Loops.{keeping_same, keeping_none, fill_turn, fill_stop, fill_done}
use Rattle.outcome.specs.Refusals.{bad_sheet}
use Rattle.put_bytes.specs.HighFirst.{joined}
use Rattle.put_bytes.proofs.Laws.{joined_snoc}
use Rattle.find_parts.proofs.Laws.InBytes.{Spells, ◌⊕◌, spells_byte, spells_two, spells_bytes}
use Rattle.find_parts.proofs.Laws.Front.{front}
use Rattle.sheet.specs.Fields.{Field, FitsField, tagged, fields}
use Rattle.check_fields.specs.Fields.{field_bytes, FieldsAt, Fields, NoFields}

-- ---- the bytes of a field

field_spells : (f : Field) → FitsField f → Spells (field_bytes f) (tagged.enc f)
unfolding tagged
field_spells f h = spells_byte h.tag ⊕ spells_two h.length ⊕ spells_bytes bad_sheet f.value h.value

pub field_long : (f : Field) → length (field_bytes f) ≡ 3 + length f.value
field_long f = omega arith

fits_in : (f : Field) → FitsField f → tagged.Fits f
unfolding tagged
fits_in f h = h

fits_out : (f : Field) → tagged.Fits f → FitsField f
unfolding tagged
fits_out f h = h

-- ---- the field at byte p of the sheet s, whose value has n bytes

abbrev pub field_here : List ℕ → ℕ → ℕ → Field
field_here s p n = record { tag = get_or s p 0; value = part s (p + 3) n }

module _ (s : List ℕ) (bytes : All Byte s) (p n : ℕ) (e : n ≡ get_or s (p + 1) 0 * 256 + get_or s (p + 1 + 1) 0) where
  byte : (i : ℕ) → i < length s → get_or s i 0 < 256
  byte i l = all_at Byte 0 s i l bytes

  module _ (l : p + 3 + n ≤ length s) where
    pub here_fits : FitsField (field_here s p n)
    here_fits =
        let m = part_length s (p + 3) n l in
        record {
          tag = byte p (omega arith);
          length = omega (arith, m, byte (p + 1) (omega arith), byte (p + 1 + 1) (omega arith));
          value = part_bytes s (p + 3) n bytes;
        }

    pub here_stands : drop p s ≡ field_bytes (field_here s p n) ++ drop (p + (3 + n)) s
    here_stands =
        let c0 = drop-cons s p 0 (omega arith) ∙ ap (λ (k : ℕ). get_or s p 0 ∷ drop k s) (sym (add-one p)) in
        let c1 = drop-cons s (p + 1) 0 (omega arith) ∙ ap (λ (k : ℕ). get_or s (p + 1) 0 ∷ drop k s) (sym (add-one (p + 1))) in
        let c2 = drop-cons s (p + 1 + 1) 0 (omega arith) ∙ ap (λ (k : ℕ). get_or s (p + 1 + 1) 0 ∷ drop k s) (sym (add-one (p + 1 + 1))) in
        let m = part_length s (p + 3) n l in
        let a : get_or s (p + 1) 0 ≡ length (part s (p + 3) n) / 256 = omega (arith, m, byte (p + 1 + 1) (omega arith)) in
        let b : get_or s (p + 1 + 1) 0 ≡ length (part s (p + 3) n) % 256 = omega (arith, m, byte (p + 1 + 1) (omega arith)) in
        let z : p + 1 + 1 + 1 ≡ p + 3 = omega arith in
        let y : p + 3 + n ≡ p + (3 + n) = omega arith in
        let v : drop (p + 3) s ≡ part s (p + 3) n ++ drop (p + (3 + n)) s = sym (take-append-drop n (drop (p + 3) s)) ∙ ap (λ (t : List ℕ). part s (p + 3) n ++ t) (drop-drop n (p + 3) s ∙ ap (λ (k : ℕ). drop k s) y) in
        let c : drop p s ≡ get_or s p 0 ∷ get_or s (p + 1) 0 ∷ get_or s (p + 1 + 1) 0 ∷ drop (p + 3) s =
        c0 ∙ ap (λ (t : List ℕ). get_or s p 0 ∷ t) (c1 ∙ ap (λ (t : List ℕ). get_or s (p + 1) 0 ∷ t) (c2 ∙ ap (λ (k : ℕ). get_or s (p + 1 + 1) 0 ∷ drop k s) z)) in
        c ∙ (λ i. get_or s p 0 ∷ a i ∷ b i ∷ v i)

    here_reads : tagged.dec (drop (8 * p) (bits_of s)) ≡ got (field_here s p n) (drop (8 * (p + (3 + n))) (bits_of s))
    here_reads =
        let f : Field = field_here s p n in
        let b : drop (8 * p) (bits_of s) ≡ tagged.enc f ++ drop (8 * (p + (3 + n))) (bits_of s) =
        sym (bits_drop p s) ∙ ap bits_of here_stands ∙ bits_append (field_bytes f) (drop (p + (3 + n)) s)
        ∙ rw (← (field_spells f here_fits).bits, bits_drop (p + (3 + n)) s) in
        ap tagged.dec b ∙ tagged.there f (drop (8 * (p + (3 + n))) (bits_of s)) (fits_in f here_fits)

-- ---- a field that is cut

tagged_refuses : Refuses (λ e. e ≡ bad_sheet) tagged.dec
unfolding tagged
tagged_refuses = search refusing depth 12

-- what is read of it is refused, where no field fits what is there
no_field : (s : List ℕ) → All Byte s → (p : ℕ) → p ≤ length s
    → ((f : Field) (r : Bits) → FitsField f → p + (3 + length f.value) ≤ length s → take (3 + length f.value) (drop p s) ≡ field_bytes f → ⊥)
    → ((l : ℕ) × (tagged.dec (drop (8 * p) (bits_of s)) ≡ refused bad_sheet l))
no_field s bytes p i k = go (tagged.dec (drop (8 * p) (bits_of s))) refl (tagged_refuses.at (drop (8 * p) (bits_of s)))
  where
    go : (o : Read Bool Field) → tagged.dec (drop (8 * p) (bits_of s)) ≡ o → Refusal (AtMost (λ e. e ≡ bad_sheet) (length (drop (8 * p) (bits_of s)))) o
        → ((l : ℕ) × (tagged.dec (drop (8 * p) (bits_of s)) ≡ refused bad_sheet l))
    go (got f r) e _ =
        let (h, b) = tagged.back (drop (8 * p) (bits_of s)) f r e in
        let fits = fits_out f h in
        let w = field_spells f fits in
        let t = front s p (field_bytes f) r bytes w.bytes i (b ∙ ap (λ (x : Bits). x ++ r) w.bits) in
        absurd (k f r fits (rw (← field_long f) t.within) (rw (← field_long f) t.is))
    go (refused x l) e (by q) = (l, e ∙ ap (λ (n : ℕ). refused n l) q.0)

module _ (s : List ℕ) (bytes : All Byte s) (p : ℕ) (i : p ≤ length s) where
  pub cut_start : length s - p < 3 → ((l : ℕ) × (tagged.dec (drop (8 * p) (bits_of s)) ≡ refused bad_sheet l))
  cut_start l = no_field s bytes p i (λ f r h w e. absurd (omega (arith, w)))

  pub cut_value : (n : ℕ) → n ≡ get_or s (p + 1) 0 * 256 + get_or s (p + 1 + 1) 0 → length s - p - 3 < n → ((l : ℕ) × (tagged.dec (drop (8 * p) (bits_of s)) ≡ refused bad_sheet l))
  cut_value n e l =
      no_field s bytes p i λ f r h w z.
      let m : ℕ = length f.value in
      let at : (k : ℕ) → k < 3 → get_or s (p + k) 0 ≡ get_or (field_bytes f) k 0 = λ k j. sym (get_or-drop p s k 0) ∙ sym (get_or-take (3 + m) (drop p s) k 0 (omega arith)) ∙ ap (λ (x : List ℕ). get_or x k 0) z in
      let y : p + 1 + 1 ≡ p + 2 = omega arith in
      let a : get_or s (p + 1) 0 ≡ m / 256 = at 1 (omega arith) in
      let b : get_or s (p + 1 + 1) 0 ≡ m % 256 = ap (λ (k : ℕ). get_or s k 0) y ∙ at 2 (omega arith) in
      omega (arith, e, a, b, w, l)

-- ---- a loop over the fields: those before byte p are done

pub record Going (s : List ℕ) (p : ℕ) : Type 0 where
  pub done : List Field
  pub fuel : ℕ
  pub enough : length s - p ≤ fuel
  pub before : take p s ≡ joined field_bytes done
  pub fits : All FitsField done
  pub reads : keeping (λ xs. done ++ xs) (fill_dec tagged bad_sheet fuel (drop (8 * p) (bits_of s))) ≡ fields.dec (bits_of s)
  pub within : p ≤ length s

pub going_first : (s : List ℕ) → Going s 0
unfolding fields
going_first s =
    record {
      done = [];
      fuel = length (bits_of s);
      enough = omega (arith, length_bits_of s);
      before = refl;
      fits = tt;
      reads = keeping_none (fill_dec tagged bad_sheet (length (bits_of s)) (bits_of s));
      within = omega arith;
    }

module _ {s : List ℕ} (bytes : All Byte s) {p : ℕ} (g : Going s p) (l : p < length s) where
  pub going_on : (n : ℕ) → n ≡ get_or s (p + 1) 0 * 256 + get_or s (p + 1 + 1) 0 → p + 3 + n ≤ length s → Going s (p + (3 + n))
  going_on n e w =
      let f : Field = field_here s p n in
      let z : g.fuel - 0 ≡ g.fuel = omega arith in
      let t = fill_turn tagged bad_sheet g.fuel 0 (drop (8 * p) (bits_of s)) (λ xs. g.done ++ xs) (omega (arith, g.enough)) (some_left s (8 * p) (omega arith)) (here_reads s bytes p n e w) in
      let y : 3 + n ≡ length (field_bytes f) = omega (arith, part_length s (p + 3) n w) in
      record {
        done = g.done ++ f ∷ [];
        fuel = g.fuel - (0 + 1);
        enough = omega (arith, g.enough);
        before = take-add p (3 + n) s ∙ rw (g.before, here_stands s bytes p n e w, take_at (field_bytes f) (drop (p + (3 + n)) s) (3 + n) (sym y)) (sym (joined_snoc field_bytes g.done f));
        fits = all_append FitsField g.done (f ∷ []) g.fits (here_fits s bytes p n e w, tt);
        reads = keeping_same (λ xs. (g.done ++ f ∷ []) ++ xs) (λ xs. g.done ++ (f ∷ xs)) (fill_dec tagged bad_sheet (g.fuel - (0 + 1)) (drop (8 * (p + (3 + n))) (bits_of s))) (λ xs. append_snoc g.done f xs) ∙ sym t ∙ ap (λ (k : ℕ). keeping (λ xs. g.done ++ xs) (fill_dec tagged bad_sheet k (drop (8 * p) (bits_of s)))) z ∙ g.reads;
        within = omega arith;
      }

  pub going_stops : ((m : ℕ) × (tagged.dec (drop (8 * p) (bits_of s)) ≡ refused bad_sheet m)) → NoFields s
  going_stops (m, e) =
      let z : g.fuel - 0 ≡ g.fuel = omega arith in
      let t : fill_dec tagged bad_sheet g.fuel (drop (8 * p) (bits_of s)) ≡ refused bad_sheet m =
      ap (λ (k : ℕ). fill_dec tagged bad_sheet k (drop (8 * p) (bits_of s))) (sym z) ∙ fill_stop tagged bad_sheet g.fuel 0 (drop (8 * p) (bits_of s)) (omega (arith, g.enough)) (some_left s (8 * p) (omega arith)) e in
      record { left = m; refuses = sym g.reads ∙ ap (keeping (λ xs. g.done ++ xs)) t }

pub going_all : {s : List ℕ} {p : ℕ} → Going s p → length s ≤ p → Fields s
going_all {s} {p} g l =
    let t = fill_done tagged bad_sheet g.fuel (drop (8 * p) (bits_of s)) (drop_end s (8 * p) (omega arith)) in
    record {
      value = g.done;
      reads = sym g.reads ∙ ap (keeping (λ xs. g.done ++ xs)) t ∙ ap (λ (xs : List Field). got xs []) (append-nil g.done);
      stand = record { is = sym (take_all p s l) ∙ g.before; fits = g.fits; within = omega arith };
    }

-- ---- the fields that stand from byte p on, as code goes over them

module _ {s : List ℕ} {p : ℕ} {f : Field} {fs : List Field} (h : FieldsAt s p (f ∷ fs)) where
  -- the next starts behind its value
  pub field_there : p + (3 + length f.value) ≤ length s
  field_there =
      let l : length s - p ≡ length (field_bytes f ++ joined field_bytes fs) = sym (length-drop p s) ∙ ap length h.is in
      omega (arith, l, length-append (field_bytes f) (joined field_bytes fs), field_long f, h.within)

  at_byte : (k : ℕ) → get_or s (p + k) 0 ≡ get_or (field_bytes f ++ joined field_bytes fs) k 0
  at_byte k = sym (get_or-drop p s k 0) ∙ ap (λ (x : List ℕ). get_or x k 0) h.is

  pub its_tag : get_or s p 0 ≡ f.tag
  its_tag = let z : p + 0 ≡ p = omega arith in ap (λ (k : ℕ). get_or s k 0) (sym z) ∙ at_byte 0

  pub its_size : get_or s (p + 1) 0 * 256 + get_or s (p + 1 + 1) 0 ≡ length f.value
  its_size =
      let z : p + 1 + 1 ≡ p + 2 = omega arith in
      let a : get_or s (p + 1) 0 ≡ length f.value / 256 = at_byte 1 in
      let b : get_or s (p + 1 + 1) 0 ≡ length f.value % 256 = ap (λ (k : ℕ). get_or s k 0) z ∙ at_byte 2 in
      omega (arith, a, b)

  pub its_value : part s (p + 3) (length f.value) ≡ f.value
  its_value =
      let d : drop (p + 3) s ≡ f.value ++ joined field_bytes fs = sym (drop-drop 3 p s) ∙ ap (drop 3) h.is in
      ap (take (length f.value)) d ∙ take_at f.value (joined field_bytes fs) (length f.value) refl

  pub fields_behind : FieldsAt s (p + (3 + length f.value)) fs
  fields_behind =
      record {
        is = sym (drop-drop (3 + length f.value) p s) ∙ ap (drop (3 + length f.value)) h.is ∙ drop_at (field_bytes f) (joined field_bytes fs) (3 + length f.value) (field_long f);
        fits = h.fits.1;
        within = field_there;
      }

-- there is a field exactly where bytes are left
pub no_fields : {s : List ℕ} {p : ℕ} {fs : List Field} → FieldsAt s p fs → length s ≤ p → fs ≡ []
no_fields {fs = []} h l = refl
no_fields {fs = f ∷ fs} h l = absurd (omega (arith, field_there h))

pub some_fields : {P : Type 0} {s : List ℕ} {p : ℕ} {fs : List Field} → FieldsAt s p fs → p < length s → ((f : Field) (gs : List Field) → fs ≡ f ∷ gs → P) → P
some_fields {s = s} {p = p} {fs = []} h l k =
    let z : length s - p ≡ 0 = sym (length-drop p s) ∙ ap length h.is in
    absurd (omega arith)
some_fields {fs = f ∷ fs} h l k = k f fs refl
