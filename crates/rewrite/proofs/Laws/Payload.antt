-- The two calls on payloads of any format: what each gives of a segment that is there. So they give each other back: rewriting what was
-- read gives the record back, and reading what was rewritten gives the elements. What is rewritten is the payload and three lengths.
use mathlib.Core.Path.{◌≡◌, refl, sym, ap, ◌∙◌}
use mathlib.Core.Logic.{◌≢◌}
use Prim.Native.Nat.{ℕ, ◌≤◌, ◌<◌}
use native.Mathlib.Omega.{arith}
use mathlib.Core.Option.{Option, none, some}
use mathlib.Core.List.{List, []}
use lib.ListN.{length}
use lib.Dec.{eqb, eqb→eq}
use mir.Facts.{yes_eqb, no_eqb}
use Rattle.bits.specs.ChoiceLaws.{pick_yes, pick_no, pick_split}
use Rattle.bits.specs.Lists.{All}
use Rattle.bits.specs.Bits.{Bits}
use Rattle.bits.specs.Bytes.{Byte}
use Rattle.bits.specs.Codec.{got}
use Rattle.outcome.specs.Outcome.{Outcome, refused, given}
use Rattle.outcome.proofs.Laws.{not_given}
use Rattle.format.specs.Limits.{most_bytes}
use Rattle.format.specs.View.{View}
use Rattle.format.specs.Record.{Record, read, write, size, Allowed}
use Rattle.format.specs.Places.{view_at, segment_at}
use Rattle.format.specs.Named.{Means}
use Rattle.format.specs.Call.{on_segment}
use Rattle.format.specs.declared.ViewName.{ViewName}
use Rattle.format.proofs.Laws.Record.{read_is, read_back, read_there}
use Rattle.format.proofs.Laws.Call.{on_segment_lem, given_segment, own_segment}
use Rattle.rewrite.specs.Rewrite.{with_payload, rewritten, rewriting}
use Rattle.rewrite.specs.Bytes.{Rewrites}
use Rattle.rewrite.specs.Format.{Frame, frame_of, PayloadFormat}
use Rattle.rewrite.specs.Called.{values_given, read_of, read_in, read_payload, values_set, set_in, set_payload}
use Rattle.rewrite.specs.Accepted.{SegmentThere, its_view, its_segment, new_record}
use Rattle.rewrite.proofs.Laws.Record.{segment_fits, rewritten_means, rewritten_view, as_many, segment_is, rewritten_allowed, rewriting_given, given_rewriting, rewritten_same}
use Rattle.rewrite.proofs.Laws.Kept.{rewrites}

-- ---- a segment that is there

module _ {view : ViewName} {place : ℕ} {bytes : List ℕ} (t : SegmentThere view place bytes) where
  there_allowed : Allowed t.value
  there_allowed = (read_is bytes t.value [] t.reads).0

  pub there_bytes : All Byte (its_segment t).payload
  there_bytes = (segment_fits t.i place t.value t.means.there t.there there_allowed).payload

  -- a call on it has its own outcome
  there_is : (f : ℕ → Record → Outcome ℕ) → on_segment view place f bytes ≡ f t.i t.value
  there_is f = on_segment_lem view place f bytes t.reads t.means t.there

module _ (view : ViewName) (place : ℕ) (f : ℕ → Record → Outcome ℕ) (bytes : List ℕ) where
  abbrev there : (r : Record) {rest : Bits} (i : ℕ) → read bytes ≡ got r rest → Means view r i → place < length (view_at r i).segments → SegmentThere view place bytes
  there r {rest} i e m k = record { value = r; reads = e ∙ ap (got r) (read_is bytes r rest e).3; i = i; means = m; there = k }

  -- where something is given, the segment is there
  given_there : {P : Type 0} (xs : List ℕ) → on_segment view place f bytes ≡ given xs
      → ((t : SegmentThere view place bytes) → f t.i t.value ≡ given xs → P) → P
  given_there xs h k = given_segment view place f bytes xs h λ r rest i e m l g. k (there r i e m l) g

  -- and so it is where the number is above those of every call on a segment
  pub own_there : (e p : ℕ) → 24 ≤ e → on_segment view place f bytes ≡ refused e p → SegmentThere view place bytes
  own_there e p l h = own_segment view place f bytes e p (omega arith) (λ y. absurd (omega arith)) h λ r rest i q m k g. there r i q m k

module _ {A : Type 0} (F : PayloadFormat A) where
  -- ---- the outcome of a segment that is there

  module _ {view : ViewName} {place : ℕ} {bytes : List ℕ} (t : SegmentThere view place bytes) where
    module _ (k : (its_segment t).kind ≡ F.kind) where
      pub reading_is : read_payload F view place bytes ≡ values_given F (F.says (frame_of (its_view t)) (its_segment t).payload)
      unfolding read_payload
      reading_is = there_is t (read_in F place) ∙ pick_yes (eqb (its_segment t).kind F.kind) _ _ (yes_eqb k)

      -- its payload is that of right values
      pub reading_gives : {a : A} → F.Right (frame_of (its_view t)) a → (its_segment t).payload ≡ F.payload (frame_of (its_view t)) a
          → read_payload F view place bytes ≡ given (F.elements a)
      reading_gives {a} r e =
          reading_is ∙ ap (λ (p : List ℕ). values_given F (F.says (frame_of (its_view t)) p)) e ∙ ap (values_given F) (F.there (frame_of (its_view t)) a r)

      pub setting_is : (values : List ℕ) → set_payload F view place values bytes ≡ values_set F place t.i t.value (F.lent (frame_of (its_view t)) values)
      unfolding set_payload
      setting_is values = there_is t (set_in F place values) ∙ pick_yes (eqb (its_segment t).kind F.kind) _ _ (yes_eqb k)

      -- what is lent says right values
      pub setting_says : {values : List ℕ} {a : A} → F.lent (frame_of (its_view t)) values ≡ some a
          → set_payload F view place values bytes ≡ rewriting t.i place (F.payload (frame_of (its_view t)) a) t.value
      setting_says {values} e = setting_is values ∙ ap (values_set F place t.i t.value) e

    -- it has another type
    module _ (k : (its_segment t).kind ≢ F.kind) where
      pub reading_other : read_payload F view place bytes ≡ refused F.bad 0
      unfolding read_payload
      reading_other = there_is t (read_in F place) ∙ pick_no (eqb (its_segment t).kind F.kind) _ _ (no_eqb k)

      pub setting_other : (values : List ℕ) → set_payload F view place values bytes ≡ refused F.bad 0
      unfolding set_payload
      setting_other values = there_is t (set_in F place values) ∙ pick_no (eqb (its_segment t).kind F.kind) _ _ (no_eqb k)

  -- ---- what is known where something is given: of the payload that was read, and of the record that was rewritten

  values_given_lem : (o : Option A) (xs : List ℕ) → values_given F o ≡ given xs → (a : A) × (o ≡ some a) × (F.elements a ≡ xs)
  values_given_lem none xs h = not_given h
  values_given_lem (some a) xs h = let e : F.elements a ≡ xs = cc in (a, refl, e)

  values_set_lem : (place i : ℕ) (r : Record) (o : Option A) (new : List ℕ) → values_set F place i r o ≡ given new
      → (a : A) × (o ≡ some a) × (rewriting i place (F.payload (frame_of (view_at r i)) a) r ≡ given new)
  values_set_lem place i r none new h = not_given h
  values_set_lem place i r (some a) new h = (a, refl, h)

  pub read_given : {P : Type 0} (view : ViewName) (place : ℕ) (bytes xs : List ℕ) → read_payload F view place bytes ≡ given xs
      → ((t : SegmentThere view place bytes) (a : A) → (its_segment t).kind ≡ F.kind → F.Right (frame_of (its_view t)) a
      → (its_segment t).payload ≡ F.payload (frame_of (its_view t)) a → F.elements a ≡ xs → P) → P
  unfolding read_payload
  read_given view place bytes xs h f =
      given_there view place (read_in F place) bytes xs h λ t g.
      pick_split (eqb (its_segment t).kind F.kind) _ _ g
      (λ k q. let (a, d, e) = values_given_lem (F.says (frame_of (its_view t)) (its_segment t).payload) xs q in
      let (right, p) = F.back (frame_of (its_view t)) (its_segment t).payload a (there_bytes t) d in
      f t a (eqb→eq (its_segment t).kind F.kind k) right p e)
      (λ k q. not_given q)

  pub set_given : {P : Type 0} (view : ViewName) (place : ℕ) (values bytes new : List ℕ) → set_payload F view place values bytes ≡ given new
      → ((t : SegmentThere view place bytes) (a : A) → (its_segment t).kind ≡ F.kind → F.lent (frame_of (its_view t)) values ≡ some a
      → Allowed (new_record F t a) → new ≡ write (new_record F t a) → P) → P
  unfolding set_payload
  set_given view place values bytes new h f =
      given_there view place (set_in F place values) bytes new h λ t g.
      pick_split (eqb (its_segment t).kind F.kind) _ _ g
      (λ k q. let (a, d, e) = values_set_lem place t.i t.value (F.lent (frame_of (its_view t)) values) new q in
      let p : List ℕ = F.payload (frame_of (its_view t)) a in
      let (small, n) = rewriting_given t.i place p t.value new e in
      let ok = rewritten_allowed t.i place p t.value t.means.there t.there (F.bytes (frame_of (its_view t)) a) small (there_allowed t) in
      f t a (eqb→eq (its_segment t).kind F.kind k) d ok n)
      (λ k q. not_given q)

  -- ---- there and back

  -- rewriting what was read
  pub set_after_read : (view : ViewName) (place : ℕ) (xs bytes : List ℕ) → All Byte bytes → read_payload F view place bytes ≡ given xs
      → set_payload F view place (F.in_bytes xs) bytes ≡ given bytes
  set_after_read view place xs bytes b h =
      read_given view place bytes xs h λ t a k right p e.
      let f : Frame = frame_of (its_view t) in
      let (ok, w, _) = read_back bytes t.value [] b t.reads in
      let same : new_record F t a ≡ t.value = ap (λ (q : List ℕ). rewritten t.i place q t.value) (sym p) ∙ rewritten_same t.i place t.value in
      let small : size (new_record F t a) ≤ most_bytes = rw same ok.small in
      let l : F.lent f (F.in_bytes xs) ≡ some a = ap (λ (ys : List ℕ). F.lent f (F.in_bytes ys)) (sym e) ∙ F.lent_there f a right in
      setting_says t k l ∙ given_rewriting t.i place (F.payload f a) t.value small ∙ ap given (ap write same ∙ sym w)

  -- where it says anything, what is lent is the bytes of the elements of right values: bytes are, by the format's own law (`lent_back`)
  abbrev pub LentRight : List ℕ → Type 0
  LentRight values = (f : Frame) (a : A) → F.lent f values ≡ some a → F.Right f a × (values ≡ F.in_bytes (F.elements a))

  -- reading what was rewritten
  pub read_after_set : (view : ViewName) (place : ℕ) (values bytes new : List ℕ) → LentRight values → set_payload F view place values bytes ≡ given new
      → (xs : List ℕ) × (values ≡ F.in_bytes xs) × (read_payload F view place new ≡ given xs)
  unfolding read_payload
  read_after_set view place values bytes new back h =
      set_given view place values bytes new h λ t a k l ok n.
      let f : Frame = frame_of (its_view t) in
      let (right, e) = back f a l in
      let p : List ℕ = F.payload f a in
      let v : view_at (new_record F t a) t.i ≡ with_payload place p (its_view t) = rewritten_view t.i place p t.value t.means.there in
      let there : place < length (view_at (new_record F t a) t.i).segments = rw v (omega (arith, as_many t.i place p t.value, t.there)) in
      let g : read_of F f (segment_at (with_payload place p (its_view t)) place) ≡ given (F.elements a) =
      ap (read_of F f) (segment_is t.i place p t.value t.there) ∙ pick_yes (eqb (its_segment t).kind F.kind) _ _ (yes_eqb k) ∙ ap (values_given F) (F.there f a right) in
      let q : read_payload F view place new ≡ given (F.elements a) =
      on_segment_lem view place (read_in F place) new (ap read n ∙ read_there (new_record F t a) ok) (rewritten_means t.i place p t.value view t.means) there
      ∙ ap (λ (u : View). read_of F (frame_of u) (segment_at u place)) v ∙ g in
      (F.elements a, e, q)

  -- and nothing else of the record is another
  pub set_rewrites : {P : Type 0} (view : ViewName) (place : ℕ) (values bytes new : List ℕ) → All Byte bytes → set_payload F view place values bytes ≡ given new
      → ((r : Record) (i : ℕ) (a : A) → read bytes ≡ got r [] → Means view r i → F.lent (frame_of (view_at r i)) values ≡ some a
      → Rewrites i place (F.payload (frame_of (view_at r i)) a) r bytes new → P) → P
  set_rewrites view place values bytes new b h f =
      set_given view place values bytes new h λ t a k l ok n.
      f t.value t.i a t.reads t.means l
      (rw n (rewrites t.i place (F.payload (frame_of (its_view t)) a) t.value t.means.there t.there b t.reads ok))
