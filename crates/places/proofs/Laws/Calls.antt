-- What the place of an answer shows, whatever the call does with an accepted record: its own refusals are none of 2 to 12, so that
-- these are the record's.
use mathlib.Core.Path.{◌≡◌, refl, sym, ap, subst, ◌∙◌}
use Prim.Native.Nat.{ℕ, ◌+◌, ◌-◌, ◌*◌}
use native.Mathlib.Omega.{arith}
use mathlib.Core.Bool.{Bool, not}
use mathlib.Core.List.{List}
use lib.ListN.{length}
use lib.Dec.{T}
use mir.Facts.{T_not}
use Rattle.bits.specs.Choice.{within}
use Rattle.bits.specs.Codec.{Read}
use Rattle.bits.specs.Codec as C
use Rattle.outcome.specs.Outcome.{Outcome, refused, given, room, number_of, place_of, AnswersAs, told}
use Rattle.outcome.specs.declared.Answer.{Answer}
use Rattle.outcome.proofs.Refusing.{Refused, room_refused, refused_shown}
use Rattle.format.specs.Record.{Record, read}
use Rattle.format.specs.Call.{from_read, on_record}
use Rattle.places.specs.Reach.{reach, Agree, AnsweredAlike}
use Rattle.places.proofs.Laws.Place.{read_alike}

-- none of 2 to 12, whatever the place
abbrev pub Other : ℕ → ℕ → Type 0
Other e p = T (not (within 2 12 e))

-- no refusal of a call's own is
abbrev pub Own : {A : Type 0} → Outcome A → Type 0
Own o = Refused Other o

-- ---- what an answer shows of an outcome

pub record Shows {A : Type 0} (o : Outcome A) (x : Answer) : Type 0 where
  pub refusal : (e p : ℕ) → o ≡ refused e p → (x.number ≡ e) × (x.place ≡ p)
  pub own : Own o → T (not (within 2 12 x.number))

-- a call that writes
pub answer_shows : {A B : Type 0} {form : List A → List B} {lent : ℕ} {o : Outcome A} {before after : List B} {x : Answer}
    → AnswersAs form lent o before after x → Shows o x
answer_shows {lent = lent} {o = o} h =
    record {
      refusal = λ e p q. (h.number ∙ ap (λ z. number_of (room lent z)) q, h.place ∙ ap (λ z. place_of (room lent z)) q);
      own = λ k. rw h.number (refused_shown Other tt (room lent o) (room_refused Other tt lent o k));
    }

-- a call that says where something stands
pub told_shows : {A : Type 0} (p : ℕ) (o : Outcome A) {x : Answer} → x ≡ told p o → Shows o x
told_shows {A} p o {x} h =
    record {
      refusal = λ e q z. let y = h ∙ ap (told p) z in (ap (λ (a : Answer). a.number) y, ap (λ (a : Answer). a.place) y);
      own = λ k. rw h (go o k);
    }
  where
    go : (o : Outcome A) → Own o → T (not (within 2 12 (told p o).number))
    go (refused e q) k = k
    go (given xs) k = tt

-- ---- two answers of one call; f is what it does with an accepted record

pub answered_alike : {A : Type 0} (f : Record → Outcome A) → ((r : Record) → Own (f r)) → (a b : List ℕ) {x y : Answer}
    → Shows (on_record f a) x → Shows (on_record f b) y → T (within 2 12 x.number) → Agree (x.place + reach x.number) a b → AnsweredAlike x y
unfolding on_record
answered_alike {A} f own a b {x} {y} X Y t same = go (read a) refl
  where
    go : (o : Read Bool Record) → read a ≡ o → AnsweredAlike x y
    go (C.got r rest) e = absurd (T_not (within 2 12 x.number) t (X.own (subst Own (sym (ap (from_read (8 * length a) f) e)) (own r))))
    go (C.refused n left) e =
        let (i, j) = X.refusal n (8 * length a - left) (ap (from_read (8 * length a) f) e) in
        let h = read_alike a b n left e (rw (i, j) at same) in
        let (k, l) = Y.refusal n (8 * length b - h.rest) (ap (from_read (8 * length b) f) h.is) in
        record {
          number = k ∙ sym i;
          later = omega (arith, j, l, h.later, same.long);
          same = λ z. let m = h.same (λ y. z (i ∙ y)) in omega (arith, j, l, m, same.long);
        }
