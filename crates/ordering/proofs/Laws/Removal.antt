-- A removal on a view that is found: its own tests, by what code sees of the view's blocks; and the removal carried out.
use mathlib.Core.Path.{◌≡◌, refl, sym, ap, ◌∙◌, subst}
use Prim.Native.Nat.{ℕ}
use native.Mathlib.Omega.{arith}
use mathlib.Core.Bool.{Bool, true, false, not}
use mathlib.Core.List.{List, [], ◌∷◌}
use lib.ListN.{length}
use lib.Dec.{T}
use Rattle.outcome.specs.Refusals.{bad_lines, extended, bad_pores}
use Rattle.outcome.specs.Outcome.{refused, Answers}
use Rattle.std.specs.Prelude.{Result}
use Rattle.outcome.specs.Why.{answer_of}
use Rattle.outcome.specs.declared.refusal.Refused.{Refused}
use Rattle.format.specs.Record.{Record}
use Rattle.format.specs.View.{View}
use Rattle.format.specs.Places.{view_at, count}
use Rattle.format.specs.declared.ViewName.{ViewName}
use Rattle.pores.specs.Keep.{all_pores_right}
use Rattle.orders.specs.Listed.{removal_lines}
use Rattle.orders.specs.Act.{Act, remove}
use Rattle.orders.specs.Order.{Order, edited, lines_ok, all_carried, tests, order, Pass}
use Rattle.orders.specs.Called.{removal_order}
use Rattle.orders.proofs.Laws.Keep.{order_keeps}
use Rattle.order_removal.specs.Rank.{Rising}
use Rattle.order_removal.proofs.Laws.Listed.{lines_rise}
use Rattle.find_parts.specs.declared.site.Site.{Site}
use Rattle.find_parts.proofs.Laws.Blocks.{cut}
use Rattle.order_segments.specs.Kinds.{KindsSeen, PoresSeen}
use Rattle.order_record.specs.Rebuilt.{new_record, Placed}
use Rattle.order_record.proofs.Laws.Acts.{removal_keeps, record_removed}
use Rattle.order_view.specs.Named.{Named}
use Rattle.order_carry.specs.Carried.{held_to, CarriedOut}
use Rattle.order_carry.proofs.Laws.Ordered.{order_answers}
use Rattle.ordering.proofs.Laws.View.{counted, allowed, right, few, own_refused}

module _ {s : List ℕ} {view : ViewName} {n : ℕ} {x : Site} (F : Named s view n x) (lines : List ℕ) where
  abbrev v : View
  v = view_at F.value F.place

  abbrev act : Act
  act = remove (removal_lines lines)

  -- ---- the removal's own tests

  pub bad_lines_lem : lines_ok n (removal_lines lines) ≡ false → order (removal_order view n lines) s ≡ refused bad_lines 0
  unfolding tests
  bad_lines_lem e = own_refused F act [] (lines_ok (count v) (removal_lines lines)) bad_lines _ refl tt (rw (counted F, e) tt) (omega arith)

  module _ (e : lines_ok n (removal_lines lines) ≡ true) where
    good : T (lines_ok (count v) (removal_lines lines))
    good = rw (counted F, e) tt

    rises : Rising lines
    rises = (lines_rise n lines e).0

    -- what code has seen of the types of the segments
    module _ {seen : Bool} (K : KindsSeen (cut s x.extended.from x.extended.to) seen) where
      seen_is : seen ≡ all_carried v.segments
      seen_is = K.is v.segments [] F.at.segments.value

      pub other_type : seen ≡ false → order (removal_order view n lines) s ≡ refused extended 0
      unfolding tests
      other_type q =
          own_refused F act ((lines_ok (count v) (removal_lines lines), bad_lines) ∷ []) (all_carried v.segments) extended _ refl (good, tt)
          (subst (λ (b : Bool). T (not b)) (sym q ∙ seen_is) tt) (omega arith)

      -- and of its pores
      module _ (q : seen ≡ true) {ok : Bool} (P : PoresSeen (cut s x.extended.from x.extended.to) n ok) where
        kinds : T (all_carried v.segments)
        kinds = subst T (sym q ∙ seen_is) tt

        ok_is : ok ≡ all_pores_right (count v) v.segments
        ok_is = P.is v.segments [] F.at.segments.value ∙ ap (λ (m : ℕ). all_pores_right m v.segments) (sym (counted F))

        pub bad_pores_lem : ok ≡ false → order (removal_order view n lines) s ≡ refused bad_pores 0
        unfolding tests
        bad_pores_lem y =
            own_refused F act ((lines_ok (count v) (removal_lines lines), bad_lines) ∷ (all_carried v.segments, extended) ∷ []) (all_pores_right (count v) v.segments) bad_pores [] refl (good, (kinds, tt))
            (subst (λ (b : Bool). T (not b)) (sym y ∙ ok_is) tt) (omega arith)

        -- ---- carried out

        module _ (y : ok ≡ true) where
          passes : Pass (tests act v)
          unfolding tests
          passes = (good, (kinds, (subst T (sym y ∙ ok_is) tt, tt)))

          pub removal_placed : Placed s x [] lines
          removal_placed =
              record {
                value = F.value;
                reads = F.reads;
                place = F.place;
                at = F.at;
                rising = rises;
                keeps = removal_keeps lines rises v (right F) (few F) passes;
                right = λ d. rw F.at.count (subst T (sym y ∙ ok_is) tt);
              }

          pub removal_done : {before after : List ℕ} {a : Result ℕ Refused} → CarriedOut s x [] lines 0 before after a → Answers (order (removal_order view n lines) s) before after (answer_of a)
          removal_done {before} {after} {a} C =
              let o : Order = removal_order view n lines in
              let z : new_record lines [] F.place F.value ≡ edited F.place act F.value = record_removed F.place lines F.value rises (right F) in
              let h = C.is F.value F.place F.reads F.at (λ l. rw z (order_keeps o F.place F.value (allowed F) (record { means = F.means; count = counted F; passes = passes; small = rw z at l }))) in
              order_answers o s F.reads F.means (counted F) passes (subst (λ (r : Record). Answers (held_to 0 (length before) r) before after (answer_of a)) z h)
