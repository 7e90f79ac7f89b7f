-- A view at byte a, and the views of a record, as the judge's loop reads them: what each early way out says of the view, and what a
-- turn of the loop keeps.
use mathlib.Core.Path.{◌≡◌, refl, sym, ap, ◌∙◌, subst}
use Prim.Native.Nat.{ℕ, ◌+◌, ◌-◌, ◌*◌, ◌≤◌, ◌<◌}
use native.Mathlib.Omega.{arith}
use mathlib.Core.Bool.{Bool}
use mathlib.Core.Option.{Option}
use mathlib.Core.List.{List, [], ◌∷◌}
use lib.ListN.{length, take, drop, get_or, set, replicate}
use Rattle.bits.specs.Bits.{Bits}
use Rattle.bits.specs.Bytes.{bits_of}
use Rattle.bits.specs.Codec.{Codec, got, refused, along_dec}
use Rattle.bits.specs.Block.{zeros_dec}
use Rattle.bits.specs.CodecLaws.{then}
use Rattle.bits.specs.SizedLaws.{sized, headed, prefixed}
use Rattle.bits.specs.Lists.{total}
use Rattle.bits.specs.Reads.{found, fault, Reads, keeping, summed}
use Rattle.bits.proofs.Laws.Reads.{go_on, stop, made, unkept, unkept_bad, up_to}
use Rattle.bits.proofs.Laws.Loops.{sum_more, sum_start, along_turn, along_stop, along_done}
use Rattle.bits.proofs.Laws.Parts.{part, part_length, sized_good, sized_bad, sized_past}
use Rattle.outcome.specs.Refusals.{past, bad_line}
use Rattle.format.specs.Line.{Line, skeleton}
use Rattle.format.specs.Index.{Index, index_block}
use Rattle.format.specs.Segments.{Segment, segments}
use Rattle.format.specs.View.{View, view, view_header, occurs}
use Rattle.format.specs.Record.{views, tell_seen}
use Rattle.format.specs.SheetSize.{line_size, index_size, view_size}
use Rattle.format.specs.declared.Widths.{Widths}
use Rattle.format.specs.declared.ViewHeader.{ViewHeader}
use Rattle.judge_heads.specs.Answers.{head_dec, Seen}
use Rattle.judge_heads.proofs.Laws.Seen.{seen_start, seen_more, seen_le}
use Rattle.judge_blocks.specs.Answers.{index_at_dec, segments_at_dec}
use Rattle.judge_views.proofs.Laws.Bounds.{index_small_lem, segments_small}
use Rattle.judge_views.proofs.Laws.Head.{head_seen, position_le}
use Rattle.judge_views.proofs.Laws.Line.{Lines, lines_dirt, lines_done}
use Rattle.judge_views.specs.Views.{views_dec}

-- ---- a view, behind others whose positions are ps

module _ (w : Widths) (ps : List ℕ) (s : List ℕ) (a : ℕ) where
  abbrev before : ℕ → ℕ
  before p = occurs p ps

  pub no_head : {e q : ℕ} → Reads (view_header before).dec s (8 * a) (fault e q) → Reads (view w ps).dec s (8 * a) (fault e q)
  unfolding view
  no_head h = made _ _ (stop _ _ (made _ _ (stop _ _ h)))

  module _ (h : ViewHeader) (n : ℕ) (H : Reads (view_header before).dec s (8 * a) (found (h, n) (8 * a + 80))) where
    head_is_lem : Reads (view_header before).dec s (8 * a) (found (h, n) (8 * (a + 10)))
    head_is_lem = up_to (omega arith) H

    abbrev block : ViewHeader × ℕ → Codec Bool (List Line)
    block t = sized (skeleton w) past t.1

    pub skeleton_past : a + 10 ≤ length s → length s - (a + 10) < n → Reads (view w ps).dec s (8 * a) (fault past (8 * (a + 10)))
    unfolding view
    skeleton_past i l = made _ _ (stop _ _ (made _ _ (go_on _ block head_is_lem (sized_past (skeleton w) past n (a + 10) s i l))))

    module _ (i : a + 10 + n ≤ length s) where
      pub skeleton_bad : {e q : ℕ} → q ≤ 8 * n → (skeleton w).dec (bits_of (part s (a + 10) n)) ≡ refused e (8 * n - q)
          → Reads (view w ps).dec s (8 * a) (fault e (8 * (a + 10) + q))
      unfolding view
      skeleton_bad k z = made _ _ (stop _ _ (made _ _ (go_on _ block head_is_lem (sized_bad (skeleton w) past n (a + 10) s i k z))))

      module _ (ls : List Line) (u : Bits) (m : ℕ) (l : length ls ≡ m) (z : (skeleton w).dec (bits_of (part s (a + 10) n)) ≡ got ls u) where
        lines_are : Reads (headed (view_header before) (skeleton w) past).dec s (8 * a) (found (h, ls) (8 * (a + 10 + n)))
        lines_are = made _ _ (go_on _ block head_is_lem (sized_good (skeleton w) past n (a + 10) s i z))

        abbrev rest : ViewHeader × List Line → Codec Bool (Option Index × List Segment)
        rest t = then (prefixed (index_block (length t.1)) past) λ _. prefixed segments past

        pub index_bad : {e q : ℕ} → Reads (index_at_dec m) s (8 * (a + 10 + n)) (fault e q) → Reads (view w ps).dec s (8 * a) (fault e q)
        unfolding view index_at_dec
        index_bad {e} {q} r =
            let x = subst (λ (k : ℕ). Reads (λ y. keeping index_size ((prefixed (index_block k) past).dec y)) s (8 * (a + 10 + n)) (fault e q)) (sym l) r in
            made _ _ (go_on _ rest lines_are (stop _ _ (unkept_bad _ x)))

        module _ (b c : ℕ) (r : Reads (index_at_dec m) s (8 * (a + 10 + n)) (found c (8 * b))) where
          index_is : {P : Type 0} → ((o : Option Index) → index_size o ≡ c → Reads (prefixed (index_block (length ls)) past).dec s (8 * (a + 10 + n)) (found o (8 * b)) → P) → P
          unfolding index_at_dec
          index_is f =
              let x = subst (λ (k : ℕ). Reads (λ y. keeping index_size ((prefixed (index_block k) past).dec y)) s (8 * (a + 10 + n)) (found c (8 * b))) (sym l) r in
              unkept _ x f

          pub segments_bad : {e q : ℕ} → Reads segments_at_dec s (8 * b) (fault e q) → Reads (view w ps).dec s (8 * a) (fault e q)
          unfolding view segments_at_dec
          segments_bad g = index_is λ o _ x. made _ _ (go_on _ rest lines_are (go_on _ _ x (unkept_bad _ g)))

          pub view_is : {P : Type 0} (d g : ℕ) → Reads segments_at_dec s (8 * b) (found g (8 * d))
              → ((v : View) → v.head ≡ h → view_size v ≡ 11 + total line_size ls + c + g → Reads (view w ps).dec s (8 * a) (found v (8 * d)) → P) → P
          unfolding view segments_at_dec
          view_is d g r2 f =
              index_is λ o eo x. unkept _ r2 λ ss es y.
              f _ refl (omega arith) (made _ _ (go_on _ rest lines_are (go_on _ _ x y)))

-- ---- the views of the record s: n in all, v read with z bytes in the sheet; `seen` counts those of each position, and the next is at byte a

pub record Views (w : Widths) (n : ℕ) (s seen : List ℕ) (v z a : ℕ) : Type 0 where
  pub positions : List ℕ
  pub counted : length positions ≡ v
  pub stand : Seen seen positions
  pub small : z ≤ 536870912 * v
  pub within : a ≤ length s
  pub is : summed view_size z (along_dec (view w) tell_seen (n - v) positions (drop (8 * a) (bits_of s))) ≡ views_dec w n (drop 192 (bits_of s))

pub views_start : (w : Widths) (n : ℕ) (s : List ℕ) → 24 ≤ length s → Views w n s (replicate 11 0) 0 0 24
unfolding views_dec views
views_start w n s i =
    let e : n - 0 ≡ n = omega arith in
    record { positions = []; counted = refl; stand = seen_start; small = omega arith; within = i; is = rw e (sum_start view_size (along_dec (view w) tell_seen n [] (drop 192 (bits_of s)))) }

module _ {w : Widths} {n : ℕ} {s seen : List ℕ} {v z a : ℕ} (V : Views w n s seen v z a) where
  pub views_done : n ≤ v → Reads (views_dec w n) s 192 (found z (8 * a))
  views_done l =
      let e : z + 0 ≡ z = omega arith in
      record { is = sym V.is ∙ ap (summed view_size z) (along_done (view w) tell_seen n v V.positions (drop (8 * a) (bits_of s)) l) ∙ ap (λ (k : ℕ). got k (drop (8 * a) (bits_of s))) e; within = omega (arith, V.within) }

  -- a view follows
  module _ (l : v < n) where
    views_stop : {e q : ℕ} → Reads (view w V.positions).dec s (8 * a) (fault e q) → Reads (views_dec w n) s 192 (fault e q)
    views_stop r =
        record { is = sym V.is ∙ ap (summed view_size z) (along_stop (view w) tell_seen n v V.positions (drop (8 * a) (bits_of s)) l r.is); within = r.within }

    views_next : {x : View} {y : ℕ} (d : ℕ) → view_size x ≡ y → Reads (view w V.positions).dec s (8 * a) (found x (8 * d))
        → summed view_size (z + y) (along_dec (view w) tell_seen (n - (v + 1)) (x.head.position ∷ V.positions) (drop (8 * d) (bits_of s))) ≡ views_dec w n (drop 192 (bits_of s))
    views_next {x} d e r =
        rw (← e)
        (sym (along_turn (view w) tell_seen n v V.positions (drop (8 * a) (bits_of s)) (λ vs. z + total view_size vs) l r.is
        ∙ sum_more view_size z x (along_dec (view w) tell_seen (n - (v + 1)) (tell_seen V.positions x) (drop (8 * d) (bits_of s)))) ∙ V.is)

    pub head_refused : {e q : ℕ} → Reads (head_dec seen) s (8 * a) (fault e q) → Reads (views_dec w n) s 192 (fault e q)
    head_refused r = views_stop (no_head w V.positions s a (head_seen s (8 * a) _ V.stand r))

    -- its header is h, and its skeleton block has m bytes
    module _ {h : ViewHeader} {m : ℕ} (H : Reads (head_dec seen) s (8 * a) (found (h, m) (8 * a + 80))) where
      headed_so : Reads (view_header (before w V.positions s a)).dec s (8 * a) (found (h, m) (8 * a + 80))
      headed_so = head_seen s (8 * a) _ V.stand H

      pub block_past : length s - (a + 10) < m → Reads (views_dec w n) s 192 (fault past (8 * (a + 10)))
      block_past i = views_stop (skeleton_past w V.positions s a h m headed_so (omega (arith, H.within)) i)

      pub one_of_eleven : h.position ≤ 10
      one_of_eleven = position_le _ _ _ _ _ _ headed_so

      pub no_more_than : get_or seen h.position 0 ≤ v
      no_more_than = omega (arith, seen_le seen V.positions h.position one_of_eleven V.stand, V.counted)

      -- the block is there, as the code cuts it out
      module _ (i : m ≤ length s - (a + 10)) where
        abbrev pub cut : List ℕ
        cut = take (a + 10 + m - (a + 10)) (drop (a + 10) s)

        fits : a + 10 + m ≤ length s
        fits = omega (arith, i, H.within)

        same : cut ≡ part s (a + 10) m
        same =
            let e : a + 10 + m - (a + 10) ≡ m = omega arith in
            ap (λ (k : ℕ). take k (drop (a + 10) s)) e

        pub cut_length : length cut ≡ m
        cut_length = ap length same ∙ part_length s (a + 10) m fits

        pub lines_refused : {e q : ℕ} → q ≤ 8 * length cut → (skeleton w).dec (bits_of cut) ≡ refused e (8 * length cut - q)
            → Reads (views_dec w n) s 192 (fault e (8 * (a + 10) + q))
        lines_refused {e} {q} k r =
            let r2 = ap (λ (x : List ℕ). (skeleton w).dec (bits_of x)) (sym same) ∙ r ∙ ap (λ (x : ℕ). refused e (8 * x - q)) cut_length in
            views_stop (skeleton_bad w V.positions s a h m headed_so fits (omega (arith, k, cut_length)) r2)

        -- c lines are read with y bytes in the sheet, up to the zero bits at place p
        module _ {c y p : ℕ} (L : Lines w cut c y p) (o : 8 * length cut - p < 8) where
          pub zeros_refused : {q : ℕ} → Reads (zeros_dec bad_line) cut p (fault bad_line q) → Reads (views_dec w n) s 192 (fault bad_line (8 * (a + 10) + q))
          zeros_refused r = lines_refused r.within (lines_dirt L o r)

          module _ {q : ℕ} (Z : Reads (zeros_dec bad_line) cut p (found tt q)) where
            lined : {P : Type 0} → ((ls : List Line) (u : Bits) → length ls ≡ c → total line_size ls ≡ y → (skeleton w).dec (bits_of (part s (a + 10) m)) ≡ got ls u → P) → P
            lined f = lines_done L o Z λ ls u k t r. f ls u k t (ap (λ (x : List ℕ). (skeleton w).dec (bits_of x)) (sym same) ∙ r)

            pub index_refused : {e q : ℕ} → Reads (index_at_dec c) s (8 * (a + 10 + m)) (fault e q) → Reads (views_dec w n) s 192 (fault e q)
            index_refused r = lined λ ls u k t x. views_stop (index_bad w V.positions s a h m headed_so fits ls u c k x r)

            -- the index ends at byte b and takes f bytes in the sheet
            module _ (b : ℕ) {f : ℕ} (I : Reads (index_at_dec c) s (8 * (a + 10 + m)) (found f (8 * b))) where
              pub segments_refused : {e q : ℕ} → Reads segments_at_dec s (8 * b) (fault e q) → Reads (views_dec w n) s 192 (fault e q)
              segments_refused r = lined λ ls u k t x. views_stop (segments_bad w V.positions s a h m headed_so fits ls u c k x b f I r)

              pub views_turn : {g : ℕ} (d : ℕ) → length s ≤ 32768 → Reads segments_at_dec s (8 * b) (found g (8 * d))
                  → Views w n s (set seen h.position (get_or seen h.position 0 + 1)) (v + 1) (z + (11 + y + f + g)) d
              views_turn {g} d j r =
                  lined λ ls u k t x.
                  view_is w V.positions s a h m headed_so fits ls u c k x b f I d g r λ x ex ez rx.
                  let e : view_size x ≡ 11 + y + f + g = ez ∙ ap (λ (i : ℕ). 11 + i + f + g) t in
                  record {
                    positions = h.position ∷ V.positions;
                    counted = omega (arith, V.counted);
                    stand = seen_more seen V.positions h.position one_of_eleven V.stand;
                    small = omega (arith, V.small, L.few, L.small, index_small_lem c I, segments_small r);
                    within = omega (arith, rx.within);
                    is = subst (λ (t : ViewHeader). summed view_size (z + (11 + y + f + g)) (along_dec (view w) tell_seen (n - (v + 1)) (t.position ∷ V.positions) (drop (8 * d) (bits_of s))) ≡ views_dec w n (drop 192 (bits_of s))) ex (views_next d e rx);
                  }
