-- A line's field and its bits: where its value has the ends and the codes, how many bits the line takes, and that its parts put one
-- behind the other are the line. Then the loop over the lines.
use mathlib.Core.Path.{◌≡◌, refl, ap, ◌∙◌}
use Prim.Native.Nat.{ℕ, ◌+◌, ◌-◌, ◌*◌, ◌/◌, ◌≤◌, ◌<◌}
use native.Mathlib.Omega.{arith}
use mathlib.Core.List.{List, [], ◌∷◌, map}
use lib.ListN.{length, take, drop, get_or, length-append, length-map}
use lib.Seq.{take_all}
use Rattle.bits.specs.Lists.{total}
use Rattle.bits.specs.ListsLaws.{total_append}
use Rattle.bits.specs.CodecLaws.{enc_all, field}
use Rattle.bits.proofs.Laws.Parts.{part}
use Rattle.outcome.specs.Refusals.{bad_line}
use Rattle.put_bits.specs.Put.{Put, PutMore}
use Rattle.put_bits.proofs.Laws.{put_none, put_laid}
use Rattle.format.specs.Line.{Line, FitsLine, end, end_bits, line, line_long_lem}
use Rattle.format.specs.declared.Widths.{Widths}
use Rattle.sheet_codes.specs.Code.{sign_extended}
use Rattle.find_parts.proofs.Laws.Line.{end_long, codes_long, line_bits_lem}
use Rattle.find_parts.proofs.Laws.Lists.{all_long}
use Rattle.sheet_bytes.specs.Bytes.{end_bytes}
use Rattle.put_bits.specs.Put.{Puts, Room}
use Rattle.write_blocks.specs.Puts.{EndPut, CodesPut, line_held, LinePut, LineFieldsAt, LinesWritten}
use Rattle.put_bits.proofs.Chain.{puts_one, ◌then◌, enc_snoc}
use Rattle.write_blocks.proofs.Laws.Run.{FieldNext, run_next, Going, going_first, going_fits, going_next, going_ends}

-- ---- a line

module _ (k : ℕ) (l : Line) {s : List ℕ} (h : s ≡ line_held k l) where
  pub held_long : length s ≡ 12 + length l.codes
  held_long = omega (arith, ap length h, length-map l.codes (sign_extended k))

  pub held_start : take 6 (drop 0 s) ≡ end_bytes l.start
  held_start = ap (λ (x : List ℕ). take 6 (drop 0 x)) h

  pub held_finish : take 6 (drop 6 s) ≡ end_bytes l.finish
  held_finish = ap (λ (x : List ℕ). take 6 (drop 6 x)) h

  pub held_codes : part s 12 (length s - 12) ≡ map (sign_extended k) l.codes
  held_codes =
      let e : drop 12 s ≡ map (sign_extended k) l.codes = ap (drop 12) h in
      ap (take (length s - 12)) e ∙ take_all (length s - 12) (map (sign_extended k) l.codes) (omega (arith, held_long, length-map l.codes (sign_extended k)))

-- room for the line is room for its parts
module _ (w : Widths) (l : Line) {out : List ℕ} {at : ℕ} (r : Room out at (length ((line w).enc l))) where
  pub line_room : (at + (end_bits w + (8 + length l.codes * w.k) + end_bits w) ≤ 8 * length out) × (at + (end_bits w + (8 + length l.codes * w.k) + end_bits w) ≤ 8 * 65535)
  line_room = (omega (arith, line_bits_lem w l, r.room), omega (arith, line_bits_lem w l, r.near))

-- the parts' places
module _ (w : Widths) (l : Line) (f : FitsLine w l) {s : List ℕ} (h : s ≡ line_held w.k l) {o o1 : List ℕ} {at p : ℕ} (S : EndPut w s 0 o at o1 p) where
  pub start_put : Puts ((end w).enc l.start) o at o1 p
  start_put = S.is l.start f.start (held_start w.k l h)

  pub start_place : p ≡ at + end_bits w
  start_place = omega (arith, start_put.place, end_long w l.start)

  module _ {o2 o3 : List ℕ} {q r : ℕ} (N : PutMore o1 p (length s - 12) 8 o2 q) (C : CodesPut w.k (part s 12 (length s - 12)) o2 q o3 r) where
    pub codes_put : Puts (enc_all (field bad_line w.k) l.codes) o2 q o3 r
    codes_put = C.is l.codes f.codes (held_codes w.k l h)

    pub codes_behind : (r ≡ at + (end_bits w + (8 + length l.codes * w.k))) × (length o3 ≡ length o)
    codes_behind = (omega (arith, start_place, N.place, codes_put.place, codes_long bad_line w.k l.codes), codes_put.same ∙ N.same ∙ start_put.same)

    pub line_put : {o4 : List ℕ} {t : ℕ} → EndPut w s 6 o3 r o4 t → Puts ((line w).enc l) o at o4 t
    unfolding line
    line_put F =
        let z : length s - 12 ≡ length l.codes = omega (arith, held_long w.k l h) in
        start_put then ((puts_one (rw z at N) then codes_put) then F.is l.finish f.finish (held_finish w.k l h))

-- ---- the loop over the lines

few_lines : (w : Widths) (ls : List Line) → length ls ≤ length (enc_all (line w) ls)
few_lines w [] = omega arith
few_lines w (l ∷ ls) = omega (arith, few_lines w ls, length-append ((line w).enc l) (enc_all (line w) ls), line_long_lem w l)

-- of the lines ls, those that the loop has passed are put; n is how many
abbrev pub GoingOn : Widths → List ℕ → ℕ → List ℕ → List ℕ → ℕ → ℕ → List Line → List ℕ → Type 0
GoingOn w s p before now at n ls rest = Going 3 (line_held w.k) (FitsLine w) (λ done. Put (enc_all (line w) done) before now at × (n ≡ length done)) s p ls rest

-- whatever lines they are
abbrev pub LinesGoing : Widths → List ℕ → ℕ → List ℕ → ℕ → List ℕ → ℕ → ℕ → Type 0
LinesGoing w s a before p now at n = (ls : List Line) (rest : List ℕ) → LineFieldsAt w s a ls rest → GoingOn w s p before now at n ls rest

pub lines_first : (w : Widths) (s : List ℕ) (a : ℕ) (before : List ℕ) → LinesGoing w s a before a before 0 0
lines_first w s a before ls rest h = going_first h.run h.fits (put_none before, refl)

module _ (w : Widths) {s : List ℕ} {p : ℕ} (l : p < length s) (t : get_or s p 0 ≡ 3) where
  module _ {before now : List ℕ} {at n : ℕ} {ls : List Line} {rest : List ℕ} (g : GoingOn w s p before now at n ls rest) where
    abbrev pub line_here : FieldNext 3 (line_held w.k) s p g.more rest
    line_here = run_next g.run l t

    pub line_fits : FitsLine w line_here.one
    line_fits = going_fits g line_here

    -- its value as code cuts it out
    pub line_held_lem : {m : ℕ} → m ≡ get_or s (p + 1) 0 * 256 + get_or s (p + 1 + 1) 0 → part s (p + 3) (p + 3 + m - (p + 3)) ≡ line_held w.k line_here.one
    line_held_lem {m} e =
        let y : p + 3 + m - (p + 3) ≡ length (line_held w.k line_here.one) = omega (arith, line_here.size) in
        ap (part s (p + 3)) y ∙ line_here.holds

    -- room for all is room for it
    pub line_space : Room before 0 (total (λ l. length ((line w).enc l)) ls) → length now ≡ length before → Room now at (length ((line w).enc line_here.one))
    line_space r e =
        let f : Line → ℕ = λ l. length ((line w).enc l) in
        let a : total f ls ≡ total f g.done + total f g.more = ap (total f) g.is ∙ total_append f g.done g.more in
        let b : total f g.more ≡ f line_here.one + total f line_here.more = ap (total f) line_here.is in
        let c : at ≡ total f g.done = g.holds.0.count ∙ all_long (line w) g.done in
        record { room = omega (arith, r.room); near = omega (arith, r.near) }

  pub lines_next : {a : ℕ} {before now now' : List ℕ} {at n m r : ℕ} → LinesGoing w s a before p now at n → m ≡ get_or s (p + 1) 0 * 256 + get_or s (p + 1 + 1) 0
      → LinePut w (part s (p + 3) (p + 3 + m - (p + 3))) now at now' r → LinesGoing w s a before (p + 3 + m) now' r (n + 1)
  lines_next {before = before} {m = m} G e h ls rest x =
      let g = G ls rest x in
      let N = line_here g in
      let z : m ≡ length (line_held w.k N.one) = e ∙ N.size in
      let k = (h.is N.one (line_fits g) (line_held_lem g e)).is (enc_all (line w) g.done) before g.holds.0 in
      rw z (going_next g N (rw (enc_snoc (line w) g.done N.one) k, simp length-append (omega (arith, g.holds.1))))

-- so many, and so far
module _ (w : Widths) {s : List ℕ} {p : ℕ} {before now : List ℕ} {at n : ℕ} {ls : List Line} {rest : List ℕ} (g : GoingOn w s p before now at n ls rest) where
  pub lines_near : Room before 0 (total (λ l. length ((line w).enc l)) ls) → (n ≤ at) × (at ≤ 8 * 65535)
  lines_near r =
      let f : Line → ℕ = λ l. length ((line w).enc l) in
      let a : total f ls ≡ total f g.done + total f g.more = ap (total f) g.is ∙ total_append f g.done g.more in
      let c : at ≡ total f g.done = g.holds.0.count ∙ all_long (line w) g.done in
      (omega (arith, g.holds.1, g.holds.0.count, few_lines w g.done), omega (arith, r.near))

pub lines_end : (w : Widths) {s : List ℕ} {a : ℕ} {before now : List ℕ} {p at n : ℕ} → LinesGoing w s a before p now at n → (p < length s → get_or s p 0 ≡ 3 → ⊥)
    → LinesWritten w s a before now (record { next = p; count = n; bytes = (at + 7) / 8 })
lines_end w G k =
    record {
      is = λ ls rest x.
          let (h, e) = going_ends (G ls rest x) k in
          (put_laid h.0 refl, h.1, e);
    }
