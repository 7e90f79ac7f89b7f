-- The whole record, from its header and its views to the judge's verdict.
use mathlib.Core.Path.{◌≡◌, sym, ap, ap₂, ◌∙◌}
use Prim.Native.Nat.{ℕ, ◌+◌, ◌-◌, ◌*◌, ◌≤◌, ◌<◌}
use native.Mathlib.Omega.{arith}
use native.Mathlib.Nat.{sub-zero}
use mathlib.Core.Bool.{Bool, not}
use mathlib.Core.List.{List, [], ◌∷◌}
use Rattle.std.specs.Prelude.{Result, Ok, Err}
use lib.ListN.{length, drop}
use lib.Dec.{T}
use Rattle.bits.specs.Choice.{within}
use Rattle.bits.specs.ChoiceLaws.{pick_yes, pick_no, within_high, within_yes, within_not_low, within_not_high}
use Rattle.bits.specs.Bits.{Bits}
use Rattle.bits.specs.Bytes.{bits_of}
use Rattle.bits.specs.Codec.{Codec, got, refused, next}
use Rattle.bits.specs.Lists.{total}
use Rattle.bits.specs.Reads.{found, fault, Reads, keeping}
use Rattle.bits.proofs.Laws.Reads.{length_rest, go_on, stop, made, unkept, unkept_bad}
use Rattle.bits.proofs.Laws.Parts.{drop_end}
use Rattle.outcome.specs.Refusals.{bad_size, bytes_over}
use Rattle.format.specs.Limits.{least_bytes, most_bytes}
use Rattle.format.specs.View.{View}
use Rattle.format.specs.Record.{Record, header, views, record_of, all_of, read}
use Rattle.format.specs.SheetSize.{view_size, sheet_size}
use Rattle.format.specs.declared.Header.{Header}
use Rattle.judge_heads.specs.Answers.{header_dec}
use Rattle.judge_views.specs.Views.{views_dec}
use Rattle.outcome.specs.Why.{number, fault_of}
use Rattle.outcome.specs.declared.refusal.Fault.{Fault}
use Rattle.outcome.specs.declared.refusal.Refused.{Refused}
use Rattle.outcome.specs.declared.refusal.Refusal.TheVariants.{BadSize, BytesOver}
use Rattle.outcome.proofs.Whys.{one_number}
use Rattle.judge.specs.Judge.{Summary, summary, Finds, Judges}
use Rattle.judge.specs.declared.Accepted.{Accepted}

-- as many views are read as the header says
as_many : (n : ℕ) (h : Header) (s : Bits) (vs : List View) (r : Bits) → (views h.scale.widths n).dec s ≡ got vs r → length vs ≡ n
unfolding views
as_many n h s vs r e = ((views h.scale.widths n).back s vs r e).0.0

module _ (s : List ℕ) where
  abbrev pub size_ok : Bool
  size_ok = within least_bytes most_bytes (length s)

  size_bad : T (not size_ok) → Finds s (Err (record { why = BadSize; place = 0 }))
  unfolding read
  size_bad t =
      record { is = ap (keeping summary) (pick_no size_ok _ _ t) ∙ ap (refused bad_size) (sym (sub-zero _)); within = omega arith; small = omega arith }

  pub too_short : length s < 24 → Finds s (Err (record { why = BadSize; place = 0 }))
  unfolding least_bytes
  too_short h = size_bad (within_not_low least_bytes most_bytes (length s) h)

  pub too_long_lem : 32768 < length s → Finds s (Err (record { why = BadSize; place = 0 }))
  unfolding most_bytes
  too_long_lem h = size_bad (within_not_high least_bytes most_bytes (length s) h)

  pub size_ok_lem : 24 ≤ length s → length s ≤ 32768 → T size_ok
  unfolding least_bytes most_bytes
  size_ok_lem l h = within_yes least_bytes most_bytes (length s) l h

  module _ (t : T size_ok) where
    short : length s ≤ 32768
    unfolding most_bytes
    short = within_high least_bytes most_bytes (length s) t

    opened : keeping summary (read s) ≡ keeping summary (next ((record_of (length s)).dec (bits_of s)) all_of)
    unfolding read
    opened = ap (keeping summary) (pick_yes size_ok _ _ t)

    record_bad : {e q : ℕ} → Reads (record_of (length s)).dec s 0 (fault e q) → keeping summary (read s) ≡ refused e (8 * length s - q)
    record_bad h = opened ∙ rw h.is

    pub header_bad : (f : Fault) → Reads (header_dec (length s)) s 0 (fault_of f) → Finds s (Err f)
    unfolding record_of header_dec
    header_bad f h = record { is = record_bad (made _ _ (stop _ _ h)); within = h.within; small = omega (arith, h.within, short) }

    module _ (h : Header) (n : ℕ) (H : Reads (header_dec (length s)) s 0 (found (h, n) 192)) where
      abbrev behind : Header × ℕ → Codec Bool (List View)
      behind t = views t.0.scale.widths t.1

      pub views_bad : (f : Fault) → Reads (views_dec h.scale.widths n) s 192 (fault_of f) → Finds s (Err f)
      unfolding record_of header_dec views_dec
      views_bad f r =
          record { is = record_bad (made _ _ (go_on _ behind H (unkept_bad _ r))); within = r.within; small = omega (arith, r.within, short) }

      module _ (a z : ℕ) (r : Reads (views_dec h.scale.widths n) s 192 (found z (8 * a))) where
        record_is : {P : Type 0} → ((vs : List View) → length vs ≡ n → total view_size vs ≡ z
            → Reads (record_of (length s)).dec s 0 (found (record { head = h; views = vs }) (8 * a)) → P) → P
        unfolding record_of header_dec views_dec
        record_is f = unkept _ r λ vs e y. f vs (as_many n h (drop 192 (bits_of s)) vs (drop (8 * a) (bits_of s)) y.is) e (made _ _ (go_on _ behind H y))

        pub left_over : a < length s → Finds s (Err (record { why = BytesOver; place = 8 * a }))
        left_over l =
            record_is λ vs _ _ x.
            record { is = opened ∙ rw x.is (go (record { head = h; views = vs }) (drop (8 * a) (bits_of s)) (length_rest s (8 * a))); within = omega arith; small = omega (arith, short) }
          where
            go : (x : Record) (b : Bits) → length b ≡ 8 * length s - 8 * a → keeping summary (all_of x b) ≡ refused bytes_over (8 * length s - 8 * a)
            go x [] e = absurd (omega arith)
            go x (y ∷ b) e = ap (refused bytes_over) e

        pub all_read : length s ≤ a → Finds s (Ok (record { header = h; views = n; size = 12 + z }))
        unfolding sheet_size
        all_read l =
            record_is λ vs m e x.
            let d : drop (8 * a) (bits_of s) ≡ [] = drop_end s (8 * a) (omega arith) in
            let f : [] ≡ drop (8 * length s) (bits_of s) = sym (drop_end s (8 * length s) (omega arith)) in
            record { is = opened ∙ rw (x.is, d) (λ i. got (h, (m i, 12 + e i)) (f i)); within = omega arith; small = omega (arith, short) }

-- ---- the verdict

pub accepted : {s : List ℕ} {a : Accepted} → Finds s (Ok a) → Judges s (Ok a)
accepted h = record { is = h.is; within = h.within }

pub refused_lem : {s : List ℕ} {f : Fault} → Finds s (Err f) → Judges s (Err (record { why = f.why; place = f.place }))
refused_lem h = record { is = h.is; within = h.within }

-- two verdicts that the statement allows are equal
pub one_verdict : (s : List ℕ) (r t : Result Accepted Refused) → Judges s r → Judges s t → r ≡ t
one_verdict s (Ok x) (Ok y) a b =
    let e = sym a.is ∙ b.is in
    let u : ◌≡◌ {A = Summary} (x.header, (x.views, x.size)) (y.header, (y.views, y.size)) = cc in
    λ i. Ok (record { header = (u i).0; views = (u i).1.0; size = (u i).1.1 })
one_verdict s (Err x) (Err y) a b =
    let f = sym a.is ∙ b.is in
    let e : number x.why ≡ number y.why = cc in
    let z : 8 * length s - x.place ≡ 8 * length s - y.place = cc in
    let p : x.place ≡ y.place = omega (arith, a.within, b.within) in
    let w : x.why ≡ y.why = one_number x.why y.why e in
    λ i. Err (record { why = w i; place = p i })
one_verdict s (Ok x) (Err y) a b = let f = sym a.is ∙ b.is in let y : ◌≡◌ {A = ℕ} 0 1 = cc in absurd (omega arith)
one_verdict s (Err x) (Ok y) a b = let f = sym a.is ∙ b.is in let y : ◌≡◌ {A = ℕ} 0 1 = cc in absurd (omega arith)

-- ---- what a header that is read promises

pub header_fits : (s : List ℕ) (h : Header) (n : ℕ) → Reads (header_dec (length s)) s 0 (found (h, n) 192)
    → let w = h.scale.widths in (n ≤ 255) × (w.b ≤ 8) × (w.c ≤ 16) × (w.k ≤ 8)
unfolding header_dec header
header_fits s h n r =
    let (_, f, m) = ((header (length s)).back (bits_of s) (h, n) (drop 192 (bits_of s)) r.is).0 in
    (within_high 1 255 n m.1, within_high 4 8 _ f.scale.b.1, within_high 1 16 _ f.scale.c.1, within_high 2 8 _ f.scale.k.1)
