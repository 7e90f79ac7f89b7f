-- The calls of local quality, whose values stand as they are: reading what was rewritten gives the values that were lent, and these are
-- the ones that the new payload is of.
use mathlib.Core.Path.{◌≡◌, sym, ap, ◌∙◌, subst}
use Prim.Native.Nat.{ℕ, ◌≤◌}
use native.Mathlib.Omega.{arith}
use mathlib.Core.List.{List, []}
use lib.ListN.{length, take}
use Rattle.bits.specs.Lists.{All}
use Rattle.bits.specs.Bytes.{Byte}
use Rattle.bits.specs.Codec.{got}
use Rattle.outcome.specs.Outcome.{given, Answers, Gave}
use Rattle.outcome.specs.declared.Answer.{Answer}
use Rattle.format.specs.Record.{Record, read}
use Rattle.format.specs.Places.{view_at, image_of}
use Rattle.format.specs.Named.{Means}
use Rattle.format.specs.declared.ViewName.{ViewName}
use Rattle.rewrite.specs.Bytes.{Rewrites}
use Rattle.rewrite.proofs.Laws.Payload as P
use Rattle.rewrite.proofs.Laws.Calls as C
use Rattle.quality.specs.Payload.{payload_for}
use Rattle.quality.specs.PayloadLaws.{lent_back}
use Rattle.quality.specs.Quality.{quality_format, quality, set_quality}

-- whatever is lent, byte or not
lent_right : (vs : List ℕ) → P.LentRight quality_format vs
lent_right vs f us e = lent_back f.image vs us e

module _ (view : ViewName) (place : ℕ) (vs bytes : List ℕ) where
  pub read_after_set : (new : List ℕ) → set_quality view place vs bytes ≡ given new → quality view place new ≡ given vs
  read_after_set new h = let (xs, e, q) = P.read_after_set quality_format view place vs bytes new (lent_right vs) h in q ∙ ap given (sym e)

  pub set_rewrites : All Byte bytes → {X : Type 0} (new : List ℕ) → set_quality view place vs bytes ≡ given new
      → ((r : Record) (i : ℕ) → read bytes ≡ got r [] → Means view r i → Rewrites i place (payload_for (image_of (view_at r i)) vs) r bytes new → X) → X
  set_rewrites b new h f =
      P.set_rewrites quality_format view place vs bytes new b h λ r i us d m l w.
      f r i d m (subst (λ (xs : List ℕ). Rewrites i place (payload_for (image_of (view_at r i)) xs) r bytes new) (sym (lent_back (image_of (view_at r i)) vs us l).1) w)

  pub setting_back : {before after before₂ after₂ : List ℕ} {a b : Answer} → Answers (set_quality view place vs bytes) before after a → a.number ≡ 0
      → Answers (quality view place (take a.length after)) before₂ after₂ b → length vs ≤ length before₂ → Gave vs after₂ b
  setting_back {after₂ = after₂} {b = b} h z k l =
      let (xs, e, g) = C.setting_back quality_format (omega arith) view place bytes vs (lent_right vs) h z k (λ xs e. omega (arith, ap length e)) b.length (λ xs m. sym m) in
      subst (λ (ys : List ℕ). Gave ys after₂ b) (sym e) g
