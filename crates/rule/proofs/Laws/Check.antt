-- What a check gives: of a rule that there is what the record says, whatever the rule; so a rule that wants less accepts all that another
-- one accepts, rule 1 accepts whatever is read, and records with as many bits of a direction pass the same rules.
use mathlib.Core.Path.{◌≡◌, refl, sym, ap, ◌∙◌}
use Prim.Native.Nat.{ℕ, ◌≤◌, ◌<◌}
use native.Mathlib.Omega.{arith}
use mathlib.Core.Option.{Option, none, some}
use mathlib.Core.List.{List, []}
use lib.Dec.{leb, leb→le, le→leb}
use mir.Facts.{no_leb}
use Rattle.bits.specs.Choice.{pick}
use Rattle.bits.specs.ChoiceLaws.{pick_yes, pick_no, pick_split, within_low}
use Rattle.bits.specs.Bits.{Bits}
use Rattle.bits.specs.Codec.{got}
use Rattle.outcome.specs.Refusals.{no_rule, below_rule}
use Rattle.outcome.specs.Outcome.{refused, given}
use Rattle.outcome.proofs.Laws.{not_given, given_known, unknown, known_is}
use Rattle.format.specs.Record.{Record, read}
use Rattle.format.specs.Call.{on_record}
use Rattle.format.proofs.Laws.Record.{read_is}
use Rattle.format.proofs.Laws.Call.{on_record_lem, given_record, same_record}
use Rattle.rule.specs.Rules.{least_of}
use Rattle.rule.specs.Check.{direction_bits, passes, check}
use Rattle.rule.specs.Accepted.{AcceptedCheck, BelowRule}
use Rattle.rule.proofs.Laws.Table.{some_is}

module _ (rule : ℕ) (bytes : List ℕ) where
  pub check_none : least_of rule ≡ none → check rule bytes ≡ refused no_rule 0
  unfolding check
  check_none e = unknown no_rule _ e

  pub check_in : {least : ℕ} → least_of rule ≡ some least → check rule bytes ≡ on_record (passes least) bytes
  unfolding check
  check_in e = known_is no_rule _ e

-- ---- a record that is read

-- "the least that clause 6.1.4 permits"
pub bits_least : (bytes : List ℕ) {r : Record} {rest : Bits} → read bytes ≡ got r rest → 4 ≤ direction_bits r
bits_least bytes {r} {rest} d = within_low 4 8 (direction_bits r) (read_is bytes r rest d).0.fits.head.scale.b.1

module _ (least : ℕ) (r : Record) where
  enough_passes : least ≤ direction_bits r → passes least r ≡ given []
  enough_passes l = pick_yes (leb least (direction_bits r)) _ _ (le→leb least (direction_bits r) l)

  below_refused : direction_bits r < least → passes least r ≡ refused below_rule 0
  below_refused l = pick_no (leb least (direction_bits r)) _ _ (no_leb l)

pub accepted_given : {rule : ℕ} {bytes : List ℕ} → AcceptedCheck rule bytes → check rule bytes ≡ given []
accepted_given {rule} {bytes} x =
    check_in rule bytes x.at.known ∙ on_record_lem (passes x.at.least) bytes x.at.value [] x.at.reads ∙ enough_passes x.at.least x.at.value x.enough

pub below_given : {rule : ℕ} {bytes : List ℕ} → BelowRule rule bytes → check rule bytes ≡ refused below_rule 0
below_given {rule} {bytes} x =
    check_in rule bytes x.at.known ∙ on_record_lem (passes x.at.least) bytes x.at.value [] x.at.reads ∙ below_refused x.at.least x.at.value x.below

pub given_accepted : (rule : ℕ) (bytes : List ℕ) {xs : List ℕ} → check rule bytes ≡ given xs → AcceptedCheck rule bytes
unfolding check
given_accepted rule bytes {xs} h =
    given_known no_rule (λ least. on_record (passes least) bytes) (least_of rule) h λ least e g.
    given_record (passes least) bytes xs g λ r rest d q.
    pick_split (leb least (direction_bits r)) _ _ q
    (λ t y. record {
      at = record { least = least; known = e; value = r; reads = d ∙ ap (got r) (read_is bytes r rest d).3 };
      enough = leb→le least (direction_bits r) t;
    })
    (λ t y. not_given y)

-- ---- two rules, and two records

-- a rule that wants no more accepts whatever another one accepts
pub accepted_less : (m n : ℕ) {least more : ℕ} → least_of m ≡ some least → least_of n ≡ some more → least ≤ more → (bytes : List ℕ)
    → AcceptedCheck n bytes → AcceptedCheck m bytes
accepted_less m n {least} d e l bytes x =
    record {
      at = record { least = least; known = d; value = x.at.value; reads = x.at.reads };
      enough = omega (arith, x.enough, some_is (sym x.at.known ∙ e));
    }

-- a rule that wants no more than a record may have at least accepts whatever is read
pub any_record : (rule : ℕ) {least : ℕ} → least_of rule ≡ some least → least ≤ 4 → (bytes : List ℕ) → check rule bytes ≡ on_record (λ r. given []) bytes
any_record rule {least} e l bytes =
    check_in rule bytes e ∙ same_record (passes least) (λ r. given []) bytes λ r rest d.
    enough_passes least r (omega (arith, bits_least bytes d))

-- records with as many bits of a direction pass the same rules
pub same_bits : (rule : ℕ) (a b : List ℕ) {r s : Record} {t u : Bits} → read a ≡ got r t → read b ≡ got s u → direction_bits r ≡ direction_bits s
    → check rule a ≡ check rule b
same_bits rule a b {r} {s} {t} {u} d e q = go (least_of rule) refl
  where
    go : (o : Option ℕ) → least_of rule ≡ o → check rule a ≡ check rule b
    go none z = check_none rule a z ∙ sym (check_none rule b z)
    go (some least) z =
        let same : passes least r ≡ passes least s = ap (λ (n : ℕ). pick (leb least n) (given []) (refused below_rule 0)) q in
        check_in rule a z ∙ on_record_lem (passes least) a r t d ∙ same ∙ sym (check_in rule b z ∙ on_record_lem (passes least) b s u e)
