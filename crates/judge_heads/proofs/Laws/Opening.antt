-- A record's header, field behind field, each judged where it is read: what is known of it before each test, and which refusal a test
-- that fails gives.
use mathlib.Core.Path.{◌≡◌}
use Prim.Native.Nat.{ℕ, ◌+◌, ◌≤◌, ◌<◌}
use native.Mathlib.Omega.{arith}
use mathlib.Core.List.{List}
use Rattle.bits.specs.Codec.{field_dec}
use Rattle.bits.specs.CodecLaws.{fixed, ranged}
use Rattle.bits.specs.Reads.{Reads, found, fault}
use Rattle.bits.proofs.Laws.Reads.{go_on, stop, made, at_place, up_to, fixed_ok, fixed_bad, ranged_ok, ranged_low, below}
use Rattle.outcome.specs.Refusals.{bad_identifier, bad_version, bad_length, bad_header}
use Rattle.format.specs.Record.{scale, header}
use Rattle.format.specs.declared.Scale.{Scale}
use Rattle.judge_heads.specs.Answers.{header_dec}
use Rattle.judge_heads.proofs.Laws.Header.{FieldAt, field_from, scale_behind}

-- what the cursor ensures of a field of w bits at place c
abbrev Field : List ℕ → ℕ → ℕ → ℕ → ℕ → Type 0
Field s c w v q = ((e : ℕ) → Reads (field_dec e w) s c (found v q)) × (q ≡ c + w)

-- ---- the fields before the scale; n is the length that the header has to state

module _ (s : List ℕ) where
  pub record Identified (q : ℕ) : Type 0 where
    pub identifier : Reads (fixed bad_identifier 32 0x46534B00).dec s 0 (found tt 32)
    pub behind : q ≡ 32

  pub record Versioned (q : ℕ) : Type 0 where
    pub identifier : Reads (fixed bad_identifier 32 0x46534B00).dec s 0 (found tt 32)
    pub version : Reads (fixed bad_version 32 0x30313000).dec s 32 (found tt 64)
    pub behind : q ≡ 64

  pub record Sized (n q : ℕ) : Type 0 where
    pub identifier : Reads (fixed bad_identifier 32 0x46534B00).dec s 0 (found tt 32)
    pub version : Reads (fixed bad_version 32 0x30313000).dec s 32 (found tt 64)
    pub stated : Reads (fixed bad_length 32 n).dec s 64 (found tt 96)
    pub behind : q ≡ 96

  pub record Counted (n device views q : ℕ) : Type 0 where
    pub identifier : Reads (fixed bad_identifier 32 0x46534B00).dec s 0 (found tt 32)
    pub version : Reads (fixed bad_version 32 0x30313000).dec s 32 (found tt 64)
    pub stated : Reads (fixed bad_length 32 n).dec s 64 (found tt 96)
    pub owner : Reads (field_dec bad_header 16) s 96 (found device 112)
    pub count : Reads (ranged bad_header 8 1 255).dec s 112 (found views 120)
    pub behind : q ≡ 120

module _ {s : List ℕ} where
  module _ {c v q : ℕ} (z : c ≡ 0) (f : Field s c 32 v q) where
    pub identified : v ≡ 0x46534B00 → Identified s q
    identified e =
        let h = field_from z f in
        record { identifier = fixed_ok bad_identifier 32 (h.read bad_identifier) 0x46534B00 e; behind = h.behind }

    pub no_identifier : (n : ℕ) → (v ≡ 0x46534B00 → ⊥) → Reads (header_dec n) s 0 (fault bad_identifier 0)
    unfolding header_dec header
    no_identifier n e =
        made _ _ (stop _ _ (fixed_bad bad_identifier 32 ((field_from z f).read bad_identifier) 0x46534B00 (omega arith) e))

  module _ {c v q : ℕ} (i : Identified s c) (f : Field s c 32 v q) where
    pub versioned : v ≡ 0x30313000 → Versioned s q
    versioned e =
        let h = field_from i.behind f in
        record { identifier = i.identifier; version = fixed_ok bad_version 32 (h.read bad_version) 0x30313000 e; behind = h.behind }

    pub no_version : (n : ℕ) → (v ≡ 0x30313000 → ⊥) → Reads (header_dec n) s 0 (fault bad_version 32)
    unfolding header_dec header
    no_version n e =
        made _ _ (go_on _ _ i.identifier
        (stop _ _ (fixed_bad bad_version 32 ((field_from i.behind f).read bad_version) 0x30313000 i.identifier.within e)))

  module _ {c v q : ℕ} (i : Versioned s c) (f : Field s c 32 v q) where
    pub sized : (n : ℕ) → v ≡ n → Sized s n q
    sized n e =
        let h = field_from i.behind f in
        record { identifier = i.identifier; version = i.version; stated = fixed_ok bad_length 32 (h.read bad_length) n e; behind = h.behind }

    pub no_length : (n : ℕ) → (v ≡ n → ⊥) → Reads (header_dec n) s 0 (fault bad_length 64)
    unfolding header_dec header
    no_length n e =
        made _ _ (go_on _ _ i.identifier (go_on _ _ i.version
        (stop _ _ (fixed_bad bad_length 32 ((field_from i.behind f).read bad_length) n i.version.within e))))

  module _ {n c d q v q' : ℕ} (i : Sized s n c) (f : Field s c 16 d q) (g : Field s q 8 v q') where
    count_at : FieldAt s 112 8 v q'
    count_at = field_from (field_from i.behind f).behind g

    pub counted : 1 ≤ v → Counted s n d v q'
    counted e =
        let h = count_at.read bad_header in
        record {
          identifier = i.identifier;
          version = i.version;
          stated = i.stated;
          owner = (field_from i.behind f).read bad_header;
          count = ranged_ok bad_header 8 h 1 255 e (omega (arith, below bad_header 8 h));
          behind = count_at.behind;
        }

    pub no_views : v < 1 → Reads (header_dec n) s 0 (fault bad_header 112)
    unfolding header_dec header
    no_views e =
        let h = (field_from i.behind f).read bad_header in
        made _ _ (go_on _ _ i.identifier (go_on _ _ i.version (go_on _ _ i.stated (go_on _ _ h
        (stop _ _ (ranged_low bad_header 8 (count_at.read bad_header) 1 255 h.within e))))))

  -- ---- the scale, and what is reserved behind it

  module _ {n d v c : ℕ} (i : Counted s n d v c) where
    pub scale_bad : {p : ℕ} → Reads (scale bad_header).dec s c (fault bad_header p) → Reads (header_dec n) s 0 (fault bad_header p)
    unfolding header_dec header
    scale_bad h =
        made _ _ (go_on _ _ i.identifier (go_on _ _ i.version (go_on _ _ i.stated (go_on _ _ i.owner (go_on _ _ i.count
        (stop _ _ (at_place i.behind h)))))))

    module _ {x : Scale} {p : ℕ} (k : Reads (scale bad_header).dec s c (found x p)) where
      pub behind_scale : p ≡ 176
      behind_scale = scale_behind bad_header i.count.within (at_place i.behind k)

      scaled : Reads (scale bad_header).dec s 120 (found x 176)
      scaled = up_to behind_scale (at_place i.behind k)

      module _ {r q : ℕ} (f : Field s p 16 r q) where
        pub not_reserved : (r ≡ 0 → ⊥) → Reads (header_dec n) s 0 (fault bad_header 176)
        unfolding header_dec header
        not_reserved e =
            made _ _ (go_on _ _ i.identifier (go_on _ _ i.version (go_on _ _ i.stated (go_on _ _ i.owner (go_on _ _ i.count (go_on _ _ scaled
            (fixed_bad bad_header 16 ((field_from behind_scale f).read bad_header) 0 scaled.within e)))))))

        pub header_good : r ≡ 0 → Reads (header_dec n) s 0 (found (record { device = d; scale = x }, v) 192)
        unfolding header_dec header
        header_good e =
            made _ _ (go_on _ _ i.identifier (go_on _ _ i.version (go_on _ _ i.stated (go_on _ _ i.owner (go_on _ _ i.count (go_on _ _ scaled
            (fixed_ok bad_header 16 ((field_from behind_scale f).read bad_header) 0 e)))))))
