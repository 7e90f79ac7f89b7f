-- The eleven finger names: "unknown, then right thumb, right index, right middle, right ring, right little, then the same five with
-- left". A name is the first len of twelve bytes.
use Rattle.std.specs.Prelude.{ℕ, List, [], ◌∷◌, get_or}
use Rattle.list_fingers.specs.declared.Name.{Name}

abbrev pub no_name : Name
no_name = record { text = []; len = 0 }

abbrev pub fingers : List Name
fingers =
    -- unknown
    record { text = 117 ∷ 110 ∷ 107 ∷ 110 ∷ 111 ∷ 119 ∷ 110 ∷ 32 ∷ 32 ∷ 32 ∷ 32 ∷ 32 ∷ []; len = 7 }
    -- right thumb
    ∷ record { text = 114 ∷ 105 ∷ 103 ∷ 104 ∷ 116 ∷ 32 ∷ 116 ∷ 104 ∷ 117 ∷ 109 ∷ 98 ∷ 32 ∷ []; len = 11 }
    -- right index
    ∷ record { text = 114 ∷ 105 ∷ 103 ∷ 104 ∷ 116 ∷ 32 ∷ 105 ∷ 110 ∷ 100 ∷ 101 ∷ 120 ∷ 32 ∷ []; len = 11 }
    -- right middle
    ∷ record { text = 114 ∷ 105 ∷ 103 ∷ 104 ∷ 116 ∷ 32 ∷ 109 ∷ 105 ∷ 100 ∷ 100 ∷ 108 ∷ 101 ∷ []; len = 12 }
    -- right ring
    ∷ record { text = 114 ∷ 105 ∷ 103 ∷ 104 ∷ 116 ∷ 32 ∷ 114 ∷ 105 ∷ 110 ∷ 103 ∷ 32 ∷ 32 ∷ []; len = 10 }
    -- right little
    ∷ record { text = 114 ∷ 105 ∷ 103 ∷ 104 ∷ 116 ∷ 32 ∷ 108 ∷ 105 ∷ 116 ∷ 116 ∷ 108 ∷ 101 ∷ []; len = 12 }
    -- left thumb
    ∷ record { text = 108 ∷ 101 ∷ 102 ∷ 116 ∷ 32 ∷ 116 ∷ 104 ∷ 117 ∷ 109 ∷ 98 ∷ 32 ∷ 32 ∷ []; len = 10 }
    -- left index
    ∷ record { text = 108 ∷ 101 ∷ 102 ∷ 116 ∷ 32 ∷ 105 ∷ 110 ∷ 100 ∷ 101 ∷ 120 ∷ 32 ∷ 32 ∷ []; len = 10 }
    -- left middle
    ∷ record { text = 108 ∷ 101 ∷ 102 ∷ 116 ∷ 32 ∷ 109 ∷ 105 ∷ 100 ∷ 100 ∷ 108 ∷ 101 ∷ 32 ∷ []; len = 11 }
    -- left ring
    ∷ record { text = 108 ∷ 101 ∷ 102 ∷ 116 ∷ 32 ∷ 114 ∷ 105 ∷ 110 ∷ 103 ∷ 32 ∷ 32 ∷ 32 ∷ []; len = 9 }
    -- left little
    ∷ record { text = 108 ∷ 101 ∷ 102 ∷ 116 ∷ 32 ∷ 108 ∷ 105 ∷ 116 ∷ 116 ∷ 108 ∷ 101 ∷ 32 ∷ []; len = 11 }
    ∷ []

abbrev pub finger_of : ℕ → Name
finger_of position = get_or fingers position no_name
