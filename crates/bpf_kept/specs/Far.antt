-- Where context and frames lie far from one another and from both ends of the addresses.
use Rattle.std.specs.Prelude.{ℕ, ◌+◌, ◌*◌, ◌^◌, Bool, [], ◌∷◌, if◌then◌else◌}
use Rattle.bpf_semantics.specs.Flat.{Placement}
use Rattle.bpf_semantics.specs.Blocks.{head_bytes}

-- The context lies in the middle of the addresses, in blocks the packet behind the head of its block; frame n, from 0 to 7, lies at n + 1 times a
-- gap. So all pointers into the context are in the upper half, and twice the context's first address is 0.
abbrev pub middle : ℕ
middle = 2 ^ 63

-- so many bytes of a block lie before the packet
abbrev pub bytes_before : Bool → ℕ
bytes_before padded = if padded then head_bytes else 0

abbrev pub far_placement : Bool → ℕ → Placement
far_placement padded gap =
    record {
      context = middle + bytes_before padded;
      frames = gap * 1 ∷ gap * 2 ∷ gap * 3 ∷ gap * 4 ∷ gap * 5 ∷ gap * 6 ∷ gap * 7 ∷ gap * 8 ∷ [];
    }

-- Frames lie near one another, or wide apart. No two regions are as far apart near as any two are wide, by 2 ^ 40 or more.
abbrev pub near_gap : ℕ
near_gap = 2 ^ 41

abbrev pub wide_gap : ℕ
wide_gap = 2 ^ 50

abbrev pub near : Bool → Placement
near padded = far_placement padded near_gap

abbrev pub wide : Bool → Placement
wide padded = far_placement padded wide_gap
