-- How large programs, and what they work on, may be. RFC 9669 leaves it open.
use Rattle.std.specs.Prelude.{ℕ, ◌-◌}

-- the most slots of a program
abbrev pub max_slots : ℕ
max_slots = 65536

-- the greatest slot that a program may have
abbrev pub greatest_slot : ℕ
greatest_slot = max_slots - 1

-- the most bytes of a context
abbrev pub max_context : ℕ
max_context = 4096

-- the bytes of a frame
abbrev pub frame_bytes : ℕ
frame_bytes = 512

-- the most frames, the outermost one among them
abbrev pub max_frames : ℕ
max_frames = 8
