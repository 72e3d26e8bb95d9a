-- The numbers that words say at most, or where they say none.
use Rattle.std.specs.Prelude.{ℕ}

-- how often a run of a filter may jump back at most: a program counts it in 16 bits
abbrev pub max_turns : ℕ
max_turns = 65535

-- how often a loop that gets a counter may turn, where nothing else is said
abbrev pub usual_turns : ℕ
usual_turns = 65536
