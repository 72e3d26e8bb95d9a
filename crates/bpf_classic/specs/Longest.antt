-- How long the longest way through a program is, in instructions, where nothing is called: to its end or to where it jumps back, and from there
-- on for each jump back.
use Rattle.std.specs.Prelude.{ℕ, suc, ◌+◌, ◌-◌, ◌*◌, max, pos, negsuc, List, [], ◌∷◌, get_or}
use Rattle.bpf_insn.specs.declared.instruction.Insn.{Insn}
use Rattle.bpf_insn.specs.declared.instruction.Insn.TheVariants.{Ja, JumpIf, Exit}

-- from an instruction on, by the longest ways from those behind it; a jump back ends a way
abbrev pub longest_of : Insn → List ℕ → ℕ
longest_of Exit behind = 1
longest_of (Ja (pos d)) behind = 1 + get_or behind d 0
longest_of (Ja (negsuc d)) behind = 1
longest_of (JumpIf test width dst src (pos d)) behind = 1 + max (get_or behind 0 0) (get_or behind d 0)
longest_of i behind = 1 + get_or behind 0 0

abbrev pub with_front : Insn → List ℕ → List ℕ
with_front i behind = longest_of i behind ∷ behind

-- from each instruction on
abbrev pub longest_ways : List Insn → List ℕ
longest_ways [] = []
longest_ways (i ∷ rest) = with_front i (longest_ways rest)

-- from where a jump back leads, by the longest ways from all slots; `slot` is its own
abbrev pub longest_back : List ℕ → ℕ → Insn → ℕ
longest_back ways slot (Ja (negsuc d)) = get_or ways (slot - d) 0
longest_back ways slot i = 0

-- from wherever a jump back leads
abbrev pub longest_turn : List ℕ → ℕ → List Insn → ℕ
longest_turn ways slot [] = 0
longest_turn ways slot (i ∷ rest) = max (longest_back ways slot i) (longest_turn ways (suc slot) rest)

abbrev pub turn : List Insn → ℕ
turn list = longest_turn (longest_ways list) 0 list

-- the longest way with so many jumps back
abbrev pub longest : ℕ → List Insn → ℕ
longest turns list = get_or (longest_ways list) 0 0 + turns * turn list
