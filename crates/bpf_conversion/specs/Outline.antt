-- What is found out about a program before its labels are made.
use Rattle.std.specs.Prelude.{◌≡◌, ℕ, suc, ◌<◌, ◌≤◌, List, length, map, get_or, slice_index, ℤ, pos, negsuc, ◌-◌, Bool, false, ◌||◌, Option, Some, None}
use Rattle.bpf_insn.specs.Instruction.{layout}
use Rattle.bpf_insn.specs.Limits.{max_slots}
use Rattle.bpf_insn.specs.declared.instruction.Insn.{Insn}
use Rattle.bpf_classic.specs.Longest.{longest_of, longest_ways, longest_back, turn}
use Rattle.bpf_conversion.specs.Leaders.{is_led_to, makes_leader}
use Rattle.bpf_conversion.specs.declared.found.Outline.{Outline}

-- each instruction has one slot, and a program has room for them
pub record IsNarrow (list : List Insn) : Type 0 where
  pub flat : layout list ≡ map Some list
  pub few : length list ≤ max_slots

-- ---- ways

abbrev pub longest_if : List ℕ → Option Insn → ℕ
longest_if behind None = 0
longest_if behind (Some i) = longest_of i behind

-- how long the way is from where a jump leads forward
abbrev pub way_ahead : List ℕ → ℤ → ℕ
way_ahead behind (pos d) = get_or behind d 0
way_ahead behind (negsuc d) = 0

-- and back
abbrev pub way_back : List ℕ → ℕ → ℤ → ℕ
way_back ways slot (pos d) = 0
way_back ways slot (negsuc d) = get_or ways (slot - d) 0

abbrev pub back_if : List ℕ → ℕ → Option Insn → ℕ
back_if ways slot None = 0
back_if ways slot (Some i) = longest_back ways slot i

-- ---- leaders

-- the leaders by the first so many instructions
pub record AreLed (list : List Insn) (n : ℕ) (wanted : List Bool) : Type 0 where
  pub long : length wanted ≡ length list
  pub each : (slot : ℕ) → slot < length list → get_or wanted slot false ≡ is_led_to list n slot

-- those that the instruction of a slot makes are marked besides
abbrev pub AreMarkedFrom : ℕ → Option Insn → List Bool → List Bool → Type 0
AreMarkedFrom slot insn old new = (to : ℕ) → to < length old → get_or new to false ≡ (makes_leader slot insn to || get_or old to false)

-- ---- templates

-- the templates of the first so many instructions begin at the slot or in front of it
pub record AreBegun (starts : List ℕ) (n slot : ℕ) : Type 0 where
  pub few : n ≤ length starts
  pub last : (k : ℕ) → suc k ≡ n → slice_index starts k ≤ slot

-- ---- all of it

pub record IsFound (list : List Insn) (f : Outline) : Type 0 where
  pub steps : f.steps.items ≡ longest_ways list
  pub turn_is : f.turn ≡ turn list
  pub leaders : AreLed list (length list) f.leaders.items
