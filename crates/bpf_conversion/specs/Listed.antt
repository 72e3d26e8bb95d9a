-- The listing of a filter's program: the lines of `bpf list`, and above those of each template a comment with the instruction that it stands for, as
-- `tcpdump -d` writes it.
use Rattle.std.specs.Prelude.{ℕ, ◌+◌, ◌-◌, nat_lt, List, [], ◌∷◌, ◌++◌, length, get_or, flat_map, Option, Some, None, codes, if◌then◌else◌}
use Rattle.std.specs.List.{range_with_len}
use Rattle.bpf_insn.specs.Instruction.{insn_at, slots}
use Rattle.bpf_insn.specs.declared.instruction.Insn.{Insn}
use Rattle.bpf_text.specs.Listing.{line_text}
use Rattle.bpf_classic.specs.declared.raw.Raw.{Raw}
use Rattle.bpf_classic.specs.Listing.{raw_text}
use Rattle.bpf_classic.specs.Meaning.{Conversion}
use Rattle.bpf_classic.specs.Template.{trap_code}

-- ---- lines

-- the line of the instruction that begins at a slot
abbrev pub line_of : Option Insn → List ℕ
line_of None = []
line_of (Some i) = line_text i

abbrev pub slot_text : List Insn → ℕ → List ℕ
slot_text list slot = line_of (insn_at list slot)

-- the lines from one slot up to another
abbrev pub slots_text : List Insn → ℕ → ℕ → List ℕ
slots_text list from to = flat_map (slot_text list) (range_with_len from (to - from))

-- these below a line, if there are any
abbrev pub headed : List ℕ → List Insn → ℕ → ℕ → List ℕ
headed head list from to = if nat_lt from to then head ++ slots_text list from to else []

-- `; (000) ldh      [12]`
abbrev pub comment : ℕ → Raw → List ℕ
comment n r = codes "; " ++ (raw_text n r ++ codes "\n")

-- ---- templates

-- how many slots the exit that answers 0 has, if there is one
abbrev pub exit_slots : Conversion → ℕ
exit_slots c = if c.layout.trap then length trap_code else 0

-- it stands behind the templates
abbrev pub templates_end : Conversion → ℕ
templates_end c = slots c.program.list - exit_slots c

-- the slot at which the template of an instruction begins; behind the last one, that at which the templates end
abbrev pub start_of : Conversion → ℕ → ℕ
start_of c n = get_or c.starts n (templates_end c)

-- the instruction at n, and the slots that came from it
abbrev pub template_text : Conversion → ℕ → Raw → List ℕ
template_text c n r = comment n r ++ slots_text c.program.list (start_of c n) (start_of c (n + 1))

-- the instructions from the one at n on
abbrev pub templates_text : Conversion → ℕ → List Raw → List ℕ
templates_text c n [] = []
templates_text c n (r ∷ rs) = template_text c n r ++ templates_text c (n + 1) rs

-- ---- the whole

abbrev pub entry_text : Conversion → List ℕ
entry_text c = headed (codes "; entry\n") c.program.list 0 (start_of c 0)

abbrev pub exit_text : Conversion → List ℕ
exit_text c = headed (codes "; answers 0\n") c.program.list (templates_end c) (slots c.program.list)

-- the entry, each instruction with what came from it, and the exit that answers 0
abbrev pub listed : Conversion → List Raw → List ℕ
listed c raws = entry_text c ++ (templates_text c 0 raws ++ exit_text c)
