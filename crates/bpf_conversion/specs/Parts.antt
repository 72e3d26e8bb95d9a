-- Where a slot of a converted filter lies: in the entry, in the template of an instruction, or at the exit that answers 0; and whether a label can
-- stand there.
use Rattle.std.specs.Prelude.{ℕ, ◌-◌, ◌==◌, Bool, true, ◌&&◌, ◌||◌, List, [], ◌∷◌, length, nat_lt, if◌then◌else◌}
use Rattle.bpf_classic.specs.declared.instruction.Classic.{Classic}
use Rattle.bpf_classic.specs.declared.instruction.Classic.TheVariants.{At, Index, Header, Alu, Back, JumpIf}
use Rattle.bpf_classic.specs.Template.{is_block, need, size, entry}
use Rattle.bpf_classic.specs.declared.layout.Layout.{Layout}
use Rattle.bpf_classic.specs.declared.layout.Annotated.{Annotated}
use Rattle.bpf_conversion.specs.declared.parts.Stretch.{Stretch}
use Rattle.bpf_conversion.specs.declared.parts.Stretch.TheVariants.{Entry, Template, Trap}

-- so many slots behind the first one of these instructions' templates; behind all templates stands the exit
abbrev pub part_behind : Layout → List Annotated → ℕ → Stretch
part_behind l [] slot = Trap slot
part_behind l (a ∷ rest) slot = if nat_lt slot (size l a) then Template a slot else part_behind l rest (slot - size l a)

abbrev pub part_at : Layout → List Annotated → ℕ → Stretch
part_at l marked slot = if nat_lt slot (length (entry l marked)) then Entry else part_behind l marked (slot - length (entry l marked))

-- ---- where a label can stand: where a template begins, behind its tests, and where it leads inside of itself

-- the first instruction tests how many bytes are there
abbrev pub tests_first : Annotated → Bool
tests_first a = nat_lt a.known (need a.insn)

abbrev pub opens_at : Annotated → Classic → ℕ → Bool
opens_at a (At size k) offset = offset == 0 || (tests_first a && offset == 1)
opens_at a (Header k) offset = offset == 0 || (tests_first a && offset == 1)
opens_at a (Index size k) offset = offset == 0 || offset == 3
opens_at a (Alu op source) offset = true
opens_at a (JumpIf test source jt jf) offset = true
opens_at a (Back k) offset = offset == 0 || offset == 1
opens_at a i offset = offset == 0

-- in the entry, a block's length is cut
abbrev pub entry_opens : Layout → ℕ → Bool
entry_opens l slot = slot == 0 || (is_block l.form && (slot == 2 || slot == 3))

abbrev pub opens : Layout → Stretch → ℕ → Bool
opens l Entry slot = entry_opens l slot
opens l (Template a offset) slot = opens_at a a.insn offset
opens l (Trap offset) slot = offset == 0
