-- The text of a program: the operations, a function for each part, one that goes from part to part with a frame of its own, and the
-- function for hosts.
use Rattle.std.specs.Prelude.{ℕ, zero, suc, ◌+◌, ◌*◌, List, [], ◌∷◌, ◌++◌, Option, Some, None, codes, decimal, flat_map, nat_lt, if◌then◌else◌}
use Rattle.std.specs.List.{concat}
use Rattle.bpf_c.specs.Statements.{alu_text, neg_text, extension_text, swap_text, wide_text, load_text, store_text, atomic_text}
use Rattle.bpf_c.specs.Parts.{part_count, part_length, jump_text, branch_text, call_text, entrance_text}
use Rattle.bpf_c.specs.declared.bounds.Promise.{Promise}
use Rattle.bpf_c.specs.declared.operations.TheConstants.{OPERATIONS}
use Rattle.bpf_c.specs.declared.parts.TheConstants.{PART_SLOTS}
use Rattle.bpf_c.specs.declared.unit.TheConstants.{ARGUMENTS, ENTER, ENTERED, GO_ON, LEAVE, FRAME, END}
use Rattle.bpf_insn.specs.Instruction.{Instructions, insn_at, slots, word_size}
use Rattle.bpf_insn.specs.declared.order.Order.{Order}
use Rattle.bpf_insn.specs.declared.instruction.Operand.TheVariants.{Imm, Reg as FromReg}
use Rattle.bpf_insn.specs.declared.instruction.Insn.{Insn}
use Rattle.bpf_insn.specs.declared.instruction.Insn.TheVariants.{Alu, Neg, MovSx, End, LoadImm64, Load, LoadSx, Store, StoreImm, Atomic, Ja, JaLong, JumpIf, CallLocal, Exit}

-- the texts of 0 to n - 1, one after another
abbrev pub each : (ℕ → List ℕ) → ℕ → List ℕ
each text zero = []
each text (suc n) = each text n ++ text n

-- ---- instructions

-- the statement of an instruction at a slot
abbrev pub statement_text : List ℕ → Order → ℕ → Insn → List ℕ
statement_text name order slot (Alu op width dst src) = alu_text op width dst src
statement_text name order slot (Neg width dst) = neg_text width dst
statement_text name order slot (MovSx width bits dst src) = extension_text width bits dst src
statement_text name order slot (End kind bits dst) = swap_text order kind bits dst
statement_text name order slot (LoadImm64 dst value) = wide_text dst value
statement_text name order slot (Load size dst src off) = load_text (codes "    bpf_load") dst (record { order = order; size = size; base = src; off = off })
statement_text name order slot (LoadSx size dst src off) = load_text (codes "    bpf_loads") dst (record { order = order; size = size; base = src; off = off })
statement_text name order slot (Store size dst off src) = store_text (record { order = order; size = size; base = dst; off = off }) (FromReg src)
statement_text name order slot (StoreImm size dst off imm) = store_text (record { order = order; size = size; base = dst; off = off }) (Imm imm)
statement_text name order slot (Atomic wide op dst off src) = atomic_text op (record { order = order; size = word_size wide; base = dst; off = off }) src
statement_text name order slot (Ja off) = jump_text slot off
statement_text name order slot (JaLong off) = jump_text slot off
statement_text name order slot (JumpIf cond width dst src off) = branch_text slot (record { cond = cond; width = width; dst = dst; src = src }) off
statement_text name order slot (CallLocal off) = call_text name slot off
statement_text name order slot Exit = codes "    bpf_exit();\n"

-- with the label of its slot in front; nothing at a second slot
abbrev pub line_of : List ℕ → Order → ℕ → Option Insn → List ℕ
line_of name order slot (Some i) = codes "L" ++ (decimal slot ++ (codes ":" ++ statement_text name order slot i))
line_of name order slot None = []

abbrev pub line_text : List ℕ → Instructions → ℕ → List ℕ
line_text name p slot = line_of name p.order slot (insn_at p.list slot)

-- those of so many slots from a first one on
abbrev pub lines_text : List ℕ → Instructions → ℕ → ℕ → List ℕ
lines_text name p first count = each (λ index. line_text name p (first + index)) count

-- ---- parts

abbrev pub way_in : ℕ → ℕ → Option Insn → List ℕ
way_in part slot (Some i) = entrance_text part slot i
way_in part slot None = []

abbrev pub way_in_text : Instructions → ℕ → ℕ → List ℕ
way_in_text p part slot = way_in part slot (insn_at p.list slot)

abbrev pub entrances_text : Instructions → ℕ → List ℕ
entrances_text p part = each (way_in_text p part) (slots p.list)

-- the lines of a part
abbrev pub part_lines_text : List ℕ → Instructions → ℕ → List ℕ
part_lines_text name p part = lines_text name p (part * PART_SLOTS) (part_length (slots p.list) part)

-- how the function of a part begins, where there are so many: of several none is taken into another
abbrev pub part_word : ℕ → List ℕ
part_word count = if nat_lt 1 count then codes "BPF_PART uint32_t " else codes "static uint32_t "

-- the function of a part
abbrev pub part_text : List ℕ → Instructions → ℕ → List ℕ
part_text name p part =
    concat (part_word (part_count p) ∷ name ∷ codes "_part_" ∷ decimal part ∷ ENTER.now ∷ entrances_text p part ∷ ENTERED.now
    ∷ part_lines_text name p part ∷ GO_ON.now ∷ decimal (part + 1) ∷ LEAVE.now ∷ [])

abbrev pub parts_text : List ℕ → Instructions → List ℕ
parts_text name p = each (part_text name p) (part_count p)

-- ---- the whole

abbrev pub operations_text : List ℕ
operations_text = flat_map (λ line. line.now) OPERATIONS

-- `#define filter_LEAST UINT64_C(16)`
abbrev pub define_text : List ℕ → List ℕ → ℕ → List ℕ
define_text name word value = concat (codes "#define " ∷ name ∷ word ∷ decimal value ∷ codes ")\n" ∷ [])

abbrev pub defines_text : List ℕ → Promise → List ℕ
defines_text name promise =
    define_text name (codes "_LEAST UINT64_C(") promise.least ++ (define_text name (codes "_MOST UINT64_C(") promise.most
    ++ define_text name (codes "_BOUND UINT64_C(") promise.bound)

abbrev pub declarations_text : List ℕ → List ℕ
declarations_text name =
    concat (codes "\nint " ∷ name ∷ codes "_takes(uint64_t length);\nuint64_t " ∷ name
    ∷ codes "(const uint8_t *context, uint64_t length);\n\n#if defined(__GNUC__)\n#pragma GCC diagnostic push\n#pragma GCC diagnostic ignored \"-Wunused-label\"\n#pragma GCC diagnostic ignored \"-Wtype-limits\"\n#endif\nstatic uint64_t "
    ∷ name ∷ ARGUMENTS.now ∷ codes ";\n\n" ∷ [])

-- `case 0: part = filter_part_0(&site, r); break;`
abbrev pub case_text : List ℕ → ℕ → List ℕ
case_text name part = concat (codes "    case " ∷ decimal part ∷ codes ": part = " ∷ name ∷ codes "_part_" ∷ decimal part ∷ codes "(&site, r); break;\n" ∷ [])

abbrev pub cases_text : List ℕ → ℕ → List ℕ
cases_text name count = each (case_text name) count

-- the function of a frame
abbrev pub frame_text : List ℕ → ℕ → List ℕ
frame_text name count = concat (codes "static uint64_t " ∷ name ∷ ARGUMENTS.now ∷ FRAME.now ∷ cases_text name count ∷ END.now ∷ [])

-- the functions for hosts
abbrev pub host_text : List ℕ → List ℕ
host_text name =
    concat (codes "#if defined(__GNUC__)\n#pragma GCC diagnostic pop\n#endif\n\nint " ∷ name ∷ codes "_takes(uint64_t length)\n{\n    return length - "
    ∷ name ∷ codes "_LEAST <= " ∷ name ∷ codes "_MOST - " ∷ name ∷ codes "_LEAST;\n}\n\nuint64_t " ∷ name
    ∷ codes "(const uint8_t *context, uint64_t length)\n{\n    return " ∷ name ∷ codes "_takes(length) ? " ∷ name
    ∷ codes "_from(0, 65536, (uint64_t)(uintptr_t)context, length, 0, 0, 0) : 0;\n}\n" ∷ [])

abbrev pub unit_text : List ℕ → Promise → Instructions → List ℕ
unit_text name promise p =
    operations_text ++ (defines_text name promise ++ (declarations_text name ++ (parts_text name p ++ (frame_text name (part_count p) ++ host_text name))))
