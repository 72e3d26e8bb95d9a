-- Where a program is cut into functions, and the statements that jump and call.
use Rattle.std.specs.Prelude.{ℕ, ◌+◌, ◌*◌, ◌/◌, ◌-◌, min, List, [], ◌∷◌, ◌++◌, ℤ, Option, Some, None, Bool, true, false, ◌&&◌, ◌||◌, not, nat_eq, codes, decimal, if◌then◌else◌, option_and_then}
use Rattle.std.specs.List.{concat}
use Rattle.bpf_c.specs.Words.{cond_word, width_word, register_word}
use Rattle.bpf_c.specs.Statements.{operand_text}
use Rattle.bpf_c.specs.declared.parts.TheConstants.{PART_SLOTS}
use Rattle.bpf_c.specs.declared.parts.JumpTest.{JumpTest}
use Rattle.bpf_insn.specs.Instruction.{Instructions, slots, target, distance}
use Rattle.bpf_insn.specs.declared.instruction.Insn.{Insn}
use Rattle.bpf_insn.specs.declared.instruction.Insn.TheVariants.{CallLocal}

-- the part that a slot is in, how many parts a program has, and how many slots one has
abbrev pub part_of : ℕ → ℕ
part_of slot = slot / PART_SLOTS

abbrev pub part_count : Instructions → ℕ
part_count p = (slots p.list - 1) / PART_SLOTS + 1

abbrev pub part_length : ℕ → ℕ → ℕ
part_length count part = min PART_SLOTS (count - part * PART_SLOTS)

-- `goto L5;`, or `bpf_leave(1, 5);` from slot 5 into part 1
abbrev pub goto_text : ℕ → ℕ → List ℕ
goto_text slot to =
    if nat_eq (part_of slot) (part_of to) then concat (codes "goto L" ∷ decimal to ∷ codes ";\n" ∷ [])
    else concat (codes "bpf_leave(" ∷ decimal (part_of to) ∷ codes ", " ∷ decimal slot ∷ codes ");\n" ∷ [])

-- a jump by a distance; in a program none leads below slot 0
abbrev pub way_to : ℕ → Option ℕ → List ℕ
way_to slot (Some to) = goto_text slot to
way_to slot None = codes ";\n"

abbrev pub way_text : ℕ → ℤ → List ℕ
way_text slot off = way_to slot (target slot off)

abbrev pub jump_text : ℕ → ℤ → List ℕ
jump_text slot off = codes "    " ++ way_text slot off

-- `if (bpf_eq64(r1, UINT64_C(5))) goto L5;`
abbrev pub branch_text : ℕ → JumpTest → ℤ → List ℕ
branch_text slot test off =
    cond_word test.cond ++ (width_word test.width ++ (register_word test.dst ++ (codes ", " ++ (operand_text test.src ++ (codes ")) " ++ way_text slot off)))))

-- `bpf_call(filter_from, 0, 5);`: from slot 5 into part 0
abbrev pub part_to : Option ℕ → ℕ
part_to (Some to) = part_of to
part_to None = 0

abbrev pub call_text : List ℕ → ℕ → ℤ → List ℕ
call_text name slot off =
    concat (codes "    bpf_call(" ∷ name ∷ codes "_from, " ∷ decimal (part_to (target slot off)) ∷ codes ", " ∷ decimal slot ∷ codes ");\n" ∷ [])

-- ---- the ways into a part

abbrev pub is_call : Insn → Bool
is_call (CallLocal off) = true
is_call _ = false

-- whether an instruction at a slot leads into a part from outside: by a call, or by a jump from another part
abbrev pub is_entered : ℕ → ℕ → Insn → ℕ → Bool
is_entered part slot i to = nat_eq (part_of to) part && (is_call i || not (nat_eq (part_of slot) part))

abbrev pub entered_at : ℕ → ℕ → Insn → ℕ → Option ℕ
entered_at part slot i to = if is_entered part slot i to then Some to else None

-- the slot to which it leads so
abbrev pub entrance : ℕ → ℕ → Insn → Option ℕ
entrance part slot i = option_and_then (entered_at part slot i) (option_and_then (target slot) (distance i))

abbrev pub entrance_to : ℕ → Option ℕ → List ℕ
entrance_to slot (Some to) = concat (codes "    case " ∷ decimal slot ∷ codes ": goto L" ∷ decimal to ∷ codes ";\n" ∷ [])
entrance_to slot None = []

-- `case 5: goto L1030;`: who comes from slot 5 goes on at slot 1030
abbrev pub entrance_text : ℕ → ℕ → Insn → List ℕ
entrance_text part slot i = entrance_to slot (entrance part slot i)
