-- The listing with comments: behind each line stand the instruction's slot, its bytes, or both. A comment isn't read, so the
-- text assembles to the same program.
use Rattle.std.specs.Prelude.{ℕ, ◌+◌, ◌-◌, ◌/◌, ◌%◌, min, length, replicate, List, [], ◌∷◌, ◌++◌, flat_map, codes, decimal, false}
use Rattle.std.specs.Fmt.{digit_glyph}
use Rattle.std.specs.List.{concat}
use Rattle.bpf_insn.specs.Instruction.{slot_count}
use Rattle.bpf_insn.specs.Image.{instruction_bytes}
use Rattle.bpf_insn.specs.declared.order.Order.{Order}
use Rattle.bpf_insn.specs.declared.instruction.Insn.{Insn}
use Rattle.bpf_text.specs.Listing.{pieces}
use Rattle.bpf_text.specs.declared.annotated.Notes.{Notes}
use Rattle.bpf_text.specs.declared.annotated.Notes.TheVariants.{Slots, Bytes, Both}

-- a blank, and a byte as two hexadecimal digits
abbrev pub byte_text : ℕ → List ℕ
byte_text b = 32 ∷ digit_glyph false (b / 16) ∷ digit_glyph false (b % 16) ∷ []

abbrev pub bytes_text : List ℕ → List ℕ
bytes_text bytes = flat_map byte_text bytes

-- `; 12`, `; b7 00 00 00 05 00 00 00`, `; 12: b7 00 00 00 05 00 00 00`
abbrev pub comment : Notes → ℕ → List ℕ → List ℕ
comment Slots slot bytes = codes "; " ++ decimal slot
comment Bytes slot bytes = codes ";" ++ bytes_text bytes
comment Both slot bytes = codes "; " ++ (decimal slot ++ (codes ":" ++ bytes_text bytes))

-- the blanks behind a text: to 32 characters, and one at least
abbrev pub padding : List ℕ → List ℕ
padding text = replicate (32 - min (length text) 31) 32

-- a text, its comment, and the line end
abbrev pub commented : List ℕ → List ℕ → List ℕ
commented text note = text ++ (padding text ++ (note ++ codes "\n"))

-- the line of the instruction at a slot
abbrev pub annotated_line : Notes → Order → ℕ → Insn → List ℕ
annotated_line notes order slot i = commented (concat (pieces i)) (comment notes slot (instruction_bytes order i))

-- the lines of instructions from this slot on
abbrev pub annotated_from : Notes → Order → ℕ → List Insn → List ℕ
annotated_from notes order slot [] = []
annotated_from notes order slot (i ∷ is) = annotated_line notes order slot i ++ annotated_from notes order (slot + slot_count i) is

abbrev pub annotated : Notes → Order → List Insn → List ℕ
annotated notes order is = annotated_from notes order 0 is
