-- A line that is put together in a room of 256 bytes, more than any line needs.
use Rattle.std.specs.Prelude.{◌≡◌, ℕ, ℤ, List, [], ◌∷◌, ◌++◌, take, codes}
use Rattle.std.specs.List.{concat}
use Rattle.bpf_insn.specs.declared.instruction.Reg.{Reg}
use Rattle.bpf_insn.specs.declared.instruction.Size.{Size}
use Rattle.bpf_insn.specs.declared.instruction.Width.TheVariants.{W64}
use Rattle.bpf_insn.specs.declared.instruction.Operand.{Operand}
use Rattle.bpf_text.specs.Listing.{r_text, offset_text, operand_text}
use Rattle.bpf_text.specs.Spelling.{unsigned_text}
use Rattle.bpf_text.specs.Parts.{memory_text}
use Rattle.bpf_text.specs.declared.spelling.Memory.{Memory}

-- a text was put behind the line so far
pub record Puts (old text new : List ℕ) : Type 0 where
  pub is : new ≡ take 256 (old ++ text)

-- `*(u8 *)(r1 + 0`: a memory operand, with what is said behind it still to come
abbrev pub memory_operand_text : Memory → Reg → ℤ → List ℕ
memory_operand_text memory base off = codes "*(" ++ (memory_text memory ++ (codes " *)(" ++ (r_text base ++ (codes " " ++ offset_text off))))

-- the line of a load, zero-extended or sign-extended, and of a store of a register or a constant
abbrev pub load_text : Memory → Reg → Reg → ℤ → List ℕ
load_text memory dst src off = concat (r_text dst ∷ codes " = *(" ∷ memory_text memory ∷ codes " *)(" ∷ r_text src ∷ codes " " ∷ offset_text off ∷ codes ")" ∷ codes "\n" ∷ [])

abbrev pub store_text : Size → Reg → ℤ → Operand → List ℕ
store_text size dst off src = concat (codes "*(" ∷ unsigned_text size ∷ codes " *)(" ∷ r_text dst ∷ codes " " ∷ offset_text off ∷ codes ") = " ∷ operand_text W64 src ∷ codes "\n" ∷ [])
