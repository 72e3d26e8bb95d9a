-- A program, and the image that spells it.
use Rattle.std.proofs.Common.{◌≡◌, List, ℕ, ap}
use Rattle.bpf_insn.specs.Instruction.{Instructions}
use Rattle.bpf_insn.specs.Image.{IsImage, IsProgram}
use Rattle.bpf_insn.specs.Laws.{IsImageOfProgram}
use Rattle.bpf_insn.specs.declared.order.Order.{Order}
use Rattle.bpf_check.specs.Verdicts.{program_in}

-- a program is its list in its order
pub in_order : (order : Order) (p : Instructions) → p.order ≡ order → p ≡ program_in order p.list
in_order order p same = ap (λ o. program_in o p.list) same

-- an image of its instructions is one of the program's
pub image_of : (order : Order) (bytes : List ℕ) (p : Instructions) → IsImage order p.list bytes → IsProgram p.list → IsImageOfProgram order bytes p.list
image_of order bytes p im program = record { program = program; bytes_are = im.bytes_are }
