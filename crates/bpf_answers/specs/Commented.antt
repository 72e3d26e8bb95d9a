-- A program whose listing has comments.
use Rattle.bpf_insn.specs.Instruction.{Instructions}
use Rattle.bpf_text.specs.declared.annotated.Notes.{Notes}

pub record Commented : Type 0 where
  pub notes : Notes
  pub program : Instructions
