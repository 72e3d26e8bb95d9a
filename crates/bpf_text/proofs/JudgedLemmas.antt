-- A text assembles to a list of instructions, or there is a first cause why it doesn't.
use Rattle.std.proofs.Common.{◌≡◌, List, Result, Ok, Err, inl, inr, ⊎_elim, refl}
use Rattle.std.specs.Prelude.{◌⊎◌}
use Rattle.bpf_insn.specs.declared.instruction.Insn.{Insn}
use Rattle.bpf_insn.proofs.ListIsOne.{list_is_one_of_both}
use Rattle.bpf_text.specs.declared.error.TextError.{TextError}
use Rattle.bpf_text.specs.Assembly.{instructions_of, program_error, Assembles, IsRefused}
use Rattle.bpf_text.specs.Assembly.IsRefused.{no_instructions, no_program}
use Rattle.bpf_text.specs.code.LineReading.{source_of}
use Rattle.bpf_text.specs.Laws.{AssemblesOrIsRefused}
use Rattle.bpf_text.proofs.TextsRead.{text_says}

pub judged : AssemblesOrIsRefused
judged text = go (instructions_of (source_of text)) refl
  where
    go : (r : Result (List Insn) TextError) → instructions_of (source_of text) ≡ r → ((is : List Insn) × Assembles text is) ⊎ ((e : TextError) × IsRefused text e)
    go (Err e) h = inr (e, no_instructions (text_says text) h)
    go (Ok is) h = ⊎_elim (λ p. inl (is, record { source = source_of text; says = text_says text; instructions = h; program = p }))
        (λ found. inr (program_error (source_of text).said found.0, no_program (text_says text) h found.1)) (list_is_one_of_both is)
