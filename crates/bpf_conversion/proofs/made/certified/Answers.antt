use Rattle.std.proofs.Common.{subst}
use Rattle.bpf_insn.specs.Image.{IsProgram}
use Rattle.bpf_conversion.proofs.MadeLemmas.{certifies}
use Rattle.bpf_conversion.proofs.made.certified.Goals as goal

pub returns-in-Ok-clause-certified : goal.returns-in-Ok-clause-certified
returns-in-Ok-clause-certified c =
    certifies c.certified_at_once.ensures c.args.converted.now c.in-Ok.certificate c.requires.conversion (subst (λ p. IsProgram p.list) c.program.ensures c.valid.ensures)
    c.requires.room c.in-Ok.ensures.certificate c.in-Ok.ensures.ok
