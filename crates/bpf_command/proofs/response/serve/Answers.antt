use Rattle.std.proofs.Common.{inl, inr}
use Rattle.bpf_answers.proofs.MadeLemmas.{keeps}
use Rattle.bpf_command.proofs.response.serve.Goals as goal

pub returns-in-Err : goal.returns-in-Err
returns-in-Err g c = inr (c.in-Err.failure, inl c.in-Err.ensures, c.tell_failure.ensures)

pub returns-in-Ok-print : goal.returns-in-Ok-print
returns-in-Ok-print g c = inl ((c.in-Ok.found, g.W.Write.contents c.perform.new.out, c.in-Ok.ensures, c.in-Ok-print.ensures), keeps _)
