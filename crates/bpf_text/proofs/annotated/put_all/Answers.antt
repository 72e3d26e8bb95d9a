use Rattle.bpf_insn.proofs.WriteLemmas.{gathers_more, waits_first, waits_later, on_ok_map, on_err_map}
use Rattle.bpf_text.proofs.annotated.put_all.Goals as goal

pub returns-in-Ok-clause-ok : goal.returns-in-Ok-clause-ok
returns-in-Ok-clause-ok g c = on_ok_map c.put_behind.result (gathers_more _ _ _ _ _ _ _ _ c.in-Ok.ensures.ok) c.put_behind.ensures.ok

pub returns-in-Ok-clause-err : goal.returns-in-Ok-clause-err
returns-in-Ok-clause-err g c = on_err_map c.put_behind.result (waits_later _ _ _ _ _ _ _ c.in-Ok.ensures.ok) c.put_behind.ensures.err

pub returns-in-Err-clause-err : goal.returns-in-Err-clause-err
returns-in-Err-clause-err g c = waits_first _ _ c.args.pending.now c.args.front.now _ c.in-Err.ensures.err
