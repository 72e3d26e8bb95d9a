use Rattle.std.proofs.Common.{◌∙◌, ap, sym, arith, get_or, Some, ◌≢◌, below_more}
use Rattle.std.proofs.lemmas.List.{get_or-set_same, get_or-set_other, length-set}
use Rattle.bpf_semantics.specs.State.Cell.{Byte}
use Rattle.bpf_machine.proofs.StackLemmas.{bytes_found, reason_found, length_is}
use Rattle.bpf_machine.proofs.stack.Stack.bytes.Goals as goal

pub loop-i-preserved : goal.loop-i-preserved
loop-i-preserved c = record {
  eight = length-set c.loop-i.bytes c.loop-i.i c.in-Ok.byte ∙ c.loop-i.invariant.eight;
  found = below_more _ _
      (λ k h. let ne : k ≢ c.loop-i.i = omega arith in c.loop-i.invariant.found k h ∙ ap (λ b. Some (Byte b)) (sym (get_or-set_other c.loop-i.bytes c.loop-i.i k c.in-Ok.byte 0 ne)))
      (c.in-Ok.ensures.ok ∙ ap (λ b. Some (Byte b)) (sym (get_or-set_same c.loop-i.bytes c.loop-i.i c.in-Ok.byte 0 (omega (arith, c.loop-i.invariant.eight)))));
}

pub returns-clause-ok : goal.returns-clause-ok
returns-clause-ok c = bytes_found c.args.count c.args.at c.args.self.now c.loop-i.bytes (omega (arith, length_is _ _ _ _ c.self.view_is)) (omega (arith, c.loop-i.invariant.eight)) (λ i hi. c.loop-i.invariant.found i (omega arith))

pub returns-in-Err-clause-err : goal.returns-in-Err-clause-err
returns-in-Err-clause-err c = reason_found c.args.count c.args.at c.loop-i.i c.args.self.now (λ k. get_or c.loop-i.bytes k 0) c.in-Err.reason (omega arith) (omega (arith, length_is _ _ _ _ c.self.view_is)) c.loop-i.invariant.found c.in-Err.ensures.err
