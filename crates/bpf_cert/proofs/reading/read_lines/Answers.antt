use Rattle.std.proofs.Common.{◌+◌, ◌∷◌, [], sym, ◌∙◌, subst, Ok, Err}
use Rattle.bpf_cert.specs.code.Building.{Takes}
use Rattle.bpf_cert.specs.declared.error.CertError.TheVariants as errors
use Rattle.bpf_cert.proofs.ReadingLemmas.{start, cut, ended_fails, bad_fails, ended_given, end_given, failed_given, long_given, bad_given, fine_given, given_ok, given_err, memory_given}
use Rattle.bpf_cert.proofs.SpelledLaws.{given_accepts}
use Rattle.bpf_cert.proofs.reading.read_lines.Goals as goal

pub loop-before-init : goal.loop-before-init
loop-before-init g c = ([], c.new-builder.ensures, start c.args.source.now)

pub returns-then-is_ended : goal.returns-then-is_ended
returns-then-is_ended g c = let gives = ended_given c.args.source.now c.loop-before.source c.next_line-stop.new.self c.next_line-stop.new.line.items c.next_line-stop.result c.is_empty.result (c.loop-before.before + 1) c.loop-before.invariant.0 c.behind_end.result c.loop-before.invariant.2 c.next_line-stop.ensures.taken c.is_empty.ensures (sym (c.is_ended.ensures c.loop-before.invariant.0 c.loop-before.invariant.1) ∙ c.if-is_ended.true) (c.behind_end.ensures c.loop-before.invariant.0 c.loop-before.invariant.1 (sym (c.is_ended.ensures c.loop-before.invariant.0 c.loop-before.invariant.1) ∙ c.if-is_ended.true)) in
    record { ok = given_ok c.args.source.now c.behind_end.result gives; err = given_err c.args.source.now c.behind_end.result gives; accepts = given_accepts c.args.source.now c.behind_end.result gives; failed = ended_fails c.args.source.now c.loop-before.source c.next_line-stop.new.self c.next_line-stop.new.line.items c.next_line-stop.result c.is_empty.result (c.loop-before.before + 1) c.loop-before.invariant.0 c.behind_end.result c.loop-before.invariant.2 c.next_line-stop.ensures.taken c.is_empty.ensures (sym (c.is_ended.ensures c.loop-before.invariant.0 c.loop-before.invariant.1) ∙ c.if-is_ended.true) (c.behind_end.ensures c.loop-before.invariant.0 c.loop-before.invariant.1 (sym (c.is_ended.ensures c.loop-before.invariant.0 c.loop-before.invariant.1) ∙ c.if-is_ended.true)) }

pub returns-in-End : goal.returns-in-End
returns-in-End g c = let gives = end_given c.args.source.now c.loop-before.source c.next_line-stop.new.self c.next_line-stop.new.line.items (c.loop-before.before + 1) c.loop-before.invariant.0 c.loop-before.invariant.2 c.in-End.ensures.taken.0 c.in-End.ensures.taken.1 c.next_line-stop.ensures.one_line c.next_line-stop.ensures.short (sym (c.is_ended.ensures c.loop-before.invariant.0 c.loop-before.invariant.1) ∙ c.if-is_ended.false) in
    record { ok = given_ok c.args.source.now (Err (errors.Syntax (c.loop-before.before + 1))) gives; err = given_err c.args.source.now (Err (errors.Syntax (c.loop-before.before + 1))) gives; accepts = given_accepts c.args.source.now (Err (errors.Syntax (c.loop-before.before + 1))) gives; failed = tt }

pub returns-in-Failed : goal.returns-in-Failed
returns-in-Failed g c = let gives = failed_given c.args.source.now c.loop-before.source c.next_line-stop.new.self c.next_line-stop.new.line.items (c.loop-before.before + 1) c.loop-before.invariant.0 c.loop-before.invariant.2 c.in-Failed.ensures.taken c.next_line-stop.ensures.one_line c.next_line-stop.ensures.short (sym (c.is_ended.ensures c.loop-before.invariant.0 c.loop-before.invariant.1) ∙ c.if-is_ended.false) in
    record { ok = given_ok c.args.source.now (Err (errors.Read (c.loop-before.before + 1))) gives; err = given_err c.args.source.now (Err (errors.Read (c.loop-before.before + 1))) gives; accepts = given_accepts c.args.source.now (Err (errors.Read (c.loop-before.before + 1))) gives; failed = cut c.args.source.now c.loop-before.source c.next_line-stop.new.self c.next_line-stop.new.line.items (c.loop-before.before + 1) c.loop-before.invariant.0 c.loop-before.invariant.2 c.in-Failed.ensures.taken c.next_line-stop.ensures.one_line c.next_line-stop.ensures.short (sym (c.is_ended.ensures c.loop-before.invariant.0 c.loop-before.invariant.1) ∙ c.if-is_ended.false) }

pub returns-in-Long : goal.returns-in-Long
returns-in-Long g c = let gives = long_given c.args.source.now c.loop-before.source c.next_line-stop.new.self c.next_line-stop.new.line.items (c.loop-before.before + 1) c.loop-before.invariant.0 c.loop-before.invariant.2 c.in-Long.ensures.taken c.next_line-stop.ensures.one_line (sym (c.is_ended.ensures c.loop-before.invariant.0 c.loop-before.invariant.1) ∙ c.if-is_ended.false) in
    record { ok = given_ok c.args.source.now (Err (errors.Limit (c.loop-before.before + 1))) gives; err = given_err c.args.source.now (Err (errors.Limit (c.loop-before.before + 1))) gives; accepts = given_accepts c.args.source.now (Err (errors.Limit (c.loop-before.before + 1))) gives; failed = tt }

pub take-requires-clause-built : goal.take-requires-clause-built
take-requires-clause-built g c = (c.loop-before.invariant.0, c.loop-before.invariant.1, sym (c.is_ended.ensures c.loop-before.invariant.0 c.loop-before.invariant.1) ∙ c.if-is_ended.false)

pub returns-in-Err : goal.returns-in-Err
returns-in-Err g c = let gives = bad_given c.args.source.now c.loop-before.source c.next_line-stop.new.self c.next_line-stop.new.line.items (c.loop-before.before + 1) c.loop-before.invariant.0 c.take.new.self c.in-Err.error c.loop-before.invariant.2 c.in-LineEnd.ensures.taken c.next_line-stop.ensures.one_line (sym (c.is_ended.ensures c.loop-before.invariant.0 c.loop-before.invariant.1) ∙ c.if-is_ended.false) (subst (λ z. Takes (c.loop-before.before + 1) c.loop-before.invariant.0 z c.take.new.self (Err c.in-Err.error)) c.as_slice.ensures.value (c.in-Err.ensures c.loop-before.invariant.0 c.loop-before.invariant.1 (sym (c.is_ended.ensures c.loop-before.invariant.0 c.loop-before.invariant.1) ∙ c.if-is_ended.false))) in
    record { ok = given_ok c.args.source.now (Err c.in-Err.error) gives; err = given_err c.args.source.now (Err c.in-Err.error) gives; accepts = given_accepts c.args.source.now (Err c.in-Err.error) gives; failed = bad_fails c.args.source.now c.next_line-stop.new.self c.next_line-stop.new.line.items (c.loop-before.before + 1) c.loop-before.invariant.0 c.take.new.self c.in-Err.error (subst (λ z. Takes (c.loop-before.before + 1) c.loop-before.invariant.0 z c.take.new.self (Err c.in-Err.error)) c.as_slice.ensures.value (c.in-Err.ensures c.loop-before.invariant.0 c.loop-before.invariant.1 (sym (c.is_ended.ensures c.loop-before.invariant.0 c.loop-before.invariant.1) ∙ c.if-is_ended.false))) }

pub loop-before-preserved : goal.loop-before-preserved
loop-before-preserved g c = let fine = subst (λ z. Takes (c.loop-before.before + 1) c.loop-before.invariant.0 z c.take.new.self (Ok c.in_default.field-0)) c.as_slice.ensures.value (c.in_default.ensures c.loop-before.invariant.0 c.loop-before.invariant.1 (sym (c.is_ended.ensures c.loop-before.invariant.0 c.loop-before.invariant.1) ∙ c.if-is_ended.false)) in
    (fine.0 ∷ c.loop-before.invariant.0, fine.3, fine_given c.args.source.now c.loop-before.source c.next_line-stop.new.self c.next_line-stop.new.line.items (c.loop-before.before + 1) c.loop-before.invariant.0 c.take.new.self c.in_default.field-0 c.loop-before.invariant.2 c.in-LineEnd.ensures.taken c.next_line-stop.ensures.one_line (sym (c.is_ended.ensures c.loop-before.invariant.0 c.loop-before.invariant.1) ∙ c.if-is_ended.false) fine)

pub returns : goal.returns
returns g c = let gives = memory_given c.args.source.now in
    record { ok = given_ok c.args.source.now (Err errors.Memory) gives; err = given_err c.args.source.now (Err errors.Memory) gives; accepts = given_accepts c.args.source.now (Err errors.Memory) gives; failed = tt }
