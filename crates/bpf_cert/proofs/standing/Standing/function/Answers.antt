use Rattle.std.proofs.Common.{sym, ap, Ok}
use Rattle.bpf_cert.proofs.JudgeLemmas.{function_found, function_spelled, function_never}
use Rattle.bpf_cert.specs.code.Standing.{ruled}
use Rattle.bpf_cert.specs.Spelling.{number_of}
use Rattle.bpf_cert.proofs.standing.Standing.function.Goals as goal

pub returns-in_default-clause-value : goal.returns-in_default-clause-value
returns-in_default-clause-value c = λ before st. sym (ap (ruled before) c.in_default.ensures)

pub returns-then-is_at_start-clause-value : goal.returns-then-is_at_start-clause-value
returns-then-is_at_start-clause-value c = λ before st. function_never before _ c.in-Some.first.now c.in-Some.depth.now c.in-Some.ret.now c.is_at_start.result c.in-Some.ensures (c.is_at_start.ensures before st) c.if-is_at_start.true

pub returns-in-Ok-clause-value : goal.returns-in-Ok-clause-value
returns-in-Ok-clause-value c = λ before st. let spelled = function_spelled before c.args.self _ c.in-Some.first.now c.in-Some.depth.now c.in-Some.ret.now c.number-slot.result c.number-deep.result c.are_plain.result c.rises.result c.both-canonical.result c.between.result c.both-limited.result c.has_room_for_function.result c.both.result c.tested-found.result c.number_in.result c.in-Ok.ret (record { stands = st; form = c.in-Some.ensures; slot_is = c.number-slot.ensures; deep_is = c.number-deep.ensures; plain_is = c.are_plain.ensures; rise_is = c.rises.ensures; canonical_is = c.both-canonical.ensures; mid_is = c.between.ensures; limited_is = c.both-limited.ensures; room_is = c.has_room_for_function.ensures before st; all_is = c.both.ensures; own_is = c.tested-found.ensures }) c.in-Ok.ensures in rw (spelled.0, spelled.1) (function_found before c.args.self _ c.in-Some.first.now c.in-Some.depth.now c.in-Some.ret.now c.number-slot.result c.number-deep.result c.are_plain.result c.rises.result c.both-canonical.result c.between.result c.both-limited.result c.has_room_for_function.result c.both.result c.tested-found.result number_of c.number_in.result (Ok c.in-Ok.ret) c.is_at_start.result (record { stands = st; form = c.in-Some.ensures; slot_is = c.number-slot.ensures; deep_is = c.number-deep.ensures; plain_is = c.are_plain.ensures; rise_is = c.rises.ensures; canonical_is = c.both-canonical.ensures; mid_is = c.between.ensures; limited_is = c.both-limited.ensures; room_is = c.has_room_for_function.ensures before st; all_is = c.both.ensures; own_is = c.tested-found.ensures }) (c.is_at_start.ensures before st) c.if-is_at_start.false c.number_in.ensures c.in-Ok.ensures)

pub returns-in-Err-clause-value : goal.returns-in-Err-clause-value
returns-in-Err-clause-value c = λ before st. function_found before c.args.self _ c.in-Some.first.now c.in-Some.depth.now c.in-Some.ret.now c.number-slot.result c.number-deep.result c.are_plain.result c.rises.result c.both-canonical.result c.between.result c.both-limited.result c.has_room_for_function.result c.both.result c.tested-found.result number_of c.number_in.result _ c.is_at_start.result (record { stands = st; form = c.in-Some.ensures; slot_is = c.number-slot.ensures; deep_is = c.number-deep.ensures; plain_is = c.are_plain.ensures; rise_is = c.rises.ensures; canonical_is = c.both-canonical.ensures; mid_is = c.between.ensures; limited_is = c.both-limited.ensures; room_is = c.has_room_for_function.ensures before st; all_is = c.both.ensures; own_is = c.tested-found.ensures }) (c.is_at_start.ensures before st) c.if-is_at_start.false c.number_in.ensures c.in-Err.ensures
