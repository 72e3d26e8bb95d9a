use Rattle.std.proofs.Common.{ap, sym}
use Rattle.bpf_insn.proofs.WriteLemmas.{on_err_map, on_ok_map}
use Rattle.bpf_c.specs.code.Says.{Stands}
use Rattle.bpf_c.specs.Unit.{frame_text, unit_text}
use Rattle.bpf_c.proofs.SaysLemmas.{says_all, says_more, says_of}
use Rattle.bpf_c.proofs.unit.write_c.Goals as goal

pub returns-clause-ok : goal.returns-clause-ok
returns-clause-ok g c =
    let start = g.W.Write.contents c.args.out.now in
    let text = unit_text c.args.name.now c.args.promise (g.C.Code.program c.args.program.now) in
    let stands : Stands start text (g.W.Write.contents c.put_host.new.out) c.put_host.new.page
    = says_all c.new-page.ensures (says_more c.put_operations.ensures (says_more c.put_defines.ensures (says_more c.put_declarations.ensures (says_more c.put_parts.ensures (says_more (says_of (ap (frame_text c.args.name.now) c.part_count-count.ensures.count) c.put_frame.ensures) c.put_host.ensures))))) in
    on_ok_map c.finish.result (λ f. f start text stands) c.finish.ensures.ok

pub returns-clause-err : goal.returns-clause-err
returns-clause-err g c =
    let start = g.W.Write.contents c.args.out.now in
    let text = unit_text c.args.name.now c.args.promise (g.C.Code.program c.args.program.now) in
    let stands : Stands start text (g.W.Write.contents c.put_host.new.out) c.put_host.new.page
    = says_all c.new-page.ensures (says_more c.put_operations.ensures (says_more c.put_defines.ensures (says_more c.put_declarations.ensures (says_more c.put_parts.ensures (says_more (says_of (ap (frame_text c.args.name.now) c.part_count-count.ensures.count) c.put_frame.ensures) c.put_host.ensures))))) in
    on_err_map c.finish.result (λ f. f start text stands) c.finish.ensures.err
