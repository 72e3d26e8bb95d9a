use Rattle.std.specs.Prelude.{option_map}
use Rattle.bpf_check.specs.code.Arrivals.{walk_of}
use Rattle.bpf_check.specs.RefusalNumbers.{flaw_of}
use Rattle.bpf_check.proofs.ArrivalLemmas.{visit_refused}
use Rattle.bpf_check.proofs.visit.visit.Goals as goal

pub returns-clause-refusal : goal.returns-clause-refusal
returns-clause-refusal g c =
    visit_refused (g.P.Code.program c.args.program.now) c.args.site.now.certificate.now c.args.site.now.here.slot c.args.site.now.insn (walk_of c.args.walk.now) (walk_of c.arrive-never.new.walk) c.lacks_label.result c.calls_no_deeper.result c.arrive-never.result c.leaves_function.result (option_map flaw_of c.flaw_with.result) c.lacks_label.ensures (c.arrive-never.ensures.arrival c.args.site.now.certificate.now c.requires.site.here) c.calls_no_deeper.ensures (c.arrive-never.ensures.never c.args.site.now.certificate.now c.requires.site.here) c.leaves_function.ensures
    (c.flaw_with.ensures _ c.visit_arrival-refusal.ensures.refusal)
