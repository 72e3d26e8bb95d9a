use Rattle.std.proofs.Common.{refl, sym, ap, subst, ◌∙◌}
use Rattle.std.specs.Prelude.{option_map}
use Rattle.bpf_check.specs.code.Least.{IsLeastRefusal}
use Rattle.bpf_check.specs.code.Arrivals.{arrival_of}
use Rattle.bpf_check.specs.RefusalNumbers.{flaw_of}
use Rattle.bpf_check.specs.code.Visits.{flaws_with}
use Rattle.bpf_check.proofs.ArrivalLemmas.{faulty_least, sound_least}
use Rattle.bpf_check.proofs.visit.visit_arrival.Goals as goal

pub returns-in-Err-clause-refusal : goal.returns-in-Err-clause-refusal
returns-in-Err-clause-refusal g c =
    subst (λ o. IsLeastRefusal (flaws_with (g.P.Code.program c.args.program.now) c.args.site.now.certificate.now c.args.site.now.here.slot c.args.site.now.insn (option_map (arrival_of c.args.walk.now.state) o)) c.refused_if.result) (sym c.in-Some.is)
    (faulty_least (g.P.Code.program c.args.program.now) c.args.site.now.certificate.now c.args.site.now.here.slot c.args.site.now.insn (arrival_of c.args.walk.now.state c.in-Some.here) _ _ (option_map flaw_of c.refused_if.result) c.in-Err.ensures.err refl c.refused_if.ensures)

pub returns-in-Ok-clause-refusal : goal.returns-in-Ok-clause-refusal
returns-in-Ok-clause-refusal g c =
    subst (λ o. IsLeastRefusal (flaws_with (g.P.Code.program c.args.program.now) c.args.site.now.certificate.now c.args.site.now.here.slot c.args.site.now.insn (option_map (arrival_of c.args.walk.now.state) o)) c.flaw_of_state.result) (sym c.in-Some.is)
    (sound_least (g.P.Code.program c.args.program.now) c.args.site.now.certificate.now c.args.site.now.here.slot c.args.site.now.insn (arrival_of c.args.walk.now.state c.in-Some.here) c.judged.result.not_entailed c.judged.result.over_budget c.judged.result.past_end (option_map flaw_of c.flaw_of_state.result) c.in-Ok.ensures.ok.no_fault (ap (λ j. j.not_entailed) c.judged.ensures ∙ c.in-Ok.ensures.ok.not_entailed) (ap (λ j. j.over_budget) c.judged.ensures ∙ c.in-Ok.ensures.ok.over_budget) (ap (λ j. j.past_end) c.judged.ensures ∙ c.in-Ok.ensures.ok.past_end)
    c.flaw_of_state.ensures)
