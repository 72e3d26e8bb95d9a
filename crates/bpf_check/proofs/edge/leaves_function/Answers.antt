use Rattle.std.proofs.Common.{ap, ◌∙◌}
use Rattle.std.specs.Prelude.{is_some}
use Rattle.bpf_check.specs.code.Sites.{visit_at}
use Rattle.bpf_check.proofs.WayLemmas.{leaves_by_a_way}
use Rattle.bpf_check.proofs.edge.leaves_function.Goals as goal

pub returns : goal.returns
returns g c =
    c.is_some.ensures
    ∙ ap is_some c.way_out.ensures
    ∙ leaves_by_a_way (g.P.Code.program c.args.program.now) c.args.site.now.certificate.now (visit_at c.args.site.now)
