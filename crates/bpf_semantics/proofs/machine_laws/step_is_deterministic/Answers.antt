use Rattle.std.proofs.Common.{◌≡◌, Some, sym, ◌∙◌}
use Rattle.bpf_semantics.specs.State.{State}
use Rattle.bpf_semantics.proofs.machine_laws.step_is_deterministic.Goals as goal

some_same : (s t : State) → Some s ≡ Some t → s ≡ t
some_same s t e = cc

pub returns : goal.returns
returns c p s t u e f = some_same t u (sym e ∙ f)
