-- What reaches an instruction, as code keeps it.
use Rattle.std.specs.Prelude.{ℕ, ◌*◌, ◌^◌, Option, option_map, IfSome, IsSome, IsTrue}
use Rattle.bpf_state.specs.State.{AbstractState}
use Rattle.bpf_cert.specs.View.{label_view}
use Rattle.bpf_cert.specs.Limits.{is_limited_label}
use Rattle.bpf_safety.specs.Flow.{Arrival, label_state}
use Rattle.bpf_check.specs.code.Slack.{at_label, IsWithin}
use Rattle.bpf_check.specs.declared.arrival.Here.{Here}
use Rattle.bpf_check.specs.declared.arrival.Walk.{Walk}

-- the state at the last label isn't kept: the label tells it
abbrev pub arrival_of : AbstractState → Here → Arrival
arrival_of s h = record { state = s; label = label_view h.label.now; at_label = at_label (label_view h.label.now); cost = h.cost }

-- where nothing reaches, the state isn't looked at
abbrev pub walk_of : Walk → Option Arrival
walk_of w = option_map (arrival_of w.state) w.here

-- what holds of the label and the cost where an instruction at a slot is reached
pub record IsReaching (slot : ℕ) (h : Here) : Type 0 where
  pub limited : IsTrue (is_limited_label (label_view h.label.now))
  pub alive : IsSome (label_state (label_view h.label.now))
  pub cost : IfSome h.cost (λ z. IsWithin (slot * 2 ^ 94) z)
