-- What is seen of labels and functions.
use Rattle.std.proofs.Common.{◌≡◌, ◌||◌, ◌++◌, ap, ap₂, ◌∙◌}
use Rattle.std.specs.Prelude.{is_none, is_some}
use Rattle.std.specs.List.{list_any}
use Rattle.bpf_insn.specs.Instruction.{Instructions, insn_at}
use Rattle.bpf_cert.specs.View.{FunctionView, CertificateView, label_view}
use Rattle.bpf_safety.specs.Flaw.{number_if, is_bad_term, numbers_of_label}
use Rattle.bpf_check.specs.code.Standing.{IsSeenLabel, numbers_of_seen}
use Rattle.bpf_check.specs.declared.shape.SeenLabel.{SeenLabel}

-- the conditions on a label follow from what is seen of it
pub numbers_seen : (p : Instructions) (c : CertificateView) (f : FunctionView) (s : SeenLabel) → IsSeenLabel p c f s → numbers_of_seen s ≡ numbers_of_label p c f (label_view s.label.now)
numbers_seen p c f s seen =
    ap (λ b. number_if 2 b ++ number_if 9 (is_some s.bad) ++ number_if 13 (s.is_outside || s.is_empty)) seen.misplaced
    ∙ ap (λ b. number_if 2 (is_none (insn_at p.list s.label.now.slot)) ++ number_if 9 b ++ number_if 13 (s.is_outside || s.is_empty)) seen.bad
    ∙ ap (λ b. number_if 2 (is_none (insn_at p.list s.label.now.slot)) ++ number_if 9 (list_any (is_bad_term (label_view s.label.now)) (label_view s.label.now).terms) ++ number_if 13 b) (ap₂ (λ a b. a || b) seen.outside seen.empty)
