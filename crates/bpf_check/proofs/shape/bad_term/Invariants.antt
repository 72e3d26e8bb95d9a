use Rattle.std.proofs.Common.{◌≡◌, false, drop, take}
use Rattle.std.specs.Prelude.{find}
use Rattle.std.specs.List.{list_any}
use Rattle.bpf_cert.specs.View.{label_view}
use Rattle.bpf_safety.specs.Flaw.{is_bad_term}
use Rattle.bpf_check.proofs.shape.bad_term.Given as goal

abbrev pub invariant-loop-term : goal.invariant-loop-term
invariant-loop-term l = record {
  none : list_any (is_bad_term (label_view l.label)) (take l.term-index l.terms) ≡ false;
  first : find (is_bad_term (label_view l.label)) (drop l.term-index l.terms) ≡ find (is_bad_term (label_view l.label)) l.terms;
}
