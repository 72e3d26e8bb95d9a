-- An instruction in its place, with what is looked up there.
use Rattle.std.specs.Prelude.{◌≡◌, ℕ, ◌+◌, ◌<◌, ◌≤◌, ℤ, List, Option, None, option_map, option_copied, IfSome, IsTrue}
use Rattle.bpf_insn.specs.Instruction.{Instructions, slot_count}
use Rattle.bpf_insn.specs.Limits.{greatest_slot}
use Rattle.bpf_cert.specs.View.{LabelView, CertificateView, label_view, function_view}
use Rattle.bpf_cert.specs.Limits.{is_limited_label}
use Rattle.bpf_safety.specs.Labels.{label_at, function_at}
use Rattle.bpf_state.specs.State.{AbstractState}
use Rattle.bpf_safety.specs.Flow.{Visit, callee, jump_target, jump_state, next_state}
use Rattle.bpf_safety.specs.Flaw.{Edge, edge_to}
use Rattle.bpf_check.specs.code.Edges.{EdgeSeen, visit, edge_seen, edges_of, jump_seen, next_seen}
use Rattle.bpf_check.specs.declared.site.Spot.{Spot}
use Rattle.bpf_check.specs.declared.site.Callee.{Callee}
use Rattle.bpf_check.specs.declared.site.Site.{Site}

-- behind a slot and below another no label stands, and the function is the same
abbrev pub IsQuiet : CertificateView → ℕ → ℕ → Type 0
IsQuiet c slot until = (n : ℕ) → slot < n → n < until → (label_at c n ≡ None) × (function_at c n ≡ function_at c slot)

-- the function that a slot lies in, and the label there
pub record IsSpot (c : CertificateView) (s : Spot) : Type 0 where
  pub function : option_map function_view (option_copied s.function) ≡ function_at c s.slot
  pub label : option_map label_view (option_copied s.label) ≡ label_at c s.slot
  pub limited : IfSome s.label (λ l. IsTrue (is_limited_label (label_view l.now)))
  pub quiet : IsQuiet c s.slot s.until

-- the label at a function's first slot
pub record IsEntry (c : CertificateView) (f : Callee) : Type 0 where
  pub label : option_map label_view (option_copied f.label) ≡ label_at c f.function.now.first
  pub limited : IfSome f.label (λ l. IsTrue (is_limited_label (label_view l.now)))

-- the slots that an instruction leads to, each with what stands there
pub record IsSite (s : Site) : Type 0 where
  pub few : s.here.slot ≤ greatest_slot
  pub here : IsSpot s.certificate.now s.here
  pub next_slot : s.next.slot ≡ s.here.slot + slot_count s.insn
  pub next : IsSpot s.certificate.now s.next
  pub jump_slot : option_map (λ t. t.slot) s.jump ≡ jump_target s.here.slot s.insn
  pub jump : IfSome s.jump (λ t. IsSpot s.certificate.now t)
  pub callee : option_map (λ f. function_view f.function.now) s.callee ≡ callee s.certificate.now s.here.slot s.insn
  pub entry : IfSome s.callee (λ f. IsEntry s.certificate.now f)

-- the visit of an instruction, of which the arrival isn't looked at
abbrev pub visit_at : Site → Visit
visit_at s = visit s.here.slot s.insn

-- the live edge of its jump, from the state after it
abbrev pub jump_edge : Site → AbstractState → List Edge
jump_edge s t = edge_to (jump_target s.here.slot s.insn) (jump_state s.here.slot s.insn t)

-- the live edges of a site's instruction, from the state after it
abbrev pub edges_at : Site → AbstractState → List Edge
edges_at s t = edges_of s.certificate.now s.here.slot s.insn t

-- what is seen of the edge of a site's jump, if it is one, from the state after it
abbrev pub jump_seen_at : Site → LabelView → Option ℤ → AbstractState → Option EdgeSeen
jump_seen_at s old cost t = jump_seen s.certificate.now old cost s.here.slot s.insn t

-- what is seen of a site's edge to the next instruction, from the state after it
abbrev pub next_seen_at : Site → LabelView → Option ℤ → AbstractState → EdgeSeen
next_seen_at s old cost t = next_seen s.certificate.now old cost s.here.slot s.insn t

-- what is seen of a site's edge to the next instruction, from the state before it
abbrev pub next_seen_before : Instructions → Site → LabelView → Option ℤ → AbstractState → EdgeSeen
next_seen_before p s old cost t =
    edge_seen s.certificate.now old cost (s.here.slot + slot_count s.insn) (next_state p s.certificate.now s.here.slot s.insn t)
