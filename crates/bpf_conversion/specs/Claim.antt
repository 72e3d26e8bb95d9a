-- The certificate of a converted filter: a label at each leader of a block, with what is known there, and the longest way as its budget, with one more turn for
-- each that is left.
use Rattle.std.specs.Prelude.{ℕ, ◌+◌, ◌*◌, min, nat_lt, Bool, ◌&&◌, List, [], ◌∷◌, length, get_or, flat_map, if◌then◌else◌}
use Rattle.std.specs.List.{range_with_len}
use Rattle.bpf_insn.specs.declared.instruction.Insn.{Insn}
use Rattle.bpf_insn.specs.declared.instruction.Reg.TheVariants.{R5}
use Rattle.bpf_num.specs.Number.{top}
use Rattle.bpf_state.specs.declared.known.Place.TheVariants.{Register}
use Rattle.bpf_cert.specs.Limits.{max_steps}
use Rattle.bpf_cert.specs.View.{LabelView, CertificateView}
use Rattle.bpf_cert.specs.declared.certificate.Measure.TheVariants.{Down}
use Rattle.bpf_cert.specs.declared.certificate.Term.{Term}
use Rattle.bpf_classic.specs.declared.instruction.Classic.{Classic}
use Rattle.bpf_classic.specs.declared.refusal.Kind.{Kind}
use Rattle.bpf_classic.specs.Longest.{longest_ways, turn, longest}
use Rattle.bpf_classic.specs.Meaning.{Conversion, IsConverted, HasStarts}
use Rattle.bpf_classic.specs.declared.layout.Layout.{Layout}
use Rattle.bpf_classic.specs.declared.layout.Annotated.{Annotated}
use Rattle.bpf_conversion.specs.Parts.{part_at, opens}
use Rattle.bpf_conversion.specs.Known.{known_at}
use Rattle.bpf_conversion.specs.Leaders.{is_leader}
use Rattle.bpf_conversion.specs.declared.parts.Stretch.{Stretch}
use Rattle.bpf_conversion.specs.declared.parts.Stretch.TheVariants.{Entry, Template, Trap}

-- what `convert` gives
pub record IsConversion (c : Conversion) : Type 0 where
  pub kind : Kind
  pub filter : List Classic
  pub converted : IsConverted kind filter c.layout c.marked c.program
  pub starts : HasStarts c.layout c.marked c.starts

-- ---- budgets

-- by the longest ways from all slots and the longest one from where a jump back leads: the entry pays for all turns, a template for those that are left
abbrev pub base_at : Layout → List ℕ → ℕ → Stretch → ℕ → ℕ
base_at l ways turn Entry slot = get_or ways slot 0 + l.turns * turn
base_at l ways turn (Template a offset) slot = get_or ways slot 0
base_at l ways turn (Trap offset) slot = get_or ways slot 0

abbrev pub turn_terms : Bool → ℕ → List Term
turn_terms loops turn = if loops && nat_lt 0 turn then record { weight = turn; measure = Down (Register R5) } ∷ [] else []

abbrev pub terms_at : Layout → ℕ → Stretch → List Term
terms_at l turn Entry = []
terms_at l turn (Template a offset) = turn_terms l.loops turn
terms_at l turn (Trap offset) = []

-- ---- labels

abbrev pub label_in : Layout → List Annotated → List Insn → Stretch → ℕ → LabelView
label_in l marked list part slot =
    record { slot = slot; state = known_at l marked part slot; base = base_at l (longest_ways list) (turn list) part slot; terms = terms_at l (turn list) part }

abbrev pub label_of : Layout → List Annotated → List Insn → ℕ → LabelView
label_of l marked list slot = label_in l marked list (part_at l marked slot) slot

-- a leader where a label can stand
abbrev pub wants_label : Layout → List Annotated → List Insn → ℕ → Bool
wants_label l marked list slot = is_leader list slot && opens l (part_at l marked slot) slot

abbrev pub label_if : Layout → List Annotated → List Insn → ℕ → List LabelView
label_if l marked list slot = if wants_label l marked list slot then label_of l marked list slot ∷ [] else []

abbrev pub labels_of : Layout → List Annotated → List Insn → List LabelView
labels_of l marked list = flat_map (label_if l marked list) (range_with_len 0 (length list))

-- ---- the certificate, for contexts of the layout's length alone

abbrev pub claim_of : Layout → List Annotated → List Insn → CertificateView
claim_of l marked list =
    record {
      version = 2;
      least = l.length;
      most = l.length;
      steps = min (longest l.turns list) max_steps;
      functions = record { first = 0; depth = 1; ret = top; labels = labels_of l marked list } ∷ [];
    }

abbrev pub claim : Conversion → CertificateView
claim c = claim_of c.layout c.marked c.program.list
