-- From the names of labels to their slots, by chains or by a sorted map; and what stands at a slot.
use Rattle.std.specs.Prelude.{ℕ, List, Option, map, ◌*◌, take, drop}
use Rattle.std.specs.List.{concat}
use Rattle.std.specs.Cmp.Lexicographic.{slice_cmp}
use Rattle.std.specs.Ordering.{nat_cmp}
use Rattle.std.specs.BTreeMap.{BTreeMap, get_by}
use denote.Bor.{Bor}
use Rattle.bpf_insn.specs.Instruction.{slot_count}
use Rattle.bpf_insn.specs.declared.instruction.Insn.{Insn}
use Rattle.bpf_text.specs.declared.names.Names.{Names}
use Rattle.bpf_text.specs.declared.names.Names.TheVariants.{Chained, Sorted}
use Rattle.bpf_text.specs.Listing.{pieces}
use Rattle.bpf_text.specs.Annotated.{comment, commented}
use Rattle.bpf_text.specs.declared.annotated.Notes.{Notes}
use Rattle.bpf_text.specs.Assembly.{slot_of}
use Rattle.bpf_text.specs.code.Chains.{entry_label}

abbrev pub slots_sorted : BTreeMap (Bor (List ℕ)) ℕ → List ℕ → Option ℕ
slots_sorted m name = get_by (λ k. slice_cmp nat_cmp name k.now) m

abbrev pub slots_in : Names → List ℕ → Option ℕ
slots_in (Chained c) name = slot_of (map entry_label c.entries.items) name
slots_in (Sorted m) name = slots_sorted m name

-- the line of the instruction at a slot, with its bytes taken from an image
abbrev pub line_at : Notes → List ℕ → ℕ → Insn → List ℕ
line_at notes image slot i = commented (concat (pieces i)) (comment notes slot (take (8 * slot_count i) (drop (8 * slot) image)))
