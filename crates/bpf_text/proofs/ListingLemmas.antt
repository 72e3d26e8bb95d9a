-- The listing, slot by slot.
use Rattle.std.proofs.Common.{◌≡◌, ℕ, List, [], ◌∷◌, ◌++◌, Option, Some, None, refl, ap}
use Rattle.std.specs.Prelude.{flat_map}
use Rattle.bpf_insn.specs.Instruction.{layout}
use Rattle.bpf_insn.specs.declared.instruction.Insn.{Insn}
use Rattle.bpf_insn.specs.declared.instruction.Insn.TheVariants.{LoadImm64}
use Rattle.bpf_text.specs.Listing.{line_text, listing}

-- the line of a slot, which the second one of a wide instruction lacks
abbrev pub cell_text : Option Insn → List ℕ
cell_text None = []
cell_text (Some i) = line_text i

pub listing_by_slot : (is : List Insn) → flat_map cell_text (layout is) ≡ listing is
listing_by_slot [] = refl
listing_by_slot (LoadImm64 dst value ∷ is) = ap (λ t. line_text (LoadImm64 dst value) ++ t) (listing_by_slot is)
listing_by_slot (i ∷ is) = ap (λ t. line_text i ++ t) (listing_by_slot is)
