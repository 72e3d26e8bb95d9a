-- Why a program isn't hardened, H1 to H12: the number of each refusal, what is told of it, and the slot that it names.
use Rattle.std.specs.Prelude.{ℕ, ◌-◌, min, List, [], ◌∷◌, codes}
use Rattle.bpf_infer_base.specs.declared.harden_error.HardenError.{HardenError}
use Rattle.bpf_infer_base.specs.declared.harden_error.HardenError.TheVariants.{FramePointer, MixedKinds, FullFrame, TooLong, Recursion, FiveArguments, Fault, NoBudget, FarJump, Unstable, ShortBlock, Memory}

abbrev pub harden_number : HardenError → ℕ
harden_number (FramePointer slot) = 1
harden_number (MixedKinds slot) = 2
harden_number (FullFrame slot) = 3
harden_number (TooLong slot) = 4
harden_number (Recursion slot) = 5
harden_number (FiveArguments slot) = 6
harden_number (Fault slot condition) = 7
harden_number (NoBudget slot) = 8
harden_number (FarJump slot) = 9
harden_number (Unstable slot) = 10
harden_number ShortBlock = 11
harden_number Memory = 12

-- what is told of H1 to H12, by their numbers and without the slots; there is no number 0
abbrev pub harden_texts : List (List ℕ)
harden_texts =
    [] ∷
    codes "access by an argument that may be a frame pointer" ∷
    codes "instruction reads what isn't of the same kind on each way" ∷
    codes "no room in the registers and the frame of the function" ∷
    codes "the hardened program would have more than 65,536 slots" ∷
    codes "recursion by the call" ∷
    codes "no argument left for the context in the function" ∷
    codes "instruction can't be hardened" ∷
    codes "no budget is found for the loop, or at slot 0 for the program" ∷
    codes "the jump would lead too far" ∷
    codes "states of the function aren't stable" ∷
    codes "a block has at least the eight bytes of its length" ∷
    codes "out of memory" ∷
    []

abbrev pub harden_slot : HardenError → ℕ
harden_slot (FramePointer slot) = slot
harden_slot (MixedKinds slot) = slot
harden_slot (FullFrame slot) = slot
harden_slot (TooLong slot) = slot
harden_slot (Recursion slot) = slot
harden_slot (FiveArguments slot) = slot
harden_slot (Fault slot condition) = slot
harden_slot (NoBudget slot) = slot
harden_slot (FarJump slot) = slot
harden_slot (Unstable slot) = slot
harden_slot ShortBlock = 0
harden_slot Memory = 0

-- the same refusal with a slot of a program of so many, its last one in the place of one behind it
abbrev pub within : ℕ → HardenError → HardenError
within slots (FramePointer slot) = FramePointer (min slot (slots - 1))
within slots (MixedKinds slot) = MixedKinds (min slot (slots - 1))
within slots (FullFrame slot) = FullFrame (min slot (slots - 1))
within slots (TooLong slot) = TooLong (min slot (slots - 1))
within slots (Recursion slot) = Recursion (min slot (slots - 1))
within slots (FiveArguments slot) = FiveArguments (min slot (slots - 1))
within slots (Fault slot condition) = Fault (min slot (slots - 1)) condition
within slots (NoBudget slot) = NoBudget (min slot (slots - 1))
within slots (FarJump slot) = FarJump (min slot (slots - 1))
within slots (Unstable slot) = Unstable (min slot (slots - 1))
within slots ShortBlock = ShortBlock
within slots Memory = Memory
