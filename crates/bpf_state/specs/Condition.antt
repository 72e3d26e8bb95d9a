-- The conditions of the checker: the number of each, and what is told where it fails.
use Rattle.std.specs.Prelude.{ℕ, List, [], ◌∷◌, codes}
use Rattle.bpf_state.specs.declared.fault.StateFault.{StateFault}
use Rattle.bpf_state.specs.declared.fault.StateFault.TheVariants.{UnsetRegister, WrongKinds, OutOfBounds, UnsetByte, Protected}
use Rattle.bpf_state.specs.declared.condition.Condition.{Condition}
use Rattle.bpf_state.specs.declared.condition.Condition.TheVariants.{NoLabel, MisplacedLabel, State, NotEntailed, OverBudget, NoDeeper, FallsOff, LeavesFunction, Misshapen}

-- of registers and memory, C3 to C7
abbrev pub fault_number : StateFault → ℕ
fault_number UnsetRegister = 3
fault_number WrongKinds = 4
fault_number OutOfBounds = 5
fault_number UnsetByte = 6
fault_number Protected = 7

-- all: C1 to C13
abbrev pub condition_number : Condition → ℕ
condition_number NoLabel = 1
condition_number MisplacedLabel = 2
condition_number (State fault) = fault_number fault
condition_number NotEntailed = 8
condition_number OverBudget = 9
condition_number NoDeeper = 10
condition_number FallsOff = 11
condition_number LeavesFunction = 12
condition_number Misshapen = 13

-- what is told where C1 to C13 fail, by their numbers and without the slots; there is no number 0
abbrev pub condition_texts : List (List ℕ)
condition_texts =
    [] ∷
    codes "no label stands at the jump's target" ∷
    codes "the label is at no instruction's first slot" ∷
    codes "a register is read that may be uninitialised" ∷
    codes "the kinds of operands or slots are wrong" ∷
    codes "an access or a pointer may leave its bounds" ∷
    codes "a stack byte is read that may be uninitialised" ∷
    codes "the context or r10 is written" ∷
    codes "a state doesn't entail what is claimed where it leads to" ∷
    codes "the budget doesn't cover the cost" ∷
    codes "the callee's depth isn't below its caller's" ∷
    codes "the program's end can be passed, or nothing leads here" ∷
    codes "the function is left otherwise than by an exit" ∷
    codes "the functions and labels don't fit, or the start doesn't" ∷
    []
