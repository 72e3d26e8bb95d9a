-- Why no certificate is proposed, I1 to I5: the number of each refusal, what is told of it, and the slot that it names.
use Rattle.std.specs.Prelude.{ℕ, ◌-◌, min, List, [], ◌∷◌, codes}
use Rattle.bpf_state.specs.declared.condition.Condition.{Condition as CheckerCondition}
use Rattle.bpf_state.specs.declared.condition.Condition.TheVariants.{State as OfState, FallsOff as PassesEnd, LeavesFunction as IsLeft}
use Rattle.bpf_state.specs.Condition.{condition_number as checker_number}
use Rattle.bpf_infer_base.specs.declared.condition.ForeseenCondition.{ForeseenCondition}
use Rattle.bpf_infer_base.specs.declared.condition.ForeseenCondition.TheVariants.{State, FallsOff, LeavesFunction}
use Rattle.bpf_infer_base.specs.declared.error.InferError.{InferError}
use Rattle.bpf_infer_base.specs.declared.error.InferError.TheVariants.{Unstable, NoBudget, Recursion, Fault, Memory}

-- a condition among all of the checker's, and its number there
abbrev pub of_checker : ForeseenCondition → CheckerCondition
of_checker (State fault) = OfState fault
of_checker FallsOff = PassesEnd
of_checker LeavesFunction = IsLeft

abbrev pub condition_number : ForeseenCondition → ℕ
condition_number condition = checker_number (of_checker condition)

abbrev pub infer_number : InferError → ℕ
infer_number (Unstable slot) = 1
infer_number (NoBudget slot) = 2
infer_number (Recursion slot) = 3
infer_number (Fault slot condition) = 4
infer_number Memory = 5

-- what is told of I1 to I5, by their numbers and without the slots; there is no number 0
abbrev pub infer_texts : List (List ℕ)
infer_texts =
    [] ∷
    codes "states of the function aren't stable" ∷
    codes "a loop isn't counted, or calls are too deep or too many" ∷
    codes "recursion by the call" ∷
    codes "the checker would refuse the instruction" ∷
    codes "out of memory" ∷
    []

abbrev pub infer_slot : InferError → ℕ
infer_slot (Unstable slot) = slot
infer_slot (NoBudget slot) = slot
infer_slot (Recursion slot) = slot
infer_slot (Fault slot condition) = slot
infer_slot Memory = 0

-- the same refusal with a slot of a program of so many, its last one in the place of one behind it
abbrev pub within : ℕ → InferError → InferError
within slots (Unstable slot) = Unstable (min slot (slots - 1))
within slots (NoBudget slot) = NoBudget (min slot (slots - 1))
within slots (Recursion slot) = Recursion (min slot (slots - 1))
within slots (Fault slot condition) = Fault (min slot (slots - 1)) condition
within slots Memory = Memory
