-- The number of each reason why an instruction of RFC 9669, sections 4 and 5, can't be done, from 1 to 9, and what is told of it.
use Rattle.std.specs.Prelude.{ℕ, List, [], ◌∷◌, codes}
use Rattle.bpf_semantics.specs.declared.reason.Reason.{Reason}
use Rattle.bpf_semantics.specs.declared.reason.Reason.TheVariants.{UnsetRegister, UnsetByte, OutOfBounds, ContextWrite, FramePointerWrite, OperandKind, TooManyFrames, PastEnd, PointerResult}

abbrev pub reason_number : Reason → ℕ
reason_number UnsetRegister = 1
reason_number UnsetByte = 2
reason_number OutOfBounds = 3
reason_number ContextWrite = 4
reason_number FramePointerWrite = 5
reason_number OperandKind = 6
reason_number TooManyFrames = 7
reason_number PastEnd = 8
reason_number PointerResult = 9

-- what is told of F1 to F9, by their numbers; there is no number 0
abbrev pub reason_texts : List (List ℕ)
reason_texts =
    [] ∷
    codes "an uninitialised register is read" ∷
    codes "an uninitialised byte of a frame is read" ∷
    codes "the access isn't wholly inside the context or a live frame" ∷
    codes "the context is written" ∷
    codes "r10 is written" ∷
    codes "an operand is of the wrong kind" ∷
    codes "a call is made with eight live frames" ∷
    codes "the run is past the last instruction" ∷
    codes "r0 is a pointer at the exit" ∷
    []
