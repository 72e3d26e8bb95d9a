-- A state that is stuck for too many frames stands at a CALL.
use Rattle.std.proofs.Common.{◌≡◌, ℕ, ◌+◌, ◌≤◌, refl, sym, ap, ◌∙◌, arith, ℤ, Bool, true, false, cond, not, ◌&&◌, List, [], ◌∷◌, take, drop, Option, Some, None, is_some, option_and_then}
use Rattle.std.proofs.lemmas.Bool.{false≢true, true≢false}
use Rattle.std.proofs.lemmas.Bool.Decides.{nat_tests}
use Rattle.bpf_insn.specs.declared.instruction.Insn.{Insn}
use Rattle.bpf_insn.specs.declared.instruction.Insn.TheVariants.{CallLocal}
use Rattle.bpf_semantics.specs.declared.reason.Reason.{Reason}
use Rattle.bpf_semantics.specs.declared.reason.Reason.TheVariants.{UnsetRegister, UnsetByte, OutOfBounds, ContextWrite, FramePointerWrite, OperandKind, TooManyFrames, PointerResult}
use Rattle.bpf_insn.specs.Instruction.{Instructions, insn_at, byte_count}
use Rattle.bpf_semantics.specs.State as machine
use Rattle.bpf_semantics.specs.Stuck as stuck
use Rattle.bpf_semantics.specs.Stuck.{reason_of, reason_of_insn, reason_at, reason_if, first_of, first_unreadable, unreadable_at, unreadable, loads_pointer, accessed, has_no_frame, exits_with_pointer, writes_context, has_wrong_kind, reads_unset}
use Rattle.bpf_insn.specs.Effects.{access_of, writes_frame_pointer}
use Rattle.bpf_semantics.specs.State.{Cell}
use Rattle.bpf_semantics.specs.State.Cell.{Byte, Part}
use Rattle.bpf_semantics.specs.Memory as memory
use Rattle.bpf_semantics.specs.Memory.{stack_of}
use Rattle.bpf_semantics.specs.Memory.Location.{InContext, InFrame}
use Rattle.bpf_safety.proofs.Basics.{some_is}

-- without a CALL there is no reason of too many frames
is_frames : Reason → Bool
is_frames TooManyFrames = true
is_frames why = false

frames_apart : (why : Reason) → why ≡ TooManyFrames → is_frames why ≡ true
unfolding is_frames
frames_apart why e = ap is_frames e

skip : (test : Bool) (why : Reason) (rest : List (Option Reason)) → is_frames why ≡ false → first_of (reason_if test why ∷ rest) ≡ Some TooManyFrames → first_of rest ≡ Some TooManyFrames
skip true why rest apart e = absurd (true≢false (sym (frames_apart why (some_is why TooManyFrames e)) ∙ apart))
skip false why rest apart e = e

skip_option : (o : Option Reason) (rest : List (Option Reason)) → (o ≡ Some TooManyFrames → ⊥) → first_of (o ∷ rest) ≡ Some TooManyFrames → first_of rest ≡ Some TooManyFrames
skip_option (Some why) rest apart e = absurd (apart e)
skip_option None rest apart e = e

unreadable_apart : (cells : List (Option Cell)) → first_unreadable cells ≡ Some TooManyFrames → ⊥
unfolding is_frames
unreadable_apart [] e = false≢true (ap is_some e)
unreadable_apart (None ∷ cells) e = false≢true (frames_apart UnsetByte (some_is UnsetByte TooManyFrames e))
unreadable_apart (Some (Part i region off) ∷ cells) e = false≢true (frames_apart OperandKind (some_is OperandKind TooManyFrames e))
unreadable_apart (Some (Byte b) ∷ cells) e = unreadable_apart cells e

place_apart : (m : machine.State) (k : ℕ) (place : memory.Location) → unreadable_at m k place ≡ Some TooManyFrames → ⊥
place_apart m k (InContext at) e = false≢true (ap is_some e)
place_apart m k (InFrame n at) e = unreadable_apart (take k (drop at (stack_of m n))) e

chain_apart : {A : Type 0} (o : Option A) (f : A → Option Reason) → ((a : A) → f a ≡ Some TooManyFrames → ⊥) → option_and_then f o ≡ Some TooManyFrames → ⊥
chain_apart None f h e = false≢true (ap is_some e)
chain_apart (Some a) f h e = h a e

if_apart : (b : Bool) (o : Option Reason) → (o ≡ Some TooManyFrames → ⊥) → cond b o None ≡ Some TooManyFrames → ⊥
if_apart true o h e = h e
if_apart false o h e = false≢true (ap is_some e)

cells_apart : (m : machine.State) (i : Insn) → unreadable m i ≡ Some TooManyFrames → ⊥
cells_apart m i e =
    chain_apart (access_of i) (λ a. cond (a.reads && not (loads_pointer m i)) (option_and_then (unreadable_at m (byte_count a.size)) (accessed m a)) None)
    (λ a. if_apart (a.reads && not (loads_pointer m i)) (option_and_then (unreadable_at m (byte_count a.size)) (accessed m a)) (chain_apart (accessed m a) (unreadable_at m (byte_count a.size)) (place_apart m (byte_count a.size)))) e

call_is : (m : machine.State) (i : Insn) → has_no_frame m i ≡ true → (off : ℤ) × (i ≡ CallLocal off) × (8 ≤ machine.depth m + 1)
call_is m (CallLocal off) e = (off, refl, grind (arith, nat_tests))
call_is m i e = absurd (false≢true e)

frames_last : (m : machine.State) (i : Insn) (b c : Bool) → b ≡ has_no_frame m i → first_of (reason_if b TooManyFrames ∷ reason_if c PointerResult ∷ []) ≡ Some TooManyFrames → (off : ℤ) × (i ≡ CallLocal off) × (8 ≤ machine.depth m + 1)
unfolding is_frames
frames_last m i true c e f = call_is m i (sym e)
frames_last m i false true e f = absurd (false≢true (frames_apart PointerResult (some_is PointerResult TooManyFrames f)))
frames_last m i false false e f = absurd (false≢true (ap is_some f))

only_calls_at : (m : machine.State) (i : Insn) → reason_at m i ≡ Some TooManyFrames → (off : ℤ) × (i ≡ CallLocal off) × (8 ≤ machine.depth m + 1)
unfolding reason_at is_frames
only_calls_at m i e =
    let t8 = reason_if (exits_with_pointer m i) PointerResult ∷ [] in
    let t7 = reason_if (has_no_frame m i) TooManyFrames ∷ t8 in
    let t6 = unreadable m i ∷ t7 in
    let t5 = reason_if (writes_context m i) ContextWrite ∷ t6 in
    let t4 = reason_if (stuck.is_out_of_bounds m i) OutOfBounds ∷ t5 in
    let t3 = reason_if (has_wrong_kind m i) OperandKind ∷ t4 in
    let t2 = reason_if (reads_unset m i) UnsetRegister ∷ t3 in
    let e2 = skip (writes_frame_pointer i) FramePointerWrite t2 refl e in
    let e3 = skip (reads_unset m i) UnsetRegister t3 refl e2 in
    let e4 = skip (has_wrong_kind m i) OperandKind t4 refl e3 in
    let e5 = skip (stuck.is_out_of_bounds m i) OutOfBounds t5 refl e4 in
    let e6 = skip (writes_context m i) ContextWrite t6 refl e5 in
    let e7 = skip_option (unreadable m i) t7 (cells_apart m i) e6 in
    frames_last m i (has_no_frame m i) (exits_with_pointer m i) refl e7

pub only_calls : (p : Instructions) (m : machine.State) (i : Insn) → insn_at p.list m.top.slot ≡ Some i → reason_of p m ≡ Some TooManyFrames → (off : ℤ) × (i ≡ CallLocal off) × (8 ≤ machine.depth m + 1)
unfolding reason_of
only_calls p m i stands e = only_calls_at m i (ap (reason_of_insn m) (sym stands) ∙ e)
