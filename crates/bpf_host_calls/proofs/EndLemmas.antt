-- How a run of a verified image ends.
use Rattle.std.proofs.Common.{◌≡◌, ◌≤◌, ◌<◌, ◌^◌, ℕ, List, subst, arith}
use Rattle.bpf_insn.specs.Instruction.{Instructions}
use Rattle.bpf_insn.specs.Image.{IsProgram}
use Rattle.bpf_insn.specs.Laws.{AreBytes}
use Rattle.bpf_insn.specs.declared.order.Order.{Order}
use Rattle.bpf_semantics.specs.Run.{IsDone}
use Rattle.bpf_flat.specs.Runs.{Ends}
use Rattle.bpf_flat.specs.code.Ordered.{ImageRunsTo}
use Rattle.bpf_machine.specs.declared.outcome.Outcome.{Outcome}
use Rattle.bpf_machine.specs.declared.outcome.Outcome.TheVariants.{Done, Fault, OutOfFuel}
use Rattle.bpf_machine.proofs.RunLemmas.{StepLaws, one_outcome}
use Rattle.bpf_safety.specs.Describes.{LengthWithin}
use Rattle.bpf_safety.specs.Theorems.{IsSafe, IsFlatSafe}
use Rattle.bpf_check.specs.Verdicts.{program_in}
use Rattle.bpf_host_calls.specs.Answers.{IsVerifiedFor, EndsAsVerified}

-- a verdict promises that the run ends, and that the flat machine follows it
ends_within : (p : Instructions) (least most bound : ℕ) (context : List ℕ) → IsSafe p least most bound → IsFlatSafe p least most → AreBytes context → LengthWithin least most context → bound < 2 ^ 32 → Ends p 4294967295 context
ends_within p least most bound context safe flat bytes len fits =
    let e = safe.ends context (record { bytes = bytes; length_within = len }) in
    let in_time : e.steps ≤ bound = e.in_time in (
      e.value,
      record {
        steps = e.steps;
        in_time = omega arith;
        done = e.done;
        flat = λ place f g j is_place starts made. flat context place f g e.value e.steps j (record { bytes = bytes; length_within = len }) is_place starts e.done made;
      },
    )

pub ends : {order : Order} {image context : List ℕ} → AreBytes context → (for : IsVerifiedFor order image context) → Ends (program_in order for.verified.program) 4294967295 context
ends {order} {image} {context} bytes for =
    let v = for.verified in
    ends_within (program_in order v.program) for.least for.most for.bound context v.safe v.flat bytes for.length_within for.bound_fits

abbrev steps_within : ℕ → Outcome → Type 0
steps_within bound (Done v k) = k ≤ bound
steps_within bound (Fault slot why k) = ⊥
steps_within bound OutOfFuel = ⊥

-- the end of the run is the one that each verdict promises, so it comes within each bound
in_each_time : (laws : StepLaws) (p : Instructions) (least most bound : ℕ) (context : List ℕ) (v k : ℕ) → IsProgram p.list → IsSafe p least most bound → AreBytes context → LengthWithin least most context → bound < 2 ^ 32 → IsDone p context v k → k ≤ 4294967295 → k ≤ bound
in_each_time laws p least most bound context v k program safe bytes len fits done few =
    let e = safe.ends context (record { bytes = bytes; length_within = len }) in
    let in_time : e.steps ≤ bound = e.in_time in
    let fuel : e.steps ≤ 4294967295 = omega arith in
    let same : Done e.value e.steps ≡ Done v k = one_outcome laws p context 4294967295 (Done e.value e.steps) (Done v k) program (e.done, fuel) (done, few) in
    subst (steps_within bound) same in_time

pub as_verified : {order : Order} {image context : List ℕ} → StepLaws → AreBytes context → (v : ℕ) → ImageRunsTo order image 4294967295 context v → EndsAsVerified order image context v
as_verified {order} {image} {context} laws bytes v runs least most bound verified fits len =
    let p = program_in order verified.program in
    let run = runs verified.program verified.is_image in
    record {
      program = verified.program;
      is_image = verified.is_image;
      steps = run.steps;
      in_time = in_each_time laws p least most bound context v run.steps verified.is_image.program verified.safe bytes len fits run.done run.in_time;
      done = run.done;
    }

-- ---- what is prepared

pub as_prepared : (o order : Order) (i image context : List ℕ) (v : ℕ) → o ≡ order → i ≡ image → EndsAsVerified o i context v → EndsAsVerified order image context v
as_prepared o order i image context v order_is image_is ends = subst (λ q. EndsAsVerified q image context v) order_is (subst (λ b. EndsAsVerified o b context v) image_is ends)
