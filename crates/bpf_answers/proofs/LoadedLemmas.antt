-- The program of the bytes that were read at a name.
use Rattle.std.proofs.Common.{◌≡◌, ◌⊎◌, ℕ, List, Result, Ok, Err, IfOk, IfErr, MatchResult, subst, inl, inr}
use Rattle.bpf_insn.specs.Instruction.{Instructions}
use Rattle.bpf_insn.specs.Image.{IsImage, IsProgram}
use Rattle.bpf_insn.specs.Refusal.{IsRefused}
use Rattle.bpf_insn.specs.declared.order.Order.{Order}
use Rattle.bpf_insn.specs.declared.refusal.DecodeError.{DecodeError}
use Rattle.bpf_insn.specs.declared.refusal.DecodeError.TheVariants.{Memory}
use Rattle.bpf_answers.specs.Opened.{Opening, ReadsAt}
use Rattle.bpf_answers.specs.Loaded.{NoSpaceFor, ImageRefused, LoadsImage}

pub decoded : {S : Type 0} (opening : Opening S) (order : Order) (old : S) (name bytes : List ℕ) (new : S) (result : Result Instructions DecodeError)
    → ReadsAt opening old name bytes new
    → IfOk result (λ p. IsImage order p.list bytes × (p.order ≡ order)) → IfOk result (λ p. IsProgram p.list) → IfErr result (λ e. (e ≡ Memory) ⊎ IsRefused order bytes e)
    → MatchResult result (LoadsImage opening order old name new) (ImageRefused opening order old name new)
decoded opening order old name bytes new (Ok p) read image program err =
    record { bytes = bytes; read = read; is_image = record { program = program; bytes_are = image.0.bytes_are }; order_is = image.1 }
decoded opening order old name bytes new (Err e) read image program (inl m) = inl ((read.known, read.opened), m)
decoded opening order old name bytes new (Err e) read image program (inr r) = inr (bytes, read, r)

-- what `image_at` answers, where it read the image
pub read_of : {S V : Type 0} (opening : Opening S) (items : V → List ℕ) (old : S) (name : List ℕ) (new : S) (read : Result V DecodeError) (v : V) (bytes : List ℕ)
    → read ≡ Ok v → items v ≡ bytes → MatchResult read (λ v. ReadsAt opening old name (items v) new) (NoSpaceFor opening old name new) → ReadsAt opening old name bytes new
read_of opening items old name new read v bytes is same h =
    subst (λ b. ReadsAt opening old name b new) same (subst (λ r. MatchResult r (λ v. ReadsAt opening old name (items v) new) (NoSpaceFor opening old name new)) is h)
