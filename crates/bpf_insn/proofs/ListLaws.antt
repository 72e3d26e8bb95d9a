-- A list of instructions isn't both a program and refused, and is refused once.
use Rattle.std.proofs.Common.{◌≡◌, ℕ, inl, inr, List, refl, ap, arith}
use Rattle.std.specs.Prelude.{Option}
use Rattle.bpf_insn.specs.Instruction.{layout, FailsFirst}
use Rattle.bpf_insn.specs.Image.{IsProgram}
use Rattle.bpf_insn.specs.Refusal.{IsNoProgram, IsBadCount}
use Rattle.bpf_insn.specs.Refusal.IsNoProgram.{bad_count, no_encoding, no_target}
use Rattle.bpf_insn.specs.declared.instruction.Insn.{Insn}
use Rattle.bpf_insn.specs.declared.refusal.BuildError.{BuildError}
use Rattle.bpf_insn.specs.declared.refusal.BuildError.TheVariants.{NoEncoding, Target}
use Rattle.bpf_insn.proofs.ImageLaws.{in_order}
use Rattle.bpf_insn.proofs.ProgramLemmas.{encodings_fail}

good_count : (is : List Insn) → IsProgram is → IsBadCount is → ⊥
good_count is p (inl none) = let some = p.some_slot in omega arith
good_count is p (inr many) = let few = p.few_slots in omega arith

pub list_never_both : (is : List Insn) (error : BuildError) → IsProgram is → IsNoProgram is error → ⊥
list_never_both is error p (bad_count h) = good_count is p h
list_never_both is error p (no_encoding {slot} good f) = encodings_fail (layout is) is slot refl p.encoding f
list_never_both is error p (no_target {slot} good h f) = f.fails (p.targets slot f.insn f.stands)

-- there is one lowest slot
one_lowest : (good : ℕ → Insn → Type 0) (cells : List (Option Insn)) (m n : ℕ) → FailsFirst good cells m → FailsFirst good cells n → m ≡ n
one_lowest good cells m n f g = in_order m n (λ less. f.fails (g.lower m f.insn less f.stands)) (λ more. g.fails (f.lower n g.insn more g.stands))

pub list_refused_once : (is : List Insn) (error other : BuildError) → IsNoProgram is error → IsNoProgram is other → error ≡ other
list_refused_once is error other (bad_count h) (bad_count k) = refl
list_refused_once is error other (bad_count h) (no_encoding good f) = absurd (good h)
list_refused_once is error other (bad_count h) (no_target good all f) = absurd (good h)
list_refused_once is error other (no_encoding good f) (bad_count h) = absurd (good h)
list_refused_once is error other (no_encoding {slot} good f) (no_encoding {slot = slot'} good' f') = ap (λ s. NoEncoding s) (one_lowest _ (layout is) slot slot' f f')
list_refused_once is error other (no_encoding {slot} good f) (no_target good' all f') = absurd (encodings_fail (layout is) is slot refl all f)
list_refused_once is error other (no_target good all f) (bad_count h) = absurd (good h)
list_refused_once is error other (no_target good all f) (no_encoding {slot} good' f') = absurd (encodings_fail (layout is) is slot refl all f')
list_refused_once is error other (no_target {slot} good all f) (no_target {slot = slot'} good' all' f') = ap (λ s. Target s) (one_lowest _ (layout is) slot slot' f f')
