-- Instructions of which none has a fault are a filter.
use Rattle.std.proofs.Common.{◌≡◌, ℕ, suc, ◌+◌, ◌-◌, ◌<◌, ◌≤◌, List, [], ◌∷◌, length, Option, Some, None, refl, sym, ap, ap₂, ◌∙◌, subst, ⊎_elim, arith}
use Rattle.std.specs.Prelude.{filter_map, option_and_then, slice_get}
use Rattle.std.specs.List.{cons_option}
use Rattle.std.proofs.lemmas.Option.{none-some}
use Rattle.std.proofs.lemmas.Bool.{cases_lt}
use Rattle.bpf_classic.specs.Auxiliary.{instruction_in}
use Rattle.bpf_classic.specs.Valid.{max_filter, fault_of, fault_of_raw, fault_at, AreFaultless, IsFilter}
use Rattle.bpf_classic.specs.declared.instruction.Classic.{Classic}
use Rattle.bpf_classic.specs.declared.raw.Raw.{Raw}
use Rattle.bpf_classic.specs.declared.refusal.Kind.{Kind}

-- none has a fault, so many standing in front of the first
abbrev NoFault : Kind → ℕ → List Raw → Type 0
NoFault kind before raws = (at : ℕ) → at < length raws → fault_of_raw kind (before + at) (length raws - (at + 1)) (option_and_then (instruction_in kind) (slice_get raws at)) ≡ None

-- all instructions are there, and none has a fault
abbrev Faultless : Kind → ℕ → ℕ → List Classic → Type 0
Faultless kind before n filter = (length filter ≡ n) × AreFaultless kind before filter

first : (kind : Kind) (before : ℕ) (r : Raw) (rs : List Raw) → NoFault kind before (r ∷ rs) → fault_of_raw kind before (length rs) (instruction_in kind r) ≡ None
first kind before r rs h =
    let e : length rs ≡ length (r ∷ rs) - (0 + 1) = omega arith in
    let f : before ≡ before + 0 = omega arith in
    ap₂ (λ m n. fault_of_raw kind m n (instruction_in kind r)) f e ∙ h 0 (omega arith)

others : (kind : Kind) (before : ℕ) (r : Raw) (rs : List Raw) → NoFault kind before (r ∷ rs) → NoFault kind (before + 1) rs
others kind before r rs h at lt =
    let e : length rs - (at + 1) ≡ length (r ∷ rs) - (suc at + 1) = omega arith in
    let f : before + 1 + at ≡ before + suc at = omega arith in
    ap₂ (λ m n. fault_of_raw kind m n (option_and_then (instruction_in kind) (slice_get rs at))) f e ∙ h (suc at) (omega arith)

with_front : (kind : Kind) (before n : ℕ) (o : Option Classic) (rest : List Classic) → fault_of_raw kind before n o ≡ None → Faultless kind (before + 1) n rest → Faultless kind before (suc n) (cons_option o rest)
with_front kind before n None rest e f = absurd (none-some _ (sym e))
with_front kind before n (Some i) rest e f = (ap suc f.0, (ap (λ n. fault_of kind before n i) f.0 ∙ e, f.1))

each : (kind : Kind) (before : ℕ) (raws : List Raw) → NoFault kind before raws → Faultless kind before (length raws) (filter_map (instruction_in kind) raws)
each kind before [] h = (refl, tt)
each kind before (r ∷ rs) h = with_front kind before (length rs) (instruction_in kind r) (filter_map (instruction_in kind) rs) (first kind before r rs h) (each kind (before + 1) rs (others kind before r rs h))

pub are_faultless : (kind : Kind) (raws : List Raw) → 0 < length raws → length raws ≤ max_filter → ((at : ℕ) → at < length raws → fault_at kind raws at ≡ None) → IsFilter kind (filter_map (instruction_in kind) raws)
are_faultless kind raws some few h =
    let none : NoFault kind 0 raws = λ at lt. let e : 0 + at ≡ at = omega arith in ap (λ n. fault_of_raw kind n (length raws - (at + 1)) (option_and_then (instruction_in kind) (slice_get raws at))) e ∙ h at lt in
    let e = each kind 0 raws none in
    record { some = omega (arith, e.0); few = omega (arith, e.0); each = e.1 }

-- what holds below n and of n holds below n + 1
pub grows : (P : ℕ → Type 0) (n : ℕ) → ((j : ℕ) → j < n → P j) → P n → (j : ℕ) → j < n + 1 → P j
grows P n h here j lt = ⊎_elim (λ below. h j below) (λ above. let e : n ≡ j = omega arith in subst P e here) (cases_lt j n)
