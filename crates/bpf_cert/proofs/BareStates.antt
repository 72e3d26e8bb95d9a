-- A state that a label can have is what its entries say.
use Rattle.std.proofs.Common.{◌≡◌, ℕ, ◌+◌, zero, suc, true, List, [], ◌∷◌, ◌++◌, length, get_or, take, pos, Option, Some, None, refl, sym, ap, ap₂, ◌∙◌, arith, ℤ}
use Rattle.std.specs.Prelude.{◌&&◌, is_none, replicate}
use Rattle.std.specs.List.{list_all}
use Rattle.std.proofs.lemmas.Int.{ints}
use Rattle.bpf_insn.specs.declared.instruction.Reg.TheVariants.{R10}
use Rattle.bpf_state.specs.declared.known.RegState.{RegState}
use Rattle.bpf_state.specs.declared.known.RegState.TheVariants as reg
use Rattle.bpf_state.specs.declared.known.Area.{Area}
use Rattle.bpf_state.specs.declared.known.Area.TheVariants as area
use Rattle.bpf_state.specs.State.{AbstractState, IsAbstractState, register, is_frame, start_of, blank, no_tags}
use Rattle.bpf_state.specs.Bare.{bare}
use Rattle.bpf_cert.specs.Numeral.{int_eq}
use Rattle.bpf_cert.specs.Limits.{is_frame_end, is_canonical_state}
use Rattle.bpf_cert.proofs.Bools.{both_true}
use Rattle.bpf_cert.proofs.lines.LineValues.{pointer_to}

none_each : {A : Type 0} (n : ℕ) (ts : List (Option A)) → length ts ≡ n → list_all is_none ts ≡ true → replicate n None ≡ ts
none_each zero [] long e = refl
none_each zero (t ∷ ts) long e = absurd (omega (arith, long))
none_each (suc n) [] long e = absurd (omega (arith, long))
none_each (suc n) (None ∷ ts) long e = ap (λ l. None ∷ l) (none_each n ts (omega (arith, long)) e)
none_each (suc n) (Some t ∷ ts) long e = cc

last_behind : {A : Type 0} (n : ℕ) (xs : List A) (d : A) → length xs ≡ n + 1 → take n xs ++ get_or xs n d ∷ [] ≡ xs
last_behind n [] d long = absurd (omega (arith, long))
last_behind zero (x ∷ []) d long = refl
last_behind zero (x ∷ y ∷ xs) d long = absurd (omega (arith, long))
last_behind (suc n) (x ∷ xs) d long = ap (λ l. x ∷ l) (last_behind n xs d (omega (arith, long)))

at_end : (a : Area) (lo hi : ℤ) → (is_frame a && int_eq lo (pos 0) && int_eq hi (pos 0)) ≡ true → pointer_to a lo hi ≡ start_of area.Frame
at_end area.Context lo hi e = cc
at_end area.Frame lo hi e = ap₂ (pointer_to area.Frame) (grind (arith, ints)) (grind (arith, ints))

pub frame_end : (v : RegState) → is_frame_end v ≡ true → v ≡ reg.Ptr (start_of area.Frame)
frame_end reg.Any e = cc
frame_end (reg.Num n) e = cc
frame_end (reg.Ptr p) e = ap reg.Ptr (at_end p.area p.lo p.hi e)

pub bare_canonical : (s : AbstractState) → IsAbstractState s → is_canonical_state s ≡ true → bare s ≡ s
bare_canonical s is e =
    let parts = both_true (is_frame_end (register s R10) && list_all is_none s.register_tags) (list_all is_none s.slot_tags) e in
    let front = both_true (is_frame_end (register s R10)) (list_all is_none s.register_tags) parts.0 in
    let registers = ap (λ v. take 10 s.registers ++ v ∷ []) (sym (frame_end (register s R10) front.0)) ∙ last_behind 10 s.registers reg.Any is.register_count in
    let register_tags = none_each 11 s.register_tags is.register_tag_count front.1 in
    let slot_tags = none_each 64 s.slot_tags is.slot_tag_count parts.1 in
    ap (λ l. record blank { registers = l; slots = s.slots }) registers
    ∙ ap (λ l. record s { register_tags = l; slot_tags = no_tags 64 }) register_tags
    ∙ ap (λ l. record s { slot_tags = l }) slot_tags
