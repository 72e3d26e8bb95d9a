-- Certificates of small programs, and their texts.
use Rattle.std.proofs.Common.{◌≡◌, ℕ, ◌-◌, ◌^◌, List, [], ◌∷◌, ◌++◌, None, refl, pos, negsuc}
use Rattle.std.specs.Prelude.{codes, replicate, neg_ℤ, set}
use Rattle.std.specs.Fmt.{digits}
use Rattle.bpf_cert.specs.View.{CertificateView}
use Rattle.bpf_cert.specs.Spelling.{certificate_text}
use Rattle.bpf_cert.specs.Limits.{IsCertificate}
use Rattle.bpf_insn.specs.declared.instruction.Reg.{Reg}
use Rattle.bpf_insn.specs.declared.instruction.Reg.TheVariants.{R6, R7}
use Rattle.bpf_num.specs.Number.{Number}
use Rattle.bpf_state.specs.declared.known.RegState.{RegState}
use Rattle.bpf_state.specs.declared.known.RegState.TheVariants as reg
use Rattle.bpf_state.specs.declared.known.Area.TheVariants as area
use Rattle.bpf_state.specs.declared.known.SlotState.{SlotState}
use Rattle.bpf_state.specs.declared.known.SlotState.TheVariants as slot
use Rattle.bpf_state.specs.State.{AbstractState, start_of}
use Rattle.bpf_cert.specs.declared.certificate.Term.{Term}
use Rattle.bpf_state.specs.declared.known.Place.TheVariants as place
use Rattle.bpf_cert.specs.declared.certificate.Measure.TheVariants as measure
use Rattle.bpf_cert.proofs.lines.LineValues.{pointer_to}

abbrev lines : List (List ℕ) → List ℕ
lines [] = []
lines (l ∷ ls) = l ++ 10 ∷ lines ls

abbrev from_to : ℕ → ℕ → Number
from_to lo hi = record { bits = record { value = 0; mask = 2 ^ 64 - 1 }; unsigned = record { lo = lo; hi = hi }; signed = record { lo = neg_ℤ (pos (2 ^ 63)); hi = pos (2 ^ 63 - 1) } }

abbrev top : Number
top = from_to 0 (2 ^ 64 - 1)

-- a state with these registers from r0 on
abbrev state : List RegState → List SlotState → AbstractState
state rs ss = record { registers = rs ++ reg.Ptr (start_of area.Frame) ∷ []; slots = ss; register_tags = replicate 11 None; slot_tags = replicate 64 None }

abbrev nothing : AbstractState
nothing = state (replicate 10 reg.Any) (replicate 64 (slot.Bytes 0))

abbrev smallest : CertificateView
smallest = record {
  version = 1;
  least = 0;
  most = 0;
  steps = 2;
  functions =
      record { first = 0; depth = 1; ret = top; labels = record { slot = 0; state = nothing; base = 2; terms = [] } ∷ [] } ∷ [];
}

smallest_text : certificate_text smallest ≡ lines (codes "bpfcert 1 0 2" ∷ codes "fn 0 1 *" ∷ codes "at 0 2" ∷ codes "end" ∷ [])
unfolding digits
smallest_text = refl

smallest_valid : IsCertificate smallest
smallest_valid = refl

abbrev down : ℕ → Reg → Term
down w r = record { weight = w; measure = measure.Down (place.Register r) }

abbrev nested : CertificateView
nested = record {
  version = 1;
  least = 0;
  most = 0;
  steps = 27;
  functions =
      record {
        first = 0;
        depth = 1;
        ret = top;
        labels =
            record { slot = 0; state = nothing; base = 27; terms = [] }
            ∷ record { slot = 1; state = state (set (replicate 10 reg.Any) 6 (reg.Num (from_to 1 3))) (replicate 64 (slot.Bytes 0)); base = 5; terms = down 7 R6 ∷ [] }
            ∷ record { slot = 2; state = state (set (set (replicate 10 reg.Any) 6 (reg.Num (from_to 1 3))) 7 (reg.Num (from_to 1 2))) (replicate 64 (slot.Bytes 0)); base = 0; terms = down 7 R6 ∷ down 2 R7 ∷ [] }
            ∷ [];
      } ∷ [];
}

nested_text : certificate_text nested ≡ lines (codes "bpfcert 1 0 27" ∷ codes "fn 0 1 *" ∷ codes "at 0 27" ∷ codes "at 1 5 +7*r6" ∷ codes "r6 u1..3" ∷ codes "at 2 0 +7*r6 +2*r7" ∷ codes "r6 u1..3" ∷ codes "r7 u1..2" ∷ codes "end" ∷ [])
unfolding digits
nested_text = refl

nested_valid : IsCertificate nested
nested_valid = refl

-- every kind of part
abbrev mixed : CertificateView
mixed = record {
  version = 1;
  least = 4096;
  most = 4096;
  steps = 4294967295;
  functions =
      record {
        first = 7;
        depth = 8;
        ret = record { bits = record { value = 4; mask = 3 }; unsigned = record { lo = 1; hi = 2 }; signed = record { lo = negsuc 4; hi = pos 7 } };
        labels =
            record {
              slot = 65535;
              base = 1099511627776;
              terms = record { weight = 1048576; measure = measure.Up (place.Slot 64) 18446744073709551615 } ∷ [];
              state = state (set (set (set (replicate 10 reg.Any) 0 (reg.Num top)) 1 (reg.Ptr (pointer_to area.Context (pos 0) (pos 12)))) 9 (reg.Ptr (pointer_to area.Frame (negsuc 511) (pos 0))))
                  (set (set (set (replicate 64 (slot.Bytes 0)) 0 (slot.Bytes 254)) 1 (slot.Word (from_to 5 5))) 63 (slot.Spilled (pointer_to area.Frame (negsuc 7) (negsuc 7))));
            } ∷ [];
      } ∷ [];
}

mixed_text : certificate_text mixed ≡ lines (codes "bpfcert 1 4096 4294967295" ∷ codes "fn 7 8 u1..2,s-5..7,k4/3" ∷ codes "at 65535 1099511627776 +1048576*(18446744073709551615-s64)"
    ∷ codes "r0 *" ∷ codes "r1 ctx0..12" ∷ codes "r9 fp-512..0" ∷ codes "s1 b254" ∷ codes "s2 u5..5" ∷ codes "s64 fp-8..-8" ∷ codes "end" ∷ [])
unfolding digits
mixed_text = refl

mixed_valid : IsCertificate mixed
mixed_valid = refl
