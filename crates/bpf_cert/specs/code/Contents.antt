-- What a line says of a place, as a slot's content.
use Rattle.std.specs.Prelude.{◌≡◌, Bool, true, false, ◌&&◌, ℤ}
use Rattle.bpf_cert.specs.Numeral.{SignedDigits, signed_number, is_plain_signed, digits_of_int}
use Rattle.bpf_cert.specs.Limits.{is_pointer_range, is_limited_slot}
use Rattle.bpf_cert.specs.Spelling.{is_unknown}
use Rattle.bpf_state.specs.State.{IsSlot}
use Rattle.bpf_state.specs.declared.known.SlotState.{SlotState}

-- something is said, and it is within the limits
pub record IsContent (s : SlotState) : Type 0 where
  pub slot : IsSlot s
  pub limited : is_limited_slot s ≡ true
  pub known : is_unknown s ≡ false

abbrev pub digits_of_bounds : ℤ × ℤ → SignedDigits × SignedDigits
digits_of_bounds b = (digits_of_int b.0, digits_of_int b.1)

abbrev pub are_plain_bounds : SignedDigits × SignedDigits → Bool
are_plain_bounds p = is_plain_signed p.0 && is_plain_signed p.1

abbrev pub are_limited_bounds : SignedDigits × SignedDigits → Bool
are_limited_bounds p = is_pointer_range (signed_number p.0) (signed_number p.1)
