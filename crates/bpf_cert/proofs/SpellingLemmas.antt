-- Texts put together.
use Rattle.std.proofs.Common.{◌≡◌, ℕ, List, [], ◌∷◌, ◌++◌, map, ℤ, pos, negsuc, refl, sym, ap, ◌∙◌, append_assoc, append-nil}
use Rattle.std.specs.List.{join_with_byte}
use Rattle.std.specs.Fmt.{signed_decimal}
use Rattle.bpf_cert.specs.Numeral.{SignedDigits, digits_of_int}
use Rattle.bpf_cert.specs.Line.{signed_text, range_text, content_text, term_text}
use Rattle.bpf_cert.specs.Spelling.{bounds_in, term_of}
use Rattle.bpf_cert.specs.code.SpellingParts.{terms_tail, area_text}
use Rattle.bpf_cert.specs.declared.certificate.Term.{Term}
use Rattle.bpf_state.specs.declared.known.Area.{Area}
use Rattle.bpf_state.specs.declared.known.Area.TheVariants as area

pub signed_text_digits : (z : ℤ) → signed_text (digits_of_int z) ≡ signed_decimal z
signed_text_digits (pos n) = refl
signed_text_digits (negsuc n) = refl

pub joined_terms : (front : List ℕ) (ts : List Term) → join_with_byte 32 (front ∷ map term_text (map term_of ts)) ≡ front ++ terms_tail ts
joined_terms front [] = sym (append-nil front)
joined_terms front (t ∷ ts) = ap (λ z. front ++ 32 ∷ z) (joined_terms (term_text (term_of t)) ts)

pub text_in : (a : Area) (lo hi : SignedDigits) → content_text (bounds_in a lo hi) ≡ area_text a ++ range_text (signed_text lo) (signed_text hi)
text_in area.Context lo hi = refl
text_in area.Frame lo hi = refl

pub ruleset texts = (append_assoc, signed_text_digits, joined_terms, text_in)
