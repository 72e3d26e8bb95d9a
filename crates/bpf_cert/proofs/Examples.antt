-- Texts, and what is wrong with them: each line of the table is computed.
use Rattle.std.proofs.Common.{◌≡◌, ℕ, List, [], ◌∷◌, ◌++◌, take, Some, None, refl}
use Rattle.std.specs.Prelude.{codes, replicate}
use Rattle.bpf_streams.specs.Words.{behind}
use Rattle.bpf_cert.specs.Reading.{◌>>=◌, or_else, all_there, cut, numeral_in, end_in, signed_in, range_in, part_in, number_in, pointer_in, bytes_in, content_in, place_in, place_closed_in, measure_in, term_in, one_length_in, two_lengths_in, header_in, function_in, label_in, entry_in, line_of_fields, line_in}
use Rattle.bpf_cert.specs.Faults.{judged, rest_fault, fault_from, text_fault, complete, failed, unknown}
use Rattle.bpf_cert.specs.declared.error.CertError.TheVariants.{Syntax, NotCanonical, Limit, Read}

-- each line, and LF behind it
abbrev lines : List (List ℕ) → List ℕ
lines [] = []
lines (l ∷ ls) = l ++ 10 ∷ lines ls

-- what the examples compute with
unfoldable all_words : Unit {0}
unfolding ◌>>=◌ or_else all_there cut behind numeral_in end_in signed_in range_in part_in number_in pointer_in bytes_in content_in place_in place_closed_in measure_in term_in one_length_in two_lengths_in header_in function_in label_in entry_in line_of_fields line_in judged rest_fault fault_from text_fault
all_words = tt

smallest : text_fault complete (lines (codes "bpfcert 1 0 2" ∷ codes "fn 0 1 *" ∷ codes "at 0 2" ∷ codes "end" ∷ [])) ≡ None
unfolding all_words
smallest = refl

loop : text_fault complete (lines (codes "bpfcert 1 0 23" ∷ codes "fn 0 1 *" ∷ codes "at 0 23" ∷ codes "at 1 2 +2*r6" ∷ codes "r6 u1..10" ∷ codes "end" ∷ [])) ≡ None
unfolding all_words
loop = refl

rising : text_fault complete (lines (codes "bpfcert 1 0 13" ∷ codes "fn 0 1 *" ∷ codes "at 0 13" ∷ codes "at 1 4 +2*(4-r6)" ∷ codes "r6 u0..4" ∷ codes "end" ∷ [])) ≡ None
unfolding all_words
rising = refl

nested : text_fault complete (lines (codes "bpfcert 1 0 27" ∷ codes "fn 0 1 *" ∷ codes "at 0 27" ∷ codes "at 1 5 +7*r6" ∷ codes "r6 u1..3" ∷ codes "at 2 0 +7*r6 +2*r7" ∷ codes "r6 u1..3" ∷ codes "r7 u1..2" ∷ codes "end" ∷ [])) ≡ None
unfolding all_words
nested = refl

two_functions : text_fault complete (lines (codes "bpfcert 1 8 9" ∷ codes "fn 0 2 *" ∷ codes "at 0 9" ∷ codes "r1 ctx0..0" ∷ codes "r2 *" ∷ codes "fn 6 1 u0..7" ∷ codes "at 6 3" ∷ codes "r1 *" ∷ codes "end" ∷ [])) ≡ None
unfolding all_words
two_functions = refl

all_kinds : text_fault complete (lines (codes "bpfcert 1 4096 4294967295" ∷ codes "fn 0 8 u1..2,s-5..7,k4/3" ∷ codes "at 0 0" ∷ codes "r0 k1/2" ∷ codes "r1 fp-512..0" ∷ codes "r9 s-1..1" ∷ codes "s1 b254" ∷ codes "s2 ctx0..0" ∷ codes "s3 *" ∷ codes "s64 fp-8..-8" ∷ codes "end" ∷ [])) ≡ None
unfolding all_words
all_kinds = refl

leading_zero : text_fault complete (lines (codes "bpfcert 1 0 2" ∷ codes "fn 0 1 *" ∷ codes "at 0 02" ∷ codes "end" ∷ [])) ≡ Some (NotCanonical 3)
unfolding all_words
leading_zero = refl

no_steps : text_fault complete (lines (codes "bpfcert 1 0 0" ∷ codes "fn 0 1 *" ∷ codes "at 0 2" ∷ codes "end" ∷ [])) ≡ Some (Limit 1)
unfolding all_words
no_steps = refl

no_end : text_fault complete (lines (codes "bpfcert 1 0 2" ∷ codes "fn 0 1 *" ∷ codes "at 0 2" ∷ [])) ≡ Some (Syntax 4)
unfolding all_words
no_end = refl

no_text : text_fault complete [] ≡ Some (Syntax 1)
unfolding all_words
no_text = refl

cut_at_12 : text_fault complete (take 12 (lines (codes "bpfcert 1 0 2" ∷ codes "fn 0 1 *" ∷ codes "at 0 2" ∷ codes "end" ∷ []))) ≡ Some (Syntax 1)
unfolding all_words
cut_at_12 = refl

cut_at_14 : text_fault complete (take 14 (lines (codes "bpfcert 1 0 2" ∷ codes "fn 0 1 *" ∷ codes "at 0 2" ∷ codes "end" ∷ []))) ≡ Some (Syntax 2)
unfolding all_words
cut_at_14 = refl

cut_at_33 : text_fault complete (take 33 (lines (codes "bpfcert 1 0 2" ∷ codes "fn 0 1 *" ∷ codes "at 0 2" ∷ codes "end" ∷ []))) ≡ Some (Syntax 4)
unfolding all_words
cut_at_33 = refl

byte_behind : text_fault complete ((lines (codes "bpfcert 1 0 2" ∷ codes "fn 0 1 *" ∷ codes "at 0 2" ∷ codes "end" ∷ [])) ++ codes "x") ≡ Some (Syntax 5)
unfolding all_words
byte_behind = refl

line_behind : text_fault complete (lines (codes "bpfcert 1 0 2" ∷ codes "fn 0 1 *" ∷ codes "at 0 2" ∷ codes "end" ∷ codes "end" ∷ [])) ≡ Some (Syntax 5)
unfolding all_words
line_behind = refl

empty_line_behind : text_fault complete (lines (codes "bpfcert 1 0 2" ∷ codes "fn 0 1 *" ∷ codes "at 0 2" ∷ codes "end" ∷ codes "" ∷ [])) ≡ Some (Syntax 5)
unfolding all_words
empty_line_behind = refl

failed_at_14 : text_fault failed (take 14 (lines (codes "bpfcert 1 0 2" ∷ codes "fn 0 1 *" ∷ codes "at 0 2" ∷ codes "end" ∷ []))) ≡ Some (Read 2)
unfolding all_words
failed_at_14 = refl

failed_at_once : text_fault failed [] ≡ Some (Read 1)
unfolding all_words
failed_at_once = refl

failed_behind : text_fault failed (lines (codes "bpfcert 1 0 2" ∷ codes "fn 0 1 *" ∷ codes "at 0 2" ∷ codes "end" ∷ [])) ≡ Some (Read 5)
unfolding all_words
failed_behind = refl

failed_behind_a_byte : text_fault failed ((lines (codes "bpfcert 1 0 2" ∷ codes "fn 0 1 *" ∷ codes "at 0 2" ∷ codes "end" ∷ [])) ++ codes "x") ≡ Some (Syntax 5)
unfolding all_words
failed_behind_a_byte = refl

failed_behind_a_long_line : text_fault failed ((lines (codes "bpfcert 1 0 2" ∷ codes "fn 0 1 *" ∷ codes "at 0 2" ∷ codes "end" ∷ [])) ++ replicate 300 120) ≡ Some (Syntax 5)
unfolding all_words
failed_behind_a_long_line = refl

failed_in_a_long_line : text_fault failed ((lines (codes "bpfcert 1 0 2" ∷ [])) ++ replicate 257 120) ≡ Some (Limit 2)
unfolding all_words
failed_in_a_long_line = refl

failed_in_a_full_line : text_fault failed ((lines (codes "bpfcert 1 0 2" ∷ [])) ++ replicate 256 120) ≡ Some (Read 2)
unfolding all_words
failed_in_a_full_line = refl

long_line : text_fault complete ((lines (codes "bpfcert 1 0 2" ∷ [])) ++ (replicate 257 48 ++ codes "x")) ≡ Some (Limit 2)
unfolding all_words
long_line = refl

full_line : text_fault complete ((lines (codes "bpfcert 1 0 2" ∷ [])) ++ (replicate 256 48)) ≡ Some (Syntax 2)
unfolding all_words
full_line = refl

unknown_start : text_fault unknown (take 20 (lines (codes "bpfcert 1 0 2" ∷ codes "fn 0 1 *" ∷ codes "at 0 2" ∷ codes "end" ∷ []))) ≡ None
unfolding all_words
unknown_start = refl

unknown_fault : text_fault unknown (lines (codes "bpfcert 1 0 2" ∷ codes "fx" ∷ [])) ≡ Some (Syntax 2)
unfolding all_words
unknown_fault = refl

failed_after_fault : text_fault failed ((lines (codes "bpfcert 1 0 2" ∷ codes "fx" ∷ [])) ++ codes "fn") ≡ Some (Syntax 2)
unfolding all_words
failed_after_fault = refl

needless_zero_of_register : text_fault complete (lines (codes "bpfcert 1 0 2" ∷ codes "fn 0 1 *" ∷ codes "at 0 2" ∷ codes "r03 *" ∷ codes "end" ∷ [])) ≡ Some (NotCanonical 4)
unfolding all_words
needless_zero_of_register = refl

register_10 : text_fault complete (lines (codes "bpfcert 1 0 2" ∷ codes "fn 0 1 *" ∷ codes "at 0 2" ∷ codes "r10 *" ∷ codes "end" ∷ [])) ≡ Some (Limit 4)
unfolding all_words
register_10 = refl

register_10_any : text_fault complete (lines (codes "bpfcert 1 0 2" ∷ codes "fn 0 1 *" ∷ codes "at 0 2" ∷ codes "r10 any" ∷ codes "end" ∷ [])) ≡ Some (NotCanonical 4)
unfolding all_words
register_10_any = refl

register_with_bytes : text_fault complete (lines (codes "bpfcert 1 0 2" ∷ codes "fn 0 1 *" ∷ codes "at 0 2" ∷ codes "r3 b5" ∷ codes "end" ∷ [])) ≡ Some (Syntax 4)
unfolding all_words
register_with_bytes = refl

slot_0 : text_fault complete (lines (codes "bpfcert 1 0 2" ∷ codes "fn 0 1 *" ∷ codes "at 0 2" ∷ codes "s0 *" ∷ codes "end" ∷ [])) ≡ Some (Limit 4)
unfolding all_words
slot_0 = refl

slot_65 : text_fault complete (lines (codes "bpfcert 1 0 2" ∷ codes "fn 0 1 *" ∷ codes "at 0 2" ∷ codes "s65 *" ∷ codes "end" ∷ [])) ≡ Some (Limit 4)
unfolding all_words
slot_65 = refl

no_bytes : text_fault complete (lines (codes "bpfcert 1 0 2" ∷ codes "fn 0 1 *" ∷ codes "at 0 2" ∷ codes "s1 b0" ∷ codes "end" ∷ [])) ≡ Some (NotCanonical 4)
unfolding all_words
no_bytes = refl

zeros_of_bytes : text_fault complete (lines (codes "bpfcert 1 0 2" ∷ codes "fn 0 1 *" ∷ codes "at 0 2" ∷ codes "s1 b00" ∷ codes "end" ∷ [])) ≡ Some (NotCanonical 4)
unfolding all_words
zeros_of_bytes = refl

all_bytes : text_fault complete (lines (codes "bpfcert 1 0 2" ∷ codes "fn 0 1 *" ∷ codes "at 0 2" ∷ codes "s1 b255" ∷ codes "end" ∷ [])) ≡ Some (Limit 4)
unfolding all_words
all_bytes = refl

any_register : text_fault complete (lines (codes "bpfcert 1 0 2" ∷ codes "fn 0 1 *" ∷ codes "at 0 2" ∷ codes "r3 any" ∷ codes "end" ∷ [])) ≡ Some (NotCanonical 4)
unfolding all_words
any_register = refl

any_slot : text_fault complete (lines (codes "bpfcert 1 0 2" ∷ codes "fn 0 1 *" ∷ codes "at 0 2" ∷ codes "s1 any" ∷ codes "end" ∷ [])) ≡ Some (NotCanonical 4)
unfolding all_words
any_slot = refl

minus_zero : text_fault complete (lines (codes "bpfcert 1 0 2" ∷ codes "fn 0 1 *" ∷ codes "at 0 2" ∷ codes "r3 s-0..5" ∷ codes "end" ∷ [])) ≡ Some (NotCanonical 4)
unfolding all_words
minus_zero = refl

minus_unsigned : text_fault complete (lines (codes "bpfcert 1 0 2" ∷ codes "fn 0 1 *" ∷ codes "at 0 2" ∷ codes "r3 u-1..5" ∷ codes "end" ∷ [])) ≡ Some (Syntax 4)
unfolding all_words
minus_unsigned = refl

minus_register : text_fault complete (lines (codes "bpfcert 1 0 2" ∷ codes "fn 0 1 *" ∷ codes "at 0 2" ∷ codes "r-3 *" ∷ codes "end" ∷ [])) ≡ Some (Syntax 4)
unfolding all_words
minus_register = refl

top_unsigned : text_fault complete (lines (codes "bpfcert 1 0 2" ∷ codes "fn 0 1 *" ∷ codes "at 0 2" ∷ codes "r3 u0..18446744073709551615" ∷ codes "end" ∷ [])) ≡ Some (NotCanonical 4)
unfolding all_words
top_unsigned = refl

top_signed : text_fault complete (lines (codes "bpfcert 1 0 2" ∷ codes "fn 0 1 *" ∷ codes "at 0 2" ∷ codes "r3 s-9223372036854775808..9223372036854775807" ∷ codes "end" ∷ [])) ≡ Some (NotCanonical 4)
unfolding all_words
top_signed = refl

top_bits : text_fault complete (lines (codes "bpfcert 1 0 2" ∷ codes "fn 0 1 *" ∷ codes "at 0 2" ∷ codes "r3 k0/18446744073709551615" ∷ codes "end" ∷ [])) ≡ Some (NotCanonical 4)
unfolding all_words
top_bits = refl

beyond_top_signed : text_fault complete (lines (codes "bpfcert 1 0 2" ∷ codes "fn 0 1 *" ∷ codes "at 0 2" ∷ codes "r3 s-9223372036854775809..9223372036854775807" ∷ codes "end" ∷ [])) ≡ Some (Limit 4)
unfolding all_words
beyond_top_signed = refl

shared_bit : text_fault complete (lines (codes "bpfcert 1 0 2" ∷ codes "fn 0 1 *" ∷ codes "at 0 2" ∷ codes "r3 k1/1" ∷ codes "end" ∷ [])) ≡ Some (Limit 4)
unfolding all_words
shared_bit = refl

crossed : text_fault complete (lines (codes "bpfcert 1 0 2" ∷ codes "fn 0 1 *" ∷ codes "at 0 2" ∷ codes "r3 u5..4" ∷ codes "end" ∷ [])) ≡ Some (Limit 4)
unfolding all_words
crossed = refl

crossed_and_zero : text_fault complete (lines (codes "bpfcert 1 0 2" ∷ codes "fn 0 1 *" ∷ codes "at 0 2" ∷ codes "r3 u05..4" ∷ codes "end" ∷ [])) ≡ Some (NotCanonical 4)
unfolding all_words
crossed_and_zero = refl

parts_out_of_order : text_fault complete (lines (codes "bpfcert 1 0 2" ∷ codes "fn 0 1 *" ∷ codes "at 0 2" ∷ codes "r3 s0..4,u0..4" ∷ codes "end" ∷ [])) ≡ Some (NotCanonical 4)
unfolding all_words
parts_out_of_order = refl

part_twice : text_fault complete (lines (codes "bpfcert 1 0 2" ∷ codes "fn 0 1 *" ∷ codes "at 0 2" ∷ codes "r3 u0..4,u0..4" ∷ codes "end" ∷ [])) ≡ Some (NotCanonical 4)
unfolding all_words
part_twice = refl

part_missing : text_fault complete (lines (codes "bpfcert 1 0 2" ∷ codes "fn 0 1 *" ∷ codes "at 0 2" ∷ codes "r3 u0..4," ∷ codes "end" ∷ [])) ≡ Some (Syntax 4)
unfolding all_words
part_missing = refl

top_with_part : text_fault complete (lines (codes "bpfcert 1 0 2" ∷ codes "fn 0 1 *" ∷ codes "at 0 2" ∷ codes "r3 *,u0..4" ∷ codes "end" ∷ [])) ≡ Some (Syntax 4)
unfolding all_words
top_with_part = refl

three_dots : text_fault complete (lines (codes "bpfcert 1 0 2" ∷ codes "fn 0 1 *" ∷ codes "at 0 2" ∷ codes "r3 u0...4" ∷ codes "end" ∷ [])) ≡ Some (Syntax 4)
unfolding all_words
three_dots = refl

two_spaces : text_fault complete (lines (codes "bpfcert 1 0 2" ∷ codes "fn 0 1 *" ∷ codes "at 0 2" ∷ codes "r3  *" ∷ codes "end" ∷ [])) ≡ Some (Syntax 4)
unfolding all_words
two_spaces = refl

space_behind : text_fault complete (lines (codes "bpfcert 1 0 2" ∷ codes "fn 0 1 *" ∷ codes "at 0 2" ∷ codes "r3 * " ∷ codes "end" ∷ [])) ≡ Some (Syntax 4)
unfolding all_words
space_behind = refl

pointer_far : text_fault complete (lines (codes "bpfcert 1 0 2" ∷ codes "fn 0 1 *" ∷ codes "at 0 2" ∷ codes "r3 ctx0..2147483648" ∷ codes "end" ∷ [])) ≡ None
unfolding all_words
pointer_far = refl

pointer_farther : text_fault complete (lines (codes "bpfcert 1 0 2" ∷ codes "fn 0 1 *" ∷ codes "at 0 2" ∷ codes "r3 ctx0..2147483649" ∷ codes "end" ∷ [])) ≡ Some (Limit 4)
unfolding all_words
pointer_farther = refl

pointer_low : text_fault complete (lines (codes "bpfcert 1 0 2" ∷ codes "fn 0 1 *" ∷ codes "at 0 2" ∷ codes "r3 fp-2147483648..0" ∷ codes "end" ∷ [])) ≡ None
unfolding all_words
pointer_low = refl

pointer_lower : text_fault complete (lines (codes "bpfcert 1 0 2" ∷ codes "fn 0 1 *" ∷ codes "at 0 2" ∷ codes "r3 fp-2147483649..0" ∷ codes "end" ∷ [])) ≡ Some (Limit 4)
unfolding all_words
pointer_lower = refl

second_header : text_fault complete (lines (codes "bpfcert 1 0 2" ∷ codes "fn 0 1 *" ∷ codes "at 0 2" ∷ codes "bpfcert 1 0 2" ∷ codes "end" ∷ [])) ≡ Some (Syntax 4)
unfolding all_words
second_header = refl

bare_fn : text_fault complete (lines (codes "bpfcert 1 0 2" ∷ codes "fn 0 1 *" ∷ codes "fn 4 1 *" ∷ codes "end" ∷ [])) ≡ Some (Limit 3)
unfolding all_words
bare_fn = refl

bare_end : text_fault complete (lines (codes "bpfcert 1 0 2" ∷ codes "fn 0 1 *" ∷ codes "end" ∷ [])) ≡ Some (Limit 3)
unfolding all_words
bare_end = refl

no_function : text_fault complete (lines (codes "bpfcert 1 0 2" ∷ codes "end" ∷ [])) ≡ Some (Limit 2)
unfolding all_words
no_function = refl

bare_register : text_fault complete (lines (codes "bpfcert 1 0 2" ∷ codes "fn 0 1 *" ∷ codes "r1 *" ∷ codes "end" ∷ [])) ≡ Some (Syntax 3)
unfolding all_words
bare_register = refl

label_before_function : text_fault complete (lines (codes "bpfcert 1 0 2" ∷ codes "at 0 2" ∷ codes "end" ∷ [])) ≡ Some (Syntax 2)
unfolding all_words
label_before_function = refl

no_header : text_fault complete (lines (codes "fn 0 1 *" ∷ codes "end" ∷ [])) ≡ Some (Syntax 1)
unfolding all_words
no_header = refl

header_zero : text_fault complete (lines (codes "bpfcert 01 0 2" ∷ codes "end" ∷ [])) ≡ Some (Syntax 1)
unfolding all_words
header_zero = refl

header_version : text_fault complete (lines (codes "bpfcert 3 0 0 2" ∷ codes "end" ∷ [])) ≡ Some (Syntax 1)
unfolding all_words
header_version = refl

header_long : text_fault complete (lines (codes "bpfcert 1 4097 2" ∷ codes "end" ∷ [])) ≡ Some (Limit 1)
unfolding all_words
header_long = refl

first_again : text_fault complete (lines (codes "bpfcert 1 0 2" ∷ codes "fn 0 1 *" ∷ codes "at 0 2" ∷ codes "fn 0 1 *" ∷ codes "end" ∷ [])) ≡ Some (NotCanonical 4)
unfolding all_words
first_again = refl

first_too_great : text_fault complete (lines (codes "bpfcert 1 0 2" ∷ codes "fn 0 1 *" ∷ codes "at 0 2" ∷ codes "fn 65536 1 *" ∷ codes "end" ∷ [])) ≡ Some (Limit 4)
unfolding all_words
first_too_great = refl

depth_0 : text_fault complete (lines (codes "bpfcert 1 0 2" ∷ codes "fn 0 1 *" ∷ codes "at 0 2" ∷ codes "fn 4 0 *" ∷ codes "end" ∷ [])) ≡ Some (Limit 4)
unfolding all_words
depth_0 = refl

ret_any : text_fault complete (lines (codes "bpfcert 1 0 2" ∷ codes "fn 0 1 *" ∷ codes "at 0 2" ∷ codes "fn 4 1 any" ∷ codes "end" ∷ [])) ≡ Some (Syntax 4)
unfolding all_words
ret_any = refl

slot_again : text_fault complete (lines (codes "bpfcert 1 0 2" ∷ codes "fn 0 1 *" ∷ codes "at 0 2" ∷ codes "at 0 2" ∷ codes "end" ∷ [])) ≡ Some (NotCanonical 4)
unfolding all_words
slot_again = refl

register_behind_slot : text_fault complete (lines (codes "bpfcert 1 0 2" ∷ codes "fn 0 1 *" ∷ codes "at 0 2" ∷ codes "s1 *" ∷ codes "r1 *" ∷ codes "end" ∷ [])) ≡ Some (NotCanonical 5)
unfolding all_words
register_behind_slot = refl

register_again : text_fault complete (lines (codes "bpfcert 1 0 2" ∷ codes "fn 0 1 *" ∷ codes "at 0 2" ∷ codes "r1 *" ∷ codes "r1 *" ∷ codes "end" ∷ [])) ≡ Some (NotCanonical 5)
unfolding all_words
register_again = refl

register_in_next_label : text_fault complete (lines (codes "bpfcert 1 0 2" ∷ codes "fn 0 1 *" ∷ codes "at 0 2" ∷ codes "r1 *" ∷ codes "at 1 2" ∷ codes "r1 *" ∷ codes "end" ∷ [])) ≡ None
unfolding all_words
register_in_next_label = refl

slot_in_next_function : text_fault complete (lines (codes "bpfcert 1 0 2" ∷ codes "fn 0 1 *" ∷ codes "at 0 2" ∷ codes "at 5 1" ∷ codes "fn 4 1 *" ∷ codes "at 0 2" ∷ codes "end" ∷ [])) ≡ None
unfolding all_words
slot_in_next_function = refl

terms_out_of_order : text_fault complete (lines (codes "bpfcert 1 0 2" ∷ codes "fn 0 1 *" ∷ codes "at 0 2" ∷ codes "at 5 0 +1*s1 +1*r1" ∷ codes "end" ∷ [])) ≡ Some (NotCanonical 4)
unfolding all_words
terms_out_of_order = refl

term_twice : text_fault complete (lines (codes "bpfcert 1 0 2" ∷ codes "fn 0 1 *" ∷ codes "at 0 2" ∷ codes "at 5 0 +1*r1 +2*(9-r1)" ∷ codes "end" ∷ [])) ≡ Some (NotCanonical 4)
unfolding all_words
term_twice = refl

five_terms : text_fault complete (lines (codes "bpfcert 1 0 2" ∷ codes "fn 0 1 *" ∷ codes "at 0 2" ∷ codes "at 5 0 +1*r1 +1*r2 +1*r3 +1*r4 +1*r5" ∷ codes "end" ∷ [])) ≡ Some (Limit 4)
unfolding all_words
five_terms = refl

five_terms_unordered : text_fault complete (lines (codes "bpfcert 1 0 2" ∷ codes "fn 0 1 *" ∷ codes "at 0 2" ∷ codes "at 5 0 +1*r1 +1*r2 +1*r3 +1*r5 +1*r4" ∷ codes "end" ∷ [])) ≡ Some (NotCanonical 4)
unfolding all_words
five_terms_unordered = refl

heavy : text_fault complete (lines (codes "bpfcert 1 0 2" ∷ codes "fn 0 1 *" ∷ codes "at 0 2" ∷ codes "at 5 0 +1048577*r1" ∷ codes "end" ∷ [])) ≡ Some (Limit 4)
unfolding all_words
heavy = refl

weightless : text_fault complete (lines (codes "bpfcert 1 0 2" ∷ codes "fn 0 1 *" ∷ codes "at 0 2" ∷ codes "at 5 0 +0*r1" ∷ codes "end" ∷ [])) ≡ Some (Limit 4)
unfolding all_words
weightless = refl

term_of_register_10 : text_fault complete (lines (codes "bpfcert 1 0 2" ∷ codes "fn 0 1 *" ∷ codes "at 0 2" ∷ codes "at 5 0 +1*r10" ∷ codes "end" ∷ [])) ≡ Some (Limit 4)
unfolding all_words
term_of_register_10 = refl

great_places_rise : text_fault complete (lines (codes "bpfcert 1 0 2" ∷ codes "fn 0 1 *" ∷ codes "at 0 2" ∷ codes "at 5 0 +1*r99999999999999999999999 +1*r999999999999999999999991" ∷ codes "end" ∷ [])) ≡ Some (Limit 4)
unfolding all_words
great_places_rise = refl

great_places_fall : text_fault complete (lines (codes "bpfcert 1 0 2" ∷ codes "fn 0 1 *" ∷ codes "at 0 2" ∷ codes "at 5 0 +1*r999999999999999999999991 +1*r99999999999999999999999" ∷ codes "end" ∷ [])) ≡ Some (NotCanonical 4)
unfolding all_words
great_places_fall = refl

limit_full : text_fault complete (lines (codes "bpfcert 1 0 2" ∷ codes "fn 0 1 *" ∷ codes "at 0 2" ∷ codes "at 5 0 +1*(18446744073709551615-r1)" ∷ codes "end" ∷ [])) ≡ None
unfolding all_words
limit_full = refl

limit_too_great : text_fault complete (lines (codes "bpfcert 1 0 2" ∷ codes "fn 0 1 *" ∷ codes "at 0 2" ∷ codes "at 5 0 +1*(18446744073709551616-r1)" ∷ codes "end" ∷ [])) ≡ Some (Limit 4)
unfolding all_words
limit_too_great = refl

limit_negative : text_fault complete (lines (codes "bpfcert 1 0 2" ∷ codes "fn 0 1 *" ∷ codes "at 0 2" ∷ codes "at 5 0 +1*(-5-r1)" ∷ codes "end" ∷ [])) ≡ Some (Syntax 4)
unfolding all_words
limit_negative = refl

not_closed : text_fault complete (lines (codes "bpfcert 1 0 2" ∷ codes "fn 0 1 *" ∷ codes "at 0 2" ∷ codes "at 5 0 +1*(5-r1" ∷ codes "end" ∷ [])) ≡ Some (Syntax 4)
unfolding all_words
not_closed = refl

closed_twice : text_fault complete (lines (codes "bpfcert 1 0 2" ∷ codes "fn 0 1 *" ∷ codes "at 0 2" ∷ codes "at 5 0 +1*(5-r1))" ∷ codes "end" ∷ [])) ≡ Some (Syntax 4)
unfolding all_words
closed_twice = refl

base_full : text_fault complete (lines (codes "bpfcert 1 0 2" ∷ codes "fn 0 1 *" ∷ codes "at 0 2" ∷ codes "at 5 1099511627776" ∷ codes "end" ∷ [])) ≡ None
unfolding all_words
base_full = refl

base_too_great : text_fault complete (lines (codes "bpfcert 1 0 2" ∷ codes "fn 0 1 *" ∷ codes "at 0 2" ∷ codes "at 5 1099511627777" ∷ codes "end" ∷ [])) ≡ Some (Limit 4)
unfolding all_words
base_too_great = refl

end_with_field : text_fault complete (lines (codes "bpfcert 1 0 2" ∷ codes "fn 0 1 *" ∷ codes "at 0 2" ∷ codes "end 0" ∷ codes "end" ∷ [])) ≡ Some (Syntax 4)
unfolding all_words
end_with_field = refl

end_with_space : text_fault complete (lines (codes "bpfcert 1 0 2" ∷ codes "fn 0 1 *" ∷ codes "at 0 2" ∷ codes "end " ∷ codes "end" ∷ [])) ≡ Some (Syntax 4)
unfolding all_words
end_with_space = refl
